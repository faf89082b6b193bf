-- The course of a loop turn, part by part, and that each part only appends reports and packets.
use Rattle.std.proofs.Common.{◌≡◌, ◌≤◌, ◌<◌, ℕ, suc, Bool, true, false, Option, None, Some, List, [], ◌∷◌, ◌++◌, refl, sym, ap, ◌∙◌, arith}
use Rattle.std.specs.Prelude.{nat_lt, nat_le, if◌then◌else◌}
use Rattle.std.proofs.lemmas.Bool.Decides.{nat_tests}
use Rattle.std.proofs.lemmas.List.{append-nil}
use Rattle.homa_plain.specs.declared.settings.Settings.{Settings}
use Rattle.homa_plain.specs.Rules.{Answer}
use Rattle.homa_plain.specs.World.{World}
use Rattle.homa_plain.specs.Answers.{answering}
use Rattle.node_runs.specs.Script.{Setup, Calls}
use Rattle.node_runs.specs.Course.{Report, Datagram, Receive, Node, Course, GoesOn, Stops, ◌>>=◌, End, Ended, StalledAt, run_of, datagrams}
use Rattle.node_runs.specs.Course.{clock_stands, starts, hosts_act, locals, ends, loop_turn, loop_turns}
use Rattle.node_turns.specs.Acting.{node_at, Begins, clock_reports}
use Rattle.node_turns.proofs.Grows.{grown_on, begins_self, begins_then, hosts_grow}
use Rattle.node_script.specs.Standing.{Standing}
use Rattle.homa_node.specs.declared.ahead.NextCall.{NextCall}
use Rattle.homa_node.specs.declared.ahead.NextCall.TheVariants.{Unread, Call, Ended as NoCall}
use Rattle.homa_node.specs.Coming.{calls_ahead, IsIdle}
use Rattle.node_script.specs.Setup.{call_seen}
use Rattle.node_script.specs.Calls.{calls_left}
use Rattle.homa_node.specs.Starting.{starting}
use Rattle.homa_node.specs.Served.{BeginsRun}
use Rattle.homa_node.specs.Progress.{stalls, behind_turns, behind_calls}
use Rattle.homa_node.proofs.Starting.{starts_later, held_same}
use Rattle.homa_node.proofs.CallCuts.{starts_grow}

-- three parts one after the other
then_assoc : (c : Course) (f g : Node → Course) → (c >>= f) >>= g ≡ c >>= (λ n. f n >>= g)
then_assoc (GoesOn node) f g = refl
then_assoc (Stops node end) f g = refl

-- the run of a course that begins so
pub begins_run : (s : Settings) (c : Course) (reports : List Report) (sent : List Datagram) → Begins s c reports sent → BeginsRun (run_of s c) reports sent
begins_run s (GoesOn node) reports sent b = record { more = b.more; later = b.later; reports_are = b.told; sent_is = b.grown }
begins_run s (Stops node end) reports sent b = record { more = b.more; later = b.later; reports_are = b.told; sent_is = b.grown }

module _ (setup : Setup) where
  -- ---- what a loop turn does

  -- the calls that are due are started, and then the hosts act
  abbrev pub starts_calls : Calls → ℕ → ℕ → List ℕ → Node → Course
  starts_calls held n now on node = starting setup.settings held [] node.receives node >>= behind_calls setup n now on

  -- loop turn n begins, at this tick
  pub turn_begins : (held : Calls) (n now : ℕ) (on : List ℕ) (w : World) (reports : List Report) (calls : Calls) (later : List Answer)
      (next : List Receive)
      → run_of setup.settings (loop_turns setup n (now ∷ on) (node_at (answering later w) reports calls next))
      ≡ run_of setup.settings (starts_calls held n now on (node_at (answering later (record w { clock = now })) (reports ++ clock_reports n now w) calls next))
  unfolding loop_turns loop_turn
  turn_begins held n now on w reports calls later next =
      let at = clock_stands n now (node_at (answering later w) reports calls next) in
      ap (run_of setup.settings) (then_assoc (starts setup.settings calls.refused calls.calls at)
      (λ m. hosts_act setup.settings (locals setup) m >>= ends setup n now) (loop_turns setup (suc n) on))
      ∙ held_same setup.settings (behind_calls setup n now on) calls.refused calls.calls at calls held

  -- no call is due
  pub calls_wait : (held : Calls) (a : NextCall) (r : Standing) (more : List ℕ) (w : World) (reports : List Report) (later : List Answer)
      (next held2 : List Receive) → IsIdle a w.clock
      → starting setup.settings held [] next (node_at (answering later w) reports (calls_ahead setup a r more) held2)
      ≡ GoesOn (node_at (answering later w) reports (calls_ahead setup a r more) next)
  calls_wait held Unread r more w reports later next held2 idle = absurd idle
  calls_wait held (Call c) r more w reports later next held2 idle =
      let wait : nat_lt w.clock c.tick ≡ true = grind (arith, nat_tests) in
      starts_later setup.settings (calls_left setup r.least r.place more).refused (call_seen c r.operand) (calls_left setup r.least r.place more).calls
      (node_at (answering later w) reports held next) wait
  calls_wait held NoCall r more w reports later next held2 idle = refl

  by_test : (a b : Bool) (node : Node) (x y : Option End) → (a ≡ true) → (if a then Stops node x else if b then Stops node y else GoesOn node) ≡ Stops node x
  by_test true b node x y e = refl
  by_test false b node x y e = absurd cc

  by_other : (a b : Bool) (node : Node) (x y : Option End) → (a ≡ false)
      → (if a then Stops node x else if b then Stops node y else GoesOn node) ≡ (if b then Stops node y else GoesOn node)
  by_other true b node x y e = absurd cc
  by_other false b node x y e = refl

  -- the end has come
  pub end_comes : (n now : ℕ) (node : Node) → setup.end ≤ now → ends setup n now node ≡ Stops node (Some (Ended n))
  end_comes n now node l = let e : nat_le setup.end now
      ≡ true = grind (arith, nat_tests) in by_test (nat_le setup.end now) (nat_le setup.turns n) node (Some (Ended n)) (Some (StalledAt n now)) e

  -- it hasn't
  pub end_waits : (n now : ℕ) (node : Node) → now < setup.end → ends setup n now node ≡ stalls setup n now node
  end_waits n now node l = let e : nat_le setup.end now
      ≡ false = grind (arith, nat_tests) in by_other (nat_le setup.end now) (nat_le setup.turns n) node (Some (Ended n)) (Some (StalledAt n now)) e

  -- a further loop turn may be taken
  pub turn_comes : (n now : ℕ) (on : List ℕ) (node : Node) → n < setup.turns → behind_turns setup n now on node ≡ loop_turns setup (suc n) on node
  turn_comes n now on node l =
      let e : nat_le setup.turns n ≡ false = grind (arith, nat_tests) in
      ap (λ t. (if t then Stops node (Some (StalledAt n now)) else GoesOn node) >>= loop_turns setup (suc n) on) e

  -- no further one may
  pub turns_end : (n now : ℕ) (on : List ℕ) (node : Node) → setup.turns ≤ n → behind_turns setup n now on node ≡ Stops node (Some (StalledAt n now))
  turns_end n now on node l =
      let e : nat_le setup.turns n ≡ true = grind (arith, nat_tests) in
      ap (λ t. (if t then Stops node (Some (StalledAt n now)) else GoesOn node) >>= loop_turns setup (suc n) on) e

  -- ---- that it only appends

  by_tests : (a b : Bool) (node : Node) (x y : Option End)
      → Begins setup.settings (if a then Stops node x else if b then Stops node y else GoesOn node) node.reports (datagrams setup.settings node.world)
  by_tests true b node x y = begins_self setup.settings (Stops node x)
  by_tests false true node x y = begins_self setup.settings (Stops node y)
  by_tests false false node x y = begins_self setup.settings (GoesOn node)

  -- the end
  pub ends_grow : (n now : ℕ) (node : Node) → Begins setup.settings (ends setup n now node) node.reports (datagrams setup.settings node.world)
  ends_grow n now node = by_tests (nat_le setup.end now) (nat_le setup.turns n) node (Some (Ended n)) (Some (StalledAt n now))

  behind_grows : (n now : ℕ) (on : List ℕ) (node : Node)
      → ((m : Node) → Begins setup.settings (loop_turns setup (suc n) on m) m.reports (datagrams setup.settings m.world))
      → Begins setup.settings (behind_calls setup n now on node) node.reports (datagrams setup.settings node.world)
  behind_grows n now on node rest =
      begins_then setup.settings (loop_turns setup (suc n) on) rest (hosts_act setup.settings (locals setup) node >>= ends setup n now) node.reports
      (datagrams setup.settings node.world)
      (begins_then setup.settings (ends setup n now) (ends_grow n now) (hosts_act setup.settings (locals setup) node) node.reports
      (datagrams setup.settings node.world) (hosts_grow setup.settings (locals setup) node))

  -- loop turns
  pub turns_grow : (n : ℕ) (ticks : List ℕ) (node : Node)
      → Begins setup.settings (loop_turns setup n ticks node) node.reports (datagrams setup.settings node.world)
  unfolding loop_turns loop_turn
  turns_grow n [] node = begins_self setup.settings (Stops node None)
  turns_grow n (now ∷ on) node =
      let at = clock_stands n now node in
      begins_then setup.settings (loop_turns setup (suc n) on) (turns_grow (suc n) on) (loop_turn setup n now node) node.reports
      (datagrams setup.settings node.world)
      (begins_then setup.settings (λ m. hosts_act setup.settings (locals setup) m >>= ends setup n now)
      (λ m. begins_then setup.settings (ends setup n now) (ends_grow n now) (hosts_act setup.settings (locals setup) m) m.reports
      (datagrams setup.settings m.world) (hosts_grow setup.settings (locals setup) m))
      (starts setup.settings at.calls.refused at.calls.calls at) node.reports (datagrams setup.settings node.world)
      (grown_on setup.settings node at (starts setup.settings at.calls.refused at.calls.calls at)
      (record { more = clock_reports n now node.world; later = []; told = refl; sent = sym (append-nil (datagrams setup.settings node.world)) })
      (starts_grow setup.settings at.calls.refused at.calls.calls at)))

  -- what comes when the calls are started
  pub behind_calls_grow : (n now : ℕ) (on : List ℕ) (node : Node)
      → Begins setup.settings (behind_calls setup n now on node) node.reports (datagrams setup.settings node.world)
  behind_calls_grow n now on node = behind_grows n now on node (turns_grow (suc n) on)

  -- a course that begins so, with what comes when the calls are started
  pub calls_begin : (n now : ℕ) (on : List ℕ) (c : Course) (reports : List Report) (sent : List Datagram) → Begins setup.settings c reports sent
      → BeginsRun (run_of setup.settings (c >>= behind_calls setup n now on)) reports sent
  calls_begin n now on c reports sent b =
      begins_run setup.settings (c >>= behind_calls setup n now on) reports sent
      (begins_then setup.settings (behind_calls setup n now on) (behind_calls_grow n now on) c reports sent b)

  -- and what the hosts do, with what comes then
  pub hosts_begin : (n now : ℕ) (on : List ℕ) (c : Course) (reports : List Report) (sent : List Datagram) → Begins setup.settings c reports sent
      → BeginsRun (run_of setup.settings ((c >>= ends setup n now) >>= loop_turns setup (suc n) on)) reports sent
  hosts_begin n now on c reports sent b =
      begins_run setup.settings ((c >>= ends setup n now) >>= loop_turns setup (suc n) on) reports sent
      (begins_then setup.settings (loop_turns setup (suc n) on) (turns_grow (suc n) on) (c >>= ends setup n now) reports sent
      (begins_then setup.settings (ends setup n now) (ends_grow n now) c reports sent b))
