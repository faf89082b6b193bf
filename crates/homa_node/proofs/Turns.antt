-- A node's run in its loop turns, from one call of the code to the next.
use Rattle.std.proofs.Common.{◌≡◌, ◌≤◌, ◌<◌, ℕ, suc, Bool, true, false, Option, None, Some, List, [], ◌∷◌, ◌++◌, length, refl, sym, ap, ◌∙◌, subst}
use Rattle.std.specs.Prelude.{if◌then◌else◌, ◌==◌, ◌||◌, nat_lt, IfSome}
use Rattle.std.proofs.lemmas.List.{append-nil}
use Rattle.homa_plain.specs.declared.settings.Settings.{Settings}
use Rattle.homa_plain.specs.declared.id.HostId.{HostId}
use Rattle.homa_plain.specs.declared.fault.LineFault.{LineFault}
use Rattle.homa_plain.specs.declared.fault.LineFault.TheVariants.{Script as ByWords, World as ByWorld}
use Rattle.homa_plain.specs.declared.fault.WorldFault.TheVariants.{NoSuchHost, Start as CantStart}
use Rattle.homa_plain.specs.Entries.{PlainEntry, PlainClock}
use Rattle.homa_plain.specs.World.{World, last_tick}
use Rattle.homa_plain.specs.Answers.{shown, answering}
use Rattle.node_io.specs.declared.observer.SeenFault.TheVariants.{Write, Stranger, NoMemory as NoRoom}
use Rattle.node_io.specs.Clock.{next_tick, if_ticks}
use Rattle.node_runs.specs.Script.{Setup, Calls}
use Rattle.node_runs.specs.Course.{Report, Tells, Datagram, Node, Course, ◌>>=◌, End, Ended, RefusedAt, StalledAt, run_of, datagrams, hosts_act}
use Rattle.node_runs.specs.Course.{locals, ends, loop_turns}
use Rattle.node_runs.specs.Recorder.{Notes}
use Rattle.node_runs.specs.Texts.{entries}
use Rattle.node_turns.specs.Told.{Listed, ListedFront, numbers_of, Hears, AreTold, AreDone, AreBroken}
use Rattle.node_turns.specs.Acting.{node_at, HasActed, IsCut, Begins, with_left, goes_on, clock_reports}
use Rattle.node_turns.specs.declared.stop.NodeStop.{NodeStop}
use Rattle.node_turns.specs.declared.stop.NodeStop.TheVariants.{Script, Start, Host, Read, Net, Seen, Stalled, NoMemory}
use Rattle.node_turns.proofs.Lists.{listed_none, front_none, front_listed}
use Rattle.node_turns.proofs.Done.{broken_more, gone_clock}
use Rattle.script_lines.specs.Read.{IsRead}
use Rattle.node_script.specs.Standing.{Standing}
use Rattle.node_script.specs.Calls.{refused_at}
use Rattle.homa_node.specs.declared.ahead.NextCall.{NextCall}
use Rattle.homa_node.specs.Coming.{calls_ahead, IsIdle}
use Rattle.homa_node.specs.Starting.{with_calls, starting}
use Rattle.homa_node.specs.Started.{HasStarted, HasEnded, HasCut, HasStopped}
use Rattle.homa_node.specs.Served.{Outside, Whole, BeginsRun, IsServed, IsPart, IsStopped}
use Rattle.homa_node.specs.Progress.{IsFar, IsAt, going, behind_turns, behind_calls}
use Rattle.homa_node.proofs.Fars.{far_read, far_to, far_tick, far_acted, far_part, far_end}
use Rattle.homa_node.proofs.Courses.{starts_calls, turn_begins, calls_wait, end_comes, end_waits, turn_comes, turns_end, calls_begin, hosts_begin}
use Rattle.homa_node.proofs.CallCuts.{starts_grow}

-- what is told of the clock asks nothing of a box, and shows no answer
clock_allowed : (now : ℕ) (q : List PlainEntry → Type 0) (more : List PlainEntry) (t : Bool) → q more → q (PlainClock now ∷ more)
    → q (entries (if t then Tells (PlainClock now) ∷ [] else []) ++ more)
clock_allowed now q more true a b = b
clock_allowed now q more false a b = a

clock_shown : (now : ℕ) (t : Bool) → shown (entries (if t then Tells (PlainClock now) ∷ [] else [])) ≡ []
clock_shown now true = refl
clock_shown now false = refl

clock_numbers : (now : ℕ) (t : Bool) → length {A = Datagram} [] ≡ length (numbers_of (if t then Tells (PlainClock now) ∷ [] else []))
clock_numbers now true = refl
clock_numbers now false = refl

-- a run that is over
abbrev ended_run : List Report → List Datagram → End → Whole
ended_run reports sent end more later on next = record { reports = reports; sent = sent; left = next; end = Some end }

-- the rest of the bytes is the one that is left
one_rest : (P : List ℕ → Type 0) (left : Option (List ℕ)) (a : List ℕ) → left ≡ Some a → P a → (rest : List ℕ) → left ≡ Some rest → P rest
one_rest P left a e p rest f = let same : a ≡ rest = cc in subst P same p

-- what comes when the hosts have acted
abbrev pub behind_hosts : Setup → ℕ → ℕ → List ℕ → Node → Course
behind_hosts setup n now on node = ends setup n now node >>= loop_turns setup (suc n) on

module _ (whole : Whole) (told : Notes → Report → List ℕ) (kept : Notes → Report → Notes) (strange : Notes → Report → Bool)
    (may_tell : List PlainEntry → Type 0) (bytes : List ℕ) (old : Outside) (setup : Setup) where
  module _ (left : Option (List ℕ)) (new : Outside) (stands : World → Type 0) (after : List PlainEntry → Type 0) (least : ℕ) (calls : List ℕ → Calls) where
    -- the same in other words
    pub at_same : (act onward : List ℕ → Node → Course) → ((on : List ℕ) (node : Node) → act on node ≡ onward on node)
        → IsAt whole told kept strange may_tell bytes left old new setup stands after least calls act
        → IsAt whole told kept strange may_tell bytes left old new setup stands after least calls onward
    at_same act onward e a = record {
      world = a.world;
      stood = a.stood;
      reports = a.reports;
      far = far_to whole told kept strange may_tell bytes left old new after least a.reports (datagrams setup.settings a.world)
          (going setup a.world a.reports calls act) a.far
          (going setup a.world a.reports calls onward)
          (λ more later on next. ap (run_of setup.settings) (e on (node_at (answering later a.world) a.reports (calls more) next)));
    }

    -- the clock gave a tick
    pub at_tick : (act : List ℕ → Node → Course) → IsAt whole told kept strange may_tell bytes left old new setup stands after least calls act
        → (now : ℕ) (held : Option (List ℕ)) → least ≤ now → now ≤ last_tick → IfSome new.ticks (λ ticks. now ≡ next_tick ticks) → held ≡ if_ticks new.ticks
        → IsAt whole told kept strange may_tell bytes left old (record new { ticks = held }) setup stands after now calls (λ on. act (now ∷ on))
    at_tick act a now held low high is left_is = record {
      world = a.world;
      stood = a.stood;
      reports = a.reports;
      far = far_tick whole told kept strange may_tell bytes left old new after least a.reports (datagrams setup.settings a.world)
          (going setup a.world a.reports calls act) a.far now held low high is left_is;
    }

    module _ (n now : ℕ) (a : IsAt whole told kept strange may_tell bytes left old new setup stands after least calls (λ on. loop_turns setup n (now ∷ on)))
      where
        -- the clock stands at it
        pub at_clock : (held : Calls) (new2 : Outside) (stands2 : World → Type 0) (after2 : List PlainEntry → Type 0)
            → ((w : World) → stands w → stands2 (record w { clock = now })
            × AreTold told kept strange new.taken new.notes new2.taken new2.notes (clock_reports n now w)) → new2.acts ≡ new.acts
            → ((more : List PlainEntry) → after2 more → after more) → ((more : List PlainEntry) → after more → after (PlainClock now ∷ more))
            → new2.sent ≡ new.sent → new2.gave ≡ new.gave → new2.ticks ≡ new.ticks
            → IsAt whole told kept strange may_tell bytes left old new2 setup stands2 after2 least calls (starts_calls setup held n now)
        at_clock held new2 stands2 after2 tells acts allows clocks sent gave ticks =
            let w = a.world in
            let t = tells w a.stood in
            let is_told = n == 1 || nat_lt w.clock now in
            record {
              world = record w { clock = now };
              stood = t.0;
              reports = a.reports ++ clock_reports n now w;
              far = far_acted whole told kept strange may_tell bytes left old new after least a.reports (datagrams setup.settings w)
                  (going setup w a.reports calls (λ on. loop_turns setup n (now ∷ on))) a.far
                  new2 after2 (clock_reports n now w) (datagrams setup.settings w) [] []
                  (going setup (record w { clock = now }) (a.reports ++ clock_reports n now w) calls (starts_calls setup held n now))
                  (gone_clock told kept strange new.taken new2.taken new.notes new2.notes new.acts new2.acts now is_told acts t.1)
                  (sent ∙ listed_none new.sent) (gave ∙ listed_none new.gave) tt ticks (sym (append-nil (datagrams setup.settings w)))
                  (clock_numbers now is_told)
                  (λ more x. clock_allowed now after more is_told (allows more x) (clocks more (allows more x)))
                  (λ more later on next. ap (λ xs.
                  run_of setup.settings (loop_turns setup n (now ∷ on) (node_at (answering (xs ++ later) w) a.reports (calls more) next)))
                  (clock_shown now is_told)
                  ∙ turn_begins setup held n now on w a.reports (calls more) later next);
            }

        -- that wasn't told whole
        pub clock_part : (new2 : Outside) (tell1 tell : List Report → Type 0) → ((w : World) → stands w → tell1 (clock_reports n now w))
            → ((x y : List Report) → AreDone told kept strange old.taken old.notes new.taken new.notes old.acts new.acts (Hears 64) (Hears 64) x →
            tell1 y → tell (x ++ y))
            → after [] → ((more : List PlainEntry) → after more → after (PlainClock now ∷ more)) → new2.sent ≡ new.sent → new2.gave ≡ new.gave
            → IsPart whole told kept strange may_tell bytes left old new2 tell (ListedFront old.sent new2.sent)
        clock_part new2 tell1 tell tells joins none clocks sent gave =
            let w = a.world in
            let is_told = n == 1 || nat_lt w.clock now in
            let held : Calls = record { calls = []; refused = None } in
            far_part whole told kept strange may_tell bytes left old new after least a.reports (datagrams setup.settings w)
            (going setup w a.reports calls (λ on. loop_turns setup n (now ∷ on))) a.far
            new2 tell (ListedFront old.sent new2.sent) (clock_reports n now w) [] [] (joins a.reports (clock_reports n now w) a.far.told_all (tells w a.stood))
            (front_listed old.sent new.sent new2.sent (datagrams setup.settings w) [] a.far.took (front_none new.sent new2.sent sent))
            (clock_numbers now is_told) (gave ∙ listed_none new.gave) tt
            (subst after (append-nil (entries (clock_reports n now w))) (clock_allowed now after [] is_told none (clocks [] none)))
            (λ more later on next.
            let answers = shown (entries (clock_reports n now w)) ++ later in
            let node = node_at (answering answers (record w { clock = now })) (a.reports ++ clock_reports n now w) (calls more) next in
            subst (λ run. BeginsRun run (a.reports ++ clock_reports n now w) (datagrams setup.settings w ++ []))
            (sym (turn_begins setup held n now on w a.reports (calls more) answers next))
            (calls_begin setup n now on (starting setup.settings held [] next node) (a.reports ++ clock_reports n now w) (datagrams setup.settings w ++ [])
            (subst (λ ds. Begins setup.settings (starting setup.settings held [] next node) (a.reports ++ clock_reports n now w) ds)
            (sym (append-nil (datagrams setup.settings w)))
            (starts_grow setup.settings (calls more).refused (calls more).calls (record node { receives = next; calls = held })))))

    module _ (held : Calls) (n now : ℕ)
        (a : IsAt whole told kept strange may_tell bytes left old new setup stands after least calls (starts_calls setup held n now))
        (left2 : Option (List ℕ)) (new2 : Outside) (same : new2.ticks ≡ new.ticks) where
      -- the calls of the node are read
      read_calls : (onward : List ℕ → Calls) → ((rest : List ℕ) → left ≡ Some rest → IsRead rest left2 calls onward)
          → IsFar whole told kept strange may_tell bytes left2 old new after least a.reports (datagrams setup.settings a.world)
          (going setup a.world a.reports onward (starts_calls setup held n now))
      read_calls onward read =
          far_read whole told kept strange may_tell bytes left old new after least a.reports (datagrams setup.settings a.world) {X = Calls}
          (λ c later on next. run_of setup.settings (starts_calls setup held n now on (node_at (answering later a.world) a.reports c next))) calls onward
          left2 a.far read

      -- the calls that were due are started
      pub at_calls : (next : World → Type 0) (after2 : List PlainEntry → Type 0) (ahead : NextCall) (r : Standing)
          → HasStarted setup.settings stands after new.sent new2.sent new.gave new2.gave left left2 calls next after2
          (AreDone told kept strange new.taken new.notes new2.taken new2.notes new.acts new2.acts (Hears 64) (Hears 64)) (calls_ahead setup ahead r)
          → ((w : World) → next w → IsIdle ahead w.clock)
          → IsAt whole told kept strange may_tell bytes left2 old new2 setup next after2 least (calls_ahead setup ahead r) (behind_calls setup n now)
      at_calls next after2 ahead r h idle =
          let k = h.acted a.world a.stood held in
          record {
            world = k.next;
            stood = k.stood;
            reports = a.reports ++ k.reports;
            far = far_acted whole told kept strange may_tell bytes left2 old new after least a.reports (datagrams setup.settings a.world)
                (going setup a.world a.reports (λ more. with_calls h.done (calls_ahead setup ahead r more)) (starts_calls setup held n now))
                (read_calls (λ more. with_calls h.done (calls_ahead setup ahead r more)) h.read)
                new2 after2 k.reports (datagrams setup.settings k.next) k.sent k.gave
                (going setup k.next (a.reports ++ k.reports) (calls_ahead setup ahead r) (behind_calls setup n now))
                k.told k.took k.given k.received same k.grown k.numbers k.allowed
                (λ more later on left3. ap (λ c. run_of setup.settings (c >>= behind_calls setup n now on))
                (k.same a.reports later (calls_ahead setup ahead r more) left3 []
                ∙ calls_wait setup held ahead r more k.next (a.reports ++ k.reports) later left3 [] (idle k.next k.stood)));
          }

      -- the next line is refused
      pub calls_refused : (next : World → Type 0) (after2 : List PlainEntry → Type 0) (line : ℕ) (fault : LineFault) → after2 []
          → HasStarted setup.settings stands after new.sent new2.sent new.gave new2.gave left left2 calls next after2
          (AreDone told kept strange new.taken new.notes new2.taken new2.notes new.acts new2.acts (Hears 64) (Hears 64)) (λ more. refused_at line fault)
          → IsServed whole told kept strange may_tell bytes old new2 (RefusedAt line fault)
      calls_refused next after2 line fault none h =
          let k = h.acted a.world a.stood held in
          let ended = ended_run (a.reports ++ k.reports) (datagrams setup.settings k.next) (RefusedAt line fault) in
          far_end whole told kept strange may_tell bytes left2 old new2 after2 least (a.reports ++ k.reports) (datagrams setup.settings k.next) ended
          (far_acted whole told kept strange may_tell bytes left2 old new after least a.reports (datagrams setup.settings a.world)
          (going setup a.world a.reports (λ more. with_calls h.done (refused_at line fault)) (starts_calls setup held n now))
          (read_calls (λ more. with_calls h.done (refused_at line fault)) h.read)
          new2 after2 k.reports (datagrams setup.settings k.next) k.sent k.gave ended
          k.told k.took k.given k.received same k.grown k.numbers k.allowed
          (λ more later on left3. ap (λ c. run_of setup.settings (c >>= behind_calls setup n now on))
          (k.same a.reports later (refused_at line fault) left3 [])))
          (RefusedAt line fault) none (λ more later on left3. refl)

      -- a call can't start
      pub calls_ended : (end : End) → HasEnded setup.settings stands after new.sent new2.sent new.gave new2.gave left left2 calls
          (AreDone told kept strange new.taken new.notes new2.taken new2.notes new.acts new2.acts (Hears 64) (Hears 64)) end
          → IsServed whole told kept strange may_tell bytes old new2 end
      calls_ended end h =
          let k = h.acted a.world a.stood held in
          let b = h.read a.far.read.rest a.far.read.has_left in
          let onward = λ (more : List ℕ). with_calls h.done (b.0 more) in
          let ended = ended_run (a.reports ++ k.reports) (datagrams setup.settings k.next) end in
          far_end whole told kept strange may_tell bytes left2 old new2 (λ xs. xs ≡ []) least (a.reports ++ k.reports) (datagrams setup.settings k.next) ended
          (far_acted whole told kept strange may_tell bytes left2 old new after least a.reports (datagrams setup.settings a.world)
          (going setup a.world a.reports onward (starts_calls setup held n now))
          (read_calls onward (one_rest (λ xs. IsRead xs left2 calls onward) left a.far.read.rest a.far.read.has_left b.1))
          new2 (λ xs. xs ≡ []) k.reports (datagrams setup.settings k.next) k.sent k.gave ended
          k.told k.took k.given k.received same k.grown k.numbers k.allowed
          (λ more later on left3. ap (λ c. run_of setup.settings (c >>= behind_calls setup n now on)) (k.same a.reports later (b.0 more) left3 [])))
          end refl (λ more later on left3. refl)

      -- the hosts stopped while calls were started
      pub calls_part : (tell1 tell : List Report → Type 0) → HasCut setup.settings stands after new.sent new2.sent new.gave new2.gave left left2 calls tell1
          → ((x y : List Report) → AreDone told kept strange old.taken old.notes new.taken new.notes old.acts new.acts (Hears 64) (Hears 64) x →
          tell1 y → tell (x ++ y))
          → IsPart whole told kept strange may_tell bytes left2 old new2 tell (ListedFront old.sent new2.sent)
      calls_part tell1 tell h joins =
          let k = h.cut a.world a.stood held in
          let b = h.read a.far.read.rest a.far.read.has_left in
          let onward = λ (more : List ℕ). with_calls h.done (b.0 more) in
          far_part whole told kept strange may_tell bytes left2 old new after least a.reports (datagrams setup.settings a.world)
          (going setup a.world a.reports onward (starts_calls setup held n now))
          (read_calls onward (one_rest (λ xs. IsRead xs left2 calls onward) left a.far.read.rest a.far.read.has_left b.1))
          new2 tell (ListedFront old.sent new2.sent) k.reports k.sent k.gave (joins a.reports k.reports a.far.told_all k.told)
          (front_listed old.sent new.sent new2.sent (datagrams setup.settings a.world) k.sent a.far.took k.took) k.numbers k.given k.received k.allowed
          (λ more later on left3.
          calls_begin setup n now on (starting setup.settings held h.done (k.gave ++ left3)
          (node_at (answering (shown (entries k.reports) ++ later) a.world) a.reports (b.0 more) []))
          (a.reports ++ k.reports) (datagrams setup.settings a.world ++ k.sent) (k.same a.reports later (b.0 more) left3 []))

      calls_front : HasCut setup.settings stands after new.sent new2.sent new.gave new2.gave left left2 calls
          (AreBroken told kept strange new.taken new.notes new2.taken new.acts new2.acts (Hears 64))
          → IsPart whole told kept strange may_tell bytes left2 old new2
          (AreBroken told kept strange old.taken old.notes new2.taken old.acts new2.acts (Hears 64))
          (ListedFront old.sent new2.sent)
      calls_front h = calls_part (AreBroken told kept strange new.taken new.notes new2.taken new.acts new2.acts (Hears 64))
          (AreBroken told kept strange old.taken old.notes new2.taken old.acts new2.acts (Hears 64)) h
          (λ x y p q. broken_more told kept strange old.taken new.taken new2.taken old.notes new.notes old.acts new.acts new2.acts (Hears 64)
          (Hears 64) x y p q)

      -- no further call was started
      pub calls_stopped : (next : World → Type 0) (after2 : List PlainEntry → Type 0) → after2 [] → (stop : NodeStop)
          → HasStopped setup.settings stands after new.sent new2.sent new.gave new2.gave left left2 calls told kept strange next after2 new.taken new.notes
          new2.taken new2.notes new.acts new2.acts stop
          → IsStopped whole told kept strange may_tell bytes left2 old new2 stop
      calls_stopped next after2 none (Script line fault) h = calls_refused next after2 line (ByWords fault) none h
      calls_stopped next after2 none (Host line) h = calls_refused next after2 line (ByWorld NoSuchHost) none h
      calls_stopped next after2 none (Start line fault) h = calls_ended (RefusedAt line (ByWorld (CantStart fault))) h
      calls_stopped next after2 none (Stalled turns last) h = absurd h
      calls_stopped next after2 none (Seen Stranger) h = absurd h
      calls_stopped next after2 none (Seen (Write failed)) h = calls_front h
      calls_stopped next after2 none (Seen NoRoom) h = absurd h
      calls_stopped next after2 none Read h = calls_front h
      calls_stopped next after2 none Net h = calls_front h
      calls_stopped next after2 none NoMemory h = calls_front h

    module _ (n now : ℕ) (a : IsAt whole told kept strange may_tell bytes left old new setup stands after least calls (behind_calls setup n now))
        (new2 : Outside) (t : Settings) (e : t ≡ setup.settings) (ids : List HostId) (f : ids ≡ locals setup) where
      -- the hosts acted
      pub at_hosts : (next : World → Type 0) (after2 : List PlainEntry → Type 0)
          → ((w : World) → stands w → HasActed (with_left (hosts_act t ids)) goes_on t w next after after2
          (AreDone told kept strange new.taken new.notes new2.taken new2.notes new.acts new2.acts (Hears 64) (Hears 64)) new.sent new2.sent new.gave new2.gave)
          → new2.ticks ≡ new.ticks → IsAt whole told kept strange may_tell bytes left old new2 setup next after2 least calls (behind_hosts setup n now)
      at_hosts next after2 acts same =
          let w = a.world in
          let k = subst (λ q. HasActed (with_left (hosts_act setup.settings q)) goes_on setup.settings w next after after2
          (AreDone told kept strange new.taken new.notes new2.taken new2.notes new.acts new2.acts (Hears 64) (Hears 64)) new.sent new2.sent new.gave
          new2.gave) f
          (subst (λ q. HasActed (with_left (hosts_act q ids)) goes_on q w next after after2
          (AreDone told kept strange new.taken new.notes new2.taken new2.notes new.acts new2.acts (Hears 64) (Hears 64)) new.sent new2.sent new.gave
          new2.gave) e (acts w a.stood)) in
          record {
            world = k.next;
            stood = k.stood;
            reports = a.reports ++ k.reports;
            far = far_acted whole told kept strange may_tell bytes left old new after least a.reports (datagrams setup.settings w)
                (going setup w a.reports calls (behind_calls setup n now)) a.far
                new2 after2 k.reports (datagrams setup.settings k.next) k.sent k.gave
                (going setup k.next (a.reports ++ k.reports) calls (behind_hosts setup n now))
                k.told k.took k.given k.received same k.grown k.numbers k.allowed
                (λ more later on left3. ap (λ c. run_of setup.settings ((c >>= ends setup n now) >>= loop_turns setup (suc n) on))
                (k.same a.reports later (calls more) left3 []));
          }

      -- they stopped
      pub hosts_part : (tell1 tell : List Report → Type 0) (take1 take : List Datagram → Type 0)
          → ((w : World) → stands w → IsCut (with_left (hosts_act t ids)) t w after tell1 take1 new.gave new2.gave)
          → ((x y : List Report) → AreDone told kept strange old.taken old.notes new.taken new.notes old.acts new.acts (Hears 64) (Hears 64) x →
          tell1 y → tell (x ++ y))
          → ((x y : List Datagram) → Listed old.sent new.sent x → take1 y → take (x ++ y))
          → IsPart whole told kept strange may_tell bytes left old new2 tell take
      hosts_part tell1 tell take1 take cut joins takes =
          let w = a.world in
          let k = subst (λ q. IsCut (with_left (hosts_act setup.settings q)) setup.settings w after tell1 take1 new.gave new2.gave) f
          (subst (λ q. IsCut (with_left (hosts_act q ids)) q w after tell1 take1 new.gave new2.gave) e (cut w a.stood)) in
          far_part whole told kept strange may_tell bytes left old new after least a.reports (datagrams setup.settings w)
          (going setup w a.reports calls (behind_calls setup n now)) a.far
          new2 tell take k.reports k.sent k.gave (joins a.reports k.reports a.far.told_all k.told)
          (takes (datagrams setup.settings w) k.sent a.far.took k.took) k.numbers k.given k.received k.allowed
          (λ more later on left3.
          hosts_begin setup n now on (hosts_act setup.settings (locals setup)
          (node_at (answering (shown (entries k.reports) ++ later) w) a.reports (calls more) (k.gave ++ left3)))
          (a.reports ++ k.reports) (datagrams setup.settings w ++ k.sent) (k.same a.reports later (calls more) left3 []))

    module _ (n now : ℕ) where
      -- the end has come
      pub at_end : IsAt whole told kept strange may_tell bytes left old new setup stands after least calls (behind_hosts setup n now) → setup.end ≤ now
          → after [] → IsServed whole told kept strange may_tell bytes old new (Ended n)
      at_end a l none =
          far_end whole told kept strange may_tell bytes left old new after least a.reports (datagrams setup.settings a.world)
          (going setup a.world a.reports calls (behind_hosts setup n now)) a.far (Ended n) none
          (λ more later on next. ap (λ c. run_of setup.settings (c >>= loop_turns setup (suc n) on))
          (end_comes setup n now (node_at (answering later a.world) a.reports (calls more) next) l))

      -- it hasn't
      pub at_wait : IsAt whole told kept strange may_tell bytes left old new setup stands after least calls (behind_hosts setup n now) → now < setup.end
          → IsAt whole told kept strange may_tell bytes left old new setup stands after least calls (behind_turns setup n now)
      at_wait a l = at_same (behind_hosts setup n now) (behind_turns setup n now)
          (λ on node. ap (λ c. c >>= loop_turns setup (suc n) on) (end_waits setup n now node l)) a

      -- a further loop turn may be taken
      pub at_turn : (next : ℕ) → next ≡ suc n
          → IsAt whole told kept strange may_tell bytes left old new setup stands after least calls (behind_turns setup n now) → n < setup.turns
          → IsAt whole told kept strange may_tell bytes left old new setup stands after least calls (loop_turns setup next)
      at_turn next e a l = at_same (behind_turns setup n now) (loop_turns setup next)
          (λ on node. turn_comes setup n now on node l ∙ ap (λ m. loop_turns setup m on node) (sym e)) a

      -- and the clock gives a tick
      pub at_ticked : (next : ℕ) → next ≡ suc n
          → IsAt whole told kept strange may_tell bytes left old new setup stands after least calls (behind_turns setup n now) → n < setup.turns
          → (tick : ℕ) (held : Option (List ℕ)) → least ≤ tick → tick ≤ last_tick → IfSome new.ticks (λ ticks. tick ≡ next_tick ticks)
          → held ≡ if_ticks new.ticks
          → IsAt whole told kept strange may_tell bytes left old (record new { ticks = held }) setup stands after tick calls
          (λ on. loop_turns setup next (tick ∷ on))
      at_ticked next e a l tick held low high is left_is = at_tick (loop_turns setup next) (at_turn next e a l) tick held low high is left_is

      -- before the first loop turn
      pub at_none : IsAt whole told kept strange may_tell bytes left old new setup stands after least calls (loop_turns setup (suc n)) → n < setup.turns
          → IsAt whole told kept strange may_tell bytes left old new setup stands after least calls (behind_turns setup n now)
      at_none a l = at_same (loop_turns setup (suc n)) (behind_turns setup n now) (λ on node. sym (turn_comes setup n now on node l)) a

      -- no further one may
      pub at_stall : IsAt whole told kept strange may_tell bytes left old new setup stands after least calls (behind_turns setup n now) → setup.turns ≤ n
          → after [] → IsServed whole told kept strange may_tell bytes old new (StalledAt n now)
      at_stall a l none =
          far_end whole told kept strange may_tell bytes left old new after least a.reports (datagrams setup.settings a.world)
          (going setup a.world a.reports calls (behind_turns setup n now)) a.far (StalledAt n now) none
          (λ more later on next. ap (run_of setup.settings) (turns_end setup n now on (node_at (answering later a.world) a.reports (calls more) next) l))
