-- A node's run while it is opened.
use Rattle.std.proofs.Common.{◌≡◌, ℕ, Bool, Option, None, Some, Err, List, [], ◌∷◌, ◌++◌, refl, sym, ap, ◌∙◌, subst}
use Rattle.std.specs.Prelude.{map}
use Rattle.homa_plain.specs.declared.fault.ScriptFault.{ScriptFault}
use Rattle.homa_plain.specs.declared.fault.LineFault.TheVariants.{Script as ByWords}
use Rattle.homa_plain.specs.Entries.{PlainEntry, PlainSettings}
use Rattle.homa_plain.specs.Rules.{Answer}
use Rattle.homa_plain.specs.Script.{most_bytes}
use Rattle.homa_plain.specs.World.{World, new_world}
use Rattle.homa_plain.specs.Answers.{answering}
use Rattle.node_runs.specs.Script.{Setup, Calls, Opening, Opened, unopened, opening}
use Rattle.node_runs.specs.Course.{Report, Tells, Datagram, Receive, RefusedAt, run_of, run_opened, node_run, new_node, first_inc, datagrams, loop_turns}
use Rattle.node_runs.specs.Acts.{Act, connects, opened_acts}
use Rattle.node_runs.specs.Recorder.{Notes}
use Rattle.node_turns.specs.Told.{ListedFront, Hears, AreTold, AreDone, AreBroken}
use Rattle.node_turns.specs.Acting.{node_at, Begins, OnStrange}
use Rattle.node_turns.specs.declared.stop.NodeStop.{NodeStop}
use Rattle.node_turns.specs.declared.stop.NodeStop.TheVariants.{Script, Start, Host, Read, Net, Seen, Stalled, NoMemory}
use Rattle.node_turns.proofs.Lists.{listed_none, front_none}
use Rattle.node_turns.proofs.Done.{gone_step, broken_more, broken_none}
use Rattle.script_lines.proofs.ReadParts.{read_whole}
use Rattle.script_lines.specs.Read.{IsRead, IsCut}
use Rattle.script_lines.specs.Place.{Place}
use Rattle.homa_node.specs.Served.{Outside, outside, Whole, BeginsRun, IsServed, IsPart, IsStopped, IsFirstIn}
use Rattle.node_script.specs.declared.stop.SetupStop.{SetupStop}
use Rattle.node_script.specs.declared.stop.SetupStop.TheVariants as why
use Rattle.homa_node.specs.Opened.{HasOpened, opening_stop}
use Rattle.homa_node.specs.Progress.{IsFar, IsAt, going}
use Rattle.homa_node.proofs.Fars.{far_start, far_read, far_to, far_stop, far_acted, far_part, far_end}
use Rattle.homa_node.proofs.Courses.{begins_run, turns_grow}

-- nothing is strange while the lines up to `go` are read
pub opening_never : (n : NodeStop) (line : ℕ) (stop : SetupStop) → n ≡ opening_stop line stop → OnStrange {A = Unit {0}} (Err n) ⊥
opening_never n line stop e = subst (λ x. OnStrange {A = Unit {0}} (Err x) ⊥) (sym e) (by_stop stop) where
  by_stop : (stop : SetupStop) → OnStrange {A = Unit {0}} (Err (opening_stop line stop)) ⊥
  by_stop why.NoMemory = tt
  by_stop (why.Read failed) = tt
  by_stop (why.Fault fault) = tt

by_opening : (more : List ℕ) (later : List Answer) (on : List ℕ) (next : List Receive)
    → node_run more later on next ≡ run_opened (opening most_bytes more) later on next
unfolding node_run
by_opening more later on next = refl

pub outside_same : (taken : Option (List ℕ)) (notes : Notes) (ticks : Option (List ℕ)) (acts acts2 : Option (List Act)) (sent sent2 : Option (List Datagram))
    (gave gave2 : Option (List Receive)) → acts2 ≡ acts → sent2 ≡ sent → gave2 ≡ gave
    → outside taken notes acts2 sent2 gave2 ticks ≡ outside taken notes acts sent gave ticks
outside_same taken notes ticks acts acts2 sent sent2 gave gave2 d e f = ap (λ x. outside taken notes x sent2 gave2 ticks) d
    ∙ ap (λ x. outside taken notes acts x gave2 ticks) e ∙ ap (λ x. outside taken notes acts sent x ticks) f

-- nothing is sent before the first loop turn
none_sent : (setup : Setup) (calls : Calls) (later : List Answer) (next : List Receive)
    → datagrams setup.settings (new_node setup calls later next).world ≡ []
unfolding new_world
none_sent setup calls later next = refl

module _ (told : Notes → Report → List ℕ) (kept : Notes → Report → Notes) (strange : Notes → Report → Bool) (may_tell : List PlainEntry → Type 0)
    (bytes : List ℕ) (left : Option (List ℕ)) (old : Outside) (e : left ≡ Some bytes) (none : may_tell []) where
  start : IsFar node_run told kept strange may_tell bytes left old old may_tell 0 [] [] node_run
  start = far_start node_run told kept strange may_tell bytes left old e

  opens : (left2 : Option (List ℕ)) (now : List ℕ → Opening) → ((rest : List ℕ) → left ≡ Some rest → IsRead rest left2 (opening most_bytes) now)
      → IsFar node_run told kept strange may_tell bytes left2 old old may_tell 0 [] [] (λ more. run_opened (now more))
  opens left2 now f =
      far_read node_run told kept strange may_tell bytes left old old may_tell 0 [] [] {X = Opening} run_opened (opening most_bytes) now left2
      (far_to node_run told kept strange may_tell bytes left old old may_tell 0 [] [] node_run start
      (λ more. run_opened (opening most_bytes more)) by_opening) f

  -- a run of which nothing was told
  nothing_told : (left2 : Option (List ℕ)) (rest : Whole) → IsFar node_run told kept strange may_tell bytes left2 old old may_tell 0 [] [] rest
      → IsPart node_run told kept strange may_tell bytes left2 old old (AreBroken told kept strange old.taken old.notes old.taken old.acts old.acts (Hears 64))
      (ListedFront old.sent old.sent)
  nothing_told left2 rest d =
      far_part node_run told kept strange may_tell bytes left2 old old may_tell 0 [] [] rest d old
      (AreBroken told kept strange old.taken old.notes old.taken old.acts old.acts (Hears 64)) (ListedFront old.sent old.sent) [] [] []
      (broken_none told kept strange old.taken old.notes old.acts old.acts 64 refl) (front_none old.sent old.sent refl) refl (listed_none old.gave) tt none
      (λ more later on next. record { more = (rest more later on next).reports; later = (rest more later on next).sent; reports_are = refl; sent_is = refl })

  -- in the end, in other words
  pub part_as : (left2 : Option (List ℕ)) (new : Outside) → new ≡ old
      → IsPart node_run told kept strange may_tell bytes left2 old old (AreBroken told kept strange old.taken old.notes old.taken old.acts old.acts (Hears 64))
      (ListedFront old.sent old.sent)
      → IsPart node_run told kept strange may_tell bytes left2 old new (AreBroken told kept strange old.taken old.notes new.taken old.acts new.acts (Hears 64))
      (ListedFront old.sent new.sent)
  part_as left2 new same p = subst
      (λ o. IsPart node_run told kept strange may_tell bytes left2 old o
      (AreBroken told kept strange old.taken old.notes o.taken old.acts o.acts (Hears 64)) (ListedFront old.sent o.sent))
      (sym same) p

  -- nothing was done
  pub open_none : IsPart node_run told kept strange may_tell bytes left old old
      (AreBroken told kept strange old.taken old.notes old.taken old.acts old.acts (Hears 64))
      (ListedFront old.sent old.sent)
  open_none = nothing_told left node_run start

  -- reading stopped
  pub open_cut : (left2 : Option (List ℕ)) → ((rest : List ℕ) → left ≡ Some rest → IsCut rest left2)
      → IsPart node_run told kept strange may_tell bytes left2 old old (AreBroken told kept strange old.taken old.notes old.taken old.acts old.acts (Hears 64))
      (ListedFront old.sent old.sent)
  open_cut left2 f =
      let d = far_stop node_run told kept strange may_tell bytes left old old may_tell 0 [] [] node_run start left2 f in
      nothing_told left2 (λ more. node_run (d.0 ++ more)) d.1

  -- a line is refused
  pub open_refused : (left2 : Option (List ℕ)) (line : ℕ) (fault : ScriptFault)
      → ((rest : List ℕ) → left ≡ Some rest → IsRead rest left2 (opening most_bytes) (λ more. unopened line fault))
      → IsServed node_run told kept strange may_tell bytes old old (RefusedAt line (ByWords fault))
  open_refused left2 line fault f =
      far_end node_run told kept strange may_tell bytes left2 old old may_tell 0 [] [] (λ more. run_opened (unopened line fault))
      (opens left2 (λ more. unopened line fault) f) (RefusedAt line (ByWords fault)) none
      (λ more later on next. refl)

  -- why the script wasn't opened
  pub open_stopped : (place : Place) (left2 : Option (List ℕ)) (stop : NodeStop)
      → ((rest : List ℕ) → left ≡ Some rest → HasOpened most_bytes place rest left2 (Err stop))
      → IsStopped node_run told kept strange may_tell bytes left2 old old stop
  open_stopped place left2 (Script line fault) f = open_refused left2 line fault f
  open_stopped place left2 Read f = open_cut left2 f
  open_stopped place left2 NoMemory f = open_cut left2 f
  open_stopped place left2 (Start line fault) f = absurd (f bytes e)
  open_stopped place left2 (Host line) f = absurd (f bytes e)
  open_stopped place left2 Net f = absurd (f bytes e)
  open_stopped place left2 (Seen fault) f = absurd (f bytes e)
  open_stopped place left2 (Stalled turns now) f = absurd (f bytes e)

  module _ (left2 : Option (List ℕ)) (setup : Setup) (calls : List ℕ → Calls)
      (f : (rest : List ℕ) → left ≡ Some rest → IsRead rest left2 (opening most_bytes) (λ more. Opened setup (calls more))) where
    -- the run of an opened script
    abbrev opened_run : Whole
    opened_run more later on next = run_of setup.settings (loop_turns setup 1 on (new_node setup (calls more) later next))

    -- the net learns where its hosts are
    pub opened_connects : opened_acts (opening most_bytes bytes) ≡ connects setup.places
    opened_connects = ap opened_acts (read_whole bytes left2 (opening most_bytes) (λ more. Opened setup (calls more)) (f bytes e))

    -- nothing of it was told
    pub open_untold : IsPart node_run told kept strange may_tell bytes left2 old old
        (AreBroken told kept strange old.taken old.notes old.taken old.acts old.acts (Hears 64))
        (ListedFront old.sent old.sent)
    open_untold = nothing_told left2 opened_run (opens left2 (λ more. Opened setup (calls more)) f)

    -- it begins with its settings
    run_begins : (more : List ℕ) (later : List Answer) (on : List ℕ) (next : List Receive)
        → BeginsRun (opened_run more later on next) (Tells (PlainSettings setup.settings) ∷ []) []
    run_begins more later on next =
        let node = new_node setup (calls more) later next in
        begins_run setup.settings (loop_turns setup 1 on node) (Tells (PlainSettings setup.settings) ∷ []) []
        (subst (λ ds. Begins setup.settings (loop_turns setup 1 on node) (Tells (PlainSettings setup.settings) ∷ []) ds)
        (none_sent setup (calls more) later next) (turns_grow setup 1 on node))

    -- its settings weren't told whole
    pub settings_part : (new : Outside) (tell : List Report → Type 0) → tell (Tells (PlainSettings setup.settings) ∷ []) → new.sent ≡ old.sent
        → new.gave ≡ old.gave → may_tell (PlainSettings setup.settings ∷ [])
        → IsPart node_run told kept strange may_tell bytes left2 old new tell (ListedFront old.sent new.sent)
    settings_part new tell tells sent gave may =
        far_part node_run told kept strange may_tell bytes left2 old old may_tell 0 [] [] opened_run
        (opens left2 (λ more. Opened setup (calls more)) f) new tell (ListedFront old.sent new.sent) (Tells (PlainSettings setup.settings) ∷ []) [] []
        tells (front_none old.sent new.sent sent) refl (gave ∙ listed_none old.gave) tt may
        (λ more later on next. run_begins more later on next)

    module _ (new : Outside) (acts : new.acts ≡ old.acts)
        (tells : AreTold told kept strange old.taken old.notes new.taken new.notes (Tells (PlainSettings setup.settings) ∷ []))
        (sent : new.sent ≡ old.sent) (gave : new.gave ≡ old.gave) (ticks : new.ticks ≡ old.ticks) where
      settings_gone : AreDone told kept strange old.taken old.notes new.taken new.notes old.acts new.acts (Hears 64) (Hears 64)
          (Tells (PlainSettings setup.settings) ∷ [])
      settings_gone = gone_step told kept strange old.taken new.taken old.notes new.notes old.acts new.acts 64 (PlainSettings setup.settings ∷ []) [] (tt, tt)
          refl (acts ∙ listed_none old.acts) tells

      -- they were told, and no more
      pub settings_told : may_tell (PlainSettings setup.settings ∷ [])
          → IsPart node_run told kept strange may_tell bytes left2 old new
          (AreBroken told kept strange old.taken old.notes new.taken old.acts new.acts (Hears 64))
          (ListedFront old.sent new.sent)
      settings_told may =
          settings_part new (AreBroken told kept strange old.taken old.notes new.taken old.acts new.acts (Hears 64))
          (broken_more told kept strange old.taken new.taken new.taken old.notes new.notes old.acts new.acts new.acts (Hears 64) (Hears 64)
          (Tells (PlainSettings setup.settings) ∷ []) [] settings_gone
          (broken_none told kept strange new.taken new.notes new.acts new.acts 64 refl)) sent gave may

      -- and the hosts were opened
      pub at_first : (stands : World → Type 0) (after : List PlainEntry → Type 0) (incs : List ℕ) → incs ≡ map first_inc setup.places
          → IsFirstIn setup.settings incs stands
          → ((more : List PlainEntry) → after more → may_tell (PlainSettings setup.settings ∷ more))
          → IsAt node_run told kept strange may_tell bytes left2 old new setup stands after 0 calls (loop_turns setup 1)
      at_first stands after incs same h allowed = record {
        world = h.first;
        stood = h.stood;
        reports = Tells (PlainSettings setup.settings) ∷ [];
        far = far_acted node_run told kept strange may_tell bytes left2 old old may_tell 0 [] [] opened_run (opens left2 (λ more. Opened setup (calls more)) f)
            new after (Tells (PlainSettings setup.settings) ∷ []) (datagrams setup.settings h.first) [] []
            (going setup h.first (Tells (PlainSettings setup.settings) ∷ []) calls (loop_turns setup 1))
            settings_gone (sent ∙ listed_none old.sent) (gave ∙ listed_none old.gave) tt ticks none_yet refl allowed
            (λ more later on next. ap (λ w.
            run_of setup.settings (loop_turns setup 1 on (node_at w (Tells (PlainSettings setup.settings) ∷ []) (calls more) next)))
            (sym (first_is later)));
      } where
        first_is : (later : List Answer) → answering later h.first ≡ new_world setup.settings (map first_inc setup.places) 0 0 later
        first_is later = h.is_first later ∙ ap (λ xs. new_world setup.settings xs 0 0 later) same

        none_yet : datagrams setup.settings h.first ≡ []
        none_yet = ap (datagrams setup.settings) (first_is []) ∙ none_sent setup (record { calls = []; refused = None }) [] []
