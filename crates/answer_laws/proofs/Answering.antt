-- An event, whatever is answered: it is refused, or no service is asked, or one is, and its box may give an answer.
use Rattle.std.proofs.Common.{◌≡◌, ℕ, zero, suc, ◌+◌, ◌-◌, ◌≤◌, Bool, true, false, cond, Option, Some, None, List, [], ◌∷◌, ◌++◌, length, refl, sym}
use Rattle.std.proofs.Common.{ap, subst, ◌∙◌, arith, append_assoc, ◌⊎◌, inl, inr}
use Rattle.std.proofs.lemmas.List.{length-set, length-take}
use Rattle.std.proofs.lemmas.Option.{slice_get_within}
use Rattle.std.specs.Prelude.{◌==◌, nat_lt, is_some, drop, slice_get, slice_set, IfSome}
use Rattle.std.specs.Option.{option_map}
use Rattle.std.specs.List.{AllByRecursion, Contains}
use Rattle.std.proofs.lemmas.List.Elements.{Contains-append_right}
use Rattle.homa_plain.specs.declared.id.CallId.{CallId}
use Rattle.homa_plain.specs.declared.id.HostId.{HostId}
use Rattle.homa_plain.specs.declared.packet.Packet.{Packet as WirePacket}
use Rattle.homa_plain.specs.declared.settings.Settings.{Settings}
use Rattle.homa_plain.specs.declared.event.Event.{Event}
use Rattle.homa_plain.specs.declared.event.Event.TheVariants as event
use Rattle.homa_plain.specs.declared.fault.StartFault.{StartFault}
use Rattle.homa_plain.specs.declared.fault.WorldFault.{WorldFault}
use Rattle.homa_plain.specs.declared.fault.WorldFault.TheVariants as fault
use Rattle.homa_plain.specs.Settings.{band}
use Rattle.homa_plain.specs.Wire.{packet_in}
use Rattle.homa_plain.specs.Entries.{PlainEntry, PlainRun, PlainDeliver, PlainInject, PlainClock, PlainRestart, PlainShift}
use Rattle.homa_plain.specs.Packets.{Packet, receiver}
use Rattle.homa_plain.specs.Host.{Host, new_host, Told, Says, Sends, packets_in, entries_from}
use Rattle.homa_plain.specs.Rules.{Answer}
use Rattle.homa_plain.specs.Work.{Work}
use Rattle.homa_plain.specs.Steps.{has_run, call_step, arrival_step, turn_step, start_fault}
use Rattle.homa_plain.specs.World.{World, SentPacket, Outcome, Done, Refused, outcome, host_at, own_clock, is_late, last_tick, next_answer}
use Rattle.homa_plain.specs.World.{answers_left, stepped, started, calls_from, arrives_at, delivered, turns, restarts, injected, shifted}
use Rattle.homa_plain.specs.Answers.{answering, shown}
use Rattle.homa_service.specs.Table.{place_of, last_of, front_of}
use Rattle.step_laws.specs.StepLaws.{run_count}
use Rattle.step_laws.proofs.ToldBy.{run_count-append}
use Rattle.step_laws.proofs.OneAnswer as one
use Rattle.event_laws.specs.Named.{IsOwnStep, IsOfStep}
use Rattle.event_laws.specs.Stepping.{stepped_world, step_told}
use Rattle.event_laws.proofs.Names.{call_named, arrival_named, turn_named, new_named}
use Rattle.step_moves.specs.Worlds.{HasOwnName}
use Rattle.step_moves.proofs.Inner.{entries_from-append}
use Rattle.box_laws.specs.Boxes.{Allows, MayAnswer, may_tell}
use Rattle.answer_laws.proofs.Alike.{Parts, Alike, arrival_alike}
use Rattle.answer_laws.proofs.Seats.{AllNamed, named, named_set, AllFull, In, full, full_set, full_change, last}
use Rattle.answer_laws.proofs.Told.{shown-append, shown-quiet, of_parts, found, no_run}
use Rattle.answer_laws.proofs.Cases.{Stands}

-- what a box may answer to a request, after so many answers
pub record Gives {A : Type 0} (allows : Allows A) (box : A) (count number : ℕ) (q : List ℕ) : Type 0 where
  pub answer : Answer
  pub may : allows box count number q answer.bytes answer.hold

-- each box may answer each request
abbrev pub AnswersAlways : {A : Type 0} → Allows A → Type 0
AnswersAlways {A} allows = (box : A) (count number : ℕ) (q : List ℕ) → Gives allows box count number q

-- an event is refused, whatever is answered
pub record Halts (o : List Answer → Outcome) : Type 0 where
  pub refused : (cs : List Answer) → (f : WorldFault) × (o cs ≡ Refused f)

-- no service is asked
pub record Passes {A : Type 0} (allows : Allows A) (seats : List (Option (A × ℕ))) (spares : List (A × ℕ)) (o : List Answer → Outcome) : Type 0 where
  pub next : World
  pub told : List PlainEntry
  pub seats' : List (Option (A × ℕ))
  pub spares' : List (A × ℕ)
  pub stands : Stands next seats' spares'
  pub none : shown told ≡ []
  pub back : (more : List PlainEntry) → may_tell allows seats' spares' more → may_tell allows seats spares (told ++ more)
  pub done : (cs : List Answer) → o cs ≡ Done (record { world = answering cs next; told = told })

-- a service is asked, whose box may give this answer
pub record Answers {A : Type 0} (allows : Allows A) (seats : List (Option (A × ℕ))) (spares : List (A × ℕ)) (o : List Answer → Outcome) : Type 0 where
  pub answer : Answer
  pub next : World
  pub told : List PlainEntry
  pub seats' : List (Option (A × ℕ))
  pub stands : Stands next seats' spares
  pub shows : shown told ≡ answer ∷ []
  pub back : (more : List PlainEntry) → may_tell allows seats' spares more → may_tell allows seats spares (told ++ more)
  pub done : (cs : List Answer) → o (answer ∷ cs) ≡ Done (record { world = answering cs next; told = told })

unasked_left : (told : List Told) (these : List Answer) → has_run told ≡ false → answers_left told these ≡ these
unasked_left told these e = ap (λ b. cond b (drop 1 these) these) e

asked_left : (told : List Told) (these : List Answer) → has_run told ≡ true → answers_left told these ≡ drop 1 these
asked_left told these e = ap (λ b. cond b (drop 1 these) these) e

-- ---- the first `run` line

-- who is asked what, by the first `run` line
abbrev Question : Type 0
Question = HostId × (ℕ × List ℕ)

abbrev question : List Told → Option Question
question [] = None
question (Sends p ∷ told) = question told
question (Says (PlainRun host id service request response hold) ∷ told) = Some (host, (service, request))
question (Says e ∷ told) = question told

abbrev number_asked : Option Question → ℕ
number_asked None = 0
number_asked (Some x) = x.1.0

abbrev bytes_asked : Option Question → List ℕ
bytes_asked None = []
bytes_asked (Some x) = x.1.1

first_question : (before : List Told) (host : HostId) (id : CallId) (service : ℕ) (request response : List ℕ) (hold : ℕ) (after : List Told)
    → run_count before ≡ 0 → question (before ++ (Says (PlainRun host id service request response hold) ∷ after)) ≡ Some (host, (service, request))
first_question [] host id service request response hold after quiet = refl
first_question (Sends p ∷ before) host id service request response hold after quiet =
    first_question before host id service request response hold after quiet
first_question (Says e ∷ before) host id service request response hold after quiet =
    by_entry e quiet (λ f. first_question before host id service request response hold after f) where
      by_entry : (e : PlainEntry) → run_count (Says e ∷ before) ≡ 0
          → (run_count before ≡ 0 → question (before ++ (Says (PlainRun host id service request response hold) ∷ after)) ≡ Some (host, (service, request)))
          → question (Says e ∷ (before ++ (Says (PlainRun host id service request response hold) ∷ after))) ≡ Some (host, (service, request))
      by_entry (PlainRun host' id' service' request' response' hold') quiet rest = absurd (omega (arith, quiet))
      by_entry e quiet rest = rest quiet

module _ {A : Type 0} (allows : Allows A) (spares : List (A × ℕ)) where
  -- before lines without a `run` line and without a restart
  entered : (seats : List (Option (A × ℕ))) (n : ℕ) (told : List Told) (more : List PlainEntry) → AllByRecursion IsOfStep told → run_count told ≡ 0
      → may_tell allows seats spares more → may_tell allows seats spares (entries_from n told ++ more)
  entered seats n [] more own none may = may
  entered seats n (Sends p ∷ told) more own none may = (tt, entered seats (suc n) told more own.1 none may)
  entered seats n (Says e ∷ told) more own none may = by_entry e own.0 none (λ f. entered seats n told more own.1 f may) where
    by_entry : (e : PlainEntry) → IsOfStep (Says e) → run_count (Says e ∷ told) ≡ 0
        → (run_count told ≡ 0 → may_tell allows seats spares (entries_from n told ++ more))
        → may_tell allows seats spares (e ∷ (entries_from n told ++ more))
    by_entry (PlainRun host id service request response hold) o none rest = absurd (omega (arith, none))
    by_entry (PlainRestart host inc) o none rest = absurd o
    by_entry e o none rest = (tt, rest none)

module _ {A : Type 0} (allows : Allows A) (always : AnswersAlways allows) (s : Settings) (patient : 1 ≤ s.resend)
    (w : World) (seats : List (Option (A × ℕ))) (spares : List (A × ℕ)) (st : Stands w seats spares) where
  abbrev Verdict : (List Answer → Outcome) → Type 0
  Verdict o = Halts o ⊎ (Passes allows seats spares o ⊎ Answers allows seats spares o)

  stops : (f : WorldFault) → Verdict (λ cs. Refused f)
  stops f = inl (record { refused = λ cs. (f, refl) })

  either : (c : Bool) (o p : List Answer → Outcome) → Verdict o → Verdict p → Verdict (λ cs. cond c (o cs) (p cs))
  either true o p on off = on
  either false o p on off = off

  -- a host's name, and its place
  own_name : (id : HostId) (h : Host) → host_at w id ≡ Some h → HasOwnName id h
  own_name id h here = subst (λ (k : ℕ). HasOwnName (record { 0 = k }) h) (let e : 0 + id.0 ≡ id.0 = omega arith in e) (named 0 w.hosts id.0 h st.names here)

  after_names : (id : HostId) (h : Host) → HasOwnName id h → AllNamed 0 (slice_set w.hosts id.0 h)
  after_names id h new =
      named_set 0 w.hosts id.0 h st.names (subst (λ (k : ℕ). HasOwnName (record { 0 = k }) h) (let e : id.0 ≡ 0 + id.0 = omega arith in e) new)

  -- a step that asks no service
  quiet_step : (id : HostId) (first : List PlainEntry) (work : Work) (o : List Answer → Outcome) → IsOwnStep id work → has_run work.told ≡ false
      → shown first ≡ [] → ((more : List PlainEntry) → may_tell allows seats spares more → may_tell allows seats spares (first ++ more))
      → ((cs : List Answer) → o cs ≡ stepped (answering cs w) id first work) → Verdict o
  quiet_step id first work o own unasked none enters e =
      let n : ℕ = length w.packets in
      let quiet : run_count work.told ≡ 0 = no_run work.told unasked in
      inr (inl (record {
        next = stepped_world w id work;
        told = step_told w first work;
        seats' = seats;
        spares' = spares;
        stands =
            record { names = after_names id work.host own.name; many = st.many ∙ sym (length-set w.hosts id.0 work.host); boxed = st.boxed; spare = st.spare };
        none = shown-append first (entries_from n work.told) ∙ (ap (λ xs. xs ++ shown (entries_from n work.told)) none ∙ shown-quiet n work.told quiet);
        back = λ more may. subst (may_tell allows seats spares) (sym (append_assoc first (entries_from n work.told) more))
            (enters (entries_from n work.told ++ more) (entered allows spares seats n work.told more own.said quiet may));
        done = λ cs. e cs ∙ ap (λ left. Done (record { world = answering left (stepped_world w id work); told = step_told w first work }))
            (unasked_left work.told cs unasked);
      }))

  -- a datagram that comes
  module _ (id : HostId) (h : Host) (here : host_at w id ≡ Some h) (first : List PlainEntry) (none : shown first ≡ [])
      (enters : (more : List PlainEntry) → may_tell allows seats spares more → may_tell allows seats spares (first ++ more))
      (o : Option Packet) (to : IfSome o (λ p. receiver p ≡ id)) where
    abbrev n : ℕ
    n = length w.packets

    abbrev step : Answer → Work
    step c = arrival_step s h (own_clock w id) o c

    own : (c : Answer) → IsOwnStep id (step c)
    own c = arrival_named s id h (own_clock w id) o c (own_name id h here) to

    name : h.id ≡ id
    name = (own_name id h here).name

    seat : In seats h.id.0
    seat = subst (λ (x : HostId). In seats x.0) (sym name) (full seats id.0 st.boxed (omega (arith, slice_get_within w.hosts id.0 h here, st.many)))

    -- the parts of what is told with an answer: what stands before the first `run` line, that line, and what stands behind it
    record Shape (a : Answer) : Type 0 where
      pub before : List Told
      pub call : CallId
      pub service : ℕ
      pub request : List ℕ
      pub after : List Told
      pub is : (step a).told ≡ before ++ (Says (PlainRun h.id call service request a.bytes a.hold) ∷ after)
      pub quiet : run_count before ≡ 0

    -- a second answer, which is another one
    abbrev other : Answer → Answer
    other a = record a { hold = suc a.hold }

    shape : (a : Answer) → has_run (step a).told ≡ true → Shape a
    shape a asks = by_alike (arrival_alike s h (own_clock w id) o a (other a)) where
      by_alike : Alike a (other a) h.id (step a) (step (other a)) → Shape a
      by_alike (inr p) = record { before = p.before; call = p.id; service = p.service; request = p.request; after = p.after; is = p.first; quiet = p.quiet }
      by_alike (inl same) =
          let f = found (step a).told asks in
          let run : Told = Says (PlainRun f.host f.id f.service f.request f.response f.hold) in
          let there : Contains (step a).told run =
          subst (λ ts. Contains ts run) (sym f.is) (Contains-append_right f.before (run ∷ f.after) run (zero, omega arith, refl)) in
          let there' : Contains (step (other a)).told run = subst (λ (v : Work). Contains v.told run) same there in
          let g = one.answer_told s h (own_clock w id) o a f.host f.id f.service f.request f.response f.hold there in
          let g' = one.answer_told s h (own_clock w id) o (other a) f.host f.id f.service f.request f.response f.hold there' in
          absurd (omega (arith, g.1, g'.1))

    -- the same is asked, whatever is answered
    same_question : (a b : Answer) → question (step a).told ≡ question (step b).told
    same_question a b = by_alike (arrival_alike s h (own_clock w id) o a b) where
      by_alike : Alike a b h.id (step a) (step b) → question (step a).told ≡ question (step b).told
      by_alike (inl same) = ap (λ (v : Work). question v.told) same
      by_alike (inr p) =
          ap question p.first ∙ first_question p.before h.id p.id p.service p.request a.bytes a.hold p.after p.quiet
          ∙ sym (ap question p.second ∙ first_question p.before h.id p.id p.service p.request b.bytes b.hold p.other p.quiet)

    asked : (a : Answer) (x : Shape a) → question (step a).told ≡ Some (h.id, (x.service, x.request))
    asked a x = ap question x.is ∙ first_question x.before h.id x.call x.service x.request a.bytes a.hold x.after x.quiet

    -- what the box may answer to what is asked
    answer_asked : (d : Answer) (x : Shape d) (a : Answer) (y : Shape a) → allows seat.box.0 seat.box.1 x.service x.request a.bytes a.hold
        → allows seat.box.0 seat.box.1 y.service y.request a.bytes a.hold
    answer_asked d x a y may = by_same x.service x.request y.service y.request (sym (asked d x) ∙ (same_question d a ∙ asked a y)) may where
      by_same : (k : ℕ) (q : List ℕ) (k' : ℕ) (q' : List ℕ)
          → ◌≡◌ {A = Option Question} (Some (h.id, (k, q))) (Some (h.id, (k', q')))
          → allows seat.box.0 seat.box.1 k q a.bytes a.hold → allows seat.box.0 seat.box.1 k' q' a.bytes a.hold
      by_same k q k' q' e may =
          let ks : k ≡ k' = ap number_asked e in
          let qs : q ≡ q' = ap bytes_asked e in
          subst (λ (x : ℕ). allows seat.box.0 seat.box.1 x q' a.bytes a.hold) ks
          (subst (λ (x : List ℕ). allows seat.box.0 seat.box.1 k x a.bytes a.hold) qs may)

    abbrev seats_behind : List (Option (A × ℕ))
    seats_behind = slice_set seats h.id.0 (option_map (λ b. (b.0, b.1 + 1)) (place_of seats h.id.0))

    -- a step whose service is asked, with an answer that its box may give
    asked_step : (a : Answer) (x : Shape a) → has_run (step a).told ≡ true → allows seat.box.0 seat.box.1 x.service x.request a.bytes a.hold
        → Answers allows seats spares (λ cs. arrives_at s (answering cs w) id first o (Some h))
    asked_step a x asks may =
        let next : ℕ = n + length (packets_in x.before) in
        let run : PlainEntry = PlainRun h.id x.call x.service x.request a.bytes a.hold in
        let lines : entries_from n (step a).told ≡ entries_from n x.before ++ (run ∷ entries_from next x.after) =
        ap (entries_from n) x.is ∙ entries_from-append n x.before (Says run ∷ x.after) in
        let count : run_count (step a).told ≡ run_count x.before + run_count (Says run ∷ x.after) =
        ap run_count x.is ∙ run_count-append x.before (Says run ∷ x.after) in
        let calm : run_count x.after ≡ 0 = omega (arith, count, one.asked_once s h (own_clock w id) o a, x.quiet) in
        let parts = of_parts x.before (Says run ∷ x.after) (subst (AllByRecursion IsOfStep) x.is (own a).said) in
        let given : MayAnswer allows (place_of seats h.id.0) x.service x.request a.bytes a.hold =
        subst (λ (b : Option (A × ℕ)). MayAnswer allows b x.service x.request a.bytes a.hold) (sym seat.is) may in
        record {
          answer = a;
          next = stepped_world w id (step a);
          told = step_told w first (step a);
          seats' = seats_behind;
          stands = record {
            names = after_names id (step a).host (own a).name;
            many = length-set seats h.id.0 (option_map (λ b. (b.0, b.1 + 1)) (place_of seats h.id.0))
                ∙ (st.many ∙ sym (length-set w.hosts id.0 (step a).host));
            boxed = full_change (λ b. (b.0, b.1 + 1)) seats h.id.0 st.boxed;
            spare = st.spare;
          };
          shows = shown-append first (entries_from n (step a).told)
              ∙ (ap (λ xs. xs ++ shown (entries_from n (step a).told)) none
              ∙ (ap shown lines
              ∙ (shown-append (entries_from n x.before) (run ∷ entries_from next x.after)
              ∙ (ap (λ xs. xs ++ shown (run ∷ entries_from next x.after)) (shown-quiet n x.before x.quiet)
              ∙ ap (λ xs. a ∷ xs) (shown-quiet next x.after calm)))));
          back = λ more told.
              subst (may_tell allows seats spares) (sym (append_assoc first (entries_from n (step a).told) more))
              (enters (entries_from n (step a).told ++ more)
              (subst (λ es. may_tell allows seats spares (es ++ more)) (sym lines)
              (subst (may_tell allows seats spares) (sym (append_assoc (entries_from n x.before) (run ∷ entries_from next x.after) more))
              (entered allows spares seats n x.before (run ∷ (entries_from next x.after ++ more)) parts.0 x.quiet
              (given, entered allows spares seats_behind next x.after more parts.1.1 calm told)))));
          done = λ cs. ap (λ left. Done (record { world = answering left (stepped_world w id (step a)); told = step_told w first (step a) }))
              (asked_left (step a).told (a ∷ cs) asks);
        }

    arrival : Verdict (λ cs. arrives_at s (answering cs w) id first o (Some h))
    arrival = by_run (has_run (step (next_answer [])).told) refl where
      by_run : (b : Bool) → has_run (step (next_answer [])).told ≡ b → Verdict (λ cs. arrives_at s (answering cs w) id first o (Some h))
      by_run false unasked =
          quiet_step id first (step (next_answer [])) (λ cs. arrives_at s (answering cs w) id first o (Some h)) (own (next_answer [])) unasked none enters
          (λ cs. ap (λ (v : Work). stepped (answering cs w) id first v)
          (one.same_unasked s h (own_clock w id) o (next_answer []) (next_answer cs) unasked))
      by_run true asks =
          let d : Answer = next_answer [] in
          let x = shape d asks in
          let g = always seat.box.0 seat.box.1 x.service x.request in
          let asks' : has_run (step g.answer).told ≡ true = sym (one.asked_alike s h (own_clock w id) o d g.answer) ∙ asks in
          let y = shape g.answer asks' in
          inr (inr (asked_step g.answer y asks' (answer_asked d x g.answer y g.may)))

  -- ---- events

  calls_case : (client server : HostId) (number : ℕ) (request : List ℕ) (o : Option Host) → host_at w client ≡ o
      → Verdict (λ cs. calls_from s (answering cs w) client server number request o)
  calls_case client server number request None here = stops fault.NoSuchHost
  calls_case client server number request (Some h) here = by_cause (start_fault s h server request) where
    by_cause : (c : Option StartFault) → Verdict (λ cs. started s (answering cs w) client server number request h c)
    by_cause (Some why) = stops (fault.Start why)
    by_cause None =
        quiet_step client [] (call_step s h (own_clock w client) server number request) (λ cs. started s (answering cs w) client server number request h None)
        (call_named s client h (own_clock w client) server number request (own_name client h here))
        (one.call_unasked s h (own_clock w client) server number request) refl (λ more may. may) (λ cs. refl)

  arrives_case : (id : HostId) (first : List PlainEntry) (packet : Option Packet) → IfSome packet (λ p. receiver p ≡ id) → shown first ≡ []
      → ((more : List PlainEntry) → may_tell allows seats spares more → may_tell allows seats spares (first ++ more))
      → (o : Option Host) → host_at w id ≡ o → Verdict (λ cs. arrives_at s (answering cs w) id first packet o)
  arrives_case id first packet to none enters None here = stops fault.NoSuchHost
  arrives_case id first packet to none enters (Some h) here = arrival id h here first none enters packet to

  delivers_case : (n : ℕ) (o : Option SentPacket) → Verdict (λ cs. delivered s (answering cs w) n o)
  delivers_case n None = stops fault.NoSuchPacket
  delivers_case n (Some sent) =
      either (is_late s w sent.tick) (λ cs. Refused (fault.Late sent.tick w.clock))
      (λ cs. arrives_at s (answering cs w) (receiver sent.packet) (PlainDeliver n ∷ []) (Some sent.packet) (host_at w (receiver sent.packet)))
      (stops (fault.Late sent.tick w.clock))
      (arrives_case (receiver sent.packet) (PlainDeliver n ∷ []) (Some sent.packet) refl refl (λ more may. (tt, may)) (host_at w (receiver sent.packet)) refl)

  turns_case : (id : HostId) (o : Option Host) → host_at w id ≡ o → Verdict (λ cs. turns s (answering cs w) id o)
  turns_case id None here = stops fault.NoSuchHost
  turns_case id (Some h) here =
      quiet_step id [] (turn_step s h (own_clock w id)) (λ cs. turns s (answering cs w) id (Some h))
      (turn_named s id patient h (own_clock w id) (own_name id h here))
      (one.turn_unasked s h (own_clock w id)) refl (λ more may. may) (λ cs. refl)

  restarts_case : (id : HostId) (o : Option Host) (k : ℕ) → host_at w id ≡ o → w.spares ≡ k → Verdict (λ cs. restarts s (answering cs w) id o k)
  restarts_case id None k here e = stops fault.NoSuchHost
  restarts_case id (Some h) zero here e = stops fault.NoSpare
  restarts_case id (Some h) (suc k) here e =
      let count : length spares ≡ suc k = sym st.spare ∙ e in
      let box = last spares k count in
      inr (inl (record {
        next = record w { hosts = slice_set w.hosts id.0 (new_host s id (h.inc + 1) h.last); spares = k };
        told = PlainRestart id (h.inc + 1) ∷ [];
        seats' = slice_set seats id.0 (last_of spares);
        spares' = front_of spares;
        stands = record {
          names = after_names id (new_host s id (h.inc + 1) h.last) (new_named s id (h.inc + 1) h.last);
          many = length-set seats id.0 (last_of spares) ∙ (st.many ∙ sym (length-set w.hosts id.0 (new_host s id (h.inc + 1) h.last)));
          boxed = subst (λ o. AllFull (slice_set seats id.0 o)) (sym box.is) (full_set seats id.0 box.box st.boxed);
          spare = omega (arith, length-take (length spares - 1) spares, count);
        };
        none = refl;
        back = λ more may. (tt, may);
        done = λ cs. refl;
      }))

  injects_case : (id : HostId) (bytes : List ℕ) (o : Option Host) (read : Option (WirePacket × List ℕ)) → host_at w id ≡ o
      → Verdict (λ cs. injected s (answering cs w) id bytes o read)
  injects_case id bytes None read here = stops fault.NoSuchHost
  injects_case id bytes (Some h) (Some read) here = stops fault.Decodes
  injects_case id bytes (Some h) None here = arrives_case id (PlainInject id bytes ∷ []) None tt refl (λ more may. (tt, may)) (Some h) here

  -- the world after an event without a step
  quiet_change : (next : World) (told : List PlainEntry) (o : List Answer → Outcome) → next.hosts ≡ w.hosts → next.spares ≡ w.spares → shown told ≡ []
      → ((more : List PlainEntry) → may_tell allows seats spares more → may_tell allows seats spares (told ++ more))
      → ((cs : List Answer) → o cs ≡ Done (record { world = answering cs next; told = told })) → Verdict o
  quiet_change next told o hosts left none back e = inr (inl (record {
    next = next;
    told = told;
    seats' = seats;
    spares' = spares;
    stands = record { names = subst (AllNamed 0) (sym hosts) st.names; many = st.many ∙ ap length (sym hosts); boxed = st.boxed; spare = left ∙ st.spare };
    none = none;
    back = back;
    done = e;
  }))

  shifts_case : (id : HostId) (n : ℕ) (o : Option Host) → Verdict (λ cs. shifted s (answering cs w) id n o)
  shifts_case id n None = stops fault.NoSuchHost
  shifts_case id n (Some h) =
      let next : World = record w { leads = slice_set w.leads id.0 n } in
      let done : List Answer → Outcome = λ cs. Done (record { world = answering cs next; told = PlainShift id n ∷ [] }) in
      either (nat_lt (band s) n) (λ cs. Refused (fault.OutOfBand n (band s)))
      (λ cs. cond (nat_lt (w.clock + n) h.last) (Refused (fault.Back h.last (w.clock + n))) (done cs)) (stops (fault.OutOfBand n (band s)))
      (either (nat_lt (w.clock + n) h.last) (λ cs. Refused (fault.Back h.last (w.clock + n))) done (stops (fault.Back h.last (w.clock + n)))
      (quiet_change next (PlainShift id n ∷ []) done refl refl refl (λ more may. (tt, may)) (λ cs. refl)))

  pub verdict : (e : Event) (bytes : List ℕ) → Verdict (λ cs. outcome s (answering cs w) e bytes)
  unfolding outcome
  verdict (event.Call client server number) bytes =
      either (is_some (host_at w server)) (λ cs. calls_from s (answering cs w) client server number bytes (host_at w client)) (λ cs. Refused fault.NoSuchHost)
      (calls_case client server number bytes (host_at w client) refl) (stops fault.NoSuchHost)
  verdict (event.Deliver n) bytes = delivers_case n (slice_get w.packets n)
  verdict event.Clock bytes =
      let next : World = record w { clock = w.clock + 1 } in
      let done : List Answer → Outcome = λ cs. Done (record { world = answering cs next; told = PlainClock (w.clock + 1) ∷ [] }) in
      either (w.clock == last_tick) (λ cs. Refused fault.ClockEnd) done (stops fault.ClockEnd)
      (quiet_change next (PlainClock (w.clock + 1) ∷ []) done refl refl refl (λ more may. (tt, may)) (λ cs. refl))
  verdict (event.Turn id) bytes = turns_case id (host_at w id) refl
  verdict (event.Restart id) bytes = restarts_case id (host_at w id) w.spares refl refl
  verdict (event.Inject id) bytes = injects_case id bytes (host_at w id) (packet_in s.wire bytes) refl
  verdict (event.Shift id n) bytes = shifts_case id n (host_at w id)
