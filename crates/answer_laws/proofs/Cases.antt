-- An event with two lists of answers: it is refused, or no service is asked, or one is.
use Rattle.std.proofs.Common.{◌≡◌, ℕ, zero, suc, ◌+◌, ◌-◌, ◌≤◌, Bool, true, false, cond, Option, Some, None, List, [], ◌∷◌, ◌++◌, length, refl, sym}
use Rattle.std.proofs.Common.{ap, subst, ◌∙◌, arith, append_assoc, ◌⊎◌, inl, inr}
use Rattle.std.proofs.lemmas.List.{length-set, length-take}
use Rattle.std.proofs.lemmas.Option.{slice_get_within}
use Rattle.std.specs.Prelude.{◌==◌, nat_lt, is_some, drop, slice_get, slice_set, IfSome}
use Rattle.std.specs.Option.{option_map}
use Rattle.std.specs.List.{AllByRecursion, Contains}
use Rattle.std.proofs.lemmas.List.Elements.{Contains-append_right}
use Rattle.homa_plain.specs.declared.id.HostId.{HostId}
use Rattle.homa_plain.specs.declared.packet.Packet.{Packet as WirePacket}
use Rattle.homa_plain.specs.declared.settings.Settings.{Settings}
use Rattle.homa_plain.specs.declared.event.Event.{Event}
use Rattle.homa_plain.specs.declared.event.Event.TheVariants as event
use Rattle.homa_plain.specs.declared.fault.StartFault.{StartFault}
use Rattle.homa_plain.specs.declared.fault.WorldFault.{WorldFault}
use Rattle.homa_plain.specs.declared.fault.WorldFault.TheVariants as fault
use Rattle.homa_plain.specs.Settings.{band}
use Rattle.homa_plain.specs.Wire.{packet_in}
use Rattle.homa_plain.specs.Entries.{PlainEntry, PlainRun, PlainDeliver, PlainInject, PlainClock, PlainRestart, PlainShift}
use Rattle.homa_plain.specs.Packets.{Packet, receiver}
use Rattle.homa_plain.specs.Host.{Host, new_host, Told, Says, packets_in, entries_from}
use Rattle.homa_plain.specs.Rules.{Answer}
use Rattle.homa_plain.specs.Work.{Work}
use Rattle.homa_plain.specs.Steps.{has_run, call_step, arrival_step, turn_step, start_fault}
use Rattle.homa_plain.specs.World.{World, SentPacket, Outcome, Done, Refused, outcome, host_at, own_clock, is_late, last_tick, next_answer}
use Rattle.homa_plain.specs.World.{answers_left, stepped, started, calls_from, arrives_at, delivered, turns, restarts, injected, shifted}
use Rattle.homa_plain.specs.Answers.{answering, shown}
use Rattle.homa_service.specs.Table.{place_of, last_of, front_of}
use Rattle.step_laws.specs.StepLaws.{run_count}
use Rattle.step_laws.proofs.ToldBy.{run_count-append}
use Rattle.step_laws.proofs.OneAnswer as one
use Rattle.event_laws.specs.Named.{IsOwnStep, IsOfStep}
use Rattle.event_laws.specs.Stepping.{stepped_world, step_told}
use Rattle.event_laws.proofs.Names.{call_named, arrival_named, turn_named, new_named}
use Rattle.step_moves.specs.Worlds.{HasOwnName}
use Rattle.step_moves.proofs.Inner.{entries_from-append}
use Rattle.box_laws.specs.Boxes.{Allows, MayAnswer, may_tell}
use Rattle.answer_laws.proofs.OneWay.{AnswersOneWay}
use Rattle.answer_laws.proofs.Alike.{Parts, Alike, arrival_alike}
use Rattle.answer_laws.proofs.Seats.{AllNamed, named, named_set, AllFull, In, full, full_set, full_change, last}
use Rattle.answer_laws.proofs.Told.{shown-append, shown-quiet, of_parts, passed, found, no_run}

-- a world with its boxes: hosts have their own names, each has a box, and there are as many spares
pub record Stands {A : Type 0} (w : World) (seats : List (Option (A × ℕ))) (spares : List (A × ℕ)) : Type 0 where
  pub names : AllNamed 0 w.hosts
  pub many : length seats ≡ length w.hosts
  pub boxed : AllFull seats
  pub spare : w.spares ≡ length spares

-- an event is refused
pub record Stops (o p : Outcome) : Type 0 where
  pub cause : WorldFault
  pub other : WorldFault
  pub first : o ≡ Refused cause
  pub second : p ≡ Refused other

-- where two lists of answers are used, one for an event and one for the same event in another run
pub record Quiet {A : Type 0} (allows : Allows A) (seats : List (Option (A × ℕ))) (spares : List (A × ℕ)) (these those : List Answer)
    (o p : Outcome) : Type 0 where
  pub next : World
  pub told : List PlainEntry
  pub seats' : List (Option (A × ℕ))
  pub spares' : List (A × ℕ)
  pub stands : Stands next seats' spares'
  pub none : shown told ≡ []
  pub passes : (more : List PlainEntry) → may_tell allows seats spares (told ++ more) → may_tell allows seats' spares' more
  pub first : o ≡ Done (record { world = answering these next; told = told })
  pub second : p ≡ Done (record { world = answering those next; told = told })

-- a service is asked, and both answers are the same
pub record Asks {A : Type 0} (allows : Allows A) (seats : List (Option (A × ℕ))) (spares : List (A × ℕ)) (these those : List Answer)
    (o p : Outcome) : Type 0 where
  pub next : World
  pub next' : World
  pub told : List PlainEntry
  pub told' : List PlainEntry
  pub seats' : List (Option (A × ℕ))
  pub stands : Stands next seats' spares
  pub shows : shown told ≡ next_answer these ∷ []
  pub shows' : shown told' ≡ next_answer those ∷ []
  pub same : (more more' : List PlainEntry) → may_tell allows seats spares (told ++ more) → may_tell allows seats spares (told' ++ more')
      → next_answer these ≡ next_answer those
  pub alike : next_answer these ≡ next_answer those → (next ≡ next') × (told ≡ told')
  pub passes : (more : List PlainEntry) → may_tell allows seats spares (told ++ more) → may_tell allows seats' spares more
  pub first : o ≡ Done (record { world = answering (drop 1 these) next; told = told })
  pub second : p ≡ Done (record { world = answering (drop 1 those) next'; told = told' })

answer_eq : (a b : Answer) → a.bytes ≡ b.bytes → a.hold ≡ b.hold → a ≡ b
answer_eq a b e f = ap (λ (r : List ℕ). record { bytes = r; hold = a.hold }) e ∙ ap (λ (h : ℕ). record { bytes = b.bytes; hold = h }) f

unasked_left : (told : List Told) (these : List Answer) → has_run told ≡ false → answers_left told these ≡ these
unasked_left told these e = ap (λ b. cond b (drop 1 these) these) e

asked_left : (told : List Told) (these : List Answer) → has_run told ≡ true → answers_left told these ≡ drop 1 these
asked_left told these e = ap (λ b. cond b (drop 1 these) these) e

module _ {A : Type 0} (allows : Allows A) (one_way : AnswersOneWay allows) (s : Settings) (patient : 1 ≤ s.resend)
    (w : World) (seats : List (Option (A × ℕ))) (spares : List (A × ℕ)) (st : Stands w seats spares) (these those : List Answer) where
  abbrev Verdict : Outcome → Outcome → Type 0
  Verdict o p = Stops o p ⊎ (Quiet allows seats spares these those o p ⊎ Asks allows seats spares these those o p)

  stops : (f : WorldFault) → Verdict (Refused f) (Refused f)
  stops f = inl (record { cause = f; other = f; first = refl; second = refl })

  either : (c : Bool) (o p o' p' : Outcome) → Verdict o o' → Verdict p p' → Verdict (cond c o p) (cond c o' p')
  either true o p o' p' on off = on
  either false o p o' p' on off = off

  -- a host's name, and its place
  own_name : (id : HostId) (h : Host) → host_at w id ≡ Some h → HasOwnName id h
  own_name id h here = subst (λ (k : ℕ). HasOwnName (record { 0 = k }) h) (let e : 0 + id.0 ≡ id.0 = omega arith in e) (named 0 w.hosts id.0 h st.names here)

  after_names : (id : HostId) (h : Host) → HasOwnName id h → AllNamed 0 (slice_set w.hosts id.0 h)
  after_names id h new =
      named_set 0 w.hosts id.0 h st.names (subst (λ (k : ℕ). HasOwnName (record { 0 = k }) h) (let e : id.0 ≡ 0 + id.0 = omega arith in e) new)

  -- a step that asks no service
  quiet_step : (id : HostId) (first : List PlainEntry) (work : Work) (o p : Outcome) → IsOwnStep id work → has_run work.told ≡ false
      → shown first ≡ [] → ((more : List PlainEntry) → may_tell allows seats spares (first ++ more) → may_tell allows seats spares more)
      → o ≡ stepped (answering these w) id first work → p ≡ stepped (answering those w) id first work → Verdict o p
  quiet_step id first work o p own unasked none passes e f =
      let n : ℕ = length w.packets in
      let quiet : run_count work.told ≡ 0 = no_run work.told unasked in
      let done : (cs : List Answer)
      → stepped (answering cs w) id first work ≡ Done (record { world = answering cs (stepped_world w id work); told = step_told w first work })
      = λ cs. ap (λ left. Done (record { world = answering left (stepped_world w id work); told = step_told w first work }))
      (unasked_left work.told cs unasked) in
      inr (inl (record {
        next = stepped_world w id work;
        told = step_told w first work;
        seats' = seats;
        spares' = spares;
        stands =
            record { names = after_names id work.host own.name; many = st.many ∙ sym (length-set w.hosts id.0 work.host); boxed = st.boxed; spare = st.spare };
        none = shown-append first (entries_from n work.told) ∙ (ap (λ xs. xs ++ shown (entries_from n work.told)) none ∙ shown-quiet n work.told quiet);
        passes = λ more may. passed allows spares seats n work.told more own.said quiet
            (passes (entries_from n work.told ++ more) (subst (may_tell allows seats spares) (append_assoc first (entries_from n work.told) more) may));
        first = e ∙ done these;
        second = f ∙ done those;
      }))

  -- the lines of a step whose service answered: those before the `run` line, and those behind it
  module _ (id : HostId) (h : Host) (here : host_at w id ≡ Some h) (first : List PlainEntry) (none : shown first ≡ [])
      (enters : (more : List PlainEntry) → may_tell allows seats spares (first ++ more) → may_tell allows seats spares more) where
    abbrev n : ℕ
    n = length w.packets

    name : h.id ≡ id
    name = (own_name id h here).name

    seat : In seats id.0
    seat = full seats id.0 st.boxed (omega (arith, slice_get_within w.hosts id.0 h here, st.many))

    -- what is told behind what stands before the `run` line
    reached : (a : Answer) (work : Work) (before after : List Told) (run : PlainEntry) (more : List PlainEntry)
        → work.told ≡ before ++ (Says run ∷ after) → AllByRecursion IsOfStep work.told → run_count before ≡ 0
        → may_tell allows seats spares (step_told w first work ++ more) → (k : ℕ) × may_tell allows seats spares (run ∷ (entries_from k after ++ more))
    reached a work before after run more is own quiet may =
        let next : ℕ = n + length (packets_in before) in
        let parts = of_parts before (Says run ∷ after) (subst (AllByRecursion IsOfStep) is own) in
        let lines : entries_from n work.told ≡ entries_from n before ++ (run ∷ entries_from next after) =
        ap (entries_from n) is ∙ entries_from-append n before (Says run ∷ after) in
        let in_step =
        enters (entries_from n work.told ++ more) (subst (may_tell allows seats spares) (append_assoc first (entries_from n work.told) more) may) in
        let cut = subst (λ es. may_tell allows seats spares (es ++ more)) lines in_step in (
          next,
          passed allows spares seats n before (run ∷ (entries_from next after ++ more)) parts.0 quiet
              (subst (may_tell allows seats spares) (append_assoc (entries_from n before) (run ∷ entries_from next after) more) cut),
        )

    abbrev seats_behind : HostId → List (Option (A × ℕ))
    seats_behind host = slice_set seats host.0 (option_map (λ b. (b.0, b.1 + 1)) (place_of seats host.0))

    -- an answer that is told of this host is one that its box may give
    allowed : (request response : List ℕ) (service hold : ℕ) → MayAnswer allows (place_of seats h.id.0) service request response hold
        → allows seat.box.0 seat.box.1 service request response hold
    allowed request response service hold may =
        let is : place_of seats h.id.0 ≡ Some seat.box = ap (λ (x : HostId). place_of seats x.0) name ∙ seat.is in
        subst (λ o. MayAnswer allows o service request response hold) is may

    -- what an arrival shows where its service answered
    one_shown : (a : Answer) (work : Work) (before after : List Told) (p : PlainEntry) → work.told ≡ before ++ (Says p ∷ after) → run_count before ≡ 0
        → run_count after ≡ 0 → ((es : List PlainEntry) → shown (p ∷ es) ≡ a ∷ shown es)
        → shown (step_told w first work) ≡ a ∷ []
    one_shown a work before after p is quiet calm tells =
        let next : ℕ = n + length (packets_in before) in
        let lines : entries_from n work.told ≡ entries_from n before ++ (p ∷ entries_from next after) =
        ap (entries_from n) is ∙ entries_from-append n before (Says p ∷ after) in
        shown-append first (entries_from n work.told)
        ∙ (ap (λ xs. xs ++ shown (entries_from n work.told)) none
        ∙ (ap shown lines
        ∙ (shown-append (entries_from n before) (p ∷ entries_from next after)
        ∙ (ap (λ xs. xs ++ shown (p ∷ entries_from next after)) (shown-quiet n before quiet)
        ∙ (tells (entries_from next after) ∙ ap (λ xs. a ∷ xs) (shown-quiet next after calm))))))

    few : (work : Work) (before after : List Told) (p : PlainEntry) → run_count work.told ≤ 1 → work.told ≡ before ++ (Says p ∷ after)
        → run_count before ≡ 0 → ((ts : List Told) → run_count (Says p ∷ ts) ≡ suc (run_count ts)) → run_count after ≡ 0
    few work before after p most is quiet counts =
        let e : run_count work.told ≡ run_count before + run_count (Says p ∷ after) = ap run_count is ∙ run_count-append before (Says p ∷ after) in
        omega (arith, e, counts after, most, quiet)

    module _ (o : Option Packet) (to : IfSome o (λ p. receiver p ≡ id)) where
      abbrev step : Answer → Work
      step c = arrival_step s h (own_clock w id) o c

      own : (c : Answer) → IsOwnStep id (step c)
      own c = arrival_named s id h (own_clock w id) o c (own_name id h here) to

      abbrev told : Answer → List PlainEntry
      told c = step_told w first (step c)

      -- an arrival whose service is asked
      asked_step : (host : HostId)
          (p : Parts (next_answer these) (next_answer those) host (step (next_answer these)).told (step (next_answer those)).told)
          → has_run (step (next_answer these)).told ≡ true
          → ((more more' : List PlainEntry) → may_tell allows seats spares (told (next_answer these) ++ more) → may_tell allows seats spares
          (told (next_answer those) ++ more') → next_answer these ≡ next_answer those)
          → Asks allows seats spares these those (stepped (answering these w) id first (step (next_answer these)))
          (stepped (answering those w) id first (step (next_answer those)))
      asked_step host p asks same =
          let a : Answer = next_answer these in
          let b : Answer = next_answer those in
          let asks' : has_run (step b).told ≡ true = sym (one.asked_alike s h (own_clock w id) o a b) ∙ asks in
          let run : PlainEntry = PlainRun host p.id p.service p.request a.bytes a.hold in
          let run' : PlainEntry = PlainRun host p.id p.service p.request b.bytes b.hold in
          let calm = few (step a) p.before p.after run (one.asked_once s h (own_clock w id) o a) p.first p.quiet (λ ts. refl) in
          let calm' = few (step b) p.before p.other run' (one.asked_once s h (own_clock w id) o b) p.second p.quiet (λ ts. refl) in
          record {
            next = stepped_world w id (step a);
            next' = stepped_world w id (step b);
            told = told a;
            told' = told b;
            seats' = seats_behind host;
            stands = record {
              names = after_names id (step a).host (own a).name;
              many =
                  length-set seats host.0 (option_map (λ b. (b.0, b.1 + 1)) (place_of seats host.0)) ∙ (st.many ∙ sym (length-set w.hosts id.0 (step a).host));
              boxed = full_change (λ b. (b.0, b.1 + 1)) seats host.0 st.boxed;
              spare = st.spare;
            };
            shows = one_shown a (step a) p.before p.after run p.first p.quiet calm (λ es. refl);
            shows' = one_shown b (step b) p.before p.other run' p.second p.quiet calm' (λ es. refl);
            same = same;
            alike = λ e. (ap (λ c. stepped_world w id (step c)) e, ap told e);
            passes = λ more may.
                let r = reached a (step a) p.before p.after run more p.first (own a).said p.quiet may in
                passed allows spares (seats_behind host) r.0 p.after more
                (of_parts p.before (Says run ∷ p.after) (subst (AllByRecursion IsOfStep) p.first (own a).said)).1.1 calm r.1.1;
            first = ap (λ left. Done (record { world = answering left (stepped_world w id (step a)); told = told a })) (asked_left (step a).told these asks);
            second = ap (λ left. Done (record { world = answering left (stepped_world w id (step b)); told = told b })) (asked_left (step b).told those asks');
          }

      -- two answers that the host's box may give
      one_given : (p : Parts (next_answer these) (next_answer those) h.id (step (next_answer these)).told (step (next_answer those)).told)
          (more more' : List PlainEntry)
          → may_tell allows seats spares (told (next_answer these) ++ more) → may_tell allows seats spares (told (next_answer those) ++ more')
          → next_answer these ≡ next_answer those
      one_given p more more' may may' =
          let a : Answer = next_answer these in
          let b : Answer = next_answer those in
          let r = reached a (step a) p.before p.after (PlainRun h.id p.id p.service p.request a.bytes a.hold) more p.first (own a).said p.quiet may in
          let r' = reached b (step b) p.before p.other (PlainRun h.id p.id p.service p.request b.bytes b.hold) more' p.second (own b).said p.quiet may' in
          let e = one_way seat.box.0 seat.box.1 p.service a.hold b.hold p.request a.bytes b.bytes (allowed p.request a.bytes p.service a.hold r.1.0)
          (allowed p.request b.bytes p.service b.hold r'.1.0) in
          answer_eq a b e.0 e.1

      -- an arrival that is the same with both answers, and tells a RUN
      same_step : step (next_answer these) ≡ step (next_answer those) → has_run (step (next_answer these)).told ≡ true
          → Asks allows seats spares these those (stepped (answering these w) id first (step (next_answer these)))
          (stepped (answering those w) id first (step (next_answer those)))
      same_step same asks =
          let a : Answer = next_answer these in
          let b : Answer = next_answer those in
          let f = found (step a).told asks in
          let run : Told = Says (PlainRun f.host f.id f.service f.request f.response f.hold) in
          let here' : Contains (step a).told run =
          subst (λ ts. Contains ts run) (sym f.is) (Contains-append_right f.before (run ∷ f.after) run (zero, omega arith, refl)) in
          let there : Contains (step b).told run = subst (λ (v : Work). Contains v.told run) same here' in
          let g = one.answer_told s h (own_clock w id) o a f.host f.id f.service f.request f.response f.hold here' in
          let g' = one.answer_told s h (own_clock w id) o b f.host f.id f.service f.request f.response f.hold there in
          let by_answer : (bytes : List ℕ) (hold : ℕ) → f.response ≡ bytes → f.hold ≡ hold
          → (step a).told ≡ f.before ++ (Says (PlainRun f.host f.id f.service f.request bytes hold) ∷ f.after)
          = λ bytes hold e k. f.is
          ∙ (ap (λ r. f.before ++ (Says (PlainRun f.host f.id f.service f.request r f.hold) ∷ f.after)) e
          ∙ ap (λ x. f.before ++ (Says (PlainRun f.host f.id f.service f.request bytes x) ∷ f.after)) k) in
          asked_step f.host
          (record {
            before = f.before;
            id = f.id;
            service = f.service;
            request = f.request;
            after = f.after;
            other = f.after;
            quiet = f.quiet;
            first = by_answer a.bytes a.hold g.0 g.1;
            second = ap (λ (v : Work). v.told) (sym same) ∙ by_answer b.bytes b.hold g'.0 g'.1;
          })
          asks (λ more more' may may'. answer_eq a b (sym g.0 ∙ g'.0) (sym g.1 ∙ g'.1))

      -- an arrival
      arrival : Verdict (arrives_at s (answering these w) id first o (Some h)) (arrives_at s (answering those w) id first o (Some h))
      arrival = by_run (has_run (step (next_answer these)).told) refl where
        by_alike : has_run (step (next_answer these)).told ≡ true
            → Alike (next_answer these) (next_answer those) h.id (step (next_answer these)) (step (next_answer those))
            → Verdict (arrives_at s (answering these w) id first o (Some h)) (arrives_at s (answering those w) id first o (Some h))
        by_alike asks (inl same) = inr (inr (same_step same asks))
        by_alike asks (inr parts) = inr (inr (asked_step h.id parts asks (one_given parts)))

        by_run : (b : Bool) → has_run (step (next_answer these)).told ≡ b
            → Verdict (arrives_at s (answering these w) id first o (Some h)) (arrives_at s (answering those w) id first o (Some h))
        by_run false unasked =
            quiet_step id first (step (next_answer these)) _ _ (own (next_answer these)) unasked none enters refl
            (ap (λ (v : Work). stepped (answering those w) id first v)
            (one.same_unasked s h (own_clock w id) o (next_answer these) (next_answer those) unasked))
        by_run true asks = by_alike asks (arrival_alike s h (own_clock w id) o (next_answer these) (next_answer those))

  -- ---- events

  calls_case : (client server : HostId) (number : ℕ) (request : List ℕ) (o : Option Host) → host_at w client ≡ o
      → Verdict (calls_from s (answering these w) client server number request o) (calls_from s (answering those w) client server number request o)
  calls_case client server number request None here = stops fault.NoSuchHost
  calls_case client server number request (Some h) here = by_cause (start_fault s h server request) where
    by_cause : (c : Option StartFault)
        → Verdict (started s (answering these w) client server number request h c) (started s (answering those w) client server number request h c)
    by_cause (Some why) = stops (fault.Start why)
    by_cause None =
        quiet_step client [] (call_step s h (own_clock w client) server number request) _ _
        (call_named s client h (own_clock w client) server number request (own_name client h here))
        (one.call_unasked s h (own_clock w client) server number request) refl (λ more may. may) refl refl

  arrives_case : (id : HostId) (first : List PlainEntry) (packet : Option Packet) → IfSome packet (λ p. receiver p ≡ id) → shown first ≡ []
      → ((more : List PlainEntry) → may_tell allows seats spares (first ++ more) → may_tell allows seats spares more)
      → (o : Option Host) → host_at w id ≡ o → Verdict (arrives_at s (answering these w) id first packet o) (arrives_at s (answering those w) id first packet o)
  arrives_case id first packet to none enters None here = stops fault.NoSuchHost
  arrives_case id first packet to none enters (Some h) here = arrival id h here first none enters packet to

  delivers_case : (n : ℕ) (o : Option SentPacket) → Verdict (delivered s (answering these w) n o) (delivered s (answering those w) n o)
  delivers_case n None = stops fault.NoSuchPacket
  delivers_case n (Some sent) =
      either (is_late s w sent.tick) _ _ _ _ (stops (fault.Late sent.tick w.clock))
      (arrives_case (receiver sent.packet) (PlainDeliver n ∷ []) (Some sent.packet) refl refl (λ more may. may.1) (host_at w (receiver sent.packet)) refl)

  turns_case : (id : HostId) (o : Option Host) → host_at w id ≡ o → Verdict (turns s (answering these w) id o) (turns s (answering those w) id o)
  turns_case id None here = stops fault.NoSuchHost
  turns_case id (Some h) here =
      quiet_step id [] (turn_step s h (own_clock w id)) _ _ (turn_named s id patient h (own_clock w id) (own_name id h here))
      (one.turn_unasked s h (own_clock w id)) refl (λ more may. may) refl refl

  restarts_case : (id : HostId) (o : Option Host) (k : ℕ) → host_at w id ≡ o → w.spares ≡ k
      → Verdict (restarts s (answering these w) id o k) (restarts s (answering those w) id o k)
  restarts_case id None k here e = stops fault.NoSuchHost
  restarts_case id (Some h) zero here e = stops fault.NoSpare
  restarts_case id (Some h) (suc k) here e =
      let count : length spares ≡ suc k = sym st.spare ∙ e in
      let box = last spares k count in
      inr (inl (record {
        next = record w { hosts = slice_set w.hosts id.0 (new_host s id (h.inc + 1) h.last); spares = k };
        told = PlainRestart id (h.inc + 1) ∷ [];
        seats' = slice_set seats id.0 (last_of spares);
        spares' = front_of spares;
        stands = record {
          names = after_names id (new_host s id (h.inc + 1) h.last) (new_named s id (h.inc + 1) h.last);
          many = length-set seats id.0 (last_of spares) ∙ (st.many ∙ sym (length-set w.hosts id.0 (new_host s id (h.inc + 1) h.last)));
          boxed = subst (λ o. AllFull (slice_set seats id.0 o)) (sym box.is) (full_set seats id.0 box.box st.boxed);
          spare = omega (arith, length-take (length spares - 1) spares, count);
        };
        none = refl;
        passes = λ more may. may.1;
        first = refl;
        second = refl;
      }))

  injects_case : (id : HostId) (bytes : List ℕ) (o : Option Host) (read : Option (WirePacket × List ℕ)) → host_at w id ≡ o
      → Verdict (injected s (answering these w) id bytes o read) (injected s (answering those w) id bytes o read)
  injects_case id bytes None read here = stops fault.NoSuchHost
  injects_case id bytes (Some h) (Some read) here = stops fault.Decodes
  injects_case id bytes (Some h) None here = arrives_case id (PlainInject id bytes ∷ []) None tt refl (λ more may. may.1) (Some h) here

  -- the world after an event without a step
  quiet_change : (next : World) (told : List PlainEntry) (o p : Outcome) → next.hosts ≡ w.hosts → next.spares ≡ w.spares → shown told ≡ []
      → ((more : List PlainEntry) → may_tell allows seats spares (told ++ more) → may_tell allows seats spares more)
      → o ≡ Done (record { world = answering these next; told = told }) → p ≡ Done (record { world = answering those next; told = told }) → Verdict o p
  quiet_change next told o p hosts left none passes e f = inr (inl (record {
    next = next;
    told = told;
    seats' = seats;
    spares' = spares;
    stands = record { names = subst (AllNamed 0) (sym hosts) st.names; many = st.many ∙ ap length (sym hosts); boxed = st.boxed; spare = left ∙ st.spare };
    none = none;
    passes = passes;
    first = e;
    second = f;
  }))

  shifts_case : (id : HostId) (n : ℕ) (o : Option Host) → Verdict (shifted s (answering these w) id n o) (shifted s (answering those w) id n o)
  shifts_case id n None = stops fault.NoSuchHost
  shifts_case id n (Some h) =
      either (nat_lt (band s) n) _ _ _ _ (stops (fault.OutOfBand n (band s)))
      (either (nat_lt (w.clock + n) h.last) _ _ _ _ (stops (fault.Back h.last (w.clock + n)))
      (quiet_change (record w { leads = slice_set w.leads id.0 n }) (PlainShift id n ∷ []) _ _ refl refl refl (λ more may. may.1) refl refl))

  pub verdict : (e : Event) (bytes : List ℕ) → Verdict (outcome s (answering these w) e bytes) (outcome s (answering those w) e bytes)
  unfolding outcome
  verdict (event.Call client server number) bytes =
      either (is_some (host_at w server)) _ _ _ _ (calls_case client server number bytes (host_at w client) refl) (stops fault.NoSuchHost)
  verdict (event.Deliver n) bytes = delivers_case n (slice_get w.packets n)
  verdict event.Clock bytes =
      either (w.clock == last_tick) _ _ _ _ (stops fault.ClockEnd)
      (quiet_change (record w { clock = w.clock + 1 }) (PlainClock (w.clock + 1) ∷ []) _ _ refl refl refl (λ more may. may.1) refl refl)
  verdict (event.Turn id) bytes = turns_case id (host_at w id) refl
  verdict (event.Restart id) bytes = restarts_case id (host_at w id) w.spares refl refl
  verdict (event.Inject id) bytes = injects_case id bytes (host_at w id) (packet_in s.wire bytes) refl
  verdict (event.Shift id n) bytes = shifts_case id n (host_at w id)
