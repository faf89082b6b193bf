-- A datagram that comes to a host, whose box may be asked.
use Rattle.std.proofs.Common.{◌≡◌, ◌≢◌, ◌<◌, ◌≤◌, ℕ, ◌+◌, ◌^◌, Bool, true, false, cond, Option, Some, None, List, [], ◌∷◌, ◌++◌, length, refl, sym}
use Rattle.std.proofs.Common.{ap, subst, ◌∙◌, arith}
use Rattle.std.specs.Prelude.{drop, slice_get, is_some, IsSome, IfSome}
use Rattle.std.specs.Option.{option_map}
use Rattle.homa_plain.specs.declared.id.HostId.{HostId}
use Rattle.homa_plain.specs.declared.packet.Packet.{Packet as WirePacket}
use Rattle.homa_plain.specs.declared.packet.Role.{Role}
use Rattle.homa_plain.specs.declared.packet.Role.TheVariants.{Client, Server}
use Rattle.homa_plain.specs.declared.settings.Settings.{Settings}
use Rattle.homa_plain.specs.Entries.{PlainEntry, PlainRecv}
use Rattle.homa_plain.specs.Wire.{packet_in}
use Rattle.homa_plain.specs.Packets.{Packet, sender, receiver, packet_between}
use Rattle.homa_plain.specs.Host.{Host, Told, entries_from}
use Rattle.homa_plain.specs.Rules.{Answer}
use Rattle.homa_plain.specs.Work.{Work}
use Rattle.homa_plain.specs.Steps.{has_run, arrival_step}
use Rattle.homa_plain.specs.World.{World, Outcome, Done, host_at, own_clock, next_answer, answers_left, stepped, arrives_at}
use Rattle.host_view.specs.Seen.{Seen}
use Rattle.host_view.specs.Marks.{has_ran}
use Rattle.host_view.specs.Done.{arriving}
use Rattle.homa_service.specs.Table.{place_of}
use Rattle.step_laws.proofs.OneAnswer as one
use Rattle.event_laws.proofs.Names.{arrival_named}
use Rattle.event_laws.proofs.Apart.{arrival_apart}
use Rattle.event_laws.specs.Named.{IsOwnStep}
use Rattle.event_laws.specs.Apart.{IsApartStep}
use Rattle.homa_plain.specs.Answers.{answering}
use Rattle.event_laws.specs.Stepping.{stepped_world, step_told}
use Rattle.host_table.specs.declared.stage.Stage.{Stage}
use Rattle.host_table.specs.Staged.{known_of, hosts_of, frames_of, seats_of, HasCome, HasNotCome}
use Rattle.node_runs.specs.Course.{Arrival, arrival_outcome, packet_from}
use Rattle.homa_plain.specs.Answers.{shown}
use Rattle.node_turns.specs.Acting.{Asks}
use Rattle.node_hosts.specs.declared.parts.Last.TheVariants as last
use Rattle.node_hosts.specs.declared.parts.NodeParts.{NodeParts}
use Rattle.box_laws.specs.Boxes.{Allows}
use Rattle.node_hosts.specs.Standing.{StandsFor, SeatFits, IsKept, IsLast, Steps, told_of, may_tell_of}
use Rattle.box_laws.proofs.ShownLaws.{one_shown, all_show}
use Rattle.node_hosts.proofs.TellLaws.{tells}
use Rattle.node_hosts.proofs.StepLaws.{found, of_some, if_some, host_there, clock_there, within, fits_there, seat_later, set_fits}
use Rattle.node_hosts.proofs.StepLaws.{after, stands_after, sent_after, numbers_after, told_after, kept_after}

-- ---- the plain world

-- a step of a host in a world whose services will answer so, with an answer where its service is asked
abbrev pub Makes : Answer → World → HostId → (World → Outcome) → List PlainEntry → Work → Type 0
Makes a w id act first step = (later : List Answer)
    → act (answering (cond (has_run step.told) (a ∷ []) [] ++ later) w) ≡ Done
    (record { world = answering later (stepped_world w id step); told = step_told w first step })

step_of : (w : World) (id : HostId) (first : List PlainEntry) (step : Work) (given later : List Answer) → answers_left step.told given ≡ later
    → stepped (answering given w) id first step ≡ Done (record { world = answering later (stepped_world w id step); told = step_told w first step })
step_of w id first step given later e = ap (λ left. Done (record { world = answering left (stepped_world w id step); told = step_told w first step })) e

unasked_leaves : (told : List Told) (later : List Answer) → has_run told ≡ false → answers_left told later ≡ later
unasked_leaves told later e = ap (λ b. cond b (drop 1 later) later) e

asked_leaves : (told : List Told) (a : Answer) (later : List Answer) → has_run told ≡ true → answers_left told (a ∷ later) ≡ later
asked_leaves told a later e = ap (λ b. cond b later (a ∷ later)) e

arrives : (s : Settings) (w : World) (id : HostId) (first : List PlainEntry) (packet : Option Packet) (h : Host) (a : Answer) (later : List Answer)
    (b : Bool) → has_run (arrival_step s h (own_clock w id) packet a).told ≡ b
    → arrives_at s (answering (cond b (a ∷ []) [] ++ later) w) id first packet (Some h)
    ≡ Done (record {
      world = answering later (stepped_world w id (arrival_step s h (own_clock w id) packet a));
      told = step_told w first (arrival_step s h (own_clock w id) packet a);
    })
arrives s w id first packet h a later true e = step_of w id first (arrival_step s h (own_clock w id) packet a) (a ∷ later) later
    (asked_leaves (arrival_step s h (own_clock w id) packet a).told a later e)
arrives s w id first packet h a later false e =
    ap (λ step. stepped (answering later w) id first step) (one.same_unasked s h (own_clock w id) packet a (next_answer later) e)
    ∙ step_of w id first (arrival_step s h (own_clock w id) packet a) later later (unasked_leaves (arrival_step s h (own_clock w id) packet a).told later e)

heard_done : (s : Settings) (w : World) (id : HostId) (d : Arrival) (h : Host) (a : Answer) → host_at w id ≡ Some h
    → Makes a w id (λ v. arrival_outcome s v id d) (PlainRecv id d.from d.bytes ∷ [])
    (arrival_step s h (own_clock w id) (packet_from d.from id (packet_in s.wire d.bytes)) a)
heard_done s w id d h a here later =
    let packet = packet_from d.from id (packet_in s.wire d.bytes) in
    let first : List PlainEntry = PlainRecv id d.from d.bytes ∷ [] in
    let b : Bool = has_run (arrival_step s h (own_clock w id) packet a).told in
    ap (λ o. arrives_at s (answering (cond b (a ∷ []) [] ++ later) w) id first packet o) here
    ∙ arrives s w id first packet h a later b refl

-- ---- the datagram

between_ends : (from to : HostId) (w : WirePacket) (payload : List ℕ) → (receiver (packet_between from to w payload) ≡ to)
    × (sender (packet_between from to w payload) ≡ from)
between_ends from to w payload = by_role w.role where
  by_role : (role : Role) → (receiver (packet_between from to (record w { role = role }) payload) ≡ to)
      × (sender (packet_between from to (record w { role = role }) payload) ≡ from)
  by_role Client = (refl, refl)
  by_role Server = (refl, refl)

came_ends : (h : Seen) (from to : HostId) (bytes : List ℕ) → h.host.id ≡ to → from ≢ to
    → IfSome (arriving h from bytes) (λ p. (receiver p ≡ to) × (sender p ≢ to))
came_ends h from to bytes name other = by_read (packet_in h.settings.wire bytes) where
  by_read : (o : Option (WirePacket × List ℕ)) → IfSome (option_map (λ (r : WirePacket × List ℕ). packet_between from h.host.id r.0 r.1) o)
      (λ p. (receiver p ≡ to) × (sender p ≢ to))
  by_read None = tt
  by_read (Some r) = let e = between_ends from h.host.id r.0 r.1 in (e.0 ∙ name, λ same. other (sym e.1 ∙ same))

-- the same packet, as the host and as the node read it
same_packet : (s : Settings) (h : Seen) (from to : HostId) (bytes : List ℕ) → h.host.id ≡ to → h.settings ≡ s
    → packet_from from to (packet_in s.wire bytes) ≡ arriving h from bytes
same_packet s h from to bytes name same =
    by_read (packet_in s.wire bytes)
    ∙ ap (λ (x : HostId). option_map (λ (r : WirePacket × List ℕ). packet_between from x r.0 r.1) (packet_in s.wire bytes)) (sym name)
    ∙ ap (λ (t : Settings). option_map (λ (r : WirePacket × List ℕ). packet_between from h.host.id r.0 r.1) (packet_in t.wire bytes)) (sym same) where
      by_read : (o : Option (WirePacket × List ℕ)) → packet_from from to o ≡ option_map (λ (r : WirePacket × List ℕ). packet_between from to r.0 r.1) o
      by_read None = refl
      by_read (Some (w, payload)) = refl

to_it : (to : HostId) (o : Option Packet) → IfSome o (λ p. (receiver p ≡ to) × (sender p ≢ to)) → IfSome o (λ p. receiver p ≡ to)
to_it to None ends = tt
to_it to (Some p) ends = ends.0

-- ---- the hosts

module _ {S : Type 0} (served : S → ℕ) (n : NodeParts S) (kept : IsKept served n) (to : HostId) (l : to.0 < n.settings.hosts) where
  pub is_other : (from : HostId) → from ≢ to → IfSome (slice_get (hosts_of n.stage) to.0) (λ h. from ≢ h.host.id)
  is_other from other =
      let r = found (hosts_of n.stage) to.0 (within served n kept to l) in
      if_some (λ h. from ≢ h.host.id) (slice_get (hosts_of n.stage) to.0) r.h r.at (λ same. other (same ∙ (fits_there served n kept to r.h r.at).name.name))

  pub seat_some : IsSome (place_of (seats_of n.stage) to.0)
  seat_some = ap is_some (kept.seats to.0 l).is

  pub seat_few : n.steps < 2 ^ 57 → IfSome (place_of (seats_of n.stage) to.0) (λ x. served x < 2 ^ 63)
  seat_few few = let f = kept.seats to.0 l in if_some (λ x. served x < 2 ^ 63) (place_of (seats_of n.stage) to.0) f.seat f.is (omega (arith, f.count, few))

  -- where nothing came
  pub not_came_kept : (allows : Allows S) (st : Stage S) → n.last ≡ last.Nothing → HasNotCome served allows to n.stage st
      → IsKept served (record n { stage = st })
  not_came_kept allows st none c = record {
    valid = kept.valid;
    clock = kept.clock;
    hosts = ap length c.known ∙ kept.hosts;
    each = λ id k is. kept.each id k (sym (ap (λ hs. slice_get hs id.0) c.known) ∙ is);
    seats = λ i m. subst (λ xs. SeatFits served n.steps (place_of xs i)) (sym c.lent.seats)
        (set_fits served n.steps (seats_of n.stage) to.0 i c.lent.seat (omega (arith, c.count, had)) (kept.seats i m));
    sent = kept.sent;
    last = subst (IsLast (record n { stage = st })) (sym none) tt;
  } where
    had : served c.lent.had ≤ n.steps
    had = let f = kept.seats to.0 l in subst (λ x. served x ≤ n.steps) (some_is f.seat c.lent.had (sym f.is ∙ c.lent.place)) f.count where
      some_is : (x y : S) → Some x ≡ Some y → x ≡ y
      some_is x y e = cc

-- the same hosts, but for what the last step told
pub failed_kept : {S : Type 0} (served : S → ℕ) (n : NodeParts S) (st : Stage S) → IsKept served n → n.last ≡ last.Nothing
    → known_of st ≡ known_of n.stage → seats_of st ≡ seats_of n.stage → IsKept served (record n { stage = st })
failed_kept served n st k none knowns seats = record {
  valid = k.valid;
  clock = k.clock;
  hosts = ap length knowns ∙ k.hosts;
  each = λ id h at. k.each id h (sym (ap (λ hs. slice_get hs id.0) knowns) ∙ at);
  seats = λ i l. subst (λ xs. SeatFits served n.steps (place_of xs i)) (sym seats) (k.seats i l);
  sent = k.sent;
  last = subst (IsLast (record n { stage = st })) (sym none) tt;
}

-- ---- the step

module _ {S : Type 0} (served : S → ℕ) (allows : Allows S) (n : NodeParts S) (kept : IsKept served n)
    (now : ℕ) (to : HostId) (h : Seen) (o : Option Packet) (st : Stage S) (at : slice_get (hosts_of n.stage) to.0 ≡ Some h)
    (come : HasCome served allows now to h o n.stage st) where
  abbrev step : Work
  step = arrival_step h.settings h.host now o come.answer

  came_step : IsOwnStep to step → (act : World → Outcome) (from : HostId) (bytes : List ℕ)
      → ((p : World) → StandsFor n p → Makes come.answer p to act (PlainRecv to from bytes ∷ []) step)
      → Steps served allows n (after served n kept now to h step st at come.stepped) act (PlainRecv to from bytes ∷ [])
  came_step own act from bytes event p stands =
      let m : NodeParts S = after served n kept now to h step st at come.stepped in
      let told : told_of m ≡ entries_from (length p.packets) step.told = told_after served n kept now to h step st at come.stepped p stands own.said in
      record {
        next = stepped_world p to step;
        stood = stands_after served n kept now to h step st at come.stepped p stands;
        done = λ later.
            ap (λ given. act (answering (given ++ later) p)) (ap shown told
            ∙ one_shown (length p.packets) step.told come.answer (one.asked_once h.settings h.host now o come.answer)
            (all_show come.answer step.told (one.answer_told h.settings h.host now o come.answer)))
            ∙ event p stands later ∙ ap (λ t. Done (record { world = answering later (stepped_world p to step); told = PlainRecv to from bytes ∷ t }))
            (sym told);
        sent = sent_after served n kept now to h step st at come.stepped p;
        numbers = numbers_after served n kept now to h step st at come.stepped own.said;
        allowed = λ more may.
            subst (λ t. may_tell_of served allows n (PlainRecv to from bytes ∷ (t ++ more))) (sym told)
            (tt, tells served allows n.stage now to h (fits_there served n kept to h at).name.name o st come (length p.packets) more may);
      }

  came_kept : IsOwnStep to step → IsApartStep to step → length (frames_of st) ≤ 64 → n.steps < 2 ^ 57 → now ≤ n.clock + n.settings.skew
      → to.0 < n.settings.hosts → IsKept served (after served n kept now to h step st at come.stepped)
  came_kept own apart frames few clock inside =
      kept_after served n kept now to h step st at come.stepped own apart frames few clock
      (λ i l. subst (λ xs. SeatFits served (n.steps + 1) (place_of xs i)) (sym come.lent.seats)
      (set_fits served (n.steps + 1) (seats_of n.stage) to.0 i come.lent.seat new_count
      (seat_later served n.steps (n.steps + 1) (place_of (seats_of n.stage) i) (omega (arith)) (kept.seats i l)))) where
        new_count : served come.lent.seat ≤ n.steps + 1
        new_count = by_fit (kept.seats to.0 inside) where
          by_fit : SeatFits served n.steps (place_of (seats_of n.stage) to.0) → served come.lent.seat ≤ n.steps + 1
          by_fit f =
              let one_seat : f.seat ≡ come.lent.had = some_is f.seat come.lent.had (sym f.is ∙ come.lent.place) in
              let had : served come.lent.had ≤ n.steps = subst (λ x. served x ≤ n.steps) one_seat f.count in
              by_run (has_ran come.stepped.after.marks) come.count had where
                some_is : (x y : S) → Some x ≡ Some y → x ≡ y
                some_is x y e = cc

                by_run : (b : Bool) → served come.lent.seat ≡ cond b (served come.lent.had + 1) (served come.lent.had)
                    → served come.lent.had ≤ n.steps → served come.lent.seat ≤ n.steps + 1
                by_run true e l = omega (arith, e, l)
                by_run false e l = omega (arith, e, l)

module _ {S : Type 0} (served : S → ℕ) (allows : Allows S) (old n new : NodeParts S) (kept : IsKept served n) (few : n.steps < 2 ^ 57)
    (room : n ≡ record old { last = last.Nothing })
    (now : ℕ) (to from : HostId) (other : from ≢ to) (bytes : List ℕ) (clock : now ≡ n.clock + n.settings.skew) (l : to.0 < n.settings.hosts) (st : Stage S)
    (done : new ≡ record n { stage = st; last = last.Stepped to n.sent; sent = n.sent + length (frames_of st); steps = n.steps + 1 })
    (frames : length (frames_of st) ≤ 64) where
  pub heard : IfSome (slice_get (hosts_of n.stage) to.0) (λ h. HasCome served allows now to h (arriving h from bytes) n.stage st)
      → Steps served allows old new (λ v. arrival_outcome old.settings v to (record { from = from; bytes = bytes })) (PlainRecv to from bytes ∷ [])
      × IsKept served new
  heard did =
      let r = found (hosts_of n.stage) to.0 (within served n kept to l) in
      let h : Seen = r.h in
      let come : HasCome served allows now to h (arriving h from bytes) n.stage st =
      of_some (λ h. HasCome served allows now to h (arriving h from bytes) n.stage st) (slice_get (hosts_of n.stage) to.0) r.h r.at did in
      let f = fits_there served n kept to r.h r.at in
      let ends = came_ends h from to bytes f.name.name other in
      let own = arrival_named h.settings to h.host now (arriving h from bytes) come.answer f.name (to_it to (arriving h from bytes) ends) in
      let apart = arrival_apart h.settings to h.host now (arriving h from bytes) come.answer f.name f.apart ends in (
        subst (λ m. Steps served allows m new (λ v. arrival_outcome m.settings v to (record { from = from; bytes = bytes }))
            (PlainRecv to from bytes ∷ [])) room
            (subst (λ x. Steps served allows n x (λ v. arrival_outcome n.settings v to (record { from = from; bytes = bytes }))
            (PlainRecv to from bytes ∷ [])) (sym done)
            (came_step served allows n kept now to h (arriving h from bytes) st r.at come own
            (λ v. arrival_outcome n.settings v to (record { from = from; bytes = bytes })) from bytes
            (λ p stands.
            subst (Makes come.answer p to (λ v. arrival_outcome n.settings v to (record { from = from; bytes = bytes })) (PlainRecv to from bytes ∷ []))
            (ap (λ m. arrival_step n.settings h.host m (packet_from from to (packet_in n.settings.wire bytes)) come.answer)
            (clock_there n to p stands l now clock)
            ∙ ap (λ q. arrival_step n.settings h.host now q come.answer) (same_packet n.settings h from to bytes f.name.name f.settings)
            ∙ ap (λ t. arrival_step t h.host now (arriving h from bytes) come.answer) (sym f.settings))
            (heard_done n.settings p to (record { from = from; bytes = bytes }) h.host come.answer (host_there n to p stands h r.at))))),
        subst (IsKept served) (sym done)
            (came_kept served allows n kept now to h (arriving h from bytes) st r.at come own apart frames few (omega (arith, clock)) l),
      )

-- ---- where nothing came

module _ {S : Type 0} (served : S → ℕ) (old n : NodeParts S) (kept : IsKept served n) (room : n ≡ record old { last = last.Nothing })
    (now : ℕ) (to from : HostId) (other : from ≢ to) (bytes : List ℕ) (clock : now ≡ n.clock + n.settings.skew) (l : to.0 < n.settings.hosts) where
  -- the datagram's outcome in a world
  abbrev outcome_of : NodeParts S → World → Outcome
  outcome_of m v = arrival_outcome m.settings v to (record { from = from; bytes = bytes })

  -- whatever the service answers, the host asks it
  abbrev AlwaysRuns : Seen → Type 0
  AlwaysRuns h = (a : Answer) → has_run (arrival_step h.settings h.host now (arriving h from bytes) a).told ≡ true

  asks_there : IfSome (slice_get (hosts_of n.stage) to.0) AlwaysRuns → (p : World) → StandsFor n p → (a : Answer) → Asks (outcome_of n) p a
  asks_there runs p stands a =
      let r = found (hosts_of n.stage) to.0 (within served n kept to l) in
      let h : Seen = r.h in
      let run : AlwaysRuns h = of_some AlwaysRuns (slice_get (hosts_of n.stage) to.0) r.h r.at runs in
      let f = fits_there served n kept to r.h r.at in
      let step : Work = arrival_step h.settings h.host now (arriving h from bytes) a in
      let made : Makes a p to (outcome_of n) (PlainRecv to from bytes ∷ []) step =
      subst (Makes a p to (outcome_of n) (PlainRecv to from bytes ∷ []))
      (ap (λ m. arrival_step n.settings h.host m (packet_from from to (packet_in n.settings.wire bytes)) a) (clock_there n to p stands l now clock)
      ∙ ap (λ q. arrival_step n.settings h.host now q a) (same_packet n.settings h from to bytes f.name.name f.settings)
      ∙ ap (λ t. arrival_step t h.host now (arriving h from bytes) a) (sym f.settings))
      (heard_done n.settings p to (record { from = from; bytes = bytes }) h.host a (host_there n to p stands h r.at)) in
      record {
        after = record { world = answering [] (stepped_world p to step); told = step_told p (PlainRecv to from bytes ∷ []) step };
        is = ap (λ (b : Bool). outcome_of n (answering (cond b (a ∷ []) [] ++ []) p)) (sym (run a)) ∙ made [];
        shows = one_shown (length p.packets) step.told a (one.asked_once h.settings h.host now (arriving h from bytes) a)
            (all_show a step.told (one.answer_told h.settings h.host now (arriving h from bytes) a))
            ∙ ap (λ (b : Bool). cond b (a ∷ []) []) (run a);
      }

  pub asks : IfSome (slice_get (hosts_of n.stage) to.0) AlwaysRuns → (p : World) → StandsFor old p → (a : Answer) → Asks (outcome_of old) p a
  asks runs = subst (λ (m : NodeParts S). (p : World) → StandsFor m p → (a : Answer) → Asks (outcome_of m) p a) room (asks_there runs)
