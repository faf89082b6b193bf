-- Events that are steps of hosts, from the world before to the world after.
use Rattle.std.proofs.Common.{◌≡◌, ◌≢◌, ◌<◌, ◌≤◌, ℕ, zero, suc, ◌+◌, ◌^◌, Bool, true, false, Option, Some, None, List, [], ◌∷◌, ◌++◌, length, refl}
use Rattle.std.proofs.Common.{sym, ap, subst, ◌∙◌, arith}
use Rattle.std.specs.Prelude.{map, slice_get, slice_index_or, is_some, IfSome, IsTrue, ◌↔◌, ◌==◌, nat_lt, nat_le, if◌then◌else◌}
use Rattle.std.specs.List.{AllByRecursion}
use Rattle.std.proofs.lemmas.List.{length-map}
use Rattle.homa_plain.specs.declared.id.HostId.{HostId}
use Rattle.homa_plain.specs.declared.settings.Settings.{Settings}
use Rattle.homa_plain.specs.declared.event.Event.{Event}
use Rattle.homa_plain.specs.declared.event.Event.TheVariants as event
use Rattle.homa_plain.specs.declared.fault.StartFault.{StartFault}
use Rattle.homa_plain.specs.declared.fault.StartFault.TheVariants.{Empty, TooLong, SelfCall, CallsFull, SeqSpent}
use Rattle.homa_plain.specs.declared.fault.WorldFault.TheVariants as fault_word
use Rattle.plain_sets.specs.Maps.{len}
use Rattle.homa_plain.specs.Calls.{is_host}
use Rattle.homa_plain.proofs.CallOrder.{hosts_are}
use Rattle.homa_plain.specs.Host.{Host}
use Rattle.homa_plain.specs.Work.{Work}
use Rattle.homa_plain.specs.Steps.{has_run, turn_step, call_step, start_fault}
use Rattle.homa_plain.specs.World.{World as PlainWorld, host_at, own_clock}
use Rattle.host_view.specs.Seen.{Seen}
use Rattle.homa_service.specs.Table.{place_of}
use Rattle.world_packets.specs.All.{kept_all, settings_of, open_tick}
use Rattle.world_packets.specs.declared.packets.Packets.{Packets}
use Rattle.homa_replay.specs.ReplayWorld.{IsApplied}
use Rattle.step_moves.proofs.Timed.{resend_of}
use Rattle.step_laws.proofs.OneAnswer as one
use Rattle.event_laws.proofs.Names.{call_named, turn_named}
use Rattle.event_laws.proofs.Apart.{call_apart, turn_apart}
use Rattle.event_laws.proofs.Events as events
use Rattle.event_laws.specs.Named.{IsOwnStep}
use Rattle.event_laws.specs.Apart.{IsApartStep}
use Rattle.event_laws.specs.Stepping.{IsStepBy, IsRefusal}
use Rattle.host_table.specs.declared.stage.Stage.{Stage}
use Rattle.homa_world.specs.declared.parts.First.TheVariants as first
use Rattle.homa_world.specs.declared.parts.Last.TheVariants as last
use Rattle.homa_world.specs.declared.parts.WorldParts.{WorldParts}
use Rattle.box_laws.specs.Boxes.{Allows}
use Rattle.host_table.specs.Staged.{Known, known, known_of, hosts_of, seats_of, spares_of, MayStep, HasStepped}
use Rattle.homa_world.specs.Packed.{frame_kept, IsShort}
use Rattle.homa_world.specs.Standing.{StandsFor, HostFits, IsKept, IsLast, SeatFits, Applies, StillStands, told_of, may_tell_of}
use Rattle.homa_world.proofs.StepLaws.{kept_after, short_frames}
use Rattle.host_table.proofs.StageLaws.{map_at}
use Rattle.homa_world.proofs.KeptLaws.{seat_later}
use Rattle.homa_world.proofs.QuietLaws.{quiet_applies}

-- what stands at a place of a list
pub record IsAt (xs : List Seen) (i : ℕ) : Type 0 where
  pub h : Seen
  pub at : slice_get xs i ≡ Some h

pub found : (xs : List Seen) (i : ℕ) → i < length xs → IsAt xs i
found [] i l = absurd (omega (arith, l))
found (x ∷ xs) zero l = record { h = x; at = refl }
found (x ∷ xs) (suc i) l = let r = found xs i (omega (arith, l)) in record { h = r.h; at = r.at }

pub of_some : {A : Type 0} (P : A → Type 0) (o : Option A) (x : A) → o ≡ Some x → IfSome o P → P x
of_some P o x e p = subst (λ o. IfSome o P) e p

pub if_some : {A : Type 0} (P : A → Type 0) (o : Option A) (x : A) → o ≡ Some x → P x → IfSome o P
if_some P o x e p = subst (λ o. IfSome o P) (sym e) p

module _ {S : Type 0} (served : S → ℕ) where
  -- a host may take a step by its own clock
  pub may_step : (w : WorldParts S) → IsKept served w → w.applied < 2 ^ 57 → (id : HostId) (now : ℕ)
      → now ≡ w.clock + slice_index_or w.leads.items id.0 0 → id.0 < length (hosts_of w.stage)
      → IfSome (slice_get (hosts_of w.stage) id.0) (MayStep now)
  may_step w k few id now clock l =
      let r = found (hosts_of w.stage) id.0 l in
      let f : HostFits w.settings (w.clock + slice_index_or w.leads.items id.0 0) w.applied (length (spares_of w.stage)) id (known r.h) =
      k.each id (known r.h) (map_at known (hosts_of w.stage) id.0 r.h r.at) in
      if_some (MayStep now) (slice_get (hosts_of w.stage) id.0) r.h r.at (record { last = omega (arith, f.last, clock); order = omega (arith, f.order, few) })

module _ {S : Type 0} (served : S → ℕ) (allows : Allows S) (old mid new : WorldParts S) (kept : IsKept served mid) (few : mid.applied < 2 ^ 57)
    (room : mid ≡ record old { packets = mid.packets; last = last.Nothing }) (still : StillStands old mid)
    (now : ℕ) (id : HostId) (h : Seen) (step : Work) (st : Stage S) (at : slice_get (hosts_of mid.stage) id.0 ≡ Some h)
    (stepped : HasStepped now id h step mid.stage st)
    (done : new ≡ record mid {
      stage = st;
      packets = new.packets;
      last = last.Stepped id first.Nothing (length (kept_all mid.packets));
      applied = mid.applied + 1;
    })
    (sent : kept_all new.packets ≡ kept_all mid.packets ++ map (frame_kept mid.clock) st.outbox) (same : settings_of new.packets ≡ settings_of mid.packets)
    (own : IsOwnStep id step) (seats : seats_of st ≡ seats_of mid.stage) (spares : spares_of st ≡ spares_of mid.stage) where
  pub quiet_event : has_run step.told ≡ false → (e : Event) (bytes : List ℕ)
      → ((p : PlainWorld) → StandsFor mid p → IsStepBy [] mid.settings p id e bytes [] step)
      → Applies served allows old new (record { event = e; bytes = bytes })
  quiet_event quiet e bytes event p stands =
      let applied = quiet_applies served allows mid kept now id h step st at stepped new.packets mid sent same own quiet seats spares e bytes p
      (still p stands) (event p (still p stands)) in
      let here : IsApplied mid.settings p (record { event = e; bytes = bytes }) (StandsFor new) (told_of new) (may_tell_of served allows mid)
      (may_tell_of served allows new) =
      subst (λ x. IsApplied mid.settings p (record { event = e; bytes = bytes }) (StandsFor x) (told_of x) (may_tell_of served allows mid)
      (may_tell_of served allows x)) (sym done) applied in
      subst (λ m. IsApplied m.settings p (record { event = e; bytes = bytes }) (StandsFor new) (told_of new) (may_tell_of served allows m)
      (may_tell_of served allows new)) room here

  pub quiet_kept : IsApartStep id step → length st.outbox ≤ 64 → now ≡ mid.clock + slice_index_or mid.leads.items id.0 0 → IsKept served new
  quiet_kept apart frames clock =
      subst (IsKept served) (sym done)
      (kept_after served mid kept now id h step st at stepped new.packets first.Nothing mid sent same own apart frames (omega (arith, kept.few, few))
      (omega (arith, clock)) (ap length seats)
      (λ i l. subst (λ xs. SeatFits served (mid.applied + 1) (place_of xs i)) (sym seats)
      (seat_later served mid.applied (mid.applied + 1) (place_of (seats_of mid.stage) i) (omega (arith)) (kept.seats i l))) spares)

-- ---- hosts that are there, and that aren't

past_none : (xs : List Host) (i : ℕ) → length xs ≤ i → slice_get xs i ≡ None
past_none [] i l = refl
past_none (x ∷ xs) zero l = absurd (omega (arith, l))
past_none (x ∷ xs) (suc i) l = past_none xs i (omega (arith, l))

module _ {S : Type 0} where
  -- the plain world has as many hosts
  hosts_alike : (w : WorldParts S) (p : PlainWorld) → StandsFor w p → length p.hosts ≡ length (hosts_of w.stage)
  hosts_alike w p stands = ap length stands.hosts ∙ length-map (known_of w.stage) (λ (k : Known). k.host) ∙ length-map (hosts_of w.stage) known

  pub no_host : (w : WorldParts S) (id : HostId) (p : PlainWorld) → StandsFor w p → length (hosts_of w.stage) ≤ id.0 → host_at p id ≡ None
  no_host w id p stands l = past_none p.hosts id.0 (omega (arith, l, hosts_alike w p stands))

  pub host_there : (w : WorldParts S) (id : HostId) (h : Seen) (p : PlainWorld) → StandsFor w p → slice_get (hosts_of w.stage) id.0 ≡ Some h
      → host_at p id ≡ Some h.host
  host_there w id h p stands at =
      ap (λ hs. slice_get hs id.0) stands.hosts ∙ map_at (λ (k : Known). k.host) (known_of w.stage) id.0 (known h) (map_at known (hosts_of w.stage) id.0 h at)

  pub clock_there : (w : WorldParts S) (id : HostId) (now : ℕ) (p : PlainWorld) → StandsFor w p → now ≡ w.clock + slice_index_or w.leads.items id.0 0
      → own_clock p id ≡ now
  clock_there w id now p stands e =
      ap (λ n. n + slice_index_or p.leads id.0 0) stands.clock ∙ ap (λ ls. w.clock + slice_index_or ls id.0 0) stands.leads ∙ sym e

-- ---- what a test said

pub is_there : {P : Type 0} (b : Bool) → IsTrue b ↔ P → b ≡ true → P
is_there b is e = is.0 e

pub not_there : (b : Bool) (n m : ℕ) → IsTrue b ↔ (n < m) → b ≡ false → m ≤ n
not_there b n m is e =
    let neg : n < m → ⊥ = λ l. no (sym e ∙ is.1 l) in omega (arith, neg) where
      no : false ≡ true → ⊥
      no e = cc

-- frames of the present tick
pub sent_now : {S : Type 0} (mid : WorldParts S) (packets : Packets) (st : Stage S) → open_tick mid.packets ≡ mid.clock
    → kept_all packets ≡ kept_all mid.packets ++ map (frame_kept (open_tick mid.packets)) st.outbox
    → kept_all packets ≡ kept_all mid.packets ++ map (frame_kept mid.clock) st.outbox
sent_now mid packets st tick e = subst (λ n. kept_all packets ≡ kept_all mid.packets ++ map (frame_kept n) st.outbox) tick e

module _ {S : Type 0} (served : S → ℕ) where
  -- the frames of a step are short
  pub short_there : (w : WorldParts S) → IsKept served w → (now : ℕ) (id : HostId) (step : Seen → Work) (st : Stage S) → id.0 < length (hosts_of w.stage)
      → IfSome (slice_get (hosts_of w.stage) id.0) (λ h. HasStepped now id h (step h) w.stage st) → AllByRecursion IsShort st.outbox
  short_there w k now id step st l did =
      let r = found (hosts_of w.stage) id.0 l in
      short_frames served w k now id r.h (step r.h) st r.at
      (of_some (λ h. HasStepped now id h (step h) w.stage st) (slice_get (hosts_of w.stage) id.0) r.h r.at did)

-- the same settings, and the same clock, in another word for each
step_by : (s t : Settings) (a b : ℕ) (p : PlainWorld) (id : HostId) (e : Event) (bytes : List ℕ) (step : Settings → ℕ → Work) → s ≡ t → a ≡ b
    → IsStepBy [] s p id e bytes [] (step s a) → IsStepBy [] s p id e bytes [] (step t b)
step_by s t a b p id e bytes step same clock is =
    subst (λ n. IsStepBy [] s p id e bytes [] (step t n)) clock (subst (λ u. IsStepBy [] s p id e bytes [] (step u a)) same is)

module _ {S : Type 0} (served : S → ℕ) (allows : Allows S) (old mid new : WorldParts S) (kept : IsKept served mid) (few : mid.applied < 2 ^ 57)
    (room : mid ≡ record old { packets = mid.packets; last = last.Nothing }) (still : StillStands old mid)
    (now : ℕ) (id : HostId) (clock : now ≡ mid.clock + slice_index_or mid.leads.items id.0 0) (l : id.0 < length (hosts_of mid.stage)) (st : Stage S)
    (did : IfSome (slice_get (hosts_of mid.stage) id.0) (λ h. HasStepped now id h (turn_step h.settings h.host now) mid.stage st))
    (done : new ≡ record mid {
      stage = st;
      packets = new.packets;
      last = last.Stepped id first.Nothing (length (kept_all mid.packets));
      applied = mid.applied + 1;
    })
    (sent : kept_all new.packets ≡ kept_all mid.packets ++ map (frame_kept mid.clock) st.outbox) (same : settings_of new.packets ≡ settings_of mid.packets)
    (frames : length st.outbox ≤ 64) (seats : seats_of st ≡ seats_of mid.stage) (spares : spares_of st ≡ spares_of mid.stage) where
  pub turned : (Applies served allows old new (record { event = event.Turn id; bytes = [] })) × IsKept served new
  turned =
      let r = found (hosts_of mid.stage) id.0 l in
      let stepped : HasStepped now id r.h (turn_step r.h.settings r.h.host now) mid.stage st =
      of_some (λ h. HasStepped now id h (turn_step h.settings h.host now) mid.stage st) (slice_get (hosts_of mid.stage) id.0) r.h r.at did in
      let f : HostFits mid.settings (mid.clock + slice_index_or mid.leads.items id.0 0) mid.applied (length (spares_of mid.stage)) id (known r.h) =
      kept.each id (known r.h) (map_at known (hosts_of mid.stage) id.0 r.h r.at) in
      let resend : 1 ≤ r.h.settings.resend = subst (λ (s : Settings). 1 ≤ s.resend) (sym f.settings) (resend_of mid.settings kept.valid) in
      let own = turn_named r.h.settings id resend r.h.host now f.name in
      let apart = turn_apart r.h.settings id resend r.h.host now f.name f.apart in (
        quiet_event served allows old mid new kept few room still now id r.h (turn_step r.h.settings r.h.host now) st r.at stepped done sent same own
            seats spares (one.turn_unasked r.h.settings r.h.host now) (event.Turn id) []
            (λ p stands. step_by mid.settings r.h.settings (own_clock p id) now p id (event.Turn id) [] (λ s n. turn_step s r.h.host n)
            (sym f.settings) (clock_there mid id now p stands clock)
            (events.turn_done mid.settings p id r.h.host (host_there mid id r.h p stands r.at))),
        quiet_kept served allows old mid new kept few room still now id r.h (turn_step r.h.settings r.h.host now) st r.at stepped done sent same own
            seats spares apart frames clock,
      )

-- ---- a call

-- a call that starts is of another host
not_self : (s : Settings) (h : Host) (id server : HostId) (request : List ℕ) → h.id ≡ id → start_fault s h server request ≡ None → server ≢ id
unfolding start_fault
not_self s h id server request name none same =
    by_tests (length request == 0) (nat_lt 1000000 (length request)) (is_host server h.id)
    (if nat_le s.calls (len h.clients) then Some CallsFull else if nat_le 4294967295 h.seq then Some SeqSpent else None)
    ((hosts_are server h.id).1 (same ∙ sym name)) none where
      by_tests : (a b c : Bool) (o : Option StartFault) → c ≡ true
          → (if a then Some Empty else if b then Some TooLong else if c then Some SelfCall else o) ≡ None → ⊥
      by_tests true b c o self e = cc
      by_tests false true c o self e = cc
      by_tests false false true o self e = cc
      by_tests false false false o self e = cc

pub is_some_there : {S : Type 0} (w : WorldParts S) (id : HostId) (p : PlainWorld) → StandsFor w p → id.0 < length (hosts_of w.stage)
    → is_some (host_at p id) ≡ true
is_some_there w id p stands l = let r = found (hosts_of w.stage) id.0 l in ap is_some (host_there w id r.h p stands r.at)

module _ {S : Type 0} (served : S → ℕ) where
  -- a host's number is among those of another host's settings
  pub known_there : (w : WorldParts S) → IsKept served w → (id other : HostId) → id.0 < length (hosts_of w.stage)
      → other.0 < length (hosts_of w.stage) → IfSome (slice_get (hosts_of w.stage) id.0) (λ h. other.0 < h.settings.hosts)
  known_there w k id other l m =
      let r = found (hosts_of w.stage) id.0 l in
      let f = k.each id (known r.h) (map_at known (hosts_of w.stage) id.0 r.h r.at) in
      let n : r.h.settings.hosts ≡ w.settings.hosts = ap (λ (s : Settings). s.hosts) f.settings in
      if_some (λ h. other.0 < h.settings.hosts) (slice_get (hosts_of w.stage) id.0) r.h r.at (omega (arith, m, n, k.hosts, length-map (hosts_of w.stage) known))

  -- why a call can't start
  pub start_refused : (w : WorldParts S) → IsKept served w → (client server : HostId) (number : ℕ) (request : List ℕ) (fault : StartFault)
      → client.0 < length (hosts_of w.stage) → server.0 < length (hosts_of w.stage)
      → IfSome (slice_get (hosts_of w.stage) client.0) (λ h. start_fault h.settings h.host server request ≡ Some fault) → (p : PlainWorld)
      → StandsFor w p → IsRefusal w.settings p (event.Call client server number) request (fault_word.Start fault)
  start_refused w k client server number request fault l m why p stands =
      let r = found (hosts_of w.stage) client.0 l in
      let f = k.each client (known r.h) (map_at known (hosts_of w.stage) client.0 r.h r.at) in
      events.start_refused w.settings p client server number request r.h.host fault (is_some_there w server p stands m) (host_there w client r.h p stands r.at)
      (ap (λ (s : Settings). start_fault s r.h.host server request) (sym f.settings)
      ∙ of_some (λ h. start_fault h.settings h.host server request ≡ Some fault) (slice_get (hosts_of w.stage) client.0) r.h r.at why)

  -- the same hosts and boxes, but for what the last step told
  pub failed_kept : (w : WorldParts S) (st : Stage S) → IsKept served w → w.last ≡ last.Nothing → known_of st ≡ known_of w.stage
      → seats_of st ≡ seats_of w.stage → spares_of st ≡ spares_of w.stage → IsKept served (record w { stage = st })
  failed_kept w st k none knowns seats spares = record {
    valid = k.valid;
    clock = k.clock;
    hosts = ap length knowns ∙ k.hosts;
    leads = k.leads;
    lead = k.lead;
    each = λ id h at. subst (λ n. HostFits w.settings (w.clock + slice_index_or w.leads.items id.0 0) w.applied n id h) (sym (ap length spares))
        (k.each id h (sym (ap (λ hs. slice_get hs id.0) knowns) ∙ at));
    places = ap length seats ∙ k.places;
    seats = λ i l. subst (λ xs. SeatFits served w.applied (place_of xs i)) (sym seats) (k.seats i l);
    spares = subst (AllByRecursion (λ seat. served seat ≤ w.applied)) (sym spares) k.spares;
    packets = k.packets;
    few = k.few;
    froms = k.froms;
    last = subst (IsLast (record w { stage = st })) (sym none) tt;
  }

module _ {S : Type 0} (served : S → ℕ) (allows : Allows S) (old mid new : WorldParts S) (kept : IsKept served mid) (few : mid.applied < 2 ^ 57)
    (room : mid ≡ record old { packets = mid.packets; last = last.Nothing }) (still : StillStands old mid)
    (now : ℕ) (client server : HostId) (number : ℕ) (request : List ℕ) (clock : now ≡ mid.clock + slice_index_or mid.leads.items client.0 0)
    (l : client.0 < length (hosts_of mid.stage)) (m : server.0 < length (hosts_of mid.stage)) (st : Stage S)
    (did : IfSome (slice_get (hosts_of mid.stage) client.0) (λ h. HasStepped now client h (call_step h.settings h.host now server number request) mid.stage st))
    (fine : IfSome (slice_get (hosts_of mid.stage) client.0) (λ h. start_fault h.settings h.host server request ≡ None))
    (done : new ≡ record mid {
      stage = st;
      packets = new.packets;
      last = last.Stepped client first.Nothing (length (kept_all mid.packets));
      applied = mid.applied + 1;
    })
    (sent : kept_all new.packets ≡ kept_all mid.packets ++ map (frame_kept mid.clock) st.outbox) (same : settings_of new.packets ≡ settings_of mid.packets)
    (frames : length st.outbox ≤ 64) (seats : seats_of st ≡ seats_of mid.stage) (spares : spares_of st ≡ spares_of mid.stage) where
  pub called : (bytes : List ℕ) → request ≡ bytes
      → (Applies served allows old new (record { event = event.Call client server number; bytes = bytes })) × IsKept served new
  called bytes as_given =
      let r = found (hosts_of mid.stage) client.0 l in
      let stepped : HasStepped now client r.h (call_step r.h.settings r.h.host now server number request) mid.stage st =
      of_some (λ h. HasStepped now client h (call_step h.settings h.host now server number request) mid.stage st)
      (slice_get (hosts_of mid.stage) client.0) r.h r.at did in
      let f : HostFits mid.settings (mid.clock + slice_index_or mid.leads.items client.0 0) mid.applied (length (spares_of mid.stage)) client (known r.h) =
      kept.each client (known r.h) (map_at known (hosts_of mid.stage) client.0 r.h r.at) in
      let none : start_fault r.h.settings r.h.host server request ≡ None =
      of_some (λ h. start_fault h.settings h.host server request ≡ None) (slice_get (hosts_of mid.stage) client.0) r.h r.at fine in
      let own = call_named r.h.settings client r.h.host now server number request f.name in
      let apart = call_apart r.h.settings client r.h.host now server number request f.name f.apart
      (not_self r.h.settings r.h.host client server request f.name.name none) in (
        subst (λ b. Applies served allows old new (record { event = event.Call client server number; bytes = b })) as_given
            (quiet_event served allows old mid new kept few room still now client r.h (call_step r.h.settings r.h.host now server number request) st
            r.at stepped done sent same own seats spares (one.call_unasked r.h.settings r.h.host now server number request)
            (event.Call client server number) request
            (λ p stands. step_by mid.settings r.h.settings (own_clock p client) now p client (event.Call client server number) request
            (λ s n. call_step s r.h.host n server number request) (sym f.settings) (clock_there mid client now p stands clock)
            (events.call_done mid.settings p client server number request r.h.host (is_some_there mid server p stands m)
            (host_there mid client r.h p stands r.at) (ap (λ (s : Settings). start_fault s r.h.host server request) (sym f.settings) ∙ none)))),
        quiet_kept served allows old mid new kept few room still now client r.h (call_step r.h.settings r.h.host now server number request) st r.at
            stepped done sent same own seats spares apart frames clock,
      )
