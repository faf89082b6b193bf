-- A datagram that comes to a host is an event of the world.
use Rattle.std.proofs.Common.{◌≡◌, ◌≢◌, ◌<◌, ◌≤◌, ℕ, zero, suc, ◌+◌, ◌*◌, ◌^◌, Bool, true, false, cond, Option, Some, None, List, [], ◌∷◌, ◌++◌}
use Rattle.std.proofs.Common.{length, refl, sym, ap, subst, ◌∙◌, arith, true≢false}
use Rattle.std.specs.Prelude.{map, slice_get, slice_index_or, is_some, IsSome, IfSome, ◌==◌, ◌&&◌, nat_lt}
use Rattle.std.specs.List.{AllByRecursion}
use Rattle.std.specs.Option.{option_map}
use Rattle.std.proofs.lemmas.List.{length-map}
use Rattle.std.proofs.lemmas.Bool.{eq-eqb}
use Rattle.step_moves.proofs.Hosts.{length-set, within}
use Rattle.homa_plain.specs.declared.id.HostId.{HostId}
use Rattle.homa_plain.specs.declared.packet.Packet.{Packet as WirePacket}
use Rattle.homa_plain.specs.declared.packet.Role.{Role}
use Rattle.homa_plain.specs.declared.packet.Role.TheVariants.{Client, Server}
use Rattle.homa_plain.specs.declared.settings.Settings.{Settings}
use Rattle.homa_plain.specs.declared.event.Event.{Event}
use Rattle.homa_plain.specs.declared.event.Event.TheVariants as event
use Rattle.homa_plain.specs.declared.fault.WorldFault.TheVariants as fault
use Rattle.homa_plain.specs.Settings.{IsValid}
use Rattle.homa_plain.specs.Entries.{PlainEntry, PlainDeliver, PlainInject}
use Rattle.homa_plain.specs.Wire.{packet_in}
use Rattle.homa_plain.specs.Packets.{Packet, sender, receiver, datagram, wire_packet, packet_between}
use Rattle.homa_plain.specs.Rules.{Answer}
use Rattle.homa_plain.specs.Work.{Work}
use Rattle.homa_plain.specs.Steps.{arrival_step}
use Rattle.homa_plain.specs.OldPackets.{is_stale}
use Rattle.homa_plain.specs.World.{World as PlainWorld, SentPacket, Refused, host_at, own_clock, is_late, delivered, arrives_at, outcome, stranger}
use Rattle.host_view.specs.Seen.{Seen}
use Rattle.host_view.specs.Done.{arriving}
use Rattle.homa_service.specs.Table.{place_of}
use Rattle.world_packets.specs.Blocks.{Frame}
use Rattle.world_packets.specs.Kept.{WholePacket, LatePacket, StalePacket}
use Rattle.world_packets.specs.Olds.{TellsClock}
use Rattle.world_packets.specs.All.{kept_all, settings_of}
use Rattle.homa_replay.specs.ReplayWorld.{IsApplied, IsNotApplied}
use Rattle.world_laws.proofs.Sent.{read, between}
use Rattle.world_laws.proofs.Old as old_packets
use Rattle.event_laws.proofs.Names.{arrival_named}
use Rattle.event_laws.proofs.Apart.{arrival_apart}
use Rattle.event_laws.proofs.Events as events
use Rattle.event_laws.specs.Named.{IsOwnStep}
use Rattle.event_laws.specs.Apart.{IsApartStep}
use Rattle.homa_plain.specs.Answers.{answering}
use Rattle.event_laws.specs.Stepping.{IsStepWith, IsRefusal}
use Rattle.host_table.specs.declared.stage.Stage.{Stage}
use Rattle.host_table.specs.Staged.{Known, known, hosts_of, seats_of, spares_of, HasCome, HasNotCome}
use Rattle.host_table.proofs.StageLaws.{map_at}
use Rattle.homa_world.specs.declared.parts.First.{First}
use Rattle.homa_world.specs.declared.parts.First.TheVariants as first
use Rattle.homa_world.specs.declared.parts.Last.TheVariants as last
use Rattle.homa_world.specs.declared.parts.WorldParts.{WorldParts}
use Rattle.homa_world.specs.Arrived.{HasArrived}
use Rattle.box_laws.specs.Boxes.{Allows, counted, all_counted, may_tell}
use Rattle.homa_world.specs.Packed.{frame_kept, IsShort}
use Rattle.homa_world.specs.Standing.{StandsFor, HostFits, SeatFits, IsKept, IsLast, Applies, Refuses, StillStands, first_told, told_of, may_tell_of}
use Rattle.homa_world.proofs.KeptLaws.{refused_by, set_fits}
use Rattle.homa_world.proofs.PackedLaws.{seen_as, shown_length}
use Rattle.homa_world.proofs.StepLaws.{short_frames}
use Rattle.homa_world.proofs.CameLaws.{came_applies, came_kept}
use Rattle.homa_world.proofs.EventLaws.{found, of_some, if_some, no_host, host_there, clock_there}

-- ---- from whom, and to whom

between_ends : (from to : HostId) (w : WirePacket) (payload : List ℕ) → (receiver (packet_between from to w payload) ≡ to)
    × (sender (packet_between from to w payload) ≡ from)
between_ends from to w payload = by_role w.role where
  by_role : (role : Role) → (receiver (packet_between from to (record w { role = role }) payload) ≡ to)
      × (sender (packet_between from to (record w { role = role }) payload) ≡ from)
  by_role Client = (refl, refl)
  by_role Server = (refl, refl)

came_ends : (h : Seen) (from to : HostId) (bytes : List ℕ) → h.host.id ≡ to → from ≢ to
    → IfSome (arriving h from bytes) (λ p. (receiver p ≡ to) × (sender p ≢ to))
came_ends h from to bytes name other = by_read (packet_in h.settings.wire bytes) where
  by_read : (o : Option (WirePacket × List ℕ)) → IfSome (option_map (λ (r : WirePacket × List ℕ). packet_between from h.host.id r.0 r.1) o)
      (λ p. (receiver p ≡ to) × (sender p ≢ to))
  by_read None = tt
  by_read (Some r) = let e = between_ends from h.host.id r.0 r.1 in (e.0 ∙ name, λ same. other (sym e.1 ∙ same))

pub stranger_in : (s : Settings) → IsValid s → (id : HostId) → (stranger id).0 < s.hosts
stranger_in s valid id = by_zero (id.0 == 0) where
  by_zero : (b : Bool) → (cond {A = HostId} b (record { 0 = 1 }) (record { 0 = 0 })).0 < s.hosts
  by_zero true = omega (arith, valid.in_range.0)
  by_zero false = omega (arith, valid.in_range.0)

pub stranger_other : (id : HostId) → stranger id ≢ id
stranger_other id same = by_zero (id.0 == 0) refl (ap (λ (x : HostId). x.0) same) where
  by_zero : (b : Bool) → (id.0 == 0) ≡ b → (cond {A = HostId} b (record { 0 = 1 }) (record { 0 = 0 })).0 ≡ id.0 → ⊥
  by_zero true e same = let zero_is : id.0 ≡ 0 = grind (arith, e) in omega (arith, zero_is, same)
  by_zero false e same = true≢false (sym (eq-eqb id.0 0 (sym same)) ∙ e)

-- what was read of bytes
pub read_some : {A B : Type 0} (f : A → B) (o : Option A) (r : Option B) → option_map f o ≡ r → is_some o ≡ true → is_some r ≡ true
read_some f (Some x) r e is = ap is_some (sym e)
read_some f None r e is = absurd (true≢false (sym is))

pub read_none : {A B : Type 0} (f : A → B) (o : Option A) (r : Option B) → option_map f o ≡ r → is_some o ≡ false → r ≡ None
read_none f (Some x) r e is = absurd (true≢false is)
read_none f None r e is = sym e

-- ---- the host that a datagram comes to

module _ {S : Type 0} (served : S → ℕ) (w : WorldParts S) (kept : IsKept served w) (to : HostId) where
  module _ (h : Seen) (at : slice_get (hosts_of w.stage) to.0 ≡ Some h) where
    fits_there : HostFits w.settings (w.clock + slice_index_or w.leads.items to.0 0) w.applied (length (spares_of w.stage)) to (known h)
    fits_there = kept.each to (known h) (map_at known (hosts_of w.stage) to.0 h at)

  module _ (l : to.0 < length (hosts_of w.stage)) where
    -- a number below that of the hosts
    pub below_hosts : (n : ℕ) → n < w.settings.hosts → IfSome (slice_get (hosts_of w.stage) to.0) (λ h. n < h.settings.hosts)
    below_hosts n m =
        let r = found (hosts_of w.stage) to.0 l in
        let same : r.h.settings.hosts ≡ w.settings.hosts = ap (λ (s : Settings). s.hosts) (fits_there r.h r.at).settings in
        if_some (λ h. n < h.settings.hosts) (slice_get (hosts_of w.stage) to.0) r.h r.at (omega (arith, m, same))

    pub is_other : (from : HostId) → from ≢ to → IfSome (slice_get (hosts_of w.stage) to.0) (λ h. from ≢ h.host.id)
    is_other from other =
        let r = found (hosts_of w.stage) to.0 l in
        if_some (λ h. from ≢ h.host.id) (slice_get (hosts_of w.stage) to.0) r.h r.at (λ same. other (same ∙ (fits_there r.h r.at).name.name))

    within_hosts : to.0 < w.settings.hosts
    within_hosts = omega (arith, l, length-map (hosts_of w.stage) known, kept.hosts)

    pub seat_some : IsSome (place_of (seats_of w.stage) to.0)
    seat_some = ap is_some (kept.seats to.0 within_hosts).is

    pub seat_few : w.applied < 2 ^ 57 → IfSome (place_of (seats_of w.stage) to.0) (λ x. served x < 2 ^ 63)
    seat_few few =
        let f = kept.seats to.0 within_hosts in if_some (λ x. served x < 2 ^ 63) (place_of (seats_of w.stage) to.0) f.seat f.is (omega (arith, f.count, few))

    -- where nothing came
    pub not_came_kept : (allows : Allows S) (st : Stage S) → w.last ≡ last.Nothing → HasNotCome served allows to w.stage st
        → IsKept served (record w { stage = st })
    not_came_kept allows st none n = record {
      valid = kept.valid;
      clock = kept.clock;
      hosts = ap length n.known ∙ kept.hosts;
      leads = kept.leads;
      lead = kept.lead;
      each = λ id k is. subst (λ m. HostFits w.settings (w.clock + slice_index_or w.leads.items id.0 0) w.applied m id k)
          (sym (ap length n.lent.spares)) (kept.each id k (sym (ap (λ hs. slice_get hs id.0) n.known) ∙ is));
      places = ap length n.lent.seats ∙ length-set (seats_of w.stage) to.0 (Some n.lent.seat) ∙ kept.places;
      seats = λ i m. subst (λ xs. SeatFits served w.applied (place_of xs i)) (sym n.lent.seats)
          (set_fits served w.applied (seats_of w.stage) to.0 i n.lent.seat (omega (arith, n.count, had)) (kept.seats i m));
      spares = subst (AllByRecursion (λ seat. served seat ≤ w.applied)) (sym n.lent.spares) kept.spares;
      packets = kept.packets;
      few = kept.few;
      froms = kept.froms;
      last = subst (IsLast (record w { stage = st })) (sym none) tt;
    } where
      had : served n.lent.had ≤ w.applied
      had = let f = kept.seats to.0 within_hosts in subst (λ x. served x ≤ w.applied) (some_is f.seat n.lent.had (sym f.is ∙ n.lent.place)) f.count where
        some_is : (x y : S) → Some x ≡ Some y → x ≡ y
        some_is x y e = cc

  pub not_came_stands : (allows : Allows S) (st : Stage S) → HasNotCome served allows to w.stage st → StillStands w (record w { stage = st })
  not_came_stands allows st n p stands = record {
    clock = stands.clock;
    hosts = stands.hosts ∙ ap (map (λ (k : Known). k.host)) (sym n.known);
    leads = stands.leads;
    packets = stands.packets;
    spares = stands.spares ∙ ap length (sym n.lent.spares);
  }

-- ---- what came

module _ {S : Type 0} (served : S → ℕ) (allows : Allows S) (w : WorldParts S) (kept : IsKept served w) (from to : HostId) (other : from ≢ to) (frame : List ℕ)
    (now : ℕ) (clock : now ≡ w.clock + slice_index_or w.leads.items to.0 0) (l : to.0 < length (hosts_of w.stage)) (st : Stage S)
    (did : IfSome (slice_get (hosts_of w.stage) to.0) (λ h. HasCome served allows now to h (arriving h from frame) w.stage st)) where
  -- what the event is, if its packet is this
  abbrev Makes : Event → List ℕ → List PlainEntry → Type 0
  Makes e bytes first =
      (h : Seen) → slice_get (hosts_of w.stage) to.0 ≡ Some h → h.host.id ≡ to → h.settings ≡ w.settings → (a : Answer) (p : PlainWorld) → StandsFor w p
      → IsStepWith a w.settings p to e bytes first (arrival_step w.settings h.host now (arriving h from frame) a)

  pub has_arrived : (e : Event) (bytes : List ℕ) (first : List PlainEntry) → Makes e bytes first → HasArrived served allows e bytes first to w st
  has_arrived e bytes first makes =
      let r = found (hosts_of w.stage) to.0 l in
      let f = fits_there served w kept to r.h r.at in
      let come = of_some (λ h. HasCome served allows now to h (arriving h from frame) w.stage st) (slice_get (hosts_of w.stage) to.0) r.h r.at did in
      by_clock now clock r.h r.at f.name.name f.settings come makes where
        by_clock : (n : ℕ) → n ≡ w.clock + slice_index_or w.leads.items to.0 0 → (h : Seen) → slice_get (hosts_of w.stage) to.0 ≡ Some h
            → h.host.id ≡ to → h.settings ≡ w.settings
            → HasCome served allows n to h (arriving h from frame) w.stage st
            → ((h : Seen) → slice_get (hosts_of w.stage) to.0 ≡ Some h → h.host.id ≡ to → h.settings ≡ w.settings → (a : Answer) (p : PlainWorld) →
            StandsFor w p
            → IsStepWith a w.settings p to e bytes first (arrival_step w.settings h.host n (arriving h from frame) a))
            → HasArrived served allows e bytes first to w st
        by_clock n e0 h at name same come makes =
            let come_now = subst (λ m. HasCome served allows m to h (arriving h from frame) w.stage st) e0 come in
            record {
              h = h;
              at = at;
              packet = arriving h from frame;
              come = come_now;
              ends = came_ends h from to frame name other;
              event = λ p stands.
                  subst (λ m. IsStepWith come_now.answer w.settings p to e bytes first
                  (arrival_step h.settings h.host m (arriving h from frame) come_now.answer)) e0
                  (subst (λ s. IsStepWith come_now.answer w.settings p to e bytes first
                  (arrival_step s h.host n (arriving h from frame) come_now.answer)) (sym same) (makes h at name same come_now.answer p stands));
            }

  -- a datagram that is no packet
  pub makes_injection : packet_in w.settings.wire frame ≡ None → Makes (event.Inject to) frame (PlainInject to frame ∷ [])
  makes_injection none h at name same a p stands =
      subst (IsStepWith a w.settings p to (event.Inject to) frame (PlainInject to frame ∷ [])) step
      (events.inject_done w.settings p to frame h.host a (host_there w to h p stands at) none) where
        step : arrival_step w.settings h.host (own_clock p to) None a ≡ arrival_step w.settings h.host now (arriving h from frame) a
        step = ap (λ n. arrival_step w.settings h.host n None a) (clock_there w to now p stands clock)
            ∙ ap (λ o. arrival_step w.settings h.host now (option_map (λ (r : WirePacket × List ℕ). packet_between from h.host.id r.0 r.1) o) a)
            (sym none ∙ ap (λ (s : Settings). packet_in s.wire frame) (sym same))

  pub injection : (bytes : List ℕ) → frame ≡ w.injected.items → w.injected.items ≡ bytes → packet_in w.settings.wire bytes ≡ None
      → HasArrived served allows (event.Inject to) bytes (first_told to first.Injected w.injected.items) to w st
  injection bytes e f none =
      subst (λ x. HasArrived served allows (event.Inject to) x (PlainInject to w.injected.items ∷ []) to w st) (e ∙ f)
      (subst (λ y. HasArrived served allows (event.Inject to) frame (PlainInject to y ∷ []) to w st) e
      (has_arrived (event.Inject to) frame (PlainInject to frame ∷ []) (makes_injection (ap (packet_in w.settings.wire) (e ∙ f) ∙ none))))

  -- a packet of which all is kept
  module _ (n tick : ℕ) (is : slice_get (kept_all w.packets) n ≡ Some (WholePacket tick (record { from = from; to = to; bytes = frame }))) where
    pub makes_delivery : ((p : PlainWorld) → StandsFor w p → is_late w.settings p tick ≡ false) → Makes (event.Deliver n) [] (PlainDeliver n ∷ [])
    makes_delivery fresh h at name same a p stands =
        let r =
        seen_as w.settings w.clock p.packets (kept_all w.packets) n (WholePacket tick (record { from = from; to = to; bytes = frame })) stands.packets is in
        let q : Packet = r.sent.packet in
        let to_is : to ≡ receiver q = ap (λ f. f.to) r.shown.1 in
        let from_is : from ≡ sender q = ap (λ f. f.from) r.shown.1 in
        let bytes_are : frame ≡ datagram w.settings q = ap (λ f. f.bytes) r.shown.1 in
        let arrives : arriving h from frame ≡ Some q =
        ap (λ (s : Settings). option_map (λ (x : WirePacket × List ℕ). packet_between from h.host.id x.0 x.1) (packet_in s.wire frame)) same
        ∙ ap (λ b. option_map (λ (x : WirePacket × List ℕ). packet_between from h.host.id x.0 x.1) (packet_in w.settings.wire b)) bytes_are
        ∙ ap (option_map (λ (x : WirePacket × List ℕ). packet_between from h.host.id x.0 x.1)) (read w.settings q r.shown.2)
        ∙ ap (λ x. Some (packet_between x h.host.id (wire_packet q) q.payload)) from_is
        ∙ ap (λ x. Some (packet_between (sender q) x (wire_packet q) q.payload)) (name ∙ to_is) ∙ ap Some (between q) in
        let now_is : own_clock p to ≡ now = clock_there w to now p stands clock in
        let late : is_late w.settings p r.sent.tick ≡ false = ap (is_late w.settings p) (sym r.shown.0) ∙ fresh p stands in
        subst (IsStepWith a w.settings p to (event.Deliver n) [] (PlainDeliver n ∷ []))
        (ap (λ m. arrival_step w.settings h.host m (Some q) a) now_is ∙ ap (λ o. arrival_step w.settings h.host now o a) (sym arrives))
        (subst (λ id. IsStepWith a w.settings p id (event.Deliver n) [] (PlainDeliver n ∷ [])
        (arrival_step w.settings h.host (own_clock p id) (Some q) a)) (sym to_is)
        (events.deliver_done w.settings p n r.sent h.host a r.found late (ap (host_at p) (sym to_is) ∙ host_there w to h p stands at)))

  -- a packet of which it is known that it is stale
  module _ (n at_tick : ℕ) (is : slice_get (kept_all w.packets) n ≡ Some (StalePacket to at_tick)) (tells : TellsClock frame at_tick) where
    pub makes_stale : Makes (event.Deliver n) [] (PlainDeliver n ∷ [])
    makes_stale h at name same a p stands =
        let r = seen_as w.settings w.clock p.packets (kept_all w.packets) n (StalePacket to at_tick) stands.packets is in
        let q : Packet = r.sent.packet in
        let to_is : to ≡ receiver q = r.shown.1 in
        let wire : w.settings.wire ≡ 2 = r.shown.0 in
        let bare : Packet = packet_between from h.host.id tells.0.0 tells.0.1 in
        let arrives : arriving h from frame ≡ Some bare =
        ap (λ (s : Settings). option_map (λ (x : WirePacket × List ℕ). packet_between from h.host.id x.0 x.1) (packet_in s.wire frame)) same
        ∙ ap (λ v. option_map (λ (x : WirePacket × List ℕ). packet_between from h.host.id x.0 x.1) (packet_in v frame)) wire
        ∙ ap (option_map (λ (x : WirePacket × List ℕ). packet_between from h.host.id x.0 x.1)) tells.1 in
        let now_is : own_clock p to ≡ now = clock_there w to now p stands clock in
        let late : is_late w.settings p r.sent.tick ≡ false = ap (λ v. v == 1 && nat_lt (r.sent.tick + w.settings.life) p.clock) wire in
        let stale : is_stale w.settings now q ≡ true =
        ap (λ v. v == 2 && nat_lt (q.at + w.settings.life + 2 * w.settings.skew) now) wire
        ∙ lt_true (q.at + w.settings.life + 2 * w.settings.skew) now (omega (arith, r.shown.3, r.shown.2, clock)) in
        let as_bare : arrival_step w.settings h.host now (Some q) a ≡ arrival_step w.settings h.host now (Some bare) a =
        old_packets.same_step w.settings h.host now q bare a a (sym r.shown.2 ∙ sym tells.2) stale in
        subst (IsStepWith a w.settings p to (event.Deliver n) [] (PlainDeliver n ∷ []))
        (ap (λ m. arrival_step w.settings h.host m (Some q) a) now_is ∙ as_bare ∙ ap (λ o. arrival_step w.settings h.host now o a) (sym arrives))
        (subst (λ id. IsStepWith a w.settings p id (event.Deliver n) [] (PlainDeliver n ∷ [])
        (arrival_step w.settings h.host (own_clock p id) (Some q) a)) (sym to_is)
        (events.deliver_done w.settings p n r.sent h.host a r.found late (ap (host_at p) (sym to_is) ∙ host_there w to h p stands at))) where
          lt_true : (a b : ℕ) → a < b → nat_lt a b ≡ true
          lt_true a b l = grind (arith, l)

-- ---- why a packet doesn't come

module _ {S : Type 0} (w : WorldParts S) where
  pub fresh_by : (tick : ℕ) → (w.settings.wire == 1 && nat_lt (tick + w.settings.life) w.clock) ≡ false → (p : PlainWorld) → StandsFor w p
      → is_late w.settings p tick ≡ false
  fresh_by tick fresh p stands = ap (λ c. w.settings.wire == 1 && nat_lt (tick + w.settings.life) c) stands.clock ∙ fresh

module _ {S : Type 0} (w : WorldParts S) (n : ℕ) where
  pub no_packet : length (kept_all w.packets) ≤ n → Refuses w (record { event = event.Deliver n; bytes = [] }) fault.NoSuchPacket
  no_packet l p stands =
      refused_by w.settings p (event.Deliver n) [] fault.NoSuchPacket refl
      (events.no_packet w.settings p n
      (past p.packets n (omega (arith, l, shown_length w.settings w.clock p.packets (kept_all w.packets) stands.packets)))) where
        past : {A : Type 0} (xs : List A) (i : ℕ) → length xs ≤ i → slice_get xs i ≡ None
        past [] i l = refl
        past (x ∷ xs) zero l = absurd (omega (arith, l))
        past (x ∷ xs) (suc i) l = past xs i (omega (arith, l))

  late_by : (tick : ℕ) (p : PlainWorld) → StandsFor w p → (sent : SentPacket) → slice_get p.packets n ≡ Some sent → tick ≡ sent.tick
      → is_late w.settings p sent.tick ≡ true → IsNotApplied w.settings p (record { event = event.Deliver n; bytes = [] }) (fault.Late tick w.clock)
  late_by tick p stands sent found same late =
      refused_by w.settings p (event.Deliver n) [] (fault.Late tick w.clock) refl
      (subst (λ c. IsRefusal w.settings p (event.Deliver n) [] (fault.Late tick c)) stands.clock
      (subst (λ t. IsRefusal w.settings p (event.Deliver n) [] (fault.Late t p.clock)) (sym same) (events.late_refused w.settings p n sent found late)))

  pub late_whole : (tick : ℕ) (f : Frame) → slice_get (kept_all w.packets) n ≡ Some (WholePacket tick f)
      → (w.settings.wire == 1 && nat_lt (tick + w.settings.life) w.clock) ≡ true
      → Refuses w (record { event = event.Deliver n; bytes = [] }) (fault.Late tick w.clock)
  late_whole tick f is old p stands =
      let r = seen_as w.settings w.clock p.packets (kept_all w.packets) n (WholePacket tick f) stands.packets is in
      late_by tick p stands r.sent r.found r.shown.0
      (ap (λ t. w.settings.wire == 1 && nat_lt (t + w.settings.life) p.clock) (sym r.shown.0)
      ∙ ap (λ c. w.settings.wire == 1 && nat_lt (tick + w.settings.life) c) stands.clock ∙ old)

  pub late_for_good : (tick : ℕ) → slice_get (kept_all w.packets) n ≡ Some (LatePacket tick)
      → Refuses w (record { event = event.Deliver n; bytes = [] }) (fault.Late tick w.clock)
  late_for_good tick is p stands =
      let r = seen_as w.settings w.clock p.packets (kept_all w.packets) n (LatePacket tick) stands.packets is in
      late_by tick p stands r.sent r.found r.shown.1
      (ap (λ v. v == 1 && nat_lt (r.sent.tick + w.settings.life) p.clock) r.shown.0 ∙ lt_true (r.sent.tick + w.settings.life) p.clock
      (omega (arith, r.shown.2, r.shown.1, stands.clock))) where
        lt_true : (a b : ℕ) → a < b → nat_lt a b ≡ true
        lt_true a b l = grind (arith, l)

  -- its receiver isn't there
  unreceived : (p : PlainWorld) (sent : SentPacket) → slice_get p.packets n ≡ Some sent → is_late w.settings p sent.tick ≡ false
      → host_at p (receiver sent.packet) ≡ None → IsRefusal w.settings p (event.Deliver n) [] fault.NoSuchHost
  unfolding outcome
  unreceived p sent found fresh none later =
      ap (λ o. delivered w.settings (answering later p) n o) found
      ∙ ap (λ t. cond t (Refused (fault.Late sent.tick p.clock))
      (arrives_at w.settings (answering later p) (receiver sent.packet) (PlainDeliver n ∷ []) (Some sent.packet) (host_at p (receiver sent.packet)))) fresh
      ∙ ap (λ o. arrives_at w.settings (answering later p) (receiver sent.packet) (PlainDeliver n ∷ []) (Some sent.packet) o) none

  pub no_receiver : (tick : ℕ) (f : Frame) → slice_get (kept_all w.packets) n ≡ Some (WholePacket tick f)
      → (w.settings.wire == 1 && nat_lt (tick + w.settings.life) w.clock) ≡ false → length (hosts_of w.stage) ≤ f.to.0
      → Refuses w (record { event = event.Deliver n; bytes = [] }) fault.NoSuchHost
  no_receiver tick f is fresh l p stands =
      let r = seen_as w.settings w.clock p.packets (kept_all w.packets) n (WholePacket tick f) stands.packets is in
      refused_by w.settings p (event.Deliver n) [] fault.NoSuchHost refl (unreceived p r.sent r.found
      (ap (λ t. w.settings.wire == 1 && nat_lt (t + w.settings.life) p.clock) (sym r.shown.0)
      ∙ ap (λ c. w.settings.wire == 1 && nat_lt (tick + w.settings.life) c) stands.clock ∙ fresh)
      (ap (host_at p) (sym (ap (λ g. g.to) r.shown.1)) ∙ no_host w f.to p stands l))

  pub no_stale_receiver : (to : HostId) (at_tick : ℕ) → slice_get (kept_all w.packets) n ≡ Some (StalePacket to at_tick)
      → length (hosts_of w.stage) ≤ to.0 → Refuses w (record { event = event.Deliver n; bytes = [] }) fault.NoSuchHost
  no_stale_receiver to at_tick is l p stands =
      let r = seen_as w.settings w.clock p.packets (kept_all w.packets) n (StalePacket to at_tick) stands.packets is in
      refused_by w.settings p (event.Deliver n) [] fault.NoSuchHost refl (unreceived p r.sent r.found
      (ap (λ v. v == 1 && nat_lt (r.sent.tick + w.settings.life) p.clock) r.shown.0) (ap (host_at p) (sym r.shown.1) ∙ no_host w to p stands l))

-- ---- the event

module _ {S : Type 0} (served : S → ℕ) (allows : Allows S) (old mid new : WorldParts S) (kept : IsKept served mid) (few : mid.applied < 2 ^ 57)
    (settings : mid.settings ≡ old.settings) (stage : mid.stage ≡ old.stage) (still : StillStands old mid)
    (to : HostId) (f : First) (e : Event) (bytes : List ℕ) (st : Stage S)
    (did : HasArrived served allows e bytes (first_told to f mid.injected.items) to mid st)
    (done : new ≡ record mid { stage = st; packets = new.packets; last = last.Stepped to f (length (kept_all mid.packets)); applied = mid.applied + 1 })
    (sent : kept_all new.packets ≡ kept_all mid.packets ++ map (frame_kept mid.clock) st.outbox) (same : settings_of new.packets ≡ settings_of mid.packets)
    (frames : length st.outbox ≤ 64) where
  abbrev now_there : ℕ
  now_there = mid.clock + slice_index_or mid.leads.items to.0 0

  abbrev step : Work
  step = arrival_step did.h.settings did.h.host now_there did.packet did.come.answer

  fits : HostFits mid.settings now_there mid.applied (length (spares_of mid.stage)) to (known did.h)
  fits = fits_there served mid kept to did.h did.at

  own : IsOwnStep to step
  own = arrival_named did.h.settings to did.h.host now_there did.packet did.come.answer fits.name (to_it did.packet did.ends) where
    to_it : (o : Option Packet) → IfSome o (λ p. (receiver p ≡ to) × (sender p ≢ to)) → IfSome o (λ p. receiver p ≡ to)
    to_it None ends = tt
    to_it (Some p) ends = ends.0

  apart : IsApartStep to step
  apart = arrival_apart did.h.settings to did.h.host now_there did.packet did.come.answer fits.name fits.apart did.ends

  pub arrived : (Applies served allows old new (record { event = e; bytes = bytes })) × IsKept served new
  arrived = (
    applies,
    subst (IsKept served) (sym done)
        (came_kept served allows mid kept now_there to did.h did.packet st did.at did.come new.packets f mid sent same own apart frames
        (omega (arith, kept.few, few)) (omega (arith)) inside),
  ) where
    inside : to.0 < mid.settings.hosts
    inside = omega (arith, within (hosts_of mid.stage) to.0 did.h did.at, length-map (hosts_of mid.stage) known, kept.hosts)

    applies : Applies served allows old new (record { event = e; bytes = bytes })
    applies p stands =
        let at_mid : StandsFor mid p = still p stands in
        let applied = came_applies served allows mid kept now_there to did.h did.packet st did.at did.come new.packets f mid sent same own e bytes p
        at_mid (did.event p at_mid) in
        let here : IsApplied mid.settings p (record { event = e; bytes = bytes }) (StandsFor new) (told_of new) (may_tell_of served allows mid)
        (may_tell_of served allows new) =
        subst (λ x. IsApplied mid.settings p (record { event = e; bytes = bytes }) (StandsFor x) (told_of x) (may_tell_of served allows mid)
        (may_tell_of served allows x)) (sym done) applied in
        subst (λ x. IsApplied old.settings p (record { event = e; bytes = bytes }) (StandsFor new) (told_of new)
        (may_tell allows (all_counted served (seats_of x)) (map (counted served) (spares_of x))) (may_tell_of served allows new)) stage
        (subst (λ s. IsApplied s p (record { event = e; bytes = bytes }) (StandsFor new) (told_of new) (may_tell_of served allows mid)
        (may_tell_of served allows new)) settings here)

module _ {S : Type 0} (served : S → ℕ) (allows : Allows S) (w : WorldParts S) (kept : IsKept served w) (e : Event) (bytes : List ℕ)
    (first : List PlainEntry) (to : HostId) (st : Stage S) where
  -- the frames of the step are short
  pub short_arrived : HasArrived served allows e bytes first to w st → AllByRecursion IsShort st.outbox
  short_arrived did =
      short_frames served w kept (w.clock + slice_index_or w.leads.items to.0 0) to did.h
      (arrival_step did.h.settings did.h.host (w.clock + slice_index_or w.leads.items to.0 0) did.packet did.come.answer) st did.at did.come.stepped

-- the datagram that was injected is kept
module _ {S : Type 0} (served : S → ℕ) (w like : WorldParts S) where
  abbrev keeping : WorldParts S
  keeping = record w { injected = like.injected }

  pub keeping_kept : w.last ≡ last.Nothing → IsKept served w → IsKept served keeping
  keeping_kept none k = record {
    valid = k.valid;
    clock = k.clock;
    hosts = k.hosts;
    leads = k.leads;
    lead = k.lead;
    each = k.each;
    places = k.places;
    seats = k.seats;
    spares = k.spares;
    packets = k.packets;
    few = k.few;
    froms = k.froms;
    last = subst (IsLast keeping) (sym none) tt;
  }

  pub keeping_stands : StillStands w keeping
  keeping_stands p stands = record {
    clock = stands.clock;
    hosts = stands.hosts;
    leads = stands.leads;
    packets = stands.packets;
    spares = stands.spares;
  }
