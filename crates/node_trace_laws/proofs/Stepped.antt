-- What a step of a host leaves of a world whose packets are well formed, and of what was sent.
use Rattle.std.proofs.Common.{◌≡◌, ℕ, ◌≤◌, Option, Some, List, [], ◌∷◌, ◌++◌, length, refl, sym, ap, subst, ◌<◌}
use Rattle.std.specs.List.{AllByRecursion}
use Rattle.std.specs.Option.{IfSome}
use Rattle.homa_plain.specs.declared.id.HostId.{HostId}
use Rattle.homa_plain.specs.declared.settings.Settings.{Settings}
use Rattle.homa_plain.specs.declared.event.Event.TheVariants as event
use Rattle.homa_plain.specs.Bytes.{IsBytes}
use Rattle.homa_plain.specs.Settings.{IsValid}
use Rattle.homa_plain.specs.Entries.{PlainEntry, PlainCall, PlainRecv}
use Rattle.homa_plain.specs.Packets.{Packet}
use Rattle.homa_plain.specs.Host.{Host, Told, packets_in, entries_from}
use Rattle.homa_plain.specs.Work.{Work}
use Rattle.homa_plain.specs.Steps.{next_id, call_step, arrival_step, turn_step}
use Rattle.homa_plain.specs.Wire.{packet_in}
use Rattle.homa_plain.specs.World.{World, After, Refused, Done, outcome, host_at, own_clock, next_answer, stamped}
use Rattle.step_moves.specs.Worlds.{HasOwnName}
use Rattle.step_moves.proofs.Inner.{AllInner}
use Rattle.trace_steps.proofs.Events.{after_step, call_done, turn_done}
use Rattle.world_laws.specs.Sound.{IsSent}
use Rattle.node_runs.specs.Course.{Arrival, packet_from}
use Rattle.node_runs.specs.Recorder.{Notes}
use Rattle.node_laws.proofs.OfNode.{IsOfNode}
use Rattle.node_laws.proofs.Good.{IsGoodWork}
use Rattle.node_laws.proofs.GoodSteps.{call_good, arrival_good, turn_good}
use Rattle.node_laws.proofs.Inner.{call_inside, arrival_inside, turn_inside}
use Rattle.node_laws.proofs.Behind.{IsGoodWorld, all_second, next_is_answer, in_time, good_behind, receiver_is}
use Rattle.node_trace_laws.specs.Honest.{noted}
use Rattle.node_trace_laws.proofs.Sent.{noted_all, AreNoted, inner_noted, call_noted, recv_noted}
use Rattle.node_trace_laws.proofs.Usual.{AreInOrder, inner_next}

pub refused_done : {fault : _} {after : After} → Refused fault ≡ Done after → ⊥
refused_done e = cc

pub same_done : (a b : After) → Done a ≡ Done b → b ≡ a
same_done a b e = cc

-- ---- what is so behind an event

module _ (s : Settings) (valid : IsValid s) (w : World) (good : IsGoodWorld s w)
    (names : (id : HostId) (h : Host) → host_at w id ≡ Some h → HasOwnName id h) where
  -- ---- packets that are well formed

  abbrev in_range : (id : HostId) (h : Host) → host_at w id ≡ Some h → own_clock w id ≤ 1000000002000
  in_range id h at = in_time s w valid good id h at

  good_after : (id : HostId) (h : Host) (at : host_at w id ≡ Some h) (first : List PlainEntry) (step : Work)
      → IsGoodWork s valid (own_clock w id) (in_range id h at) step → IsGoodWorld s (after_step w id first step).world
  good_after id h at first step g = good_behind s w valid good id h at step (after_step w id first step) g (refl, refl, refl, refl, refl)

  -- ---- what was sent

  noted_after : (n : Notes) (told : List Told) (packets : List Packet) → packets ≡ packets_in told → AllInner told
      → AllByRecursion (IsOfNode s) (w.packets ++ stamped w.clock packets) → AreNoted s n w.clock w.packets
      → AreNoted s (noted_all n (entries_from (length w.packets) told)) w.clock (w.packets ++ stamped w.clock packets)
  noted_after n told packets same inner all a =
      let here : w.packets ++ stamped w.clock packets ≡ w.packets ++ stamped w.clock (packets_in told) =
      ap (λ (ps : List Packet). w.packets ++ stamped w.clock ps) same in
      subst (AreNoted s (noted_all n (entries_from (length w.packets) told)) w.clock) (sym here)
      (inner_noted s n w.clock w.packets (length w.packets) told refl inner
      (all_second (IsOfNode s) w.packets (stamped w.clock (packets_in told)) (subst (AllByRecursion (IsOfNode s)) here all)) a)

  -- what is so behind an event
  pub record IsGoodAfter (n : Notes) (after : After) : Type 0 where
    pub sound : IsGoodWorld s after.world
    pub noted : AreNoted s (noted_all n after.told) after.world.clock after.world.packets
    pub in_order : AreInOrder n after.told

  -- the event's own line, which notes nothing, and the lines of the step
  with_line : (n : Notes) (id : HostId) (first : PlainEntry) (h : Host) (at : host_at w id ≡ Some h) (step : Work) (told : List Told) → noted n first ≡ n
      → packets_in step.told ≡ packets_in told → AllInner told
      → IsGoodWork s valid (own_clock w id) (in_range id h at) step → AreNoted s n w.clock w.packets
      → AreNoted s (noted_all n (first ∷ entries_from (length w.packets) told)) w.clock (w.packets ++ stamped w.clock (packets_in step.told))
  with_line n id first h at step told still same inner g a =
      subst (λ (m : Notes). AreNoted s (noted_all m (entries_from (length w.packets) told)) w.clock (w.packets ++ stamped w.clock (packets_in step.told)))
      (sym still)
      (noted_after n told (packets_in step.told) same inner (good_after id h at [] step g).packets a)

  -- ---- the events of a node

  pub turn_after : (n : Notes) (id : HostId) (after : After) → AreNoted s n w.clock w.packets → outcome s w (event.Turn id) [] ≡ Done after
      → IsGoodAfter n after
  unfolding outcome
  turn_after n id after a done =
      let c = turn_done s w after id (host_at w id) refl done in
      let step = turn_step s c.host (own_clock w id) in
      let inside = turn_inside s id valid.in_range.2.2.2.2.2.2.0 c.host (own_clock w id) (names id c.host c.stands) in
      let g = turn_good s valid (own_clock w id) (in_range id c.host c.stands) c.host (good.hosts id c.host c.stands) in
      let world = good_after id c.host c.stands [] step g in
      subst (IsGoodAfter n) (sym c.is) (record {
        sound = world;
        noted = subst (λ (es : List PlainEntry). AreNoted s (noted_all n es) w.clock (w.packets ++ stamped w.clock (packets_in step.told)))
            (sym (ap (entries_from (length w.packets)) inside.told))
            (noted_after n inside.rest (packets_in step.told) (ap packets_in inside.told) inside.inner world.packets a);
        in_order = subst (AreInOrder n) (sym (ap (entries_from (length w.packets)) inside.told)) (inner_next n (length w.packets) inside.rest inside.inner);
      })

  pub call_after : (n : Notes) (client server : HostId) (service : ℕ) (request : List ℕ) (after : After) → IsBytes request → service < 256
      → AreNoted s n w.clock w.packets → outcome s w (event.Call client server service) request ≡ Done after → IsGoodAfter n after
  unfolding outcome
  call_after n client server service request after bytes small a done =
      let c = call_done s w after client server service request done in
      let step = call_step s c.host (own_clock w client) server service request in
      let inside = call_inside s client c.host (own_clock w client) server service request (names client c.host c.stands) in
      let g = call_good s valid (own_clock w client) (in_range client c.host c.stands) c.host server service request
      (good.hosts client c.host c.stands) c.may bytes small in
      let line : PlainEntry = PlainCall (next_id c.host) server service request in
      subst (IsGoodAfter n) (sym c.is) (record {
        sound = good_after client c.host c.stands [] step g;
        noted = subst (λ (es : List PlainEntry). AreNoted s (noted_all n es) w.clock (w.packets ++ stamped w.clock (packets_in step.told)))
            (sym (ap (entries_from (length w.packets)) inside.told))
            (with_line n client line c.host c.stands step inside.rest (call_noted n (next_id c.host) server service request)
            (ap packets_in inside.told) inside.inner g a);
        in_order = subst (AreInOrder n) (sym (ap (entries_from (length w.packets)) inside.told))
            (tt, inner_next (noted n line) (length w.packets) inside.rest inside.inner);
      })

  -- the lines of a datagram that comes, whatever it is
  pub recv_in_order : (n : Notes) (id : HostId) (a : Arrival) (h : Host) → host_at w id ≡ Some h
      → AreInOrder n (after_step w id (PlainRecv id a.from a.bytes ∷ [])
      (arrival_step s h (own_clock w id) (packet_from a.from id (packet_in s.wire a.bytes)) (next_answer w.answers))).told
  recv_in_order n id a h at =
      let packet : Option Packet = packet_from a.from id (packet_in s.wire a.bytes) in
      let inside = arrival_inside s id h (own_clock w id) packet (next_answer w.answers) (names id h at) (receiver_is a.from id (packet_in s.wire a.bytes)) in (
        tt,
        subst (AreInOrder (noted n (PlainRecv id a.from a.bytes))) (sym (ap (entries_from (length w.packets)) inside.told))
            (inner_next (noted n (PlainRecv id a.from a.bytes)) (length w.packets) inside.rest inside.inner),
      )

  pub recv_after : (n : Notes) (id : HostId) (a : Arrival) (h : Host) → host_at w id ≡ Some h
      → IfSome (packet_from a.from id (packet_in s.wire a.bytes)) (IsSent s) → AreNoted s n w.clock w.packets
      → IsGoodAfter n (after_step w id (PlainRecv id a.from a.bytes ∷ [])
      (arrival_step s h (own_clock w id) (packet_from a.from id (packet_in s.wire a.bytes)) (next_answer w.answers)))
  recv_after n id a h at formed noted_here =
      let packet : Option Packet = packet_from a.from id (packet_in s.wire a.bytes) in
      let step = arrival_step s h (own_clock w id) packet (next_answer w.answers) in
      let inside = arrival_inside s id h (own_clock w id) packet (next_answer w.answers) (names id h at) (receiver_is a.from id (packet_in s.wire a.bytes)) in
      let g = arrival_good s valid (own_clock w id) (in_range id h at) h packet (next_answer w.answers) (good.hosts id h at) formed
      (next_is_answer w.answers good.answers) in
      record {
        sound = good_after id h at (PlainRecv id a.from a.bytes ∷ []) step g;
        noted = subst (λ (es : List PlainEntry). AreNoted s (noted_all n (PlainRecv id a.from a.bytes ∷ es)) w.clock
            (w.packets ++ stamped w.clock (packets_in step.told))) (sym (ap (entries_from (length w.packets)) inside.told))
            (with_line n id (PlainRecv id a.from a.bytes) h at step inside.rest (recv_noted n id a.from a.bytes)
            (ap packets_in inside.told) inside.inner g noted_here);
        in_order = recv_in_order n id a h at;
      }
