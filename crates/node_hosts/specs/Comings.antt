-- What comes to a host that is there, and its turn, whatever is answered.
use Rattle.std.proofs.Common.{◌≡◌, ◌<◌, Some, List, [], ◌∷◌, length, get_or, sym, ap, subst}
use Rattle.std.proofs.lemmas.Option.{slice_get-get_or}
use Rattle.std.specs.Prelude.{map}
use Rattle.std.proofs.lemmas.List.{map-append}
use Rattle.homa_plain.specs.declared.id.HostId.{HostId}
use Rattle.homa_plain.specs.declared.event.Event.TheVariants as event
use Rattle.homa_plain.specs.Entries.{PlainRecv}
use Rattle.homa_plain.specs.Wire.{packet_in}
use Rattle.homa_plain.specs.Packets.{sender, receiver, datagram}
use Rattle.homa_plain.specs.Host.{Host, new_host, packets_in, entries_from}
use Rattle.homa_plain.specs.Rules.{Answer}
use Rattle.homa_plain.specs.Steps.{arrival_step, turn_step}
use Rattle.homa_plain.specs.World.{World, SentPacket, outcome, host_at, own_clock, next_answer, answers_left, stamped, arrives_at}
use Rattle.event_laws.proofs.Events as events
use Rattle.homa_plain.specs.Answers.{answering}
use Rattle.event_laws.specs.Stepping.{stepped_world}
use Rattle.node_runs.specs.Course.{Arrival, arrival_outcome, packet_from}
use Rattle.node_turns.specs.Acting.{IsBegun}
use Rattle.node_hosts.specs.declared.parts.NodeParts.{NodeParts}
use Rattle.node_hosts.specs.Standing.{StandsFor}

module _ {S : Type 0} (n : NodeParts S) (w : World) (stands : StandsFor n w) (host : HostId) (l : host.0 < n.settings.hosts) (later : List Answer) where
  abbrev there : Host
  there = get_or w.hosts host.0 (new_host n.settings host 1 0)

  here : host_at w host ≡ Some there
  here = slice_get-get_or w.hosts host.0 (new_host n.settings host 1 0) (subst (λ m. host.0 < m) (sym stands.count) l)

  pub comes : (a : Arrival) → IsBegun (λ v. arrival_outcome n.settings v host a) (PlainRecv host a.from a.bytes ∷ []) n.settings w later
  comes a =
      let packet = packet_from a.from host (packet_in n.settings.wire a.bytes) in
      let step = arrival_step n.settings there (own_clock w host) packet (next_answer later) in
      record {
        next = answering (answers_left step.told later) (stepped_world w host step);
        more = entries_from (length w.packets) step.told;
        sent = map (λ (q : SentPacket). record { from = sender q.packet; to = receiver q.packet; bytes = datagram n.settings q.packet })
            (stamped w.clock (packets_in step.told));
        done = ap (λ o. arrives_at n.settings (answering later w) host (PlainRecv host a.from a.bytes ∷ []) packet o) here;
        grown = map-append (λ (q : SentPacket). record { from = sender q.packet; to = receiver q.packet; bytes = datagram n.settings q.packet })
            w.packets (stamped w.clock (packets_in step.told));
      }

  pub turns : IsBegun (λ v. outcome n.settings v (event.Turn host) []) [] n.settings w later
  turns =
      let step = turn_step n.settings there (own_clock w host) in
      record {
        next = answering later (stepped_world w host step);
        more = entries_from (length w.packets) step.told;
        sent = map (λ (q : SentPacket). record { from = sender q.packet; to = receiver q.packet; bytes = datagram n.settings q.packet })
            (stamped w.clock (packets_in step.told));
        done = events.turn_done n.settings w host there here later;
        grown = map-append (λ (q : SentPacket). record { from = sender q.packet; to = receiver q.packet; bytes = datagram n.settings q.packet })
            w.packets (stamped w.clock (packets_in step.told));
      }
