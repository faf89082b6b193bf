-- Parts of a course only append reports and packets.
use Rattle.std.proofs.Common.{◌≡◌, ℕ, zero, suc, Bool, true, false, Option, None, Some, List, [], ◌∷◌, ◌++◌, refl, sym, ap, ◌∙◌, append_assoc}
use Rattle.std.specs.Prelude.{if◌then◌else◌, map}
use Rattle.std.proofs.lemmas.List.{append-nil, map-append}
use Rattle.homa_plain.specs.declared.settings.Settings.{Settings}
use Rattle.homa_plain.specs.declared.id.HostId.{HostId}
use Rattle.homa_plain.specs.Calls.{is_host}
use Rattle.homa_plain.specs.Entries.{PlainEntry, PlainRecv}
use Rattle.homa_plain.specs.Host.{Host, packets_in}
use Rattle.homa_plain.specs.Packets.{Packet, sender, receiver, datagram}
use Rattle.homa_plain.specs.Steps.{arrival_step, turn_step}
use Rattle.homa_plain.specs.World.{SentPacket, host_at, own_clock, next_answer, stamped, arrives_at, turns, outcome}
use Rattle.homa_plain.specs.Wire.{packet_in}
use Rattle.node_runs.specs.Course.{Report, Turning, Datagram, Receive, Node, Course, GoesOn, Stops, ◌>>=◌, datagrams, follows, hears}
use Rattle.node_runs.specs.Course.{Arrival, has_turn, hosts_act, most_received, arrival_outcome, packet_from}
use Rattle.node_turns.specs.Acting.{node_of, Begins}

module _ (s : Settings) where
  -- a node that has more reports and packets than another
  pub record Grown (old new : Node) : Type 0 where
    pub more : List Report
    pub later : List Datagram
    pub told : new.reports ≡ old.reports ++ more
    pub sent : datagrams s new.world ≡ datagrams s old.world ++ later

  pub grown_on : (a b : Node) (c : Course) → Grown a b → Begins s c b.reports (datagrams s b.world) → Begins s c a.reports (datagrams s a.world)
  grown_on a b c g h = record {
    more = g.more ++ h.more;
    later = g.later ++ h.later;
    told = h.told ∙ ap (λ rs. rs ++ h.more) g.told ∙ append_assoc a.reports g.more h.more;
    grown = h.grown ∙ ap (λ ds. ds ++ h.later) g.sent ∙ append_assoc (datagrams s a.world) g.later h.later;
  }

  pub grown_none : (a : Node) → Grown a a
  grown_none a = record { more = []; later = []; told = sym (append-nil a.reports); sent = sym (append-nil (datagrams s a.world)) }

  pub begins_self : (c : Course) → Begins s c (node_of c).reports (datagrams s (node_of c).world)
  begins_self c = record { more = []; later = []; told = sym (append-nil (node_of c).reports); grown = sym (append-nil (datagrams s (node_of c).world)) }

  arrived : (id : HostId) (first : List PlainEntry) (packet : Option Packet) (node : Node) (o : Option Host)
      → Grown node (follows [] (arrives_at s node.world id first packet o) node)
  arrived id first packet node None = grown_none node
  arrived id first packet node (Some h) =
      let told = (arrival_step s h (own_clock node.world id) packet (next_answer node.world.answers)).told in
      record {
        more = _;
        later = map (λ (p : SentPacket). record { from = sender p.packet; to = receiver p.packet; bytes = datagram s p.packet })
            (stamped node.world.clock (packets_in told));
        told = refl;
        sent = map-append (λ (p : SentPacket). record { from = sender p.packet; to = receiver p.packet; bytes = datagram s p.packet }) node.world.packets
            (stamped node.world.clock (packets_in told));
      }

  -- what a host hears
  pub hears_grows : (id : HostId) (n : ℕ) (left : List Receive) (node : Node) → Begins s (hears s id n left node) node.reports (datagrams s node.world)
  hears_grows id zero left node = begins_self (hears s id zero left node)
  hears_grows id (suc n) [] node = begins_self (hears s id (suc n) [] node)
  hears_grows id (suc n) (r ∷ left) node = by_host (is_host r.host id) r.got (λ m. hears_grows id n left m) where
    by_host : (b : Bool) (o : Option Arrival) → ((m : Node) → Begins s (hears s id n left m) m.reports (datagrams s m.world))
        → Begins s (if b then elim o [
          | None ↦ GoesOn (record node { receives = left })
          | Some a ↦ hears s id n left (follows [] (arrival_outcome s node.world id a) node)
        ]
        else Stops node None) node.reports (datagrams s node.world)
    by_host false o next = begins_self (Stops node None)
    by_host true None next = begins_self (GoesOn (record node { receives = left }))
    by_host true (Some a) next =
        let m = follows [] (arrival_outcome s node.world id a) node in
        grown_on node m (hears s id n left m)
        (arrived id (PlainRecv id a.from a.bytes ∷ []) (packet_from a.from id (packet_in s.wire a.bytes)) node (host_at node.world id))
        (next m)

  turned : (id : HostId) (node : Node) (o : Option Host) → Grown node (follows (Turning id ∷ []) (turns s node.world id o) node)
  turned id node None = grown_none node
  turned id node (Some h) =
      let told = (turn_step s h (own_clock node.world id)).told in
      record {
        more = _;
        later = map (λ (p : SentPacket). record { from = sender p.packet; to = receiver p.packet; bytes = datagram s p.packet })
            (stamped node.world.clock (packets_in told));
        told = refl;
        sent = map-append (λ (p : SentPacket). record { from = sender p.packet; to = receiver p.packet; bytes = datagram s p.packet }) node.world.packets
            (stamped node.world.clock (packets_in told));
      }

  -- a turn
  pub turn_grows : (id : HostId) (node : Node) → Grown node (has_turn s id node)
  unfolding outcome
  turn_grows id node = turned id node (host_at node.world id)

  -- what comes next begins with what was there
  pub begins_then : (f : Node → Course) → ((n : Node) → Begins s (f n) n.reports (datagrams s n.world))
      → (c : Course) (reports : List Report) (sent : List Datagram) → Begins s c reports sent → Begins s (c >>= f) reports sent
  begins_then f grows (Stops node end) reports sent b = b
  begins_then f grows (GoesOn node) reports sent b =
      let q = grows node in
      record {
        more = b.more ++ q.more;
        later = b.later ++ q.later;
        told = q.told ∙ ap (λ rs. rs ++ q.more) b.told ∙ append_assoc reports b.more q.more;
        grown = q.grown ∙ ap (λ ds. ds ++ q.later) b.grown ∙ append_assoc sent b.later q.later;
      }

  -- what all hosts do
  pub hosts_grow : (ids : List HostId) (node : Node) → Begins s (hosts_act s ids node) node.reports (datagrams s node.world)
  hosts_grow [] node = begins_self (GoesOn node)
  hosts_grow (id ∷ ids) node =
      begins_then (λ m. hosts_act s ids (has_turn s id m))
      (λ m. grown_on m (has_turn s id m) (hosts_act s ids (has_turn s id m)) (turn_grows id m) (hosts_grow ids (has_turn s id m)))
      (hears s id most_received node.receives node) node.reports (datagrams s node.world) (hears_grows id most_received node.receives node)
