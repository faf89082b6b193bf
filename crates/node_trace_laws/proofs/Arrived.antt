-- A datagram that comes to a host of a node: the event keeps what is so, and the laws hold at its lines.
use Rattle.std.proofs.Common.{◌≡◌, ℕ, Option, Some, List, [], ◌∷◌, refl, sym, ap, subst, ◌∙◌}
use Rattle.std.specs.Prelude.{slice_get}
use Rattle.std.specs.Option.{option_map}
use Rattle.std.proofs.lemmas.Option.{slice_get-map}
use Rattle.homa_plain.specs.declared.id.HostId.{HostId}
use Rattle.homa_plain.specs.declared.packet.Packet.{Packet as WirePacket}
use Rattle.homa_plain.specs.declared.settings.Settings.{Settings}
use Rattle.homa_plain.specs.declared.event.Event.TheVariants as event
use Rattle.homa_plain.specs.Entries.{PlainEntry, PlainDeliver, PlainInject, PlainRecv}
use Rattle.trace_rules.specs.Granting.{IsWithin}
use Rattle.homa_plain.specs.Host.{Host}
use Rattle.trace_rules.specs.Laws.{Holds}
use Rattle.homa_plain.specs.Steps.{arrival_step}
use Rattle.trace_rules.specs.View.{View, Sent}
use Rattle.trace_rules.specs.Seen.{seen, seen_all, received}
use Rattle.homa_plain.specs.Wire.{packet_in}
use Rattle.homa_plain.specs.World.{World, SentPacket, After, outcome, host_at, own_clock, next_answer, arrives_at}
use Rattle.homa_plain.specs.Replay.{Happening, bare}
use Rattle.trace_steps.specs.Told.{sent_of}
use Rattle.trace_steps.proofs.Events.{after_step}
use Rattle.node_runs.specs.Course.{Arrival, packet_from}
use Rattle.node_laws.proofs.Carried.{deliver_is, inject_is}
use Rattle.node_trace_laws.proofs.Datagrams.{seen_packet, seen_junk, received_is, IsPacket, IsJunk}
use Rattle.node_trace_laws.proofs.Lawful.{IsLawful, IsObeyed, event_obeyed}

-- ---- the laws at the line

module _ (s : Settings) (v : View) (host from : HostId) (bytes : List ℕ) where
  same_packet : (n : ℕ) → seen v (PlainRecv host from bytes) ≡ seen v (PlainDeliver n) → IsObeyed v (PlainDeliver n) → IsObeyed v (PlainRecv host from bytes)
  same_packet n same k = record {
    shape = λ cause. ((k.shape tt).0, tt);
    once = tt;
    returned = tt;
    closed = λ e. k.closed refl;
    times_out = tt;
    granting = subst IsWithin (sym same) k.granting;
  }

  same_junk : seen v (PlainRecv host from bytes) ≡ seen v (PlainInject host bytes) → IsObeyed v (PlainInject host bytes)
      → IsObeyed v (PlainRecv host from bytes)
  same_junk same k = record {
    shape = λ cause. ((k.shape tt).0, tt);
    once = tt;
    returned = tt;
    closed = λ e. k.closed refl;
    times_out = tt;
    granting = subst IsWithin (sym same) k.granting;
  }

-- ---- a datagram that comes

-- what holds at the lines of a step, and behind it
abbrev pub Obeyed : Settings → View → After → Type 0
Obeyed s v after = Holds IsObeyed v after.told × IsLawful s after.world (seen_all v after.told)

module _ (s : Settings) (w : World) (v : View) (id : HostId) (a : Arrival) (k : IsLawful s w v) where
  recv : PlainEntry
  recv = PlainRecv id a.from a.bytes

  -- the line of the event, in front of the same lines
  in_front : (first : PlainEntry) (world : World) (told : List PlainEntry) → seen v (PlainRecv id a.from a.bytes) ≡ seen v first
      → (IsObeyed v first → IsObeyed v (PlainRecv id a.from a.bytes))
      → Obeyed s v (record { world = world; told = first ∷ told }) → Obeyed s v (record { world = world; told = PlainRecv id a.from a.bytes ∷ told })
  in_front first world told same line o = (
    (line o.0.0, subst (λ (u : View). Holds IsObeyed u told) (sym same) o.0.1),
    subst (λ (u : View). IsLawful s world (seen_all u told)) (sym same) o.1,
  )

  abbrev after_line : Host → PlainEntry → After
  after_line h first =
      after_step w id (first ∷ []) (arrival_step s h (own_clock w id) (packet_from a.from id (packet_in s.wire a.bytes)) (next_answer w.answers))

  by_event : (h : Host) (first : PlainEntry) (e : Happening) → host_at w id ≡ Some h
      → outcome s w e.event e.bytes ≡ arrives_at s w id (first ∷ []) (packet_from a.from id (packet_in s.wire a.bytes)) (Some h)
      → Obeyed s v (after_line h first)
  by_event h first e at is = event_obeyed s w v e (after_line h first) k is

  wire_is : v.settings.wire ≡ s.wire
  wire_is = ap (λ (x : Settings). x.wire) (k.so.0).settings

  pub packet_comes : (h : Host) → host_at w id ≡ Some h → IsPacket s w id a → Obeyed s v (after_line h (PlainRecv id a.from a.bytes))
  packet_comes h at p =
      let line : PlainEntry = PlainDeliver p.number in
      let came : slice_get v.packets p.number ≡ Some (sent_of p.sent.packet) =
      ap (λ (ps : List Sent). slice_get ps p.number) (k.so.0).packets
      ∙ (slice_get-map (λ (x : SentPacket). sent_of x.packet) w.packets p.number ∙ ap (option_map (λ (x : SentPacket). sent_of x.packet)) p.at) in
      let read : received id a.from (packet_in v.settings.wire a.bytes) ≡ Some (sent_of p.sent.packet) =
      ap (λ (n : ℕ). received id a.from (packet_in n a.bytes)) wire_is
      ∙ (received_is a.from id (packet_in s.wire a.bytes) ∙ ap (option_map sent_of) p.is) in
      let same : seen v (PlainRecv id a.from a.bytes) ≡ seen v (PlainDeliver p.number) = seen_packet v id a.from a.bytes p.number (read ∙ sym came) in
      let event_is : outcome s w (event.Deliver p.number) [] ≡ arrives_at s w id (line ∷ []) (packet_from a.from id (packet_in s.wire a.bytes)) (Some h) =
      deliver_is s w p.number p.sent id p.at p.early p.to ∙ ap (λ o. arrives_at s w id (line ∷ []) o (host_at w id)) (sym p.is)
      ∙ ap (arrives_at s w id (line ∷ []) (packet_from a.from id (packet_in s.wire a.bytes))) at in
      in_front line (after_line h line).world _ same (same_packet s v id a.from a.bytes p.number same)
      (by_event h line (bare (event.Deliver p.number)) at event_is)

  pub junk_comes : (h : Host) → host_at w id ≡ Some h → IsJunk s a → Obeyed s v (after_line h (PlainRecv id a.from a.bytes))
  junk_comes h at none =
      let line : PlainEntry = PlainInject id a.bytes in
      let same : seen v (PlainRecv id a.from a.bytes) ≡ seen v (PlainInject id a.bytes) =
      seen_junk v id a.from a.bytes (ap (λ (n : ℕ). packet_in n a.bytes) wire_is ∙ none) in
      let event_is : outcome s w (event.Inject id) a.bytes ≡ arrives_at s w id (line ∷ []) (packet_from a.from id (packet_in s.wire a.bytes)) (Some h) =
      inject_is s w id a.bytes h none at
      ∙ ap (λ (o : Option (WirePacket × List ℕ)). arrives_at s w id (line ∷ []) (packet_from a.from id o) (Some h)) (sym none) in
      in_front line (after_line h line).world _ same (same_junk s v id a.from a.bytes same)
      (by_event h line (record { event = event.Inject id; bytes = a.bytes }) at event_is)
