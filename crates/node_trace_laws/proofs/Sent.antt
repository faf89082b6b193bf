-- What the lines of a trace say was sent is what the world's packets are; so a datagram of an honest net is one of these packets, or none.
use Rattle.std.proofs.Common.{◌≡◌, ◌⊎◌, inl, inr, ℕ, suc, ◌+◌, Bool, true, false, Option, None, Some, List, [], ◌∷◌, ◌++◌, length, refl, sym, ap, ◌∙◌, subst}
use Rattle.std.proofs.Common.{append_assoc, arith}
use Rattle.std.specs.Prelude.{is_some, slice_get, ◌==◌, ◌&&◌, ◌||◌, not, nat_lt, nat_le}
use Rattle.std.specs.Str.{bytes_eq}
use Rattle.std.specs.List.{AllByRecursion, list_any}
use Rattle.std.proofs.lemmas.List.{append-nil}
use Rattle.std.proofs.lemmas.Bool.{ltb-true, leb-true, false≢true}
use Rattle.std.proofs.lemmas.Slice.Eq.{bytes_eq-Decides}
use Rattle.homa_plain.specs.declared.id.CallId.{CallId}
use Rattle.homa_plain.specs.declared.id.HostId.{HostId}
use Rattle.homa_plain.specs.declared.packet.Packet.{Packet as WirePacket}
use Rattle.homa_plain.specs.declared.settings.Settings.{Settings}
use Rattle.homa_plain.specs.Calls.{is_host}
use Rattle.homa_plain.specs.Wire.{packet_in, spelling}
use Rattle.homa_plain.specs.Entries.{PlainEntry, PlainSettings, PlainClock, PlainCall, PlainSend, PlainRecv}
use Rattle.homa_plain.specs.Packets.{Packet, sender, receiver, wire_packet, packet_between, datagram, send_line}
use Rattle.homa_plain.specs.Host.{Told, Says, Sends, packets_in, entries_from}
use Rattle.homa_plain.specs.World.{World, SentPacket, stamped}
use Rattle.homa_plain.proofs.CallOrder.{hosts_are}
use Rattle.step_laws.proofs.Places.{all-append}
use Rattle.step_moves.proofs.Inner.{AllInner, IsSaid}
use Rattle.world_laws.proofs.Sent.{read, between}
use Rattle.node_runs.specs.Course.{Arrival, packet_from}
use Rattle.node_runs.specs.Recorder.{Kept, Notes, is_same, sent_packet, keeps}
use Rattle.node_laws.proofs.Noted.{get-append, get_last, same_packet, both_true}
use Rattle.node_laws.proofs.OfNode.{IsOfNode}
use Rattle.node_trace_laws.specs.Honest.{noted, may_come, was_sent, is_honest_by, is_honest, AreHonest}
use Rattle.node_trace_laws.proofs.Datagrams.{all_get, IsPacket, IsJunk}

-- ---- lines one after the other

abbrev pub noted_all : Notes → List PlainEntry → Notes
noted_all n [] = n
noted_all n (e ∷ es) = noted_all (noted n e) es

pub noted-append : (n : Notes) (a b : List PlainEntry) → noted_all n (a ++ b) ≡ noted_all (noted_all n a) b
noted-append n [] b = refl
noted-append n (e ∷ a) b = noted-append (noted n e) a b

pub honest-append : (n : Notes) (a b : List PlainEntry) → AreHonest n (a ++ b) → AreHonest n a × AreHonest (noted_all n a) b
honest-append n [] b h = (tt, h)
honest-append n (e ∷ a) b h = let rest = honest-append (noted n e) a b h.1 in ((h.0, rest.0), rest.1)

-- lines within a step, but those of packets, and lines of events but the clock's
pub says_noted : (n : Notes) (e : PlainEntry) → IsSaid e → noted n e ≡ n
unfolding noted
says_noted n (PlainSettings settings) said = absurd said
says_noted n (PlainClock tick) said = absurd said
says_noted n (PlainSend number from to inc role id level what payload) said = absurd said
says_noted n e said = refl

pub call_noted : (n : Notes) (id : CallId) (server : HostId) (service : ℕ) (bytes : List ℕ) → noted n (PlainCall id server service bytes) ≡ n
unfolding noted
call_noted n id server service bytes = refl

pub recv_noted : (n : Notes) (id from : HostId) (bytes : List ℕ) → noted n (PlainRecv id from bytes) ≡ n
unfolding noted
recv_noted n id from bytes = refl

-- ---- notes of a world

module _ (s : Settings) where
  -- a datagram that was sent is that of a packet
  pub record IsOf (packets : List SentPacket) (d : Kept) : Type 0 where
    pub sent : SentPacket
    pub stands : slice_get packets d.number ≡ Some sent
    pub from : d.from ≡ sender sent.packet
    pub to : d.to ≡ receiver sent.packet
    pub tick : d.tick ≡ sent.tick
    pub bytes : d.bytes ≡ datagram s sent.packet

  pub record AreNoted (n : Notes) (clock : ℕ) (packets : List SentPacket) : Type 0 where
    pub tick : n.tick ≡ clock
    pub settings : n.settings ≡ Some s
    pub kept : AllByRecursion (IsOf packets) n.datagrams

  still_of : (packets more : List SentPacket) (ds : List Kept) → AllByRecursion (IsOf packets) ds → AllByRecursion (IsOf (packets ++ more)) ds
  still_of packets more [] all = tt
  still_of packets more (d ∷ ds) all =
      let k = all.0 in (
        record { sent = k.sent; stands = get-append packets more d.number k.sent k.stands; from = k.from; to = k.to; tick = k.tick; bytes = k.bytes },
        still_of packets more ds all.1,
      )

  sent_noted : (n : Notes) (clock : ℕ) (packets : List SentPacket) (k : ℕ) (p : Packet) → k ≡ length packets
      → IsOfNode s (record { tick = clock; packet = p }) → AreNoted n clock packets
      → AreNoted (noted n (send_line k p)) clock (packets ++ record { tick = clock; packet = p } ∷ [])
  unfolding noted
  sent_noted n clock packets k p number of_node a =
      subst (λ (o : Option Settings). AreNoted (keeps o k (sender p) (receiver p) bytes n) clock (packets ++ sent ∷ [])) (sym a.settings)
      (record {
        tick = a.tick;
        settings = a.settings;
        kept = all-append (IsOf (packets ++ sent ∷ [])) n.datagrams (new ∷ []) (still_of packets (sent ∷ []) n.datagrams a.kept) (of_new, tt);
      }) where
        sent : SentPacket
        sent = record { tick = clock; packet = p }

        bytes : Settings → List ℕ
        bytes u = spelling u.wire (sent_packet u n.tick p.inc p.role p.id p.level p.body) p.payload

        new : Kept
        new = record { number = k; from = sender p; to = receiver p; tick = n.tick; bytes = bytes s }

        of_new : IsOf (packets ++ sent ∷ []) new
        of_new = record {
          sent = sent;
          stands = ap (slice_get (packets ++ sent ∷ [])) number ∙ get_last packets sent;
          from = refl;
          to = refl;
          tick = a.tick;
          bytes = ap (λ (w : WirePacket). spelling s.wire w p.payload) (same_packet s clock p n.tick a.tick of_node.dated);
        }

  -- the lines within a step, whose packets have the numbers from k on
  pub inner_noted : (n : Notes) (clock : ℕ) (packets : List SentPacket) (k : ℕ) (told : List Told) → k ≡ length packets → AllInner told
      → AllByRecursion (IsOfNode s) (stamped clock (packets_in told)) → AreNoted n clock packets
      → AreNoted (noted_all n (entries_from k told)) clock (packets ++ stamped clock (packets_in told))
  inner_noted n clock packets k [] number inner sent a = subst (AreNoted n clock) (sym (append-nil packets)) a
  inner_noted n clock packets k (Says e ∷ told) number inner sent a =
      subst (λ (m : Notes). AreNoted (noted_all m (entries_from k told)) clock (packets ++ stamped clock (packets_in told))) (sym (says_noted n e inner.0))
      (inner_noted n clock packets k told number inner.1 sent a)
  inner_noted n clock packets k (Sends p ∷ told) number inner sent a =
      let new : SentPacket = record { tick = clock; packet = p } in
      subst (AreNoted (noted_all (noted n (send_line k p)) (entries_from (suc k) told)) clock)
      (append_assoc packets (new ∷ []) (stamped clock (packets_in told)))
      (inner_noted (noted n (send_line k p)) clock (packets ++ new ∷ []) (suc k) told (ap suc number ∙ sym (longer packets new)) inner sent.1
      (sent_noted n clock packets k p number sent.0 a)) where
        longer : (ps : List SentPacket) (x : SentPacket) → length (ps ++ x ∷ []) ≡ suc (length ps)
        longer [] x = refl
        longer (p ∷ ps) x = ap suc (longer ps x)

  pub clock_noted : (n : Notes) (old now : ℕ) (packets : List SentPacket) → AreNoted n old packets → AreNoted (noted n (PlainClock now)) now packets
  unfolding noted
  clock_noted n old now packets a = record { tick = refl; settings = a.settings; kept = a.kept }

  -- ---- a datagram that comes

  -- one of them
  record IsAny {X : Type 0} (P : X → Type 0) (p : X → Bool) : Type 0 where
    one : X
    so : P one
    passes : p one ≡ true

  any_of : {X : Type 0} (P : X → Type 0) (p : X → Bool) (xs : List X) → AllByRecursion P xs → list_any p xs ≡ true → IsAny P p
  any_of P p [] all e = absurd (false≢true e)
  any_of P p (x ∷ xs) all e = by_first (p x) refl e (any_of P p xs all.1) where
    by_first : (b : Bool) → p x ≡ b → (b || list_any p xs) ≡ true → (list_any p xs ≡ true → IsAny P p) → IsAny P p
    by_first true is h next = record { one = x; so = all.0; passes = is }
    by_first false is h next = next h

  -- with version 1 it isn't late
  timely : (tick clock : ℕ) → (not (s.wire == 1) || nat_le clock (tick + s.life)) ≡ true → (s.wire == 1 && nat_lt (tick + s.life) clock) ≡ false
  timely tick clock = by_wire (s.wire == 1) where
    by_test : (b : Bool) → nat_lt (tick + s.life) clock ≡ b → nat_le clock (tick + s.life) ≡ true → b ≡ false
    by_test true late early = absurd (omega (arith, ltb-true (tick + s.life) clock late, leb-true clock (tick + s.life) early))
    by_test false late early = refl

    by_wire : (a : Bool) → (not a || nat_le clock (tick + s.life)) ≡ true → (a && nat_lt (tick + s.life) clock) ≡ false
    by_wire true e = by_test (nat_lt (tick + s.life) clock) refl e
    by_wire false e = refl

  pub comes_from : (n : Notes) (w : World) (id : HostId) (a : Arrival) → AreNoted n w.clock w.packets → AllByRecursion (IsOfNode s) w.packets
      → is_honest n (PlainRecv id a.from a.bytes) ≡ true → IsPacket s w id a ⊎ IsJunk s a
  comes_from n w id a noted all honest = by_read (packet_in s.wire a.bytes) refl here where
    here : (not (is_some (packet_in s.wire a.bytes)) || was_sent s n id a.from a.bytes) ≡ true
    here = sym (ap (λ (o : Option Settings). is_honest_by o n id a.from a.bytes) noted.settings) ∙ honest

    by_read : (o : Option (WirePacket × List ℕ)) → packet_in s.wire a.bytes ≡ o → (not (is_some o) || was_sent s n id a.from a.bytes) ≡ true
        → IsPacket s w id a ⊎ IsJunk s a
    by_read None e h = inr e
    by_read (Some r) e h =
        let found = any_of (IsOf w.packets) (λ (d : Kept). is_same id a.from a.bytes d && may_come s n.tick d) n.datagrams noted.kept h in
        let d : Kept = found.one in
        let k = found.so in
        let tests = both_true s (is_same id a.from a.bytes d) (may_come s n.tick d) found.passes in
        let same = both_true s (is_host d.to id && is_host d.from a.from) (bytes_eq d.bytes a.bytes) tests.0 in
        let ends = both_true s (is_host d.to id) (is_host d.from a.from) same.0 in
        let sent = k.sent in
        let formed = (all_get (IsOfNode s) w.packets d.number sent all k.stands).formed in
        let spelled : a.bytes ≡ datagram s sent.packet = sym ((bytes_eq-Decides d.bytes a.bytes).0 same.1) ∙ k.bytes in
        let is_from : a.from ≡ sender sent.packet = sym ((hosts_are d.from a.from).0 ends.1) ∙ k.from in
        let is_to : id ≡ receiver sent.packet = sym ((hosts_are d.to id).0 ends.0) ∙ k.to in
        let reads : packet_in s.wire a.bytes ≡ Some (wire_packet sent.packet, sent.packet.payload) =
        ap (packet_in s.wire) spelled ∙ read s sent.packet formed in
        inl (record {
          number = d.number;
          sent = sent;
          at = k.stands;
          early = timely sent.tick w.clock
              (sym (ap (λ (t : ℕ). not (s.wire == 1) || nat_le n.tick (t + s.life)) k.tick
              ∙ ap (λ (t : ℕ). not (s.wire == 1) || nat_le t (sent.tick + s.life)) noted.tick) ∙ tests.1);
          is = ap (packet_from a.from id) reads ∙ ap (λ (x : HostId). Some (packet_between x id (wire_packet sent.packet) sent.packet.payload)) is_from
              ∙ ap (λ (x : HostId). Some (packet_between (sender sent.packet) x (wire_packet sent.packet) sent.packet.payload)) is_to
              ∙ ap Some (between sent.packet);
          to = sym is_to;
        })
