-- The packets that rules send are well formed.
use Rattle.std.proofs.Common.{◌≡◌, zero, suc, ◌<◌, ◌≤◌, ℕ, ◌+◌, ◌-◌, Bool, true, false, Option, None, Some, List, [], ◌∷◌, length, take, drop, refl}
use Rattle.std.proofs.Common.{sym, ap, subst, MatchOption, length-drop, true≢false, arith}
use Rattle.std.specs.Prelude.{◌==◌, if◌then◌else◌, nat_lt, IfSome}
use Rattle.std.proofs.lemmas.Bool.{cond_both}
use Rattle.plain_sets.specs.Ranges.{Range}
use Rattle.homa_plain.specs.declared.id.CallId.{CallId}
use Rattle.homa_plain.specs.declared.id.HostId.{HostId}
use Rattle.homa_plain.specs.declared.packet.Role.{Role}
use Rattle.homa_plain.specs.declared.packet.Role.TheVariants.{Client, Server}
use Rattle.homa_plain.specs.declared.packet.Body.{Body}
use Rattle.homa_plain.specs.declared.settings.Settings.{Settings}
use Rattle.homa_plain.specs.Settings.{IsValid}
use Rattle.homa_plain.specs.Bytes.{IsBytes}
use Rattle.homa_plain.specs.Wire.{IsCall, IsPiece, is_server, FitsKind, Between, latest, packet_in}
use Rattle.homa_plain.specs.Packets.{Packet, sender, receiver, wire_packet, datagram, packet_between}
use Rattle.homa_plain.specs.Host.{Host}
use Rattle.homa_plain.specs.Rules.{Say, Tells, Posts}
use Rattle.homa_plain.specs.declared.packet.Cutoffs.{Cutoffs}
use Rattle.homa_plain.specs.Outgoing.{Outgoing, next_range, IsSound, IsFront, IsIdle}
use Rattle.homa_plain.specs.Rows.{ClientRow}
use Rattle.homa_plain.specs.Sending.{Content, slice, level_at, request_content, response_content}
use Rattle.homa_plain.proofs.CutoffLaws.{is_level_of}
use Rattle.homa_plain.proofs.OutgoingLaws.{front-next_range}
use Rattle.homa_plain.specs.Work.{packet_from, bare, said}
use Rattle.homa_plain.proofs.WireLaws.{spelled_is_read}
use Rattle.std.proofs.lemmas.List.{length-take-le, get_or-drop}
use Rattle.world_laws.specs.Sound.{IsSent, HasNumbers, IsId, FitSays, FitTold, IsClientRow, IsPart, IsMessage}

pub read : (s : Settings) (p : Packet) → IsSent s p → packet_in s.wire (datagram s p) ≡ Some (wire_packet p, p.payload)
read s p sent = spelled_is_read s.wire (datagram s p) (wire_packet p) p.payload (sent, refl)

between_of : (role : Role) (id : CallId) (server : HostId) (inc at level : ℕ) (what : Body) (payload : List ℕ)
    → let p : Packet = record { role = role; id = id; server = server; inc = inc; at = at; level = level; body = what; payload = payload } in
    packet_between (sender p) (receiver p) (wire_packet p) p.payload ≡ p
between_of Client id server inc at level what payload = refl
between_of Server id server inc at level what payload = refl

pub between : (p : Packet) → packet_between (sender p) (receiver p) (wire_packet p) p.payload ≡ p
between p = between_of p.role p.id p.server p.inc p.at p.level p.body p.payload

cond_both_two : (t : Bool) (m n : ℕ) → m ≤ n → (if t then 0 else m) ≤ (if t then 0 else n)
cond_both_two true m n h = omega arith
cond_both_two false m n h = h

-- the clock that a packet tells
at_within : (wire last : ℕ) → last ≤ 1000000002000 → (if wire == 1 then 0 else last) ≤ latest wire
at_within wire last h = cond_both_two (wire == 1) last 1000000002000 h

versions : (s : Settings) → IsValid s → Between 1 2 s.wire
versions s v = let wire = v.in_range.2.2.2.2.2.2.2.2.2.2.2.2.2.2 in (wire.0, wire.1)

-- a packet of a host, whatever it carries
pub content_sent : (s : Settings) → IsValid s → (h : Host) → HasNumbers h → (role : Role) (id : CallId) (server : HostId) → IsId id
    → (content : Content) → FitsKind role content.level content.body content.payload → IsBytes content.payload
    → IsSent s (packet_from s h role id server content)
content_sent s v h n role id server call content fits bytes = record {
  version = versions s v;
  sender = (n.inc, n.inc_fits);
  call = call;
  tick = at_within s.wire h.last n.clock;
  of_kind = fits;
  bytes = bytes;
}

no_bytes : IsBytes []
no_bytes i = omega arith

pub said_sent : (s : Settings) → IsValid s → (h : Host) → HasNumbers h → (role : Role) (id : CallId) (server : HostId) → IsId id
    → (says : List Say) → FitSays role says → FitTold s (said s h role id server says)
said_sent s v h n role id server call [] fits = tt
said_sent s v h n role id server call (Tells entry ∷ says) fits = (tt, said_sent s v h n role id server call says fits.1)
said_sent s v h n role id server call (Posts what ∷ says) fits =
    (content_sent s v h n role id server call (bare what) fits.0 no_bytes, said_sent s v h n role id server call says fits.1)

-- ---- pieces of messages

IsBytes-drop : (n : ℕ) (bytes : List ℕ) → IsBytes bytes → IsBytes (drop n bytes)
IsBytes-drop n bytes h i = rw get_or-drop (h (n + i))

IsBytes-take : (n : ℕ) (bytes : List ℕ) → IsBytes bytes → IsBytes (take n bytes)
IsBytes-take zero bytes h i = omega arith
IsBytes-take (suc n) [] h i = omega arith
IsBytes-take (suc n) (b ∷ bytes) h zero = h 0
IsBytes-take (suc n) (b ∷ bytes) h (suc i) = IsBytes-take n bytes (λ k. h (suc k)) i

level_fits : (s : Settings) → IsValid s → (c : Cutoffs) (out : Outgoing) (offset : ℕ) → out.prio ≤ 7 → level_at s c out offset ≤ 7
level_fits s v c out offset h =
    let most = v.in_range.2.2.2.2 in
    cond_both (nat_lt offset s.unsched) _ _ (λ (n : ℕ). n ≤ 7) (λ _. (is_level_of s.overcommit c out.length most.1).to) (λ _. h)

-- the front of what waits
pub front : (s : Settings) → IsValid s → (out : Outgoing) → IsSound out → (range : Range) → next_range out s.seg ≡ Some range → IsFront out s.seg range
front s v out sound range e = subst (λ (o : Option Range). MatchOption o (IsIdle out) (IsFront out s.seg)) e (front-next_range out s.seg v.in_range.2.0 sound)

slice_length : (bytes : List ℕ) (r : Range) → r.from ≤ r.to → r.to ≤ length bytes → length (slice bytes r) ≡ r.to - r.from
slice_length bytes r a b = length-take-le (r.to - r.from) (drop r.from bytes) (omega (arith, length-drop r.from bytes))

-- a piece of a message that may be sent
piece_fits : (s : Settings) → IsValid s → (role : Role) (bytes : List ℕ) (out : Outgoing) → IsMessage bytes → IsPart bytes out
    → (c : Cutoffs) → c.version < 65536 → (service : ℕ) → service < 256 → (ack : Option (ℕ × ℕ)) → IfSome ack IsCall
    → (role ≡ Server → (service ≡ 0) × (ack ≡ None))
    → (range : Range) → next_range out s.seg ≡ Some range
    → IsPiece role (level_at s c out range.from) out.length range.from c.version service ack (slice bytes range)
piece_fits s v role bytes out message part c few service small ack acked of range e =
    let f = front s v out part.sound range e in
    let seg = v.in_range.2.2.1 in
    let size = part.size in
    let most = message.0 in
    let end : range.to ≤ length bytes = omega (arith, f.granted, part.sound.within, size) in
    let long = slice_length bytes range (omega (arith, f.some)) end in
    record {
      level_in_range = level_fits s v c out range.from part.prio;
      size_in_range = (omega (arith, size, most.0), omega (arith, size, most.1));
      payload_in_range = (omega (arith, long, f.some), omega (arith, long, f.few, v.in_range.2.2.2.0));
      inside = omega (arith, long, f.some, end, size);
      version_in_range = few;
      service_in_range = small;
      acknowledged = acked;
      of_response = of;
    }

slice_bytes : (bytes : List ℕ) (r : Range) → IsBytes bytes → IsBytes (slice bytes r)
slice_bytes bytes r h = IsBytes-take (r.to - r.from) (drop r.from bytes) (IsBytes-drop r.from bytes h)

not_server : (service : ℕ) (ack : Option (ℕ × ℕ)) → Client ≡ Server → (service ≡ 0) × (ack ≡ None)
not_server service ack h = absurd (true≢false (sym (ap is_server h)))

pub request_sent : (s : Settings) → IsValid s → (h : Host) → HasNumbers h → (id : CallId) → IsId id
    → (r : ClientRow) → IsClientRow r → (c : Cutoffs) → c.version < 65536 → (ack : Option (ℕ × ℕ)) → IfSome ack IsCall
    → (range : Range) → next_range r.out s.seg ≡ Some range
    → IsSent s (packet_from s h Client id r.server (request_content s c ack r range))
request_sent s v h n id call r row c few ack acked range e =
    content_sent s v h n Client id r.server call (request_content s c ack r range)
    (piece_fits s v Client r.request r.out row.message row.out c few r.service row.service ack acked (not_server r.service ack) range e)
    (slice_bytes r.request range row.message.1)

pub response_sent : (s : Settings) → IsValid s → (h : Host) → HasNumbers h → (id : CallId) → IsId id
    → (response : List ℕ) (out : Outgoing) → IsMessage response → IsPart response out → (c : Cutoffs) → c.version < 65536
    → (range : Range) → next_range out s.seg ≡ Some range
    → IsSent s (packet_from s h Server id h.id (response_content s c response out range))
response_sent s v h n id call response out message part c few range e =
    content_sent s v h n Server id h.id call (response_content s c response out range)
    (piece_fits s v Server response out message part c few 0 (omega arith) None tt (λ _. (refl, refl)) range e)
    (slice_bytes response range message.1)
