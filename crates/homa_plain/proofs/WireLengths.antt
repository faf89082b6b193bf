-- How many bytes a spelling has, that they are bytes, and where its payload stands.
use Rattle.std.proofs.Common.{◌≡◌, ℕ, zero, suc, ◌+◌, ◌*◌, ◌<◌, ◌≤◌, Bool, true, false, cond, eqb, List, [], ◌∷◌, ◌++◌, length, drop, Option, Some}
use Rattle.std.proofs.Common.{None, refl, sym, ap, ◌∙◌, arith}
use Rattle.std.specs.List.{flat_map}
use Rattle.std.specs.Int.{Width, w16, w32, w64, byte_at, byte_len, bytes_high_first, to_be_bytes}
use Rattle.std.proofs.lemmas.List.{length-append, drop_at}
use Rattle.homa_plain.specs.declared.packet.Role.{Role}
use Rattle.homa_plain.specs.declared.packet.Role.TheVariants.{Client, Server}
use Rattle.homa_plain.specs.declared.packet.Body.{Body}
use Rattle.homa_plain.specs.declared.packet.Body.TheVariants as body
use Rattle.homa_plain.specs.declared.packet.Packet.{Packet}
use Rattle.homa_plain.specs.Bytes.{IsBytes, two}
use Rattle.homa_plain.specs.Wire.{FitsKind, IsWellFormed, kind, role_byte, ack_bytes, tick_bytes, body_bytes, header_bytes, spelling, Spells}
use Rattle.homa_plain.specs.Wire.{header_len, body_len, longest}

-- ---- lengths

length-numbers : (ns : List ℕ) → length (flat_map (to_be_bytes w32) ns) ≡ 4 * length ns
length-numbers [] = refl
length-numbers (n ∷ ns) = let rest = length-numbers ns in omega arith

length-pairs : (pairs : List (ℕ × ℕ)) → length (flat_map two pairs) ≡ 8 * length pairs
length-pairs [] = refl
length-pairs (pair ∷ pairs) = let rest = length-pairs pairs in omega arith

length-ack : (ack : Option (ℕ × ℕ)) → length (ack_bytes ack) ≡ 9
length-ack None = refl
length-ack (Some call) = refl

length-body : (role : Role) (level : ℕ) (what : Body) (payload : List ℕ) → FitsKind role level what payload → length (body_bytes what) ≡ body_len what
length-body role level (body.Data size offset version service ack) payload h = omega (arith, length-ack ack)
length-body role level (body.Grant offset prio) payload h = refl
length-body role level (body.Resend from to prio) payload h = refl
length-body role level body.Busy payload h = refl
length-body role level (body.Cutoffs c) payload h = omega (arith, length-numbers c.upto, h.2)
length-body role level (body.Unknown reason) payload h = refl
length-body role level body.NeedAck payload h = refl
length-body role level (body.Ack more) payload h = omega (arith, length-pairs more)

length-header_by : (t : Bool) (wire number role level sender tick : ℕ) (call : ℕ × ℕ)
    → length (wire ∷ number ∷ role ∷ level ∷ (to_be_bytes w32 sender ++ two call ++ cond t [] (to_be_bytes w64 tick))) ≡ cond t 16 24
length-header_by true wire number role level sender tick call = refl
length-header_by false wire number role level sender tick call = refl

length-header : (wire : ℕ) (p : Packet) → length (header_bytes wire p) ≡ header_len wire
length-header wire p = length-header_by (eqb wire 1) wire (kind p.body) (role_byte p.role) p.level p.sender p.at (p.inc, p.seq)

length-front : (wire : ℕ) (p : Packet) (payload : List ℕ) → IsWellFormed wire p payload
    → length (header_bytes wire p ++ body_bytes p.body) ≡ header_len wire + body_len p.body
length-front wire p payload h =
    omega (arith, length-append (header_bytes wire p) (body_bytes p.body), length-header wire p, length-body p.role p.level p.body payload h.of_kind)

-- a spelling is as long as its header, its fields and its payload
pub length-spelling : (wire : ℕ) (p : Packet) (payload : List ℕ) → IsWellFormed wire p payload
    → length (spelling wire p payload) ≡ header_len wire + body_len p.body + length payload
length-spelling wire p payload h =
    length-append (header_bytes wire p ++ body_bytes p.body) payload ∙ ap (λ (n : ℕ). n + length payload) (length-front wire p payload h)

body_fits : (role : Role) (level : ℕ) (what : Body) (payload : List ℕ) → FitsKind role level what payload → body_len what + length payload ≤ 1420
body_fits role level (body.Data size offset version service ack) payload h = omega (arith, h.payload_in_range)
body_fits role level (body.Grant offset prio) payload h = omega (arith, ap length h.0.1)
body_fits role level (body.Resend from to prio) payload h = omega (arith, ap length h.0.1)
body_fits role level body.Busy payload h = omega (arith, ap length h.1)
body_fits role level (body.Cutoffs c) payload h = omega (arith, ap length h.0.1)
body_fits role level (body.Unknown reason) payload h = omega (arith, ap length h.0.1)
body_fits role level body.NeedAck payload h = omega (arith, ap length h.0.1)
body_fits role level (body.Ack more) payload h = omega (arith, ap length h.0.1, h.2)

-- no spelling is longer than the longest packet of its version
pub spelling_fits : (wire : ℕ) (p : Packet) (payload : List ℕ) → IsWellFormed wire p payload → length (spelling wire p payload) ≤ longest wire
spelling_fits wire p payload h = omega (arith, length-spelling wire p payload h, body_fits p.role p.level p.body payload h.of_kind)

longest_by : (t : Bool) → cond t 16 24 + 1420 ≤ 1444
longest_by true = omega arith
longest_by false = omega arith

-- the longest packet of either version
pub longest_fits : (wire : ℕ) → longest wire ≤ 1444
longest_fits wire = longest_by (eqb wire 1)

-- the payload stands behind the header and the fields
pub payload_is_last : (wire : ℕ) (bytes : List ℕ) (p : Packet) (payload : List ℕ) → Spells wire bytes p payload
    → payload ≡ drop (header_len wire + body_len p.body) bytes
payload_is_last wire bytes p payload h =
    sym (ap (drop (header_len wire + body_len p.body)) h.1 ∙ drop_at (header_bytes wire p ++ body_bytes p.body) payload
    (header_len wire + body_len p.body) (length-front wire p payload h.0))

-- ---- bytes

IsBytes-cons : (b : ℕ) (bytes : List ℕ) → b < 256 → IsBytes bytes → IsBytes (b ∷ bytes)
IsBytes-cons b bytes h k zero = h
IsBytes-cons b bytes h k (suc i) = k i

IsBytes-append : (xs ys : List ℕ) → IsBytes xs → IsBytes ys → IsBytes (xs ++ ys)
IsBytes-append [] ys h k = k
IsBytes-append (x ∷ xs) ys h k = IsBytes-cons x (xs ++ ys) (h 0) (IsBytes-append xs ys (λ i. h (suc i)) k)

IsBytes-none : IsBytes []
IsBytes-none i = omega arith

IsBytes-one : (b : ℕ) → b < 256 → IsBytes (b ∷ [])
IsBytes-one b h = IsBytes-cons b [] h IsBytes-none

-- each byte of a number is a byte
byte_below : (k n : ℕ) → byte_at k n < 256
byte_below zero n = omega arith
byte_below (suc k) n = omega arith

high_first_bytes : (k n : ℕ) → IsBytes (bytes_high_first k n)
high_first_bytes zero n = IsBytes-none
high_first_bytes (suc k) n = IsBytes-cons (byte_at k n) (bytes_high_first k n) (byte_below k n) (high_first_bytes k n)

number_bytes : (w : Width) (n : ℕ) → IsBytes (to_be_bytes w n)
number_bytes w n = high_first_bytes (byte_len w) n

two_bytes : (pair : ℕ × ℕ) → IsBytes (two pair)
two_bytes pair = IsBytes-append (to_be_bytes w32 pair.0) (to_be_bytes w32 pair.1) (number_bytes w32 pair.0) (number_bytes w32 pair.1)

each_bytes : {A : Type 0} (text : A → List ℕ) → ((x : A) → IsBytes (text x)) → (xs : List A) → IsBytes (flat_map text xs)
each_bytes text each [] = IsBytes-none
each_bytes text each (x ∷ xs) = IsBytes-append (text x) (flat_map text xs) (each x) (each_bytes text each xs)

ack_are_bytes : (ack : Option (ℕ × ℕ)) → IsBytes (ack_bytes ack)
ack_are_bytes None = IsBytes-cons 0 (two (0, 0)) (omega arith) (two_bytes (0, 0))
ack_are_bytes (Some call) = IsBytes-cons 1 (two call) (omega arith) (two_bytes call)

body_are_bytes : (role : Role) (level : ℕ) (what : Body) (payload : List ℕ) → FitsKind role level what payload → IsBytes (body_bytes what)
body_are_bytes role level (body.Data size offset version service ack) payload h =
    IsBytes-append (two (size, offset) ++ to_be_bytes w16 version) (service ∷ ack_bytes ack)
    (IsBytes-append (two (size, offset)) (to_be_bytes w16 version) (two_bytes (size, offset)) (number_bytes w16 version))
    (IsBytes-cons service (ack_bytes ack) h.service_in_range (ack_are_bytes ack))
body_are_bytes role level (body.Grant offset prio) payload h =
    IsBytes-append (to_be_bytes w32 offset) (prio ∷ []) (number_bytes w32 offset) (IsBytes-one prio (omega (arith, h.2)))
body_are_bytes role level (body.Resend from to prio) payload h =
    IsBytes-append (two (from, to)) (prio ∷ []) (two_bytes (from, to)) (IsBytes-one prio (omega (arith, h.3)))
body_are_bytes role level body.Busy payload h = IsBytes-none
body_are_bytes role level (body.Cutoffs c) payload h = IsBytes-append (to_be_bytes w16 c.version) (flat_map (to_be_bytes w32) c.upto)
    (number_bytes w16 c.version) (each_bytes (to_be_bytes w32) (number_bytes w32) c.upto)
body_are_bytes role level (body.Unknown reason) payload h = IsBytes-one reason (omega (arith, h.2))
body_are_bytes role level body.NeedAck payload h = IsBytes-none
body_are_bytes role level (body.Ack more) payload h = IsBytes-cons (suc (length more)) (flat_map two more) (omega (arith, h.2)) (each_bytes two two_bytes more)

tick_are_bytes_by : (t : Bool) (tick : ℕ) → IsBytes (cond t [] (to_be_bytes w64 tick))
tick_are_bytes_by true tick = IsBytes-none
tick_are_bytes_by false tick = number_bytes w64 tick

level_is_byte : (role : Role) (level : ℕ) (what : Body) (payload : List ℕ) → FitsKind role level what payload → level < 256
level_is_byte role level (body.Data size offset version service ack) payload h = omega (arith, h.level_in_range)
level_is_byte role level (body.Grant offset prio) payload h = omega (arith, h.0.0)
level_is_byte role level (body.Resend from to prio) payload h = omega (arith, h.0.0)
level_is_byte role level body.Busy payload h = omega (arith, h.0)
level_is_byte role level (body.Cutoffs c) payload h = omega (arith, h.0.0)
level_is_byte role level (body.Unknown reason) payload h = omega (arith, h.0.0)
level_is_byte role level body.NeedAck payload h = omega (arith, h.0.0)
level_is_byte role level (body.Ack more) payload h = omega (arith, h.0.0)

kind_is_byte : (what : Body) → kind what < 256
kind_is_byte (body.Data size offset version service ack) = omega arith
kind_is_byte (body.Grant offset prio) = omega arith
kind_is_byte (body.Resend from to prio) = omega arith
kind_is_byte body.Busy = omega arith
kind_is_byte (body.Cutoffs c) = omega arith
kind_is_byte (body.Unknown reason) = omega arith
kind_is_byte body.NeedAck = omega arith
kind_is_byte (body.Ack more) = omega arith

role_is_byte : (role : Role) → role_byte role < 256
role_is_byte Client = omega arith
role_is_byte Server = omega arith

header_are_bytes : (wire : ℕ) (p : Packet) (payload : List ℕ) → IsWellFormed wire p payload → IsBytes (header_bytes wire p)
header_are_bytes wire p payload h =
    let call = to_be_bytes w32 p.sender ++ two (p.inc, p.seq) in
    let rest = call ++ tick_bytes wire p.at in
    IsBytes-cons wire (kind p.body ∷ role_byte p.role ∷ p.level ∷ rest) (omega (arith, h.version))
    (IsBytes-cons (kind p.body) (role_byte p.role ∷ p.level ∷ rest) (kind_is_byte p.body)
    (IsBytes-cons (role_byte p.role) (p.level ∷ rest) (role_is_byte p.role)
    (IsBytes-cons p.level rest (level_is_byte p.role p.level p.body payload h.of_kind)
    (IsBytes-append call (tick_bytes wire p.at)
    (IsBytes-append (to_be_bytes w32 p.sender) (two (p.inc, p.seq)) (number_bytes w32 p.sender) (two_bytes (p.inc, p.seq)))
    (tick_are_bytes_by (eqb wire 1) p.at)))))

-- a spelling is a list of bytes
pub spelling_is_bytes : (wire : ℕ) (p : Packet) (payload : List ℕ) → IsWellFormed wire p payload → IsBytes (spelling wire p payload)
spelling_is_bytes wire p payload h =
    IsBytes-append (header_bytes wire p ++ body_bytes p.body) payload
    (IsBytes-append (header_bytes wire p) (body_bytes p.body) (header_are_bytes wire p payload h) (body_are_bytes p.role p.level p.body payload h.of_kind))
    h.bytes
