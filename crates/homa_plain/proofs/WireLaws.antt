-- A list of bytes is read as a packet exactly where it is the spelling of that packet, and what follows from it.
use Rattle.std.proofs.Common.{◌≡◌, ◌↔◌, ℕ, zero, suc, ◌^◌, ◌<◌, ◌≤◌, Bool, true, false, cond, eqb, List, [], ◌∷◌, ◌++◌, Option, Some, None, refl, sym}
use Rattle.std.proofs.Common.{ap, subst, ◌∙◌, append_assoc, arith}
use Rattle.std.specs.Prelude.{IfSome}
use Rattle.std.specs.List.{AllByRecursion}
use Rattle.std.specs.Int.{w32, w64, to_be_bytes}
use Rattle.std.proofs.lemmas.Bool.{eqb-true, eq-eqb}
use Rattle.std.proofs.lemmas.Option.{cond_some}
use Rattle.homa_plain.specs.declared.packet.Role.{Role}
use Rattle.homa_plain.specs.declared.packet.Role.TheVariants.{Client, Server}
use Rattle.homa_plain.specs.declared.packet.Body.{Body}
use Rattle.homa_plain.specs.declared.packet.Body.TheVariants as body
use Rattle.homa_plain.specs.declared.packet.Packet.{Packet}
use Rattle.homa_plain.specs.Bytes.{IsBytes, number_at, two, two_at}
use Rattle.homa_plain.specs.Wire.{IsCall, latest, FitsKind, IsWellFormed, kind, role_byte, tick_bytes, body_bytes, spelling, Spells, is_well_formed}
use Rattle.homa_plain.specs.Wire.{role_of, tick_at, body_at, packet_of, packet_at, packet_in}
use Rattle.homa_plain.proofs.WireFields.{bind_some, given, some_is, Takes, Takes-then, wide32, wide64, number_takes, number_again, AreWide, reads_two}
use Rattle.homa_plain.proofs.WireRows.{decides_well_formed}
use Rattle.homa_plain.proofs.WireBodies.{HasRoom, body_takes, body_again}

-- ---- the clock

tick_takes_by : (t : Bool) (bytes : List ℕ) (tick : ℕ) (rest : List ℕ) → IsBytes bytes
    → cond t (Some (0, bytes)) (number_at w64 bytes) ≡ Some (tick, rest) → Takes bytes (cond t [] (to_be_bytes w64 tick)) rest
tick_takes_by true bytes tick rest fits e =
    subst (λ (y : ℕ × List ℕ). Takes bytes [] y.1) (some_is (0, bytes) (tick, rest) e) (record { parts = refl; rest_fits = fits })
tick_takes_by false bytes tick rest fits e = (number_takes w64 (2 ^ 64) wide64 bytes tick rest fits e).0

tick_again_by : (t : Bool) (tick : ℕ) (rest : List ℕ) → tick ≤ cond t 0 1000000002000
    → cond t (Some (0, cond t [] (to_be_bytes w64 tick) ++ rest)) (number_at w64 (cond t [] (to_be_bytes w64 tick) ++ rest)) ≡ Some (tick, rest)
tick_again_by true tick rest h = ap (λ (n : ℕ). Some (n, rest)) (omega arith)
tick_again_by false tick rest h = number_again w64 (2 ^ 64) wide64 tick rest (omega arith)

tick_takes : (wire : ℕ) (bytes : List ℕ) (tick : ℕ) (rest : List ℕ) → IsBytes bytes → tick_at wire bytes ≡ Some (tick, rest)
    → Takes bytes (tick_bytes wire tick) rest
unfolding tick_at
tick_takes wire bytes tick rest fits e = tick_takes_by (eqb wire 1) bytes tick rest fits e

tick_again : (wire tick : ℕ) (rest : List ℕ) → tick ≤ latest wire → tick_at wire (tick_bytes wire tick ++ rest) ≡ Some (tick, rest)
unfolding tick_at
tick_again wire tick rest h = tick_again_by (eqb wire 1) tick rest h

-- ---- what is read is spelled so

role_is : (number : ℕ) (role : Role) → role_of number ≡ Some role → number ≡ role_byte role
role_is zero role e = ap role_byte (some_is Client role e)
role_is (suc zero) role e = ap role_byte (some_is Server role e)
role_is (suc (suc n)) role e = absurd cc

role_again : (role : Role) → role_of (role_byte role) ≡ Some role
role_again Client = refl
role_again Server = refl

-- the fields of a header, but for version, kind, role and level
abbrev behind_level : ℕ → Packet → List ℕ
behind_level wire p = to_be_bytes w32 p.sender ++ two (p.inc, p.seq) ++ tick_bytes wire p.at

-- what a packet was read from
record Read (wire number role level : ℕ) (bytes : List ℕ) (read : Packet × List ℕ) : Type 0 where
  parts : bytes ≡ behind_level wire read.0 ++ body_bytes read.0.body ++ read.1
  payload_bytes : IsBytes read.1
  kind_is : number ≡ kind read.0.body
  role_is : role ≡ role_byte read.0.role
  level_is : level ≡ read.0.level

-- what a reader made is what it answered
Read-made : (wire number role level : ℕ) (bytes : List ℕ) (made read : Packet × List ℕ) → Read wire number role level bytes made
    → given made ≡ given read → Read wire number role level bytes read
Read-made wire number role level bytes made read r e = subst (Read wire number role level bytes) (some_is made read e) r

packet_takes : (wire number role level : ℕ) (bytes : List ℕ) (read : Packet × List ℕ) → IsBytes bytes
    → packet_of wire number role level bytes ≡ Some read → Read wire number role level bytes read
unfolding packet_of
packet_takes wire number role level bytes read fits e =
    let r = bind_some (role_of role) _ read e in
    let a = bind_some (number_at w32 bytes) _ read r.2 in
    let b = bind_some (two_at a.0.1) _ read a.2 in
    let c = bind_some (tick_at wire b.0.1) _ read b.2 in
    let d = bind_some (body_at number c.0.1) _ read c.2 in
    let sender = number_takes w32 (2 ^ 32) wide32 bytes a.0.0 a.0.1 fits a.1 in
    let call = reads_two.takes a.0.1 b.0.0 b.0.1 sender.0.rest_fits b.1 in
    let tick = tick_takes wire b.0.1 c.0.0 c.0.1 call.0.rest_fits c.1 in
    let what = body_takes number c.0.1 d.0 tick.rest_fits d.1 in
    let front = Takes-then bytes (to_be_bytes w32 a.0.0) a.0.1 (two b.0.0) b.0.1 sender.0 call.0 in
    let header = Takes-then bytes (to_be_bytes w32 a.0.0 ++ two b.0.0) b.0.1 (tick_bytes wire c.0.0) c.0.1 front tick in
    let all = Takes-then bytes (to_be_bytes w32 a.0.0 ++ two b.0.0 ++ tick_bytes wire c.0.0) c.0.1 (body_bytes d.0.0) d.0.1 header what.0 in
    let made : Packet × List ℕ = (record { role = r.0; level = level; sender = a.0.0; inc = b.0.0.0; seq = b.0.0.1; at = c.0.0; body = d.0.0 }, d.0.1) in
    Read-made wire number role level bytes made read
    (record { parts = all.parts; payload_bytes = all.rest_fits; kind_is = what.1; role_is = role_is role r.0 r.1; level_is = refl }) d.2

with_wire : {A : Type 0} (b : Bool) (x : Option A) (y : A) → cond b x None ≡ Some y → (b ≡ true) × (x ≡ Some y)
with_wire true x y e = (refl, e)
with_wire false x y e = absurd cc

spelled_from : (wire version number role level : ℕ) (bytes : List ℕ) (read : Packet × List ℕ) → version ≡ wire
    → Read wire number role level bytes read → version ∷ number ∷ role ∷ level ∷ bytes ≡ spelling wire read.0 read.1
spelled_from wire version number role level bytes read v r =
    ap (λ (n : ℕ). n ∷ number ∷ role ∷ level ∷ bytes) v
    ∙ ap (λ (n : ℕ). wire ∷ n ∷ role ∷ level ∷ bytes) r.kind_is
    ∙ ap (λ (n : ℕ). wire ∷ kind read.0.body ∷ n ∷ level ∷ bytes) r.role_is
    ∙ ap (λ (n : ℕ). wire ∷ kind read.0.body ∷ role_byte read.0.role ∷ n ∷ bytes) r.level_is
    ∙ ap (λ (xs : List ℕ). wire ∷ kind read.0.body ∷ role_byte read.0.role ∷ read.0.level ∷ xs) r.parts

all_takes : (wire : ℕ) (bytes : List ℕ) (read : Packet × List ℕ) → IsBytes bytes → packet_at wire bytes ≡ Some read
    → (bytes ≡ spelling wire read.0 read.1) × IsBytes read.1
unfolding packet_at
all_takes wire [] read fits e = absurd cc
all_takes wire (a ∷ []) read fits e = absurd cc
all_takes wire (a ∷ b ∷ []) read fits e = absurd cc
all_takes wire (a ∷ b ∷ c ∷ []) read fits e = absurd cc
all_takes wire (version ∷ number ∷ role ∷ level ∷ bytes) read fits e =
    let g = with_wire (eqb version wire) (packet_of wire number role level bytes) read e in
    let r = packet_takes wire number role level bytes read (λ i. fits (suc (suc (suc (suc i))))) g.1 in
    (spelled_from wire version number role level bytes read (eqb-true version wire g.0) r, r.payload_bytes)

-- ---- what is spelled so is read

weaker : {A : Type 0} (P Q : A → Type 0) → ((x : A) → P x → Q x) → (xs : List A) → AllByRecursion P xs → AllByRecursion Q xs
weaker P Q f [] h = tt
weaker P Q f (x ∷ xs) h = (f x h.0, weaker P Q f xs h.1)

wide_ack : (ack : Option (ℕ × ℕ)) → IfSome ack IsCall → IfSome ack AreWide
wide_ack None h = tt
wide_ack (Some call) h = (h.1, h.2)

-- what is well formed has room
has_room : (role : Role) (level : ℕ) (what : Body) (payload : List ℕ) → FitsKind role level what payload → HasRoom what
has_room role level (body.Data size offset version service ack) payload h =
    (omega (arith, h.size_in_range), omega (arith, h.size_in_range, h.inside), h.version_in_range, wide_ack ack h.acknowledged)
has_room role level (body.Grant offset prio) payload h = omega (arith, h.1)
has_room role level (body.Resend from to prio) payload h = (omega (arith, h.1, h.2), omega (arith, h.2))
has_room role level body.Busy payload h = tt
has_room role level (body.Cutoffs c) payload h = (h.1, h.2, weaker (λ n. n ≤ 1000000) (λ n. n < 2 ^ 32) (λ n k. omega arith) c.upto h.3)
has_room role level (body.Unknown reason) payload h = tt
has_room role level body.NeedAck payload h = tt
has_room role level (body.Ack more) payload h = (h.2, weaker IsCall AreWide (λ call k. (k.1, k.2)) more h.3)

all_again : (wire : ℕ) (p : Packet) (payload : List ℕ) → IsWellFormed wire p payload → packet_at wire (spelling wire p payload) ≡ Some (p, payload)
unfolding packet_at packet_of
all_again wire p payload h =
    let regrouped : spelling wire p payload ≡ wire ∷ kind p.body ∷ role_byte p.role ∷ p.level ∷
    (to_be_bytes w32 p.sender ++ (two (p.inc, p.seq) ++ (tick_bytes wire p.at ++ (body_bytes p.body ++ payload))))
    = ap (λ (xs : List ℕ). wire ∷ kind p.body ∷ role_byte p.role ∷ p.level ∷ (to_be_bytes w32 p.sender ++ (two (p.inc, p.seq) ++ xs)))
    (append_assoc (tick_bytes wire p.at) (body_bytes p.body) payload) in
    ap (packet_at wire) regrouped
    ∙ rw (
      eq-eqb wire wire refl,
      role_again p.role,
      number_again w32 (2 ^ 32) wide32 p.sender (two (p.inc, p.seq) ++ (tick_bytes wire p.at ++ (body_bytes p.body ++ payload))) h.sender.1,
      reads_two.again (p.inc, p.seq) (tick_bytes wire p.at ++ (body_bytes p.body ++ payload)) (h.call.1, h.call.2),
      tick_again wire p.at (body_bytes p.body ++ payload) h.tick,
      body_again p.body payload (has_room p.role p.level p.body payload h.of_kind),
    ) refl

-- ---- the law

-- what is read is well formed and spelled so
pub read_is_spelled : (wire : ℕ) (bytes : List ℕ) (p : Packet) (payload : List ℕ) → IsBytes bytes → packet_in wire bytes ≡ Some (p, payload)
    → Spells wire bytes p payload
unfolding packet_in
read_is_spelled wire bytes p payload fits e =
    let a = bind_some (packet_at wire bytes) _ (p, payload) e in
    let g = cond_some (is_well_formed wire a.0.0 a.0.1) a.0 (p, payload) a.2 in
    let took = all_takes wire bytes a.0 fits a.1 in
    subst (λ (read : Packet × List ℕ). Spells wire bytes read.0 read.1) g.1 ((decides_well_formed wire a.0.0 a.0.1 took.1).0 g.0, took.0)

-- what is well formed and spelled so is read
pub spelled_is_read : (wire : ℕ) (bytes : List ℕ) (p : Packet) (payload : List ℕ) → Spells wire bytes p payload → packet_in wire bytes ≡ Some (p, payload)
unfolding packet_in
spelled_is_read wire bytes p payload h =
    ap (packet_in wire) h.1 ∙ rw (all_again wire p payload h.0, (decides_well_formed wire p payload h.0.bytes).1 h.0) refl

-- bytes are read as a packet exactly where they are its spelling
pub one_spelling : (wire : ℕ) (bytes : List ℕ) (p : Packet) (payload : List ℕ) → IsBytes bytes
    → (packet_in wire bytes ≡ Some (p, payload)) ↔ Spells wire bytes p payload
one_spelling wire bytes p payload fits = (read_is_spelled wire bytes p payload fits, spelled_is_read wire bytes p payload)

none_by : (wire : ℕ) (bytes : List ℕ) (o : Option (Packet × List ℕ)) → packet_in wire bytes ≡ o
    → ((p : Packet) (payload : List ℕ) → Spells wire bytes p payload → ⊥) → IsBytes bytes → o ≡ None
none_by wire bytes None e none fits = refl
none_by wire bytes (Some read) e none fits = absurd (none read.0 read.1 (read_is_spelled wire bytes read.0 read.1 fits e))

-- bytes are read as no packet exactly where they spell none
pub no_packet : (wire : ℕ) (bytes : List ℕ) → IsBytes bytes
    → (packet_in wire bytes ≡ None) ↔ ((p : Packet) (payload : List ℕ) → Spells wire bytes p payload → ⊥)
no_packet wire bytes fits =
    (λ e p payload h. absurd (let read = spelled_is_read wire bytes p payload h in cc), λ none. none_by wire bytes (packet_in wire bytes) refl none fits)

same_version : (v w : ℕ) (bytes : List ℕ) (p q : Packet) (x y : List ℕ) → Spells v bytes p x → Spells w bytes q y → v ≡ w
same_version v w bytes p q x y h k = let same : spelling v p x ≡ spelling w q y = sym h.1 ∙ k.1 in cc

-- bytes spell at most one packet, of at most one version
pub one_packet : (bytes : List ℕ) (v w : ℕ) (p q : Packet) (x y : List ℕ) → Spells v bytes p x → Spells w bytes q y → (v ≡ w) × (p ≡ q) × (x ≡ y)
one_packet bytes v w p q x y h k =
    let same = same_version v w bytes p q x y h k in
    let again : packet_in v bytes ≡ Some (q, y) = rw same (spelled_is_read w bytes q y k) in
    let read : ◌≡◌ {A = Packet × List ℕ} (p, x) (q, y) = some_is (p, x) (q, y) (sym (spelled_is_read v bytes p x h) ∙ again) in
    (same, ap (λ (r : Packet × List ℕ). r.0) read, ap (λ (r : Packet × List ℕ). r.1) read)
