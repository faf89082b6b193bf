-- A packet is read as a header, and then as the fields of its kind.
use Rattle.std.proofs.Common.{◌≡◌, ℕ, ◌≤◌, Bool, true, false, cond, eqb, List, Option, Some, None, refl, sym, ap, ◌∙◌, arith}
use Rattle.std.proofs.lemmas.Bool.{ne_eqb}
use Rattle.std.specs.Int.{w32}
use Rattle.homa_plain.specs.declared.packet.Role.{Role}
use Rattle.homa_plain.specs.declared.packet.Body.{Body}
use Rattle.homa_plain.specs.declared.packet.Packet.{Packet}
use Rattle.homa_plain.specs.Bytes.{◌>>=◌, number_at, two_at}
use Rattle.homa_plain.specs.Wire.{fits_kind, role_of, tick_at, body_at, packet_of, packet_in}
use Rattle.homa_wire.specs.declared.header.Header.{Header}
use Rattle.homa_wire.specs.Checked.{is_header, made, checked, fields_in, packet_with}

-- the packet with this header and with what was read of its kind
abbrev with_body : Header → Option (Body × List ℕ) → Option (Packet × List ℕ)
with_body h found = found >>= (λ what. Some (made h what.0, what.1))

kept : {A B : Type 0} (b : Bool) (x : A) (f : A → B) → cond b (Some (f x)) None ≡ (cond b (Some x) None >>= (λ y. Some (f y)))
kept true x f = refl
kept false x f = refl

-- where a header fits, the test of its kind is left
fits : (wire : ℕ) (h : Header) (found : Option (Body × List ℕ)) → is_header wire h.sender (h.inc, h.seq) h.at ≡ true
    → checked wire (with_body h found) ≡ with_body h (found >>= (λ what. cond (fits_kind h.role h.level what.0 what.1) (Some what) None))
fits wire h None e = refl
fits wire h (Some what) e =
    rw e (kept (fits_kind h.role h.level what.0 what.1) what (λ w. (made h w.0, w.1)))

-- where it doesn't, no packet has it
fails : (wire : ℕ) (h : Header) (found : Option (Body × List ℕ)) → is_header wire h.sender (h.inc, h.seq) h.at ≡ false
    → checked wire (with_body h found) ≡ None
fails wire h None e = refl
fails wire h (Some what) e = rw e refl

-- the numbers of this header stand at the front of the bytes, and these bytes follow
pub record Begins (wire role_number : ℕ) (bytes : List ℕ) (h : Header) (rest : List ℕ) : Type 0 where
  pub first : List ℕ
  pub second : List ℕ
  pub role : Some h.role ≡ role_of role_number
  pub sender : Some (h.sender, first) ≡ number_at w32 bytes
  pub call : Some ((h.inc, h.seq), second) ≡ two_at first
  pub tick : Some (h.at, rest) ≡ tick_at wire second

begins : (wire role : ℕ) (bytes : List ℕ) (h : Header) (rest : List ℕ) → Begins wire role bytes h rest
    → packet_of wire h.kind role h.level bytes ≡ with_body h (body_at h.kind rest)
unfolding packet_of
begins wire role bytes h rest b = rw (← b.role, ← b.sender, ← b.call, ← b.tick) refl

pub header_fits : (wire role : ℕ) (bytes : List ℕ) (h : Header) (rest : List ℕ) → Begins wire role bytes h rest
    → is_header wire h.sender (h.inc, h.seq) h.at ≡ true → packet_with h rest ≡ checked wire (packet_of wire h.kind role h.level bytes)
unfolding packet_with
header_fits wire role bytes h rest b e = rw (begins wire role bytes h rest b) (sym (fits wire h (body_at h.kind rest) e))

pub header_fails : (wire role : ℕ) (bytes : List ℕ) (h : Header) (rest : List ℕ) → Begins wire role bytes h rest
    → is_header wire h.sender (h.inc, h.seq) h.at ≡ false → None ≡ checked wire (packet_of wire h.kind role h.level bytes)
header_fails wire role bytes h rest b e = rw (begins wire role bytes h rest b) (sym (fails wire h (body_at h.kind rest) e))

-- the fields of its kind make the packet of a header
pub packet_read : (wire number : ℕ) (bytes : List ℕ) (h : Header) (rest : List ℕ) (what : Body) (payload : List ℕ)
    → packet_with h rest ≡ packet_in wire bytes → h.kind ≡ number → Some (what, payload) ≡ fields_in number h.role h.level rest
    → Some (made h what, payload) ≡ packet_in wire bytes
unfolding packet_with
packet_read wire number bytes h rest what payload e kind read =
    let again : Some (what, payload) ≡ fields_in h.kind h.role h.level rest = rw kind read in ap (with_body h) again ∙ e

-- without fields of its kind there is no packet with a header
pub packet_unread : (wire number : ℕ) (bytes : List ℕ) (h : Header) (rest : List ℕ) → packet_with h rest ≡ packet_in wire bytes
    → h.kind ≡ number → None ≡ fields_in number h.role h.level rest → None ≡ packet_in wire bytes
unfolding packet_with
packet_unread wire number bytes h rest e kind none =
    let again : None ≡ fields_in h.kind h.role h.level rest = rw kind none in ap (with_body h) again ∙ e

differs : (number n : ℕ) → (1 ≤ number → number ≤ 8 → ⊥) → 1 ≤ n → n ≤ 8 → eqb number n ≡ false
differs number n none lo hi = ne_eqb number n (λ e. none (omega (arith, e)) (omega (arith, e)))

no_fields : (number : ℕ) (role : Role) (level : ℕ) (bytes : List ℕ) → (1 ≤ number → number ≤ 8 → ⊥) → None ≡ fields_in number role level bytes
unfolding body_at
no_fields number role level bytes none =
    let is : (n : ℕ) → 1 ≤ n → n ≤ 8 → eqb number n ≡ false = λ n. differs number n none in
    rw (
      is 1 (omega arith) (omega arith),
      is 2 (omega arith) (omega arith),
      is 3 (omega arith) (omega arith),
      is 4 (omega arith) (omega arith),
      is 5 (omega arith) (omega arith),
      is 6 (omega arith) (omega arith),
      is 7 (omega arith) (omega arith),
      is 8 (omega arith) (omega arith),
    ) refl

-- nor is there one with a header of no kind
pub packet_unknown : (wire : ℕ) (bytes : List ℕ) (h : Header) (rest : List ℕ) → packet_with h rest ≡ packet_in wire bytes
    → (1 ≤ h.kind → h.kind ≤ 8 → ⊥) → None ≡ packet_in wire bytes
packet_unknown wire bytes h rest e none = packet_unread wire h.kind bytes h rest e refl (no_fields h.kind h.role h.level rest none)
