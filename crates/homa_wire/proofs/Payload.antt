-- Where the payload of a packet that was read stands.
use Rattle.std.proofs.Common.{◌≡◌, ℕ, ◌+◌, ◌-◌, ◌≤◌, List, ◌++◌, length, Option, Some, None, sym, subst, length-append, arith}
use Rattle.std.specs.Prelude.{IfNone, slice_range}
use Rattle.std.proofs.Math.Seq.{drop-append_seam, take-length}
use Rattle.homa_plain.specs.declared.packet.Packet.{Packet}
use Rattle.homa_plain.specs.Bytes.{IsBytes}
use Rattle.homa_plain.specs.Wire.{header_bytes, body_bytes, Spells, packet_in}
use Rattle.homa_plain.proofs.WireLaws.{read_is_spelled, no_packet}

-- the last part of a list
last_part : (front back : List ℕ) → slice_range (front ++ back) (length (front ++ back) - length back) (length (front ++ back)) ≡ back
last_part front back =
    let len : length (front ++ back) ≡ length front + length back = length-append front back in
    let at : length (front ++ back) - length back ≡ length front = omega arith in
    let many : length (front ++ back) - length front ≡ length back = omega arith in
    rw (at, drop-append_seam front back, many) (take-length back)

-- what is known of a packet that was read, and of its payload
pub record IsRead (wire : ℕ) (bytes : List ℕ) (p : Packet) (payload : List ℕ) : Type 0 where
  pub spelled : Spells wire bytes p payload
  pub fits : length payload ≤ length bytes
  pub part_is : slice_range bytes (length bytes - length payload) (length bytes) ≡ payload

pub is_read : (wire : ℕ) (bytes : List ℕ) (p : Packet) (payload : List ℕ) → IsBytes bytes → Some (p, payload) ≡ packet_in wire bytes
    → IsRead wire bytes p payload
is_read wire bytes p payload fits e =
    let spelled = read_is_spelled wire bytes p payload fits (sym e) in
    let front = header_bytes wire p ++ body_bytes p.body in record {
      spelled = spelled;
      fits = rw spelled.1 (simp (length-append front payload) (omega arith));
      part_is = subst (λ (xs : List ℕ). slice_range xs (length xs - length payload) (length xs) ≡ payload) (sym spelled.1) (last_part front payload);
    }

if_none : {A : Type 0} (o : Option A) (P : Type 0) → P → IfNone o P
if_none None P h = h
if_none (Some x) P h = tt

-- where no packet was read, nothing spells the bytes
pub none_read : {A : Type 0} (wire : ℕ) (bytes : List ℕ) (o : Option A) → IsBytes bytes → None ≡ packet_in wire bytes
    → IfNone o ((p : Packet) (payload : List ℕ) → Spells wire bytes p payload → ⊥)
none_read wire bytes o fits e = if_none o _ ((no_packet wire bytes fits).0 (sym e))
