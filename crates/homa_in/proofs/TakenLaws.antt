-- What a piece makes of a message that is seen with its pool.
use Rattle.std.proofs.Common.{◌≡◌, ℕ, ◌+◌, ◌-◌, ◌<◌, ◌≤◌, Bool, true, false, not, ◌&&◌, cond, ltb, leb, eqb, List, length, get_or, refl, sym, ap}
use Rattle.std.proofs.Common.{subst, ◌∙◌, arith, Option, Some, None, inl, inr}
use Rattle.std.specs.Option.{is_some}
use Rattle.std.specs.List.{slice_get}
use Rattle.std.specs.Ordering.{nat_cmp}
use Rattle.std.specs.Cmp.{nat_cmp_total}
use Rattle.std.specs.FinMap.{nat_cmp-IsAntisymmetric}
use Rattle.std.proofs.lemmas.Bool.{eq-eqb, ne_eqb, cases_lt, cases_eq, true≢false}
use Rattle.std.proofs.lemmas.Option.{slice_get_past, slice_get-get_or}
use Rattle.plain_sets.specs.Maps.{Map, get, len}
use Rattle.plain_sets.specs.Ranges.{is_between}
use Rattle.plain_sets.specs.Numbers.{Numbers, has, without_range, IsBelow, ranges, missing, first_below}
use Rattle.plain_sets.proofs.MapLaws.{same_map}
use Rattle.plain_sets.proofs.NumberLaws.{has-without_range}
use Rattle.plain_sets.proofs.KeySets.{len-key_set}
use Rattle.plain_sets.proofs.CountLaws.{len-missing}
use Rattle.homa_plain.specs.Incoming.{Incoming, arrived, remaining, first_gap, with_bytes, new_bytes, leaves_too_many_gaps, is_whole, IsSound}
use Rattle.homa_plain.proofs.PartSets.{in_range}
use Rattle.homa_plain.proofs.ArrivalLaws.{get-kept, get-new, missing-with_bytes, below-with_bytes, remaining-with_bytes}
use Rattle.msg_pool.specs.Pool.{Pool, bytes_of}
use Rattle.msg_pool.proofs.Leases.{length-bytes_of}
use Rattle.homa_in.specs.Part.{Part, known, seen, IsIn, IsPart}
use Rattle.homa_in.specs.Filled.{IsFilled}
use Rattle.homa_in.proofs.KnownLaws.{get-known, below-known, missing-known, len-known}

-- lists of one length that have the same number at a place
same_at : (xs ys : List ℕ) (q : ℕ) → length ys ≡ length xs → get_or ys q 0 ≡ get_or xs q 0 → slice_get ys q ≡ slice_get xs q
same_at xs ys q long e =
    elim (cases_lt q (length xs)) [
      | inl h ↦
          let h' : q < length ys = omega arith in
          slice_get-get_or ys q 0 h' ∙ ap Some e ∙ sym (slice_get-get_or xs q 0 h)
      | inr h ↦
          let h' : length ys ≤ q = omega arith in
          slice_get_past ys q h' ∙ sym (slice_get_past xs q h)
    ]

module _ (p : Incoming) (old new : List ℕ) (m : Numbers) (a : ℕ) (piece : List ℕ)
    (here : p.bytes ≡ known old m) (fits : a + length piece ≤ length old) (fill : IsFilled m a (a + length piece) piece old new) where
  -- the byte of a number before
  before : (q : ℕ) → get p.bytes q ≡ cond (has m q) None (slice_get old q)
  before q = ap (λ (b : Map nat_cmp ℕ). get b q) here ∙ get-known old m q

  -- and after
  after : (q : ℕ) → get (known new (without_range m a (a + length piece))) q ≡ cond (not (is_between a (a + length piece) q) && has m q) None (slice_get new q)
  after q = get-known new (without_range m a (a + length piece)) q ∙ ap (λ b. cond b None (slice_get new q)) (has-without_range m a (a + length piece) q)

  -- a byte that isn't missing stays
  held : (q : ℕ) (o : Option ℕ) → get p.bytes q ≡ o → slice_get old q ≡ o → get (with_bytes p a piece).bytes q ≡ o
  held q (Some x) e f = get-kept p a piece q x e
  held q None e f = get-new p a piece q e ∙ out (leb a q && ltb q (a + length piece)) refl where
    out : (b : Bool) → (leb a q && ltb q (a + length piece)) ≡ b → cond b (slice_get piece (q - a)) None ≡ None
    out true t =
        let inside = in_range a (a + length piece) q t in
        let there : Some (get_or old q 0) ≡ None = sym (slice_get-get_or old q 0 (omega (arith, inside.1))) ∙ f in
        absurd (true≢false (ap is_some there))
    out false t = refl

  -- a byte that was missing is the piece's where the piece has it
  came : (q : ℕ) → has m q ≡ true → (b : Bool) → (leb a q && ltb q (a + length piece)) ≡ b
      → cond b (slice_get piece (q - a)) None ≡ cond (not b && true) None (slice_get new q)
  came q e true t =
      let inside = in_range a (a + length piece) q t in
      let here' : q - a < length piece = omega (arith, inside.0, inside.1) in
      let there : q < length new = omega (arith, inside.1, fill.length) in
      slice_get-get_or piece (q - a) 0 here' ∙ ap Some (sym (fill.filled q inside.0 inside.1 e)) ∙ sym (slice_get-get_or new q 0 there)
  came q e false t = refl

  unmissed : (b : Bool) (o : Option ℕ) → o ≡ cond (not b && false) None o
  unmissed true o = refl
  unmissed false o = refl

  at : (q : ℕ) (b : Bool) → has m q ≡ b → get (with_bytes p a piece).bytes q ≡ cond (not (is_between a (a + length piece) q) && b) None (slice_get new q)
  at q true e = get-new p a piece q (before q ∙ ap (λ b. cond b None (slice_get old q)) e) ∙ came q e (leb a q && ltb q (a + length piece)) refl
  at q false e =
      held q (slice_get old q) (before q ∙ ap (λ b. cond b None (slice_get old q)) e) refl ∙ sym (same_at old new q fill.length (fill.kept q e))
      ∙ unmissed (is_between a (a + length piece) q) (slice_get new q)

  -- the message with the piece has the bytes of the list in which the missing ones are filled in
  pub bytes-taken : (with_bytes p a piece).bytes ≡ known new (without_range m a (a + length piece))
  bytes-taken = same_map nat_cmp_total nat_cmp-IsAntisymmetric _ _ (λ q.
      at q (has m q) refl ∙ sym (after q))

-- what is known of a part that is in its pool
pub record IsSeen (pool : Pool) (part : Part) : Type 0 where
  pub long : length (bytes_of pool part.lease) ≡ part.length
  pub below : IsBelow part.missing part.length
  pub granted : part.granted ≤ part.length
  pub few : length (ranges part.missing) ≤ 64

-- what holds of each part
abbrev pub Holds : Part → Type 0
Holds part = IsPart part.length part.granted part.missing part.lease

-- it follows from what holds of the fields
pub is_seen : (pool : Pool) (fields part : Part) → fields ≡ part → IsIn pool part → Holds fields → IsSeen pool part
is_seen pool fields part view inside holds =
    let is : Holds part = subst Holds view holds in
    record { long = length-bytes_of pool part.lease inside.lease ∙ inside.length; below = is.below; granted = is.granted; few = is.few }

module _ (pool : Pool) (part : Part) (is : IsSeen pool part) where
  -- the missing bytes are those of the part
  pub missing-seen : missing (arrived (seen pool part)) part.length ≡ part.missing
  missing-seen = missing-known (bytes_of pool part.lease) part.missing part.length is.long is.below

  pub below-seen : IsBelow (arrived (seen pool part)) part.length
  below-seen = below-known (bytes_of pool part.lease) part.missing part.length is.long is.below

  -- so many bytes are missing
  pub remaining-seen : len part.missing ≡ remaining (seen pool part)
  remaining-seen = omega (arith, len-known (bytes_of pool part.lease) part.missing part.length is.long is.below)

  -- so many have arrived
  pub arrived-seen : (n : ℕ) → n + len part.missing ≡ part.length → n ≡ len (arrived (seen pool part))
  arrived-seen n e =
      omega (arith, e, len-missing (arrived (seen pool part)) part.length below-seen, ap len missing-seen)

  -- the first gap
  pub gap-seen : first_gap (seen pool part) ≡ first_below part.missing part.granted
  gap-seen = ap (λ m. first_below m part.granted) missing-seen

  -- the message is sound
  pub sound-seen : IsSound (seen pool part)
  sound-seen = record { below = below-seen; granted = is.granted; few = subst (λ (m : Numbers). length (ranges m) ≤ 64) (sym missing-seen) is.few }

  -- whether a piece leaves too many gaps
  pub gaps-seen : (a : ℕ) (piece : List ℕ)
      → leaves_too_many_gaps (seen pool part) a piece ≡ ltb 64 (length (ranges (without_range part.missing a (a + length piece))))
  gaps-seen a piece =
      ap (λ (m : Numbers). ltb 64 (length (ranges m)))
      (missing-with_bytes (seen pool part) a piece part.length ∙ ap (λ m. without_range m a (a + length piece)) missing-seen)

  module _ (a : ℕ) (piece : List ℕ) (fits : a + length piece ≤ part.length) where
    -- how many bytes of a message with a piece are missing
    pub left-seen : remaining (with_bytes (seen pool part) a piece) ≡ len (without_range part.missing a (a + length piece))
    left-seen =
        let below : IsBelow (arrived (with_bytes (seen pool part) a piece)) part.length = below-with_bytes (seen pool part) a piece below-seen fits in
        let gone : missing (arrived (with_bytes (seen pool part) a piece)) part.length ≡ without_range part.missing a (a + length piece) =
        missing-with_bytes (seen pool part) a piece part.length ∙ ap (λ m. without_range m a (a + length piece)) missing-seen in
        omega (
          arith,
          len-key_set (with_bytes (seen pool part) a piece).bytes,
          len-missing (arrived (with_bytes (seen pool part) a piece)) part.length below,
          ap len gone,
        )

    -- and how many of the piece are new
    pub new-seen : (n : ℕ) → len (without_range part.missing a (a + length piece)) + n ≡ len part.missing → n ≡ new_bytes (seen pool part) a piece
    new-seen n e = omega (arith, e, left-seen, remaining-seen, remaining-with_bytes (seen pool part) a piece below-seen fits)

    -- the message with the piece is whole where no byte is missing
    pub whole-seen : is_whole (with_bytes (seen pool part) a piece) ≡ eqb (len (without_range part.missing a (a + length piece))) 0
    whole-seen =
        let below : IsBelow (arrived (with_bytes (seen pool part) a piece)) part.length = below-with_bytes (seen pool part) a piece below-seen fits in
        let most = len-missing (arrived (with_bytes (seen pool part) a piece)) part.length below in
        let same = len-key_set (with_bytes (seen pool part) a piece).bytes in
        elim (cases_eq (len (without_range part.missing a (a + length piece))) 0) [
          | inl e ↦ eq-eqb (len (with_bytes (seen pool part) a piece).bytes) part.length (omega (arith, e, left-seen, most, same)) ∙ sym (eq-eqb _ 0 e)
          | inr ne ↦ ne_eqb (len (with_bytes (seen pool part) a piece).bytes) part.length (λ e. ne (omega (arith, e, left-seen))) ∙ sym (ne_eqb _ 0 ne)
        ]
