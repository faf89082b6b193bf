-- What a piece that was placed makes of a part and its pool.
use Rattle.std.proofs.Common.{◌≡◌, ◌↔◌, ℕ, ◌+◌, ◌<◌, ◌≤◌, true, false, cond, eqb, List, length, refl, sym, ap, subst, ◌∙◌}
use Rattle.std.proofs.lemmas.Bool.{lt-ltb, true≢false}
use Rattle.plain_sets.specs.Maps.{len}
use Rattle.plain_sets.specs.Numbers.{Numbers, without_range, ranges}
use Rattle.range_set.specs.declared.Changed.{Changed}
use Rattle.range_set.specs.declared.Changed.TheVariants.{Count, TooMany}
use Rattle.range_set.specs.Changed.{IfCount, RemovesRange}
use Rattle.range_set.specs.Fits.{FitsRangeSet}
use Rattle.homa_plain.specs.Incoming.{with_bytes, new_bytes, leaves_too_many_gaps}
use Rattle.msg_pool.specs.Pool.{Pool, bytes_of, with_bytes as pool_with}
use Rattle.homa_in.specs.declared.arriving.Accepted.TheVariants.{Fresh, Whole, Repeat, TooManyGaps}
use Rattle.homa_in.specs.Part.{Part, seen, IsIn}
use Rattle.homa_in.specs.Accepts.{answer}
use Rattle.homa_in.specs.Filled.{IsFilled}
use Rattle.homa_in.proofs.LeaseLaws.{pool-itself, pool-same, lease-stays}
use Rattle.homa_in.proofs.TakenLaws.{IsSeen, Holds, gaps-seen, new-seen}
use Rattle.homa_in.proofs.AnswerLaws.{is_many, not_many, is_taken, seen-taken, missing-same, bytes-same, part-without}

-- what placing a piece did
pub record IsPlaced (old new : Pool) (part : Part) (m : Numbers) (a : ℕ) (piece : List ℕ) (changed : Changed) : Type 0 where
  pub too_many : (changed ≡ TooMany) ↔ (64 < length (ranges (without_range part.missing a (a + length piece))))
  pub unchanged : changed ≡ TooMany → m ≡ part.missing
  pub same_pool : changed ≡ TooMany → new ≡ old
  pub removed : IfCount changed (RemovesRange part.missing m a (a + length piece))
  pub bytes : IfCount changed (λ _. IsFilled part.missing a (a + length piece) piece (bytes_of old part.lease) (bytes_of new part.lease))
  pub pool : IfCount changed (λ _. new ≡ pool_with old part.lease (bytes_of new part.lease))
  pub fits : FitsRangeSet m

-- what holds of the fields still does
pub holds_placed : (old new : Pool) (part : Part) (m : Numbers) (a : ℕ) (piece : List ℕ) (changed : Changed) → IsPlaced old new part m a piece changed
    → Holds part → Holds (record part { missing = m })
holds_placed old new part m a piece TooMany placed holds = subst (λ (s : Numbers). Holds (record part { missing = s })) (sym (placed.unchanged refl)) holds
holds_placed old new part m a piece (Count n) placed holds =
    part-without part.length part.granted part.missing m part.lease a (a + length piece) n holds placed.removed placed.fits.few

module _ (old new : Pool) (part : Part) (is : IsSeen old part) (inside : IsIn old part) (a : ℕ) (piece : List ℕ)
    (fits : a + length piece ≤ part.length) (m : Numbers) where
  -- the answers
  pub many_placed : (changed : Changed) → IsPlaced old new part m a piece changed → changed ≡ TooMany → TooManyGaps ≡ answer (seen old part) a piece
  many_placed changed placed e = is_many old part is a piece fits (placed.too_many.0 e)

  pub count_placed : (changed : Changed) (n : ℕ) → IsPlaced old new part m a piece changed → changed ≡ Count n
      → cond (eqb n 0) Repeat (cond (eqb (len m) 0) Whole (Fresh n)) ≡ answer (seen old part) a piece
  count_placed changed n placed e =
      let placed' = subst (λ (ch : Changed). IsPlaced old new part m a piece ch) e placed in
      sym (is_taken old part is a piece fits m n placed'.removed placed.fits.few)

  -- the message with the piece is seen
  pub taken_placed : (changed : Changed) → IsPlaced old new part m a piece changed → leaves_too_many_gaps (seen old part) a piece ≡ false
      → seen new (record part { missing = m }) ≡ with_bytes (seen old part) a piece
  taken_placed TooMany placed e = absurd (true≢false (sym (gaps-seen old part is a piece ∙ lt-ltb 64 _ (placed.too_many.0 refl)) ∙ e))
  taken_placed (Count n) placed e = seen-taken old part is a piece fits m n placed.removed placed.fits.few new placed.bytes

  -- only the lease's bytes change
  pub others_placed : (changed : Changed) → IsPlaced old new part m a piece changed → new ≡ pool_with old part.lease (bytes_of new part.lease)
  others_placed TooMany placed =
      let same : new ≡ old = placed.same_pool refl in
      subst (λ (p : Pool). p ≡ pool_with old part.lease (bytes_of p part.lease)) (sym same) (sym (pool-itself old part.lease inside.lease))
  others_placed (Count n) placed = placed.pool

  -- the part is in the pool afterwards
  pub in_placed : (changed : Changed) → IsPlaced old new part m a piece changed → IsIn new (record part { missing = m })
  in_placed TooMany placed =
      subst (λ (p : Pool). IsIn p (record part { missing = m })) (sym (placed.same_pool refl)) (record { lease = inside.lease; length = inside.length })
  in_placed (Count n) placed = record { lease = lease-stays old part.lease inside.lease new placed.pool placed.bytes.length; length = inside.length }

  -- where too many gaps would be left, nothing changes
  pub refused_placed : (changed : Changed) → IsPlaced old new part m a piece changed → leaves_too_many_gaps (seen old part) a piece ≡ true
      → (m ≡ part.missing) × (new ≡ old)
  refused_placed TooMany placed e = (placed.unchanged refl, placed.same_pool refl)
  refused_placed (Count n) placed e = absurd (true≢false (sym e ∙ not_many old part is a piece fits m n placed.removed placed.fits.few))

  -- where no byte is new, nothing changes
  pub same_placed : (changed : Changed) → IsPlaced old new part m a piece changed → new_bytes (seen old part) a piece ≡ 0 → (m ≡ part.missing) × (new ≡ old)
  same_placed TooMany placed e = (placed.unchanged refl, placed.same_pool refl)
  same_placed (Count n) placed e =
      let none : n ≡ 0 = new-seen old part is a piece fits n (ap (λ s. len s + n) (sym placed.removed.set) ∙ placed.removed.count) ∙ e in (
        missing-same old part is a piece fits m n placed.removed placed.fits.few new placed.bytes none,
        pool-same old part.lease inside.lease new placed.pool (bytes-same old part is a piece fits m n placed.removed placed.fits.few new placed.bytes none),
      )
