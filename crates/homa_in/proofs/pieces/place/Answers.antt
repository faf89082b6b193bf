-- A piece that is missing as a whole is written as a whole; another one splits no range.
use Rattle.std.proofs.Common.{ℕ, ◌+◌, ◌≤◌, List, length, sym, ap, subst, ◌∙◌, arith}
use Rattle.std.proofs.lemmas.Bool.{true≢false}
use Rattle.range_set.specs.declared.Changed.{Changed}
use Rattle.range_set.specs.declared.Changed.TheVariants.{Count, TooMany}
use Rattle.range_set.specs.Changed.{IfCount}
use Rattle.msg_pool.specs.Pool.{bytes_of, with_bytes}
use Rattle.msg_pool.proofs.Leases.{length-bytes_of}
use Rattle.homa_in.specs.Filled.{IsFilled}
use Rattle.homa_in.proofs.FillLaws.{filled_whole}
use Rattle.homa_in.proofs.GapLaws.{ranges_few}
use Rattle.homa_in.proofs.LeaseLaws.{pool-written}
use Rattle.homa_in.proofs.pieces.place.Goals as goal

-- what holds anyway
anyway : (r : Changed) (P : Type 0) → P → IfCount r (λ _. P)
anyway (Count n) P p = p
anyway TooMany P p = tt

pub returns-then-not-has_all-clause-same_pool : goal.returns-then-not-has_all-clause-same_pool
returns-then-not-has_all-clause-same_pool c = λ e.
    absurd (omega (
      arith,
      c.remove.ensures.too_many.0 e,
      ranges_few c.args.missing.now c.args.offset (c.args.offset + length c.args.bytes.now) (omega (arith, c.requires.some))
          (λ all. true≢false (sym (c.has_all.ensures.all.1 all) ∙ c.if-not-has_all.true)),
      c.requires.few,
    ))

pub returns-in-Count-clause-bytes : goal.returns-in-Count-clause-bytes
returns-in-Count-clause-bytes c =
    let fits : c.args.offset + length c.args.bytes.now ≤ length (bytes_of c.args.pool.now c.args.lease.now) =
    omega (arith, c.requires.fits, length-bytes_of c.args.pool.now c.args.lease.now c.requires.lease) in
    anyway c.remove-changed.result _
    (subst (λ (xs : List ℕ). IsFilled c.args.missing.now c.args.offset (c.args.offset + length c.args.bytes.now) c.args.bytes.now
    (bytes_of c.args.pool.now c.args.lease.now) xs)
    (sym (pool-written c.args.pool.now c.write.new.self c.args.lease.now _ c.write.ensures))
    (filled_whole c.args.missing.now c.args.offset c.args.bytes.now (bytes_of c.args.pool.now c.args.lease.now) fits
    (c.has_all.ensures.all.0 c.if-not-has_all.false)))

pub returns-in-Count-clause-pool : goal.returns-in-Count-clause-pool
returns-in-Count-clause-pool c =
    anyway c.remove-changed.result _
    (c.write.ensures ∙ ap (with_bytes c.args.pool.now c.args.lease.now)
    (sym (pool-written c.args.pool.now c.write.new.self c.args.lease.now _ c.write.ensures)))
