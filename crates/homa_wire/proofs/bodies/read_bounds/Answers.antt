use Rattle.std.proofs.Common.{rules, ◌≡◌, ℕ, ◌+◌, ◌-◌, List, Some, take, sym, subst, ◌∙◌, arith}
use Rattle.std.proofs.Math.ListN.{length-set}
use Rattle.std.proofs.lemmas.List.{take_all, take_more_set}
use Rattle.std.specs.Int.{w32}
use Rattle.homa_plain.specs.Bytes.{number_at, times}
use Rattle.homa_wire.proofs.Times.{behind, times_more, times_none, times_all}
use Rattle.homa_wire.proofs.bodies.read_bounds.Goals as goal

pub returns-in_err-value : goal.returns-in_err-value
returns-in_err-value c =
    let items = c.loop-bound.bound-items in
    let i = c.loop-bound.bound-index in
    rw c.from_residual.ensures
    (times_none (number_at w32) 8 i c.args.bytes.now (take i items) c.loop-bound.rest.now (omega arith) c.in_err-value.ensures c.loop-bound.invariant.1)

pub loop-bound-preserved : goal.loop-bound-preserved
loop-bound-preserved c =
    let items = c.loop-bound.bound-items in
    let i = c.loop-bound.bound-index in
    let value = c.in_ok-value.value in
    let read : Some (value, c.in_ok-value.behind.now) ≡ number_at w32 c.loop-bound.rest.now =
    first_of (cc c.in_ok-value.ensures, search (rules, c.in_ok-value.ensures)) in
    let more = times_more (number_at w32) 8 i c.args.bytes.now (take i items) c.loop-bound.rest.now value c.in_ok-value.behind.now
    (omega arith) read c.loop-bound.invariant.1 in (
      length-set _ _ _ ∙ c.loop-bound.invariant.0,
      subst (λ (xs : List ℕ). times (number_at w32) 8 c.args.bytes.now ≡ behind xs (times (number_at w32) (8 - (i + 1)) c.in_ok-value.behind.now))
          (sym (take_more_set items i value (omega arith))) more,
    )

pub returns : goal.returns
returns c =
    let items = c.loop-bound.bound-items in
    let i = c.loop-bound.bound-index in
    let all = times_all (number_at w32) 8 i c.args.bytes.now (take i items) c.loop-bound.rest.now (omega arith) c.loop-bound.invariant.1 in
    subst (λ (xs : List ℕ). Some (xs, c.loop-bound.rest.now) ≡ times (number_at w32) 8 c.args.bytes.now) (take_all i items (omega arith)) all
