use Rattle.std.proofs.Common.{rules, ◌≡◌, ℕ, ◌+◌, ◌-◌, List, [], ◌∷◌, ◌++◌, Some, length, sym, ap, subst, ◌∙◌, length-append, arith}
use Rattle.homa_plain.specs.Bytes.{two_at, times}
use Rattle.homa_wire.proofs.Times.{behind, times_more, times_none, times_all}
use Rattle.homa_wire.proofs.bodies.read_calls.Goals as goal

pub returns-in_err-inc : goal.returns-in_err-inc
returns-in_err-inc c =
    rw c.from_residual.ensures
    (times_none two_at c.args.count c.loop-i._i c.args.bytes.now c.loop-i.more c.loop-i.rest.now (omega arith) c.in_err-inc.ensures c.loop-i.invariant.1)

pub loop-i-preserved : goal.loop-i-preserved
loop-i-preserved c =
    let i = c.loop-i._i in
    let call : ℕ × ℕ = (c.in_ok-inc.inc, c.in_ok-inc.seq) in
    let read : Some (call, c.in_ok-inc.behind.now) ≡ two_at c.loop-i.rest.now = first_of (cc c.in_ok-inc.ensures, search (rules, c.in_ok-inc.ensures)) in
    let more =
    times_more two_at c.args.count i c.args.bytes.now c.loop-i.more c.loop-i.rest.now call c.in_ok-inc.behind.now (omega arith) read c.loop-i.invariant.1 in
    let len : length c.push.new.self ≡ length (c.loop-i.more ++ call ∷ []) = ap length c.push.ensures in (
      len ∙ length-append c.loop-i.more (call ∷ []) ∙ ap (λ n. n + 1) c.loop-i.invariant.0,
      subst (λ (xs : List (ℕ × ℕ)). times two_at c.args.count c.args.bytes.now ≡ behind xs
          (times two_at (c.args.count - (i + 1)) c.in_ok-inc.behind.now)) (sym c.push.ensures) more,
    )

pub returns : goal.returns
returns c = times_all two_at c.args.count c.loop-i._i c.args.bytes.now c.loop-i.more c.loop-i.rest.now (omega arith) c.loop-i.invariant.1
