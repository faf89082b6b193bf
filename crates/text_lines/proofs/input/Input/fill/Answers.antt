use Rattle.std.proofs.Common.{arith, refl}
use Rattle.std.proofs.lemmas.Result.{MatchResult-from_err, IfOk-from_err}
use Rattle.text_lines.proofs.Taking.{takes_none, takes_failed, no_pending, some_pending}
use Rattle.text_lines.proofs.input.Input.fill.Goals as goal

pub returns-then-self-clause-taken : goal.returns-then-self-clause-taken
returns-then-self-clause-taken g c = takes_none _ _ _ refl

pub returns-then-self-clause-pending : goal.returns-then-self-clause-pending
returns-then-self-clause-pending g c = λ _. (refl, refl)

pub returns-then-self-clause-end : goal.returns-then-self-clause-end
returns-then-self-clause-end g c = λ none. absurd (some_pending _ _ _ c.if-self.true c.args.self.now.within none)

pub returns-then-self-clause-none : goal.returns-then-self-clause-none
returns-then-self-clause-none g c = tt

pub returns-then-self-clause-risen : goal.returns-then-self-clause-risen
returns-then-self-clause-risen g c = tt

pub returns-then-self-clause-quiet : goal.returns-then-self-clause-quiet
returns-then-self-clause-quiet g c = refl

pub returns-then-self-clause-never_falls : goal.returns-then-self-clause-never_falls
returns-then-self-clause-never_falls g c = omega arith

pub returns-then-self-clause-same : goal.returns-then-self-clause-same
returns-then-self-clause-same g c = g.met.S.Source.same_self _

pub returns-in_err-n-clause-taken : goal.returns-in_err-n-clause-taken
returns-in_err-n-clause-taken g c =
    takes_failed _ _ _ _ (no_pending _ _ _ c.if-self.false) (no_pending _ _ _ c.if-self.false) c.in_err-n.ensures.err

pub returns-in_err-n-clause-pending : goal.returns-in_err-n-clause-pending
returns-in_err-n-clause-pending g c = λ some. absurd (some (no_pending _ _ _ c.if-self.false))

pub returns-in_err-n-clause-end : goal.returns-in_err-n-clause-end
returns-in_err-n-clause-end g c = IfOk-from_err _ _ c.from_residual.ensures.0

pub returns-in_err-n-clause-none : goal.returns-in_err-n-clause-none
returns-in_err-n-clause-none g c = MatchResult-from_err _ _ _ c.from_residual.ensures.0 (λ _. no_pending _ _ _ c.if-self.false)

pub returns-in_err-n-clause-risen : goal.returns-in_err-n-clause-risen
returns-in_err-n-clause-risen g c = MatchResult-from_err _ _ _ c.from_residual.ensures.0 (λ _. c.in_err-n.ensures.risen)

pub returns-in_err-n-clause-quiet : goal.returns-in_err-n-clause-quiet
returns-in_err-n-clause-quiet g c = IfOk-from_err _ _ c.from_residual.ensures.0

pub returns-in_err-n-clause-never_falls : goal.returns-in_err-n-clause-never_falls
returns-in_err-n-clause-never_falls g c = c.read.ensures.never_falls

pub returns-in_err-n-clause-same : goal.returns-in_err-n-clause-same
returns-in_err-n-clause-same g c = c.read.ensures.same

pub returns-clause-pending : goal.returns-clause-pending
returns-clause-pending g c = λ some. absurd (some (no_pending _ _ _ c.if-self.false))

pub returns-clause-none : goal.returns-clause-none
returns-clause-none g c = tt

pub returns-clause-risen : goal.returns-clause-risen
returns-clause-risen g c = tt

pub returns-clause-quiet : goal.returns-clause-quiet
returns-clause-quiet g c = c.in_ok-n.ensures.quiet

pub returns-clause-never_falls : goal.returns-clause-never_falls
returns-clause-never_falls g c = c.read.ensures.never_falls

pub returns-clause-same : goal.returns-clause-same
returns-clause-same g c = c.read.ensures.same
