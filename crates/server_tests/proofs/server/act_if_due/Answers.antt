use Rattle.std.proofs.Common.{◌≤◌, ℕ, Option, sym, ◌∙◌, subst}
use Rattle.std.specs.Option.{IsSomeAnd}
use Rattle.server_tests.proofs.server.act_if_due.Goals as goal

pub act-requires-clause-due : goal.act-requires-clause-due
act-requires-clause-due c id r stands = subst (λ (o : Option ℕ). IsSomeAnd o (λ at. at ≤ c.args.now))
    (sym c.in_ok-at.was ∙ c.deadline.ensures id r c.args.pool.now stands c.requires.pool) c.if-now-at.false
