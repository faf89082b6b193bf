-- The deadline is that of the plain row.
use Rattle.std.proofs.Common.{◌≡◌, ◌∙◌, ◌+◌, sym, ap, Some, arith}
use Rattle.homa_plain.specs.Timers.{client_deadline, unless}
use Rattle.homa_client.specs.Held.{HeldRow}
use Rattle.homa_client.proofs.row.Row.deadline.Goals as goal

pub returns-then-is_at_rest : goal.returns-then-is_at_rest
unfolding client_deadline
returns-then-is_at_rest c s pool e inside = ap (λ b. unless b (c.args.self.now.base + s.resend)) (sym c.if-is_at_rest.true ∙ c.is_at_rest.ensures pool inside)

pub returns : goal.returns
unfolding client_deadline
returns c s pool e inside =
    let at : c.self.inside.base + c.from.result ≡ c.args.self.now.base + s.resend =
    omega (arith, ap (λ (r : HeldRow). r.base) c.self.view_is, c.from.ensures, e) in
    ap Some at ∙ ap (λ b. unless b (c.args.self.now.base + s.resend)) (sym c.if-is_at_rest.false ∙ c.is_at_rest.ensures pool inside)
