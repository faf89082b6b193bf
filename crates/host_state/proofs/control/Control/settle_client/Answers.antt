use Rattle.std.proofs.Common.{refl, sym, subst, rules}
use Rattle.homa_plain.specs.declared.packet.Role.TheVariants.{Client}
use Rattle.host_state.specs.Control.{IsAt}
use Rattle.homa_plain.specs.FiveAcks.{finishes}
use Rattle.host_state.proofs.Settle.{at-asked}
use Rattle.host_state.proofs.control.Control.settle_client.Goals as goal

pub returns-then-outcome-clause-step : goal.returns-then-outcome-clause-step
returns-then-outcome-clause-step c did w is at =
    at-asked c.args.id c.args.outcome c.args.self.now c.note_if.new.self c.tell_cutoffs_if.new.self c.say.new.self c.args.out.now
    c.tell_cutoffs_if.new.out c.say.new.out Client c.args.server
    c.note_if.ensures.step c.tell_cutoffs_if.ensures.step c.say.ensures.step (search rules) (search rules) (search rules)
    (search rules) c.finish.new.self c.finish.new.out refl (search rules)
    (λ v a. subst (λ b. IsAt (finishes c.say.new.self.settings c.args.id c.args.server b v) c.finish.new.self c.finish.new.out)
    (sym c.if-outcome.true) (c.finish.ensures.step v a)) did w is at

pub returns-else-outcome-clause-step : goal.returns-else-outcome-clause-step
returns-else-outcome-clause-step c did w is at =
    at-asked c.args.id c.args.outcome c.args.self.now c.note_if.new.self c.tell_cutoffs_if.new.self c.say.new.self c.args.out.now
    c.tell_cutoffs_if.new.out c.say.new.out Client c.args.server
    c.note_if.ensures.step c.tell_cutoffs_if.ensures.step c.say.ensures.step (search rules) (search rules) (search rules)
    (search rules) c.say.new.self c.say.new.out refl (search rules)
    (λ v a. subst (λ b. IsAt (finishes c.say.new.self.settings c.args.id c.args.server b v) c.say.new.self c.say.new.out)
    (sym c.if-outcome.false) a) did w is at
