use Rattle.std.proofs.Common.{refl, rules}
use Rattle.homa_plain.specs.declared.packet.Role.TheVariants.{Server}
use Rattle.host_state.proofs.Settle.{at-served}
use Rattle.host_state.proofs.control.Control.settle_server.Goals as goal

pub returns-clause-step : goal.returns-clause-step
returns-clause-step c did w is at =
    at-served c.args.id c.args.outcome c.args.self.now c.note_if.new.self c.tell_cutoffs_if.new.self c.say.new.self c.args.out.now
    c.tell_cutoffs_if.new.out c.say.new.out Server c.args.self.now.id
    (search rules) (search rules) (search rules) (search rules) (search rules) (search rules) (search rules) refl refl did w is at
