use Rattle.std.proofs.Common.{rules}
use Rattle.host_state.proofs.Settle.{at-say-tell}
use Rattle.host_state.proofs.control.Control.say.Goals as goal

pub returns-in-Tell-clause-step : goal.returns-in-Tell-clause-step
returns-in-Tell-clause-step c w h says inc last are at =
    at-say-tell c.args.self.now.settings h c.args.role c.args.id c.args.server w c.args.self.now _ c.args.out.now c.in-Tell.mark c.args.said says
    c.in-Tell.is are (search rules) at
