use Rattle.std.proofs.Common.{[]}
use Rattle.host_state.proofs.At.{at-sent}
use Rattle.host_state.proofs.control.Control.post.Goals as goal

pub returns-clause-step : goal.returns-clause-step
returns-clause-step c w at =
    at-sent w c.args.self.now _ c.args.out.now _ c.args.role c.args.id c.args.server (record { level = 7; body = c.args.body; payload = [] })
    c.send.ensures.formed c.send.ensures.marks c.send.ensures.frames at
