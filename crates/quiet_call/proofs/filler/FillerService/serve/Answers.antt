use Rattle.std.proofs.Common.{ap, arith, length}
use Rattle.quiet_laws.proofs.FirstRound.{length-counting}
use Rattle.quiet_call.proofs.filler.FillerService.serve.Goals as goal

pub returns-clause-size : goal.returns-clause-size
returns-clause-size c =
    omega (arith, ap length c.new.ensures.bytes, ap length c.in_ok-bytes.ensures, length-counting 0 c.args.self.now.size, c.args.self.now.sized.1)
