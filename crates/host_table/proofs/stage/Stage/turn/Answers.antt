use Rattle.std.proofs.Common.{refl}
use Rattle.host_table.proofs.StageLaws.{at_read}
use Rattle.host_table.proofs.stage.Stage.turn.Goals as goal

pub returns-clause-step : goal.returns-clause-step
returns-clause-step g c =
    at_read _ c.args.self.now.hosts.items c.args.host.0 c.index_mut.result.now c.requires.host c.index_mut.ensures.value (record {
      after = c.turn.new.self;
      hosts = refl;
      done = c.turn.ensures.step _;
      same = c.turn.ensures.steady;
      last = c.turn.ensures.last;
    })
