use Rattle.std.proofs.Common.{refl}
use Rattle.host_table.proofs.StageLaws.{at_read, still}
use Rattle.host_table.proofs.stage.Stage.call.Goals as goal

pub returns-clause-step : goal.returns-clause-step
returns-clause-step g c =
    at_read _ c.args.self.now.hosts.items c.args.client.0 c.index_mut-host.result.now c.requires.client c.index_mut-host.ensures.value (record {
      after = c.call.new.self;
      hosts = refl;
      done = c.in_default.ensures.step _;
      same = c.call.ensures.steady;
      last = c.in_default.ensures.last;
    })

pub returns-clause-no_fault : goal.returns-clause-no_fault
returns-clause-no_fault g c =
    at_read _ c.args.self.now.hosts.items c.args.client.0 c.index_mut-host.result.now c.requires.client c.index_mut-host.ensures.value
    c.in_default.ensures.no_fault

pub returns-in-Err-clause-fault : goal.returns-in-Err-clause-fault
returns-in-Err-clause-fault g c =
    at_read _ c.args.self.now.hosts.items c.args.client.0 c.index_mut-host.result.now c.requires.client c.index_mut-host.ensures.value c.in-Err.ensures.fault

pub returns-in-Err-clause-known : goal.returns-in-Err-clause-known
returns-in-Err-clause-known g c =
    still c.args.self.now.hosts.items c.args.client.0 c.index_mut-host.result.now c.call.new.self c.requires.client c.index_mut-host.ensures.value
    c.in-Err.ensures.same
