use Rattle.std.proofs.Common.{refl, ◌∙◌}
use Rattle.std.proofs.lemmas.Result.{on_ok_weaker}
use Rattle.homa_service.specs.Table.{places}
use Rattle.host_table.specs.Staged.{seats_of}
use Rattle.host_table.proofs.StageLaws.{at_read, still, if_err_weaker, on_err_weaker, both_ok, both_err, reset}
use Rattle.host_table.proofs.stage.Stage.deliver.Goals as goal

pub returns-clause-step : goal.returns-clause-step
returns-clause-step g c =
    on_ok_weaker c.deliver-came.result
    (λ step. at_read _ c.args.self.now.hosts.items c.args.to.0 c.index_mut.result.now c.requires.to c.index_mut.ensures.value (record {
      answer = step.0.0;
      stepped = record {
        after = c.deliver-came.new.self;
        hosts = refl;
        done = step.1.0 step.0.0 step.0.1;
        same = c.deliver-came.ensures.steady;
        last = step.1.1.0;
      };
      lent = record {
        had = c.take-service.result;
        seat = c.deliver-came.new.service;
        place = c.take-service.ensures.seat;
        seats = reset (seats_of c.args.self.now) (places c.take-service.new.self) _ c.args.to.0 c.deliver-came.new.service
            c.take-service.ensures.places c.put_back.ensures.places;
        spares = c.put_back.ensures.spares ∙ c.take-service.ensures.spares;
        before = c.deliver-came.ensures.allows_before;
      };
      count = step.1.1.1.0;
      allowed = step.1.1.1.1;
    }))
    (both_ok _ _ c.deliver-came.result c.deliver-came.ensures.answered
    (both_ok _ _ c.deliver-came.result c.deliver-came.ensures.step
    (both_ok _ _ c.deliver-came.result c.deliver-came.ensures.last
    (both_ok _ _ c.deliver-came.result c.deliver-came.ensures.served c.deliver-came.ensures.allowed))))

pub returns-clause-asks : goal.returns-clause-asks
returns-clause-asks g c =
    if_err_weaker _ _ c.deliver-came.result
    (λ e asks. at_read _ c.args.self.now.hosts.items c.args.to.0 c.index_mut.result.now c.requires.to c.index_mut.ensures.value asks)
    c.deliver-came.ensures.asks

pub returns-clause-whole : goal.returns-clause-whole
returns-clause-whole g c =
    on_err_weaker _ _ c.deliver-came.result
    (λ ran. at_read _ c.args.self.now.hosts.items c.args.to.0 c.index_mut.result.now c.requires.to c.index_mut.ensures.value ran) c.deliver-came.ensures.whole

pub returns-clause-none : goal.returns-clause-none
returns-clause-none g c =
    on_err_weaker _ _ c.deliver-came.result (λ same. record {
      known = still c.args.self.now.hosts.items c.args.to.0 c.index_mut.result.now c.deliver-came.new.self c.requires.to c.index_mut.ensures.value same.0;
      lent = record {
        had = c.take-service.result;
        seat = c.deliver-came.new.service;
        place = c.take-service.ensures.seat;
        seats = reset (seats_of c.args.self.now) (places c.take-service.new.self) _ c.args.to.0 c.deliver-came.new.service
            c.take-service.ensures.places c.put_back.ensures.places;
        spares = c.put_back.ensures.spares ∙ c.take-service.ensures.spares;
        before = c.deliver-came.ensures.allows_before;
      };
      count = same.1;
    }) (both_err _ _ c.deliver-came.result c.deliver-came.ensures.same c.deliver-came.ensures.not_served)
