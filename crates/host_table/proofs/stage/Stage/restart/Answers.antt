use Rattle.std.proofs.Common.{ap, ◌∙◌}
use Rattle.std.specs.Prelude.{slice_set}
use Rattle.std.proofs.lemmas.List.{map-set}
use Rattle.host_table.specs.Staged.{known, known_of, spares_of}
use Rattle.host_table.proofs.StageLaws.{where_ok, where_err, any_left}
use Rattle.host_table.proofs.stage.Stage.restart.Goals as goal

pub returns-clause-done : goal.returns-clause-done
returns-clause-done g c = record {
  some = any_left c.replace.result c.is_err.result (spares_of c.args.self.now) c.is_err.ensures.value c.if-is_err.false c.replace.ensures.none;
  known = map-set known c.args.self.now.hosts.items c.args.host.0 c.in-Ok.fresh
      ∙ ap (λ h. slice_set (known_of c.args.self.now) c.args.host.0 (known h)) c.in-Ok.ensures;
  seats = where_ok _ c.replace.result c.is_err.result c.is_err.ensures.value c.if-is_err.false c.replace.ensures.places;
  spares = where_ok _ c.replace.result c.is_err.result c.is_err.ensures.value c.if-is_err.false c.replace.ensures.spares;
}

pub returns-then-is_err-clause-seats : goal.returns-then-is_err-clause-seats
returns-then-is_err-clause-seats g c = where_err _ c.replace.result c.is_err.result c.is_err.ensures.value c.if-is_err.true c.replace.ensures.err_places

pub returns-then-is_err-clause-spares : goal.returns-then-is_err-clause-spares
returns-then-is_err-clause-spares g c = where_err _ c.replace.result c.is_err.result c.is_err.ensures.value c.if-is_err.true c.replace.ensures.err_spares
