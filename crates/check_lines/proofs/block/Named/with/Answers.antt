use Rattle.std.proofs.Common.{◌≢◌, arith, sym, ◌∙◌}
use Rattle.std.proofs.lemmas.Bool.{true≢false}
use Rattle.homa_plain.proofs.CallOrder.{calls_are}
use Rattle.check_lines.specs.Traces.{IsNamed}
use Rattle.check_lines.specs.declared.block.Named.TheVariants.{Only}
use Rattle.check_lines.proofs.NamedLaws.{one_more}
use Rattle.check_lines.proofs.block.Named.with.Goals as goal

pub returns-else-is_same : goal.returns-else-is_same
returns-else-is_same c ids h =
    let all : IsNamed (Only c.in-Only.other) ids = rw c.in-Only.is at h in
    let differ : c.in-Only.other ≢ c.args.id =
    λ e. true≢false (sym ((calls_are c.in-Only.other c.args.id).1 e) ∙ (sym c.is_same.ensures ∙ c.if-is_same.false)) in
    (omega arith, λ d. one_more c.args.id c.in-Only.other d ids differ all.0 all.1)
