use Rattle.std.proofs.Common.{◌∙◌, sym, ap}
use Rattle.plain_sets.specs.Numbers.{with_range}
use Rattle.plain_sets.proofs.NumberLaws.{with_range-nothing}
use Rattle.check_call.proofs.PartLaws.{settled_part, settled_count}
use Rattle.check_call.proofs.part.settle.Goals as goal

pub returns-in_ok-add-clause-part : goal.returns-in_ok-add-clause-part
returns-in_ok-add-clause-part c host peer =
    settled_part host peer c.args.set.now c.add.new.self c.args.part
    (c.in_ok-add.ensures.added ∙ ap (λ s. with_range s c.args.part.from c.args.part.to) c.begin.ensures)

pub returns-in_ok-add-clause-counted : goal.returns-in_ok-add-clause-counted
returns-in_ok-add-clause-counted c h =
    settled_count c.args.set.now c.add.new.self c.args.part
    (c.in_ok-add.ensures.added ∙ ap (λ s. with_range s c.args.part.from c.args.part.to) c.begin.ensures) h

pub returns-else-part-clause-part : goal.returns-else-part-clause-part
returns-else-part-clause-part c host peer =
    settled_part host peer c.args.set.now c.begin.new.set c.args.part
    (c.begin.ensures ∙ sym (with_range-nothing _ c.args.part.from c.args.part.to c.if-part.false))

pub returns-else-part-clause-counted : goal.returns-else-part-clause-counted
returns-else-part-clause-counted c h =
    settled_count c.args.set.now c.begin.new.set c.args.part (c.begin.ensures ∙ sym (with_range-nothing _ c.args.part.from c.args.part.to c.if-part.false)) h
