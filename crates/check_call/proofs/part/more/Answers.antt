use Rattle.std.proofs.Common.{◌∙◌, ap, ◌+◌}
use Rattle.trace_rules.specs.Parts as plain
use Rattle.check_call.proofs.part.more.Goals as goal

pub returns-clause-part : goal.returns-clause-part
returns-clause-part c host peer h =
    c.grown.ensures.part host peer (c.part_or.ensures.counted c.args.set.now h)
    ∙ ap (plain.grown c.args.arrival.place c.args.arrival.offset (c.args.arrival.offset + c.args.arrival.len)) (c.part_or.ensures.part host peer c.args.set.now)
