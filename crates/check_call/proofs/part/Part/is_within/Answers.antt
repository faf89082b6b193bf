use Rattle.check_call.specs.Kept.{part_of}
use Rattle.check_call.proofs.PartLaws.{within_if, within_else}
use Rattle.check_call.proofs.part.Part.is_within.Goals as goal

pub returns-then-not-is_message : goal.returns-then-not-is_message
returns-then-not-is_message c host peer set e =
    within_if c.args.window (part_of host peer set c.args.self) c.is_message.result (c.is_message.ensures host peer set e) c.if-not-is_message.true

pub returns-else-not-is_message : goal.returns-else-not-is_message
returns-else-not-is_message c host peer set e =
    within_else c.args.window (part_of host peer set c.args.self) c.is_message.result _ (c.is_message.ensures host peer set e) c.if-not-is_message.false
    (cc)
