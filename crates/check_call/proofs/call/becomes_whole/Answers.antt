use Rattle.std.specs.Option.{option_map}
use Rattle.check_call.specs.Kept.{part_of}
use Rattle.check_call.proofs.CallLaws.{whole_then, whole_else}
use Rattle.check_call.proofs.call.becomes_whole.Goals as goal

pub returns-then-not-is_whole : goal.returns-then-not-is_whole
returns-then-not-is_whole c host peer set id h k =
    whole_then id (option_map (part_of host peer set) c.args.before) (part_of host peer set c.args.after) c.is_whole.result
    c.is_whole-then-not-is_whole.result (c.is_whole.ensures host peer set h) c.if-not-is_whole.true (c.is_whole-then-not-is_whole.ensures host peer set k)

pub returns-else-not-is_whole : goal.returns-else-not-is_whole
returns-else-not-is_whole c host peer set id h k =
    whole_else id (option_map (part_of host peer set) c.args.before) (part_of host peer set c.args.after) c.is_whole.result
    (c.is_whole.ensures host peer set h) c.if-not-is_whole.false
