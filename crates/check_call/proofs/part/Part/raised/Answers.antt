use Rattle.std.proofs.Common.{sym, ◌∙◌}
use Rattle.check_call.proofs.PartLaws.{raised_part, not_raised}
use Rattle.check_call.proofs.part.Part.raised.Goals as goal

pub returns-then-not-is_message-clause-part : goal.returns-then-not-is_message-clause-part
returns-then-not-is_message-clause-part c host peer set e =
    not_raised host peer set c.args.self c.args.offset (sym (c.is_message.ensures host peer set e) ∙ c.if-not-is_message.true)

pub returns-clause-part : goal.returns-clause-part
returns-clause-part c host peer set e =
    raised_part host peer set c.args.self c.args.offset c.max.result (sym (c.is_message.ensures host peer set e) ∙ c.if-not-is_message.false) c.max.ensures
