use Rattle.std.proofs.Common.{◌∙◌, ap, not}
use Rattle.check_call.proofs.PartLaws.{message_if}
use Rattle.check_call.proofs.part.Part.is_message.Goals as goal

pub returns-then-self-gt0 : goal.returns-then-self-gt0
returns-then-self-gt0 c host peer set e = ap not (c.is_whole.ensures host peer set e) ∙ message_if host peer set c.args.self e c.if-self-gt0.true
