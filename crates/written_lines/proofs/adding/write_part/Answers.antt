use Rattle.std.proofs.Common.{◌∙◌}
use Rattle.written_lines.specs.Turns.{by_turns}
use Rattle.written_lines.proofs.Parts.{turns_encoded}
use Rattle.written_lines.proofs.adding.write_part.Goals as goal

pub returns : goal.returns
returns c = c.join_digits.ensures ∙ ((λ j. by_turns (c.split_digits.ensures.high j) (c.split_digits.ensures.low j)) ∙ turns_encoded c.args.bytes.now)
