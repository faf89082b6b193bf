use Rattle.std.proofs.Common.{length}
use Rattle.check_words.specs.Digits.{is_value}
use Rattle.check_words.proofs.DigitLaws.{part_read}
use Rattle.check_words.proofs.digits.read_part.Goals as goal

pub returns : goal.returns
returns c =
    part_read c.args.word.now c.read_values-greatest.new.values c.join_pairs.new.out (is_value c.read_values-greatest.result) (length c.args.out.now)
    c.requires.pairs c.join_pairs.ensures c.read_values-greatest.ensures.values
