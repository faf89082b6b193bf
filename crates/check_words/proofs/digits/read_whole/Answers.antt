use Rattle.std.proofs.Common.{arith}
use Rattle.check_words.proofs.DigitLaws.{whole_read}
use Rattle.check_words.proofs.digits.read_whole.Goals as goal

pub returns : goal.returns
returns c =
    let values = c.read_values.new.values in
    let read =
    whole_read c.args.word.now values c.join_pairs.new.out c.args.most.now c.raise.new.most c.read_values.result 16 (omega (arith, c.requires.word))
    c.join_pairs.ensures c.read_values.ensures.values c.read_values.ensures.all c.raise.ensures.all in
    record { len = omega (arith, c.raise.ensures.len, c.requires.most); all = read.0; bytes = read.1 }
