use Rattle.std.proofs.Common.{rules}
use Rattle.check_words.proofs.LastWords.{hex_of-whole}
use Rattle.check_words.proofs.fields.read_last_hex.Goals as goal

pub returns-in_err-bytes : goal.returns-in_err-bytes
returns-in_err-bytes c = search (rules, hex_of-whole)

pub returns : goal.returns
returns c = search (rules, hex_of-whole)
