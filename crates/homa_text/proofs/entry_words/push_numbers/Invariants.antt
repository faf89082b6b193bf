use Rattle.std.proofs.Common.{◌≡◌, ◌+◌, ◌++◌, map, take}
use Rattle.std.specs.Fmt.{decimal}
use Rattle.arrayvec.specs.ArrayVec.{array_vec_len}
use Rattle.written_lines.specs.Written.{word_text}
use Rattle.homa_text.proofs.entry_words.push_numbers.Given as goal

-- the numbers so far were added
abbrev pub invariant-loop-n : goal.invariant-loop-n
invariant-loop-n l = record {
  texts : map word_text l.list.items ≡ map word_text l.fn.list.items ++ map decimal (take l.n-index l.numbers);
  len : array_vec_len l.list ≡ array_vec_len l.fn.list + l.n-index;
}
