use Rattle.std.proofs.Common.{◌≡◌, ◌+◌, ◌++◌, map, take}
use Rattle.arrayvec.specs.ArrayVec.{array_vec_len}
use Rattle.homa_plain.specs.Text.{call_word}
use Rattle.written_lines.specs.Written.{word_text}
use Rattle.homa_text.proofs.entry_words.push_calls.Given as goal

-- the calls so far were added
abbrev pub invariant-loop-inc : goal.invariant-loop-inc
invariant-loop-inc l = record {
  texts : map word_text l.list.items ≡ map word_text l.fn.list.items ++ map call_word (take l.inc-index l.calls);
  len : array_vec_len l.list ≡ array_vec_len l.fn.list + l.inc-index;
}
