use Rattle.std.proofs.Common.{◌≡◌, ◌+◌, ◌++◌, map, take}
use Rattle.std.specs.Fmt.{decimal}
use Rattle.arrayvec.specs.ArrayVec.{array_vec_len}
use Rattle.homa_plain.specs.Settings.{setting}
use Rattle.written_lines.specs.Written.{word_text}
use Rattle.homa_text.proofs.entry_words.push_settings.Given as goal

-- the numbers of the names so far were added
abbrev pub invariant-loop-name : goal.invariant-loop-name
invariant-loop-name l = record {
  texts : map word_text l.list.items ≡ map word_text l.fn.list.items ++ map (λ name. decimal (setting l.s name)) (take l.name-index l.names);
  len : array_vec_len l.list ≡ array_vec_len l.fn.list + l.name-index;
}
