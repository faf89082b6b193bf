-- The text of a word.
use Rattle.std.specs.Prelude.{ℕ, List, ◌∷◌}
use Rattle.std.specs.Fmt.{decimal}
use Rattle.homa_plain.specs.Text.{hex_word, host_word, id_word, route_word, call_word}
use Rattle.written_lines.specs.declared.written.Word.{Word}
use Rattle.written_lines.specs.declared.written.Word.TheVariants.{Text, Number, Hex, Host, Id, Route, Call}

-- the text of a word
abbrev pub word_text : Word → List ℕ
word_text (Text bytes) = bytes.now
word_text (Number n) = decimal n
word_text (Hex bytes) = hex_word bytes.now
word_text (Host host) = host_word host
word_text (Id id) = id_word id
word_text (Route from to) = route_word from to
word_text (Call inc seq) = call_word (inc, seq)

-- a word after a space
abbrev pub spaced_word : Word → List ℕ
spaced_word word = 32 ∷ word_text word
