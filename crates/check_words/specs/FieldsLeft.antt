-- The words that a reader has left.
use Rattle.std.specs.Prelude.{ℕ, Option, None, Some, List, [], length}
use Rattle.std.specs.Option.{option_map}
use Rattle.check_words.specs.declared.fields.Fields.{Fields}
use Rattle.check_words.specs.declared.fields.Separator.{Separator}
use Rattle.check_words.specs.declared.fields.Separator.TheVariants.{Space, Dot, Arrow}
use Rattle.check_words.specs.Fields.{parts}

-- the byte that stands between two words
abbrev pub byte_of : Separator → ℕ
byte_of Space = 32
byte_of Dot = 46
byte_of Arrow = 62

-- the parts of the text that is left, if one is
abbrev pub parts_left : ℕ → Option (List ℕ) → List (List ℕ)
parts_left separator None = []
parts_left separator (Some text) = parts separator text

-- the words
abbrev pub left : Fields → List (List ℕ)
left fields = parts_left (byte_of fields.separator) (option_map (λ text. text.now) fields.rest)

-- how long the text is, if one is left
abbrev pub length_or_none : Option (List ℕ) → ℕ
length_or_none None = 0
length_or_none (Some text) = length text

-- how many bytes they have, with the separators between them
abbrev pub size : Fields → ℕ
size fields = length_or_none (option_map (λ text. text.now) fields.rest)
