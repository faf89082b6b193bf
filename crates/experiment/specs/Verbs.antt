-- The first words of lines that say neither a setting nor an amount.
use Rattle.std.specs.Prelude.{ℕ, List, [], ◌∷◌, Option, None, Some, if◌then◌else◌, codes}
use Rattle.std.specs.Str.{bytes_eq}
use Rattle.experiment.specs.declared.verbs.Verb.{Verb}
use Rattle.experiment.specs.declared.verbs.Verb.TheVariants.{Workload, Size, Length, Cumulative, Card, Hot, Restart, Call, Inject, Shift}

abbrev pub verb_word : Verb → List ℕ
verb_word Workload = codes "workload"
verb_word Size = codes "size"
verb_word Length = codes "length"
verb_word Cumulative = codes "cumulative"
verb_word Card = codes "card"
verb_word Hot = codes "hot"
verb_word Restart = codes "restart"
verb_word Call = codes "call"
verb_word Inject = codes "inject"
verb_word Shift = codes "shift"

abbrev pub verbs : List Verb
verbs = Workload ∷ Size ∷ Length ∷ Cumulative ∷ Card ∷ Hot ∷ Restart ∷ Call ∷ Inject ∷ Shift ∷ []

-- what a word says
abbrev pub verb_in : List Verb → List ℕ → Option Verb
verb_in [] word = None
verb_in (verb ∷ rest) word = if bytes_eq word (verb_word verb) then Some verb else verb_in rest word
