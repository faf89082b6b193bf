-- The first of all that the word says.
use Rattle.std.proofs.Common.{◌≡◌, Option, None, Some, refl, sym, ◌∙◌, rules, tests}
use Rattle.std.specs.Str.{bytes_eq}
use Rattle.std.specs.Option.{option_map}
use Rattle.std.proofs.lemmas.Iterator.{YieldsList-from_slice}
use Rattle.std.proofs.lemmas.Iterator.Consumers.{YieldsList-from_copied}
use Rattle.std.proofs.lemmas.Iterator.Search.{find_from_yields_List}
use Rattle.experiment.specs.declared.verbs.Verb.{Verb}
use Rattle.experiment.specs.Verbs.{verb_word, verbs}
use Rattle.experiment.proofs.verbs.read_verb.Goals as goal

same_option : (o : Option Verb) → option_map (λ x. x) o ≡ o
same_option None = refl
same_option (Some x) = refl

pub returns : goal.returns
returns c =
    let word = c.args.word.now in
    let found = find_from_yields_List (λ verb. bytes_eq word (verb_word verb)) _ _ c.find.result c.find.ensures.ran
    (YieldsList-from_copied (YieldsList-from_slice verbs cc)) (λ x b q k. search (rules, tests)) in
    sym (same_option c.find.result) ∙ found
