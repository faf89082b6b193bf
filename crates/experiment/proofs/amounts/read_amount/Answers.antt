-- The first amount that the word names.
use Rattle.std.proofs.Common.{◌≡◌, Option, None, Some, refl, sym, ◌∙◌, rules, tests}
use Rattle.std.specs.Str.{bytes_eq}
use Rattle.std.specs.Option.{option_map}
use Rattle.std.proofs.lemmas.Iterator.{YieldsList-from_slice}
use Rattle.std.proofs.lemmas.Iterator.Consumers.{YieldsList-from_copied}
use Rattle.std.proofs.lemmas.Iterator.Search.{find_from_yields_List}
use Rattle.experiment.specs.declared.amounts.Amount.{Amount}
use Rattle.experiment.specs.Amounts.{amount_word, amounts}
use Rattle.experiment.proofs.amounts.read_amount.Goals as goal

same_option : (o : Option Amount) → option_map (λ x. x) o ≡ o
same_option None = refl
same_option (Some x) = refl

pub returns : goal.returns
returns c =
    let word = c.args.word.now in
    let found = find_from_yields_List (λ amount. bytes_eq word (amount_word amount)) _ _ c.find.result c.find.ensures.ran
    (YieldsList-from_copied (YieldsList-from_slice amounts cc)) (λ x b q k. search (rules, tests)) in
    sym (same_option c.find.result) ∙ found
