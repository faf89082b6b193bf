use Rattle.std.proofs.Common.{◌≡◌, Option, None, Some, refl, sym, ◌∙◌, rules, tests}
use Rattle.std.specs.Str.{bytes_eq}
use Rattle.std.specs.Option.{option_map}
use Rattle.std.proofs.lemmas.Iterator.{YieldsList-from_slice}
use Rattle.std.proofs.lemmas.Iterator.Consumers.{YieldsList-from_copied}
use Rattle.std.proofs.lemmas.Iterator.Search.{find_from_yields_List}
use Rattle.homa_plain.specs.declared.settings.Name.{Name}
use Rattle.homa_plain.specs.Text.{name_word}
use Rattle.homa_plain.specs.Script.{names}
use Rattle.text_lines.proofs.name.read_name.Goals as goal

same_option : (o : Option Name) → option_map (λ x. x) o ≡ o
same_option None = refl
same_option (Some x) = refl

pub returns : goal.returns
returns c =
    let word = c.args.word.now in
    let found = find_from_yields_List (λ name. bytes_eq word (name_word name)) _ _ c.find.result c.find.ensures.ran
    (YieldsList-from_copied (YieldsList-from_slice names cc)) (λ x b q k. search (rules, tests)) in
    sym (same_option c.find.result) ∙ found
