use Rattle.std.proofs.Common.{◌≡◌, ◌∷◌, ◌++◌, ◌∙◌, ℕ, List, ap, sym, map, take, codes}
use Rattle.std.specs.Fmt.{decimal}
use Rattle.std.proofs.lemmas.List.{take-map}
use Rattle.homa_plain.specs.Script.{names}
use Rattle.homa_plain.specs.Settings.{setting}
use Rattle.homa_plain.specs.Text.{settings_numbers, told_numbers}
use Rattle.homa_plain.specs.declared.settings.Settings.{Settings}
use Rattle.homa_plain.specs.declared.settings.Name.{Name}
use Rattle.homa_text.proofs.entry_words.words_of_settings.Goals as goal

abbrev number_word : Settings → Name → List ℕ
number_word s name = decimal (setting s name)

-- the words of the first names are those of the first numbers
first_words : (s : Settings) (n : ℕ) → n ≡ told_numbers s → map (number_word s) (take n names) ≡ map decimal (take (told_numbers s) (settings_numbers s))
first_words s n e =
    sym (take-map (number_word s) n names) ∙ (take-map decimal n (settings_numbers s) ∙ ap (λ (k : ℕ). map decimal (take k (settings_numbers s))) e)

pub returns : goal.returns
returns c =
    let s = c.args.s.now in
    let n = c.told_settings.result in
    c.push_settings.ensures ∙ (ap (λ (l : List (List ℕ)). l ++ map (number_word s) (take n names)) c.list_of-list.ensures.texts
    ∙ ap (λ (l : List (List ℕ)). codes "settings" ∷ l) (first_words s n c.told_settings.ensures.value))
