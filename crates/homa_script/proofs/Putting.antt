-- Lines that are written one after another.
use Rattle.std.proofs.Common.{◌≡◌, ◌<◌, ℕ, suc, Option, List, ◌++◌, length, take, drop, get_or, ap, sym, ◌∙◌, append_assoc}
use Rattle.std.specs.Prelude.{codes}
use Rattle.std.specs.List.{flat_map, zip}
use Rattle.std.proofs.lemmas.List.{take-map}
use Rattle.std.proofs.lemmas.List.Folds.{flat_map-map}
use Rattle.homa_io.specs.Outside.{appended, TookFront}
use Rattle.homa_plain.specs.declared.settings.Settings.{Settings}
use Rattle.homa_plain.specs.declared.settings.Name.{Name}
use Rattle.homa_plain.specs.Settings.{setting}
use Rattle.homa_plain.specs.Text.{settings_numbers, told_numbers}
use Rattle.homa_plain.specs.Script.{names, setting_text, settings_text}
use Rattle.homa_script.specs.Named.{named_text}
use Rattle.homa_io.proofs.Fronts.{front_after}
use Rattle.written_lines.proofs.Putting.{front_more}
use Rattle.written_lines.proofs.Texts.{flat_map-split}

-- a front of the next line was taken
pub took_line : {X : Type 0} (f : X → List ℕ) (xs : List X) (i : ℕ) (d : X) (old mid new : Option (List ℕ)) → i < length xs
    → mid ≡ appended old (flat_map f (take i xs)) → TookFront mid new (f (get_or xs i d)) → TookFront old new (flat_map f xs)
took_line {X} f xs i d old mid new h e t =
    front_more old new (flat_map f (take i xs) ++ f (get_or xs i d)) (flat_map f (drop (suc i) xs)) (flat_map f xs)
    (front_after old mid new (flat_map f (take i xs)) (f (get_or xs i d)) e t)
    (append_assoc (flat_map f (take i xs)) (f (get_or xs i d)) (flat_map f (drop (suc i) xs)) ∙ flat_map-split f xs i d h)

-- the lines of the first n settings
abbrev pub first_settings : Settings → ℕ → List ℕ
first_settings s n = flat_map (named_text s) (take n names)

-- they are the lines of the first n numbers
first_numbers : (s : Settings) (n : ℕ) → first_settings s n ≡ flat_map setting_text (take n (zip names (settings_numbers s)))
first_numbers s n =
    sym (ap (flat_map setting_text) (take-map (λ (name : Name). (name, setting s name)) n names)
    ∙ flat_map-map setting_text (λ (name : Name). (name, setting s name)) (take n names))

-- with `go` they are the text of the settings, where as many are told
pub whole_text : (s : Settings) (n : ℕ) → n ≡ told_numbers s → first_settings s n ++ codes "go\n" ≡ settings_text s
unfolding settings_text
whole_text s n e =
    ap (λ (l : List ℕ). l ++ codes "go\n")
    (first_numbers s n ∙ ap (λ (k : ℕ). flat_map setting_text (take k (zip names (settings_numbers s)))) e)

-- a front of the settings that are told was taken
pub took_settings : (s : Settings) (n : ℕ) (old new : Option (List ℕ)) → n ≡ told_numbers s → TookFront old new (first_settings s n)
    → TookFront old new (settings_text s)
took_settings s n old new e t = front_more old new (first_settings s n) (codes "go\n") (settings_text s) t (whole_text s n e)
