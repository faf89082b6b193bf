-- The parts of a text.
use Rattle.std.proofs.Common.{◌≡◌, ◌<◌, ℕ, ◌+◌, ◌-◌, ◌==◌, Bool, true, false, cond, not, Option, None, Some, is_some, option_map, List, [], ◌∷◌}
use Rattle.std.proofs.Common.{length, take, drop, refl, sym, ap, ◌∙◌, arith}
use Rattle.std.specs.List.{slice_split, onto_first, position_or_len}
use Rattle.std.proofs.lemmas.Bool.{false_from_ne_true}
use Rattle.std.proofs.lemmas.List.{take_rest}
use Rattle.std.proofs.lemmas.List.Splits.{slice_split_none, slice_split_first}
use Rattle.std.proofs.lemmas.List.Sums.{fails_before_first, position_or_len_is}
use Rattle.memchr.specs.Find.{Nowhere, NoneBefore, Passes}
use Rattle.check_words.specs.Fields.{parts, is_empty}
use Rattle.check_words.specs.FieldsLeft.{parts_left}

abbrev is : ℕ → ℕ → Bool
is separator b = b == separator

-- a text always has a part
empty_by : (t : Bool) (b : ℕ) (rest : List (List ℕ)) → is_empty (cond t ([] ∷ rest) (onto_first b rest)) ≡ false
empty_by true b rest = refl
empty_by false b [] = refl
empty_by false b (part ∷ rest) = refl

pub is_empty-parts : (separator : ℕ) (text : List ℕ) → is_empty (parts separator text) ≡ false
is_empty-parts separator [] = refl
is_empty-parts separator (b ∷ text) = empty_by (is separator b) b (slice_split (is separator) text)

-- no word is left where no text is
pub is_empty-left : {A : Type 0} (separator : ℕ) (text_of : A → List ℕ) (rest : Option A) (none : Bool) → is_some rest ≡ not none
    → none ≡ is_empty (parts_left separator (option_map text_of rest))
is_empty-left separator text_of None true e = refl
is_empty-left separator text_of None false e = absurd cc
is_empty-left separator text_of (Some x) true e = absurd cc
is_empty-left separator text_of (Some x) false e = sym (is_empty-parts separator (text_of x))

-- no separator stands in it
pub parts-one : (separator : ℕ) (text : List ℕ) → Nowhere (Passes (is separator) text) 0 (length text) → parts separator text ≡ text ∷ []
parts-one separator text none =
    let past = position_or_len_is (is separator) text (length text) 0 (omega arith) (λ k l. false_from_ne_true _ (none k (omega arith) l))
    (λ l. absurd (omega arith)) in
    slice_split_none (is separator) text (λ k d within. fails_before_first (is separator) text k d (omega (arith, past)))

-- the first separator stands at i
pub parts-more : (separator : ℕ) (text : List ℕ) (i : ℕ) → NoneBefore (Passes (is separator) text) 0 (length text) i × Passes (is separator) text i
    → parts separator text ≡ take i text ∷ parts separator (take (length text - (i + 1)) (drop (i + 1) text))
parts-more separator text i first =
    let same = position_or_len_is (is separator) text i 0 (omega (arith, first.0.high))
    (λ k l. false_from_ne_true _ (first.0.before k (omega arith) l)) (λ l. first.1) in
    let within : position_or_len (is separator) text < length text = omega (arith, same, first.0.high) in
    rw (take_rest text (i + 1))
    (slice_split_first (is separator) text 0 within ∙ ap (λ (k : ℕ). take k text ∷ slice_split (is separator) (drop (k + 1) text)) same)
