-- The line of the settings: what is read is told so, and what is told is read so.
use Rattle.std.proofs.Common.{◌≡◌, ◌<◌, ◌^◌, ℕ, zero, suc, ◌==◌, cond, if◌then◌else◌, Bool, true, false, Option, None, Some, List, [], ◌∷◌, ◌++◌, map}
use Rattle.std.proofs.Common.{length, take, decimal, slice_index, refl, sym, ap, ◌∙◌, subst, arith}
use Rattle.std.specs.List.{AllByRecursion}
use Rattle.std.proofs.lemmas.Bool.{eqb-true}
use Rattle.std.proofs.lemmas.List.FromFn.{fill_by_all}
use Rattle.std.proofs.lemmas.Option.{none-some}
use Rattle.homa_plain.specs.Bytes.{◌>>=◌}
use Rattle.homa_plain.specs.Text.{settings_numbers, told_numbers}
use Rattle.homa_plain.specs.declared.settings.Settings.{Settings}
use Rattle.homa_plain.proofs.WireFields.{bind_some, some_is}
use Rattle.check_words.specs.Fields.{number_below, number_at, times, is_empty, ended}
use Rattle.check_reader.specs.Forms.{last_two_in, with_numbers, settings_in}
use Rattle.check_words.proofs.Readers.{Reads, ArePlain, ArePlain-map, reads_times}
use Rattle.check_reader.proofs.WordLaws.{reads_number, reads_numbers, wide32}

abbrev Small : ℕ → Type 0
Small n = n < 2 ^ 32

reads_small : Reads (number_at (2 ^ 32)) (λ n. decimal n ∷ []) Small
reads_small = reads_numbers (2 ^ 32) wide32

-- ---- the last two

-- those of the last two that are told
abbrev last_told : ℕ × ℕ → List ℕ
last_told both = if both.1 == 1 then (if both.0 == 0 then [] else both.0 ∷ []) else both.0 ∷ both.1 ∷ []

abbrev TellsLast : List (List ℕ) → ℕ × ℕ → Type 0
TellsLast words both = (words ≡ map decimal (last_told both)) × (Small both.0 × Small both.1)

not_one : (wire : ℕ) (t : Bool) (both pair : ℕ × ℕ) → (wire == 1) ≡ t → cond t None (Some pair) ≡ Some both → ((wire == 1) ≡ false) × (pair ≡ both)
not_one wire true both pair e f = absurd (none-some both f)
not_one wire false both pair e f = (e, some_is pair both f)

two_told : (words : List (List ℕ)) (skew wire : ℕ) → (wire == 1) ≡ false → words ≡ decimal skew ∷ decimal wire ∷ []
    → words ≡ map decimal (last_told (skew, wire))
two_told words skew wire other line = rw other line

one_told : (words : List (List ℕ)) (skew : ℕ) → (skew == 0) ≡ false → words ≡ decimal skew ∷ [] → words ≡ map decimal (last_told (skew, 1))
one_told words skew other line = rw other line

ended_pair : (pair both : ℕ × ℕ) (rest : List (List ℕ)) → ended pair rest ≡ Some both → (rest ≡ []) × (pair ≡ both)
ended_pair pair both [] e = (refl, some_is pair both e)
ended_pair pair both (word ∷ words) e = absurd (none-some both e)

-- behind `skew`
abbrev behind_skew : ℕ → List (List ℕ) → Option (ℕ × ℕ)
behind_skew skew rest =
    if is_empty rest then (if skew == 0 then None else Some (skew, 1))
    else (number_at (2 ^ 32) rest >>= λ wire. ended (skew, wire.0) wire.1 >>= λ both. if both.1 == 1 then None else Some both)

skew_takes : (words : List (List ℕ)) (skew : ℕ) (rest : List (List ℕ)) (both : ℕ × ℕ) → words ≡ decimal skew ∷ rest → Small skew
    → behind_skew skew rest ≡ Some both → TellsLast words both
skew_takes words skew [] both line fits e =
    let g = not_zero (skew == 0) refl e in
    subst (TellsLast words) g.1 (one_told words skew g.0 line, (fits, omega arith))
  where
    not_zero : (t : Bool) → (skew == 0) ≡ t → cond t None (Some (skew, 1)) ≡ Some both → ((skew == 0) ≡ false) × ((skew, 1) ≡ both)
    not_zero true e f = absurd (none-some both f)
    not_zero false e f = (e, some_is (skew, 1) both f)
skew_takes words skew (word ∷ others) both line fits e =
    let a = bind_some (number_at (2 ^ 32) (word ∷ others)) _ both e in
    let b = bind_some (ended (skew, a.0.0) a.0.1) _ both a.2 in
    let last = ended_pair (skew, a.0.0) b.0 a.0.1 b.1 in
    let wire : a.0.0 ≡ b.0.1 = ap (λ (p : ℕ × ℕ). p.1) last.1 in
    let g = not_one b.0.1 (b.0.1 == 1) both b.0 refl b.2 in
    let took = reads_small.takes (word ∷ others) a.0.0 a.0.1 a.1 in
    let other : (a.0.0 == 1) ≡ false = ap (λ (n : ℕ). n == 1) wire ∙ g.0 in
    let all : words ≡ decimal skew ∷ decimal a.0.0 ∷ [] =
    line ∙ ap (λ (ws : List (List ℕ)). decimal skew ∷ ws) (took.0 ∙ ap (λ (ws : List (List ℕ)). decimal a.0.0 ∷ ws) last.0) in
    subst (TellsLast words) (last.1 ∙ g.1) (two_told words skew a.0.0 other all, (fits, took.1))

last_takes : (words : List (List ℕ)) (both : ℕ × ℕ) → last_two_in words ≡ Some both → TellsLast words both
unfolding last_two_in
last_takes [] both e = subst (TellsLast []) (some_is (0, 1) both e) (refl, (omega arith, omega arith))
last_takes (word ∷ words) both e =
    let a = bind_some (number_at (2 ^ 32) (word ∷ words)) _ both e in
    let took = reads_small.takes (word ∷ words) a.0.0 a.0.1 a.1 in
    skew_takes (word ∷ words) a.0.0 a.0.1 both took.0 took.1 a.2

last_again : (skew wire : ℕ) → Small skew → Small wire → last_two_in (map decimal (last_told (skew, wire))) ≡ Some (skew, wire)
unfolding last_two_in
last_again skew wire s w = by_tests (wire == 1) (skew == 0) refl refl
  where
    by_tests : (t u : Bool) → (wire == 1) ≡ t → (skew == 0) ≡ u → last_two_in (map decimal (cond t (cond u [] (skew ∷ [])) (skew ∷ wire ∷ []))) ≡ Some
        (skew, wire)
    by_tests true true e f =
        let one : wire ≡ 1 = eqb-true wire 1 e in
        let none : skew ≡ 0 = eqb-true skew 0 f in
        rw (one, none) refl
    by_tests true false e f =
        let one : wire ≡ 1 = eqb-true wire 1 e in
        rw (reads_small.again skew [] s, f, one) refl
    by_tests false u e f = rw (reads_small.again skew (decimal wire ∷ []) s, reads_small.again wire [] w, e) refl

-- ---- the first thirteen

abbrev thirteen : List ℕ → List ℕ
thirteen ns =
    slice_index ns 0 ∷ slice_index ns 1 ∷ slice_index ns 2 ∷ slice_index ns 3 ∷ slice_index ns 4 ∷ slice_index ns 5 ∷ slice_index ns 6 ∷
    slice_index ns 7 ∷ slice_index ns 8 ∷ slice_index ns 9 ∷ slice_index ns 10 ∷ slice_index ns 11 ∷ slice_index ns 12 ∷ []

thirteen_is : (ns : List ℕ) → length ns ≡ 13 → thirteen ns ≡ ns
thirteen_is ns len = sym (fill_by_all (λ k. slice_index ns k) ns 13 0 len (λ k within. refl))

told_by : (ns : List ℕ) (skew wire : ℕ) (t u : Bool) → length ns ≡ 13
    → map decimal (take (if t then (if u then 13 else 14) else 15) (thirteen ns ++ skew ∷ wire ∷ [])) ≡ map decimal ns
    ++ map decimal (if t then (if u then [] else skew ∷ []) else skew ∷ wire ∷ [])
told_by ns skew wire true true len = ap (λ (xs : List ℕ). map decimal xs ++ []) (thirteen_is ns len)
told_by ns skew wire true false len = ap (λ (xs : List ℕ). map decimal xs ++ decimal skew ∷ []) (thirteen_is ns len)
told_by ns skew wire false u len = ap (λ (xs : List ℕ). map decimal xs ++ decimal skew ∷ decimal wire ∷ []) (thirteen_is ns len)

-- each number is that of its setting
numbers_are : (ns : List ℕ) (both : ℕ × ℕ) → length ns ≡ 13 → settings_numbers (with_numbers ns both) ≡ thirteen ns ++ both.0 ∷ both.1 ∷ []
numbers_are ns both len = ap (λ (xs : List ℕ). settings_numbers (with_numbers xs both)) (sym (thirteen_is ns len))

told_is : (ns : List ℕ) (both : ℕ × ℕ) → length ns ≡ 13
    → map decimal (take (told_numbers (with_numbers ns both)) (settings_numbers (with_numbers ns both))) ≡ map decimal ns ++ map decimal (last_told both)
told_is ns both len =
    ap (λ (xs : List ℕ). map decimal (take (told_numbers (with_numbers ns both)) xs)) (numbers_are ns both len)
    ∙ told_by ns both.0 both.1 (both.1 == 1) (both.0 == 0) len

all_append : (xs ys : List ℕ) → AllByRecursion Small xs → AllByRecursion Small ys → AllByRecursion Small (xs ++ ys)
all_append [] ys h k = k
all_append (x ∷ xs) ys h k = (h.0, all_append xs ys h.1 k)

all_front : (xs ys : List ℕ) → AllByRecursion Small (xs ++ ys) → AllByRecursion Small xs × AllByRecursion Small ys
all_front [] ys h = (tt, h)
all_front (x ∷ xs) ys h = let rest = all_front xs ys h.1 in ((h.0, rest.0), rest.1)

all_take : (n : ℕ) (xs : List ℕ) → AllByRecursion Small xs → AllByRecursion Small (take n xs)
all_take zero [] h = tt
all_take (suc n) [] h = tt
all_take zero (x ∷ xs) h = tt
all_take (suc n) (x ∷ xs) h = (h.0, all_take n xs h.1)

-- ---- settings

abbrev TellsSettings : List (List ℕ) → Settings → Type 0
TellsSettings words s = (words ≡ map decimal (take (told_numbers s) (settings_numbers s))) × AllByRecursion Small (settings_numbers s)

reads_first : Reads (times (number_at (2 ^ 32)) 13) (λ ns. map decimal ns) (λ ns. (length ns ≡ 13) × AllByRecursion Small ns)
reads_first = reads_times (number_below (2 ^ 32)) decimal Small (reads_number (2 ^ 32) wide32) 13

with_told : (words : List (List ℕ)) (ns : List ℕ) (both : ℕ × ℕ) → length ns ≡ 13 → AllByRecursion Small ns → Small both.0 → Small both.1
    → words ≡ map decimal ns ++ map decimal (last_told both) → TellsSettings words (with_numbers ns both)
with_told words ns both len fits s w line = (
  line ∙ sym (told_is ns both len),
  subst (AllByRecursion Small) (sym (numbers_are ns both len))
      (all_append (thirteen ns) (both.0 ∷ both.1 ∷ []) (subst (AllByRecursion Small) (sym (thirteen_is ns len)) fits) (s, (w, tt))),
)

pub settings_takes : (words : List (List ℕ)) (s : Settings) → settings_in words ≡ Some s → TellsSettings words s
unfolding settings_in
settings_takes words s e =
    let a = bind_some (times (number_at (2 ^ 32)) 13 words) _ s e in
    let b = bind_some (last_two_in a.0.1) _ s a.2 in
    let first = reads_first.takes words a.0.0 a.0.1 a.1 in
    let last = last_takes a.0.1 b.0 b.1 in
    let line : words ≡ map decimal a.0.0 ++ map decimal (last_told b.0) = first.0 ∙ ap (λ (ws : List (List ℕ)). map decimal a.0.0 ++ ws) last.0 in
    subst (TellsSettings words) (some_is (with_numbers a.0.0 b.0) s b.2) (with_told words a.0.0 b.0 first.1.0 first.1.1 last.1.0 last.1.1 line)

abbrev first_numbers : Settings → List ℕ
first_numbers s = take 13 (settings_numbers s)

pub settings_again : (s : Settings) → AllByRecursion Small (settings_numbers s)
    → settings_in (map decimal (take (told_numbers s) (settings_numbers s))) ≡ Some s
unfolding settings_in
settings_again s fits =
    let parts = all_front (first_numbers s) (s.skew ∷ s.wire ∷ []) fits in
    ap settings_in (told_is (first_numbers s) (s.skew, s.wire) refl)
    ∙ rw (reads_first.again (first_numbers s) (map decimal (last_told (s.skew, s.wire))) (refl, parts.0), last_again s.skew s.wire parts.1.0 parts.1.1.0) refl

pub settings_plain : (s : Settings) → AllByRecursion Small (settings_numbers s) → ArePlain (map decimal (take (told_numbers s) (settings_numbers s)))
settings_plain s fits = ArePlain-map (number_below (2 ^ 32)) decimal Small (reads_number (2 ^ 32) wide32) (take (told_numbers s) (settings_numbers s))
    (all_take (told_numbers s) (settings_numbers s) fits)
