-- Readers of words, and what they read: a value that is read has those words, and the words of a value are read as it.
use Rattle.std.proofs.Common.{◌≡◌, ◌<◌, ℕ, zero, suc, ◌==◌, cond, Bool, true, false, Option, Some, List, [], ◌∷◌, ◌++◌, map, length, bytes_eq, refl}
use Rattle.std.proofs.Common.{sym, ap, ◌∙◌, subst, append_assoc, append-nil, arith}
use Rattle.std.specs.List.{AllByRecursion, join_with_byte, list_any, All}
use Rattle.std.proofs.lemmas.Bool.Decides.{nat_tests}
use Rattle.std.proofs.lemmas.List.Elements.{All-nil, All-cons}
use Rattle.std.proofs.lemmas.List.Splits.{slice_split_none, slice_split_at, join_with_byte-slice_split}
use Rattle.std.proofs.lemmas.Option.{none-some}
use Rattle.std.proofs.lemmas.Slice.Eq.{bytes_eq-Decides}
use Rattle.homa_plain.proofs.WireFields.{bind_some, given, some_is}
use Rattle.check_words.specs.Fields.{word_at, ◌⊗◌, with_value, times, ended, whole, one_of, parts}
use Rattle.check_words.proofs.NumberWords.{HasNo, HasNoBlank, is_blank, or_parts, blank-no}

-- in each of these words no blank stands
abbrev pub ArePlain : List (List ℕ) → Type 0
ArePlain words = AllByRecursion HasNoBlank words

ArePlain-append : (xs ys : List (List ℕ)) → ArePlain xs → ArePlain ys → ArePlain (xs ++ ys)
ArePlain-append [] ys h k = k
ArePlain-append (x ∷ xs) ys h k = (h.0, ArePlain-append xs ys h.1 k)

-- a reader of one word, the word that it reads, and the values that it answers
pub record ReadsWord {A : Type 0} (value_of : List ℕ → Option A) (word_of : A → List ℕ) (P : A → Type 0) : Type 0 where
  pub takes : (word : List ℕ) (x : A) → value_of word ≡ Some x → (word_of x ≡ word) × P x
  pub again : (x : A) → P x → value_of (word_of x) ≡ Some x
  pub plain : (x : A) → P x → HasNoBlank (word_of x)

-- a reader of words, the words that it reads, and the values that it answers
pub record Reads {A : Type 0} (read : List (List ℕ) → Option (A × List (List ℕ))) (words_of : A → List (List ℕ)) (P : A → Type 0) : Type 0 where
  pub takes : (words : List (List ℕ)) (x : A) (rest : List (List ℕ)) → read words ≡ Some (x, rest) → (words ≡ words_of x ++ rest) × P x
  pub again : (x : A) (rest : List (List ℕ)) → P x → read (words_of x ++ rest) ≡ Some (x, rest)
  pub plain : (x : A) → P x → ArePlain (words_of x)

-- ---- one word

word_takes : {A : Type 0} (value_of : List ℕ → Option A) (word_of : A → List ℕ) (P : A → Type 0) → ReadsWord value_of word_of P
    → (words : List (List ℕ)) (x : A) (rest : List (List ℕ)) → word_at value_of words ≡ Some (x, rest) → (words ≡ word_of x ∷ rest) × P x
word_takes value_of word_of P reads [] x rest e = absurd (none-some (x, rest) e)
word_takes {A} value_of word_of P reads (word ∷ words) x rest e =
    let a = bind_some (value_of word) _ (x, rest) e in
    let same = some_is (a.0, words) (x, rest) a.2 in
    let value : a.0 ≡ x = ap (λ (p : A × List (List ℕ)). p.0) same in
    let others : words ≡ rest = ap (λ (p : A × List (List ℕ)). p.1) same in
    let took = reads.takes word x (a.1 ∙ ap given value) in
    (rw (took.0, others) refl, took.1)

pub reads_word : {A : Type 0} (value_of : List ℕ → Option A) (word_of : A → List ℕ) (P : A → Type 0) → ReadsWord value_of word_of P
    → Reads (word_at value_of) (λ x. word_of x ∷ []) P
reads_word value_of word_of P reads = record {
  takes = word_takes value_of word_of P reads;
  again = λ x rest fits. rw (reads.again x fits) refl;
  plain = λ x fits. (reads.plain x fits, tt);
}

-- ---- one value behind the other

pub reads_both : {A B : Type 0} (first : List (List ℕ) → Option (A × List (List ℕ))) (second : List (List ℕ) → Option (B × List (List ℕ)))
    (s : A → List (List ℕ)) (t : B → List (List ℕ)) (P : A → Type 0) (Q : B → Type 0) → Reads first s P → Reads second t Q
    → Reads (first ⊗ second) (λ x. s x.0 ++ t x.1) (λ x. P x.0 × Q x.1)
reads_both {A} {B} first second s t P Q r q =
    record { takes = both_takes; again = both_again; plain = λ x fits. ArePlain-append (s x.0) (t x.1) (r.plain x.0 fits.0) (q.plain x.1 fits.1) }
  where
    both_takes : (words : List (List ℕ)) (x : A × B) (rest : List (List ℕ)) → (first ⊗ second) words ≡ Some (x, rest)
        → (words ≡ (s x.0 ++ t x.1) ++ rest) × (P x.0 × Q x.1)
    both_takes words x rest e =
        let a = bind_some (first words) _ (x, rest) e in
        let b = bind_some (second a.0.1) _ (x, rest) a.2 in
        let same = some_is ((a.0.0, b.0.0), b.0.1) (x, rest) b.2 in
        let left = r.takes words a.0.0 a.0.1 a.1 in
        let right = q.takes a.0.1 b.0.0 b.0.1 b.1 in
        let line : words ≡ (s a.0.0 ++ t b.0.0) ++ b.0.1 =
        left.0 ∙ ap (λ (ws : List (List ℕ)). s a.0.0 ++ ws) right.0 ∙ sym (append_assoc (s a.0.0) (t b.0.0) b.0.1) in
        subst (λ (y : (A × B) × List (List ℕ)). (words ≡ (s y.0.0 ++ t y.0.1) ++ y.1) × (P y.0.0 × Q y.0.1)) same (line, (left.1, right.1))

    both_again : (x : A × B) (rest : List (List ℕ)) → P x.0 × Q x.1 → (first ⊗ second) ((s x.0 ++ t x.1) ++ rest) ≡ Some (x, rest)
    both_again x rest fits =
        ap (first ⊗ second) (append_assoc (s x.0) (t x.1) rest)
        ∙ rw (r.again x.0 (t x.1 ++ rest) fits.0, q.again x.1 rest fits.1) refl

-- ---- a value that is made of what is read

pub reads_value : {A B : Type 0} (make : A → B) (parts_of : B → A) (read : List (List ℕ) → Option (A × List (List ℕ))) (s : A → List (List ℕ))
    (P : A → Type 0) → ((x : A) → parts_of (make x) ≡ x) → ((y : B) → make (parts_of y) ≡ y) → Reads read s P
    → Reads (with_value make read) (λ y. s (parts_of y)) (λ y. P (parts_of y))
reads_value {A} {B} make parts_of read s P back forth r = record { takes = value_takes; again = value_again; plain = λ y fits. r.plain (parts_of y) fits }
  where
    value_takes : (words : List (List ℕ)) (y : B) (rest : List (List ℕ)) → with_value make read words ≡ Some (y, rest)
        → (words ≡ s (parts_of y) ++ rest) × P (parts_of y)
    value_takes words y rest e =
        let a = bind_some (read words) _ (y, rest) e in
        let same = some_is (make a.0.0, a.0.1) (y, rest) a.2 in
        let took = r.takes words a.0.0 a.0.1 a.1 in
        subst (λ (z : B × List (List ℕ)). (words ≡ s (parts_of z.0) ++ z.1) × P (parts_of z.0)) same
        (subst (λ (x : A). (words ≡ s x ++ a.0.1) × P x) (sym (back a.0.0)) took)

    value_again : (y : B) (rest : List (List ℕ)) → P (parts_of y) → with_value make read (s (parts_of y) ++ rest) ≡ Some (y, rest)
    value_again y rest fits = rw (r.again (parts_of y) rest fits) (ap (λ (z : B). given (z, rest)) (forth y))

-- ---- so many values

times_takes : {A : Type 0} (value_of : List ℕ → Option A) (word_of : A → List ℕ) (P : A → Type 0) → ReadsWord value_of word_of P
    → (n : ℕ) (words : List (List ℕ)) (xs : List A) (rest : List (List ℕ)) → times (word_at value_of) n words ≡ Some (xs, rest)
    → (words ≡ map word_of xs ++ rest) × ((length xs ≡ n) × AllByRecursion P xs)
unfolding times
times_takes {A} value_of word_of P reads zero words xs rest e =
    subst (λ (y : List A × List (List ℕ)). (words ≡ map word_of y.0 ++ y.1) × ((length y.0 ≡ 0) × AllByRecursion P y.0))
    (some_is ([], words) (xs, rest) e) (refl, (refl, tt))
times_takes {A} value_of word_of P reads (suc n) words xs rest e =
    let a = bind_some (word_at value_of words) _ (xs, rest) e in
    let b = bind_some (times (word_at value_of) n a.0.1) _ (xs, rest) a.2 in
    let first = word_takes value_of word_of P reads words a.0.0 a.0.1 a.1 in
    let others = times_takes value_of word_of P reads n a.0.1 b.0.0 b.0.1 b.1 in
    let line : words ≡ word_of a.0.0 ∷ (map word_of b.0.0 ++ b.0.1) = first.0 ∙ ap (λ (ws : List (List ℕ)). word_of a.0.0 ∷ ws) others.0 in
    subst (λ (y : List A × List (List ℕ)). (words ≡ map word_of y.0 ++ y.1) × ((length y.0 ≡ suc n) × AllByRecursion P y.0))
    (some_is (a.0.0 ∷ b.0.0, b.0.1) (xs, rest) b.2) (line, (ap suc others.1.0, (first.1, others.1.1)))

times_again : {A : Type 0} (value_of : List ℕ → Option A) (word_of : A → List ℕ) (P : A → Type 0) → ReadsWord value_of word_of P
    → (n : ℕ) (xs : List A) (rest : List (List ℕ)) → length xs ≡ n → AllByRecursion P xs → times (word_at value_of) n (map word_of xs ++ rest) ≡ Some (xs, rest)
unfolding times
times_again value_of word_of P reads zero [] rest len fits = refl
times_again value_of word_of P reads (suc n) [] rest len fits = absurd (omega arith)
times_again value_of word_of P reads zero (x ∷ xs) rest len fits = absurd (omega arith)
times_again value_of word_of P reads (suc n) (x ∷ xs) rest len fits =
    rw (reads.again x fits.0, times_again value_of word_of P reads n xs rest (omega arith) fits.1) refl

pub ArePlain-map : {A : Type 0} (value_of : List ℕ → Option A) (word_of : A → List ℕ) (P : A → Type 0) → ReadsWord value_of word_of P → (xs : List A)
    → AllByRecursion P xs → ArePlain (map word_of xs)
ArePlain-map value_of word_of P reads [] fits = tt
ArePlain-map value_of word_of P reads (x ∷ xs) fits = (reads.plain x fits.0, ArePlain-map value_of word_of P reads xs fits.1)

pub reads_times : {A : Type 0} (value_of : List ℕ → Option A) (word_of : A → List ℕ) (P : A → Type 0) → ReadsWord value_of word_of P → (n : ℕ)
    → Reads (times (word_at value_of) n) (λ xs. map word_of xs) (λ xs. (length xs ≡ n) × AllByRecursion P xs)
reads_times value_of word_of P reads n = record {
  takes = times_takes value_of word_of P reads n;
  again = λ xs rest fits. times_again value_of word_of P reads n xs rest fits.0 fits.1;
  plain = λ xs fits. ArePlain-map value_of word_of P reads xs fits.1;
}

-- ---- no other word

none_left : {A : Type 0} (x y : A) (words : List (List ℕ)) → ended x words ≡ Some y → (words ≡ []) × (x ≡ y)
none_left x y [] e = (refl, some_is x y e)
none_left x y (word ∷ words) e = absurd (none-some y e)

-- what was read whole
pub record TookWhole {A B : Type 0} (make : A → B) (s : A → List (List ℕ)) (P : A → Type 0) (words : List (List ℕ)) (y : B) : Type 0 where
  pub value : A
  pub made : make value ≡ y
  pub words_of : words ≡ s value
  pub fits : P value

pub whole_takes : {A B : Type 0} (make : A → B) (read : List (List ℕ) → Option (A × List (List ℕ))) (s : A → List (List ℕ)) (P : A → Type 0)
    → Reads read s P → (words : List (List ℕ)) (y : B) → whole make read words ≡ Some y → TookWhole make s P words y
whole_takes make read s P r words y e =
    let a = bind_some (read words) _ y e in
    let last = none_left (make a.0.0) y a.0.1 a.2 in
    let took = r.takes words a.0.0 a.0.1 a.1 in
    record { value = a.0.0; made = last.1; words_of = took.0 ∙ ap (λ (ws : List (List ℕ)). s a.0.0 ++ ws) last.0 ∙ append-nil (s a.0.0); fits = took.1 }

pub whole_again : {A B : Type 0} (make : A → B) (read : List (List ℕ) → Option (A × List (List ℕ))) (s : A → List (List ℕ)) (P : A → Type 0)
    → Reads read s P → (x : A) → P x → whole make read (s x) ≡ Some (make x)
whole_again make read s P r x fits =
    ap (whole make read) (sym (append-nil (s x))) ∙ rw (r.again x [] fits) refl

-- ---- words of parts

AllOther : (separator : ℕ) (word : List ℕ) → HasNo separator word → All (λ b. (b == separator) ≡ false) word
AllOther separator [] h = All-nil (λ b. (b == separator) ≡ false)
AllOther separator (b ∷ bs) h =
    let p = or_parts (b == separator) (list_any (λ c. c == separator) bs) h in
    All-cons (λ c. (c == separator) ≡ false) b bs p.0 (AllOther separator bs p.1)

cons-joined : (separator : ℕ) (first : List ℕ) (words : List (List ℕ)) → AllByRecursion (HasNo separator) (first ∷ words)
    → parts separator (join_with_byte separator (first ∷ words)) ≡ first ∷ words
cons-joined separator first [] h = slice_split_none (λ b. b == separator) first (AllOther separator first h.0)
cons-joined separator first (second ∷ words) h =
    slice_split_at (λ b. b == separator) first separator (join_with_byte separator (second ∷ words)) (AllOther separator first h.0) (grind (arith, nat_tests))
    ∙ ap (λ (ws : List (List ℕ)). first ∷ ws) (cons-joined separator second words h.1)

-- words that were joined come apart again
pub parts-joined : (separator : ℕ) (words : List (List ℕ)) → 0 < length words → AllByRecursion (HasNo separator) words
    → parts separator (join_with_byte separator words) ≡ words
parts-joined separator [] some h = absurd (omega arith)
parts-joined separator (first ∷ words) some h = cons-joined separator first words h

-- no space stands in them
pub ArePlain-no : (b : ℕ) → is_blank b ≡ true → (words : List (List ℕ)) → ArePlain words → AllByRecursion (HasNo b) words
ArePlain-no b blank [] h = tt
ArePlain-no b blank (word ∷ words) h = (blank-no b blank word h.0, ArePlain-no b blank words h.1)

-- a word that is read by its parts
pub record HasParts {A B : Type 0} (separator : ℕ) (make : A → B) (parts_of : B → A) (s : A → List (List ℕ)) (P : A → Type 0)
    (word_of : B → List ℕ) : Type 0 where
  pub back : (x : A) → parts_of (make x) ≡ x
  pub forth : (y : B) → make (parts_of y) ≡ y
  pub joined : (x : A) → join_with_byte separator (s x) ≡ word_of (make x)
  pub some : (x : A) → 0 < length (s x)
  pub apart : (x : A) → P x → AllByRecursion (HasNo separator) (s x)
  pub plain : (x : A) → P x → HasNoBlank (word_of (make x))

pub reads_parts : {A B : Type 0} (separator : ℕ) (make : A → B) (parts_of : B → A) (read : List (List ℕ) → Option (A × List (List ℕ)))
    (s : A → List (List ℕ)) (P : A → Type 0) (word_of : B → List ℕ) → Reads read s P → HasParts separator make parts_of s P word_of
    → ReadsWord (λ word. whole make read (parts separator word)) word_of (λ y. P (parts_of y))
reads_parts {A} {B} separator make parts_of read s P word_of r h =
    record { takes = parts_take; again = parts_again; plain = λ y fits. rw (← h.forth y) (h.plain (parts_of y) fits) }
  where
    parts_take : (word : List ℕ) (y : B) → whole make read (parts separator word) ≡ Some y → (word_of y ≡ word) × P (parts_of y)
    parts_take word y e =
        let t = whole_takes make read s P r (parts separator word) y e in
        let line : word_of (make t.value) ≡ word =
        sym (h.joined t.value) ∙ ap (join_with_byte separator) (sym t.words_of) ∙ join_with_byte-slice_split separator word in
        let fits : P (parts_of (make t.value)) = subst P (sym (h.back t.value)) t.fits in
        subst (λ (z : B). (word_of z ≡ word) × P (parts_of z)) t.made (line, fits)

    parts_again : (y : B) → P (parts_of y) → whole make read (parts separator (word_of y)) ≡ Some y
    parts_again y fits =
        let x = parts_of y in
        let line : word_of y ≡ join_with_byte separator (s x) = ap word_of (sym (h.forth y)) ∙ sym (h.joined x) in
        ap (λ (w : List ℕ). whole make read (parts separator w)) line
        ∙ ap (whole make read) (parts-joined separator (s x) (h.some x) (h.apart x fits))
        ∙ whole_again make read s P r x fits
        ∙ ap given (h.forth y)

-- ---- words from a list

pub one_of-takes : {A : Type 0} (word_of : A → List ℕ) (P : A → Type 0) (xs : List A) (word : List ℕ) (x : A) → AllByRecursion P xs
    → one_of word_of xs word ≡ Some x → (word_of x ≡ word) × P x
one_of-takes word_of P [] word x each e = absurd (none-some x e)
one_of-takes {A} word_of P (y ∷ ys) word x each e = by_test (bytes_eq word (word_of y)) refl (λ e. one_of-takes word_of P ys word x each.1 e) e
  where
    by_test : (t : Bool) → bytes_eq word (word_of y) ≡ t → (one_of word_of ys word ≡ Some x → (word_of x ≡ word) × P x)
        → cond t (Some y) (one_of word_of ys word) ≡ Some x → (word_of x ≡ word) × P x
    by_test true t others e =
        let same = some_is y x e in
        subst (λ (z : A). (word_of z ≡ word) × P z) same (sym ((bytes_eq-Decides word (word_of y)).0 t), each.0)
    by_test false t others e = others e
