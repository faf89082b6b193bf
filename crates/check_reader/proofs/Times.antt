-- Values that are read one behind the other.
use Rattle.std.proofs.Common.{◌≡◌, ◌<◌, ◌≤◌, ℕ, suc, ◌+◌, ◌-◌, Option, None, Some, List, [], ◌∷◌, ◌++◌, length, take, set, refl, sym, ap}
use Rattle.std.proofs.Common.{append_assoc, append-nil, length-append, arith}
use Rattle.std.proofs.lemmas.List.{take_more_set, take_all}
use Rattle.homa_plain.specs.Bytes.{◌>>=◌}
use Rattle.homa_plain.proofs.WireFields.{some_is}
use Rattle.check_words.specs.Fields.{times, word_at, call_of}
use Rattle.check_reader.specs.Bodies.{calls_in}

-- these values, and those that are read behind them
abbrev pub behind : {A : Type 0} → List A → Option (List A × List (List ℕ)) → Option (List A × List (List ℕ))
behind xs read = read >>= λ ys. Some (xs ++ ys.0, ys.1)

behind_one : {A : Type 0} (xs : List A) (x : A) (read : Option (List A × List (List ℕ)))
    → behind xs (read >>= λ ys. Some (x ∷ ys.0, ys.1)) ≡ behind (xs ++ x ∷ []) read
behind_one xs x None = refl
behind_one xs x (Some ys) = ap (λ zs. Some (zs, ys.1)) (sym (append_assoc xs (x ∷ []) ys.0))

one_more : (n i : ℕ) → i < n → n - i ≡ suc (n - (i + 1))
one_more n i within = omega arith

-- one value more was read
pub times-more : (one : List (List ℕ) → Option (ℕ × List (List ℕ))) (xs : List ℕ) (i x : ℕ) (words rest : List (List ℕ)) → i < length xs
    → one words ≡ Some (x, rest) → behind (take i xs) (times one (length xs - i) words) ≡ behind (take (i + 1) (set xs i x))
    (times one (length xs - (i + 1)) rest)
unfolding times
times-more one xs i x words rest within e =
    rw (one_more (length xs) i within, e, take_more_set xs i x within) (behind_one (take i xs) x (times one (length xs - (i + 1)) rest))

-- none was read
pub times-none : (one : List (List ℕ) → Option (ℕ × List (List ℕ))) (xs : List ℕ) (n i : ℕ) (words : List (List ℕ)) → i < n → one words ≡ None
    → behind (take i xs) (times one (n - i) words) ≡ None
unfolding times
times-none one xs n i words within e = rw (one_more n i within, e) refl

-- all were read
pub times-all : (one : List (List ℕ) → Option (ℕ × List (List ℕ))) (xs : List ℕ) (i : ℕ) (words : List (List ℕ)) → length xs ≤ i
    → behind (take i xs) (times one (length xs - i) words) ≡ Some (xs, words)
unfolding times
times-all one xs i words past =
    let none : length xs - i ≡ 0 = omega arith in
    rw (none, take_all i xs past, append-nil) refl

-- ---- calls

abbrev pub calls_behind : List (ℕ × ℕ) → Option (List (ℕ × ℕ)) → Option (List (ℕ × ℕ))
calls_behind xs read = read >>= λ ys. Some (xs ++ ys)

calls_behind_one : (xs : List (ℕ × ℕ)) (x : ℕ × ℕ) (read : Option (List (ℕ × ℕ)))
    → calls_behind xs (read >>= λ ys. Some (x ∷ ys)) ≡ calls_behind (xs ++ x ∷ []) read
calls_behind_one xs x None = refl
calls_behind_one xs x (Some ys) = ap Some (sym (append_assoc xs (x ∷ []) ys))

-- the word that comes next
pub record IsNext (words : List (List ℕ)) (word : List ℕ) (rest : List (List ℕ)) : Type 0 where
  pub is : words ≡ word ∷ rest

pub is_next : (words : List (List ℕ)) (word : List ℕ) (rest : List (List ℕ)) → Some (word, rest) ≡ word_at (λ w. Some w) words → IsNext words word rest
is_next [] word rest e = absurd cc
is_next (w ∷ ws) word rest e =
    let same = some_is (word, rest) (w, ws) e in
    let first : word ≡ w = ap (λ (p : List ℕ × List (List ℕ)). p.0) same in
    let others : rest ≡ ws = ap (λ (p : List ℕ × List (List ℕ)). p.1) same in
    record { is = rw (first, others) refl }

pub is_last : (words : List (List ℕ)) → None ≡ word_at (λ w. Some w) words → words ≡ []
is_last [] e = refl
is_last (w ∷ ws) e = absurd cc

-- one call more was read
pub calls_in-more : (xs : List (ℕ × ℕ)) (x : ℕ × ℕ) (words : List (List ℕ)) (word : List ℕ) (rest : List (List ℕ)) → length xs < 4
    → IsNext words word rest → Some x ≡ call_of word → calls_behind xs (calls_in (4 - length xs) words) ≡ calls_behind (xs ++ x ∷ [])
    (calls_in (4 - length (xs ++ x ∷ [])) rest)
unfolding calls_in
calls_in-more xs x words word rest few next e =
    let len : 4 - length (xs ++ x ∷ []) ≡ 4 - (length xs + 1) = omega (arith, length-append xs (x ∷ [])) in
    rw (next.is, one_more 4 (length xs) few, len, ← e) (calls_behind_one xs x (calls_in (4 - (length xs + 1)) rest))

-- a word that is no call
pub calls_in-none : (xs : List (ℕ × ℕ)) (words : List (List ℕ)) (word : List ℕ) (rest : List (List ℕ)) → length xs < 4 → IsNext words word rest
    → None ≡ call_of word → calls_behind xs (calls_in (4 - length xs) words) ≡ None
unfolding calls_in
calls_in-none xs words word rest few next e = rw (next.is, one_more 4 (length xs) few, ← e) refl

-- a word too many
pub calls_in-over : (xs : List (ℕ × ℕ)) (words : List (List ℕ)) (word : List ℕ) (rest : List (List ℕ)) → length xs ≡ 4 → IsNext words word rest
    → calls_behind xs (calls_in (4 - length xs) words) ≡ None
unfolding calls_in
calls_in-over xs words word rest four next = rw (next.is, four) refl

-- no word more
pub calls_in-all : (xs : List (ℕ × ℕ)) (words : List (List ℕ)) → words ≡ [] → calls_behind xs (calls_in (4 - length xs) words) ≡ Some xs
unfolding calls_in
calls_in-all xs words none = rw (none, append-nil) refl
