-- Reading so many values one behind the other, as far as a loop has come.
use Rattle.std.proofs.Common.{◌≡◌, ℕ, suc, ◌+◌, ◌-◌, ◌<◌, ◌≤◌, List, [], ◌∷◌, ◌++◌, Option, Some, None, refl, sym, ap, ◌∙◌, append_assoc, arith}
use Rattle.std.proofs.lemmas.List.{append-nil}
use Rattle.homa_plain.specs.Bytes.{◌>>=◌, times}

-- these values, and those that were read behind them
abbrev pub behind : {A : Type 0} → List A → Option (List A × List ℕ) → Option (List A × List ℕ)
behind xs None = None
behind xs (Some read) = Some (xs ++ read.0, read.1)

behind_one : {A : Type 0} (xs : List A) (x : A) (o : Option (List A × List ℕ))
    → behind xs (o >>= (λ others. Some (x ∷ others.0, others.1))) ≡ behind (xs ++ x ∷ []) o
behind_one xs x None = refl
behind_one {A} xs x (Some read) = ap (λ (ys : List A). Some (ys, read.1)) (sym (append_assoc xs (x ∷ []) read.0))

step : {A : Type 0} (one : List ℕ → Option (A × List ℕ)) (left : ℕ) (xs : List A) (rest : List ℕ) (x : A) (after : List ℕ)
    → one rest ≡ Some (x, after) → behind xs (times one (suc left) rest) ≡ behind (xs ++ x ∷ []) (times one left after)
unfolding times
step one left xs rest x after e = rw e (behind_one xs x (times one left after))

stop : {A : Type 0} (one : List ℕ → Option (A × List ℕ)) (left : ℕ) (xs : List A) (rest : List ℕ) → one rest ≡ None
    → behind xs (times one (suc left) rest) ≡ None
unfolding times
stop one left xs rest e = rw e refl

done : {A : Type 0} (one : List ℕ → Option (A × List ℕ)) (xs : List A) (rest : List ℕ) → behind xs (times one 0 rest) ≡ Some (xs, rest)
unfolding times
done {A} one xs rest = ap (λ (ys : List A). Some (ys, rest)) (append-nil xs)

-- one more value was read
pub times_more : {A : Type 0} (one : List ℕ → Option (A × List ℕ)) (n i : ℕ) (bytes : List ℕ) (xs : List A) (rest : List ℕ) (x : A) (after : List ℕ)
    → i < n → Some (x, after) ≡ one rest → times one n bytes ≡ behind xs (times one (n - i) rest)
    → times one n bytes ≡ behind (xs ++ x ∷ []) (times one (n - (i + 1)) after)
times_more {A} one n i bytes xs rest x after h e known =
    known ∙ ap (λ (k : ℕ). behind xs (times one k rest)) (let k : n - i ≡ suc (n - (i + 1)) = omega arith in k) ∙ step one (n - (i + 1)) xs rest x after (sym e)

-- no further value can be read
pub times_none : {A : Type 0} (one : List ℕ → Option (A × List ℕ)) (n i : ℕ) (bytes : List ℕ) (xs : List A) (rest : List ℕ) → i < n → None ≡ one rest
    → times one n bytes ≡ behind xs (times one (n - i) rest) → None ≡ times one n bytes
times_none one n i bytes xs rest h e known =
    sym (known ∙ ap (λ (k : ℕ). behind xs (times one k rest)) (let k : n - i ≡ suc (n - (i + 1)) = omega arith in k) ∙ stop one (n - (i + 1)) xs rest (sym e))

-- all values were read
pub times_all : {A : Type 0} (one : List ℕ → Option (A × List ℕ)) (n i : ℕ) (bytes : List ℕ) (xs : List A) (rest : List ℕ) → n ≤ i
    → times one n bytes ≡ behind xs (times one (n - i) rest) → Some (xs, rest) ≡ times one n bytes
times_all one n i bytes xs rest h known =
    sym (known ∙ ap (λ (k : ℕ). behind xs (times one k rest)) (let k : n - i ≡ 0 = omega arith in k) ∙ done one xs rest)

behind_none : {A : Type 0} (o : Option (List A × List ℕ)) → o ≡ behind [] o
behind_none None = refl
behind_none (Some read) = refl

-- no value was read yet
pub times_start : {A : Type 0} (one : List ℕ → Option (A × List ℕ)) (n : ℕ) (bytes : List ℕ) → times one n bytes ≡ behind [] (times one (n - 0) bytes)
times_start one n bytes = let k : n ≡ n - 0 = omega arith in ap (λ (k : ℕ). times one k bytes) k ∙ behind_none (times one (n - 0) bytes)
