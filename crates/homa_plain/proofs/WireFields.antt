-- A field that is read is the field that was written, and a field that was written is read again.
use Rattle.std.proofs.Common.{◌≡◌, ℕ, zero, suc, ◌+◌, ◌^◌, ◌<◌, ◌≤◌, Bool, true, false, cond, ltb, List, [], ◌∷◌, ◌++◌, length, take, drop, Option}
use Rattle.std.proofs.Common.{Some, None, refl, sym, ap, subst, ◌∙◌, append_assoc, arith, inl, inr}
use Rattle.std.specs.List.{AllByRecursion, flat_map}
use Rattle.std.specs.Int.{Width, w16, w32, w64, byte_len, from_be_bytes, to_be_bytes}
use Rattle.std.proofs.lemmas.Bool.{cases_lt, ltb-false, le-ltb}
use Rattle.std.proofs.lemmas.List.{take_at, drop_at, take-append-drop, length-append, length-take, get_or-drop, get_or-take, get_or_past}
use Rattle.std.proofs.lemmas.Nat.{be_bytes_2, be_bytes_4, be_bytes_8, from_be_bytes-to_be_bytes_2, from_be_bytes-to_be_bytes_4, from_be_bytes-to_be_bytes_8}
use Rattle.homa_plain.specs.Bytes.{IsBytes, ◌>>=◌, number_at, two, two_at, times}

IsBytes-drop : (n : ℕ) (bytes : List ℕ) → IsBytes bytes → IsBytes (drop n bytes)
IsBytes-drop n bytes h i = rw get_or-drop (h (n + i))

IsBytes-take : (n : ℕ) (bytes : List ℕ) → IsBytes bytes → IsBytes (take n bytes)
IsBytes-take n bytes h i =
    elim (cases_lt i n) [
      | inl lt ↦ rw (get_or-take n bytes i 0 lt) (h i)
      | inr le ↦ rw (get_or_past (take n bytes) i 0 (omega (arith, length-take n bytes))) (omega arith)
    ]

pub IsBytes-rest : (b : ℕ) (bytes : List ℕ) → IsBytes (b ∷ bytes) → IsBytes bytes
IsBytes-rest b bytes h i = h (suc i)

-- the value of a step that answered one
pub bind_some : {A B : Type 0} (r : Option A) (f : A → Option B) (y : B) → (r >>= f) ≡ Some y → (x : A) × (r ≡ Some x) × (f x ≡ Some y)
bind_some None f y e = absurd cc
bind_some (Some x) f y e = (x, refl, e)

-- a test that was passed
guard_some : {A : Type 0} (b : Bool) (x y : A) → cond b None (Some x) ≡ Some y → (b ≡ false) × (x ≡ y)
guard_some true x y e = absurd cc
guard_some false x y e = (refl, cc)

abbrev pub given : {A : Type 0} → A → Option A
given x = Some x

pub some_is : {A : Type 0} (x y : A) → given x ≡ given y → x ≡ y
some_is x y e = cc

-- what a reader took from the front
pub record Takes (bytes text rest : List ℕ) : Type 0 where
  pub parts : bytes ≡ text ++ rest
  pub rest_fits : IsBytes rest

pub Takes-then : (a x b y c : List ℕ) → Takes a x b → Takes b y c → Takes a (x ++ y) c
Takes-then a x b y c p q = record { parts = p.parts ∙ ap (λ (t : List ℕ). x ++ t) q.parts ∙ sym (append_assoc x y c); rest_fits = q.rest_fits }

-- ---- numbers

pub record IsWide (w : Width) (limit : ℕ) : Type 0 where
  pub len : (n : ℕ) → length (to_be_bytes w n) ≡ byte_len w
  pub back : (bytes : List ℕ) → length bytes ≡ byte_len w → IsBytes bytes → to_be_bytes w (from_be_bytes w bytes) ≡ bytes
  pub again : (n : ℕ) → n < limit → from_be_bytes w (to_be_bytes w n) ≡ n
  pub below : (bytes : List ℕ) → IsBytes bytes → from_be_bytes w bytes < limit

pub wide16 : IsWide w16 (2 ^ 16)
wide16 = record {
  len = λ n. refl;
  back = λ bytes len fits. be_bytes_2 bytes _ len fits refl;
  again = λ n lt. from_be_bytes-to_be_bytes_2 n lt;
  below = λ bytes fits. omega (arith, fits 0, fits 1);
}

pub wide32 : IsWide w32 (2 ^ 32)
wide32 = record {
  len = λ n. refl;
  back = λ bytes len fits. be_bytes_4 bytes _ len fits refl;
  again = λ n lt. from_be_bytes-to_be_bytes_4 n lt;
  below = λ bytes fits. omega (arith, fits 0, fits 1, fits 2, fits 3);
}

pub wide64 : IsWide w64 (2 ^ 64)
wide64 = record {
  len = λ n. refl;
  back = λ bytes len fits. be_bytes_8 bytes _ len fits refl;
  again = λ n lt. from_be_bytes-to_be_bytes_8 n lt;
  below = λ bytes fits. omega (arith, fits 0, fits 1, fits 2, fits 3, fits 4, fits 5, fits 6, fits 7);
}

pub number_takes : (w : Width) (limit : ℕ) (wide : IsWide w limit) (bytes : List ℕ) (n : ℕ) (rest : List ℕ) → IsBytes bytes
    → number_at w bytes ≡ Some (n, rest) → Takes bytes (to_be_bytes w n) rest × (n < limit)
unfolding number_at
number_takes w limit wide bytes n rest fits e =
    let g = guard_some (ltb (length bytes) (byte_len w)) (from_be_bytes w (take (byte_len w) bytes), drop (byte_len w) bytes) (n, rest) e in
    let long : byte_len w ≤ length bytes = ltb-false _ _ g.0 in
    let n-is : from_be_bytes w (take (byte_len w) bytes) ≡ n = ap (λ (p : ℕ × List ℕ). p.0) g.1 in
    let rest-is : drop (byte_len w) bytes ≡ rest = ap (λ (p : ℕ × List ℕ). p.1) g.1 in
    let front : to_be_bytes w n ≡ take (byte_len w) bytes =
    rw (← n-is) (wide.back (take (byte_len w) bytes) (omega (arith, length-take (byte_len w) bytes)) (IsBytes-take (byte_len w) bytes fits)) in (
      record {
        parts = rw (front, ← rest-is) (sym (take-append-drop (byte_len w) bytes));
        rest_fits =
            rw (← rest-is) (IsBytes-drop (byte_len w) bytes fits);
      },
      rw (← n-is) (wide.below (take (byte_len w) bytes) (IsBytes-take (byte_len w) bytes fits)),
    )

pub number_again : (w : Width) (limit : ℕ) (wide : IsWide w limit) (n : ℕ) (rest : List ℕ) → n < limit → number_at w (to_be_bytes w n ++ rest) ≡ Some (n, rest)
unfolding number_at
number_again w limit wide n rest lt =
    let len = wide.len n in
    let long : ltb (length (to_be_bytes w n ++ rest)) (byte_len w) ≡ false = le-ltb _ _ (omega (arith, length-append (to_be_bytes w n) rest)) in
    rw (long, take_at (to_be_bytes w n) rest (byte_len w) len, drop_at (to_be_bytes w n) rest (byte_len w) len, wide.again n lt) refl

-- ---- one value behind the other

-- a reader, the spelling that it reads, and the values that it answers
pub record Reads {A : Type 0} (one : List ℕ → Option (A × List ℕ)) (text : A → List ℕ) (P : A → Type 0) : Type 0 where
  pub takes : (bytes : List ℕ) (x : A) (rest : List ℕ) → IsBytes bytes → one bytes ≡ Some (x, rest) → Takes bytes (text x) rest × P x
  pub again : (x : A) (rest : List ℕ) → P x → one (text x ++ rest) ≡ Some (x, rest)

pub reads_number : (w : Width) (limit : ℕ) → IsWide w limit → Reads (number_at w) (to_be_bytes w) (λ n. n < limit)
reads_number w limit wide = record { takes = number_takes w limit wide; again = number_again w limit wide }

abbrev pub AreWide : ℕ × ℕ → Type 0
AreWide pair = (pair.0 < 2 ^ 32) × (pair.1 < 2 ^ 32)

two_takes : (bytes : List ℕ) (x : ℕ × ℕ) (rest : List ℕ) → IsBytes bytes → two_at bytes ≡ Some (x, rest) → Takes bytes (two x) rest × AreWide x
unfolding two_at
two_takes bytes x rest fits e =
    let a = bind_some (number_at w32 bytes) _ (x, rest) e in
    let b = bind_some (number_at w32 a.0.1) _ (x, rest) a.2 in
    let first = number_takes w32 (2 ^ 32) wide32 bytes a.0.0 a.0.1 fits a.1 in
    let second = number_takes w32 (2 ^ 32) wide32 a.0.1 b.0.0 b.0.1 first.0.rest_fits b.1 in
    let both = Takes-then bytes (to_be_bytes w32 a.0.0) a.0.1 (to_be_bytes w32 b.0.0) b.0.1 first.0 second.0 in
    let made : (ℕ × ℕ) × List ℕ = ((a.0.0, b.0.0), b.0.1) in
    subst (λ (y : (ℕ × ℕ) × List ℕ). Takes bytes (two y.0) y.1 × AreWide y.0) (some_is made (x, rest) b.2) (both, (first.1, second.1))

two_again : (x : ℕ × ℕ) (rest : List ℕ) → AreWide x → two_at (two x ++ rest) ≡ Some (x, rest)
unfolding two_at
two_again x rest fits =
    rw (number_again w32 (2 ^ 32) wide32 x.0 (to_be_bytes w32 x.1 ++ rest) fits.0, number_again w32 (2 ^ 32) wide32 x.1 rest fits.1) refl

pub reads_two : Reads two_at two AreWide
reads_two = record { takes = two_takes; again = two_again }

pub times_takes : {A : Type 0} (one : List ℕ → Option (A × List ℕ)) (text : A → List ℕ) (P : A → Type 0) → Reads one text P
    → (n : ℕ) (bytes : List ℕ) (xs : List A) (rest : List ℕ) → IsBytes bytes → times one n bytes ≡ Some (xs, rest)
    → Takes bytes (flat_map text xs) rest × (length xs ≡ n) × AllByRecursion P xs
unfolding times
times_takes {A} one text P reads zero bytes xs rest fits e =
    subst (λ (y : List A × List ℕ). Takes bytes (flat_map text y.0) y.1 × (length y.0 ≡ 0) × AllByRecursion P y.0) (some_is ([], bytes) (xs, rest) e)
    (record { parts = refl; rest_fits = fits }, refl, tt)
times_takes {A} one text P reads (suc n) bytes xs rest fits e =
    let a = bind_some (one bytes) _ (xs, rest) e in
    let b = bind_some (times one n a.0.1) _ (xs, rest) a.2 in
    let first = reads.takes bytes a.0.0 a.0.1 fits a.1 in
    let second = times_takes one text P reads n a.0.1 b.0.0 b.0.1 first.0.rest_fits b.1 in
    let both = Takes-then bytes (text a.0.0) a.0.1 (flat_map text b.0.0) b.0.1 first.0 second.0 in
    let made : List A × List ℕ = (a.0.0 ∷ b.0.0, b.0.1) in
    subst (λ (y : List A × List ℕ). Takes bytes (flat_map text y.0) y.1 × (length y.0 ≡ suc n) × AllByRecursion P y.0) (some_is made (xs, rest) b.2)
    (both, ap suc second.1, (first.1, second.2))

pub times_again : {A : Type 0} (one : List ℕ → Option (A × List ℕ)) (text : A → List ℕ) (P : A → Type 0) → Reads one text P
    → (n : ℕ) (xs : List A) (rest : List ℕ) → length xs ≡ n → AllByRecursion P xs → times one n (flat_map text xs ++ rest) ≡ Some (xs, rest)
unfolding times
times_again one text P reads zero [] rest len fits = refl
times_again one text P reads (suc n) [] rest len fits = absurd (omega arith)
times_again one text P reads zero (x ∷ xs) rest len fits = absurd (omega arith)
times_again one text P reads (suc n) (x ∷ xs) rest len fits =
    ap (times one (suc n)) (append_assoc (text x) (flat_map text xs) rest)
    ∙ rw (reads.again x (flat_map text xs ++ rest) fits.0, times_again one text P reads n xs rest (omega arith) fits.1) refl
