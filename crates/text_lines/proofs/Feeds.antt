-- Lines with and without their feed.
use Rattle.std.proofs.Common.{◌≡◌, ◌<◌, ℕ, zero, suc, Bool, true, false, List, [], ◌∷◌, ◌++◌, length, take, drop, get_or, refl, ap, ◌⊎◌, inl, inr, arith}
use Rattle.std.specs.Prelude.{◌==◌, if◌then◌else◌}
use Rattle.std.proofs.lemmas.Bool.Decides.{nat_tests}
use Rattle.homa_plain.specs.Input.{without_feed, has_no_feed, ends_in_feed}

-- a line up to its feed
text_step : (t : Bool) (x : ℕ) (xs more : List ℕ) → (if t then false else has_no_feed xs) ≡ true → (has_no_feed xs ≡ true → without_feed more ≡ xs)
    → (if t then [] else x ∷ without_feed more) ≡ x ∷ xs
text_step true x xs more h f = cc
text_step false x xs more h f = ap (λ (ys : List ℕ). x ∷ ys) (f h)

pub without_feed-feed : (xs : List ℕ) → has_no_feed xs ≡ true → without_feed (xs ++ 10 ∷ []) ≡ xs
without_feed-feed [] h = refl
without_feed-feed (x ∷ xs) h = text_step (x == 10) x xs (xs ++ 10 ∷ []) h (λ k. without_feed-feed xs k)

-- a line that has none
pub without_feed-none : (xs : List ℕ) → has_no_feed xs ≡ true → without_feed xs ≡ xs
without_feed-none [] h = refl
without_feed-none (x ∷ xs) h = text_step (x == 10) x xs xs h (λ k. without_feed-none xs k)

feed_step : (t : Bool) (xs more : List ℕ) → (if t then false else has_no_feed xs) ≡ true → (has_no_feed xs ≡ true → ends_in_feed more ≡ true)
    → (if t then false else ends_in_feed more) ≡ true
feed_step true xs more h f = cc
feed_step false xs more h f = f h

-- a line with its feed behind it
pub ends_in_feed-feed : (xs : List ℕ) → has_no_feed xs ≡ true → ends_in_feed (xs ++ 10 ∷ []) ≡ true
ends_in_feed-feed [] h = refl
ends_in_feed-feed (x ∷ []) h = feed_step (x == 10) [] (10 ∷ []) h (λ k. refl)
ends_in_feed-feed (x ∷ y ∷ ys) h = feed_step (x == 10) (y ∷ ys) (y ∷ ys ++ 10 ∷ []) h (λ k. ends_in_feed-feed (y ∷ ys) k)

no_feed : (t : Bool) (xs : List ℕ) → (t ≡ true → ⊥) → has_no_feed xs ≡ true → (if t then false else has_no_feed xs) ≡ true
no_feed true xs other h = absurd (other refl)
no_feed false xs other h = h

-- none of the bytes is a line feed
pub has_no_feed-nowhere : (xs : List ℕ) → ((k : ℕ) → k < length xs → get_or xs k 0 == 10 ≡ true → ⊥) → has_no_feed xs ≡ true
has_no_feed-nowhere [] h = refl
has_no_feed-nowhere (x ∷ xs) h = no_feed (x == 10) xs (h 0 (omega arith)) (has_no_feed-nowhere xs (λ k l. h (suc k) (omega arith)))

step : (t : Bool) (bytes more : List ℕ) → (if t then false else has_no_feed bytes) ≡ true → (has_no_feed bytes ≡ true → has_no_feed more ≡ true)
    → (if t then false else has_no_feed more) ≡ true
step true bytes more h f = cc
step false bytes more h f = f h

-- bytes behind one another
pub has_no_feed-append : (xs ys : List ℕ) → has_no_feed xs ≡ true → has_no_feed ys ≡ true → has_no_feed (xs ++ ys) ≡ true
has_no_feed-append [] ys h k = k
has_no_feed-append (x ∷ xs) ys h k = step (x == 10) xs (xs ++ ys) h (λ j. has_no_feed-append xs ys j k)

one : (b : ℕ) (t : Bool) → (b == 10) ≡ t → (b ≡ 10 → ⊥) → (if t then false else true) ≡ true
one b true e other = absurd (other (grind (arith, nat_tests)))
one b false e other = refl

-- one byte more that is no line feed
pub has_no_feed-push : (bytes : List ℕ) (b : ℕ) → has_no_feed bytes ≡ true → (b ≡ 10 → ⊥) → has_no_feed (bytes ++ b ∷ []) ≡ true
has_no_feed-push [] b h other = one b (b == 10) refl other
has_no_feed-push (x ∷ xs) b h other = step (x == 10) xs (xs ++ b ∷ []) h (λ k. has_no_feed-push xs b k other)

either : (bytes : List ℕ) (b : ℕ) (t : Bool) → (b == 10) ≡ t → has_no_feed bytes ≡ true
    → (ends_in_feed (bytes ++ b ∷ []) ≡ true) ⊎ (has_no_feed (bytes ++ b ∷ []) ≡ true)
either bytes b true e h = let is_feed : b ≡ 10 = grind (arith, nat_tests) in inl (rw is_feed (ends_in_feed-feed bytes h))
either bytes b false e h = inr (has_no_feed-push bytes b h (λ is_feed. absurd (grind (arith, nat_tests))))

-- any byte behind a line without a feed
pub ends_or_not : (bytes : List ℕ) (b : ℕ) → has_no_feed bytes ≡ true → (ends_in_feed (bytes ++ b ∷ []) ≡ true) ⊎ (has_no_feed (bytes ++ b ∷ []) ≡ true)
ends_or_not bytes b h = either bytes b (b == 10) refl h

behind_step : (t : Bool) (front xs rest : List ℕ) → (if t then false else has_no_feed xs) ≡ false → (if t then false else has_no_feed front) ≡ true
    → (has_no_feed xs ≡ false → has_no_feed front ≡ true → has_no_feed rest ≡ false) → has_no_feed rest ≡ false
behind_step true front xs rest h k f = cc
behind_step false front xs rest h k f = f h k

-- a feed that doesn't stand among the first n bytes stands behind them
pub feed_behind : (n : ℕ) (xs : List ℕ) → has_no_feed xs ≡ false → has_no_feed (take n xs) ≡ true → has_no_feed (drop n xs) ≡ false
feed_behind zero xs h k = h
feed_behind (suc n) [] h k = h
feed_behind (suc n) (x ∷ xs) h k = behind_step (x == 10) (take n xs) xs (drop n xs) h k (feed_behind n xs)

-- where a feed stands there is a byte
pub feed_is_byte : (xs : List ℕ) → has_no_feed xs ≡ false → xs ≡ [] → ⊥
feed_is_byte [] h e = absurd cc
feed_is_byte (x ∷ xs) h e = absurd cc
