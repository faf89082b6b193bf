-- The ranges of a set with a range more, and with one less.
use Rattle.std.proofs.Common.{◌≡◌, ℕ, ◌+◌, ◌<◌, ◌≤◌, Bool, true, false, not, ◌&&◌, ◌||◌, ltb, leb, min, max, List, [], ◌∷◌, length, refl, sym, ap}
use Rattle.std.proofs.Common.{◌∙◌, arith, inl, inr}
use Rattle.std.proofs.lemmas.Bool.{cond_both, ltb-true, ltb-false, cases_lt}
use Rattle.std.proofs.Math.Bool.{or_assoc, and-false}
use Rattle.std.proofs.lemmas.Bool.Decides.{nat_tests}
use Rattle.plain_sets.specs.Ranges.{Range, is_between, in_ranges, AreApart, absorbed, joined, led, parted}
use Rattle.plain_sets.specs.Numbers.{Numbers, with_range, without_range, ranges}
use Rattle.plain_sets.proofs.NumberLaws.{no_number, has-with_range, has-without_range, with_range-nothing, without_range-nothing}
use Rattle.plain_sets.proofs.RangeLaws.{apart_lower, apart-ranges, in_ranges-ranges, ranges_are}

-- two ranges that touch are one
touching : (a b f t x : ℕ) → a < b → f < t → f ≤ b → a ≤ t → (leb (min a f) x && ltb x (max b t)) ≡ ((leb a x && ltb x b) || (leb f x && ltb x t))
touching a b f t x ab ft fb at = grind (arith, nat_tests)

-- of three tests two may change places
or_swap : (p q r : Bool) → (p || (q || r)) ≡ (q || (p || r))
or_swap true true r = refl
or_swap true false r = refl
or_swap false q r = refl

-- the numbers of absorbed
in_ranges-absorbed : (rs : List Range) (a b low x : ℕ) → a ≤ low → a < b → AreApart low rs
    → in_ranges (absorbed a b rs) x ≡ (is_between a b x || in_ranges rs x)
in_ranges-absorbed [] a b low x al ab apart = refl
in_ranges-absorbed (r ∷ rs) a b low x al ab apart =
    cond_both (ltb b r.from) _ _ (λ ss. in_ranges ss x ≡ (is_between a b x || (is_between r.from r.to x || in_ranges rs x)))
    (λ _. refl)
    (λ e. let above : r.from ≤ b = ltb-false _ _ e in
    in_ranges-absorbed rs (min a r.from) (max b r.to) (r.to + 1) x (omega arith) (omega arith) apart.2
    ∙ ap (λ p. p || in_ranges rs x) (touching a b r.from r.to x ab apart.1 above (omega arith))
    ∙ or_assoc (is_between a b x) (is_between r.from r.to x) (in_ranges rs x))

-- the numbers of joined
pub in_ranges-joined : (rs : List Range) (a b low x : ℕ) → a < b → AreApart low rs → in_ranges (joined a b rs) x ≡ (is_between a b x || in_ranges rs x)
in_ranges-joined [] a b low x ab apart = refl
in_ranges-joined (r ∷ rs) a b low x ab apart =
    cond_both (ltb r.to a) _ _ (λ ss. in_ranges ss x ≡ (is_between a b x || (is_between r.from r.to x || in_ranges rs x)))
    (λ _. ap (λ p. is_between r.from r.to x || p) (in_ranges-joined rs a b (r.to + 1) x ab apart.2) ∙ or_swap (is_between r.from r.to x)
    (is_between a b x) (in_ranges rs x))
    (λ e. let near : a ≤ r.to = ltb-false _ _ e in
    cond_both (ltb b r.from) _ _ (λ ss. in_ranges ss x ≡ (is_between a b x || (is_between r.from r.to x || in_ranges rs x)))
    (λ _. refl)
    (λ e'. let above : r.from ≤ b = ltb-false _ _ e' in
    in_ranges-absorbed rs (min a r.from) (max b r.to) (r.to + 1) x (omega arith) (omega arith) apart.2
    ∙ ap (λ p. p || in_ranges rs x) (touching a b r.from r.to x ab apart.1 above near) ∙ or_assoc (is_between a b x) (is_between r.from r.to x)
    (in_ranges rs x)))

-- absorbed leaves ranges apart
apart-absorbed : (rs : List Range) (a b low low' : ℕ) → a ≤ low → low' ≤ a → a < b → AreApart low rs → AreApart low' (absorbed a b rs)
apart-absorbed [] a b low low' al la ab apart = (la, ab, tt)
apart-absorbed (r ∷ rs) a b low low' al la ab apart =
    cond_both (ltb b r.from) _ _ (AreApart low')
    (λ e. let below : b < r.from = ltb-true _ _ e in (la, ab, (omega arith, apart.1, apart.2)))
    (λ e. let above : r.from ≤ b = ltb-false _ _ e in
    apart-absorbed rs (min a r.from) (max b r.to) (r.to + 1) low' (omega arith) (omega arith) (omega arith) apart.2)

-- joined leaves ranges apart
pub apart-joined : (rs : List Range) (a b low : ℕ) → low ≤ a → a < b → AreApart low rs → AreApart low (joined a b rs)
apart-joined [] a b low la ab apart = (la, ab, tt)
apart-joined (r ∷ rs) a b low la ab apart =
    cond_both (ltb r.to a) _ _ (AreApart low)
    (λ e. let far : r.to < a = ltb-true _ _ e in (apart.0, apart.1, apart-joined rs a b (r.to + 1) (omega arith) ab apart.2))
    (λ e. let near : a ≤ r.to = ltb-false _ _ e in
    cond_both (ltb b r.from) _ _ (AreApart low)
    (λ e'. let below : b < r.from = ltb-true _ _ e' in (la, ab, (omega arith, apart.1, apart.2)))
    (λ e'. let above : r.from ≤ b = ltb-false _ _ e' in
    apart-absorbed rs (min a r.from) (max b r.to) (r.to + 1) low (omega arith) (omega arith) (omega arith) apart.2))

-- a range more joins what it touches
pub ranges-with_range : (s : Numbers) (a b : ℕ) → a < b → ranges (with_range s a b) ≡ joined a b (ranges s)
ranges-with_range s a b ab = ranges_are (with_range s a b) (joined a b (ranges s)) (apart-joined (ranges s) a b 0 (omega arith) ab (apart-ranges s))
    (λ q. has-with_range s a b q ∙ ap (λ p. is_between a b q || p) (sym (in_ranges-ranges s q)) ∙ sym (in_ranges-joined (ranges s) a b 0 q ab (apart-ranges s)))

-- absorbed makes at most one range more
length-absorbed : (rs : List Range) (a b : ℕ) → length (absorbed a b rs) ≤ length rs + 1
length-absorbed [] a b = omega arith
length-absorbed (r ∷ rs) a b =
    cond_both (ltb b r.from) _ _ (λ (ss : List Range). length ss ≤ length (r ∷ rs) + 1) (λ _. omega arith)
    (λ _. omega (arith, length-absorbed rs (min a r.from) (max b r.to)))

-- joined makes at most one range more
length-joined : (rs : List Range) (a b : ℕ) → length (joined a b rs) ≤ length rs + 1
length-joined [] a b = omega arith
length-joined (r ∷ rs) a b =
    cond_both (ltb r.to a) _ _ (λ (ss : List Range). length ss ≤ length (r ∷ rs) + 1) (λ _. omega (arith, length-joined rs a b))
    (λ _. length-absorbed (r ∷ rs) a b)

-- the numbers with a range in front
in_led : (a b x : ℕ) (rs : List Range) → in_ranges (led a b rs) x ≡ (is_between a b x || in_ranges rs x)
in_led a b x rs = cond_both (ltb a b) _ _ (λ ss. in_ranges ss x ≡ (is_between a b x || in_ranges rs x)) (λ _. refl)
    (λ e. ap (λ p. p || in_ranges rs x) (sym (no_number a b x (ltb-false a b e))))

-- what is left of a range is before and behind what is taken
two_parts : (a b f t x : ℕ) → a < b → f < t
    → ((leb f x && ltb x (min t a)) || (leb (max f b) x && ltb x t)) ≡ (not (leb a x && ltb x b) && (leb f x && ltb x t))
two_parts a b f t x ab ft = grind (arith, nat_tests)

-- one test before two others
and_spread : (p q r : Bool) → ((p && q) || (p && r)) ≡ (p && (q || r))
and_spread true q r = refl
and_spread false q r = refl

-- the numbers of parted
pub in_ranges-parted : (rs : List Range) (a b low x : ℕ) → a < b → AreApart low rs → in_ranges (parted a b rs) x ≡ (not (is_between a b x) && in_ranges rs x)
in_ranges-parted [] a b low x ab apart = sym (and-false (not (is_between a b x)))
in_ranges-parted (r ∷ rs) a b low x ab apart =
    in_led r.from (min r.to a) x (led (max r.from b) r.to (parted a b rs))
    ∙ ap (λ p. is_between r.from (min r.to a) x || p) (in_led (max r.from b) r.to x (parted a b rs))
    ∙ sym (or_assoc (is_between r.from (min r.to a) x) (is_between (max r.from b) r.to x) (in_ranges (parted a b rs) x))
    ∙ ap (λ p. p || in_ranges (parted a b rs) x) (two_parts a b r.from r.to x ab apart.1)
    ∙ ap (λ p. (not (is_between a b x) && is_between r.from r.to x) || p) (in_ranges-parted rs a b (r.to + 1) x ab apart.2)
    ∙ and_spread (not (is_between a b x)) (is_between r.from r.to x) (in_ranges rs x)

-- a range in front leaves ranges apart
apart-led : (low a b : ℕ) (rs : List Range) → low ≤ a → AreApart low rs → (a < b → AreApart (b + 1) rs) → AreApart low (led a b rs)
apart-led low a b rs h apart next = cond_both (ltb a b) _ _ (AreApart low) (λ e. let l : a < b = ltb-true a b e in (h, l, next l)) (λ _. apart)

-- parted leaves ranges apart
pub apart-parted : (rs : List Range) (a b low : ℕ) → a < b → AreApart low rs → AreApart low (parted a b rs)
apart-parted [] a b low ab apart = tt
apart-parted (r ∷ rs) a b low ab apart =
    let rest : AreApart (r.to + 1) (parted a b rs) = apart-parted rs a b (r.to + 1) ab apart.2 in
    let second : (from : ℕ) → from ≤ max r.from b → from ≤ r.to + 1 → AreApart from (led (max r.from b) r.to (parted a b rs)) =
    λ from h k. apart-led from (max r.from b) r.to (parted a b rs) h (apart_lower (r.to + 1) from (parted a b rs) k rest) (λ _. rest) in
    apart-led low r.from (min r.to a) (led (max r.from b) r.to (parted a b rs)) apart.0 (second low (omega (arith, apart.0)) (omega (arith, apart.0, apart.1)))
    (λ l. second (min r.to a + 1) (omega (arith, ab)) (omega arith))

-- a range less leaves what it doesn't touch
pub ranges-without_range : (s : Numbers) (a b : ℕ) → a < b → ranges (without_range s a b) ≡ parted a b (ranges s)
ranges-without_range s a b ab = ranges_are (without_range s a b) (parted a b (ranges s)) (apart-parted (ranges s) a b 0 ab (apart-ranges s))
    (λ q. has-without_range s a b q ∙ ap (λ p. not (is_between a b q) && p) (sym (in_ranges-ranges s q))
    ∙ sym (in_ranges-parted (ranges s) a b 0 q ab (apart-ranges s)))

-- a range in front is at most one more
pub length-led : (a b : ℕ) (rs : List Range) → length (led a b rs) ≤ length rs + 1
length-led a b rs = cond_both (ltb a b) _ _ (λ (ss : List Range). length ss ≤ length rs + 1) (λ _. omega arith) (λ _. omega arith)

-- an empty one is none more
pub length-unled : (a b : ℕ) (rs : List Range) → b ≤ a → length (led a b rs) ≤ length rs
length-unled a b rs h = cond_both (ltb a b) _ _ (λ (ss : List Range). length ss ≤ length rs) (λ e. absurd (omega (arith, ltb-true a b e))) (λ _. omega arith)

-- what is taken below the ranges makes none more
length-parted_above : (rs : List Range) (a b low : ℕ) → a < b → b ≤ low → AreApart low rs → length (parted a b rs) ≤ length rs
length-parted_above [] a b low ab h apart = omega arith
length-parted_above (r ∷ rs) a b low ab h apart =
    omega (
      arith,
      length-unled r.from (min r.to a) (led (max r.from b) r.to (parted a b rs)) (omega (arith, apart.0)),
      length-led (max r.from b) r.to (parted a b rs),
      length-parted_above rs a b (r.to + 1) ab (omega (arith, apart.0, apart.1)) apart.2,
    )

-- parted makes at most one range more
length-parted : (rs : List Range) (a b low : ℕ) → a < b → AreApart low rs → length (parted a b rs) ≤ length rs + 1
length-parted [] a b low ab apart = omega arith
length-parted (r ∷ rs) a b low ab apart =
    elim (cases_lt b r.to) [
      | inl h ↦ omega (
        arith,
        length-led r.from (min r.to a) (led (max r.from b) r.to (parted a b rs)),
        length-led (max r.from b) r.to (parted a b rs),
        length-parted_above rs a b (r.to + 1) ab (omega arith) apart.2,
      )
      | inr h ↦ omega (
        arith,
        length-led r.from (min r.to a) (led (max r.from b) r.to (parted a b rs)),
        length-unled (max r.from b) r.to (parted a b rs) (omega arith),
        length-parted rs a b (r.to + 1) ab apart.2,
      )
    ]

-- a range more, or one less, makes at most one range more
pub ranges-one_more : (s : Numbers) (a b : ℕ) → length (ranges (with_range s a b)) ≤ length (ranges s) + 1
ranges-one_more s a b =
    elim (cases_lt a b) [
      | inl h ↦ omega (arith, ap length (ranges-with_range s a b h), length-joined (ranges s) a b)
      | inr h ↦ omega (arith, ap (λ t. length (ranges t)) (with_range-nothing s a b h))
    ]

-- nor does a range less
pub ranges-one_less : (s : Numbers) (a b : ℕ) → length (ranges (without_range s a b)) ≤ length (ranges s) + 1
ranges-one_less s a b =
    elim (cases_lt a b) [
      | inl h ↦ omega (arith, ap length (ranges-without_range s a b h), length-parted (ranges s) a b 0 h (apart-ranges s))
      | inr h ↦ omega (arith, ap (λ t. length (ranges t)) (without_range-nothing s a b h))
    ]
