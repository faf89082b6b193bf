-- Which hosts a net knows while they are bound and routed.
use Rattle.std.proofs.Common.{◌≡◌, ◌+◌, ℕ, Bool, true, false, List, length, refl, sym, ap, ◌∙◌, arith}
use Rattle.std.specs.Prelude.{◌&&◌, ◌||◌, ◌==◌, nat_lt, slice_index_or}
use Rattle.std.proofs.lemmas.Bool.Decides.{nat_tests}
use Rattle.node_script.specs.declared.place.Place.{Place}
use Rattle.node_script.specs.declared.place.Place.TheVariants.{Local, Remote}

-- a host that is here
abbrev pub is_here : Place → Bool
is_here (Local inc port) = true
is_here (Remote port) = false

-- one that is elsewhere
abbrev pub is_there : Place → Bool
is_there (Local inc port) = false
is_there (Remote port) = true

-- where host h is, of these
abbrev pub place_at : List Place → ℕ → Place
place_at places h = slice_index_or places h (Remote 0)

-- the hosts below i that are here
abbrev pub here_below : List Place → ℕ → ℕ → Bool
here_below places i h = nat_lt h i && is_here (place_at places h)

abbrev pub there_below : List Place → ℕ → ℕ → Bool
there_below places i h = nat_lt h i && is_there (place_at places h)

lt_next : (h i : ℕ) → nat_lt h (i + 1) ≡ (nat_lt h i || h == i)
lt_next h i = by_tests (nat_lt h i) (h == i) refl refl
  where
    by_tests : (a e : Bool) → nat_lt h i ≡ a → (h == i) ≡ e → nat_lt h (i + 1) ≡ (a || e)
    by_tests true e p q = grind (arith, nat_tests)
    by_tests false true p q = grind (arith, nat_tests)
    by_tests false false p q = grind (arith, nat_tests)

one_more : (a e p : Bool) → (e ≡ true → p ≡ true) → ((a && p) || e) ≡ ((a || e) && p)
one_more true true true f = refl
one_more true true false f = absurd (let k = f refl in cc)
one_more true false true f = refl
one_more true false false f = refl
one_more false true true f = refl
one_more false true false f = absurd (let k = f refl in cc)
one_more false false p f = refl

none_more : (a e p : Bool) → (e ≡ true → p ≡ false) → (a && p) ≡ ((a || e) && p)
none_more true e p f = refl
none_more false true true f = absurd (let k = f refl in cc)
none_more false true false f = refl
none_more false false p f = refl

same_at : (h i : ℕ) → (h == i) ≡ true → h ≡ i
same_at h i e = grind (arith, nat_tests)

-- host i is bound or routed
pub is_more : (p : ℕ → Bool) (i h : ℕ) → p i ≡ true → ((nat_lt h i && p h) || h == i) ≡ (nat_lt h (i + 1) && p h)
is_more p i h e = one_more (nat_lt h i) (h == i) (p h) (λ k. ap p (same_at h i k) ∙ e) ∙ ap (λ t. t && p h) (sym (lt_next h i))

-- it isn't
pub is_no_more : (p : ℕ → Bool) (i h : ℕ) → p i ≡ false → (nat_lt h i && p h) ≡ (nat_lt h (i + 1) && p h)
is_no_more p i h e = none_more (nat_lt h i) (h == i) (p h) (λ k. ap p (same_at h i k) ∙ e) ∙ ap (λ t. t && p h) (sym (lt_next h i))

or_assoc : (a b e : Bool) → ((a || b) || e) ≡ (a || (b || e))
or_assoc true b e = refl
or_assoc false b e = refl

pub is_more_behind : (a : Bool) (p : ℕ → Bool) (i h : ℕ) → p i ≡ true → ((a || (nat_lt h i && p h)) || h == i) ≡ (a || (nat_lt h (i + 1) && p h))
is_more_behind a p i h e = or_assoc a (nat_lt h i && p h) (h == i) ∙ ap (λ t. a || t) (is_more p i h e)

either : (t : Bool) (p : Place) → ((t && is_here p) || (t && is_there p)) ≡ t
either true (Local inc port) = refl
either true (Remote port) = refl
either false p = refl

-- every host is known
pub all_known : (places : List Place) (h : ℕ) → (here_below places (length places) h || there_below places (length places) h) ≡ nat_lt h (length places)
all_known places h = either (nat_lt h (length places)) (place_at places h)

or_none : (a : Bool) → (a || false) ≡ a
or_none true = refl
or_none false = refl

below_none : (h : ℕ) → nat_lt h 0 ≡ false
below_none h = grind (arith, nat_tests)

-- none yet
pub none_here : (places : List Place) (h : ℕ) → here_below places 0 h ≡ false
none_here places h = ap (λ t. t && is_here (place_at places h)) (below_none h)

pub none_there : (a : Bool) (places : List Place) (h : ℕ) → (a || there_below places 0 h) ≡ a
none_there a places h = ap (λ t. a || (t && is_there (place_at places h))) (below_none h) ∙ or_none a
