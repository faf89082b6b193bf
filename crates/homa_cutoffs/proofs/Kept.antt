-- The lengths that a full buffer keeps, and the bounds that are written level by level.
use Rattle.std.proofs.Common.{◌≡◌, ℕ, ◌<◌, List, [], ◌∷◌, ◌++◌, length, length-append, length-drop, ◌+◌, ◌-◌, get_or, refl, ◌≤◌, arith}
use Rattle.std.specs.List.{AllByRecursion}
use Rattle.std.proofs.lemmas.List.FromFn.{fill_by_all}
use Rattle.circular_buffer.specs.Buffer.{keep_last}
use Rattle.homa_plain.specs.Cutoffs.{noted, bound_of_level, bounds}
use Rattle.homa_plain.proofs.CutoffLaws.{high-balanced}

-- the last 256 lengths are those that are remembered
pub kept-noted : (ns : List ℕ) (n : ℕ) → keep_last 256 (ns ++ n ∷ []) ≡ noted ns n
unfolding noted
kept-noted ns n = rw (length-append ns (n ∷ [])) refl

-- the new one at least
pub some-noted : (ns : List ℕ) (n : ℕ) → 0 < length (noted ns n)
unfolding noted
some-noted ns n = omega (arith, length-drop (length ns + 1 - 256) (ns ++ n ∷ []), length-append ns (n ∷ []))

-- eight bounds, each that of its level
pub bounds-by-level : (k u : ℕ) (ns xs : List ℕ) → length xs ≡ 8 → ((i : ℕ) → i < 8 → get_or xs i 0 ≡ bound_of_level k u ns i) → xs ≡ bounds k u ns
unfolding bounds
bounds-by-level k u ns xs eight each = fill_by_all (bound_of_level k u ns) xs 8 0 eight each

-- none is above the greatest where no length is
pub bounds-in_range : (k u : ℕ) (ns : List ℕ) → AllByRecursion (λ n. n ≤ 1000000) ns → AllByRecursion (λ b. b ≤ 1000000) (bounds k u ns)
unfolding bounds
bounds-in_range k u ns all =
    let high = high-balanced k u 0 ns all in (
      high 0 (omega arith),
      (
        high 1 (omega arith),
        (
          high 2 (omega arith),
          (
            high 3 (omega arith),
            (high 4 (omega arith), (high 5 (omega arith), (high 6 (omega arith), (high 7 (omega arith), tt)))),
          ),
        ),
      ),
    )
