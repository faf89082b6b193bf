-- Whether entries say that a call is done, read one after the other.
use Rattle.std.proofs.Common.{◌≡◌, ℕ, zero, suc, ◌+◌, ◌||◌, Bool, true, false, Some, List, [], ◌∷◌, take, refl, sym, ap, ◌∙◌, arith}
use Rattle.std.specs.Prelude.{slice_get}
use Rattle.plain_sets.proofs.MapMembers.{same_some}
use Rattle.homa_plain.specs.Entries.{PlainEntry}
use Rattle.homa_plain.specs.Quiet.{has_done}
use Rattle.quiet_laws.proofs.Worlds.{done-append}

-- the first entry says so, or others do
one_first : (e : PlainEntry) (es : List PlainEntry) → has_done (e ∷ es) ≡ (has_done (e ∷ []) || has_done es)
one_first e es = done-append (e ∷ []) es

or_true : (b : Bool) → (b || true) ≡ true
or_true true = refl
or_true false = refl

pub told_at : (es : List PlainEntry) (i : ℕ) (e : PlainEntry) → slice_get es i ≡ Some e → has_done (e ∷ []) ≡ true → has_done es ≡ true
told_at [] i e at is = cc
told_at (x ∷ es) zero e at is = one_first x es ∙ ap (λ b. b || has_done es) (ap (λ y. has_done (y ∷ [])) (same_some x e at) ∙ is)
told_at (x ∷ es) (suc i) e at is = one_first x es ∙ ap (λ b. has_done (x ∷ []) || b) (told_at es i e at is) ∙ or_true (has_done (x ∷ []))

left_of : (a b : Bool) → (a || b) ≡ false → a ≡ false
left_of true b e = e
left_of false b e = refl

right_of : (a b : Bool) → (a || b) ≡ false → b ≡ false
right_of true b e = cc
right_of false b e = e

not_told : (es : List PlainEntry) (i : ℕ) (e : PlainEntry) → slice_get es i ≡ Some e → has_done (e ∷ []) ≡ false → has_done (take i es) ≡ false
    → has_done (take (suc i) es) ≡ false
not_told [] i e at is before = cc
not_told (x ∷ es) zero e at is before = ap (λ y. has_done (y ∷ [])) (same_some x e at) ∙ is
not_told (x ∷ es) (suc i) e at is before =
    let both : (has_done (x ∷ []) || has_done (take i es)) ≡ false = sym (one_first x (take i es)) ∙ before in
    one_first x (take (suc i) es) ∙ ap (λ b. b || has_done (take (suc i) es)) (left_of (has_done (x ∷ [])) (has_done (take i es)) both)
    ∙ not_told es i e at is (right_of (has_done (x ∷ [])) (has_done (take i es)) both)

pub none_told : (es : List PlainEntry) (i : ℕ) (e : PlainEntry) → slice_get es i ≡ Some e → has_done (e ∷ []) ≡ false → has_done (take i es) ≡ false
    → has_done (take (i + 1) es) ≡ false
none_told es i e at is before = ap (λ k. has_done (take k es)) {x = i + 1} {y = suc i} (omega arith) ∙ not_told es i e at is before
