-- The entries of a map before and after a change of one key, and lists that are made of entries.
use Rattle.std.proofs.Common.{◌≡◌, Bool, true, false, not, ◌&&◌, cond, T, Option, Some, None, List, [], ◌∷◌, ◌++◌, refl, sym, ap, subst, ◌∙◌}
use Rattle.std.specs.List.{AllByRecursion, filter}
use Rattle.std.specs.declared.cmp.Ordering.{Ordering}
use Rattle.std.specs.declared.cmp.Ordering.TheVariants.{Less, Equal, Greater}
use Rattle.std.specs.Ordering.{eq_by_cmp, is_eq, is_lt}
use Rattle.std.specs.Cmp.{IsTotalOrder, tied_itself}
use Rattle.std.specs.FinMap.{IsAntisymmetric}
use Rattle.core.specs.FinMap.Entries.{by_order, put, find, below_all, is_sorted}
use Rattle.plain_sets.specs.Maps.{Map, entries, get, insert, remove}
use Rattle.plain_sets.proofs.MapLaws.{list-insert, list-retain, sorted-rises}
use Rattle.plain_sets.proofs.MapMembers.{same_some}

-- two tests that hold, hold together
both : (a b : Bool) → T a → T b → T (a && b)
both true b p q = q
both false b p q = p

-- each of two tests that hold together
first : (a b : Bool) → T (a && b) → T a
first true b p = tt
first false b p = p

second : (a b : Bool) → T (a && b) → T b
second true b p = p
second false b p = absurd p

-- what the test of an ordering says
less : (r : Ordering) → T (is_lt r) → r ≡ Less
less Less p = refl
less Equal p = absurd p
less Greater p = absurd p

-- where all pass a test, the filter keeps all
pub filter_all : {X : Type 0} (p : X → Bool) (xs : List X) → AllByRecursion (λ x. p x ≡ true) xs → filter p xs ≡ xs
filter_all p [] all = refl
filter_all p (x ∷ xs) all = ap (λ b. cond b (x ∷ filter p xs) (filter p xs)) all.0 ∙ ap (λ ys. x ∷ ys) (filter_all p xs all.1)

-- no key stands twice
abbrev pub AreApart : {K X : Type 0} → List (K × X) → Type 0
AreApart [] = Unit {0}
AreApart {K} {X} (e ∷ es) = AllByRecursion (λ (d : K × X). e.0 ≡ d.0 → ⊥) es × AreApart es

-- entries around a key: before and after it, none has it
pub record Around {K X : Type 0} (R : K → K → Ordering) (k : K) (v : X) (es : List (K × X)) : Type 0 where
  pub front : List (K × X)
  pub back : List (K × X)
  pub is : es ≡ front ++ (k, v) ∷ back
  pub set : (w : X) → put R k w es ≡ front ++ (k, w) ∷ back
  pub gone : filter (λ e. not (eq_by_cmp R k e.0)) es ≡ front ++ back
  pub before : AllByRecursion (λ (e : K × X). k ≡ e.0 → ⊥) front
  pub after : AllByRecursion (λ (e : K × X). k ≡ e.0 → ⊥) back

not_less : {K : Type 0} {R : K → K → Ordering} → IsTotalOrder R → (k j : K) → R k j ≡ Less → k ≡ j → ⊥
not_less {R = R} o k j e same = less_equal (sym e ∙ ap (R k) (sym same) ∙ tied_itself o k) where
  less_equal : Less ≡ Equal → ⊥
  less_equal e = cc

not_greater : {K : Type 0} {R : K → K → Ordering} → IsTotalOrder R → (k j : K) → R k j ≡ Greater → k ≡ j → ⊥
not_greater {R = R} o k j e same = greater_equal (sym e ∙ ap (R k) (sym same) ∙ tied_itself o k) where
  greater_equal : Greater ≡ Equal → ⊥
  greater_equal e = cc

module _ {K X : Type 0} {R : K → K → Ordering} (o : IsTotalOrder R) (same : IsAntisymmetric R) where
  -- a key that is below all is none of theirs
  below_others : (k : K) (es : List (K × X)) → T (below_all R k es) → AllByRecursion (λ (e : K × X). k ≡ e.0 → ⊥) es
  below_others k [] h = tt
  below_others k (e ∷ es) h = (not_less o k e.0 (less _ (first _ _ h)), below_others k es (second _ _ h))

  below_keeps : (k : K) (es : List (K × X)) → T (below_all R k es) → AllByRecursion (λ (e : K × X). not (eq_by_cmp R k e.0) ≡ true) es
  below_keeps k [] h = tt
  below_keeps k (e ∷ es) h = (ap (λ r. not (is_eq r)) (less _ (first _ _ h)), below_keeps k es (second _ _ h))

  below_chain : (k j : K) (es : List (K × X)) → R k j ≡ Less → T (below_all R j es) → T (below_all R k es)
  below_chain k j [] e h = tt
  below_chain k j (d ∷ es) e h = both _ _ (subst (λ r. T (is_lt r)) (sym (o.trans k j d.0 e (less _ (first _ _ h)))) tt) (below_chain k j es e (second _ _ h))

  -- and isn't found
  below_absent : (k : K) (es : List (K × X)) → T (below_all R k es) → find R k es ≡ None
  below_absent k [] h = refl
  below_absent k (e ∷ es) h = ap (λ r. cond (is_eq r) (Some e.1) (find R k es)) (less _ (first _ _ h)) ∙ below_absent k es (second _ _ h)

  none_is : (v : X) (f : Option X) → f ≡ None → f ≡ Some v → ⊥
  none_is v f e g = no (sym e ∙ g) where
    no : None ≡ Some v → ⊥
    no e = cc

  -- a key that is found stands among the entries
  around : (k : K) (v : X) (es : List (K × X)) → T (is_sorted R es) → find R k es ≡ Some v → Around R k v es
  around k v [] h e = absurd (none_is v None refl e)
  around k v (d ∷ es) h e = at (around k v es) (R k d.0) refl where
    at : (T (is_sorted R es) → find R k es ≡ Some v → Around R k v es) → (r : Ordering) → R k d.0 ≡ r → Around R k v (d ∷ es)
    at later Less f =
        let rest : find R k es ≡ Some v = ap (λ r. cond (is_eq r) (Some d.1) (find R k es)) (sym f) ∙ e in
        absurd (none_is v (find R k es) (below_absent k es (below_chain k d.0 es f (first _ _ h))) rest)
    at later Equal f =
        let key : k ≡ d.0 = same k d.0 f in
        let value : d.1 ≡ v = same_some d.1 v (ap (λ r. cond (is_eq r) (Some d.1) (find R k es)) (sym f) ∙ e) in
        let below : T (below_all R k es) = subst (λ j. T (below_all R j es)) (sym key) (first _ _ h) in
        record {
          front = [];
          back = es;
          is = λ i. (sym key i, value i) ∷ es;
          set = λ w. ap (λ r. by_order r ((k, w) ∷ d ∷ es) ((d.0, w) ∷ es) (d ∷ put R k w es)) f ∙ (λ i. (sym key i, w) ∷ es);
          gone = ap (λ r. cond (not (is_eq r)) (d ∷ filter (λ e. not (eq_by_cmp R k e.0)) es) (filter (λ e. not (eq_by_cmp R k e.0)) es)) f
              ∙ filter_all (λ (e : K × X). not (eq_by_cmp R k e.0)) es (below_keeps k es below);
          before = tt;
          after = below_others k es below;
        }
    at later Greater f =
        let rest = later (second _ _ h) (ap (λ r. cond (is_eq r) (Some d.1) (find R k es)) (sym f) ∙ e) in
        record {
          front = d ∷ rest.front;
          back = rest.back;
          is = ap (λ l. d ∷ l) rest.is;
          set = λ w. ap (λ r. by_order r ((k, w) ∷ d ∷ es) ((d.0, w) ∷ es) (d ∷ put R k w es)) f ∙ ap (λ l. d ∷ l) (rest.set w);
          gone = ap (λ r. cond (not (is_eq r)) (d ∷ filter (λ e. not (eq_by_cmp R k e.0)) es) (filter (λ e. not (eq_by_cmp R k e.0)) es)) f
              ∙ ap (λ l. d ∷ l) rest.gone;
          before = (not_greater o k d.0 f, rest.before);
          after = rest.after;
        }

  -- a key that isn't found is none of theirs
  absent : (k : K) (es : List (K × X)) → find R k es ≡ None → AllByRecursion (λ (e : K × X). k ≡ e.0 → ⊥) es
  absent k [] e = tt
  absent k (d ∷ es) e = at (absent k es) (R k d.0) refl where
    at : (find R k es ≡ None → AllByRecursion (λ (e : K × X). k ≡ e.0 → ⊥) es) → (r : Ordering) → R k d.0 ≡ r
        → AllByRecursion (λ (e : K × X). k ≡ e.0 → ⊥) (d ∷ es)
    at later Less f = (not_less o k d.0 f, later (ap (λ r. cond (is_eq r) (Some d.1) (find R k es)) (sym f) ∙ e))
    at later Equal f = absurd (none_is d.1 (find R k (d ∷ es)) e (ap (λ r. cond (is_eq r) (Some d.1) (find R k es)) f))
    at later Greater f = (not_greater o k d.0 f, later (ap (λ r. cond (is_eq r) (Some d.1) (find R k es)) (sym f) ∙ e))

  -- the same of maps
  pub around-get : (m : Map R X) (k : K) (v : X) → get m k ≡ Some v → Around R k v m.list
  unfolding get
  around-get m k v e = around k v m.list (sorted-rises R o m.list m.sorted) e

  pub absent-get : (m : Map R X) (k : K) → get m k ≡ None → AllByRecursion (λ (e : K × X). k ≡ e.0 → ⊥) (entries m)
  unfolding get
  absent-get m k e = absent k m.list e

  pub entries-insert : (m : Map R X) (k : K) (v w : X) (a : Around R k v m.list) → entries (insert m k w) ≡ a.front ++ (k, w) ∷ a.back
  entries-insert m k v w a = list-insert o m k w ∙ a.set w

  pub entries-removed : (m : Map R X) (k : K) (v : X) (a : Around R k v m.list) → entries (remove m k) ≡ a.front ++ a.back
  unfolding remove
  entries-removed m k v a = list-retain o m (λ x. not (eq_by_cmp R k x)) ∙ a.gone

  apart : (es : List (K × X)) → T (is_sorted R es) → AreApart es
  apart [] h = tt
  apart (e ∷ es) h = (below_others e.0 es (first _ _ h), apart es (second _ _ h))

  pub apart-entries : (m : Map R X) → AreApart (entries m)
  apart-entries m = apart m.list (sorted-rises R o m.list m.sorted)
