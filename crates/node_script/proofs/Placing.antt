-- The places that are given to hosts.
use Rattle.std.proofs.Common.{◌≡◌, ◌≢◌, ◌≤◌, ◌<◌, ℕ, suc, arith, Bool, true, false, Option, None, Some, List, [], ◌∷◌, ◌++◌, length, map}
use Rattle.std.proofs.Common.{take, refl, sym, ap, ◌∙◌, append_assoc}
use Rattle.std.specs.Prelude.{◌==◌, nat_lt, if◌then◌else◌}
use Rattle.std.proofs.lemmas.Bool.Decides.{nat_tests}
use Rattle.std.proofs.lemmas.List.{append-nil, take_all, length-take}
use Rattle.node_runs.specs.Script as script
use Rattle.node_runs.specs.Script.{single, given_to, onto, places_from, places_in}
use Rattle.node_script.specs.declared.place.Place.{Place}
use Rattle.node_script.specs.declared.place.Naming.{Naming}
use Rattle.node_script.specs.Setup.{place_seen, naming_seen}

-- the place that was found so far
abbrev pub found_seen : Option Place → List script.Place
found_seen None = []
found_seen (Some p) = place_seen p ∷ []

by_test : (n : ℕ) (m : Naming) (rest : List script.Naming) (t : Bool) → (m.host.0 == n) ≡ t
    → given_to n (naming_seen m ∷ rest) ≡ (if t then place_seen m.place ∷ given_to n rest else given_to n rest)
by_test n m rest true e = rw e refl
by_test n m rest false e = rw e refl

-- a naming of this host
pub given_yes : (n : ℕ) (m : Naming) (ms : List Naming) → m.host.0 ≡ n
    → given_to n (map naming_seen (m ∷ ms)) ≡ place_seen m.place ∷ given_to n (map naming_seen ms)
given_yes n m ms e = let t : (m.host.0 == n) ≡ true = grind (arith, nat_tests) in by_test n m (map naming_seen ms) true t

-- one of another host
pub given_no : (n : ℕ) (m : Naming) (ms : List Naming) → m.host.0 ≢ n → given_to n (map naming_seen (m ∷ ms)) ≡ given_to n (map naming_seen ms)
given_no n m ms e = let t : (m.host.0 == n) ≡ false = grind (arith, nat_tests) in by_test n m (map naming_seen ms) false t

-- two are one too many
pub found_twice : (n : ℕ) (found : Option Place) (p : Place) (m : Naming) (ms : List Naming) → found ≡ Some p → m.host.0 ≡ n
    → single (found_seen found ++ given_to n (map naming_seen (m ∷ ms))) ≡ None
found_twice n found p m ms f e = rw (f, given_yes n m ms e) refl

-- ---- of all hosts

-- these in front, where there are others
abbrev pub prefixed : {A : Type 0} → List A → Option (List A) → Option (List A)
prefixed xs None = None
prefixed xs (Some ys) = Some (xs ++ ys)

pub prefixed_none : {A : Type 0} (o : Option (List A)) → prefixed [] o ≡ o
prefixed_none None = refl
prefixed_none (Some ys) = refl

pub prefixed_on : {A : Type 0} (xs : List A) (x : A) (o : Option (List A)) → prefixed xs (onto (Some x) o) ≡ prefixed (xs ++ x ∷ []) o
prefixed_on xs x None = refl
prefixed_on xs x (Some ys) = ap (λ (zs : List _). Some zs) (sym (append_assoc xs (x ∷ []) ys))

-- the next host has its place
pub places_on : (xs ys : List script.Place) (h next k left : ℕ) (named : List script.Naming) (p : script.Place) → next ≡ suc h → k ≡ suc left
    → ys ≡ xs ++ p ∷ [] → Some p ≡ single (given_to h named) → prefixed xs (places_from h k named) ≡ prefixed ys (places_from next left named)
places_on xs ys h next k left named p n e y f =
    rw (n, e, y) (ap (λ o. prefixed xs (onto o (places_from (suc h) left named))) (sym f) ∙ prefixed_on xs p (places_from (suc h) left named))

-- the next host has none
pub places_not : (xs : List script.Place) (h k left : ℕ) (named : List script.Naming) → k ≡ suc left → None ≡ single (given_to h named)
    → prefixed xs (places_from h k named) ≡ None
places_not xs h k left named e f = rw e (ap (λ o. prefixed xs (onto o (places_from (suc h) left named))) (sym f))

-- every host has its place
pub places_all : (xs : List script.Place) (h k : ℕ) (named : List script.Naming) → k ≡ 0 → prefixed xs (places_from h k named) ≡ Some xs
places_all xs h k named e = rw e (ap (λ (zs : List script.Place). Some zs) (append-nil xs))

-- ---- the first 33 that were named

-- so many are enough
pub front_places : (hosts : ℕ) (named : List script.Naming) → hosts ≤ 32 → places_in hosts (take 33 named) ≡ places_in hosts named
front_places hosts named h = by_count (nat_lt 33 (length named)) refl
  where
    by_count : (t : Bool) → nat_lt 33 (length named) ≡ t → places_in hosts (take 33 named) ≡ places_in hosts named
    by_count false k = let few : length named ≤ 33 = grind (arith, nat_tests) in ap (places_in hosts) (take_all 33 named few)
    by_count true k =
        let many : 33 < length named = grind (arith, nat_tests) in
        let n = length-take 33 named in
        let a : (length (take 33 named) == hosts) ≡ false = let size : length (take 33 named) ≡ 33 = omega (arith, n, many) in grind (arith, nat_tests) in
        let b : (length named == hosts) ≡ false = grind (arith, nat_tests) in
        rw (a, b) refl
