-- What a net did while hosts are bound and routed.
use Rattle.std.proofs.Common.{◌≡◌, ◌<◌, ◌≤◌, ◌+◌, ℕ, zero, suc, arith, false, Option, List, [], ◌∷◌, ◌++◌, length, take, drop, get_or}
use Rattle.std.proofs.Common.{refl, sym, ap, ◌∙◌, append_assoc}
use Rattle.std.specs.Prelude.{map}
use Rattle.std.proofs.lemmas.List.{append-nil}
use Rattle.node_io.specs.Net.{added}
use Rattle.node_runs.specs.Acts.{Act, Bound, Routed, binds, routes, connects}
use Rattle.node_turns.specs.Told.{listed, ListedFront}
use Rattle.node_turns.proofs.Lists.{listed_more, added_is}
use Rattle.node_script.specs.declared.place.Place.{Place}
use Rattle.node_script.specs.declared.place.Place.TheVariants.{Local, Remote}
use Rattle.node_script.specs.Setup.{place_seen}
use Rattle.homa_node.proofs.Connecting.{place_at, is_here, is_there}

-- what is done of a host with this number
abbrev pub bind_one : ℕ → Place → List Act
bind_one n (Local inc port) = Bound (record { 0 = n }) port ∷ []
bind_one n (Remote port) = []

abbrev pub route_one : ℕ → Place → List Act
route_one n (Local inc port) = []
route_one n (Remote port) = Routed (record { 0 = n }) port ∷ []

-- the place of a host
abbrev pub one_at : List Place → ℕ → Place
one_at places i = get_or places i (Local 0 0)

next_number : (n i : ℕ) → suc n + i ≡ n + suc i
next_number n i = omega (arith)

binds_one : (n : ℕ) (p : Place) (ps : List Place) → binds n (map place_seen (p ∷ ps)) ≡ bind_one n p ++ binds (suc n) (map place_seen ps)
binds_one n (Local inc port) ps = refl
binds_one n (Remote port) ps = refl

routes_one : (n : ℕ) (p : Place) (ps : List Place) → routes n (map place_seen (p ∷ ps)) ≡ route_one n p ++ routes (suc n) (map place_seen ps)
routes_one n (Local inc port) ps = refl
routes_one n (Remote port) ps = refl

-- the next host
binds_next : (n : ℕ) (ps : List Place) (i : ℕ) → i < length ps
    → binds n (map place_seen (take (suc i) ps)) ≡ binds n (map place_seen (take i ps)) ++ bind_one (n + i) (one_at ps i)
binds_next n [] i l = absurd (omega (arith, l))
binds_next n (p ∷ ps) zero l = binds_one n p [] ∙ append-nil (bind_one n p) ∙ ap (λ k. bind_one k p) (none n)
  where
    none : (n : ℕ) → n ≡ n + 0
    none n = omega (arith)
binds_next n (p ∷ ps) (suc i) l =
    binds_one n p (take (suc i) ps) ∙ ap (λ xs. bind_one n p ++ xs) (binds_next (suc n) ps i (omega (arith, l)))
    ∙ sym (append_assoc (bind_one n p) (binds (suc n) (map place_seen (take i ps))) (bind_one (suc n + i) (one_at ps i)))
    ∙ ap (λ xs. xs ++ bind_one (suc n + i) (one_at ps i)) (sym (binds_one n p (take i ps)))
    ∙ ap (λ k. binds n (map place_seen (p ∷ take i ps)) ++ bind_one k (one_at ps i)) (next_number n i)

routes_next : (n : ℕ) (ps : List Place) (i : ℕ) → i < length ps
    → routes n (map place_seen (take (suc i) ps)) ≡ routes n (map place_seen (take i ps)) ++ route_one (n + i) (one_at ps i)
routes_next n [] i l = absurd (omega (arith, l))
routes_next n (p ∷ ps) zero l = routes_one n p [] ∙ append-nil (route_one n p) ∙ ap (λ k. route_one k p) (none n)
  where
    none : (n : ℕ) → n ≡ n + 0
    none n = omega (arith)
routes_next n (p ∷ ps) (suc i) l =
    routes_one n p (take (suc i) ps) ∙ ap (λ xs. route_one n p ++ xs) (routes_next (suc n) ps i (omega (arith, l)))
    ∙ sym (append_assoc (route_one n p) (routes (suc n) (map place_seen (take i ps))) (route_one (suc n + i) (one_at ps i)))
    ∙ ap (λ xs. xs ++ route_one (suc n + i) (one_at ps i)) (sym (routes_one n p (take i ps)))
    ∙ ap (λ k. routes n (map place_seen (p ∷ take i ps)) ++ route_one k (one_at ps i)) (next_number n i)

-- what stands behind the first of them
binds_parts : (n : ℕ) (ps : List Place) (i : ℕ)
    → binds n (map place_seen (take i ps)) ++ binds (n + i) (map place_seen (drop i ps)) ≡ binds n (map place_seen ps)
binds_parts n ps zero = ap (λ k. binds k (map place_seen ps)) (none n)
  where
    none : (n : ℕ) → n + 0 ≡ n
    none n = omega (arith)
binds_parts n [] (suc i) = refl
binds_parts n (p ∷ ps) (suc i) =
    ap (λ xs. xs ++ binds (n + suc i) (map place_seen (drop i ps))) (binds_one n p (take i ps))
    ∙ append_assoc (bind_one n p) (binds (suc n) (map place_seen (take i ps))) (binds (n + suc i) (map place_seen (drop i ps)))
    ∙ ap (λ k. bind_one n p ++ (binds (suc n) (map place_seen (take i ps)) ++ binds k (map place_seen (drop i ps)))) (sym (next_number n i))
    ∙ ap (λ xs. bind_one n p ++ xs) (binds_parts (suc n) ps i) ∙ sym (binds_one n p ps)

routes_parts : (n : ℕ) (ps : List Place) (i : ℕ)
    → routes n (map place_seen (take i ps)) ++ routes (n + i) (map place_seen (drop i ps)) ≡ routes n (map place_seen ps)
routes_parts n ps zero = ap (λ k. routes k (map place_seen ps)) (none n)
  where
    none : (n : ℕ) → n + 0 ≡ n
    none n = omega (arith)
routes_parts n [] (suc i) = refl
routes_parts n (p ∷ ps) (suc i) =
    ap (λ xs. xs ++ routes (n + suc i) (map place_seen (drop i ps))) (routes_one n p (take i ps))
    ∙ append_assoc (route_one n p) (routes (suc n) (map place_seen (take i ps))) (routes (n + suc i) (map place_seen (drop i ps)))
    ∙ ap (λ k. route_one n p ++ (routes (suc n) (map place_seen (take i ps)) ++ routes k (map place_seen (drop i ps)))) (sym (next_number n i))
    ∙ ap (λ xs. route_one n p ++ xs) (routes_parts (suc n) ps i) ∙ sym (routes_one n p ps)

none_more : (i : ℕ) → 0 + i ≡ i
none_more i = omega (arith)

one_more : (i : ℕ) → i + 1 ≡ suc i
one_more i = omega (arith)

whole_take : (ps : List Place) (i : ℕ) → length ps ≤ i → take i ps ≡ ps
whole_take [] zero l = refl
whole_take [] (suc i) l = refl
whole_take (p ∷ ps) zero l = absurd (omega (arith, l))
whole_take (p ∷ ps) (suc i) l = ap (λ xs. p ∷ xs) (whole_take ps i (omega (arith, l)))

-- the local hosts below i were bound, and host i is one
pub is_bound : (ps : List Place) (i inc port : ℕ) (old mid new : Option (List Act)) → i < length ps → one_at ps i ≡ Local inc port
    → mid ≡ listed old (binds 0 (map place_seen (take i ps))) → new ≡ added mid (Bound (record { 0 = i }) port)
    → new ≡ listed old (binds 0 (map place_seen (take (i + 1) ps)))
is_bound ps i inc port old mid new l at e h =
    listed_more old mid new (binds 0 (map place_seen (take i ps))) (Bound (record { 0 = i }) port ∷ []) e (h ∙ added_is mid (Bound (record { 0 = i }) port))
    ∙ ap (listed old) (sym (ap (λ k. binds 0 (map place_seen (take k ps))) (one_more i) ∙ binds_next 0 ps i l
    ∙ ap (λ k. binds 0 (map place_seen (take i ps)) ++ bind_one k (one_at ps i)) (none_more i)
    ∙ ap (λ p. binds 0 (map place_seen (take i ps)) ++ bind_one i p) at))

-- or is none
pub not_bound : (ps : List Place) (i port : ℕ) (old new : Option (List Act)) → i < length ps → one_at ps i ≡ Remote port
    → new ≡ listed old (binds 0 (map place_seen (take i ps))) → new ≡ listed old (binds 0 (map place_seen (take (i + 1) ps)))
not_bound ps i port old new l at e =
    e ∙ ap (listed old) (sym (ap (λ k. binds 0 (map place_seen (take k ps))) (one_more i) ∙ binds_next 0 ps i l
    ∙ ap (λ k. binds 0 (map place_seen (take i ps)) ++ bind_one k (one_at ps i)) (none_more i)
    ∙ ap (λ p. binds 0 (map place_seen (take i ps)) ++ bind_one i p) at ∙ append-nil (binds 0 (map place_seen (take i ps)))))

-- all of them were bound, and none is routed yet
pub first_bound : (ps : List Place) (i : ℕ) (old new : Option (List Act)) → length ps ≤ i → new ≡ listed old (binds 0 (map place_seen (take i ps)))
    → new ≡ listed old (binds 0 (map place_seen ps) ++ routes 0 (map place_seen (take 0 ps)))
first_bound ps i old new l e =
    e ∙ ap (λ xs. listed old (binds 0 (map place_seen xs))) (whole_take ps i l) ∙ ap (listed old) (sym (append-nil (binds 0 (map place_seen ps))))

-- the others below i were routed, and host i is one
pub is_routed : (ps : List Place) (i port : ℕ) (old mid new : Option (List Act)) → i < length ps → one_at ps i ≡ Remote port
    → mid ≡ listed old (binds 0 (map place_seen ps) ++ routes 0 (map place_seen (take i ps))) → new ≡ added mid (Routed (record { 0 = i }) port)
    → new ≡ listed old (binds 0 (map place_seen ps) ++ routes 0 (map place_seen (take (i + 1) ps)))
is_routed ps i port old mid new l at e h =
    let all = binds 0 (map place_seen ps) in
    listed_more old mid new (all ++ routes 0 (map place_seen (take i ps))) (Routed (record { 0 = i }) port ∷ []) e
    (h ∙ added_is mid (Routed (record { 0 = i }) port))
    ∙ ap (listed old) (append_assoc all (routes 0 (map place_seen (take i ps))) (Routed (record { 0 = i }) port ∷ [])
    ∙ ap (λ xs. all ++ xs) (sym (ap (λ k. routes 0 (map place_seen (take k ps))) (one_more i) ∙ routes_next 0 ps i l
    ∙ ap (λ k. routes 0 (map place_seen (take i ps)) ++ route_one k (one_at ps i)) (none_more i)
    ∙ ap (λ p. routes 0 (map place_seen (take i ps)) ++ route_one i p) at)))

-- or is none
pub not_routed : (ps : List Place) (i inc port : ℕ) (old new : Option (List Act)) → i < length ps → one_at ps i ≡ Local inc port
    → new ≡ listed old (binds 0 (map place_seen ps) ++ routes 0 (map place_seen (take i ps)))
    → new ≡ listed old (binds 0 (map place_seen ps) ++ routes 0 (map place_seen (take (i + 1) ps)))
not_routed ps i inc port old new l at e =
    e ∙ ap (λ xs. listed old (binds 0 (map place_seen ps) ++ xs)) (sym (ap (λ k. routes 0 (map place_seen (take k ps))) (one_more i) ∙ routes_next 0 ps i l
    ∙ ap (λ k. routes 0 (map place_seen (take i ps)) ++ route_one k (one_at ps i)) (none_more i)
    ∙ ap (λ p. routes 0 (map place_seen (take i ps)) ++ route_one i p) at ∙ append-nil (routes 0 (map place_seen (take i ps)))))

-- all of them were
pub all_routed : (ps : List Place) (i : ℕ) (old new : Option (List Act)) → length ps ≤ i
    → new ≡ listed old (binds 0 (map place_seen ps) ++ routes 0 (map place_seen (take i ps))) → new ≡ listed old (connects (map place_seen ps))
all_routed ps i old new l e = e ∙ ap (λ xs. listed old (binds 0 (map place_seen ps) ++ routes 0 (map place_seen xs))) (whole_take ps i l)

-- a bind failed
pub front_bound : (ps : List Place) (i : ℕ) (old mid new : Option (List Act)) → mid ≡ listed old (binds 0 (map place_seen (take i ps))) → new ≡ mid
    → ListedFront old new (connects (map place_seen ps))
front_bound ps i old mid new e same = record {
  front = binds 0 (map place_seen (take i ps));
  rest = binds i (map place_seen (drop i ps)) ++ routes 0 (map place_seen ps);
  split = sym (append_assoc (binds 0 (map place_seen (take i ps))) (binds i (map place_seen (drop i ps))) (routes 0 (map place_seen ps)))
      ∙ ap (λ xs. xs ++ routes 0 (map place_seen ps)) (ap (λ k. binds 0 (map place_seen (take i ps)) ++ binds k (map place_seen (drop i ps)))
      (sym (none_more i)) ∙ binds_parts 0 ps i);
  is = same ∙ e;
}

-- a route failed
pub front_routed : (ps : List Place) (i : ℕ) (old mid new : Option (List Act))
    → mid ≡ listed old (binds 0 (map place_seen ps) ++ routes 0 (map place_seen (take i ps))) → new ≡ mid → ListedFront old new (connects (map place_seen ps))
front_routed ps i old mid new e same = record {
  front = binds 0 (map place_seen ps) ++ routes 0 (map place_seen (take i ps));
  rest = routes i (map place_seen (drop i ps));
  split = append_assoc (binds 0 (map place_seen ps)) (routes 0 (map place_seen (take i ps))) (routes i (map place_seen (drop i ps)))
      ∙ ap (λ xs. binds 0 (map place_seen ps) ++ xs) (ap (λ k. routes 0 (map place_seen (take i ps)) ++ routes k (map place_seen (drop i ps)))
      (sym (none_more i)) ∙ routes_parts 0 ps i);
  is = same ∙ e;
}

-- or is none, whatever it is
pub never_bound : (ps : List Place) (i : ℕ) (old new : Option (List Act)) → i < length ps → ((inc port : ℕ) → one_at ps i ≡ Local inc port → ⊥)
    → new ≡ listed old (binds 0 (map place_seen (take i ps))) → new ≡ listed old (binds 0 (map place_seen (take (i + 1) ps)))
never_bound ps i old new l never e = by_place (one_at ps i) refl
  where
    by_place : (p : Place) → one_at ps i ≡ p → new ≡ listed old (binds 0 (map place_seen (take (i + 1) ps)))
    by_place (Local inc port) at = absurd (never inc port at)
    by_place (Remote port) at = not_bound ps i port old new l at e

pub never_routed : (ps : List Place) (i : ℕ) (old new : Option (List Act)) → i < length ps → ((port : ℕ) → one_at ps i ≡ Remote port → ⊥)
    → new ≡ listed old (binds 0 (map place_seen ps) ++ routes 0 (map place_seen (take i ps)))
    → new ≡ listed old (binds 0 (map place_seen ps) ++ routes 0 (map place_seen (take (i + 1) ps)))
never_routed ps i old new l never e = by_place (one_at ps i) refl
  where
    by_place : (p : Place) → one_at ps i ≡ p → new ≡ listed old (binds 0 (map place_seen ps) ++ routes 0 (map place_seen (take (i + 1) ps)))
    by_place (Local inc port) at = not_routed ps i inc port old new l at e
    by_place (Remote port) at = absurd (never port at)

-- a host within the list is where it is, whatever is beside the list
pub at_same : (ps : List Place) (i : ℕ) → i < length ps → place_at ps i ≡ one_at ps i
at_same [] i l = absurd (omega (arith, l))
at_same (p ∷ ps) zero l = refl
at_same (p ∷ ps) (suc i) l = at_same ps i (omega (arith, l))

pub not_here : (p : Place) → ((inc port : ℕ) → p ≡ Local inc port → ⊥) → is_here p ≡ false
not_here (Local inc port) never = absurd (never inc port refl)
not_here (Remote port) never = refl

pub not_there : (p : Place) → ((port : ℕ) → p ≡ Remote port → ⊥) → is_there p ≡ false
not_there (Local inc port) never = refl
not_there (Remote port) never = absurd (never port refl)
