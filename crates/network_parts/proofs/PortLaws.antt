-- The queues of a port as they are kept, and as contracts see them.
use Rattle.std.proofs.Common.{◌≡◌, ◌<◌, ◌≤◌, ◌==◌, refl, sym, ap, ◌∙◌, ℕ, Result, Ok, Err, OnErr, List, [], ◌∷◌, ◌++◌, length, map, get_or, set, true, arith}
use Rattle.std.proofs.lemmas.List.{get_or-map, map-set, set-get_or, get_or_past, length-map}
use Rattle.std.proofs.lemmas.Bool.{eqb-true}
use Rattle.network_parts.specs.declared.port.Waiting.{Waiting}
use Rattle.network_parts.specs.Queues.{Queues}

-- a value is what it was, also after an error
pub on_err_is : {R E X : Type 0} (r : Result R E) (x y : X) → x ≡ y → OnErr r (x ≡ y)
on_err_is (Ok z) x y p = tt
on_err_is (Err e) x y p = p

-- a port whose queues are as they were
pub same_port : {T : Type 0} (a b : List (List (Waiting T))) (room : ℕ) (p : Queues T) → a ≡ b → record { queues = b; room = room } ≡ p
    → record { queues = a; room = room } ≡ p
same_port {T} a b room p same is = (let at : List (List (Waiting T)) → Queues T = λ qs. record { queues = qs; room = room } in ap at same) ∙ is

-- a level has what its queue has
pub level_is : {X Y : Type 0} (f : X → List Y) (xs : List X) (level : ℕ) (q : X) → level < length xs → q ≡ get_or xs level q
    → get_or (map f xs) level [] ≡ f q
level_is f xs level q inside is = get_or-map f xs level q [] inside ∙ ap f (sym is)

-- a queue that takes one more is a level that does
pub waits : {X Y : Type 0} (f : X → List Y) (xs : List X) (level : ℕ) (q new : X) (w : Y) → level < length xs → q ≡ get_or xs level q
    → f new ≡ f q ++ w ∷ [] → map f (set xs level new) ≡ set (map f xs) level (get_or (map f xs) level [] ++ w ∷ [])
waits {X} {Y} f xs level q new w inside is more = map-set f xs level new
    ∙ ap (set (map f xs) level) (more ∙ ap (λ (ps : List Y). ps ++ w ∷ []) (sym (level_is f xs level q inside is)))

-- a queue that stays leaves all levels as they were
pub stays : {X Y : Type 0} (f : X → List Y) (xs : List X) (level : ℕ) (q new : X) → level < length xs → q ≡ get_or xs level q → f new ≡ f q
    → map f (set xs level new) ≡ map f xs
stays f xs level q new inside is same = map-set f xs level new
    ∙ ap (set (map f xs) level) (same ∙ sym (level_is f xs level q inside is)) ∙ set-get_or (map f xs) level []

-- there is no ninth level
pub past_all : {X Y : Type 0} (f : X → List Y) (xs : List X) (k : ℕ) → length xs ≡ 8 → 8 ≤ k → get_or (map f xs) k [] ≡ []
past_all f xs k eight past = get_or_past (map f xs) k [] (omega (arith, eight, length-map xs f))

-- a list of no length has nothing
pub none_of : {Y : Type 0} (ps : List Y) (n : ℕ) → length ps ≡ n → true ≡ (n == 0) → ps ≡ []
none_of [] n is empty = refl
none_of (p ∷ ps) n is empty = absurd (let none = eqb-true n 0 (sym empty) in omega (arith, none, is))
