-- Things in the order of a key of two numbers, and the first of each sender.
use Rattle.std.specs.Prelude.{◌≡◌, ◌≢◌, ℕ, Bool, false, not, ◌&&◌, ◌||◌, ◌==◌, nat_lt, if◌then◌else◌, Option, Some, None, List, [], ◌∷◌}
use Rattle.std.specs.List.{AllByRecursion, Contains, filter, list_any}

-- (a, m) is below (b, n): the first numbers decide, and the second ones if the first are equal
abbrev pub is_below : ℕ × ℕ → ℕ × ℕ → Bool
is_below p q = nat_lt p.0 q.0 || (p.0 == q.0 && nat_lt p.1 q.1)

module _ {X : Type 0} (key : X → ℕ × ℕ) where
  -- x in its place among things that are in order, after those with the same key
  abbrev pub placed : X → List X → List X
  placed x [] = x ∷ []
  placed x (y ∷ ys) = if is_below (key x) (key y) then x ∷ y ∷ ys else y ∷ placed x ys

  -- the things in order
  unfoldable pub ordered : List X → List X
  ordered [] = []
  ordered (x ∷ xs) = placed x (ordered xs)

  -- no thing is below one before it
  abbrev pub IsInOrder : List X → Type 0
  IsInOrder [] = Unit {0}
  IsInOrder (x ∷ xs) = AllByRecursion (λ y. is_below (key y) (key x) ≡ false) xs × IsInOrder xs

  -- x is one of the things, and none of them is below it
  abbrev pub IsLeast : List X → X → Type 0
  IsLeast xs x = Contains xs x × AllByRecursion (λ y. is_below (key y) (key x) ≡ false) xs

  -- no thing has the key of x
  abbrev pub DiffersFrom : X → List X → Type 0
  DiffersFrom x ys = AllByRecursion (λ y. key x ≢ key y) ys

  -- no two things have the same key
  abbrev pub KeysDiffer : List X → Type 0
  KeysDiffer [] = Unit {0}
  KeysDiffer (x ∷ xs) = DiffersFrom x xs × KeysDiffer xs

-- the first of a list
abbrev pub first_of : {X : Type 0} → List X → Option X
first_of [] = None
first_of (x ∷ xs) = Some x

module _ {X : Type 0} (sender : X → ℕ) where
  -- whether a thing of this sender is among them
  abbrev pub has_sender : List X → ℕ → Bool
  has_sender xs s = list_any (λ x. sender x == s) xs

  -- the things of all other senders
  abbrev pub not_of : ℕ → List X → List X
  not_of s = filter (λ x. not (sender x == s))

  -- the first of each sender
  unfoldable pub firsts : List X → List X
  firsts [] = []
  firsts (x ∷ xs) = x ∷ not_of (sender x) (firsts xs)

  -- no two things are of the same sender
  abbrev pub SendersDiffer : List X → Type 0
  SendersDiffer [] = Unit {0}
  SendersDiffer (x ∷ xs) = AllByRecursion (λ y. sender x ≢ sender y) xs × SendersDiffer xs
