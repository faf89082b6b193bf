-- The choice sees of the orders of messages only which is less, and nothing of their granted ends: a counter at a host, and the place of a line.
use Rattle.std.proofs.Common.{◌≡◌, ℕ, List, [], ◌∷◌, cond, refl, ap, ◌∙◌}
use Rattle.std.specs.Prelude.{◌==◌, not, take, filter}
use Rattle.std.specs.List.{AllByRecursion}
use Rattle.plain_sets.specs.Ordered.{is_below, placed, ordered, firsts, not_of}
use Rattle.plain_sets.proofs.FirstLaws.{firsts-all}
use Rattle.plain_sets.proofs.OrderLaws.{ordered-all}
use Rattle.homa_plain.specs.Grants.{Message, choice_key, chosen_by, chosen}
use Rattle.homa_plain.specs.Grants as choice

module _ {X : Type 0} (f g : X → ℕ × ℕ) where
  -- two keys tell alike which of two comes first
  abbrev pub AgreeWith : X → List X → Type 0
  AgreeWith x ys = AllByRecursion (λ y. is_below (f x) (f y) ≡ is_below (g x) (g y)) ys

  abbrev pub Agree : List X → Type 0
  Agree [] = Unit {0}
  Agree (x ∷ xs) = AgreeWith x xs × Agree xs

  placed_alike : (x : X) (ys : List X) → AgreeWith x ys → placed f x ys ≡ placed g x ys
  placed_alike x [] all = refl
  placed_alike x (y ∷ ys) all =
      ap (λ b. cond b (x ∷ y ∷ ys) (y ∷ placed f x ys)) all.0 ∙ ap (λ zs. cond (is_below (g x) (g y)) (x ∷ y ∷ ys) (y ∷ zs)) (placed_alike x ys all.1)

  -- so both put things in one order
  pub ordered_alike : (xs : List X) → Agree xs → ordered f xs ≡ ordered g xs
  unfolding ordered
  ordered_alike [] a = refl
  ordered_alike (x ∷ xs) a =
      ap (placed f x) (ordered_alike xs a.1) ∙ placed_alike x (ordered g xs) (ordered-all g (λ y. is_below (f x) (f y) ≡ is_below (g x) (g y)) xs a.0)

module _ {X : Type 0} (m n : X → Message) where
  abbrev pub SendersSame : List X → Type 0
  SendersSame xs = AllByRecursion (λ x. choice.sender (m x) ≡ choice.sender (n x)) xs

  not_alike : (xs : List X) (s : ℕ) → SendersSame xs → filter (λ x. not (choice.sender (m x) == s)) xs ≡ filter (λ x. not (choice.sender (n x) == s)) xs
  not_alike [] s same = refl
  not_alike (x ∷ xs) s same =
      ap (λ k. cond (not (k == s)) (x ∷ filter (λ x. not (choice.sender (m x) == s)) xs) (filter (λ x. not (choice.sender (m x) == s)) xs)) same.0
      ∙ ap (λ zs. cond (not (choice.sender (n x) == s)) (x ∷ zs) zs) (not_alike xs s same.1)

  firsts_alike : (xs : List X) → SendersSame xs → firsts (λ x. choice.sender (m x)) xs ≡ firsts (λ x. choice.sender (n x)) xs
  unfolding firsts
  firsts_alike [] same = refl
  firsts_alike (x ∷ xs) same =
      ap (λ zs. x ∷ not_of (λ x. choice.sender (m x)) (choice.sender (m x)) zs) (firsts_alike xs same.1)
      ∙ ap (λ zs. x ∷ zs)
      (not_alike (firsts (λ x. choice.sender (n x)) xs) (choice.sender (m x))
      (firsts-all (λ x. choice.sender (n x)) (λ x. choice.sender (m x) ≡ choice.sender (n x)) xs same.1)
      ∙ ap (λ k. not_of (λ x. choice.sender (n x)) k (firsts (λ x. choice.sender (n x)) xs)) same.0)

  -- the chosen are the same, where senders are, and keys tell alike which comes first
  pub chosen_alike : (k : ℕ) (xs : List X) → SendersSame xs → Agree (λ x. choice_key (m x)) (λ x. choice_key (n x)) xs → chosen m k xs ≡ chosen n k xs
  chosen_alike k xs same agree =
      ap (λ ys. take k (firsts (λ x. choice.sender (m x)) ys)) (ordered_alike (λ x. choice_key (m x)) (λ x. choice_key (n x)) xs agree)
      ∙ ap (take k) (firsts_alike (ordered (λ x. choice_key (n x)) xs)
      (ordered-all (λ x. choice_key (n x)) (λ x. choice.sender (m x) ≡ choice.sender (n x)) xs same))
