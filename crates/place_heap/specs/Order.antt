-- Items in order.
use Rattle.std.specs.Prelude.{ℕ, zero, suc, ◌+◌, ◌/◌, ◌==◌, Bool, if◌then◌else◌, List, [], ◌∷◌, Option, Some, None}
use Rattle.std.specs.declared.cmp.Ordering.{Ordering}
use Rattle.std.specs.Ordering.{nat_cmp, ordering_then, is_lt}
use Rattle.place_heap.specs.declared.key.Key.{Key}

-- a slot with its key
abbrev pub Item : Type 0
Item = ℕ × Key

-- by key, and then by slot
abbrev pub item_cmp : Item → Item → Ordering
item_cmp a b = ordering_then (nat_cmp a.1.first b.1.first) (ordering_then (nat_cmp a.1.second b.1.second) (nat_cmp a.0 b.0))

-- a stands before b
unfoldable pub is_before : Item → Item → Bool
is_before a b = is_lt (item_cmp a b)

-- an item in its place among items in order
abbrev pub placed : Item → List Item → List Item
placed x [] = x ∷ []
placed x (y ∷ ys) = if is_before x y then x ∷ y ∷ ys else y ∷ placed x ys

-- items in order
abbrev pub ordered : List Item → List Item
ordered [] = []
ordered (x ∷ xs) = placed x (ordered xs)

-- the items but that of a slot
abbrev pub without : ℕ → List Item → List Item
without slot [] = []
without slot (x ∷ xs) = if x.0 == slot then without slot xs else x ∷ without slot xs

-- items in order, of which a slot has this key, or none
abbrev pub replaced : ℕ → Option Key → List Item → List Item
replaced slot None items = without slot items
replaced slot (Some key) items = placed (slot, key) (without slot items)

-- the key of a slot, if there is an item of it
abbrev pub key_in : ℕ → List Item → Option Key
key_in slot [] = None
key_in slot (x ∷ xs) = if x.0 == slot then Some x.1 else key_in slot xs

-- the first item
abbrev pub first_of : List Item → Option Item
first_of [] = None
first_of (x ∷ xs) = Some x

-- how many binary digits a number has, of at most so many
abbrev pub digits : ℕ → ℕ → ℕ
digits zero n = 0
digits (suc most) n = if n == 0 then 0 else 1 + digits most (n / 2)

-- how many binary digits a number has
unfoldable pub bits : ℕ → ℕ
bits n = digits n n
