-- The priority levels of messages that need no grant, and the cutoffs between them.
use Rattle.std.specs.Prelude.{◌≡◌, ◌⊎◌, ◌≤◌, ℕ, zero, suc, ◌+◌, ◌-◌, ◌*◌, ◌<◌, Bool, true, false, ◌&&◌, ◌==◌, nat_lt, nat_le, min, max, if◌then◌else◌}
use Rattle.std.specs.Prelude.{List, [], ◌∷◌, ◌++◌, length, map, filter, drop, slice_index}
use Rattle.std.specs.List.{sum_by}
use Rattle.homa_plain.specs.declared.packet.Cutoffs.{Cutoffs}
use Rattle.homa_plain.specs.Limits.{longest_message}

-- the levels of priority, the lowest first
abbrev pub levels : List ℕ
levels = 0 ∷ 1 ∷ 2 ∷ 3 ∷ 4 ∷ 5 ∷ 6 ∷ 7 ∷ []

-- the cutoffs of a host that has counted no message: each length goes at level 7
abbrev pub first_cutoffs : ℕ → Cutoffs
first_cutoffs k = record { version = 0; upto = map (λ i. if nat_lt i k then 0 else longest_message) levels }

-- the greatest level from k to n - 1 whose bound a length doesn't exceed; k if there is none
abbrev pub level_under : ℕ → ℕ → List ℕ → ℕ → ℕ
level_under k zero upto n = k
level_under k (suc i) upto n = if nat_le k i && nat_le n (slice_index upto i) then i else level_under k i upto n

-- the level of a message of n bytes, of those from k to 7
-- Source: SIGCOMM 2018, "Packet priorities" (from memory).
unfoldable pub level_of : ℕ → Cutoffs → ℕ → ℕ
level_of k c n = level_under k 8 c.upto n

-- how many lengths are remembered, a rule of this project
abbrev pub most_lengths : ℕ
most_lengths = 256

-- the lengths of the last messages, at most 256, when one of n bytes was opened
unfoldable pub noted : List ℕ → ℕ → List ℕ
noted lengths n = drop (length lengths + 1 - most_lengths) (lengths ++ n ∷ [])

-- how many bytes of a message need no grant
abbrev pub weight : ℕ → ℕ → ℕ
weight unsched n = min n unsched

-- the weight of all messages
abbrev pub total : ℕ → List ℕ → ℕ
total unsched lengths = sum_by (weight unsched) lengths

-- the weight of the messages of at most b bytes
abbrev pub weight_up_to : ℕ → List ℕ → ℕ → ℕ
weight_up_to unsched lengths b = sum_by (weight unsched) (filter (λ n. nat_le n b) lengths)

-- whether the messages of at most b bytes have j + 1 of m parts of the weight of all messages
abbrev pub has_share : ℕ → ℕ → List ℕ → ℕ → ℕ → Bool
has_share m unsched lengths j b = nat_le ((j + 1) * total unsched lengths) (m * weight_up_to unsched lengths b)

-- the least number that passes a test, of n numbers from b on that are tried in order; else b + n
unfoldable pub least_from : (ℕ → Bool) → ℕ → ℕ → ℕ
least_from test b zero = b
least_from test b (suc n) = elim (test b) [ true ↦ b | false ↦ least_from test (suc b) n ]

-- the greatest of the lengths
abbrev pub longest : List ℕ → ℕ
longest [] = 0
longest (n ∷ ns) = max n (longest ns)

-- the least bound with j + 1 of m parts of the weight; no bound above the greatest length has to be tried
abbrev pub bound : ℕ → ℕ → List ℕ → ℕ → ℕ
bound m unsched lengths j = least_from (has_share m unsched lengths j) 0 (longest lengths)

-- the bound of level i
abbrev pub bound_of_level : ℕ → ℕ → List ℕ → ℕ → ℕ
bound_of_level k unsched lengths i =
    if nat_lt i k then 0 else if i == k then longest_message else bound (8 - k) unsched lengths (7 - i)

-- the bounds of all levels, chosen so that the levels from k to 7 get equal parts of the weight
-- Source: SIGCOMM 2018, "Packet priorities" (from memory). That the last 256 messages count is a rule of this project.
unfoldable pub bounds : ℕ → ℕ → List ℕ → List ℕ
bounds k unsched lengths = map (bound_of_level k unsched lengths) levels

-- the cutoffs of a host by the lengths of its last messages
-- Source: SIGCOMM 2018, "Packet priorities" (from memory). That the last 256 lengths count is a rule of this project.
abbrev pub balanced : ℕ → ℕ → ℕ → List ℕ → Cutoffs
balanced k unsched version lengths = record { version = version; upto = bounds k unsched lengths }

-- a number passes a test that each smaller one fails
pub record IsLeastNumber (test : ℕ → Bool) (b : ℕ) : Type 0 where
  pub passes : test b ≡ true
  pub others_fail : (c : ℕ) → c < b → test c ≡ false

-- i is the greatest level from k to 7 whose bound n doesn't exceed, and k where there is none
pub record IsLevel (k : ℕ) (upto : List ℕ) (n i : ℕ) : Type 0 where
  pub from : k ≤ i
  pub to : i ≤ 7
  pub fits : (i ≡ k) ⊎ (n ≤ slice_index upto i)
  pub others_exceeded : (j : ℕ) → i < j → j ≤ 7 → slice_index upto j < n
