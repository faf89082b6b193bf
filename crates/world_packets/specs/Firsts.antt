-- Where packets that lie in several parts begin, one part behind the other.
use Rattle.std.specs.Prelude.{◌≡◌, ◌≤◌, ◌<◌, ℕ, ◌+◌, ◌-◌, ◌==◌, ◌&&◌, Bool, List, [], ◌∷◌, length, slice_get}
use Rattle.std.specs.List.{flat_map}
use Rattle.world_packets.specs.Kept.{KeptPacket}

module _ {T : Type 0} (first : T → ℕ) (kept : T → List KeptPacket) where
  -- the first packet of each part stands behind those of the parts before, and behind the last ones the number is `end`
  abbrev pub firsts_at : ℕ → List T → ℕ → Bool
  firsts_at n [] end = n == end
  firsts_at n (t ∷ ts) end = first t == n && firsts_at (n + length (kept t)) ts end

  -- the packet with number n is one of this part, where those of all parts begin with number m
  pub record IsIn (ts : List T) (m n : ℕ) (t : T) : Type 0 where
    pub from : first t ≤ n
    pub place : n - first t < length (kept t)
    pub same : slice_get (flat_map kept ts) (n - m) ≡ slice_get (kept t) (n - first t)
