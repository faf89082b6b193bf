-- Where the packets of a block end.
use Rattle.std.specs.Prelude.{ℕ, ◌==◌, ◌&&◌, nat_le, Bool, List, [], ◌∷◌}
use Rattle.world_packets.specs.declared.block.Rec.{Rec}

-- each packet ends where the next one begins, and the last one at the end
abbrev pub ends_at : ℕ → List Rec → ℕ → Bool
ends_at at [] end = at == end
ends_at at (r ∷ recs) end = nat_le at r.end && ends_at r.end recs end
