-- The packets of a block.
use Rattle.std.specs.Prelude.{◌≤◌, ℕ, zero, suc, ◌+◌, ◌-◌, ◌*◌, List, [], ◌∷◌, length, take, drop, vec_capacity}
use Rattle.homa_plain.specs.declared.id.HostId.{HostId}
use Rattle.world_packets.specs.declared.block.Rec.{Rec}
use Rattle.world_packets.specs.declared.block.Block.{Block}

-- a packet as it was sent: from whom, to whom, and its datagram
pub record Frame : Type 0 where
  pub from : HostId
  pub to : HostId
  pub bytes : List ℕ

-- the packets of which the first begins at this byte
abbrev pub frames_from : ℕ → List Rec → List ℕ → List Frame
frames_from at [] bytes = []
frames_from at (r ∷ recs) bytes = record { from = r.from; to = r.to; bytes = take (r.end - at) (drop at bytes) } ∷ frames_from r.end recs bytes

-- the packets of a block as they were sent
abbrev pub frames_of : Block → List Frame
frames_of b = frames_from 0 b.recs.items b.bytes.items

-- how many bytes they have
abbrev pub size_of : Block → ℕ
size_of b = length b.bytes.items

-- where the packet with this number begins, of which the first begins at this byte
abbrev pub start_at : ℕ → List Rec → ℕ → ℕ
start_at at recs zero = at
start_at at [] (suc i) = at
start_at at (r ∷ recs) (suc i) = start_at r.end recs i

-- where the packet with this number ends
abbrev pub end_of : List Rec → ℕ → ℕ
end_of [] i = 0
end_of (r ∷ recs) zero = r.end
end_of (r ∷ recs) (suc i) = end_of recs i

-- no memory is taken for so many more, of 1,444 bytes at most
pub record HasRoom (b : Block) (n : ℕ) : Type 0 where
  pub recs : length b.recs.items + n ≤ vec_capacity b.recs
  pub bytes : length b.bytes.items + n * 1444 ≤ vec_capacity b.bytes
