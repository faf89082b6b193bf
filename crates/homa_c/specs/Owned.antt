-- What a slot owns: the same as a box, while it holds a host.
use Rattle.std.specs.Prelude.{Bool, true, false}
use base.Fml.{Fml, ftrue}
use base.Stored.{Coded}
use denote.RawPtr.{Ptr}
use Rattle.std.specs.Box.Ownership.{box_owns}
use Rattle.std.specs.Global.{Global}
use Rattle.std_heap.specs.contracts.GlobalAllocator.TheImpl.{ghosts}
use Rattle.late_host.specs.contracts.late.LateHost.{the_row}

-- the block of the host that lies there, if there is one
abbrev pub slot_owns : Global → Ptr → Bool → the_row.Denot → Fml
slot_owns alloc at true x = box_owns (ghosts.dealloc_token alloc) the_row at x
slot_owns alloc at false x = ftrue

abbrev pub held_coded : Coded the_row.Denot
held_coded = the_row.coded
