-- What is written through the reference to the host of a slot is the slot's.
use base.Fml.{Fml}
use denote.Follow.{follows}
use Rattle.std.specs.Borrow.{MutBor}
use Rattle.late_host.specs.Late.{Late}
use Rattle.homa_c.specs.declared.handle.slot.Slot.{Slot}
use Rattle.late_host.specs.contracts.late.LateHost as held
use Rattle.homa_c.specs.contracts.handle.slot.Slot as slot

-- the slot with this host
abbrev pub with_held : Slot → Late → Slot
with_held s x = record s { held = x }

abbrev pub slot_follows : MutBor Slot → MutBor Late → Fml
slot_follows b r = follows slot.the_row held.the_row b.ghost_name r.ghost_name (with_held b.now)
