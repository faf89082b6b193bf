-- A slot that holds a host, and its parts, own what a box at the same types owns.
use mir.Syntax.{impl, tnil, dnil}
use mathlib.Core.List.{[]}
use denote.Signature.{Slot, plain}
use Rattle.std_alloc.proofs.BoxSteps.Form.{Bx}
use Rattle.std_heap.specs.contracts.Global as Heap
use Rattle.std_heap.specs.contracts.GlobalAllocator.TheImpl.{ghosts, dict}
use Rattle.std_heap.proofs.Global.TheLaws as heap
use Rattle.late_host.specs.contracts.late.LateHost as Held
use Rattle.homa_plain.specs.Settings.{usual}
use Rattle.driven_host.specs.Asking.{opened}
use Rattle.late_host.proofs.late.LateHost.TheLaws as held
use Rattle.homa_c.specs.contracts.handle.slot.parts.Parts as Parts
use Rattle.homa_c.specs.contracts.handle.slot.Slot as Slotted

abbrev pub E : Bx
E = record {
  row = Held.the_row;
  laws = held.the_row_laws;
  al = record { row = Heap.the_row; laws = heap.the_row_laws; g = ghosts; d = dict; drops = impl [] tnil dnil };
}

abbrev pub FromParts : Slot 0
FromParts = plain (λ _. Parts.the_row Held.the_row Heap.the_row ghosts)

abbrev pub FromSlot : Slot 0
FromSlot = plain (λ _. Slotted.the_row)

-- stands where a slot holds nothing
abbrev pub nothing_held : Held.the_row.Denot
nothing_held = record { driven = opened usual (record { 0 = 0 }) 1 0; calls = []; room = 0; keep = 0 }
