-- A `&` to a block reaches each cell. Assumes `Logic`.
use denote.Struct.Lending.{of_Lends}
use Rattle.place_heap.specs.contracts.cells.Block as B
use Rattle.place_heap.proofs.cells.Cell.TheLaws as CL
use Rattle.place_heap.proofs.cells.Block.TheLaw.Statement.{statement}
use Rattle.place_heap.proofs.Sharing.{block_laws, Lends-block}

pub shares : statement
shares = of_Lends B.struct B.the_codes B.the_heap B.the_lent (λ d p. block_laws CL.the_row_laws d.base.ptr d.base.first d.base.stride d.slots) tt
    (λ M 𝓤 𝓛 d p. Lends-block 𝓛 (B.the_row).lives CL.the_row_laws (CL.the_within (B.the_row).lives) d.base.ptr d.base.first d.base.stride d.slots)
