use Rattle.std.proofs.Common.{ap, ◌∙◌, ℕ, List, arith, drop, take}
use Rattle.std.proofs.lemmas.List.{take_rest, length-take-le}
use Rattle.homa_io.proofs.Parts.{moved}
use Rattle.homa_io.proofs.input.Input.read_into.Goals as goal

pub returns-clause-read : goal.returns-clause-read
returns-clause-read c =
    let at = c.args.self.now.read in
    let n = c.min-n.result in
    let part_is = rw take_rest at c.copy_from_slice.ensures.after ∙ ap (λ (l : List ℕ). take n (drop at l)) c.deref.ensures.value in
    moved c.args.self.now.bytes.items c.copy_from_slice.new.self _ at n part_is
    (c.copy_from_slice.ensures.len ∙ length-take-le n c.args.buf.now (omega arith))
