use Rattle.std.proofs.Common.{ℕ, List, Some, sym, subst, ap, ◌∙◌, arith}
use Rattle.homa_plain.specs.Wire.{Spells}
use Rattle.homa_wire.specs.Checked.{made}
use Rattle.homa_wire.proofs.Payload.{is_read}
use Rattle.homa_wire.proofs.reading.whole.Goals as goal

pub overflow_sub-span : goal.overflow_sub-span
overflow_sub-span c =
    (is_read c.args._wire c.args.bytes.now (made c.args.header c.args.read.0) c.args.read.1.now (λ k. omega (arith, c.type_inv.bytes k)) c.requires).fits

pub returns-clause-read : goal.returns-clause-read
returns-clause-read c =
    let p = made c.args.header c.args.read.0 in
    let read = is_read c.args._wire c.args.bytes.now p c.args.read.1.now (λ k. omega (arith, c.type_inv.bytes k)) c.requires in
    ap (λ (xs : List ℕ). Some (p, xs)) read.part_is ∙ c.requires

pub returns-clause-spelled : goal.returns-clause-spelled
returns-clause-spelled c =
    let p = made c.args.header c.args.read.0 in
    let read = is_read c.args._wire c.args.bytes.now p c.args.read.1.now (λ k. omega (arith, c.type_inv.bytes k)) c.requires in
    subst (λ (xs : List ℕ). Spells c.args._wire c.args.bytes.now p xs) (sym read.part_is) read.spelled
