use Rattle.std.proofs.Common.{None, arith}
use Rattle.homa_plain.specs.declared.packet.Packet.{Packet}
use Rattle.homa_wire.proofs.Headers.{packet_read, packet_unread, packet_unknown}
use Rattle.homa_wire.proofs.Payload.{none_read}
use Rattle.homa_wire.proofs.reading.decode.Goals as goal

pub returns-in_err-header-clause-none : goal.returns-in_err-header-clause-none
returns-in_err-header-clause-none c =
    none_read c.args.wire c.args.bytes.now c.from_residual.result (λ k. omega (arith, c.type_inv.bytes k)) c.in_err-header.ensures

pub returns-in_err-read_data-in-1-clause-read : goal.returns-in_err-read_data-in-1-clause-read
returns-in_err-read_data-in-1-clause-read c =
    rw c.from_residual-in_err-read_data-in-1.ensures
    (packet_unread c.args.wire 1 c.args.bytes.now _ _ c.in_ok-header.ensures c.in-1.is c.in_err-read_data-in-1.ensures)

pub returns-in_err-read_data-in-1-clause-none : goal.returns-in_err-read_data-in-1-clause-none
returns-in_err-read_data-in-1-clause-none c =
    none_read c.args.wire c.args.bytes.now c.from_residual-in_err-read_data-in-1.result (λ i. omega (arith, c.type_inv.bytes i))
    (packet_unread c.args.wire 1 c.args.bytes.now _ _ c.in_ok-header.ensures c.in-1.is c.in_err-read_data-in-1.ensures)

pub whole-requires : goal.whole-requires
whole-requires c =
    packet_read c.args.wire 1 c.args.bytes.now _ _ _ _ c.in_ok-header.ensures c.in-1.is c.in_ok-read_data-in-1.ensures

pub returns-in_err-read_grant-in-2-clause-read : goal.returns-in_err-read_grant-in-2-clause-read
returns-in_err-read_grant-in-2-clause-read c =
    rw c.from_residual-in_err-read_grant-in-2.ensures
    (packet_unread c.args.wire 2 c.args.bytes.now _ _ c.in_ok-header.ensures c.in-2.is c.in_err-read_grant-in-2.ensures)

pub returns-in_err-read_grant-in-2-clause-none : goal.returns-in_err-read_grant-in-2-clause-none
returns-in_err-read_grant-in-2-clause-none c =
    none_read c.args.wire c.args.bytes.now c.from_residual-in_err-read_grant-in-2.result (λ i. omega (arith, c.type_inv.bytes i))
    (packet_unread c.args.wire 2 c.args.bytes.now _ _ c.in_ok-header.ensures c.in-2.is c.in_err-read_grant-in-2.ensures)

pub whole-requires-in-2 : goal.whole-requires-in-2
whole-requires-in-2 c =
    packet_read c.args.wire 2 c.args.bytes.now _ _ _ _ c.in_ok-header.ensures c.in-2.is c.in_ok-read_grant-in-2.ensures

pub returns-in_err-read_resend-in-3-clause-read : goal.returns-in_err-read_resend-in-3-clause-read
returns-in_err-read_resend-in-3-clause-read c =
    rw c.from_residual-in_err-read_resend-in-3.ensures
    (packet_unread c.args.wire 3 c.args.bytes.now _ _ c.in_ok-header.ensures c.in-3.is c.in_err-read_resend-in-3.ensures)

pub returns-in_err-read_resend-in-3-clause-none : goal.returns-in_err-read_resend-in-3-clause-none
returns-in_err-read_resend-in-3-clause-none c =
    none_read c.args.wire c.args.bytes.now c.from_residual-in_err-read_resend-in-3.result (λ i. omega (arith, c.type_inv.bytes i))
    (packet_unread c.args.wire 3 c.args.bytes.now _ _ c.in_ok-header.ensures c.in-3.is c.in_err-read_resend-in-3.ensures)

pub whole-requires-in-3 : goal.whole-requires-in-3
whole-requires-in-3 c =
    packet_read c.args.wire 3 c.args.bytes.now _ _ _ _ c.in_ok-header.ensures c.in-3.is c.in_ok-read_resend-in-3.ensures

pub returns-in_err-read_busy-in-4-clause-read : goal.returns-in_err-read_busy-in-4-clause-read
returns-in_err-read_busy-in-4-clause-read c =
    rw c.from_residual-in_err-read_busy-in-4.ensures
    (packet_unread c.args.wire 4 c.args.bytes.now _ _ c.in_ok-header.ensures c.in-4.is c.in_err-read_busy-in-4.ensures)

pub returns-in_err-read_busy-in-4-clause-none : goal.returns-in_err-read_busy-in-4-clause-none
returns-in_err-read_busy-in-4-clause-none c =
    none_read c.args.wire c.args.bytes.now c.from_residual-in_err-read_busy-in-4.result (λ i. omega (arith, c.type_inv.bytes i))
    (packet_unread c.args.wire 4 c.args.bytes.now _ _ c.in_ok-header.ensures c.in-4.is c.in_err-read_busy-in-4.ensures)

pub whole-requires-in-4 : goal.whole-requires-in-4
whole-requires-in-4 c =
    packet_read c.args.wire 4 c.args.bytes.now _ _ _ _ c.in_ok-header.ensures c.in-4.is c.in_ok-read_busy-in-4.ensures

pub returns-in_err-read_cutoffs-in-5-clause-read : goal.returns-in_err-read_cutoffs-in-5-clause-read
returns-in_err-read_cutoffs-in-5-clause-read c =
    rw c.from_residual-in_err-read_cutoffs-in-5.ensures
    (packet_unread c.args.wire 5 c.args.bytes.now _ _ c.in_ok-header.ensures c.in-5.is c.in_err-read_cutoffs-in-5.ensures)

pub returns-in_err-read_cutoffs-in-5-clause-none : goal.returns-in_err-read_cutoffs-in-5-clause-none
returns-in_err-read_cutoffs-in-5-clause-none c =
    none_read c.args.wire c.args.bytes.now c.from_residual-in_err-read_cutoffs-in-5.result (λ i. omega (arith, c.type_inv.bytes i))
    (packet_unread c.args.wire 5 c.args.bytes.now _ _ c.in_ok-header.ensures c.in-5.is c.in_err-read_cutoffs-in-5.ensures)

pub whole-requires-in-5 : goal.whole-requires-in-5
whole-requires-in-5 c =
    packet_read c.args.wire 5 c.args.bytes.now _ _ _ _ c.in_ok-header.ensures c.in-5.is c.in_ok-read_cutoffs-in-5.ensures

pub returns-in_err-read_unknown-in-6-clause-read : goal.returns-in_err-read_unknown-in-6-clause-read
returns-in_err-read_unknown-in-6-clause-read c =
    rw c.from_residual-in_err-read_unknown-in-6.ensures
    (packet_unread c.args.wire 6 c.args.bytes.now _ _ c.in_ok-header.ensures c.in-6.is c.in_err-read_unknown-in-6.ensures)

pub returns-in_err-read_unknown-in-6-clause-none : goal.returns-in_err-read_unknown-in-6-clause-none
returns-in_err-read_unknown-in-6-clause-none c =
    none_read c.args.wire c.args.bytes.now c.from_residual-in_err-read_unknown-in-6.result (λ i. omega (arith, c.type_inv.bytes i))
    (packet_unread c.args.wire 6 c.args.bytes.now _ _ c.in_ok-header.ensures c.in-6.is c.in_err-read_unknown-in-6.ensures)

pub whole-requires-in-6 : goal.whole-requires-in-6
whole-requires-in-6 c =
    packet_read c.args.wire 6 c.args.bytes.now _ _ _ _ c.in_ok-header.ensures c.in-6.is c.in_ok-read_unknown-in-6.ensures

pub returns-in_err-read_need_ack-in-7-clause-read : goal.returns-in_err-read_need_ack-in-7-clause-read
returns-in_err-read_need_ack-in-7-clause-read c =
    rw c.from_residual-in_err-read_need_ack-in-7.ensures
    (packet_unread c.args.wire 7 c.args.bytes.now _ _ c.in_ok-header.ensures c.in-7.is c.in_err-read_need_ack-in-7.ensures)

pub returns-in_err-read_need_ack-in-7-clause-none : goal.returns-in_err-read_need_ack-in-7-clause-none
returns-in_err-read_need_ack-in-7-clause-none c =
    none_read c.args.wire c.args.bytes.now c.from_residual-in_err-read_need_ack-in-7.result (λ i. omega (arith, c.type_inv.bytes i))
    (packet_unread c.args.wire 7 c.args.bytes.now _ _ c.in_ok-header.ensures c.in-7.is c.in_err-read_need_ack-in-7.ensures)

pub whole-requires-in-7 : goal.whole-requires-in-7
whole-requires-in-7 c =
    packet_read c.args.wire 7 c.args.bytes.now _ _ _ _ c.in_ok-header.ensures c.in-7.is c.in_ok-read_need_ack-in-7.ensures

pub returns-in_err-read_acks-in-8-clause-read : goal.returns-in_err-read_acks-in-8-clause-read
returns-in_err-read_acks-in-8-clause-read c =
    rw c.from_residual-in_err-read_acks-in-8.ensures
    (packet_unread c.args.wire 8 c.args.bytes.now _ _ c.in_ok-header.ensures c.in-8.is c.in_err-read_acks-in-8.ensures)

pub returns-in_err-read_acks-in-8-clause-none : goal.returns-in_err-read_acks-in-8-clause-none
returns-in_err-read_acks-in-8-clause-none c =
    none_read c.args.wire c.args.bytes.now c.from_residual-in_err-read_acks-in-8.result (λ i. omega (arith, c.type_inv.bytes i))
    (packet_unread c.args.wire 8 c.args.bytes.now _ _ c.in_ok-header.ensures c.in-8.is c.in_err-read_acks-in-8.ensures)

pub whole-requires-in-8 : goal.whole-requires-in-8
whole-requires-in-8 c =
    packet_read c.args.wire 8 c.args.bytes.now _ _ _ _ c.in_ok-header.ensures c.in-8.is c.in_ok-read_acks-in-8.ensures

pub returns-clause-read : goal.returns-clause-read
returns-clause-read c =
    packet_unknown c.args.wire c.args.bytes.now _ _ c.in_ok-header.ensures (λ lo hi. omega (arith, lo, hi))

pub returns-clause-none : goal.returns-clause-none
returns-clause-none c =
    none_read {A = Packet} c.args.wire c.args.bytes.now None (λ i. omega (arith, c.type_inv.bytes i))
    (packet_unknown c.args.wire c.args.bytes.now _ _ c.in_ok-header.ensures (λ lo hi. omega (arith, lo, hi)))
