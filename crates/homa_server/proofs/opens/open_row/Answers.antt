use Rattle.std.proofs.Common.{ℕ, List, sym, subst}
use Rattle.homa_plain.specs.AtServer.{piece_of, opens}
use Rattle.homa_server.specs.Answers.{IsAsked}
use Rattle.homa_server.proofs.OpenLaws.{on_err, opens-asks, begun_did, whole_did}
use Rattle.homa_server.proofs.opens.open_row.Goals as goal

pub returns-in_err-reply-in-Whole-clause-asks : goal.returns-in_err-reply-in-Whole-clause-asks
returns-in_err-reply-in-Whole-clause-asks g c = on_err c.from_residual.result _ (λ id m version a room free.
    let piece = piece_of c.args.piece.size c.args.piece.offset version c.args.piece.service c.args.piece.bytes.now in
    subst (λ (request : List ℕ). IsAsked id c.args.piece.service request (opens c.args.settings.now m id piece a)) (sym c.in-Whole.ensures.message)
    (opens-asks c.args.settings.now m id piece a room (rw free c.in-Whole.ensures.enough) c.in-Whole.ensures.whole))

pub returns-in-Some-clause-did : goal.returns-in-Some-clause-did
returns-in-Some-clause-did g c id host rows version slot same room a _ =
    begun_did c.args.settings.now id host c.args.at.now c.args.at.order rows version c.args.piece.service c.args.piece.size c.args.piece.offset
    c.args.piece.bytes.now
    c.args.lent.now.pool.now c.open_part.new.pool c.args.client same room
    c.in-Some.part c.receiving-row.result (rw c.in-Some.is at c.in-Begun.ensures) c.receiving-row.ensures a

pub returns-in_ok-reply-in-Whole-clause-did : goal.returns-in_ok-reply-in-Whole-clause-did
returns-in_ok-reply-in-Whole-clause-did g c id host rows version slot same room a answer =
    whole_did c.args.settings.now id host c.args.at.now c.args.at.order rows version c.args.piece.service c.args.piece.size c.args.piece.offset
    c.args.piece.bytes.now
    c.args.lent.now.pool.now c.open_part.new.pool c.args.client same room
    c.open_part.new.scratch c.in_ok-reply-in-Whole.reply.bytes c.hold-hold.result c.replied-row.result c.open_part.new.part c.in-Whole.ensures
    (rw c.hold-hold.ensures c.replied-row.ensures) a answer
