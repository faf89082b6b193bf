-- The row answers what became of the opening of its part.
use Rattle.std.proofs.Common.{◌≡◌, ◌∙◌, ap, sym, subst, Some, None}
use Rattle.homa_client.specs.Held.{HeldRow, seen_row}
use Rattle.homa_plain.specs.AtServer.{piece_of}
use Rattle.homa_plain.specs.AtClient.{response_piece}
use Rattle.homa_client.specs.Gives.{Gave, moment_of}
use Rattle.homa_client.specs.declared.answers.RowDid.{RowDid}
use Rattle.homa_client.proofs.OpenLaws.{answer_to, opened_gave}
use Rattle.homa_client.proofs.row.Row.open_with.Goals as goal
use Rattle.homa_client.proofs.row.Row.open_with.Goals.{in-Full, in-Whole, in-Begun}

pub returns-clause-gave : goal.returns-clause-gave
returns-clause-gave c s id host now rows version e =
    let old = c.args.lent.now.pool.now in
    let self = c.args.self.now in
    let m = moment_of host now c.args.order old self.part rows in
    let piece = piece_of c.args.piece.size c.args.piece.offset version c.args.piece.service c.args.piece.bytes.now in
    let gave : HeldRow → RowDid → Type 0 = λ row did. Gave m id (Some piece) (response_piece s m id (seen_row old self) None piece) old self
    c.open_part.new.pool row c.open_part.new.scratch did in
    let here = opened_gave s id host now c.args.order rows version c.args.piece.service c.args.piece.size c.args.piece.offset c.args.unsched
    c.args.piece.bytes.now old c.open_part.new.pool c.self.inside.server self c.requires.none e (ap (λ (r : HeldRow). r.server) c.self.view_is)
    c.open_part.new.scratch c.open_part.new.part c.open_part.result c.open_part.ensures in
    let answer : c.match-open_part.result ≡ answer_to c.open_part.result = elim c.match-open_part.branch [
      | in-Full w ↦ w.result-is ∙ ap answer_to (sym w.in-Full.is)
      | in-Whole w ↦ w.result-is ∙ ap answer_to (sym w.in-Whole.is)
      | in-Begun w ↦ w.result-is ∙ ap answer_to (sym w.in-Begun.is)
    ] in
    let after = ap (λ (r : HeldRow). record r { part = c.open_part.new.part }) c.self.view_is in
    subst (λ (row : HeldRow). gave row c.match-open_part.result) (sym after)
    (subst (gave (record self { part = c.open_part.new.part })) (sym answer) here)
