use Rattle.std.proofs.Common.{◌≡◌, ◌∙◌, true, false, ap, sym, subst, Some, Option}
use Rattle.std.specs.Option.{is_some}
use Rattle.homa_plain.specs.Incoming.{Incoming}
use Rattle.homa_plain.specs.AtClient.{response_piece}
use Rattle.homa_plain.specs.AtServer.{piece_of}
use Rattle.homa_in.specs.Part.{Part}
use Rattle.homa_in.specs.Pooled.{Moves, seen_part}
use Rattle.homa_in.proofs.MoveLaws.{still}
use Rattle.homa_client.specs.Held.{HeldRow, seen_row}
use Rattle.homa_client.specs.Gives.{Gave, moment_of}
use Rattle.homa_client.proofs.ReceiveLaws.{put_case, part_there, part_gone}
use Rattle.homa_client.proofs.row.Row.answer.Goals as goal

pub returns-then-is_some-clause-gave : goal.returns-then-is_some-clause-gave
returns-then-is_some-clause-gave c s host now rows e =
    let old = c.args.lent.now.pool.now in
    let self = c.args.self.now in
    let m = moment_of host now c.args.order old self.part rows in
    let piece = piece_of c.in-Data.length c.in-Data.offset c.in-Data.version c.in-Data.service c.args.payload.now in
    let there : is_some self.part ≡ true = ap (λ (r : HeldRow). is_some r.part) (sym c.self.view_is) ∙ sym c.is_some.ensures ∙ c.if-is_some.true in
    rw c.in-Data.is (put_case (λ d. Gave m c.args.id (Some piece) d old self c.put.new.lent.pool.now c.put.new.self c.put.new.lent.scratch.now c.put.result)
    s m c.args.id (seen_row old self) piece (seen_part old self.part) (part_there old self.part there) (c.put.ensures.gave m c.in-Data.version))

pub returns-else-is_some-clause-gave : goal.returns-else-is_some-clause-gave
returns-else-is_some-clause-gave c s host now rows e =
    let old = c.args.lent.now.pool.now in
    let self = c.args.self.now in
    let m = moment_of host now c.args.order old self.part rows in
    let piece = piece_of c.in-Data.length c.in-Data.offset c.in-Data.version c.in-Data.service c.args.payload.now in
    let gone : is_some self.part ≡ false = ap (λ (r : HeldRow). is_some r.part) (sym c.self.view_is) ∙ sym c.is_some.ensures ∙ c.if-is_some.false in
    rw c.in-Data.is
    (subst (λ (o : Option Incoming). Gave m c.args.id (Some piece) (response_piece s m c.args.id (seen_row old self) o piece) old self
    c.open_with.new.lent.pool.now c.open_with.new.self c.open_with.new.lent.scratch.now c.open_with.result)
    (sym (part_gone old self.part gone)) (c.open_with.ensures.gave s c.args.id host now rows c.in-Data.version e))

pub returns-in-Resend-clause-gave : goal.returns-in-Resend-clause-gave
returns-in-Resend-clause-gave c s host now rows e = rw c.in-Resend.is (record {
  did = c.resend.ensures.did (moment_of host now c.args.order c.args.lent.now.pool.now c.args.self.now.part rows) c.args.id c.args.lent.now.pool.now
      c.args.lent.now.scratch.now;
  moves = subst (λ (o : Option Part). Moves c.args.lent.now.pool.now c.args.self.now.part c.args.lent.now.pool.now o) (sym c.resend.ensures.part)
      (still c.args.lent.now.pool.now c.args.self.now.part c.requires.pool);
  gone = c.resend.ensures.stays;
})
