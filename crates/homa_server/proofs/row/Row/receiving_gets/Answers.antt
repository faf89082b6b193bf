use Rattle.std.proofs.Common.{◌≡◌, Bool, true, sym}
use Rattle.std.proofs.lemmas.Bool.{true≢false}
use Rattle.homa_plain.specs.declared.packet.Body.{Body}
use Rattle.homa_plain.specs.declared.packet.Body.TheVariants as body
use Rattle.homa_server.specs.Answers.{is_for, is_for_request}
use Rattle.homa_server.specs.Held.{HeldState, Arriving, Keeping, Answering, Gone, IfArriving, is_arriving}
use Rattle.homa_server.specs.Lending.{IsLeft}
use Rattle.homa_server.proofs.ArrivingLaws.{if_arriving, if_ok}
use Rattle.homa_server.proofs.row.Row.receiving_gets.Goals as goal

-- what holds of a request that arrives by whether a packet is for it holds by whether the packet is for its row
for_row : (state : HeldState) (what : Body) (P : Bool → Type 0) → is_arriving state ≡ true
    → IfArriving state (λ wanted part base count. P (is_for_request wanted part what)) → P (is_for what state)
for_row (Arriving service part base count) what P arrives h = h
for_row (Keeping response release) what P arrives h = absurd (true≢false (sym arrives))
for_row (Answering response out order base count) what P arrives h = absurd (true≢false (sym arrives))
for_row (Gone until) what P arrives h = absurd (true≢false (sym arrives))

pub returns-in-Data-clause-did : goal.returns-in-Data-clause-did
returns-in-Data-clause-did g c =
    rw c.in-Data.is
    (if_ok c.put.result _ _
    (λ did. if_arriving c.args.self.now.state _ _ (λ service part base count h id host free rows. h id host free rows c.in-Data.version)) c.put.ensures.did)

pub returns-in-Data-clause-left : goal.returns-in-Data-clause-left
returns-in-Data-clause-left g c =
    rw c.in-Data.is
    (if_ok c.put.result _ _
    (λ did. for_row c.args.self.now.state (body.Data c.in-Data.length c.in-Data.offset c.in-Data.version c.in-Data.service c.in-Data.ack)
    (λ is. IsLeft c.args.slot is c.args.self.now c.args.lent.now.pool.now c.put.new.self c.put.new.lent.pool.now did) c.requires.arriving)
    c.put.ensures.left)
