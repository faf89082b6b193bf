use Rattle.std.proofs.Common.{◌≡◌, refl, sym, ap, subst, ◌∙◌, cond, Option, Some, None}
use Rattle.std.specs.Option.{option_and_then}
use Rattle.homa_plain.specs.declared.row.OutFacts.{OutFacts}
use Rattle.homa_plain.specs.declared.row.RowFacts.{RowFacts}
use Rattle.msg_pool.specs.Pool.{Pool}
use Rattle.homa_in.specs.Part.{Part}
use Rattle.homa_in.specs.Pooled.{IsInPool, seen_part}
use Rattle.homa_server.specs.Held.{HeldState, Arriving, Keeping, Answering, Gone, seen_state, state_part}
use Rattle.homa_server.proofs.StandLaws.{in_pool}
use Rattle.host_books.specs.Duty.{timer_duty, arrival_duty, arriving}
use Rattle.homa_host.proofs.ReplyDuty.{waiting_reply}
use Rattle.homa_host.proofs.outcome.server_duties.Goals as goal

arriving_part : (pool : Pool) (state : HeldState) → seen_part pool (state_part state) ≡ arriving (seen_state pool state)
arriving_part pool (Arriving service part base count) = refl
arriving_part pool (Keeping response release) = refl
arriving_part pool (Answering response out order base count) = refl
arriving_part pool (Gone until) = refl

pub returns : goal.returns
returns c id r pool stands are =
    let facts = c.row-facts.ensures.facts id r stands in
    let part = c.incoming.ensures id r stands in
    let within = subst (IsInPool pool) (sym part) (in_pool c.args.servers.now.rows c.args.place id r stands pool are) in
    let timer = c.deadline_of.ensures ∙ ap (λ (f : RowFacts). timer_duty f.order c.deadline.result) facts
    ∙ ap (timer_duty r.order) (c.deadline.ensures id r pool stands are) in
    let arrival =
    c.arrival_of.ensures pool within ∙ ap (λ (o : Option Part). arrival_duty (seen_part pool o)) part ∙ ap arrival_duty (arriving_part pool r.state) in
    let waiting = c.waiting_of.ensures
    ∙ ap (λ (f : RowFacts). option_and_then (λ (o : OutFacts). cond o.waiting (Some (record { left = o.left; order = o.order })) None) f.out) facts
    ∙ waiting_reply pool r.state in
    λ i. record { timer = timer i; arrival = arrival i; waiting = waiting i }
