-- What the state of a server's row has in the pacer's book.
use Rattle.std.proofs.Common.{◌≡◌, refl, cond, Some, None}
use Rattle.std.specs.Option.{option_and_then}
use Rattle.homa_plain.specs.declared.row.OutFacts.{OutFacts}
use Rattle.msg_pool.specs.Pool.{Pool}
use Rattle.homa_server.specs.Held.{HeldState, Arriving, Keeping, Answering, Gone, seen_state}
use Rattle.homa_server.specs.Answers.{out_facts}
use Rattle.host_books.specs.Duty.{reply_duty}

-- the bytes that wait by its facts are those that wait as it is seen
pub waiting_reply : (pool : Pool) (state : HeldState)
    → option_and_then (λ (o : OutFacts). cond o.waiting (Some (record { left = o.left; order = o.order })) None) (out_facts state) ≡ reply_duty
    (seen_state pool state)
waiting_reply pool (Arriving service part base count) = refl
waiting_reply pool (Keeping response release) = refl
waiting_reply pool (Answering response out order base count) = refl
waiting_reply pool (Gone until) = refl
