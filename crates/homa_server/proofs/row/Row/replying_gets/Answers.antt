use Rattle.std.proofs.Common.{◌<◌, ◌^◌, arith, subst}
use Rattle.homa_server.specs.Held.{IsKept, IsReplied}
use Rattle.homa_server.specs.View.{held_state}
use Rattle.homa_server.specs.Answers.{IsAsking}
use Rattle.homa_server.specs.declared.state.State.{State}
use Rattle.homa_server.proofs.KeptLaws.{kept-same, kept-grant, kept-resend}
use Rattle.homa_server.proofs.row.Row.replying_gets.Goals as goal
use Rattle.homa_server.proofs.row.Row.replying_gets.Goals.{in-Grant, in-Resend+in-Queued, in-Resend+in-Busy, in_default-body-2}

pub invariant_of-self-2 : goal.invariant_of-self-2
invariant_of-self-2 c =
    let response = c.in-Replying.response.items in
    let out = c.in-Replying.out in
    let base = c.in-Replying.base in
    let was : IsReplied response out base = subst (λ (s : State). IsKept (held_state s)) c.in-Replying.is c.self.invariant in
    let late : c.args.now < 2 ^ 63 = omega arith in
    elim c.match-body-2.branch [
      | in-Grant w ↦ rw (w.self-inside-is, w.grant.ensures)
          (kept-grant response out base c.args.now was late w.in-Grant.offset w.in-Grant.prio (subst IsAsking w.in-Grant.is c.requires.fits))
      | in-Resend+in-Queued w ↦
          rw (w.self-inside-is, w.resend.ensures.part)
          (kept-resend response out base c.args.now was late w.in-Resend.from w.in-Resend.to w.in-Resend.prio (subst IsAsking w.in-Resend.is c.requires.fits).1)
      | in-Resend+in-Busy w ↦
          rw (w.self-inside-is, w.resend.ensures.part)
          (kept-resend response out base c.args.now was late w.in-Resend.from w.in-Resend.to w.in-Resend.prio (subst IsAsking w.in-Resend.is c.requires.fits).1)
      | in_default-body-2 w ↦ rw w.self-inside-is (kept-same response out base c.args.now was late)
    ]
