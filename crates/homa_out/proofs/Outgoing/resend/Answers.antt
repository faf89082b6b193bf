use Rattle.homa_out.proofs.KeptLaws.{busy-part, busy-told, queued}
use Rattle.homa_out.proofs.Outgoing.resend.Goals as goal

pub returns-then-has_all-clause-part : goal.returns-then-has_all-clause-part
returns-then-has_all-clause-part c =
    rw (← c.self.view_is) (busy-part _ c.args.a c.args.b c.args.prio _ _ c.min-end.ensures c.has_all.ensures.all c.if-has_all.true)

pub returns-then-has_all-clause-answer : goal.returns-then-has_all-clause-answer
returns-then-has_all-clause-answer c =
    rw (← c.self.view_is) (busy-told _ c.args.a c.args.b c.args.prio _ _ c.min-end.ensures c.has_all.ensures.all c.if-has_all.true)

pub invariant_of-self-in-Count : goal.invariant_of-self-in-Count
invariant_of-self-in-Count c =
    (queued _ c.args.a c.args.b c.args.prio _ _ _ _ _ c.self.invariant c.min-end.ensures c.max-self-inside.ensures c.in-Count.ensures.added
    c.has_all.ensures.all c.if-has_all.false).kept

pub returns-in-Count-clause-part : goal.returns-in-Count-clause-part
returns-in-Count-clause-part c =
    rw (← c.self.view_is)
    (queued _ c.args.a c.args.b c.args.prio _ _ _ _ _ c.self.invariant c.min-end.ensures c.max-self-inside.ensures c.in-Count.ensures.added
    c.has_all.ensures.all c.if-has_all.false).part

pub returns-in-Count-clause-answer : goal.returns-in-Count-clause-answer
returns-in-Count-clause-answer c =
    rw (← c.self.view_is)
    (queued _ c.args.a c.args.b c.args.prio _ _ _ _ _ c.self.invariant c.min-end.ensures c.max-self-inside.ensures c.in-Count.ensures.added
    c.has_all.ensures.all c.if-has_all.false).told
