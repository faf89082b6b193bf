use Rattle.std.proofs.Common.{sym, ◌∙◌, arith, true≢false}
use Rattle.quiet_call.specs.Standing.{asked, answered}
use Rattle.quiet_call.proofs.call.QuietCall.finish.Goals as goal

pub unreachable-requires : goal.unreachable-requires
unreachable-requires c =
    let l = c.loop-self.self in
    let inv = c.loop-self.invariant in
    let e = c.quiet_calls_end.ensures l.settings (asked l) (answered l) inv.goes_on.calm in
    true≢false (sym e.quiet.done ∙ inv.goes_on.not_yet e.rounds
    (omega (arith, e.within, c.loop-self-test.false, c.bound-most.ensures, c.size.ensures, inv.same.asked, inv.same.answered)))
