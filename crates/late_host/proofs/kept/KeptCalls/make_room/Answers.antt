use Rattle.std.proofs.Common.{◌≤◌, length, arith}
use Rattle.late_host.proofs.CallLaws.{fewer}
use Rattle.late_host.proofs.kept.KeptCalls.make_room.Goals as goal

pub returns-clause-room : goal.returns-clause-room
returns-clause-room c = λ _.
    let h = c.in-Some.ensures.kept in
    let less = fewer c.in-Some.oldest.now c.args.self.now.calls h.0 h.1 h.2 in
    let within : length c.args.self.now.calls ≤ c.args.self.now.room = rw (← c.self.view_is) (omega (arith, c.self.invariant.1, c.self.inside.rows.ok.0)) in
    rw c.take_out.ensures (omega (arith, less, within))
