use Rattle.std.proofs.Common.{ap, sym, List}
use Rattle.late_host.specs.declared.kept.KeptCall.{KeptCall}
use Rattle.late_host.specs.Kept.{Keeping}
use Rattle.late_host.proofs.CallLaws.{changed_at, unchanged}
use Rattle.late_host.proofs.kept.KeptCalls.hold.Goals as goal

pub returns-in-Some : goal.returns-in-Some
returns-in-Some c =
    let put = λ (calls : List KeptCall). let k : Keeping = record { room = c.self.inside.room; calls = calls } in k in
    let change = λ (call : KeptCall). let then : KeptCall = record call { answer = c.args.answer } in then in
    rw (← c.self.view_is) (ap put (changed_at c.args.id change c.self.inside.rows.items c.index_mut-call.result.now c.in-Some.place
    (sym (rw (← c.self.view_is) at c.in-Some.ensures)) c.index_mut-call.ensures.value))

pub returns-in_default : goal.returns-in_default
returns-in_default c =
    let put = λ (calls : List KeptCall). let k : Keeping = record { room = c.self.inside.room; calls = calls } in k in
    let change = λ (call : KeptCall). let then : KeptCall = record call { answer = c.args.answer } in then in
    rw (← c.self.view_is) (ap put (sym (unchanged c.args.id change c.self.inside.rows.items (sym (rw (← c.self.view_is) at c.in_default.ensures)))))
