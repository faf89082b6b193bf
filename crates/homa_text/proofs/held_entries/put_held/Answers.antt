use Rattle.homa_io.proofs.Adding.{room_failed, room_then}
use Rattle.homa_text.proofs.held_entries.put_held.Goals as goal
use Rattle.homa_text.proofs.held_entries.put_held.Goals.{else-branch-via-then-branch+else-add_entry, else-branch-via-else-branch}

pub returns-in_err-make_room : goal.returns-in_err-make_room
returns-in_err-make_room g c = room_failed _ _ _ _ c.from_residual.ensures.0 c.in_err-make_room.ensures.below c.in_err-make_room.ensures.whole

pub returns : goal.returns
returns g c =
    let on = g.met.K.Sink.same_on in
    let e = c.in_ok-make_room.ensures in
    let mid = c.make_room.new.self in
    elim c.else-branch.branch [
      | else-branch-via-then-branch+else-add_entry w ↦
          room_then _ mid _ _ e.below e.whole _ on (rw (w.sink-is, w.add_entry.ensures.none w.if-add_entry.false) at c.put_entry-2.ensures)
      | else-branch-via-else-branch w ↦ room_then _ mid _ _ e.below e.whole _ on (rw w.sink-is at c.put_entry-2.ensures)
    ]
