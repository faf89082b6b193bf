use Rattle.std.proofs.Common.{sym, ◌∙◌}
use Rattle.host_view.specs.Marks.{shown_entries}
use Rattle.quiet_call.proofs.Telling.{told_at, none_told}
use Rattle.quiet_call.proofs.call.tells_done.Goals as goal

pub returns-then-is_done : goal.returns-then-is_done
returns-then-is_done c =
    sym (told_at (shown_entries c.args.host.now c.args.outbox.now c.args.scratch.now) c.loop-i.i _ c.entry.ensures (sym c.is_done.ensures ∙ c.if-is_done.true))

pub loop-i-preserved : goal.loop-i-preserved
loop-i-preserved c = none_told (shown_entries c.args.host.now c.args.outbox.now c.args.scratch.now) c.loop-i.i _ c.entry.ensures
    (sym c.is_done.ensures ∙ c.if-is_done.false) c.loop-i.invariant
