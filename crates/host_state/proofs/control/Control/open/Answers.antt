use Rattle.std.proofs.Common.{sym, subst, rules}
use Rattle.host_state.specs.Control.{IsSound}
use Rattle.host_state.proofs.Opening.{new-sound, opened-new}
use Rattle.host_state.proofs.control.Control.open.Goals as goal

pub invariant_of-result : goal.invariant_of-result
invariant_of-result c =
    subst IsSound
    (sym (opened-new c.args.settings.now c.args.id c.args.inc c.args.last c.first-first.result c.in_ok-new.field-0 c.loop.peers.items c.loop.counter
    c.in_ok-new-2.field-0 c.in_ok-new-3.field-0
    c.first-first.ensures c.in_ok-new.ensures c.loop.invariant (search rules) c.in_ok-new-2.ensures.empty c.in_ok-new-3.ensures))
    (new-sound c.args.settings.now c.args.id c.args.inc c.args.last c.requires.valid c.requires.id c.requires.inc c.requires.last)

pub returns : goal.returns
returns c = opened-new c.args.settings.now c.args.id c.args.inc c.args.last c.first-first.result c.in_ok-new.field-0 c.loop.peers.items c.loop.counter
    c.in_ok-new-2.field-0 c.in_ok-new-3.field-0
    c.first-first.ensures c.in_ok-new.ensures c.loop.invariant (search rules) c.in_ok-new-2.ensures.empty c.in_ok-new-3.ensures
