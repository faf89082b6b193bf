use Rattle.range_set.proofs.Walks.{no_range, next, room_below, room_above}
use Rattle.range_set.proofs.kept.part.Goals as goal

pub lead-requires : goal.lead-requires
lead-requires c = room_below _ _ _ _ _ _ _ _ c.loop-range.invariant (next c.args.kept.now c.loop-range.range-index no_range c.loop-range-test.true)
    c.min.ensures c.requires.few

pub lead-requires-in-loop-range : goal.lead-requires-in-loop-range
lead-requires-in-loop-range c =
    room_above _ _ _ _ _ _ _ _ _ _ c.loop-range.invariant (next c.args.kept.now c.loop-range.range-index no_range c.loop-range-test.true)
    c.min.ensures c.max.ensures c.lead.ensures c.requires.few
