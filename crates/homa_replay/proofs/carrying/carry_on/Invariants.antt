use Rattle.std.proofs.Common.{◌≡◌, ◌≤◌, ◌-◌, ◌*◌, true, false, None}
use Rattle.homa_plain.specs.World.{World}
use Rattle.script_lines.specs.Place.{IsCounted}
use Rattle.script_lines.specs.Taking.{TakesLines}
use Rattle.homa_replay.specs.Progress.{AreFar, left_at}
use Rattle.homa_replay.proofs.carrying.carry_on.Given as goal

-- what is due is the rest of the replay, in this world and from this place on; events are counted, each line of two bytes at least
abbrev pub invariant-lines : goal.invariant-lines
invariant-lines g l =
    let p = g.P.ReplayWorld in
    let src = g.S.Source in
    let snk = g.K.Sink in
    record {
      due : (first : World) → p.stands l.fn.world first → (w : World) × p.stands l.world w
          × AreFar (left_at (p.settings l.fn.world) first 0 l.fn.reader.place) (src.left l.fn.source) (src.left l.source) (snk.taken l.fn.sink)
          (snk.taken l.sink) (p.allows l.fn.world) (p.allows l.world) (left_at (p.settings l.fn.world) w l.events l.reader.place);
      took : TakesLines l.fn.reader.place l.reader.place (src.left l.fn.source) (src.left l.source);
      settings : p.settings l.world ≡ p.settings l.fn.world;
      started : l.reader.started ≡ true;
      not_ended : l.reader.ended ≡ false;
      running : l.reader.stopped ≡ None;
      counted : IsCounted l.reader.place;
      limit : l.reader.place.limit ≡ 68719476736;
      few : l.events ≤ 1650000 * l.reader.place.read;
      applied : p.events l.world ≤ l.events;
      quiet_source : src.faults l.source ≡ src.faults l.fn.source;
      quiet_sink : snk.faults l.sink ≡ snk.faults l.fn.sink;
      same_source : src.is_same l.fn.source l.source;
      same_sink : snk.is_same l.fn.sink l.sink;
    }

abbrev pub decreases-lines : goal.decreases-lines
decreases-lines g l = l.reader.place.limit - l.reader.place.read
