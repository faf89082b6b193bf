use Rattle.std.proofs.Common.{◌≡◌, ◌≤◌, ◌*◌, ◌-◌, true, false, None}
use Rattle.script_lines.specs.Place.{IsCounted}
use Rattle.bench_script.proofs.Counts.{IsCounting}
use Rattle.bench_script.proofs.count_events.Given as goal

-- so many events came so far, and the reader goes on
abbrev pub invariant-loop-events : goal.invariant-loop-events
invariant-loop-events g l = record {
  due : IsCounting 68719476736 l.reader.place l.events (g.S.Source.left l.fn.source) (g.S.Source.left l.source);
  started : l.reader.started ≡ true;
  not_ended : l.reader.ended ≡ false;
  running : l.reader.stopped ≡ None;
  counted : IsCounted l.reader.place;
  limit : l.reader.place.limit ≡ 68719476736;
  few : l.events ≤ 100000 * l.reader.place.read;
}

abbrev pub decreases-loop-events : goal.decreases-loop-events
decreases-loop-events g l = l.reader.place.limit - l.reader.place.read
