-- What the lines said so far.
use Rattle.std.proofs.Common.{◌≡◌, ◌≤◌, ◌-◌}
use Rattle.text_lines.specs.Lines.{reading}
use Rattle.script_lines.specs.Place.{place_of, IsCounted}
use Rattle.experiment.specs.Drafts.{drafting}
use Rattle.experiment.proofs.TextLaws.{IsOpen}
use Rattle.experiment.proofs.reading.read.Given as goal

abbrev pub invariant-lines : goal.invariant-lines
invariant-lines g l =
    let left = g.S.Source.left in
    let faults = g.S.Source.faults in
    record {
      due : IsOpen (reading l.lines) l.says (drafting l.draft) (left l.fn.source) (left l.source);
      counted : IsCounted (place_of (reading l.lines));
      longest : (reading l.lines).longest ≡ 2100000;
      never_falls : faults l.fn.source ≤ faults l.source;
      same : g.S.Source.is_same l.fn.source l.source;
    }

abbrev pub decreases-lines : goal.decreases-lines
decreases-lines g l = (reading l.lines).limit - (reading l.lines).read
