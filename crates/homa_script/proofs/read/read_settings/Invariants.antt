use Rattle.std.proofs.Common.{◌≡◌, ◌≤◌, ◌-◌}
use Rattle.text_lines.specs.Lines.{reading}
use Rattle.script_lines.specs.Place.{place_of, IsCounted}
use Rattle.script_lines.specs.Taking.{TakesLines}
use Rattle.homa_script.proofs.Openings.{IsOpen}
use Rattle.homa_script.proofs.read.read_settings.Given as goal

-- these settings hold after the lines so far
abbrev pub invariant-lines : goal.invariant-lines
invariant-lines g l =
    let left = g.S.Source.left in
    let faults = g.S.Source.faults in
    record {
      due : IsOpen (reading l.fn.lines).limit (reading l.lines) l.settings (left l.fn.source) (left l.source);
      took : TakesLines (place_of (reading l.fn.lines)) (place_of (reading l.lines)) (left l.fn.source) (left l.source);
      counted : IsCounted (place_of (reading l.lines));
      limit : (reading l.lines).limit ≡ (reading l.fn.lines).limit;
      longest : (reading l.lines).longest ≡ (reading l.fn.lines).longest;
      quiet : faults l.source ≡ faults l.fn.source;
      never_falls : faults l.fn.source ≤ faults l.source;
      same : g.S.Source.is_same l.fn.source l.source;
    }

abbrev pub decreases-lines : goal.decreases-lines
decreases-lines g l = (reading l.lines).limit - (reading l.lines).read
