use Rattle.std.proofs.Common.{refl}
use Rattle.check_lines.proofs.Starts.{at_first, no_items}
use Rattle.check_lines.proofs.trace.Trace.new.Goals as goal

pub returns : goal.returns
returns c =
    at_first _ c.usual.ensures.usual refl refl refl c.new.ensures.items (no_items c.new-2.result.keys c.new-2.ensures.len) c.new-3.ensures.items
    c.new-4.ensures.items refl refl
