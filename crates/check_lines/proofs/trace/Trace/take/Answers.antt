use Rattle.std.proofs.Common.{refl}
use Rattle.check_lines.proofs.TakenLaws.{taken_is, ready}
use Rattle.homa_plain.specs.Entries.{plain}
use Rattle.check_lines.proofs.trace.Trace.take.Goals as goal

pub returns : goal.returns
returns c v f small shape once =
    let t = c.args.self.now in
    let r = ready v t f in
    let e = c.in_ok-take_line.ensures in
    taken_is v f.block.undo t c.take_line.new.self _ (plain c.args.line.now) f r (e.taken v f.block.undo r f.place f.first shape once) e.numbers small
    refl c.saturating_add-self.ensures c.is_ended-self.ensures
