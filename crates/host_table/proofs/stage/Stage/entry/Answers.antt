use Rattle.host_view.specs.Marks.{shown_entries}
use Rattle.homa_plain.specs.Told.{HasLine}
use Rattle.host_table.specs.Left.{IsFew}
use Rattle.host_table.proofs.EntryLaws.{at_index, lines, left_read}
use Rattle.host_table.proofs.stage.Stage.entry.Goals as goal

pub returns-clause-line : goal.returns-clause-line
returns-clause-line g c =
    let st = c.args.self.now in
    let h = c.index.result.now in
    at_index HasLine (shown_entries h st.outbox st.scratch) c.args.i _ (lines h st.outbox st.scratch h.marks) c.entry.ensures

pub returns-clause-few : goal.returns-clause-few
returns-clause-few g c =
    let st = c.args.self.now in
    let h = c.index.result.now in
    at_index IsFew (shown_entries h st.outbox st.scratch) c.args.i _
    (left_read st st.hosts.items c.args.host.0 h c.requires.host c.index.ensures c.requires.sent).1 c.entry.ensures
