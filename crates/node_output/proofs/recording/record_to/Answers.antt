use Rattle.std.proofs.Common.{ap, subst}
use Rattle.node_runs.specs.Course.{node_run}
use Rattle.node_runs.specs.Recorder.{Notes, told, kept, strange}
use Rattle.homa_record.specs.Printing.{sink_of, notes_of}
use Rattle.homa_node.specs.Served.{outside, HasServed}
use Rattle.node_output.specs.RecordingEnds.{PutsEnd, end_of}
use Rattle.node_output.proofs.Ending.{recorded_by}
use Rattle.node_output.proofs.Counts.{faults_by}
use Rattle.node_output.proofs.recording.record_to.Goals as goal

pub returns-clause-recorded : goal.returns-clause-recorded
returns-clause-recorded g c = λ bytes had.
    recorded_by (g.H.OpenHosts.are_allowed c.args.boxes) bytes _ _ _ _ _ _ _ _ _ _ _ _ (g.met.N.Net.sent_is _) (g.met.N.Net.sent_is _) _ _ _
    c.serve-served.result c.put_end-end.result _ (ap g.K.Sink.taken c.into_sink-sink.ensures)
    (subst (λ (n : Notes). HasServed node_run told kept strange (g.H.OpenHosts.are_allowed c.args.boxes) bytes (g.S.Source.left c.serve-served.new.source)
    (outside (g.K.Sink.taken (sink_of c.args.recorder)) n (g.N.Net.acts c.args.net.now) (g.N.Net.sent c.args.net.now) (g.N.Net.gave c.args.net.now)
    (g.C.Clock.ticks c.args.clock.now))
    (outside (g.K.Sink.taken (sink_of c.serve-served.new.observer)) (notes_of c.serve-served.new.observer) (g.N.Net.acts c.serve-served.new.net)
    (g.N.Net.sent c.serve-served.new.net)
    (g.N.Net.gave c.serve-served.new.net) (g.C.Clock.ticks c.serve-served.new.clock)) c.serve-served.result) c.requires.no_notes
    (c.serve-served.ensures.answered bytes had)) c.put_end-end.ensures.ends

pub returns-clause-faults : goal.returns-clause-faults
returns-clause-faults g c =
    faults_by _ _ _ _ _ _ _ _ _ c.serve-served.result c.put_end-end.result c.serve-served.ensures.ends.faults
    (subst (λ (s : g.row.K.Denot). PutsEnd (g.K.Sink.taken s) (g.K.Sink.taken c.put_end-end.new.sink) (g.K.Sink.faults s)
    (g.K.Sink.faults c.put_end-end.new.sink)
    c.serve-served.result c.put_end-end.result (end_of c.serve-served.result)) c.into_sink-sink.ensures c.put_end-end.ensures.ends)
