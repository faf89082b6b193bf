-- Where it stopped, a read failed for the reader.
use Rattle.std.proofs.Common.{None, Err, refl, subst, rules}
use Rattle.script_lines.specs.declared.stop.ScriptStop.TheVariants.{Read}
use Rattle.homa_replay.specs.Counting.{counts}
use Rattle.homa_replay.proofs.Aheads.{failed_read}
use Rattle.homa_replay.proofs.ahead.read_ahead.Goals as goal

pub returns-in-Some-clause-gives : goal.returns-in-Some-clause-gives
returns-in-Some-clause-gives g c =
    let s = g.S.Source in
    let k = g.K.Sink in
    let r = c.read-answer in
    let a = r.new.source in
    let gives : g.T.Part.gives c.args.reader.now r.new.reader (s.left c.args.source.now) (s.left a.source.now) (Err (Read (record {}))) =
    subst (λ answer. g.T.Part.gives c.args.reader.now r.new.reader (s.left c.args.source.now) (s.left a.source.now) answer)
    (failed_read (counts None 0 (s.faults c.args.source.now) (k.faults c.args.sink.now) (g.K.FlushSink.held c.args.sink.now))
    (counts a.stop a.faults (s.faults a.source.now) (k.faults a.sink.now) (g.K.FlushSink.held a.sink.now)) _ r.result r.ensures.same.5 c.in-Some.is refl
    r.ensures.quiet)
    r.ensures.gives in
    search rules
