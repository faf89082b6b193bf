-- Each command, by its words.
use Rattle.std.proofs.Common.{◌∙◌, ap, sym, map, Some, length, subst}
use Rattle.homa_replay.specs.Progress.{replay_of, ArePrinted, AreParts}
use Rattle.box_laws.specs.First.{AreAllowed}
use Rattle.homa_top.specs.Exits.{prints_all}
use Rattle.homa_top.proofs.Completing.{completed}
use Rattle.homa_top.proofs.Exits.{prints_same}
use Rattle.homa_top.proofs.RecordEnds as recordings
use Rattle.homa_top.proofs.Lawful.{lawful, lawful_lines}
use Rattle.homa_top.proofs.Numbered.{quiet_sizes, same_make, same_gen}
use Rattle.homa_top.proofs.running.run.Goals as goal

pub put_rounds-requires-clause-request : goal.put_rounds-requires-clause-request
put_rounds-requires-clause-request g c =
    (quiet_sizes (map (λ w. w.now) c.args.words.now) _ _ (sym c.read_words.ensures ∙ (c.in-Some-Quiet.is ∙ ap Some c.in-Some-Quiet.field-0-is))).0

pub put_rounds-requires-clause-response : goal.put_rounds-requires-clause-response
put_rounds-requires-clause-response g c =
    (quiet_sizes (map (λ w. w.now) c.args.words.now) _ _ (sym c.read_words.ensures ∙ (c.in-Some-Quiet.is ∙ ap Some c.in-Some-Quiet.field-0-is))).1

pub returns-in-Some-Make-clause-made : goal.returns-in-Some-Make-clause-made
returns-in-Some-Make-clause-made g c = λ seed calls are.
    same_make _ _ _ _ _ _ _ (length c.args.services.items) _
    (sym (c.in-Some-Make.is ∙ ap Some c.in-Some-Make.field-0-is) ∙ (c.read_words.ensures ∙ are)) c.put_schedule.ensures.made

pub returns-in-Some-Gen-clause-counted : goal.returns-in-Some-Gen-clause-counted
returns-in-Some-Gen-clause-counted g c = λ seed calls are.
    same_gen _ _ _ _ _ _ _ (length c.args.services.items) _ (sym (c.in-Some-Gen.is ∙ ap Some c.in-Some-Gen.field-0-is) ∙ (c.read_words.ensures ∙ are))
    c.put_summary.ensures.made

pub returns-in-Ok-true-clause-accepted : goal.returns-in-Ok-true-clause-accepted
returns-in-Ok-true-clause-accepted g c =
    λ _ _ bytes had. subst (λ b. ArePrinted (replay_of (length c.args.services.items)) (g.S.Source.left c.args.source.now)
    (g.K.Sink.taken c.args.sink.now) (g.K.Sink.taken c.replay.new.sink) (AreAllowed g.V.Service.served g.V.Service.allows c.args.services.items) b)
    c.in-Ok-true.field-0-test c.in-Ok-true.ensures.printed bytes had

pub returns-in-Ok-true-clause-laws : goal.returns-in-Ok-true-clause-laws
returns-in-Ok-true-clause-laws g c = λ _ _.
    lawful (length c.args.services.items) c.requires.ready.at_most (g.S.Source.left c.args.source.now) (g.K.Sink.taken c.args.sink.now)
    (g.K.Sink.taken c.replay.new.sink) _ _ c.in-Ok-true.ensures.printed

pub returns-in-Ok-false-clause-refused : goal.returns-in-Ok-false-clause-refused
returns-in-Ok-false-clause-refused g c =
    λ _ _ bytes had. subst (λ b. ArePrinted (replay_of (length c.args.services.items)) (g.S.Source.left c.args.source.now)
    (g.K.Sink.taken c.args.sink.now) (g.K.Sink.taken c.replay.new.sink) (AreAllowed g.V.Service.served g.V.Service.allows c.args.services.items) b)
    c.in-Ok-false.field-0-test c.in-Ok-false.ensures.printed bytes had

pub returns-in-Ok-false-clause-laws : goal.returns-in-Ok-false-clause-laws
returns-in-Ok-false-clause-laws g c = λ _ _.
    lawful (length c.args.services.items) c.requires.ready.at_most (g.S.Source.left c.args.source.now) (g.K.Sink.taken c.args.sink.now)
    (g.K.Sink.taken c.replay.new.sink) _ _ c.in-Ok-false.ensures.printed

pub returns-in-Err-clause-front : goal.returns-in-Err-clause-front
returns-in-Err-clause-front g c =
    λ _ _. subst (λ b. AreParts (replay_of (length c.args.services.items)) (g.S.Source.left c.args.source.now) (g.S.Source.left c.replay.new.source)
    (g.K.Sink.taken c.args.sink.now) (g.K.Sink.taken c.replay.new.sink) (AreAllowed g.V.Service.served g.V.Service.allows c.args.services.items) b)
    (prints_same c.in-Err.stop ∙ ap prints_all (sym c.status_of.ensures)) c.in-Err.ensures.part

pub returns-in-Some-Node-clause-complete_node : goal.returns-in-Some-Node-clause-complete_node
returns-in-Some-Node-clause-complete_node g c = λ is bytes had never no_read no_write no_net.
    completed _ bytes _ _ _ _ (c.put_node.ensures.run bytes had) never c.put_node.ensures.command
    (λ e. no_read (c.put_node.ensures.faults.read e)) (λ e. no_write (c.put_node.ensures.faults.write e))
    (λ e. no_net (c.put_node.ensures.faults.net e)) c.put_node.ensures.usual

pub returns-in-Some-Node-clause-node_laws : goal.returns-in-Some-Node-clause-node_laws
returns-in-Some-Node-clause-node_laws g c = λ is bytes had opens.
    lawful_lines _ (λ told allowed. allowed.1) bytes opens _ _ _ _ (c.put_node.ensures.run bytes had)

pub returns-in-Some-Record-clause-complete_record : goal.returns-in-Some-Record-clause-complete_record
returns-in-Some-Record-clause-complete_record g c = λ is bytes had never no_read no_write no_net.
    recordings.completed _ bytes _ _ _ _ (c.put_record.ensures.recorded bytes had) never c.put_record.ensures.command
    (λ e. no_read (c.put_record.ensures.faults.read e)) (λ e. no_write (c.put_record.ensures.faults.write e)) (λ e. no_net (c.put_record.ensures.faults.net e))
