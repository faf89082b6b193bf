use Rattle.std.proofs.Common.{refl, ap, Some, ◌++◌, ◌∷◌, [], ◌∙◌}
use Rattle.std.specs.Prelude.{map}
use Rattle.node_runs.specs.Acts.{Sent, sents}
use Rattle.node_io.specs.Given.{act_of}
use Rattle.node_io.proofs.Doing.{sents_more, same_gives}
use Rattle.node_io.proofs.memory.MemNetNet.send.Goals as goal

pub returns-clause-sent : goal.returns-clause-sent
returns-clause-sent c =
    let old = map act_of c.args.self.now.acts.items in
    ap Some (ap sents c.keep.ensures.items
    ∙ sents_more old (Sent (record { from = c.args.from; to = c.args.to; bytes = c.frame_of.result }) ∷ [])
    ∙ ap (λ bytes. sents old ++ record { from = c.args.from; to = c.args.to; bytes = bytes } ∷ []) c.frame_of.ensures)

pub returns-clause-gave : goal.returns-clause-gave
returns-clause-gave c =
    ap Some (same_gives (map act_of c.args.self.now.acts.items) (Sent (record { from = c.args.from; to = c.args.to; bytes = c.frame_of.result }) ∷ [])
    (map act_of c.keep.new.list.items) c.keep.ensures.items refl)
