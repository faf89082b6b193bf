use Rattle.std.proofs.Common.{refl, ap, Some, ◌++◌, ◌∷◌, [], ◌∙◌}
use Rattle.std.specs.Prelude.{map}
use Rattle.node_runs.specs.Acts.{Received, gives}
use Rattle.node_io.specs.Given.{act_of, received}
use Rattle.node_io.proofs.Doing.{gives_more, same_sents}
use Rattle.node_io.proofs.memory.MemNetNet.recv.Goals as goal

pub returns-clause-acts : goal.returns-clause-acts
returns-clause-acts c =
    let old = map act_of c.args.self.now.acts.items in
    ap Some (c.keep.ensures.items ∙ ap (λ r. old ++ Received r ∷ []) (c.given.ensures c.args.host))

pub returns-clause-sent : goal.returns-clause-sent
returns-clause-sent c =
    ap Some (same_sents (map act_of c.args.self.now.acts.items) (Received (received (c.args.host, c.given.result)) ∷ []) (map act_of c.keep.new.list.items)
    c.keep.ensures.items refl)

pub returns-clause-gave : goal.returns-clause-gave
returns-clause-gave c =
    let old = map act_of c.args.self.now.acts.items in
    ap Some (ap gives c.keep.ensures.items ∙ gives_more old (Received (received (c.args.host, c.given.result)) ∷ [])
    ∙ ap (λ r. gives old ++ r ∷ []) (c.given.ensures c.args.host))
