use Rattle.std.proofs.Common.{refl, ap, Some, ◌∷◌, []}
use Rattle.std.specs.Prelude.{map}
use Rattle.node_runs.specs.Acts.{Routed}
use Rattle.node_io.specs.Given.{act_of}
use Rattle.node_io.proofs.Doing.{same_sents, same_gives}
use Rattle.node_io.proofs.memory.MemNetNet.route.Goals as goal

pub returns-clause-learned : goal.returns-clause-learned
returns-clause-learned c =
    let old = map act_of c.args.self.now.acts.items in
    let new = map act_of c.keep.new.list.items in
    let act = Routed c.args.host c.args.port in
    record {
      known = c.insert.ensures;
      err = tt;
      acts = ap Some c.keep.ensures.items;
      err_acts = tt;
      queued = refl;
      sent = ap Some (same_sents old (act ∷ []) new c.keep.ensures.items refl);
      gave = ap Some (same_gives old (act ∷ []) new c.keep.ensures.items refl);
      counted = record {
        risen = tt;
        quiet = ap (λ f. f.0) c.in_ok-begin.ensures.quiet;
        never_falls = c.in_ok-begin.ensures.never_falls;
      };
    }
