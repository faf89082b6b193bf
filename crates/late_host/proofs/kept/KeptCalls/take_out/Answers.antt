use Rattle.std.proofs.Common.{not, ap, List, rules}
use Rattle.std.proofs.lemmas.Fn.{filter_same}
use Rattle.late_host.specs.declared.kept.KeptCall.{KeptCall}
use Rattle.late_host.specs.Kept.{Keeping, is_of}
use Rattle.late_host.proofs.kept.KeptCalls.take_out.Goals as goal

pub returns : goal.returns
returns c =
    let put = λ (calls : List KeptCall). let k : Keeping = record { room = c.self.inside.room; calls = calls } in k in
    rw (← c.self.view_is) (ap put (filter_same _ (λ (call : KeptCall). not (is_of c.args.id call)) _ (λ x b f' k. search rules) _ _ c.retain.ensures.filtered))
