-- How far a message is to be granted.
use Rattle.std.proofs.Common.{◌+◌, min, ◌∙◌, ◌≡◌}
use Rattle.plain_sets.specs.Maps.{len}
use Rattle.plain_sets.proofs.KeySets.{len-key_set}
use Rattle.homa_in.specs.Part.{seen}
use Rattle.homa_host.proofs.grants.new_end_of.Goals as goal

pub returns-clause-end : goal.returns-clause-end
returns-clause-end c = λ pool inside.
    let arrived : c.arrived.result ≡ len (seen pool c.args.part.now).bytes =
    c.arrived.ensures.seen pool inside ∙ len-key_set (seen pool c.args.part.now).bytes in
    c.min.ensures ∙ (λ i. min (c.len.ensures.value i) (arrived i + c.args.window))
