use Rattle.std.proofs.Common.{◌≤◌, ℕ, Option, List, arith, sym, ap, length}
use Rattle.std.specs.Prelude.{unwrap_or}
use Rattle.std.proofs.lemmas.Option.{slice_get_past}
use Rattle.plain_sets.specs.Maps.{len}
use Rattle.homa_c.specs.Counted.{all_counts}
use Rattle.homa_c.proofs.knows.homa_count.Goals as goal

-- no count has a number of 21 or more
pub returns-in_default-clause-count : goal.returns-in_default-clause-count
returns-in_default-clause-count c =
    let held = c.args.host.now.slot.held in
    let host = held.driven.host.host in
    let past : 21 ≤ c.args.which = omega (arith, c.in_default) in
    let counts : List ℕ = all_counts held.driven.counts (len host.clients) (length held.calls) (len host.servers) in
    λ is_open. sym (ap (λ (o : Option ℕ). unwrap_or o 0) (slice_get_past counts c.args.which past))
