use Rattle.std.proofs.Common.{sym, ap, ◌∙◌}
use Rattle.plain_sets.specs.Maps.{len}
use Rattle.host_view.specs.Seen.{Seen}
use Rattle.host_places.specs.Placed.{Placed}
use Rattle.host_places.proofs.MappedLaws.{len-mapped}
use Rattle.homa_client.specs.Held.{HeldRow, seen_row}
use Rattle.homa_host.proofs.host.Host.live.Goals as goal

pub returns : goal.returns
returns c = c.live.ensures.live ∙ sym (len-mapped (λ (x : Placed HeldRow). seen_row c.self.inside.parts.pool x.row) c.self.inside.parts.clients.rows)
    ∙ ap (λ (h : Seen). len h.host.clients) c.self.view_is
