use Rattle.std.proofs.Common.{sym, ap, ◌∙◌}
use Rattle.plain_sets.specs.Maps.{len}
use Rattle.host_view.specs.Seen.{Seen}
use Rattle.host_places.specs.Placed.{Placed}
use Rattle.host_places.proofs.MappedLaws.{len-mapped}
use Rattle.homa_server.specs.Held.{HeldServer, seen_server}
use Rattle.homa_host.proofs.host.Host.served.Goals as goal

pub returns : goal.returns
returns c = c.rows.ensures.rows ∙ sym (len-mapped (λ (x : Placed HeldServer). seen_server c.self.inside.parts.pool x.row) c.self.inside.parts.servers.rows)
    ∙ ap (λ (h : Seen). len h.host.servers) c.self.view_is
