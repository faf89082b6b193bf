-- A call that is drawn, as the definitions have it.
use Rattle.generated_runs.specs.Draws as draws
use Rattle.homa_fabric.specs.declared.draws.Traffic.{Traffic}

-- its client, its server, the number of its service, and how many bytes its request has
abbrev pub plain_traffic : Traffic → draws.Traffic
plain_traffic t = record { client = t.client; server = t.server; service = t.number; size = t.len }
