-- The steps of a host that C begins, at a tick of the host's own clock.
use Rattle.std.specs.Prelude.{ℕ, List}
use Rattle.homa_plain.specs.Rules.{Answer}
use Rattle.homa_plain.specs.Work.{Work}
use Rattle.homa_plain.specs.Steps.{call_step, arrival_step, turn_step}
use Rattle.host_view.specs.Done.{arriving}
use Rattle.driven_host.specs.Driven.{Driven}

-- a call of a service with this number
abbrev pub calling : Driven → ℕ → ℕ → ℕ → List ℕ → Work
calling d now server number request = call_step d.host.settings d.host.host now (record { 0 = server }) number request

-- a datagram from a host, and what the service that it makes run answers
abbrev pub receiving : Driven → ℕ → ℕ → List ℕ → Answer → Work
receiving d now from frame answer = arrival_step d.host.settings d.host.host now (arriving d.host (record { 0 = from }) frame) answer

-- a turn
abbrev pub turning : Driven → ℕ → Work
turning d now = turn_step d.host.settings d.host.host now
