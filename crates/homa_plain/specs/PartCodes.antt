-- How the parts of messages are stored, for models whose values they are.
use Rattle.std.specs.Prelude.{ℕ, refl}
use Rattle.std.specs.Ordering.{nat_cmp}
use Rattle.std.specs.Coded.{Coded, code_by, coded×, coded_ℕ}
use Rattle.plain_sets.specs.Maps.{Map, code}
use Rattle.plain_sets.specs.Numbers.{Numbers, numbers_code}
use Rattle.homa_plain.specs.declared.id.HostId.{HostId}
use Rattle.homa_plain.specs.contracts.id.HostId as host_id
use Rattle.homa_plain.specs.Incoming.{Incoming}
use Rattle.homa_plain.specs.Outgoing.{Outgoing}

-- an incoming message
abbrev pub incoming_code : Coded Incoming
incoming_code =
    code_by (HostId × (ℕ × (ℕ × (ℕ × Map nat_cmp ℕ)))) (coded× host_id.the_row.coded (coded× coded_ℕ (coded× coded_ℕ (coded× coded_ℕ (code coded_ℕ coded_ℕ)))))
    (λ p. (p.peer, (p.length, (p.order, (p.granted, p.bytes)))))
    (λ c. record { peer = c.0; length = c.1.0; order = c.1.1.0; granted = c.1.1.1.0; bytes = c.1.1.1.1 }) (λ _. refl)

-- an outgoing message
abbrev pub outgoing_code : Coded Outgoing
outgoing_code =
    code_by (ℕ × (Numbers × (ℕ × (ℕ × (ℕ × ℕ))))) (coded× coded_ℕ (coded× numbers_code (coded× coded_ℕ (coded× coded_ℕ (coded× coded_ℕ coded_ℕ)))))
    (λ p. (p.length, (p.waiting, (p.granted, (p.top, (p.prio, p.unsched))))))
    (λ c. record { length = c.0; waiting = c.1.0; granted = c.1.1.0; top = c.1.1.1.0; prio = c.1.1.1.1.0; unsched = c.1.1.1.1.1 }) (λ _. refl)
