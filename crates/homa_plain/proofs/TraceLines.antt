-- Short names for lines of traces, for worked texts.
use Rattle.std.proofs.Common.{ℕ, zero, suc, List, [], ◌∷◌, None}
use Rattle.homa_plain.specs.declared.id.CallId.{CallId}
use Rattle.homa_plain.specs.declared.id.HostId.{HostId}
use Rattle.homa_plain.specs.declared.packet.Role.{Role}
use Rattle.homa_plain.specs.declared.packet.Body.{Body}
use Rattle.homa_plain.specs.declared.packet.Body.TheVariants as body
use Rattle.homa_plain.specs.Entries.{PlainEntry, PlainClock, PlainSend}

abbrev pub host : ℕ → HostId
host n = record { 0 = n }

-- a call of a client in its first life
abbrev pub call : ℕ → ℕ → CallId
call client seq = record { client = host client; inc = 1; seq = seq }

-- a packet without payload, of a sender in its first life
abbrev pub said : ℕ → ℕ → ℕ → Role → CallId → Body → PlainEntry
said number from to role id what = PlainSend number (host from) (host to) 1 role id 7 what []

-- a piece of a message of `size` bytes, of a sender in its first life
abbrev pub piece : ℕ → ℕ → ℕ → Role → CallId → ℕ → ℕ → List ℕ → PlainEntry
piece number from to role id size offset payload = PlainSend number (host from) (host to) 1 role id 7 (body.Data size offset 0 0 None) payload

-- n ticks of the clock, from this one on
abbrev pub clocks : ℕ → ℕ → List PlainEntry
clocks tick zero = []
clocks tick (suc n) = PlainClock tick ∷ clocks (suc tick) n
