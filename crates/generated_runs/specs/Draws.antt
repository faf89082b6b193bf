-- Draws: words of a generator, taken modulo a number.
use Rattle.std.specs.Prelude.{ℕ, ◌+◌, ◌-◌, ◌%◌, nat_lt, if◌then◌else◌}
use Rattle.rand_pcg.specs.Lcg.{Lcg, started, increment_of}
use Rattle.rand_pcg.specs.Pcg.{multiplier_64, pcg32}
use Rattle.homa_plain.specs.declared.id.HostId.{HostId}

-- the generator of a seed: PCG with 64 bits of state and words of 32, on stream 54
abbrev pub seeded : ℕ → Lcg
seeded seed = started 64 multiplier_64 seed (increment_of 64 54)

-- a number below n, and the generator after it
abbrev pub draw : ℕ → Lcg → ℕ × Lcg
draw n g = let word = pcg32 g in (word.0 % n, word.1)

-- a call that is to be made, with a request of so many counting bytes
pub record Traffic : Type 0 where
  pub client : HostId
  pub server : HostId
  pub service : ℕ
  pub size : ℕ

-- how many bytes a request has: of a hundred requests 70 have up to 1,000, 25 up to 10,000, and 5 up to 100,000
abbrev pub sized : ℕ → Lcg → ℕ × Lcg
sized k g =
    if nat_lt k 70 then (let d = draw 1000 g in (1 + d.0, d.1))
    else if nat_lt k 95 then (let d = draw 10000 g in (1 + d.0, d.1))
    else (let d = draw 90000 g in (10001 + d.0, d.1))

-- the next call between so many hosts: client, server, service, kind of size and size are drawn in this order
unfoldable pub next_traffic : ℕ → Lcg → Traffic × Lcg
next_traffic hosts g =
    let client = draw hosts g in
    let server = draw (hosts - 1) client.1 in
    let service = draw 4 server.1 in
    let kind = draw 100 service.1 in
    let size = sized kind.0 kind.1 in
    (record { client = record { 0 = client.0 }; server = record { 0 = (client.0 + 1 + server.0) % hosts }; service = service.0; size = size.0 }, size.1)
