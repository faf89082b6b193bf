-- A call from its draws, one after the other.
use Rattle.std.proofs.Common.{◌≡◌, refl, ℕ, ◌+◌, ◌-◌, ◌%◌}
use Rattle.rand_pcg.specs.Lcg.{Lcg}
use Rattle.generated_runs.specs.Draws.{draw, sized, next_traffic}

pub drawn_traffic : (hosts : ℕ) (g : Lcg) (client server service kind size : ℕ × Lcg) → client ≡ draw hosts g → server ≡ draw (hosts - 1) client.1
    → service ≡ draw 4 server.1 → kind ≡ draw 100 service.1 → size ≡ sized kind.0 kind.1
    → (
      record { client = record { 0 = client.0 }; server = record { 0 = (client.0 + 1 + server.0) % hosts }; service = service.0; size = size.0 },
      size.1,
    ) ≡ next_traffic hosts g
unfolding next_traffic
drawn_traffic hosts g client server service kind size e1 e2 e3 e4 e5 = rw (e5, e4, e3, e2, e1) refl
