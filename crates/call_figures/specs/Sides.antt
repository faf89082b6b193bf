-- Where messages stand: of each call its request, and then its response.
use Rattle.std.specs.Prelude.{ℕ, ◌+◌, ◌*◌, Bool, true, false}

abbrev pub spot : ℕ → Bool → ℕ
spot place false = 2 * place
spot place true = 2 * place + 1
