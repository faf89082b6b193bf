-- What a step of a host asks of its service.
use Rattle.std.specs.Prelude.{◌≡◌, ℕ, List, Some}
use Rattle.homa_plain.specs.declared.id.CallId.{CallId}
use Rattle.homa_plain.specs.Host.{Told}
use Rattle.homa_plain.specs.Steps.{asked_in}

-- what is told begins to serve this call: by the service with this number, with this request
abbrev pub HasAsked : CallId → ℕ → List ℕ → List Told → Type 0
HasAsked id number request told = asked_in told ≡ Some (record { id = id; service = number; request = request })
