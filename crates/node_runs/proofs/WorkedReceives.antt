-- What receives give in worked runs.
use Rattle.std.specs.Prelude.{ℕ, None, Some, List}
use Rattle.node_runs.specs.Course.{Receive}

-- nothing comes to a host
abbrev pub nothing_for : ℕ → Receive
nothing_for host = record { host = record { 0 = host }; got = None }

-- bytes come to a host from another one
abbrev pub comes_to : ℕ → ℕ → List ℕ → Receive
comes_to host from bytes = record { host = record { 0 = host }; got = Some (record { from = record { 0 = from }; bytes = bytes }) }
