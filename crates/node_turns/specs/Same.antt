-- What stays the same while hosts act.
use Rattle.std.specs.Prelude.{◌≡◌, ◌≤◌, ◌+◌, ℕ, Bool, Result}
use Rattle.homa_plain.specs.declared.settings.Settings.{Settings}
use Rattle.homa_plain.specs.declared.id.HostId.{HostId}
use Rattle.node_turns.specs.declared.stop.NodeStop.{NodeStop}
use Rattle.node_turns.specs.Faults.{counts, AreFaults}

-- hosts did at most so many steps; their settings are the same, and their clock stands where it stood
pub record HaveStepped {H : Type 0} (set : H → Settings) (tick counted : H → ℕ) (old new : H) (most : ℕ) : Type 0 where
  pub settings : set new ≡ set old
  pub clock : tick new ≡ tick old
  pub steps : counted new ≤ counted old + most

-- The net knows the same hosts, and the observer is the same one. A fault of one of them was counted exactly where it is why the hosts stopped.
pub record IsSameOutside {N O A : Type 0} (knows : N → HostId → Bool) (lost : N → ℕ) (failed : O → ℕ) (is_same : O → O → Type 0)
    (net0 net1 : N) (observer0 observer1 : O) (r : Result A NodeStop) : Type 0 where
  pub known : knows net1 ≡ knows net0
  pub faults : AreFaults (counts 0 (lost net0) (failed observer0)) (counts 0 (lost net1) (failed observer1)) r
  pub same : is_same observer0 observer1
