-- What the net that never fails has told.
use Rattle.std.specs.Prelude.{ℕ, Bool}
use Rattle.homa_plain.specs.declared.id.HostId.{HostId}
use Rattle.node_io.specs.declared.sure.SureNet.{SureNet}
use Rattle.node_io.specs.Hosts.{set_has}

-- the hosts that were bound or routed
abbrev pub sure_known : SureNet → HostId → Bool
sure_known net host = set_has net.known host

-- it has no faults
abbrev pub sure_faults : SureNet → ℕ
sure_faults net = 0
