-- The hosts of a set.
use Rattle.std.specs.Prelude.{Bool, false, slice_index_or}
use Rattle.homa_plain.specs.declared.id.HostId.{HostId}
use Rattle.node_io.specs.declared.hosts.HostSet.{HostSet}

-- whether a host is in the set
abbrev pub set_has : HostSet → HostId → Bool
set_has set host = slice_index_or set.is_in host.0 false
