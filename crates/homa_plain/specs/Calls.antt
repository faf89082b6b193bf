-- Hosts and calls, told apart and in order.
use Rattle.std.specs.Prelude.{◌==◌, Bool}
use Rattle.std.specs.declared.cmp.Ordering.{Ordering}
use Rattle.std.specs.Ordering.{nat_cmp, ordering_then, eq_by_cmp}
use Rattle.homa_plain.specs.declared.id.CallId.{CallId}
use Rattle.homa_plain.specs.declared.id.HostId.{HostId}

-- whether two are one host
abbrev pub is_host : HostId → HostId → Bool
is_host a b = a.0 == b.0

-- calls in order of client, incarnation and sequence number
abbrev pub call_cmp : CallId → CallId → Ordering
call_cmp a b = ordering_then (nat_cmp a.client.0 b.client.0) (ordering_then (nat_cmp a.inc b.inc) (nat_cmp a.seq b.seq))

-- whether two are one call
abbrev pub is_call : CallId → CallId → Bool
is_call a b = eq_by_cmp call_cmp a b
