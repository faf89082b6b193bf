use Rattle.std.proofs.Common.{◌≡◌, ◌≤◌, ◌+◌, ◌-◌, max, length}
use Rattle.check_lines.specs.Changes.{SameHosts, SameLists}
use Rattle.check_lines.proofs.trace.Trace.know.Given as goal

-- hosts were added of which nothing is kept
abbrev pub invariant-hosts : goal.invariant-hosts
invariant-hosts l = record {
  same : SameHosts l.fn.self l.self;
  lists : SameLists l.fn.self l.self;
  more : length l.fn.self.hosts.items ≤ length l.self.hosts.items;
  most : length l.self.hosts.items ≤ max (length l.fn.self.hosts.items) (l.host.0 + 1);
  rest : l.self ≡ record l.fn.self { hosts = l.self.hosts };
}

abbrev pub decreases-hosts : goal.decreases-hosts
decreases-hosts l = l.host.0 + 1 - length l.self.hosts.items
