use Rattle.node_hosts.proofs.hosts.NodeHostsLoopHosts.hear.Goals as goal

pub returns-clause-asks : goal.returns-clause-asks
returns-clause-asks g c = rw (← c.self.view_is) c.hear.ensures.asks
