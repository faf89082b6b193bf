use Rattle.std.proofs.Common.{◌≡◌, ℕ, map, set, subst}
use Rattle.run_gauges.specs.Receivers.{known_of, completes}
use Rattle.packet_network.specs.States.{WholeNetwork, at_receiver}
use Rattle.packet_network.proofs.ReceiverLaws.{was_told}
use Rattle.packet_network.proofs.network.PacketNetwork.completes.Goals as goal

pub returns-clause-receivers : goal.returns-clause-receivers
returns-clause-receivers c =
    let rs = c.self.inside.paths.flow.receivers.items in
    subst
    (λ (n : WholeNetwork). map known_of (set rs c.args.host.0 c.completes.new.self) ≡ at_receiver c.args.host.0
    (completes n.state.moment c.args.sender.0) n.receivers)
    c.self.view_is
    (was_told rs c.args.host.0 c.completes.new.self c.index_mut.result.now c.now.result c.self.inside.paths.flow.agenda.moment
    (λ (m : ℕ). completes m c.args.sender.0)
    c.self.inside.paths.flow.all_receivers c.requires.host c.index_mut.ensures.value c.now.ensures c.completes.ensures.known)
