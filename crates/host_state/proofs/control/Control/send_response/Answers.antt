use Rattle.std.proofs.Common.{◌<◌, lit<, List, refl, sym, ap, subst, ◌∙◌}
use Rattle.std.specs.Prelude.{slice_index_or}
use Rattle.plain_sets.specs.Ranges.{range}
use Rattle.homa_plain.specs.declared.packet.Role.TheVariants.{Server}
use Rattle.homa_plain.specs.Host.{PeerCutoffs}
use Rattle.homa_plain.specs.Cutoffs.{first_cutoffs}
use Rattle.host_state.specs.Control.{Control}
use Rattle.host_state.specs.Fields.{peer_of}
use Rattle.host_state.proofs.Settle.{at-response, fits-piece, peer-within, peer-fit, held-at, same-response}
use Rattle.host_state.proofs.control.Control.send_response.Goals as goal

pub send-requires-clause-fits : goal.send-requires-clause-fits
send-requires-clause-fits c =
    fits-piece Server c.level-level.result c.args.piece.length c.args.piece.from c.args.piece.to c.args.piece.prio c.index.result.now.cutoffs.version
    0 _ c.args.response.now
    c.requires.piece c.level-level.ensures.most
    (peer-fit c.self.inside.peers.items c.args.id.client.0 c.index.result.now
    (peer-within c.self.inside.peers.items c.args.id.client.0 c.self.inside.settings.hosts
    (subst (λ (s : Control). c.args.id.client.0 < s.settings.hosts) (sym c.self.view_is) c.requires.client) c.self.invariant.peers) c.index.ensures
    c.self.invariant.peer_cutoffs).version (lit< tt) tt (λ e. (refl, refl))

pub returns-clause-step : goal.returns-clause-step
returns-clause-step c w row part at len prio =
    at-response w c.args.self.now c.send.new.self c.args.out.now c.send.new.out c.args.id c.id-server.result row
    (range c.args.piece.from c.args.piece.to) _ _ c.id-server.ensures
    c.send.ensures.formed c.send.ensures.marks c.send.ensures.frames
    (same-response c.args.self.now.settings part c.args.piece.from c.args.piece.to c.args.piece.length c.args.piece.prio c.args.response.now _
    c.index.result.now.cutoffs c.level-level.result
    (ap (λ (ps : List PeerCutoffs).
    (slice_index_or ps c.args.id.client.0 (record { inc = 0; cutoffs = first_cutoffs c.args.self.now.settings.overcommit })).cutoffs)
    (at.peers ∙ ap (λ (s : Control). s.peers) (sym c.self.view_is))
    ∙ ap (λ (p : PeerCutoffs). p.cutoffs)
    (held-at c.self.inside.peers.items c.args.id.client.0 c.index.result.now _
    (peer-within c.self.inside.peers.items c.args.id.client.0 c.self.inside.settings.hosts
    (subst (λ (s : Control). c.args.id.client.0 < s.settings.hosts) (sym c.self.view_is) c.requires.client) c.self.invariant.peers)
    ∙ ap peer_of (sym c.index.ensures)))
    len prio (c.level-level.ensures.level part)) at
