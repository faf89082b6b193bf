use Rattle.std.proofs.Common.{◌<◌, List, map, sym, ap, subst, ◌∙◌}
use Rattle.std.specs.Prelude.{slice_set}
use Rattle.homa_plain.specs.declared.packet.Body.{Body}
use Rattle.homa_plain.specs.Host.{PeerCutoffs}
use Rattle.homa_plain.specs.Work.{Work}
use Rattle.homa_plain.specs.CutoffsPackets.{hears_cutoffs, is_newer}
use Rattle.host_view.specs.declared.outbox.SentFrame.{SentFrame}
use Rattle.host_state.specs.Control.{Control, IsAt, IsSound}
use Rattle.host_state.specs.Fields.{control_by, peer_of}
use Rattle.host_state.specs.Saying.{HasFitCutoffs}
use Rattle.host_state.proofs.Settle.{at-heard, held-at, held-set, sound-heard, peer-within}
use Rattle.host_state.proofs.control.Control.hear.Goals as goal

pub invariant_of-self : goal.invariant_of-self
invariant_of-self c =
    subst (λ (ps : List PeerCutoffs). IsSound
    (control_by c.self.inside.settings c.self.inside.id c.self.inside.inc c.self.inside.last c.self.inside.own c.self.inside.recent
    c.self.inside.opened ps c.self.inside.acks c.self.inside.marks))
    (sym (held-set c.self.inside.peers.items c.args.peer.0 (record { inc = c.args.inc; cutoffs = c.in-Cutoffs.cutoffs })))
    (sound-heard _ c.args.peer.0 c.args.inc c.in-Cutoffs.cutoffs (subst HasFitCutoffs c.in-Cutoffs.is c.requires.fit) c.self.invariant)

pub returns-then-is_newer-clause-step : goal.returns-then-is_newer-clause-step
returns-then-is_newer-clause-step c =
    subst (λ (s : Control). (w : Work) (frames : List SentFrame) → IsAt w s frames → IsAt (hears_cutoffs s.settings c.args.peer c.args.inc c.args.body.now w)
    (control_by c.self.inside.settings c.self.inside.id c.self.inside.inc c.self.inside.last c.self.inside.own c.self.inside.recent
    c.self.inside.opened
    (map peer_of (slice_set c.self.inside.peers.items c.args.peer.0 (record { inc = c.args.inc; cutoffs = c.in-Cutoffs.cutoffs })))
    c.self.inside.acks c.self.inside.marks) frames)
    c.self.view_is (λ w frames at.
    subst (λ (b : Body). IsAt (hears_cutoffs c.self.inside.settings c.args.peer c.args.inc b w)
    (control_by c.self.inside.settings c.self.inside.id c.self.inside.inc c.self.inside.last c.self.inside.own c.self.inside.recent
    c.self.inside.opened
    (map peer_of (slice_set c.self.inside.peers.items c.args.peer.0 (record { inc = c.args.inc; cutoffs = c.in-Cutoffs.cutoffs })))
    c.self.inside.acks c.self.inside.marks) frames) (sym c.in-Cutoffs.is)
    (at-heard w _ _ frames c.args.peer c.args.inc c.in-Cutoffs.cutoffs
    (ap (is_newer c.args.inc c.in-Cutoffs.cutoffs)
    (held-at c.self.inside.peers.items c.args.peer.0 c.index.result.now _
    (peer-within c.self.inside.peers.items c.args.peer.0 c.self.inside.settings.hosts
    (subst (λ (s : Control). c.args.peer.0 < s.settings.hosts) (sym c.self.view_is) c.requires.peer) c.self.invariant.peers)
    ∙ ap peer_of (sym c.index.ensures)) ∙ sym c.is_newer.ensures ∙ c.if-is_newer.true)
    (ap (λ (ps : List PeerCutoffs). control_by c.self.inside.settings c.self.inside.id c.self.inside.inc c.self.inside.last c.self.inside.own
    c.self.inside.recent c.self.inside.opened ps c.self.inside.acks c.self.inside.marks)
    (held-set c.self.inside.peers.items c.args.peer.0 (record { inc = c.args.inc; cutoffs = c.in-Cutoffs.cutoffs })))
    at))
