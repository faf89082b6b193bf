use Rattle.std.proofs.Common.{◌≡◌, ◌<◌, ℕ, List, [], map, sym, ap, subst, ◌∙◌, rules}
use Rattle.std.specs.Prelude.{IfSome, Option, slice_index_or}
use Rattle.plain_sets.specs.Ranges.{range}
use Rattle.homa_plain.specs.declared.packet.Role.TheVariants.{Client, Server}
use Rattle.homa_plain.specs.Wire.{IsCall}
use Rattle.homa_plain.specs.Host.{PeerCutoffs}
use Rattle.homa_plain.specs.Rows.{ClientRow}
use Rattle.homa_plain.specs.Work.{Work}
use Rattle.homa_plain.specs.SentNext.{request_leaves}
use Rattle.homa_plain.specs.FiveAcks.{oldest}
use Rattle.homa_plain.specs.Cutoffs.{first_cutoffs}
use Rattle.homa_plain.specs.Sending.{level_at}
use Rattle.host_state.specs.Control.{Control, IsAt}
use Rattle.host_state.specs.Fields.{control_by, peer_of}
use Rattle.host_state.proofs.Settle.{at-request, fits-piece, peer-within, peer-fit, ride-call, held-at, oldest-first, same-request}
use Rattle.host_state.proofs.control.Control.send_request.Goals as goal

not_server : {A : Type 0} → Client ≡ Server → A
not_server e = cc

pub send-requires-clause-fits : goal.send-requires-clause-fits
send-requires-clause-fits c =
    fits-piece Client c.level-level.result c.args.piece.length c.args.piece.from c.args.piece.to c.args.piece.prio c.index.result.now.cutoffs.version
    c.args.piece.service c.ride-ack.result c.args.request.now
    c.requires.piece c.level-level.ensures.most
    (peer-fit c.self.inside.peers.items c.args.server.0 c.index.result.now
    (peer-within c.self.inside.peers.items c.args.server.0 c.self.inside.settings.hosts
    (subst (λ (s : Control). c.args.server.0 < s.settings.hosts) (sym c.self.view_is) c.requires.server) c.self.invariant.peers) c.index.ensures
    c.self.invariant.peer_cutoffs).version (search rules)
    (subst (λ (o : Option (ℕ × ℕ)). IfSome o IsCall) (sym c.ride-ack.ensures.oldest)
    (ride-call c.self.inside.acks c.args.server.0 c.self.invariant.calls)) (λ e. not_server e)

pub returns-clause-step : goal.returns-clause-step
returns-clause-step c =
    subst (λ (s : Control). (w : Work) (r : ClientRow) → IsAt w s c.args.out.now → r.server ≡ c.args.server → r.request ≡ c.args.request.now →
    r.out.length ≡ c.args.piece.length → r.out.prio ≡ c.args.piece.prio → r.service ≡ c.args.piece.service
    → IsAt (request_leaves s.settings c.args.id r (range c.args.piece.from c.args.piece.to) w) c.send.new.self c.send.new.out)
    c.self.view_is (λ w r at sv req len prio srv.
    at-request w _ _ c.send.new.self c.args.out.now c.send.new.out c.args.id c.args.server r (range c.args.piece.from c.args.piece.to) _
    (ap (λ (f : List (List (ℕ × ℕ))). control_by c.self.inside.settings c.self.inside.id c.self.inside.inc c.self.inside.last c.self.inside.own
    c.self.inside.recent c.self.inside.opened (map peer_of c.self.inside.peers.items) f c.self.inside.marks) c.ride-ack.ensures.taken)
    c.send.ensures.formed c.send.ensures.marks c.send.ensures.frames sv
    (λ ps fs e f. same-request c.self.inside.settings r c.args.piece.from c.args.piece.to c.args.piece.length c.args.piece.prio c.args.piece.service
    c.args.request.now _ c.index.result.now.cutoffs _ c.ride-ack.result c.level-level.result
    (ap (λ (ps : List PeerCutoffs).
    (slice_index_or ps c.args.server.0 (record { inc = 0; cutoffs = first_cutoffs c.self.inside.settings.overcommit })).cutoffs) e
    ∙ ap (λ (p : PeerCutoffs). p.cutoffs)
    (held-at c.self.inside.peers.items c.args.server.0 c.index.result.now _
    (peer-within c.self.inside.peers.items c.args.server.0 c.self.inside.settings.hosts
    (subst (λ (s : Control). c.args.server.0 < s.settings.hosts) (sym c.self.view_is) c.requires.server) c.self.invariant.peers)
    ∙ ap peer_of (sym c.index.ensures)))
    (ap (λ (fs : List (List (ℕ × ℕ))). oldest (slice_index_or fs c.args.server.0 [])) f ∙ oldest-first _ ∙ sym c.ride-ack.ensures.oldest)
    req len prio srv
    (λ l q. c.level-level.ensures.level r.out l q ∙ ap (λ (s : Control). level_at s.settings c.index.result.now.cutoffs r.out c.args.piece.from)
    (sym c.self.view_is))) at)
