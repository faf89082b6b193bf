use Rattle.std.proofs.Common.{ℕ, List, [], ◌∷◌, ◌++◌, map, sym, subst, rules}
use Rattle.host_state.proofs.At.{at-joined, at-five}
use Rattle.std.specs.Prelude.{slice_index_or}
use Rattle.homa_plain.specs.Host.{finished_at}
use Rattle.homa_plain.specs.Work.{Work}
use Rattle.homa_plain.specs.FiveAcks.{acknowledged}
use Rattle.host_state.specs.Control.{Control, IsAt}
use Rattle.host_state.specs.Fields.{control_by, peer_of}
use Rattle.host_state.proofs.control.Control.finish.Goals as goal

pub returns-in_default-clause-step : goal.returns-in_default-clause-step
returns-in_default-clause-step c w at =
    at-joined w c.args.self.now _ c.args.out.now c.args.server (c.args.id.inc, c.args.id.seq) (search rules) (search rules) at

pub returns-clause-step : goal.returns-clause-step
returns-clause-step c =
    subst (λ (s : Control). (w : Work) → IsAt w s c.args.out.now → IsAt
    (acknowledged s.settings c.args.server (finished_at w.host c.args.server ++ (c.args.id.inc, c.args.id.seq) ∷ []) w) c.post.new.self c.post.new.out)
    c.self.view_is (λ w at.
    at-five w _ c.post.new.self c.args.out.now c.post.new.out c.args.server (c.args.id.inc, c.args.id.seq)
    (slice_index_or c.deref.result.now 0 (0, 0)) c.more_of-more.result (search rules) (search rules)
    (λ v a. c.post.ensures.step v
    (subst (λ (f : List (List (ℕ × ℕ))). IsAt v
    (control_by c.self.inside.settings c.self.inside.id c.self.inside.inc c.self.inside.last c.self.inside.own c.self.inside.recent
    c.self.inside.opened (map peer_of c.self.inside.peers.items) f c.self.inside.marks) c.args.out.now) (sym (c.in-Some.ensures.emptied)) a)) at)
