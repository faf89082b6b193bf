use Rattle.std.proofs.Common.{refl, sym, subst, List, ◌∷◌}
use Rattle.std.proofs.lemmas.Result.{IfOk-weaker}
use Rattle.homa_plain.specs.Entries.{PlainSettings}
use Rattle.node_runs.specs.Replayed.{IsAnswer}
use Rattle.node_hosts.specs.declared.fair.Fair.{Fair}
use Rattle.box_laws.specs.First.{AreAllowed, AreReady}
use Rattle.node_hosts.proofs.FairLaws.{ready_fair, allowed_fair}
use Rattle.node_hosts.proofs.fair.NodeHostsFairOpenHostsVec.open_in.Goals as goal

pub open_in-requires-clause-ready : goal.open_in-requires-clause-ready
open_in-requires-clause-ready g c =
    subst (AreReady (λ (fair : Fair g.row.V.Denot). g.V.Service.served fair.service)) (sym c.in_ok-boxes.ensures)
    (ready_fair (λ v. record { service = v }) g.V.Service.allows
    (λ (fair : Fair g.row.V.Denot) count number q r hold. g.V.Service.allows fair.service count number q r hold × IsAnswer (record { bytes = r; hold = hold }))
    (λ s count number hold q r a. a) g.V.Service.served (λ (fair : Fair g.row.V.Denot). g.V.Service.served fair.service) (λ s. refl) c.args.boxes.items
    c.requires.ready)

pub returns-clause-allows : goal.returns-clause-allows
returns-clause-allows g c =
    IfOk-weaker c.open_in.result _ _ (λ h may told tells.
    allowed_fair (λ v. record { service = v }) g.V.Service.allows
    (λ (fair : Fair g.row.V.Denot) count number q r hold. g.V.Service.allows fair.service count number q r hold × IsAnswer (record { bytes = r; hold = hold }))
    (λ s count number hold q r a. a) g.V.Service.served (λ (fair : Fair g.row.V.Denot). g.V.Service.served fair.service) (λ s. refl) c.args.boxes.items
    (PlainSettings c.args.s.now ∷ told)
    (subst (λ (boxes : List (Fair g.row.V.Denot)). AreAllowed (λ (fair : Fair g.row.V.Denot). g.V.Service.served fair.service)
    (λ (fair : Fair g.row.V.Denot) count number q r hold. g.V.Service.allows fair.service count number q r hold × IsAnswer (record { bytes = r; hold = hold }))
    boxes (PlainSettings c.args.s.now ∷ told)) c.in_ok-boxes.ensures (may told tells))) c.open_in.ensures.allows
