-- A client's row that is due acts.
use Rattle.std.proofs.Common.{◌≤◌, ◌<◌, ◌∙◌, sym, subst, ap, arith}
use Rattle.homa_plain.specs.declared.row.RowFacts.{RowFacts}
use Rattle.homa_plain.specs.declared.id.CallId.{CallId}
use Rattle.homa_plain.specs.Settings.{IsValid, asking_level}
use Rattle.homa_plain.specs.Rules.{Did}
use Rattle.homa_plain.specs.Rows.{ClientRow}
use Rattle.homa_plain.specs.Steps.{asked, moment}
use Rattle.host_places.specs.Placed.{StandsAt}
use Rattle.homa_client.specs.Held.{HeldRow}
use Rattle.host_state.specs.Control.{IsAt}
use Rattle.host_state.specs.Saying.{one_of}
use Rattle.homa_host.proofs.Begun.{at-amid}
use Rattle.homa_host.proofs.Emits.{at_spot}
use Rattle.homa_host.specs.Outcomes.{CanFollowClient}
use Rattle.homa_host.proofs.ClientKept.{client_parts}
use Rattle.homa_host.proofs.ActLaws.{RowActed, acted_by, row_known, did_at, acted_at, acted_follows, acted_kept, acted_amid}
use Rattle.homa_host.proofs.parts.HostParts.client_acts.Goals as goal
use Rattle.homa_host.proofs.parts.HostParts.client_acts.Goals.{After-client_act_change-change}

-- a row at the place acted
acted : (c : After-client_act_change-change) (id : CallId) (r : HeldRow) → StandsAt c.args.self.now.clients.rows id c.args.place r
    → RowActed c.args.self.now c.args.place c.act-act.new.self c.act-act.new.pool c.act-act.result id r
acted c id r stands = acted_by c.args.self.now c.requires.kept c.args.place c.last-now.result c.last-now.ensures c.act-act.new.self c.act-act.new.pool
    c.act-act.result id r stands
    (λ host order free rows. c.act-act.ensures.acted id r host order free rows stands) (c.act-act.ensures.left id r stands) c.act-act.ensures.pool

-- the books can follow
follows : (c : After-client_act_change-change) → CanFollowClient c.act-act.new.self c.args.self.now.books c.client_act_change-change.result
follows c =
    let a = at_spot c.args.self.now.clients.rows c.args.place c.requires.stands in
    acted_follows c.args.self.now c.requires.kept c.args.place c.act-act.new.self c.act-act.new.pool c.act-act.result a.0 a.1
    (acted c a.0 a.1 a.2) c.client_act_change-change.result c.client_act_change-change.ensures

pub act-act-requires-clause-pool : goal.act-act-requires-clause-pool
act-act-requires-clause-pool c = client_parts c.args.self.now c.requires.kept.parts

pub follow_client-requires : goal.follow_client-requires
follow_client-requires c = follows (goal.at.follow_client-requires c).After-client_act_change-change

pub settle_client-requires-clause-server : goal.settle_client-requires-clause-server
settle_client-requires-clause-server c =
    let host = c.args.self.now in
    let a = at_spot host.clients.rows c.args.place c.requires.stands in
    let known = row_known host c.requires.kept c.args.place c.act-act.new.self c.act-act.new.pool c.act-act.result a.0 a.1
    (acted (goal.at.settle_client-requires-clause-server c).After-client_act_change-change a.0 a.1 a.2) in
    subst (λ (f : RowFacts). f.peer.0 < host.control.settings.hosts) (sym (c.row-facts.ensures.facts a.0 a.1 a.2)) known.0.server

pub settle_client-requires-clause-call : goal.settle_client-requires-clause-call
settle_client-requires-clause-call c =
    let host = c.args.self.now in
    let a = at_spot host.clients.rows c.args.place c.requires.stands in
    let known = row_known host c.requires.kept c.args.place c.act-act.new.self c.act-act.new.pool c.act-act.result a.0 a.1
    (acted (goal.at.settle_client-requires-clause-call c).After-client_act_change-change a.0 a.1 a.2) in
    subst (λ (f : RowFacts). 1 ≤ f.id.inc) (sym (c.row-facts.ensures.facts a.0 a.1 a.2)) known.1

pub returns-clause-kept : goal.returns-clause-kept
returns-clause-kept c =
    let host = c.args.self.now in
    let a = at_spot host.clients.rows c.args.place c.requires.stands in
    let x = acted (goal.at.returns-clause-kept c).After-client_act_change-change a.0 a.1 a.2 in
    acted_kept host c.requires.kept c.args.place c.act-act.new.self c.act-act.new.pool c.act-act.result a.0 a.1 x c.client_act_change-change.result
    c.client_act_change-change.ensures c.follow_client.new.books c.follow_client.ensures
    c.settle_client.new.self c.settle_client.ensures.sound c.settle_client.ensures.same
    (omega (arith, c.settle_client.ensures.opened, ap one_of c.client_act_outcome-outcome.ensures.opened, c.requires.kept.opened))

pub returns-clause-step : goal.returns-clause-step
returns-clause-step c = λ id r w stands amid.
    let host = c.args.self.now in
    let s = host.control.settings in
    let x = acted (goal.at.returns-clause-step c).After-client_act_change-change id r stands in
    let did : Did ClientRow = did_at host c.requires.kept c.args.place c.act-act.new.self c.act-act.new.pool c.act-act.result id r x w in
    let outcome =
    c.client_act_outcome-outcome.ensures.outcome s (moment s id w) id did (c.asking_level-prio.ensures ∙ ap asking_level c.settings.ensures.settings)
    (acted_at host c.requires.kept c.args.place c.act-act.new.self c.act-act.new.pool c.act-act.result id r x w amid.host).0 in
    let settled = subst (λ (f : RowFacts). IsAt (asked s f.id f.peer did w) c.settle_client.new.self c.settle_client.new.out)
    (c.row-facts.ensures.facts id r stands) (c.settle_client.ensures.step did w outcome (at-amid w host c.args.out.now amid)) in
    acted_amid host c.requires.kept c.args.place c.act-act.new.self c.act-act.new.pool c.act-act.result id r x c.client_act_change-change.result
    c.client_act_change-change.ensures c.follow_client.new.books c.follow_client.ensures
    c.settle_client.new.self w c.args.out.now c.settle_client.new.out amid settled

pub asking_level-prio-requires : goal.asking_level-prio-requires
asking_level-prio-requires c = subst IsValid (sym c.settings.ensures.settings) c.requires.kept.control.valid
