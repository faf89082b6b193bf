-- A server's row that is due acts.
use Rattle.std.proofs.Common.{◌≡◌, ◌≤◌, ◌+◌, ◌∙◌, sym, subst, ap, arith}
use Rattle.homa_plain.specs.declared.row.RowFacts.{RowFacts}
use Rattle.homa_plain.specs.declared.id.CallId.{CallId}
use Rattle.homa_plain.specs.declared.settings.Settings.{Settings}
use Rattle.homa_plain.specs.Settings.{IsValid, asking_level}
use Rattle.homa_plain.specs.Rules.{Did}
use Rattle.homa_plain.specs.Rows.{ServerRow}
use Rattle.homa_plain.specs.Steps.{served, moment}
use Rattle.host_places.specs.Placed.{StandsAt}
use Rattle.host_state.specs.Control.{IsAt}
use Rattle.host_state.specs.Saying.{one_of, IsOutcome}
use Rattle.homa_server.specs.Held.{HeldServer}
use Rattle.homa_server.specs.Table.{server_at}
use Rattle.homa_host.proofs.Emits.{at_spot}
use Rattle.homa_host.proofs.Begun.{at-amid}
use Rattle.homa_host.specs.ServerFollow.{CanFollowServer}
use Rattle.homa_host.proofs.ServerKept.{server_parts}
use Rattle.homa_host.proofs.ServerActLaws.{RowActed, acted_by, row_known, did_at, acted_at, acted_follows, acted_kept, acted_amid}
use Rattle.homa_host.proofs.parts.HostParts.server_acts.Goals as goal
use Rattle.homa_host.proofs.parts.HostParts.server_acts.Goals.{After-server_act_change-change}

-- what is so of a row at the place once it acted
record HasActed (c : After-server_act_change-change) (id : CallId) (r : HeldServer) : Type 0 where
  row : RowActed c.args.self.now c.args.place c.act-act.new.self c.act-act.new.pool c.act-act.result id r
  calls : c.settings.result.now.calls ≡ c.args.self.now.control.settings.calls

acted : (c : After-server_act_change-change) (id : CallId) (r : HeldServer) → StandsAt c.args.self.now.servers.rows id c.args.place r → HasActed c id r
acted c id r stands = record {
  row = acted_by c.args.self.now c.requires.kept c.args.place c.last-now.result c.last-now.ensures c.act-act.new.self c.act-act.new.pool
      c.act-act.result id r stands
      (λ free rows. c.act-act.ensures.acted id r free rows stands) (c.act-act.ensures.left id r stands)
      (c.act-act.ensures.moved id r stands) c.rows-rows.ensures.placed;
  calls = ap (λ (s : Settings). s.calls) c.settings.ensures.settings;
}

-- the books can follow
follows : (c : After-server_act_change-change)
    → CanFollowServer c.act-act.new.self c.settings.result.now.calls c.args.self.now.books c.server_act_change-change.result
follows c =
    let a = at_spot c.args.self.now.servers.rows c.args.place c.requires.stands in
    let x = acted c a.0 a.1 a.2 in
    acted_follows c.args.self.now c.requires.kept c.args.place c.act-act.new.self c.act-act.new.pool c.act-act.result a.0 a.1 x.row
    c.settings.result.now.calls c.server_act_change-change.result x.calls c.server_act_change-change.ensures

pub act-act-requires-clause-pool : goal.act-act-requires-clause-pool
act-act-requires-clause-pool c = server_parts c.args.self.now c.requires.kept.parts

pub follow_server-requires : goal.follow_server-requires
follow_server-requires c = follows (goal.at.follow_server-requires c).After-server_act_change-change

pub settle_server-requires-clause-call : goal.settle_server-requires-clause-call
settle_server-requires-clause-call c =
    let host = c.args.self.now in
    let a = at_spot host.servers.rows c.args.place c.requires.stands in
    subst (λ (f : RowFacts). 1 ≤ f.id.inc) (sym (c.row-facts.ensures.facts a.0 a.1 a.2)) (row_known host c.requires.kept c.args.place a.0 a.1 a.2).life

pub returns-clause-kept : goal.returns-clause-kept
returns-clause-kept c =
    let host = c.args.self.now in
    let a = at_spot host.servers.rows c.args.place c.requires.stands in
    let x = acted (goal.at.returns-clause-kept c).After-server_act_change-change a.0 a.1 a.2 in
    acted_kept host c.requires.kept c.args.place c.act-act.new.self c.act-act.new.pool c.act-act.result a.0 a.1 x.row
    c.settings.result.now.calls c.server_act_change-change.result x.calls c.server_act_change-change.ensures
    c.follow_server.new.books c.follow_server.ensures (host.order + c.server_act_orders.result)
    (ap (λ n. host.order + n) c.server_act_orders.ensures.orders) c.settle_server.new.self c.settle_server.ensures.sound c.settle_server.ensures.same
    (omega (arith, c.settle_server.ensures.opened, ap one_of c.server_act_outcome-outcome.ensures.opened, c.requires.kept.opened))

pub returns-clause-step : goal.returns-clause-step
returns-clause-step c = λ id r w stands amid.
    let host = c.args.self.now in
    let s = host.control.settings in
    let x = acted (goal.at.returns-clause-step c).After-server_act_change-change id r stands in
    let did : Did ServerRow = did_at host c.requires.kept c.args.place c.act-act.new.self c.act-act.new.pool c.act-act.result id r x.row w in
    let outcome = subst (λ (d : Did ServerRow). IsOutcome d c.server_act_outcome-outcome.result)
    (sym (acted_at host c.requires.kept c.args.place c.act-act.new.self c.act-act.new.pool c.act-act.result id r x.row w amid.host))
    (c.server_act_outcome-outcome.ensures.outcome s (moment s id w) id (server_at c.act-act.new.pool c.act-act.new.self.rows id)
    (c.asking_level.ensures ∙ ap asking_level c.settings.ensures.settings)) in
    let settled = subst (λ (f : RowFacts). IsAt (served s f.id did w) c.settle_server.new.self c.settle_server.new.out)
    (c.row-facts.ensures.facts id r stands) (c.settle_server.ensures.step did w outcome (at-amid w host c.args.out.now amid)) in
    acted_amid host c.requires.kept c.args.place c.act-act.new.self c.act-act.new.pool c.act-act.result id r x.row
    c.settings.result.now.calls c.server_act_change-change.result x.calls c.server_act_change-change.ensures
    c.follow_server.new.books c.follow_server.ensures (host.order + c.server_act_orders.result)
    (ap (λ n. host.order + n) c.server_act_orders.ensures.orders) c.settle_server.new.self w c.args.out.now c.settle_server.new.out amid settled

pub asking_level-requires : goal.asking_level-requires
asking_level-requires c = subst IsValid (sym c.settings.ensures.settings) c.requires.kept.control.valid
