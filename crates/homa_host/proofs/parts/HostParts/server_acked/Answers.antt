-- The client of a call has finished it.
use Rattle.std.proofs.Common.{refl, sym, subst, ap, ◌∙◌}
use Rattle.homa_plain.specs.declared.settings.Settings.{Settings}
use Rattle.homa_plain.specs.Rules.{Did}
use Rattle.homa_plain.specs.Rows.{ServerRow}
use Rattle.homa_plain.specs.Steps.{moment}
use Rattle.homa_plain.specs.Host.{Tuning}
use Rattle.homa_plain.specs.Steps.{served}
use Rattle.host_state.specs.Control.{Control, IsAt}
use Rattle.homa_host.specs.Parts.{host_of}
use Rattle.homa_host.specs.ServerFollow.{FollowedServer, acked_change}
use Rattle.homa_host.proofs.Begun.{at-amid}
use Rattle.homa_host.specs.ServerFollow.{CanFollowServer}
use Rattle.homa_host.proofs.ServerAckLaws.{IsAck, row_now, acked_at, acked_others, acked_follows, acked_followed, acked_kept, acked_amid}
use Rattle.homa_host.proofs.parts.HostParts.server_acked.Goals as goal
use Rattle.homa_host.proofs.parts.HostParts.server_acked.Goals.{After-acked_change-change, After-follow_server}

-- what the table answered
answered : (c : After-acked_change-change) → IsAck c.args.self.now c.args.id c.last-now.result c.ack-acked.new.self c.ack-acked.result
answered c = record {
  acked = c.ack-acked.ensures.acked;
  same = c.ack-acked.ensures.same;
  slot = c.ack-acked.ensures.slot;
  moved = c.ack-acked.ensures.moved;
  placed = c.rows-rows.ensures.placed;
}

-- the books can follow
follows : (c : After-acked_change-change)
    → CanFollowServer c.ack-acked.new.self c.settings-settings.result.now.calls c.args.self.now.books c.acked_change-change.result
follows c = acked_follows c.args.self.now c.requires.kept c.args.id c.requires.client c.requires.call c.last-now.result c.last-now.ensures
    c.ack-acked.new.self c.ack-acked.result (answered c)
    c.settings-settings.result.now.calls c.acked_change-change.result (ap (λ (s : Settings). s.calls) c.settings-settings.ensures.settings)
    c.acked_change-change.ensures

-- they followed
followed : (c : After-follow_server) → IsAck c.args.self.now c.args.id c.last-now.result c.ack-acked.new.self c.ack-acked.result
    → FollowedServer c.ack-acked.new.self c.args.self.now.control.settings.calls (acked_change c.ack-acked.result) c.args.self.now.books
    c.follow_server.new.books
followed c is = acked_followed c.args.self.now c.requires.kept c.args.id c.requires.client c.requires.call c.last-now.result c.last-now.ensures
    c.ack-acked.new.self c.ack-acked.result is
    c.settings-settings.result.now.calls c.acked_change-change.result (ap (λ (s : Settings). s.calls) c.settings-settings.ensures.settings)
    c.acked_change-change.ensures c.follow_server.new.books c.follow_server.ensures

pub follow_server-requires : goal.follow_server-requires
follow_server-requires c = follows (goal.at.follow_server-requires c).After-acked_change-change

pub returns-clause-kept : goal.returns-clause-kept
returns-clause-kept c =
    let at = goal.at.returns-clause-kept c in
    let is = answered at.After-acked_change-change in
    let tuning = ap (λ (x : Control). x.tuning) c.tell_buried.ensures.same in
    acked_kept c.args.self.now c.requires.kept c.args.id c.requires.client c.requires.call c.last-now.result c.last-now.ensures c.ack-acked.new.self
    c.ack-acked.result is
    c.follow_server.new.books c.tell_buried.new.control (followed at.After-follow_server is) c.tell_buried.ensures.sound
    (c.tell_buried.ensures.same ∙ ap (λ (t : Tuning). record c.args.self.now.control { tuning = t; marks = c.tell_buried.new.control.marks }) (sym tuning))
    (ap (λ (t : Tuning). t.opened) tuning)

pub returns-clause-step : goal.returns-clause-step
returns-clause-step c = λ w frames amid.
    let host = c.args.self.now in
    let kept = c.requires.kept in
    let at = goal.at.returns-clause-step c in
    let is = answered at.After-acked_change-change in
    let told = subst (λ (d : Did ServerRow). IsAt (served host.control.settings c.args.id d w) c.tell_buried.new.control frames)
    (sym (acked_at host kept c.args.id c.requires.client c.requires.call c.last-now.result c.last-now.ensures c.ack-acked.new.self
    c.ack-acked.result is w amid.host))
    (c.tell_buried.ensures.step (moment host.control.settings c.args.id w)
    (row_now host kept c.args.id c.requires.client c.requires.call c.last-now.result c.last-now.ensures c.ack-acked.new.self)
    w frames (at-amid w host frames amid)) in
    acked_amid host kept c.args.id c.requires.client c.requires.call c.last-now.result c.last-now.ensures c.ack-acked.new.self c.ack-acked.result is
    c.follow_server.new.books c.tell_buried.new.control (followed at.After-follow_server is) w frames frames amid told

pub returns-clause-others : goal.returns-clause-others
returns-clause-others c = λ q ne.
    let host = c.args.self.now in
    let is = answered (goal.at.returns-clause-others c).After-acked_change-change in
    acked_others host c.requires.kept c.args.id c.requires.client c.requires.call c.last-now.result c.last-now.ensures c.ack-acked.new.self
    c.ack-acked.result is
    (host_of (record {
      control = c.tell_buried.new.control;
      clients = host.clients;
      servers = c.ack-acked.new.self;
      pool = host.pool;
      books = c.follow_server.new.books;
      order = host.order;
    })) refl q ne
