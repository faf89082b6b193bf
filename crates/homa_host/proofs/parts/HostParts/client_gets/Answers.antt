-- A packet of a server comes to a call's client.
use Rattle.std.proofs.Common.{◌+◌, ◌∙◌, sym, subst, ap, arith, List}
use Rattle.homa_plain.specs.Host.{Told}
use Rattle.homa_plain.specs.Packets.{Packet}
use Rattle.std.specs.List.{AllByRecursion}
use Rattle.plain_sets.specs.Maps.{get}
use Rattle.homa_plain.specs.declared.id.CallId.{CallId}
use Rattle.homa_plain.specs.declared.id.HostId.{HostId}
use Rattle.homa_plain.specs.Rows.{ClientRow}
use Rattle.homa_plain.specs.AtClient.{client_gets}
use Rattle.homa_in.specs.Pieces.{piece_in}
use Rattle.homa_client.specs.AtTable.{row_at}
use Rattle.host_state.specs.Control.{IsAt}
use Rattle.host_view.specs.Marks.{IsWhole}
use Rattle.homa_plain.specs.Rules.{Did}
use Rattle.homa_plain.specs.Steps.{asked, moment}
use Rattle.homa_host.specs.Amid.{Amid}
use Rattle.homa_host.proofs.Begun.{at-amid}
use Rattle.homa_host.proofs.ClientKept.{client_parts}
use Rattle.homa_host.proofs.GetsLaws.{HasReceived, p, is_p, gets, gets_is, gets_whole, touched_stays}
use Rattle.homa_host.proofs.GetsKept.{gets_stands, gets_follows, gets_touched, gets_kept, gets_amid}
use Rattle.homa_host.proofs.WholeLaws.{asked-whole}
use Rattle.homa_host.proofs.parts.HostParts.client_gets.Goals as goal
use Rattle.homa_host.proofs.parts.HostParts.client_gets.Goals.{After-receive-did}

-- what the table took up
taken : (c : After-receive-did)
    → HasReceived c.args.self.now c.args.from c.args.packet.now c.args.payload.now c.last-now.result c.receive-did.new.self c.receive-did.new.pool
    c.receive-did.new.scratch c.receive-did.result
taken c = record {
  role = c.requires.role;
  now_is = c.last-now.ensures;
  most = omega (arith, c.free-free.ensures.whole);
  received = c.receive-did.ensures.received;
  inside = c.receive-did.ensures.pool;
}

pub receive-did-requires-clause-pool : goal.receive-did-requires-clause-pool
receive-did-requires-clause-pool c = client_parts c.args.self.now c.requires.kept.parts

pub touched_version-touched-requires : goal.touched_version-touched-requires
touched_version-touched-requires c =
    record {
      stands = touched_stays _ c.receive-did.result
          (gets_stands c.args.self.now c.requires.kept (taken (goal.at.touched_version-touched-requires c).After-receive-did));
    }

pub follow_client-requires : goal.follow_client-requires
follow_client-requires c =
    gets_follows c.args.self.now c.requires.kept (taken (goal.at.follow_client-requires c).After-receive-did) c.client_change.result c.client_change.ensures

pub returns-clause-kept : goal.returns-clause-kept
returns-clause-kept c =
    let host = c.args.self.now in
    gets_kept host c.requires.kept (taken (goal.at.returns-clause-kept c).After-receive-did) c.settle.new.control c.follow_client.new.books
    (host.order + c.client_orders.result) (ap (λ n. host.order + n) c.client_orders.ensures.order)
    c.client_change.result c.client_change.ensures c.follow_client.ensures
    c.settle.ensures.sound c.settle.ensures.same c.settle.ensures.no_fewer c.settle.ensures.opened

pub returns-clause-step : goal.returns-clause-step
returns-clause-step c = λ w a amid.
    let host = c.args.self.now in
    let s = host.control.settings in
    let x = taken (goal.at.returns-clause-step c).After-receive-did in
    let q = p host c.requires.kept x in
    let did : Did ClientRow = gets host c.requires.kept x w in
    let touched = gets_touched host c.requires.kept x c.touched_version-touched.result (piece_in c.args.packet.now.body c.args.payload.now)
    (λ r. c.touched_version-touched.ensures q c.receive-did.new.pool q.id r c.head_of-head.ensures) in
    let id = c.call-id.ensures ∙ ap (λ (h : HostId). record { client = h; inc = c.args.packet.now.inc; seq = c.args.packet.now.seq }) c.id.ensures in
    let settled : IsAt (asked s q.id c.args.from did w) c.settle.new.control c.settle.new.out =
    subst (λ (x : CallId × Did ClientRow). IsAt (asked s x.0 c.args.from x.1 w) c.settle.new.control c.settle.new.out)
    (λ i. (id i, sym (gets_is host c.requires.kept x w amid.host) i))
    (c.settle.ensures.step (moment s q.id w) q (row_at c.receive-did.new.pool c.receive-did.new.self.rows q.id)
    c.receive-did.new.scratch w c.head_of-head.ensures touched (at-amid w host c.args.out.now amid)) in
    let after = gets_amid host c.requires.kept x c.settle.new.control c.follow_client.new.books (host.order + c.client_orders.result)
    (ap (λ n. host.order + n) c.client_orders.ensures.order)
    c.client_change.result c.client_change.ensures c.follow_client.ensures w c.args.out.now c.settle.new.out amid settled in
    subst (λ (x : Packet). Amid (asked s x.id x.server (client_gets s (moment s x.id w) x (get w.host.clients x.id)) w)
    (record {
      control = c.settle.new.control;
      clients = c.receive-did.new.self;
      servers = host.servers;
      pool = c.receive-did.new.pool;
      books = c.follow_client.new.books;
      order = host.order + c.client_orders.result;
    }) c.settle.new.out)
    (is_p host c.requires.kept x) after

pub returns-clause-whole : goal.returns-clause-whole
returns-clause-whole c = λ w a amid none.
    let host = c.args.self.now in
    let s = host.control.settings in
    let told = c.receive-did.new.scratch in
    let x = taken (goal.at.returns-clause-whole c).After-receive-did in
    let before = subst (λ (t : List Told). AllByRecursion (IsWhole told) t) (sym none) tt in
    subst (λ (x : Packet). AllByRecursion (IsWhole told) (asked s x.id x.server (client_gets s (moment s x.id w) x (get w.host.clients x.id)) w).told)
    (is_p host c.requires.kept x)
    (asked-whole s told (p host c.requires.kept x).id c.args.from (gets host c.requires.kept x w) w before (gets_whole host c.requires.kept x w amid.host))
