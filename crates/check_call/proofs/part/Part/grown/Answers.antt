use Rattle.std.proofs.Common.{refl, ◌+◌}
use Rattle.check_call.proofs.PartLaws.{grown_part, grown_nothing, grown_more}
use Rattle.check_call.proofs.part.Part.grown.Goals as goal

pub returns-then-to-a-clause-part : goal.returns-then-to-a-clause-part
returns-then-to-a-clause-part c host peer e =
    let p = c.args.self in
    grown_part host peer c.args.set.now p (record p { order = c.order_at-order.result }) c.args.place c.args.a
    (c.args.a + c.args.len) e refl refl c.order_at-order.ensures
    (grown_nothing c.args.set.now p c.args.a (c.args.a + c.args.len) c.end_of-to.result c.end_of-to.ensures c.if-to-a.true)

pub returns-clause-part : goal.returns-clause-part
returns-clause-part c host peer e =
    let p = c.args.self in
    grown_part host peer c.args.set.now p
    (record p { order = c.order_at-order.result; count = c.count_with-count.result; from = c.args.a; to = c.end_of-to.result }) c.args.place
    c.args.a (c.args.a + c.args.len) e refl refl c.order_at-order.ensures
    (grown_more c.args.set.now p c.args.a (c.args.a + c.args.len) c.end_of-to.result c.requires c.end_of-to.ensures)
