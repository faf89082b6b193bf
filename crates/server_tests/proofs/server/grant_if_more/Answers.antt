use Rattle.std.proofs.Common.{◌≡◌, rules, arith}
use Rattle.homa_server.proofs.TableLaws.{grantable_of}
use Rattle.server_tests.proofs.server.grant_if_more.Goals as goal

pub granted-requires-2-clause-up : goal.granted-requires-2-clause-up
granted-requires-2-clause-up c id r stands =
    grantable_of r.state c.in-Some.part.now c.args.offset (let e = c.incoming.ensures id r stands in let f = c.in-Some.is in let g = c.in-Some.part-is in cc)
    (omega (arith, c.granted.ensures.value, c.if-offset-granted.false)) (omega (arith, c.len.ensures.value, c.if-len-offset.false))
