use Rattle.std.proofs.Common.{arith}
use Rattle.text_lines.proofs.BeforeFeed.{none_among, none_before, feed_at, feed_within, front_within, front_most, front_all}
use Rattle.text_lines.proofs.scan.before_feed.Goals as goal

pub returns-in-Some-clause-before : goal.returns-in-Some-clause-before
returns-in-Some-clause-before c = none_before c.args.bytes.now _ c.in-Some.i c.in-Some.ensures

pub returns-in-Some-clause-feed : goal.returns-in-Some-clause-feed
returns-in-Some-clause-feed c =
    let within = feed_within c.args.bytes.now _ c.in-Some.i c.in-Some.ensures in
    λ _. (omega (arith, within.0), feed_at c.args.bytes.now _ c.in-Some.i c.in-Some.ensures)

pub returns-in-None-clause-before : goal.returns-in-None-clause-before
returns-in-None-clause-before c = none_among c.args.bytes.now _ (omega arith) c.in-None.ensures

pub returns-in-Some-clause-within : goal.returns-in-Some-clause-within
returns-in-Some-clause-within c = omega (arith, (feed_within c.args.bytes.now _ c.in-Some.i c.in-Some.ensures).1)

pub returns-in-Some-clause-most : goal.returns-in-Some-clause-most
returns-in-Some-clause-most c = omega (arith, (feed_within c.args.bytes.now _ c.in-Some.i c.in-Some.ensures).0)

pub returns-in-Some-clause-all : goal.returns-in-Some-clause-all
returns-in-Some-clause-all c = λ e. absurd cc

pub returns-in-None-clause-within : goal.returns-in-None-clause-within
returns-in-None-clause-within c = front_within c.args.bytes.now _

pub returns-in-None-clause-most : goal.returns-in-None-clause-most
returns-in-None-clause-most c = front_most c.args.bytes.now _ c.args.most (omega arith)

pub returns-in-None-clause-feed : goal.returns-in-None-clause-feed
returns-in-None-clause-feed c = λ e. absurd cc

pub returns-in-None-clause-all : goal.returns-in-None-clause-all
returns-in-None-clause-all c = λ _. front_all c.args.bytes.now _ c.args.most (omega arith)
