use Rattle.std.proofs.Common.{◌≡◌, ◌++◌, rules, length, length-append, ap, refl, arith}
use Rattle.world_packets.proofs.Frames.{pushed_ends, pushed}
use Rattle.world_packets.proofs.block.Block.push.Goals as goal

pub invariant_of-self : goal.invariant_of-self
invariant_of-self c =
    let all : c.extend_from_slice.new.self.items ≡ c.args.self.now.bytes.items ++ c.args.bytes.now = search rules in
    let long = ap length all in
    let two = length-append c.args.self.now.bytes.items c.args.bytes.now in
    record { ends = search (rules, pushed_ends); few = omega (arith, long, two, c.requires.few) }

pub returns-clause-frames : goal.returns-clause-frames
returns-clause-frames c =
    let old = c.args.self.now in
    let all = c.extend_from_slice.new.self.items in
    pushed old.recs.items c.push_reserved.new.self.items old.bytes.items c.args.bytes.now all (record { end = length all; from = c.args.from; to = c.args.to })
    old.ends (search rules) (search rules) refl
