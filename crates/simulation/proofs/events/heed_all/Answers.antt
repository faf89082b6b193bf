-- One entry more, up to the last.
use Rattle.std.proofs.Common.{◌≤◌, ◌<◌, List, length, refl, subst, arith}
use Rattle.std.proofs.lemmas.List.{take_all}
use Rattle.homa_plain.specs.Entries.{PlainEntry, plain}
use Rattle.simulation.specs.Turns.{AreHeeded}
use Rattle.simulation.proofs.HeedLaws.{one_heeded}
use Rattle.simulation.proofs.events.heed_all.Goals as goal

pub loop-i-init : goal.loop-i-init
loop-i-init g c = λ w h. refl

pub loop-i-preserved : goal.loop-i-preserved
loop-i-preserved g c = λ w h.
    let p = g.P.ReplayWorld in
    let told = p.told c.args.world.now in
    let inside : c.loop-i.i < length told = omega (arith, c.entries-count.ensures, c.loop-i-test.true) in
    one_heeded g.N.HostNetwork.heeds (p.settings c.args.world.now) w told c.loop-i.i (plain c.entry-entry.result) c.args.network.now c.loop-i.network
    c.heed.new.self c.shown_of-passing.result inside c.entry-entry.ensures.entry (c.loop-i.invariant w h) (c.shown_of-passing.ensures w h)
    c.in_ok-heed.ensures

pub returns : goal.returns
returns g c = λ w h.
    let p = g.P.ReplayWorld in
    let told = p.told c.args.world.now in
    let past : length told ≤ c.loop-i.i = omega (arith, c.entries-count.ensures, c.loop-i-test.false) in
    subst (λ (es : List PlainEntry). AreHeeded g.N.HostNetwork.heeds (p.settings c.args.world.now) w es c.args.network.now c.loop-i.network)
    (take_all c.loop-i.i told past) (c.loop-i.invariant w h)
