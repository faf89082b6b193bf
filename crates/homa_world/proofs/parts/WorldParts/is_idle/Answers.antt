-- Each host, up to one that isn't free.
use Rattle.std.proofs.Common.{◌≤◌, ◌∙◌, sym, ap, arith, length}
use Rattle.std.proofs.lemmas.List.{take_all}
use Rattle.std.specs.List.{list_all}
use Rattle.homa_world.proofs.LookLaws.{is_free, one_free, one_busy, hosts_count}
use Rattle.homa_world.proofs.parts.WorldParts.is_idle.Goals as goal

pub loop-host-preserved : goal.loop-host-preserved
loop-host-preserved g c = λ w stands.
    one_free w.hosts c.loop-host.host c.live.result (omega (arith, c.loop-host-test.true, hosts_count _ c.args.self.now w c.requires.kept stands))
    (c.live.ensures w stands) c.if-live-ne0.false (c.loop-host.invariant w stands)

pub returns-then-live-ne0 : goal.returns-then-live-ne0
returns-then-live-ne0 g c = λ w stands.
    sym (one_busy w.hosts c.loop-host.host c.live.result
    (omega (arith, c.loop-host-test.true, hosts_count _ c.args.self.now w c.requires.kept stands)) (c.live.ensures w stands) c.if-live-ne0.true)

pub returns : goal.returns
returns g c = λ w stands.
    let all : length w.hosts ≤ c.loop-host.host = omega (arith, c.loop-host-test.false, hosts_count _ c.args.self.now w c.requires.kept stands) in
    sym (ap (list_all is_free) (sym (take_all c.loop-host.host w.hosts all)) ∙ c.loop-host.invariant w stands)
