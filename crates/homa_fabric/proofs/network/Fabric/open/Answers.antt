-- After the last turn there is an idle destination for each host.
use Rattle.std.proofs.Common.{◌≡◌, ℕ, refl, ap, ◌∙◌, [], ◌∷◌, ◌++◌, length, replicate, arith}
use Rattle.std.proofs.lemmas.List.{length-replicate}
use Rattle.generated_runs.specs.Fabric.{Destination, idle}
use Rattle.homa_fabric.proofs.Opened.{one_more}
use Rattle.homa_fabric.proofs.network.Fabric.open.Goals as goal

pub loop-init : goal.loop-init
loop-init c = c.in_ok-destinations.ensures.items

pub loop-preserved : goal.loop-preserved
loop-preserved c = c.in_ok-push.ensures.items ∙ ap (λ (d : Destination). c.loop.destinations.items ++ d ∷ []) c.in_ok-open.ensures
    ∙ one_more c.loop.counter c.loop.destinations.items idle c.loop.invariant

all_idle : (c : goal.After-new) → c.loop.destinations.items ≡ replicate c.args.settings.now.hosts idle
all_idle c = let all : c.loop.counter ≡ c.args.settings.now.hosts =
    omega (arith, c.loop-test.false, c.loop.auto) in c.loop.invariant ∙ ap (λ (n : ℕ). replicate n idle) all

pub invariant_of-result : goal.invariant_of-result
invariant_of-result c =
    let hosts = c.requires.in_range in
    let count : length c.loop.destinations.items ≡ c.args.settings.now.hosts = ap length (all_idle c) ∙ length-replicate c.args.settings.now.hosts idle in
    (omega (arith, hosts.0, count), omega (arith, hosts.1, count))

pub returns-clause-fabric : goal.returns-clause-fabric
returns-clause-fabric c = rw (all_idle c, c.new.ensures) refl
