-- One host after the other.
use Rattle.std.proofs.Common.{◌*◌, ◌≡◌, ◌∙◌, ◌+◌, ◌-◌, suc, refl, ap, arith}
use Rattle.std.proofs.lemmas.Result.{MatchResult-from_err}
use Rattle.homa_plain.specs.declared.settings.Settings.{Settings}
use Rattle.generated_runs.specs.Rounds.{host_round, hosts_round, most_handed}
use Rattle.homa_generate.proofs.Goings.{then_gone, then_stopped}
use Rattle.homa_generate.proofs.Steadiness.{steady_none, steady_on}
use Rattle.homa_generate.proofs.Extending.{host_extends, hosts_extend}
use Rattle.homa_generate.proofs.MoreRounds.{hosts_open, next_host, no_host}
use Rattle.homa_generate.proofs.rounds.hosts_round.Goals as goal

pub loop-host-init : goal.loop-host-init
loop-host-init g c = record {
  gone = λ r at. hosts_open _ r _ _ _ at;
  steady = steady_none _ _ _ _;
  quiet = refl;
  same = g.met.K.Sink.same_self _;
}

pub returns-in_err-host_round-clause-stopped : goal.returns-in_err-host_round-clause-stopped
returns-in_err-host_round-clause-stopped g c =
    let s = g.P.ReplayWorld.settings c.args.world.now in
    let l = c.loop-host in
    let many : c.args.setup.now.settings.hosts ≡ s.hosts = ap (λ (o : Settings). o.hosts) c.requires.ready.settings in
    let one : s.hosts - l.host ≡ suc (s.hosts - (l.host + 1)) = omega (arith, many, c.loop-host-test.true) in
    MatchResult-from_err _ _ _ c.from_residual.ensures.0
    (λ _ r at.
    then_stopped s _ _ (hosts_round s (l.host + 1) (s.hosts - (l.host + 1))) (λ (o : Settings). host_round most_handed o l.host) r _ _ _ _ _ _
    l.invariant.steady.settings (hosts_extend s (l.host + 1) (s.hosts - (l.host + 1))) (host_extends most_handed s l.host)
    (next_host s _ r _ _ _ _ _ l.host (s.hosts - l.host) (s.hosts - (l.host + 1)) one (l.invariant.gone r at)) c.in_err-host_round.ensures.stopped)

pub loop-host-preserved : goal.loop-host-preserved
loop-host-preserved g c =
    let s = g.P.ReplayWorld.settings c.args.world.now in
    let l = c.loop-host in
    let e = c.in_ok-host_round.ensures in
    let many : c.args.setup.now.settings.hosts ≡ s.hosts = ap (λ (o : Settings). o.hosts) c.requires.ready.settings in
    let one : s.hosts - l.host ≡ suc (s.hosts - (l.host + 1)) = omega (arith, many, c.loop-host-test.true) in
    record {
      gone = λ r at.
          then_gone s _ _ (hosts_round s (l.host + 1) (s.hosts - (l.host + 1))) (λ (o : Settings). host_round most_handed o l.host) r _ _ _ _ _ _ _ _
          l.invariant.steady.settings
          (next_host s _ r _ _ _ _ _ l.host (s.hosts - l.host) (s.hosts - (l.host + 1)) one (l.invariant.gone r at)) e.gone;
      steady = steady_on _ _ _ _ _ _ _ _ _ (1056000 * l.host) 1056000 _ l.invariant.steady e.steady (omega arith);
      quiet = e.faulted.quiet ∙ l.invariant.quiet;
      same = g.met.K.Sink.same_on _ _ _ l.invariant.same e.same;
    }

pub returns-clause-gone : goal.returns-clause-gone
returns-clause-gone g c = λ r at.
    let s = g.P.ReplayWorld.settings c.args.world.now in
    let many : c.args.setup.now.settings.hosts ≡ s.hosts = ap (λ (o : Settings). o.hosts) c.requires.ready.settings in
    let none : s.hosts - c.loop-host.host ≡ 0 = omega (arith, many, c.loop-host-test.false) in
    no_host s _ r _ _ _ _ _ c.loop-host.host (s.hosts - c.loop-host.host) none (c.loop-host.invariant.gone r at)
