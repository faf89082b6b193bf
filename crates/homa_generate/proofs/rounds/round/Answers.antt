-- The tick, the budgets, the hosts, the calls.
use Rattle.std.proofs.Common.{◌∙◌, refl}
use Rattle.std.proofs.lemmas.Result.{MatchResult-from_err}
use Rattle.homa_plain.specs.declared.settings.Settings.{Settings}
use Rattle.homa_plain.specs.Script.{GivenTicks}
use Rattle.generated_runs.specs.Rounds.{with_line, hosts_round, calls_round, calls_a_round}
use Rattle.homa_generate.proofs.Goings.{then_gone, then_stopped, id_extends}
use Rattle.homa_generate.proofs.Extending.{line_extends, hosts_extend, calls_extend, after_tick, ticked_extends}
use Rattle.homa_generate.proofs.MoreRounds.{round_opens, round_ticked, round_handed}
use Rattle.homa_generate.proofs.rounds.round.Goals as goal

pub returns-in_err-play-clause-stopped : goal.returns-in_err-play-clause-stopped
returns-in_err-play-clause-stopped g c =
    let s = g.P.ReplayWorld.settings c.args.world.now in
    MatchResult-from_err _ _ _ c.from_residual.ensures.0
    (λ _ r at. then_stopped s _ _ (after_tick s) (λ (o : Settings). with_line o (GivenTicks 1)) r _ _ _ _ _ _ refl (ticked_extends s)
    (λ x. line_extends s (GivenTicks 1) x) (round_opens s r _ _ _ at) c.in_err-play.ensures.stopped)

pub returns-in_err-hosts_round-clause-stopped : goal.returns-in_err-hosts_round-clause-stopped
returns-in_err-hosts_round-clause-stopped g c =
    let s = g.P.ReplayWorld.settings c.args.world.now in
    let b = c.begin.ensures in
    MatchResult-from_err _ _ _ c.from_residual-in_err-hosts_round.ensures.0
    (λ _ r at.
    then_stopped s _ _ (calls_round calls_a_round s) (λ (o : Settings). hosts_round o 0 o.hosts) r _ _ _ _ _ _ c.in_ok-play.ensures.steady.settings
    (calls_extend calls_a_round s) (hosts_extend s 0 s.hosts)
    (round_ticked s r _ _ _ _ _ _ _ at c.in_ok-play.ensures.gone b.destinations b.random refl refl refl) c.in_err-hosts_round.ensures.stopped)

pub returns-in_err-calls_round-clause-stopped : goal.returns-in_err-calls_round-clause-stopped
returns-in_err-calls_round-clause-stopped g c =
    let s = g.P.ReplayWorld.settings c.args.world.now in
    let b = c.begin.ensures in
    let stays = c.in_ok-play.ensures.steady.settings in
    MatchResult-from_err _ _ _ c.from_residual-in_err-calls_round.ensures.0
    (λ _ r at.
    then_stopped s _ _ (λ x. x) (calls_round calls_a_round) r _ _ _ _ _ _ (c.in_ok-hosts_round.ensures.steady.settings ∙ stays) id_extends
    (calls_extend calls_a_round s)
    (round_handed s _ r _ _ _ _ _ _ _ _ stays
    (round_ticked s r _ _ _ _ _ _ _ at c.in_ok-play.ensures.gone b.destinations b.random refl refl refl) c.in_ok-hosts_round.ensures.gone)
    c.in_err-calls_round.ensures.stopped)

pub returns-clause-gone : goal.returns-clause-gone
returns-clause-gone g c = λ r at.
    let s = g.P.ReplayWorld.settings c.args.world.now in
    let b = c.begin.ensures in
    let stays = c.in_ok-play.ensures.steady.settings in
    then_gone s _ _ (λ x. x) (calls_round calls_a_round) r _ _ _ _ _ _ _ _ (c.in_ok-hosts_round.ensures.steady.settings ∙ stays)
    (round_handed s _ r _ _ _ _ _ _ _ _ stays
    (round_ticked s r _ _ _ _ _ _ _ at c.in_ok-play.ensures.gone b.destinations b.random refl refl refl) c.in_ok-hosts_round.ensures.gone)
    c.in_ok-calls_round.ensures.gone
