-- Its text, its events, its packets.
use Rattle.std.proofs.Common.{◌∙◌, ap, refl, sym, subst, drop}
use Rattle.std.proofs.lemmas.Result.{MatchResult-from_err}
use Rattle.homa_plain.specs.declared.settings.Settings.{Settings}
use Rattle.generated_runs.specs.Rounds.{all_sent}
use Rattle.homa_replay.proofs.Fronts.{front_whole}
use Rattle.homa_generate.specs.GenerateWorld.{AreNew}
use Rattle.homa_generate.specs.Lines.{given_of}
use Rattle.homa_generate.proofs.Making.{made_line}
use Rattle.homa_generate.proofs.Goings.{line_gone, line_stopped}
use Rattle.homa_generate.proofs.lines.play.Goals as goal

pub returns-in_err-show-clause-stopped : goal.returns-in_err-show-clause-stopped
returns-in_err-show-clause-stopped g c =
    MatchResult-from_err _ _ _ c.from_residual.ensures.0
    (λ _ r at. line_stopped _ (given_of c.args.line.now) r _ _ _ (g.met.P.ReplayWorld.allows_none c.args.world.now) c.in_err-show.ensures.err)

pub returns-in_err-carry-clause-stopped : goal.returns-in_err-carry-clause-stopped
returns-in_err-carry-clause-stopped g c =
    MatchResult-from_err _ _ _ c.from_residual-in_err-carry.ensures.0
    (λ _ r at. line_stopped _ (given_of c.args.line.now) r _ _ _ (g.met.P.ReplayWorld.allows_none c.args.world.now) (front_whole _ _ _ c.in_ok-show.ensures.ok))

pub returns-clause-gone : goal.returns-clause-gone
returns-clause-gone g c = λ r at.
    line_gone _ (given_of c.args.line.now) _ r _ _ _ _ _ _ c.packets-first.result at refl c.in_ok-show.ensures.ok
    (c.packets-first.ensures r.world at.world) c.requires.ready.version (made_line c.args.line.now) c.in_ok-carry.ensures.carried
    (λ w h fresh. c.enter.ensures.entered w h (subst (λ (s : Settings). AreNew s w c.packets-first.result) (sym c.in_ok-carry.ensures.settings) fresh)
    ∙ ap (λ (s : Settings). all_sent s c.packets-first.result (drop c.packets-first.result w.packets) c.args.progress.now.fabric.fabric)
    c.in_ok-carry.ensures.settings)
