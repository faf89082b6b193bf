-- Opened, printed, and played to its end.
use Rattle.std.proofs.Common.{◌≡◌, ◌∙◌, refl, subst}
use Rattle.std.proofs.lemmas.Result.{MatchResult-from_err}
use Rattle.homa_io.specs.Outside.{TookFront}
use Rattle.homa_plain.specs.declared.settings.Settings.{Settings}
use Rattle.homa_plain.specs.Script.{settings_text}
use Rattle.generated_runs.specs.Generated.{generated_settings, schedule_text}
use Rattle.homa_generate.specs.Progress.{holds_of}
use Rattle.homa_generate.proofs.Making.{settings_part, nothing_part, made_here, stopped_here}
use Rattle.homa_generate.proofs.printing.generate.Goals as goal

pub returns-in_err-setup-clause-part : goal.returns-in_err-setup-clause-part
returns-in_err-setup-clause-part g c =
    MatchResult-from_err _ _ _ c.from_residual.ensures.0
    (λ _. nothing_part _ (schedule_text generated_settings) _ _ (g.met.P.OpenWorld.unasked c.args.boxes _ refl))

pub returns-in_err-world-clause-part : goal.returns-in_err-world-clause-part
returns-in_err-world-clause-part g c =
    MatchResult-from_err _ _ _ c.from_residual-in_err-world.ensures.0
    (λ _. nothing_part _ (schedule_text generated_settings) _ _ (g.met.P.OpenWorld.unasked c.args.boxes _ refl))

pub returns-in_err-open-clause-part : goal.returns-in_err-open-clause-part
returns-in_err-open-clause-part g c =
    MatchResult-from_err _ _ _ c.from_residual-in_err-open.ensures.0
    (λ _. nothing_part _ (schedule_text generated_settings) _ _ (g.met.P.OpenWorld.unasked c.args.boxes _ refl))

pub returns-in_err-put_settings-clause-part : goal.returns-in_err-put_settings-clause-part
returns-in_err-put_settings-clause-part g c =
    let same : c.in_ok-setup.setup.settings ≡ generated_settings = c.in_ok-setup.ensures.settings ∙ c.generated_settings.ensures in
    let k = g.K.Sink in
    MatchResult-from_err _ _ _ c.from_residual-in_err-put_settings.ensures.0
    (λ _. settings_part _ _ _ _ (g.met.P.OpenWorld.unasked c.args.boxes _ refl)
    (subst (λ (s : Settings). TookFront (k.taken c.args.sink.now) (k.taken c.put_settings.new.sink) (settings_text s)) same c.in_err-put_settings.ensures.err))

pub returns-in_err-play_rounds-clause-part : goal.returns-in_err-play_rounds-clause-part
returns-in_err-play_rounds-clause-part g c =
    let same : c.in_ok-setup.setup.settings ≡ generated_settings = c.in_ok-setup.ensures.settings ∙ c.generated_settings.ensures in
    let w = c.in_ok-world.ensures in
    MatchResult-from_err _ _ _ c.from_residual-in_err-play_rounds.ensures.0
    (λ _. stopped_here c.args.seed c.args.calls _ _ _ _ (holds_of c.play_rounds.new.progress (g.K.Sink.taken c.play_rounds.new.sink)) _
    (g.P.ReplayWorld.stands c.play_rounds.new.world) _ (g.P.ReplayWorld.allows c.play_rounds.new.world) _ _ same w.settings w.opened
    c.in_ok-open.ensures.fabric refl c.in_ok-put_settings.ensures.ok w.allows _ c.in_err-play_rounds.ensures.stopped)

pub returns-clause-ran : goal.returns-clause-ran
returns-clause-ran g c =
    let same : c.in_ok-setup.setup.settings ≡ generated_settings = c.in_ok-setup.ensures.settings ∙ c.generated_settings.ensures in
    let w = c.in_ok-world.ensures in
    made_here c.args.seed c.args.calls _ _ _ _ _ _ _ _ _ _ _ same w.settings w.opened c.in_ok-open.ensures.fabric refl c.in_ok-put_settings.ensures.ok
    w.allows c.new-2.ensures (g.met.P.ReplayWorld.allows_none c.play_rounds.new.world) c.in_ok-play_rounds.ensures.gone
