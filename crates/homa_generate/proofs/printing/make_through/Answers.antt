-- What was put in goes out behind the run.
use Rattle.std.proofs.lemmas.Result.{MatchResult-from_err}
use Rattle.homa_replay.proofs.Exits.{answered}
use Rattle.homa_generate.proofs.Making.{schedule_made}
use Rattle.homa_generate.proofs.Held.{part_any, ran_to_end, held_made, held_part}
use Rattle.homa_generate.proofs.printing.make_through.Goals as goal

pub returns-in_err-finish-clause-part : goal.returns-in_err-finish-clause-part
returns-in_err-finish-clause-part g c =
    let e = c.generate-made.ensures in
    MatchResult-from_err _ _ _ c.from_residual.ensures.0
    (λ _. held_part _ _ _ _ _ _ _ _ c.requires.none c.finish.ensures.whole e.same.1 c.finish.ensures.grows
    (part_any _ _ c.generate-made.result _ _ e.ran e.part))

pub returns-in_err-made-clause-part : goal.returns-in_err-made-clause-part
returns-in_err-made-clause-part g c =
    let e = c.generate-made.ensures in
    MatchResult-from_err _ _ _ c.from_residual-in_err-made.ensures.0
    (λ _. held_part _ _ _ _ _ _ _ _ c.requires.none c.finish.ensures.whole e.same.1 c.finish.ensures.grows
    (part_any _ _ c.generate-made.result _ _ e.ran e.part))

pub returns-clause-made : goal.returns-clause-made
returns-clause-made g c =
    let e = c.generate-made.ensures in
    schedule_made _ _ _ _ _
    (held_made _ _ _ _ _ _ _ _ c.requires.none c.finish.ensures.whole (c.in_ok-finish.ensures.none (answered _ _ c.in_ok-made.was)) _
    (ran_to_end _ _ c.generate-made.result _ _ _ c.in_ok-made.was e.ran))

pub returns-clause-same : goal.returns-clause-same
returns-clause-same g c = g.met.K.Sink.same_on _ _ _ c.generate-made.ensures.same.0 c.finish.ensures.same
