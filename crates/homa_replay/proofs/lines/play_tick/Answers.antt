use Rattle.std.proofs.Common.{◌∙◌, ap, sym, Ok, [], refl}
use Rattle.std.proofs.lemmas.List.{append-nil}
use Rattle.homa_plain.specs.Replay.{turns_of}
use Rattle.homa_replay.specs.Lines.{tick_of}
use Rattle.homa_replay.proofs.Plays.{cut_wide}
use Rattle.homa_replay.proofs.Turns.{is_none, then_cut}
use Rattle.homa_replay.proofs.Playing.{not_all, plays_cut, plays_wide, plays_on}
use Rattle.homa_replay.proofs.lines.play_tick.Goals as goal

pub returns-in_err-answer-clause-plays : goal.returns-in_err-answer-clause-plays
returns-in_err-answer-clause-plays g c =
    plays_cut _ _ c.from_residual.ensures.1 (λ w h. cut_wide _ w _ (turns_of 0 c.args.hosts) _ _ _ _ (c.in_err-answer.ensures.plays.cut w h))

pub returns-then-is_some-clause-plays : goal.returns-then-is_some-clause-plays
returns-then-is_some-clause-plays g c =
    plays_wide (turns_of 0 c.args.hosts) _ c.in_ok-answer.ensures.plays (not_all c.in_ok-answer.answer (sym c.is_some.ensures ∙ c.if-is_some.true))

pub returns-in_err-turned-clause-plays : goal.returns-in_err-turned-clause-plays
returns-in_err-turned-clause-plays g c =
    let e = c.in_ok-answer.ensures in
    let first = e.plays.played (ap Ok (is_none c.in_ok-answer.answer (sym c.is_some.ensures ∙ c.if-is_some.false))) in
    plays_cut _ _ c.from_residual-in_err-turned.ensures.1
    (λ w h. then_cut _ _ _ _ _ _ _ _ _ _ _ e.settings (first w h) [] (tick_of c.args.hosts) _
    (sym (append-nil (tick_of c.args.hosts))) c.in_err-turned.ensures.plays.cut)

pub returns-clause-plays : goal.returns-clause-plays
returns-clause-plays g c =
    let e = c.in_ok-answer.ensures in
    let first = e.plays.played (ap Ok (is_none c.in_ok-answer.answer (sym c.is_some.ensures ∙ c.if-is_some.false))) in
    plays_on _ _ _ _ [] (tick_of c.args.hosts) e.settings first (sym (append-nil (tick_of c.args.hosts))) _ c.in_ok-turned.ensures.plays (λ _. refl)
