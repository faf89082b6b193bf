use Rattle.std.proofs.Common.{sym, ap, subst, ◌∙◌, ◌∷◌, []}
use Rattle.std.specs.Prelude.{if◌then◌else◌}
use Rattle.std.proofs.lemmas.Result.{MatchResult-from_err, err_from_is_err_and}
use Rattle.homa_plain.specs.Entries.{PlainClock}
use Rattle.node_runs.specs.Course.{Tells}
use Rattle.node_turns.specs.Told.{AreFront}
use Rattle.node_turns.proofs.Tellings.{front_first, never_own, seen_midst}
use Rattle.node_turns.proofs.acts.clock_stands.Goals as goal

pub returns-in_err-seen-clause-cut : goal.returns-in_err-seen-clause-cut
returns-in_err-seen-clause-cut g c =
    let o = g.O.Observer in
    let clock = Tells (PlainClock c.args.now) in
    MatchResult-from_err _ _ _ c.from_residual.ensures.0
    (λ _ w h. subst (λ rs. AreFront o.told o.kept o.strange (o.taken c.args.observer.now) (o.notes c.args.observer.now) (o.taken c.seen.new.self) rs)
    (sym (ap (λ t. if t then clock ∷ [] else []) (sym (c.is_news-is_told.ensures w h) ∙ c.if-is_told.true)))
    (front_first o.told o.kept o.strange _ _ _ clock [] c.in_err-seen.ensures.err))

pub returns-in_err-seen-clause-midst : goal.returns-in_err-seen-clause-midst
returns-in_err-seen-clause-midst g c =
    let o = g.O.Observer in
    let p = err_from_is_err_and c.from_residual.result c.from_residual.ensures.1 in
    rw (p.1, p.2) (seen_midst c.in_err-seen.field-0.0 (never_own o.strange g.met.O.Observer.strange_comes c.in_err-seen.field-0.0
    (o.notes c.args.observer.now) (PlainClock c.args.now) tt c.in_err-seen.ensures.stranger))
