use Rattle.std.proofs.Common.{◌∙◌, subst, suc, take, drop, ◌∷◌, [], sym}
use Rattle.std.specs.Prelude.{map}
use Rattle.std.proofs.lemmas.Result.{MatchResult-from_err, err_from_is_err_and}
use Rattle.homa_plain.specs.Entries.{plain}
use Rattle.node_runs.specs.Course.{Tells}
use Rattle.node_turns.specs.Told.{AreTold, AreFront}
use Rattle.node_turns.proofs.Lists.{taken_more, parts_around}
use Rattle.node_turns.proofs.Tellings.{told_one, told_more, front_first, front_more, never_own}
use Rattle.node_turns.proofs.telling.tell_entries.Goals as goal

pub returns-in_err-seen-clause-err : goal.returns-in_err-seen-clause-err
returns-in_err-seen-clause-err g c =
    let o = g.O.Observer in
    let told = g.H.LoopHosts.told c.args.hosts.now in
    let e = plain c.entry.result in
    let i = c.loop-i.i in
    MatchResult-from_err _ _ _ c.from_residual.ensures.0
    (λ _. subst (λ rs. AreFront o.told o.kept o.strange (o.taken c.args.observer.now) (o.notes c.args.observer.now) (o.taken c.seen.new.self) rs)
    (parts_around Tells told i e c.entry.ensures.entry)
    (front_more o.told o.kept o.strange _ (o.taken c.loop-i.observer) _ _ (o.notes c.loop-i.observer) (map Tells (take i told))
    (Tells e ∷ map Tells (drop (suc i) told)) c.loop-i.invariant.told
    (front_first o.told o.kept o.strange _ _ _ (Tells e) _ c.in_err-seen.ensures.err)))

pub loop-i-preserved : goal.loop-i-preserved
loop-i-preserved g c =
    let o = g.O.Observer in
    let told = g.H.LoopHosts.told c.args.hosts.now in
    let e = plain c.entry.result in
    let i = c.loop-i.i in
    let n = c.in_ok-seen.ensures in
    record {
      told = subst (AreTold o.told o.kept o.strange (o.taken c.args.observer.now) (o.notes c.args.observer.now) (o.taken c.seen.new.self)
          (o.notes c.seen.new.self)) (sym (taken_more Tells told i e c.entry.ensures.entry))
          (told_more o.told o.kept o.strange _ (o.taken c.loop-i.observer) _ _ (o.notes c.loop-i.observer) _ (map Tells (take i told))
          (Tells e ∷ []) c.loop-i.invariant.told
          (told_one o.told o.kept o.strange _ _ _ _ (Tells e) n.told n.kept n.usual));
      quiet = n.quiet ∙ c.loop-i.invariant.quiet;
      same = g.met.O.Observer.same_on _ _ _ c.loop-i.invariant.same n.same;
    }

pub returns-in_err-seen-clause-stranger : goal.returns-in_err-seen-clause-stranger
returns-in_err-seen-clause-stranger g c =
    let o = g.O.Observer in
    let p = err_from_is_err_and c.from_residual.result c.from_residual.ensures.1 in
    rw (p.1, p.2) (never_own o.strange g.met.O.Observer.strange_comes c.in_err-seen.field-0.0 (o.notes c.loop-i.observer) (plain c.entry.result)
    c.entry.ensures.own c.in_err-seen.ensures.stranger)
