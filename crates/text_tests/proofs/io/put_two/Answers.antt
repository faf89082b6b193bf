use Rattle.std.proofs.Common.{[], refl, ◌∙◌}
use Rattle.std.proofs.lemmas.List.{append-nil}
use Rattle.std.proofs.lemmas.Result.{MatchResult-from_err}
use Rattle.homa_io.specs.Growing.{grows_on}
use Rattle.homa_io.proofs.Fronts.{front_within, two_put, front_after, went_out}
use Rattle.text_tests.proofs.io.put_two.Goals as goal

pub returns-in_err-write_all-clause-err : goal.returns-in_err-write_all-clause-err
returns-in_err-write_all-clause-err g c =
    MatchResult-from_err _ _ _ c.from_residual.ensures.0
    (λ _. front_within _ _ _ _ _ _ _ c.write_all.ensures.same.1 c.requires c.in_err-write_all.ensures.err refl)

pub returns-in_err-write_all-2-clause-err : goal.returns-in_err-write_all-2-clause-err
returns-in_err-write_all-2-clause-err g c = MatchResult-from_err _ _ _ c.from_residual-in_err-write_all-2.ensures.0
    (λ _. front_within _ _ _ _ _ [] _ (grows_on _ _ _ c.write_all.ensures.same.1 c.write_all-2.ensures.same.1)
    c.requires (front_after _ _ _ _ _ c.in_ok-write_all.ensures.ok c.in_err-write_all-2.ensures.err) (append-nil _))

pub returns-in_err-flush-clause-err : goal.returns-in_err-flush-clause-err
returns-in_err-flush-clause-err g c = MatchResult-from_err _ _ _ c.from_residual-in_err-flush.ensures.0
    (λ _. front_within _ _ _ _ _ [] _
    (grows_on _ _ _ c.write_all.ensures.same.1 (grows_on _ _ _ c.write_all-2.ensures.same.1 c.flush.ensures.below.grows)) c.requires
    (_, [], append-nil _, c.flush.ensures.whole ∙ two_put _ _ _ _ _ c.in_ok-write_all.ensures.ok c.in_ok-write_all-2.ensures.ok) (append-nil _))

pub returns-clause-ok : goal.returns-clause-ok
returns-clause-ok g c =
    went_out _ _ _ _ _ _ c.requires (two_put _ _ _ _ _ c.in_ok-write_all.ensures.ok c.in_ok-write_all-2.ensures.ok) c.in_ok-flush.ensures.ok

pub returns-clause-same : goal.returns-clause-same
returns-clause-same g c =
    g.met.K.Sink.same_on _ _ _ c.write_all.ensures.same.0 (g.met.K.Sink.same_on _ _ _ c.write_all-2.ensures.same.0 c.flush.ensures.below.same)
