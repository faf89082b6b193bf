use Rattle.std.proofs.Common.{ap, false}
use Rattle.homa_script.specs.Script.{Script}
use Rattle.homa_replay.specs.declared.stop.Stop.TheVariants.{Write}
use Rattle.homa_replay.proofs.Behinds.{refuses_first}
use Rattle.homa_replay.proofs.Exits.{err_if, stop_of}
use Rattle.homa_replay.proofs.Fronts.{front_whole}
use Rattle.homa_replay.proofs.Begins.{begin_cut, settings_cut, begin_refused, begin_refused_cut, opened_at, unopened_at}
use Rattle.homa_replay.proofs.carrying.begin.Goals as goal

pub returns-in_err-settings-clause-part : goal.returns-in_err-settings-clause-part
returns-in_err-settings-clause-part g c =
    err_if _ _ _ c.from_residual.ensures.1
    (λ boxes. begin_cut boxes _ _ _ _ c.in_err-settings.ensures.taken _ c.in_err-settings.ensures.gives.read)

pub returns-in_err-put_entry-in-Ok-clause-part : goal.returns-in_err-put_entry-in-Ok-clause-part
returns-in_err-put_entry-in-Ok-clause-part g c =
    let limit = ap (λ (r : Script). r.place.limit) c.requires in
    let read = rw c.in-Ok.is at c.in_ok-settings.ensures.gives.read in
    err_if _ _ _ c.from_residual-in_err-put_entry-in-Ok.ensures.1
    (λ boxes. settings_cut boxes _ _ _ _ c.in_ok-settings.ensures.taken _ c.in-Ok.settings c.read_ahead.new.reader.place false
    (opened_at _ c.read_ahead.new.reader.place _ _ c.in-Ok.settings limit read) (λ k. absurd cc) c.in_err-put_entry-in-Ok.ensures.err)

pub returns-in_err-put_refused-in-Err-clause-part : goal.returns-in_err-put_refused-in-Err-clause-part
returns-in_err-put_refused-in-Err-clause-part g c =
    let limit = ap (λ (r : Script). r.place.limit) c.requires in
    let read = rw c.in-Err.is at c.in_ok-settings.ensures.gives.read in
    err_if _ Write _ (stop_of _ _ _ c.from_residual-in_err-put_refused-in-Err.ensures.1 c.in_err-put_refused-in-Err.ensures.stop)
    (λ boxes. begin_refused_cut boxes _ _ _ _ c.in_ok-settings.ensures.taken _ c.line.result c.in-Err.fault
    (unopened_at _ c.line.result c.read_ahead.new.reader.place _ _ c.in-Err.fault limit c.line.ensures read) c.in_err-put_refused-in-Err.ensures.err)

pub returns-in_ok-put_refused-in-Err-clause-refused : goal.returns-in_ok-put_refused-in-Err-clause-refused
returns-in_ok-put_refused-in-Err-clause-refused g c =
    let limit = ap (λ (r : Script). r.place.limit) c.requires in
    let read = rw c.in-Err.is at c.in_ok-settings.ensures.gives.read in
    λ _ boxes. begin_refused boxes _ _ _ _ c.in_ok-settings.ensures.taken _ c.line.result c.in-Err.fault
    (unopened_at _ c.line.result c.read_ahead.new.reader.place _ _ c.in-Err.fault limit c.line.ensures read) c.in_ok-put_refused-in-Err.ensures.ok

pub returns-in_ok-put_refused-in-Err-clause-front : goal.returns-in_ok-put_refused-in-Err-clause-front
returns-in_ok-put_refused-in-Err-clause-front g c =
    let limit = ap (λ (r : Script). r.place.limit) c.requires in
    let read = rw c.in-Err.is at c.in_ok-settings.ensures.gives.read in
    λ _ boxes. begin_refused_cut boxes _ _ _ _ c.in_ok-settings.ensures.taken _ c.line.result c.in-Err.fault
    (unopened_at _ c.line.result c.read_ahead.new.reader.place _ _ c.in-Err.fault limit c.line.ensures read)
    (front_whole _ _ _ c.in_ok-put_refused-in-Err.ensures.ok)

pub returns-in_ok-put_refused-in-Err-clause-behind : goal.returns-in_ok-put_refused-in-Err-clause-behind
returns-in_ok-put_refused-in-Err-clause-behind g c =
    let e = c.in_ok-settings.ensures in
    λ _. refuses_first _ _ _ _ _ _ _ _ _ e.taken c.in_ok-put_refused-in-Err.ensures.ok c.line.ensures e.took e.pending
