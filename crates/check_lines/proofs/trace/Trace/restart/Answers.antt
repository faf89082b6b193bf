use Rattle.std.proofs.Common.{◌≡◌, ◌∙◌, refl, sym, ap, Some, List, [], ◌∷◌, ◌++◌, ℕ}
use Rattle.std.specs.Prelude.{slice_get}
use Rattle.std.proofs.lemmas.Option.{slice_get-get_or}
use Rattle.check_lines.specs.Traces.{lead_of, first_of, restarts_in}
use Rattle.check_lines.proofs.Hosts.{same_at, changed_by}
use Rattle.check_lines.proofs.trace.Trace.restart.Goals as goal

pub returns-clause-restarts : goal.returns-clause-restarts
returns-clause-restarts c h =
    let u = c.know.new.self in
    let old = c.index_mut-host.result.now in
    let k = c.in_ok-know.ensures in
    let here : slice_get u.hosts.items c.args.host.0 ≡ Some old =
    slice_get-get_or u.hosts.items c.args.host.0 old k.known ∙ ap (λ x. Some x) (sym c.index_mut-host.ensures.value) in
    changed_by restarts_in (λ (rs : List ℕ). rs ++ c.args.inc ∷ []) c.args.self.now u c.args.host h old _ k.hosts.restarts here c.in_ok-push.ensures.items

pub returns-clause-lead : goal.returns-clause-lead
returns-clause-lead c h =
    let u = c.know.new.self in
    let old = c.index_mut-host.result.now in
    let k = c.in_ok-know.ensures in
    let here : slice_get u.hosts.items c.args.host.0 ≡ Some old =
    slice_get-get_or u.hosts.items c.args.host.0 old k.known ∙ ap (λ x. Some x) (sym c.index_mut-host.ensures.value) in
    same_at lead_of u.hosts.items c.args.host.0 h.0 old _ here refl ∙ k.hosts.lead h

pub returns-clause-first : goal.returns-clause-first
returns-clause-first c h =
    let u = c.know.new.self in
    let old = c.index_mut-host.result.now in
    let k = c.in_ok-know.ensures in
    let here : slice_get u.hosts.items c.args.host.0 ≡ Some old =
    slice_get-get_or u.hosts.items c.args.host.0 old k.known ∙ ap (λ x. Some x) (sym c.index_mut-host.ensures.value) in
    same_at first_of u.hosts.items c.args.host.0 h.0 old _ here refl ∙ k.hosts.first h
