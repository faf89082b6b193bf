use Rattle.std.proofs.Common.{◌≡◌, refl, sym, ap, ◌∙◌, Some}
use Rattle.std.specs.Prelude.{slice_get}
use Rattle.std.proofs.lemmas.Option.{slice_get-get_or}
use Rattle.check_lines.specs.Traces.{incoming_of, other}
use Rattle.check_lines.proofs.Hosts.{same_hosts, same_at, incoming_same, noted_at}
use Rattle.check_lines.proofs.trace.Trace.note_incoming.Goals as goal

pub returns-clause-hosts : goal.returns-clause-hosts
returns-clause-hosts c =
    let u = c.know.new.self in
    let at = c.args.host.0 in
    let h = c.index_mut.result.now in
    let here : slice_get u.hosts.items at ≡ Some h =
    slice_get-get_or u.hosts.items at h c.in_ok-know.ensures.known ∙ ap (λ x. Some x) (sym c.index_mut.ensures.value) in
    let rest = c.in_ok-note.ensures.rest in
    same_hosts c.args.self.now u _ at h c.note.new.self c.know.ensures.hosts here refl
    (ap (λ x. x.lead) rest) (ap (λ x. x.first) rest) (ap (λ x. x.restarts) rest)

pub returns-clause-noted : goal.returns-clause-noted
returns-clause-noted c was =
    let t = c.args.self.now in
    let u = c.know.new.self in
    let at = c.args.host.0 in
    let h = c.index_mut.result.now in
    let here : slice_get u.hosts.items at ≡ Some h =
    slice_get-get_or u.hosts.items at h c.in_ok-know.ensures.known ∙ ap (λ x. Some x) (sym c.index_mut.ensures.value) in
    noted_at (incoming_of c.args.sender) t u c.args.host c.args.id c.args.is_in h c.note.new.self
    (incoming_same c.args.sender t u c.in_ok-know.ensures.lists) here c.in_ok-note.ensures.noted

pub returns-clause-other : goal.returns-clause-other
returns-clause-other c k q =
    let u = c.know.new.self in
    let at = c.args.host.0 in
    let h = c.index_mut.result.now in
    let here : slice_get u.hosts.items at ≡ Some h =
    slice_get-get_or u.hosts.items at h c.in_ok-know.ensures.known ∙ ap (λ x. Some x) (sym c.index_mut.ensures.value) in
    same_at (λ o. incoming_of (other c.args.sender) o q) u.hosts.items at k.0 h c.note.new.self here (c.in_ok-note.ensures.other q)
    ∙ incoming_same (other c.args.sender) c.args.self.now u c.in_ok-know.ensures.lists k q
