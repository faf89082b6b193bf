use Rattle.std.proofs.Common.{◌≡◌, ◌∙◌, sym, ap, Some, None, subst, List}
use Rattle.std.specs.Prelude.{slice_get}
use Rattle.std.proofs.lemmas.Option.{slice_get-get_or}
use Rattle.check_lines.specs.declared.host.Host.{Host}
use Rattle.check_lines.specs.Traces.{host_at}
use Rattle.check_lines.proofs.Hosts.{none_beyond}
use Rattle.homa_check.proofs.MessageLaws.{known_messages, no_messages}
use Rattle.homa_check.proofs.judge.messages_at.Goals as goal

pub returns-in_ok-messages_of-in-Some : goal.returns-in_ok-messages_of-in-Some
returns-in_ok-messages_of-in-Some c v f =
    let e = c.in_ok-messages_of-in-Some.ensures in
    let h = c.in-Some.ensures.lookup in
    let here : slice_get c.deref.result.now c.args.host.0 ≡ Some c.in-Some.known.now =
    slice_get-get_or c.deref.result.now c.args.host.0 c.in-Some.known.now h.3.0 ∙ ap (λ x. Some x) (sym h.1) in
    let there : host_at c.args.trace.now c.args.host ≡ Some c.in-Some.known.now =
    subst (λ (hs : List Host). slice_get hs c.args.host.0 ≡ Some c.in-Some.known.now) c.deref.ensures.value here in
    e.items ∙ known_messages v c.args.trace.now c.args.host c.in-Some.known.now f.kept there e.asked e.awaited

pub returns-in-None : goal.returns-in-None
returns-in-None c v f =
    let there : host_at c.args.trace.now c.args.host ≡ None =
    subst (λ (hs : List Host). slice_get hs c.args.host.0 ≡ None) c.deref.ensures.value
    (none_beyond c.deref.result.now c.args.host.0 c.in-None.ensures.lookup.3) in
    c.new.ensures.items ∙ no_messages v c.args.trace.now c.args.host f.kept there
