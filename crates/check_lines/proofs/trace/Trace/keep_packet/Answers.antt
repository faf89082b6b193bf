use Rattle.std.proofs.Common.{◌≡◌, ◌∙◌, ◌++◌, ◌∷◌, [], sym, ap, subst, true, length}
use Rattle.plain_sets.specs.Maps.{contains_key}
use Rattle.homa_plain.specs.declared.id.CallId.{CallId}
use Rattle.check_lines.specs.Traces.{call_at, host_at, lead_of, first_of, restarts_in, asked_of, awaited_of}
use Rattle.check_lines.specs.Changes.{call_or}
use Rattle.check_lines.specs.Sends.{sent_with}
use Rattle.check_lines.proofs.Readings.{made_kept}
use Rattle.check_lines.proofs.SendLaws.{packet_keeps}
use Rattle.check_lines.proofs.trace.Trace.keep_packet.Goals as goal

pub returns-clause-kept : goal.returns-clause-kept
returns-clause-kept c v p keeps made e =
    let t = c.args.self.now in
    let k = c.args.packet in
    let a = c.note_first.new.self in
    let b = c.note_last.new.self in
    let f = c.in_ok-note_first.ensures in
    let l = c.note_last.ensures in
    let is_made : contains_key v.calls p.id ≡ true =
    subst (λ (q : CallId). contains_key v.calls q ≡ true) (ap (λ x. x.id) e) (sym (made_kept v t k.id keeps) ∙ made) in
    packet_keeps v t _ k p keeps e is_made
    (ap (λ z. z.settings) l.rest ∙ ap (λ z. z.settings) f.rest) (ap (λ z. z.tick) l.rest ∙ ap (λ z. z.tick) f.rest)
    (ap (λ z. z.ids) l.rest ∙ ap (λ z. z.ids) f.rest)
    (λ h. ap (λ z. lead_of (host_at z h)) l.rest ∙ f.lead h) (λ h. ap (λ z. restarts_in (host_at z h)) l.rest ∙ f.restarts h)
    (λ h. ap (λ z. first_of (host_at z h)) l.rest ∙ f.first h)
    (record {
      asked = λ h q. ap (λ z. asked_of (host_at z h) q) l.rest ∙ f.lists.asked h q;
      awaited = λ h q. ap (λ z. awaited_of (host_at z h) q) l.rest ∙ f.lists.awaited h q;
    })
    (λ q. l.calls q ∙ ap (λ z. call_or k.id (sent_with k) (call_at z) q) f.rest) (l.len ∙ ap (λ z. length z.calls.items) f.rest)
    (c.in_ok-push.ensures.items ∙ ap (λ ps. ps ++ k ∷ []) (ap (λ z. z.packets.items) l.rest ∙ ap (λ z. z.packets.items) f.rest))
