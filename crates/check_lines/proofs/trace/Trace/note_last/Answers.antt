use Rattle.std.proofs.Common.{◌≡◌, ◌||◌, Some, ℕ, sym, ap, ◌∙◌, subst, length, vec_len}
use Rattle.std.specs.Prelude.{slice_get, slice_set}
use Rattle.std.proofs.lemmas.Option.{slice_get-get_or}
use Rattle.check_call.specs.declared.call.Call.{Call}
use Rattle.check_call.specs.Kept.{piece_has_last}
use Rattle.check_lines.specs.Traces.{call_in}
use Rattle.check_lines.specs.Changes.{call_or}
use Rattle.check_lines.specs.Sends.{sent_with}
use Rattle.check_lines.proofs.Places.{place_within, call_changed}
use Rattle.check_lines.proofs.SendLaws.{not_sent}
use Rattle.check_lines.proofs.trace.Trace.note_last.Goals as goal
use Rattle.check_lines.proofs.trace.Trace.note_last.Goals.{then-call, else-call}

pub returns-then-not-is_of_client-clause-calls : goal.returns-then-not-is_of_client-clause-calls
returns-then-not-is_of_client-clause-calls c q =
    let t = c.args.self.now in
    not_sent c.args.packet.now c.args.packet.now.id q (call_in t.ids.keys t.calls.items) (sym c.is_of_client.ensures ∙ c.if-not-is_of_client.true)

pub returns-clause-calls : goal.returns-clause-calls
returns-clause-calls c q =
    let t = c.args.self.now in
    let k = c.args.packet.now in
    let at = c.in-Some.at in
    let place = c.in-Some.ensures.some.0 in
    let x = c.index_mut-call.result.now in
    let y = c.index.result.now in
    let within = place_within t.ids.keys t.calls.items k.id at place in
    let here : slice_get t.calls.items at ≡ Some x = slice_get-get_or t.calls.items at x within ∙ ap (λ z. Some z) (sym c.index_mut-call.ensures.value) in
    let seen : slice_get t.calls.items at ≡ Some y = slice_get-get_or t.calls.items at y within ∙ ap (λ z. Some z) (sym c.index.ensures) in
    let same : y ≡ x = cc in
    let last : c.has_last-last.result ≡ piece_has_last (length x.request.items) k.role k.piece =
    c.has_last-last.ensures ∙ ap (λ (n : ℕ). piece_has_last n k.role k.piece) (c.len.ensures ∙ (ap (λ (z : Call). vec_len z.request) same ∙ x.request.ok.0)) in
    let was : c.if-call.call ≡ (x.sent_last || c.has_last-last.result) =
    elim c.if-call.branch [
      | then-call w ↦ (w.call-is ∙ w.if-call.true) ∙ ap (λ b. b || c.has_last-last.result) (sym w.if-call.true)
      | else-call w ↦ w.call-is ∙ ap (λ b. b || c.has_last-last.result) (sym w.if-call.false)
    ] in
    let new : sent_with k x ≡ record x { sent_last = c.if-call.call } = λ i. record x { sent_last = sym (was ∙ ap (λ b. x.sent_last || b) last) i } in
    subst (λ (d : Call). call_in t.ids.keys (slice_set t.calls.items at d) q ≡ call_or k.id (sent_with k) (call_in t.ids.keys t.calls.items) q) new
    (call_changed t.ids.keys t.calls.items k.id at x (sent_with k) q place here)
