use Rattle.std.proofs.Common.{◌≡◌, ◌∙◌, refl, sym, ap, subst, Some}
use Rattle.std.specs.Option.{option_map}
use Rattle.homa_plain.specs.declared.id.CallId.{CallId}
use Rattle.trace_rules.specs.Seen.{delivered}
use Rattle.check_call.specs.Spots.{spot, delivered_spot}
use Rattle.check_call.specs.declared.spot.Spot.{Spot}
use Rattle.check_call.specs.Kept.{StandsFor}
use Rattle.check_call.specs.Calls.{spot_in, beside}
use Rattle.check_lines.specs.Traces.{call_at, lives_in, beside_at}
use Rattle.check_lines.specs.Changes.{Changes, StandsAt}
use Rattle.check_lines.proofs.Places.{some_call}
use Rattle.check_lines.proofs.KeepLaws.{stands_now}
use Rattle.check_lines.proofs.TakeLaws.{keeps_delivery, some_there}
use Rattle.check_lines.proofs.DeliverLaws.{delivery_changes, some_after}
use Rattle.check_lines.proofs.trace.Trace.deliver_at.Goals as goal

pub returns-clause-taken : goal.returns-clause-taken
returns-clause-taken c v p keeps place due e =
    let id = c.args.packet.id in
    let t = c.settle.new.self in
    let settled = c.in_ok-settle.ensures in
    let k = settled.kept v keeps in
    let ids : id ≡ p.id = ap (λ x. x.id) e in
    let made = some_there (call_at t id) (some_call t.ids.keys t.calls.items id c.args.at settled.place) in
    let call = made.0 in
    let there : call_at t p.id ≡ Some call = subst (λ (q : CallId). call_at t q ≡ Some call) ids made.1 in
    let b = beside p.id.client t.settings.resend call in
    let leaves = c.delivered-delivered.ensures v p call k (place ∙ sym (ap (λ z. z.place) settled.rest)) e made.1 in
    let w = delivered v (Some p) in
    let f = delivered_spot v p in
    let changes : Changes v w id f = subst (λ (q : CallId). Changes v w q f) (sym ids) (delivery_changes v p) in
    let known : beside_at t p.id ≡ Some b = ap (option_map (beside p.id.client t.settings.resend)) there in
    let stands : StandsAt t id c.delivered-delivered.result.now (f (spot v.now id)) =
    subst (λ (q : CallId). StandsAt t q c.delivered-delivered.result.now (f (spot v.now q))) (sym ids) (rw known leaves.now) in
    let kept = c.in_ok-keep.ensures.kept v w f k changes stands in
    let stale : c.spot-stale.result ≡ spot_in call (lives_in t id call.server) = rw made.1 at c.spot-stale.ensures in
    let was = subst (λ (s : Spot). StandsFor b s (spot v.now p.id)) (sym (stale ∙ ap (λ (q : CallId). spot_in call (lives_in t q call.server)) ids))
    (stands_now v t p.id call k there) in
    some_after v _ p _ b (keeps_delivery w c.keep.new.self _ refl kept) due (c.in_ok-keep.ensures.sets p.id ∙ known) refl e leaves.refused was
    leaves.due leaves.due_then
