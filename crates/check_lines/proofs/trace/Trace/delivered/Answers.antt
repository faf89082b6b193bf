use Rattle.std.proofs.Common.{◌≡◌, ◌∙◌, arith, sym, ap, subst, Some}
use Rattle.std.proofs.lemmas.Option.{slice_get-get_or}
use Rattle.check_call.specs.Spots.{spot, delivered_spot, counted_spot, due_spot, due_if_refused}
use Rattle.homa_plain.specs.declared.id.CallId.{CallId}
use Rattle.check_call.specs.declared.call.Call.{Call}
use Rattle.check_call.specs.declared.call.Lives.{Lives}
use Rattle.check_call.specs.Kept.{StandsFor}
use Rattle.check_call.specs.Calls.{spot_in, beside, IsSettled, IsDelivery, Leaves}
use Rattle.check_lines.specs.Traces.{call_at, lives_in}
use Rattle.check_lines.proofs.Places.{place_within, call_at_place}
use Rattle.check_lines.proofs.KeepLaws.{stands_now}
use Rattle.check_lines.proofs.DeliverLaws.{is_delivery, some_is}
use Rattle.check_lines.proofs.trace.Trace.delivered.Goals as goal

pub index-call-requires : goal.index-call-requires
index-call-requires c =
    omega (arith, place_within c.args.self.now.ids.keys c.args.self.now.calls.items c.args.packet.now.id c.args.at c.requires.place, c.args.self.now.calls.ok)

pub delivered-requires : goal.delivered-requires
delivered-requires c =
    let t = c.args.self.now in
    let id = c.args.packet.now.id in
    let x = c.index-call.result.now in
    let here : call_at t id ≡ Some x = call_at_place t.ids.keys t.calls.items id c.args.at c.requires.place
    ∙ (slice_get-get_or t.calls.items c.args.at x (place_within t.ids.keys t.calls.items id c.args.at c.requires.place)
    ∙ ap (λ z. Some z) (sym c.index-call.ensures)) in
    let settled : IsSettled c.args.packet.now.role (spot_in x (lives_in t id x.server)) = rw here at c.requires.settled in
    subst (λ (l : Lives). IsSettled c.args.packet.now.role (spot_in x l)) (sym c.lives-lives.ensures) settled

pub returns : goal.returns
returns c v p y keeps place e has =
    let t = c.args.self.now in
    let id = c.args.packet.now.id in
    let x = c.index-call.result.now in
    let here : call_at t id ≡ Some x = call_at_place t.ids.keys t.calls.items id c.args.at c.requires.place
    ∙ (slice_get-get_or t.calls.items c.args.at x (place_within t.ids.keys t.calls.items id c.args.at c.requires.place)
    ∙ ap (λ z. Some z) (sym c.index-call.ensures)) in
    let same : x ≡ y = some_is x y (sym here ∙ has) in
    let ids : id ≡ p.id = ap (λ k. k.id) e in
    let there : call_at t p.id ≡ Some x = subst (λ (q : CallId). call_at t q ≡ Some x) ids here in
    let lives : c.lives-lives.result ≡ lives_in t p.id x.server = c.lives-lives.ensures ∙ ap (λ (q : CallId). lives_in t q x.server) ids in
    let d = subst (λ (l : Lives). IsDelivery v x c.args.packet.now p t.place l t.settings.unsched) (sym lives)
    (is_delivery v t x c.args.packet.now p keeps place e there) in
    let st = subst (λ (l : Lives). StandsFor (beside p.id.client t.settings.resend x) (spot_in x l) (spot v.now p.id)) (sym lives)
    (stands_now v t p.id x keeps there) in
    subst (λ (z : Call). Leaves (beside p.id.client t.settings.resend z) p.id c.delivered.result (delivered_spot v p (spot v.now p.id))
    (counted_spot v p (spot v.now p.id)) (due_spot v p (spot v.now p.id)) (due_if_refused v p (spot v.now p.id))) same
    (c.delivered.ensures v p (spot v.now p.id) t.settings.resend d st)
