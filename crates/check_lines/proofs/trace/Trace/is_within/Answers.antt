use Rattle.std.proofs.Common.{◌∙◌, sym, ap, subst, true}
use Rattle.std.specs.Option.{option_map_or}
use Rattle.homa_plain.specs.declared.id.CallId.{CallId}
use Rattle.check_call.specs.Spots.{spot}
use Rattle.check_call.specs.declared.spot.Spot.{Spot}
use Rattle.check_call.specs.Kept.{StandsFor, is_within_spot}
use Rattle.check_call.specs.Calls.{spot_in, beside}
use Rattle.check_lines.proofs.KeepLaws.{stands_now}
use Rattle.check_lines.proofs.trace.Trace.is_within.Goals as goal

pub returns-in-Some-call : goal.returns-in-Some-call
returns-in-Some-call c v keeps =
    let t = c.args.self.now in
    let id = c.in-Some.id in
    let x = c.in-Some-call.call.now in
    let b = beside id.client t.settings.resend x in
    let kept = c.spot_in.ensures ∙ ap (spot_in x) c.lives.ensures in
    let st = subst (λ (k : Spot). StandsFor b k (spot v.now id)) (sym kept) (stands_now v t id x keeps c.in-Some-call.ensures.some) in
    c.is_within.ensures b (spot v.now id) st
    ∙ (ap (λ s. is_within_spot s.window (spot v.now id)) (sym keeps.settings)
    ∙ sym (ap (λ o. option_map_or (λ (q : CallId). is_within_spot v.settings.window (spot v.now q)) o true) c.in-Some.is))
