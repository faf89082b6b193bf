-- At its place, where it isn't blocked.
use Rattle.std.proofs.Common.{rules, ◌≡◌, ◌∙◌, arith, sym, ap, length}
use Rattle.std.proofs.lemmas.Fn.{filter_same}
use Rattle.plain_sets.specs.Ordered.{not_of}
use Rattle.check_call.specs.Choices.{sender_of, place_in}
use Rattle.check_call.proofs.ChoiceLaws.{enters_at}
use Rattle.check_call.proofs.choice.enter.Goals as goal

pub returns-then-is_blocked : goal.returns-then-is_blocked
returns-then-is_blocked c =
    let ws = c.args.chosen.now.items in
    let m = c.args.message in
    let here : c.place_in-place.result ≡ place_in m ws = c.place_in-place.ensures ∙ ap (place_in m) c.deref.ensures.value in
    (enters_at m ws).stays (rw (c.deref-2.ensures.value, here) at (sym c.is_blocked.ensures ∙ c.if-is_blocked.true))

pub insert-requires : goal.insert-requires
insert-requires c =
    let ws = c.args.chosen.now.items in
    let m = c.args.message in
    let here : c.place_in-place.result ≡ place_in m ws = c.place_in-place.ensures ∙ ap (place_in m) c.deref.ensures.value in
    let kept : c.retain.new.self.items ≡ not_of sender_of (sender_of m) ws = filter_same _ _ _ (λ x b f' k. search rules) _ _ c.retain.ensures.filtered in
    omega (arith, here, ap length kept, (enters_at m ws).inside (rw (c.deref-2.ensures.value, here) at (sym c.is_blocked.ensures ∙ c.if-is_blocked.false)))

pub returns : goal.returns
returns c =
    let ws = c.args.chosen.now.items in
    let m = c.args.message in
    let here : c.place_in-place.result ≡ place_in m ws = c.place_in-place.ensures ∙ ap (place_in m) c.deref.ensures.value in
    let kept : c.retain.new.self.items ≡ not_of sender_of (sender_of m) ws = filter_same _ _ _ (λ x b f' k. search rules) _ _ c.retain.ensures.filtered in
    c.in_ok-insert.ensures.items
    ∙ rw (kept, here) ((enters_at m ws).changes (rw (c.deref-2.ensures.value, here) at (sym c.is_blocked.ensures ∙ c.if-is_blocked.false)))
