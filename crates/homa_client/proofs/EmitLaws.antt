-- What a row sends, by its tests.
use Rattle.std.proofs.Common.{◌≡◌, ◌<◌, ◌≤◌, ℕ, ◌-◌, Bool, true, false, cond, ltb, Option, Some, None, refl, sym, ap, subst, ◌∙◌}
use Rattle.std.proofs.lemmas.Bool.{lt-ltb, le-ltb}
use Rattle.std.specs.Option.{option_map, unwrap_or}
use Rattle.plain_sets.specs.Ranges.{Range}
use Rattle.range_set.specs.Fits.{bounds}
use Rattle.homa_plain.specs.declared.settings.Settings.{Settings}
use Rattle.homa_plain.specs.declared.row.Emitted.TheVariants.{Sent, Short, Rests}
use Rattle.homa_plain.specs.Outgoing.{next_range}
use Rattle.homa_plain.specs.Rows.{ClientRow}
use Rattle.homa_plain.specs.SentNext.{may_send_request}
use Rattle.homa_in.specs.Sends.{emits}
use Rattle.homa_client.specs.Gives.{row_emits}

module _ (s : Settings) (now credit : ℕ) (r : ClientRow) where
  pub rests_not : false ≡ may_send_request s now r → Rests ≡ row_emits s now credit r
  rests_not e = ap (λ b. cond b (emits credit (next_range r.out s.seg)) Rests) e

  may : true ≡ may_send_request s now r → emits credit (next_range r.out s.seg) ≡ row_emits s now credit r
  may e = ap (λ b. cond b (emits credit (next_range r.out s.seg)) Rests) e

  pub rests_none : true ≡ may_send_request s now r → None ≡ option_map bounds (next_range r.out s.seg) → Rests ≡ row_emits s now credit r
  rests_none e f = none (next_range r.out s.seg) f ∙ may e where
    none : (o : Option Range) → None ≡ option_map bounds o → Rests ≡ emits credit o
    none None g = refl
    none (Some range) g = cc

  module _ (from to : ℕ) (can : true ≡ may_send_request s now r) (is : Some (from, to) ≡ option_map bounds (next_range r.out s.seg)) where
    paid : (o : Option Range) → Some (from, to) ≡ option_map bounds o → (b : Bool) → ltb credit (to - from) ≡ b → cond b Short (Sent from to) ≡ emits credit o
    paid None g b h = cc
    paid (Some range) g b h =
        let first : from ≡ range.from = ap (λ (o : Option (ℕ × ℕ)). (unwrap_or o (0, 0)).0) g in
        let second : to ≡ range.to = ap (λ (o : Option (ℕ × ℕ)). (unwrap_or o (0, 0)).1) g in
        subst (λ x. cond b Short (Sent x to) ≡ cond (ltb credit (range.to - range.from)) Short (Sent range.from range.to)) (sym first)
        (subst (λ y. cond b Short (Sent range.from y) ≡ cond (ltb credit (range.to - range.from)) Short (Sent range.from range.to)) (sym second)
        (ap (λ c. cond c Short (Sent range.from range.to)) (sym h ∙ ap (λ x. ltb credit (to - x)) first ∙ ap (λ y. ltb credit (y - range.from)) second)))

    pub short_of : credit < to - from → Short ≡ row_emits s now credit r
    short_of h = paid (next_range r.out s.seg) is true (lt-ltb credit (to - from) h) ∙ may can

    pub sent_of : to - from ≤ credit → Sent from to ≡ row_emits s now credit r
    sent_of h = paid (next_range r.out s.seg) is false (le-ltb credit (to - from) h) ∙ may can
