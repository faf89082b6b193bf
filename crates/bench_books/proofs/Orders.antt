-- Timers whose orders are their slots.
use Rattle.std.proofs.Common.{◌≡◌, ℕ, List, sym, ◌∙◌, not, refl}
use Rattle.std.specs.Prelude.{◌==◌}
use Rattle.std.specs.List.{AllByRecursion}
use Rattle.plain_sets.specs.Ordered.{placed}
use Rattle.plain_sets.proofs.OrderLaws.{all_weaker, placed-all}
use Rattle.plain_sets.proofs.OrderSame.{filter-all}
use Rattle.homa_timers.specs.Armed.{Timer, timer_key, without, IsOwnOrder}

-- only a slot's own timer has the slot as its order
pub own_order : (slot : ℕ) (ts : List Timer) → AllByRecursion (λ t. t.order ≡ t.slot) ts → IsOwnOrder slot slot ts
own_order slot ts all = all_weaker (λ t. t.order ≡ t.slot) (λ t. t.order ≡ slot → t.slot ≡ slot) (λ t e is. sym e ∙ is) ts all

-- an armed timer's order may be its slot too
pub order_kept : (slot at : ℕ) (ts : List Timer) → AllByRecursion (λ t. t.order ≡ t.slot) ts
    → AllByRecursion (λ t. t.order ≡ t.slot) (placed timer_key (record { slot = slot; at = at; order = slot }) (without slot ts))
order_kept slot at ts all =
    placed-all timer_key (λ t. t.order ≡ t.slot) (record { slot = slot; at = at; order = slot }) (without slot ts) refl
    (filter-all (λ t. t.order ≡ t.slot) (λ t. not (t.slot == slot)) ts all)
