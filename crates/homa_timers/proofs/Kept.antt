-- The timers of a heap over each change.
use Rattle.std.proofs.Common.{◌≡◌, ℕ, ◌<◌, not, List, length, map, refl, sym, ap, subst, ◌∙◌}
use Rattle.std.specs.Prelude.{◌==◌}
use Rattle.plain_sets.specs.Ordered.{placed}
use Rattle.plain_sets.proofs.OrderLaws.{placed-all, sorted-placed}
use Rattle.plain_sets.proofs.OrderSame.{filter-all}
use Rattle.place_heap.specs.Order as heap
use Rattle.place_heap.specs.Order.{Item}
use Rattle.place_heap.specs.Held.{Held, list_of}
use Rattle.host_heap.proofs.Books.{without-things, entered-things, filter-in_order, others-left, free-others, filter-differ, placed-differ}
use Rattle.homa_timers.specs.Armed.{Timer, timer_key, timer_of, item_of, Armed, armed_by, without, IsOwnOrder, IsSound}

-- the timers after one is gone
list-without : (slot : ℕ) (xs : List Item) → map timer_of (heap.without slot xs) ≡ without slot (map timer_of xs)
list-without = without-things item_of timer_of (λ _. refl) (λ _. refl)

-- the timers after one was armed
list-armed : (x : Item) (xs : List Item) → IsOwnOrder x.0 x.1.second (map timer_of xs)
    → map timer_of (heap.placed x (heap.without x.0 xs)) ≡ placed timer_key (timer_of x) (without x.0 (map timer_of xs))
list-armed = entered-things item_of timer_of (λ _. refl) (λ _. refl)

-- the timers but one are as they have to be
sound-without : (slots slot : ℕ) (ts : List Timer) → IsSound (record { slots = slots; timers = ts })
    → IsSound (record { slots = slots; timers = without slot ts })
sound-without slots slot ts kept = record {
  within = filter-all (λ t. t.slot < slots) (λ t. not (t.slot == slot)) ts kept.within;
  in_order = filter-in_order timer_key (λ t. not (t.slot == slot)) ts kept.in_order;
  slots = filter-differ (λ t. t.slot) (λ t. not (t.slot == slot)) ts kept.slots;
  orders = filter-differ (λ t. t.order) (λ t. not (t.slot == slot)) ts kept.orders;
}

-- and with a timer whose slot and order the others don't have
sound-armed : (slots : ℕ) (t : Timer) (ts : List Timer) → t.slot < slots → IsOwnOrder t.slot t.order ts → IsSound (record { slots = slots; timers = ts })
    → IsSound (record { slots = slots; timers = placed timer_key t (without t.slot ts) })
sound-armed slots t ts inside free kept =
    let rest = sound-without slots t.slot ts kept in record {
      within = placed-all timer_key (λ u. u.slot < slots) t (without t.slot ts) inside rest.within;
      in_order = sorted-placed timer_key t (without t.slot ts) rest.in_order;
      slots = placed-differ (λ u. u.slot) timer_key t (without t.slot ts) (others-left (λ u. u.slot) t.slot ts) rest.slots;
      orders =
          placed-differ (λ u. u.order) timer_key t (without t.slot ts) (free-others (λ (u : Timer). u.slot) (λ u. u.order) t.slot t.order ts free) rest.orders;
    }

module _ (h h' : Held) (a : Armed) (was : armed_by h ≡ a) (cap : length h'.cells ≡ length h.cells) where
  -- the heap after a slot went
  module _ (slot : ℕ) (list : list_of h' ≡ heap.without slot (list_of h)) where
    pub disarmed-timers : map timer_of (list_of h') ≡ without slot a.timers
    disarmed-timers = ap (map timer_of) list ∙ list-without slot (list_of h) ∙ ap (λ (b : Armed). without slot b.timers) was

    pub disarmed-sound : IsSound (armed_by h) → IsSound (armed_by h')
    disarmed-sound kept =
        subst IsSound (λ i. record { slots = sym cap i; timers = sym (ap (map timer_of) list ∙ list-without slot (list_of h)) i })
        (sound-without (length h.cells) slot (map timer_of (list_of h)) kept)

  -- the heap after a slot came or has another key
  module _ (x : Item) (list : list_of h' ≡ heap.placed x (heap.without x.0 (list_of h))) (free : IsOwnOrder x.0 x.1.second a.timers) where
    free-before : IsOwnOrder x.0 x.1.second (map timer_of (list_of h))
    free-before = subst (λ (b : Armed). IsOwnOrder x.0 x.1.second b.timers) (sym was) free

    pub armed-timers : map timer_of (list_of h') ≡ placed timer_key (timer_of x) (without x.0 a.timers)
    armed-timers = ap (map timer_of) list ∙ list-armed x (list_of h) free-before ∙ ap (λ (b : Armed). placed timer_key (timer_of x) (without x.0 b.timers)) was

    pub armed-sound : x.0 < a.slots → IsSound (armed_by h) → IsSound (armed_by h')
    armed-sound inside kept =
        subst IsSound (λ i. record { slots = sym cap i; timers = sym (ap (map timer_of) list ∙ list-armed x (list_of h) free-before) i })
        (sound-armed (length h.cells) (timer_of x) (map timer_of (list_of h)) (subst (λ (b : Armed). x.0 < b.slots) (sym was) inside) free-before kept)
