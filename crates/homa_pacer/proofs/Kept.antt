-- The messages of a heap over each change.
use Rattle.std.proofs.Common.{◌≡◌, ℕ, ◌<◌, not, List, length, map, refl, sym, ap, subst, ◌∙◌}
use Rattle.std.specs.Prelude.{◌==◌}
use Rattle.plain_sets.specs.Ordered.{placed}
use Rattle.plain_sets.proofs.OrderLaws.{placed-all, sorted-placed}
use Rattle.plain_sets.proofs.OrderSame.{filter-all}
use Rattle.place_heap.specs.Order as heap
use Rattle.place_heap.specs.Order.{Item}
use Rattle.place_heap.specs.Held.{Held, list_of}
use Rattle.host_heap.proofs.Books.{without-things, entered-things, filter-in_order, others-left, free-others, filter-differ, placed-differ}
use Rattle.homa_pacer.specs.Pace.{Ready, ready_key, ready_of, item_of, Pace, pace_by, without, IsOwnOrder, IsSound}

-- the messages after one is idle
list-without : (slot : ℕ) (xs : List Item) → map ready_of (heap.without slot xs) ≡ without slot (map ready_of xs)
list-without = without-things item_of ready_of (λ _. refl) (λ _. refl)

-- the messages after one is ready
list-ready : (x : Item) (xs : List Item) → IsOwnOrder x.0 x.1.second (map ready_of xs)
    → map ready_of (heap.placed x (heap.without x.0 xs)) ≡ placed ready_key (ready_of x) (without x.0 (map ready_of xs))
list-ready = entered-things item_of ready_of (λ _. refl) (λ _. refl)

-- without one message all is as it has to be
sound-without : (slot : ℕ) (p : Pace) → IsSound p → IsSound (record p { ready = without slot p.ready })
sound-without slot p sound = record {
  within = filter-all (λ r. r.slot < p.slots) (λ r. not (r.slot == slot)) p.ready sound.within;
  in_order = filter-in_order ready_key (λ r. not (r.slot == slot)) p.ready sound.in_order;
  slots = filter-differ (λ r. r.slot) (λ r. not (r.slot == slot)) p.ready sound.slots;
  orders = filter-differ (λ r. r.order) (λ r. not (r.slot == slot)) p.ready sound.orders;
  credit = sound.credit;
}

-- and with a message whose slot and order the others don't have
sound-ready : (r : Ready) (p : Pace) → r.slot < p.slots → IsOwnOrder r.slot r.order p.ready → IsSound p
    → IsSound (record p { ready = placed ready_key r (without r.slot p.ready) })
sound-ready r p inside free sound =
    let rest = sound-without r.slot p sound in record {
      within = placed-all ready_key (λ s. s.slot < p.slots) r (without r.slot p.ready) inside rest.within;
      in_order = sorted-placed ready_key r (without r.slot p.ready) rest.in_order;
      slots = placed-differ (λ s. s.slot) ready_key r (without r.slot p.ready) (others-left (λ s. s.slot) r.slot p.ready) rest.slots;
      orders = placed-differ (λ s. s.order) ready_key r (without r.slot p.ready)
          (free-others (λ (s : Ready). s.slot) (λ s. s.order) r.slot r.order p.ready free) rest.orders;
      credit = rest.credit;
    }

module _ (h h' : Held) (rate credit refilled : ℕ) (p : Pace) (was : pace_by h rate credit refilled ≡ p) (cap : length h'.cells ≡ length h.cells) where
  -- the heap after a slot went
  module _ (slot : ℕ) (list : list_of h' ≡ heap.without slot (list_of h)) where
    pub idle-is : pace_by h' rate credit refilled ≡ record p { ready = without slot p.ready }
    idle-is =
        (λ i. record { slots = cap i; rate = rate; credit = credit; refilled = refilled; ready = (ap (map ready_of) list ∙ list-without slot (list_of h)) i })
        ∙ ap (λ (q : Pace). record q { ready = without slot q.ready }) was

    pub idle-sound : IsSound (pace_by h rate credit refilled) → IsSound (pace_by h' rate credit refilled)
    idle-sound sound = subst IsSound (sym idle-is) (sound-without slot p (subst IsSound was sound))

  -- the heap after a slot came or has another key
  module _ (x : Item) (list : list_of h' ≡ heap.placed x (heap.without x.0 (list_of h))) (free : IsOwnOrder x.0 x.1.second p.ready) where
    pub ready-is : pace_by h' rate credit refilled ≡ record p { ready = placed ready_key (ready_of x) (without x.0 p.ready) }
    ready-is =
        (λ i. record {
          slots = cap i;
          rate = rate;
          credit = credit;
          refilled = refilled;
          ready = (ap (map ready_of) list ∙ list-ready x (list_of h) (subst (λ (q : Pace). IsOwnOrder x.0 x.1.second q.ready) (sym was) free)) i;
        })
        ∙ ap (λ (q : Pace). record q { ready = placed ready_key (ready_of x) (without x.0 q.ready) }) was

    pub ready-sound : x.0 < p.slots → IsSound (pace_by h rate credit refilled) → IsSound (pace_by h' rate credit refilled)
    ready-sound inside sound = subst IsSound (sym ready-is) (sound-ready (ready_of x) p inside free (subst IsSound was sound))
