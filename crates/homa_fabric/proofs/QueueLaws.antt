-- The queues of a destination as they are kept, and as the definitions see them.
use Rattle.std.proofs.Common.{◌≡◌, ◌↔◌, refl, sym, ap, ◌∙◌, ℕ, ◌<◌, ◌≤◌, ◌==◌, true, false, Option, Result, Ok, Err, IsOk, OnOk, IfErr, List, [], ◌∷◌}
use Rattle.std.proofs.Common.{◌++◌, inl, inr, length, map, get_or, set, arith}
use Rattle.std.proofs.lemmas.List.{get_or-map, map-set, set-get_or, get_or_past, length-map}
use Rattle.std.proofs.lemmas.Bool.{lt-ltb, le-ltb, cases_lt, eqb-true}
use Rattle.circular_buffer.specs.Buffer.{Buffer, buffer}
use Rattle.generated_runs.specs.Fabric.{Queued, Destination, most_queued, level_of, with_level}
use Rattle.homa_fabric.specs.Queues.{AreQueues, entered}

-- what a destination is seen as
abbrev pub seen : List (Buffer Queued) → ℕ → Option ℕ → Destination
seen queues budget again = record { levels = map (λ q. q.items) queues; budget = budget; again = again }

-- the packets of a level are those of its queue
pub level_seen : (queues : List (Buffer Queued)) (budget : ℕ) (again : Option ℕ) (level : ℕ) (q : Buffer Queued) → AreQueues queues → level < 8
    → q ≡ get_or queues level q → level_of (seen queues budget again) level ≡ q.items
level_seen queues budget again level q are inside is =
    get_or-map (λ (q : Buffer Queued). q.items) queues level q [] (omega (arith, are.eight)) ∙ ap (λ (q : Buffer Queued). q.items) (sym is)

no_packet : (ps : List Queued) → true ≡ (length ps == 0) → ps ≡ []
no_packet [] empty = refl
no_packet (p ∷ ps) empty = absurd (let none = eqb-true (length (p ∷ ps)) 0 (sym empty) in omega (arith, none))

some_packet : (ps : List Queued) → false ≡ (length ps == 0) → (p : Queued) × (rest : List Queued) × (ps ≡ p ∷ rest)
some_packet [] full = cc
some_packet (p ∷ ps) full = (p, ps, refl)

-- there is no ninth level
pub levels_past : (queues : List (Buffer Queued)) (budget : ℕ) (again : Option ℕ) (k : ℕ) → AreQueues queues → 8 ≤ k
    → level_of (seen queues budget again) k ≡ []
levels_past queues budget again k are past =
    get_or_past (map (λ (q : Buffer Queued). q.items) queues) k [] (omega (arith, are.eight, length-map queues (λ (q : Buffer Queued). q.items)))

-- a level has no packet where its queue has none
pub none_at : (queues : List (Buffer Queued)) (budget : ℕ) (again : Option ℕ) (level : ℕ) (q : Buffer Queued) → AreQueues queues → level < 8
    → q ≡ get_or queues level q → true ≡ (length q.items == 0) → level_of (seen queues budget again) level ≡ []
none_at queues budget again level q are inside is empty = level_seen queues budget again level q are inside is ∙ no_packet q.items empty

-- otherwise it has a first one
pub some_at : (queues : List (Buffer Queued)) (budget : ℕ) (again : Option ℕ) (level : ℕ) (q : Buffer Queued) → AreQueues queues → level < 8
    → q ≡ get_or queues level q → false ≡ (length q.items == 0)
    → (p : Queued) × (ps : List Queued) × (level_of (seen queues budget again) level ≡ p ∷ ps)
some_at queues budget again level q are inside is full =
    let first = some_packet q.items full in (first.0, first.1, level_seen queues budget again level q are inside is ∙ first.2)

-- a queue that changes is a level that changes
pub level_changed : (queues : List (Buffer Queued)) (budget : ℕ) (again : Option ℕ) (level : ℕ) (new : Buffer Queued) (ps : List Queued)
    → new.items ≡ ps → seen (set queues level new) budget again ≡ with_level (seen queues budget again) level ps
level_changed queues budget again level new ps is =
    ap (λ (levels : List (List Queued)). record { levels = levels; budget = budget; again = again })
    (map-set (λ (q : Buffer Queued). q.items) queues level new ∙ ap (λ (ps : List Queued). set (map (λ (q : Buffer Queued). q.items) queues) level ps) is)

-- a queue has room for as many packets as the definitions say
pub room_at : (queues : List (Buffer Queued)) (level : ℕ) (q : Buffer Queued) → AreQueues queues → level < 8 → q ≡ get_or queues level q
    → q.capacity ≡ most_queued
room_at queues level q are inside is = ap (λ (q : Buffer Queued). q.capacity) is ∙ are.room level q (omega (arith, are.eight))

-- where nothing was refused for want of room, there was none
no_room : (n capacity : ℕ) → (n < capacity → false ≡ true) → capacity ≤ n
no_room n capacity room = elim (cases_lt n capacity) [ inl less ↦ (let h : false ≡ true = room less in cc) | inr full ↦ full ]

-- a packet comes to a queue
pub packet_entered : (queues : List (Buffer Queued)) (budget : ℕ) (again : Option ℕ) (level : ℕ) (p : Queued) (q new : Buffer Queued)
    (r : Result (Unit {0}) Queued) → AreQueues queues → level < 8 → q ≡ get_or queues level q
    → (IsOk r ↔ (length q.items < q.capacity)) → OnOk r (new ≡ buffer (q.items ++ p ∷ []) q.capacity) → IfErr r (λ x. (x ≡ p) × (new ≡ q))
    → seen (set queues level new) budget again ≡ entered (seen queues budget again) level p
packet_entered queues budget again level p q new (Ok u) are inside is room ok err =
    let few : length q.items < most_queued = omega (arith, room.0 refl, room_at queues level q are inside is) in
    level_changed queues budget again level new (q.items ++ p ∷ []) (ap (λ (q : Buffer Queued). q.items) ok)
    ∙ sym (rw (level_seen queues budget again level q are inside is, lt-ltb (length q.items) most_queued few) refl)
packet_entered queues budget again level p q new (Err x) are inside is room ok err =
    let full : most_queued ≤ length q.items = omega (arith, no_room (length q.items) q.capacity room.1, room_at queues level q are inside is) in
    ap (λ (qs : List (Buffer Queued)). seen qs budget again) (ap (set queues level) (err.1 ∙ is) ∙ set-get_or queues level q)
    ∙ sym (rw (level_seen queues budget again level q are inside is, le-ltb (length q.items) most_queued full) refl)
