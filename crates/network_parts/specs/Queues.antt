-- What waits at a port, as contracts see it.
use Rattle.std.specs.Prelude.{◌≡◌, ◌<◌, [], ◌∷◌, ℕ, List, slice_index_or, slice_set, refl}
use Rattle.std.specs.List.{sum_by}
use Rattle.std.specs.Coded.{Coded, code_by, coded×, coded_list, coded_ℕ}
use Rattle.network_parts.specs.declared.port.Waiting.{Waiting}

-- the queues of a port, by level, and how many bytes they may have together
pub record Queues (T : Type 0) : Type 0 where
  pub queues : List (List (Waiting T))
  pub room : ℕ

module _ {T : Type 0} where
  -- a packet that waits is stored as the pair of itself and its bytes
  abbrev pub waiting_code : Coded T → Coded (Waiting T)
  waiting_code code = code_by (T × ℕ) (coded× code coded_ℕ) (λ w. (w.packet, w.bytes)) (λ c. record { packet = c.0; bytes = c.1 }) (λ _. refl)

  abbrev pub queues_code : Coded T → Coded (Queues T)
  queues_code code =
      code_by (List (List (Waiting T)) × ℕ) (coded× (coded_list (coded_list (waiting_code code))) coded_ℕ) (λ p. (p.queues, p.room))
      (λ c. record { queues = c.0; room = c.1 }) (λ _. refl)

  -- the queue of a level
  abbrev pub queue_of : List (List (Waiting T)) → ℕ → List (Waiting T)
  queue_of qs level = slice_index_or qs level []

  -- how many bytes a queue has
  abbrev pub bytes_of : List (Waiting T) → ℕ
  bytes_of q = sum_by (λ w. w.bytes) q

  -- how many bytes wait in all
  abbrev pub total : List (List (Waiting T)) → ℕ
  total qs = sum_by bytes_of qs

-- A packet is the first of its level, no higher level has one, and the others stay.
pub record IsFirst {T : Type 0} (old : List (List (Waiting T))) (level : ℕ) (w : Waiting T) (new : List (List (Waiting T))) : Type 0 where
  pub rest : List (Waiting T)
  pub inside : level < 8
  pub first : queue_of old level ≡ w ∷ rest
  pub highest : (k : ℕ) → level < k → queue_of old k ≡ []
  pub others : new ≡ slice_set old level rest
