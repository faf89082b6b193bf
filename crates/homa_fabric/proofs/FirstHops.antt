-- What becomes of the first packet of a level.
use Rattle.std.proofs.Common.{◌≡◌, refl, sym, ap, ◌∙◌, ℕ, ◌+◌, ◌-◌, ◌<◌, ◌≤◌, Option, None, Some, List, [], ◌∷◌, get_or, set, drop, arith}
use Rattle.std.specs.List.{slice_get}
use Rattle.std.proofs.lemmas.Bool.{lt-ltb, le-ltb}
use Rattle.rand_pcg.specs.Lcg.{Lcg}
use Rattle.circular_buffer.specs.Buffer.{Buffer}
use Rattle.generated_runs.specs.Draws.{draw}
use Rattle.generated_runs.specs.Fabric.{Queued, Destination, Ends, Loses, level_of, with_level, drawn, first_hop}
use Rattle.homa_fabric.specs.Queues.{AreQueues}
use Rattle.homa_fabric.proofs.QueueLaws.{seen, level_seen, level_changed}

-- where there is no first one, there is none
no_first : (ps : List Queued) → slice_get ps 0 ≡ None → ps ≡ []
no_first [] none = refl
no_first (p ∷ ps) none = cc

-- the first one, and those behind it
first_of : (ps : List Queued) (p : Queued) → slice_get ps 0 ≡ Some p → ps ≡ p ∷ drop 1 ps
first_of [] p first = cc
first_of (q ∷ ps) p first = cc

-- it stays
first_stays : (life now : ℕ) (d : Destination) (g : Lcg) (level : ℕ) (p : Queued) (ps : List Queued) → d.budget < p.size
    → first_hop life now d g level (p ∷ ps) ≡ Ends
first_stays life now d g level p ps over = rw (lt-ltb d.budget p.size over) refl

-- it is too old
first_old : (life now : ℕ) (d : Destination) (g : Lcg) (level : ℕ) (p : Queued) (ps : List Queued) → p.size ≤ d.budget → p.tick + life < now
    → first_hop life now d g level (p ∷ ps) ≡ Loses (with_level d level ps) g
first_old life now d g level p ps within old = rw (le-ltb d.budget p.size within, lt-ltb (p.tick + life) now old) refl

-- a draw decides
first_drawn : (life now : ℕ) (d : Destination) (g : Lcg) (level : ℕ) (p : Queued) (ps : List Queued) → p.size ≤ d.budget → now ≤ p.tick + life
    → first_hop life now d g level (p ∷ ps) ≡ drawn p (record (with_level d level ps) { budget = d.budget - p.size }) (draw 64 g)
first_drawn life now d g level p ps within timely = rw (le-ltb d.budget p.size within, le-ltb (p.tick + life) now timely) refl

-- the queue of the level without its first packet
module _ (queues : List (Buffer Queued)) (budget : ℕ) (again : Option ℕ) (level : ℕ) (q : Buffer Queued) (are : AreQueues queues) (inside : level < 8)
    (is : q ≡ get_or queues level q) where
  level_first : (p : Queued) → slice_get q.items 0 ≡ Some p → level_of (seen queues budget again) level ≡ p ∷ drop 1 q.items
  level_first p first = level_seen queues budget again level q are inside is ∙ first_of q.items p first

  -- nothing is queued at this level
  pub none_ends : (life now : ℕ) (g : Lcg) → slice_get q.items 0 ≡ None
      → Ends ≡ first_hop life now (seen queues budget again) g level (level_of (seen queues budget again) level)
  none_ends life now g none =
      sym (ap (first_hop life now (seen queues budget again) g level) (level_seen queues budget again level q are inside is ∙ no_first q.items none))

  -- the budget isn't enough
  pub long_ends : (life now : ℕ) (g : Lcg) (p : Queued) → slice_get q.items 0 ≡ Some p → budget < p.size
      → Ends ≡ first_hop life now (seen queues budget again) g level (level_of (seen queues budget again) level)
  long_ends life now g p first over =
      sym (ap (first_hop life now (seen queues budget again) g level) (level_first p first)
      ∙ first_stays life now (seen queues budget again) g level p (drop 1 q.items) over)

  -- it is lost
  pub old_lost : (life now : ℕ) (g : Lcg) (p : Queued) (new : Buffer Queued) → slice_get q.items 0 ≡ Some p → new.items ≡ drop 1 q.items
      → p.size ≤ budget → life < now - p.tick
      → Loses (seen (set queues level new) budget again) g ≡ first_hop life now (seen queues budget again) g level (level_of (seen queues budget again) level)
  old_lost life now g p new first rest within old =
      sym (ap (first_hop life now (seen queues budget again) g level) (level_first p first)
      ∙ first_old life now (seen queues budget again) g level p (drop 1 q.items) within (omega arith)
      ∙ ap (λ (d : Destination). Loses d g) (sym (level_changed queues budget again level new (drop 1 q.items) rest)))

  -- a draw decides on it
  pub timely_drawn : (life now : ℕ) (g : Lcg) (p : Queued) (new : Buffer Queued) → slice_get q.items 0 ≡ Some p → new.items ≡ drop 1 q.items
      → p.size ≤ budget → now - p.tick ≤ life
      → drawn p (seen (set queues level new) (budget - p.size) again) (draw 64 g) ≡ first_hop life now (seen queues budget again) g level
      (level_of (seen queues budget again) level)
  timely_drawn life now g p new first rest within timely =
      sym (ap (first_hop life now (seen queues budget again) g level) (level_first p first)
      ∙ first_drawn life now (seen queues budget again) g level p (drop 1 q.items) within (omega arith)
      ∙ ap (λ (d : Destination). drawn p d (draw 64 g)) (sym (level_changed queues (budget - p.size) again level new (drop 1 q.items) rest)))
