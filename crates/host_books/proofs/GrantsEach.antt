-- The grants of a step, one by one.
use Rattle.std.proofs.Common.{◌≡◌, ◌≢◌, ℕ, suc, ◌+◌, ◌-◌, Bool, true, false, cond, List, [], ◌∷◌, ◌++◌, length, refl, sym, ap, ◌∙◌, arith}
use Rattle.std.specs.Prelude.{nat_lt}
use Rattle.std.specs.List.{AllByRecursion, Contains}
use Rattle.plain_sets.specs.Ordered.{SendersDiffer}
use Rattle.plain_sets.proofs.OrderFirst.{all_from}
use Rattle.homa_plain.specs.declared.settings.Settings.{Settings}
use Rattle.homa_plain.specs.Grants.{Message, new_end, grants_from, chosen, Granted, sender, choice_key}
use Rattle.homa_plain.specs.Sending.{Arriving, arrivals}
use Rattle.homa_plain.specs.Work.{Work}
use Rattle.homa_plain.specs.Steps.{grants_at, all_granted, gives_grants}
use Rattle.homa_plain.proofs.ChoiceLaws.{chosen-contains, differ-chosen}
use Rattle.step_laws.specs.StepLaws.{LeavesOthers}
use Rattle.step_laws.proofs.Others.{grants_at-others, none-others}
use Rattle.host_books.specs.Ends.{grant_to, granted_each}
use Rattle.host_books.proofs.BookThings.{arrival_things}
use Rattle.host_books.proofs.Things.{thing_stays, one_thing}

abbrev message_of : Arriving → Message
message_of a = a.message

-- a grant or none, and then the others
one_first : (s : Settings) (b : Bool) (g : Granted Arriving) (gs : List (Granted Arriving)) (w : Work)
    → all_granted s (cond b (g ∷ []) [] ++ gs) w ≡ all_granted s gs (cond b (grants_at s g.to.place g.offset g.prio w) w)
one_first s true g gs w = refl
one_first s false g gs w = refl

-- the grants from rank r on are given one by one
from_rank : (s : Settings) (n r : ℕ) (rest : List Arriving) (w : Work) → r + length rest ≡ n
    → all_granted s (grants_from message_of s.window n r rest) w ≡ granted_each s rest w
from_rank s n r [] w e = refl
from_rank s n r (a ∷ rest) w e =
    let prio : n - 1 - r ≡ length rest = omega arith in
    one_first s (nat_lt a.message.granted (new_end s.window a.message)) (record { to = a; offset = new_end s.window a.message; prio = n - 1 - r })
    (grants_from message_of s.window n (suc r) rest) w
    ∙ ap (λ p. all_granted s (grants_from message_of s.window n (suc r) rest) (grant_to s a p w)) prio
    ∙ from_rank s n (suc r) rest (grant_to s a (length rest) w) (omega arith)

pub grants_each : (s : Settings) (w : Work) → gives_grants s w ≡ granted_each s (chosen message_of s.overcommit (arrivals w.host)) w
grants_each s w = let cs = chosen message_of s.overcommit (arrivals w.host) in from_rank s (length cs) 0 cs w (omega arith)

-- a grant changes no row but that of its message
pub grant_leaves : (s : Settings) (a : Arriving) (prio : ℕ) (w : Work) → LeavesOthers a.place w (grant_to s a prio w)
grant_leaves s a prio w = by_test (nat_lt a.message.granted (new_end s.window a.message)) where
  by_test : (b : Bool) → LeavesOthers a.place w (cond b (grants_at s a.place (new_end s.window a.message) prio w) w)
  by_test true = grants_at-others s a.place (new_end s.window a.message) prio w
  by_test false = none-others s a.place w

-- so other messages that arrive stay
pub arrival_stays : (s : Settings) (a b : Arriving) (prio : ℕ) (w : Work) → (b.place ≡ a.place → ⊥) → Contains (arrivals w.host) b
    → Contains (arrivals (grant_to s a prio w).host) b
arrival_stays s a b prio w ne c =
    let l = grant_leaves s a prio w in
    thing_stays arrival_things a.place w.host (grant_to s a prio w).host l.clients l.servers b ne c

-- two that are chosen are of different rows
places_differ : (w : Work) (a : Arriving) (rest : List Arriving) → Contains (arrivals w.host) a
    → AllByRecursion (λ b. sender a.message ≢ sender b.message) rest → AllByRecursion (λ b. Contains (arrivals w.host) b) rest
    → AllByRecursion (λ b. b.place ≡ a.place → ⊥) rest
places_differ w a [] c differ all = tt
places_differ w a (b ∷ bs) c differ all = (
  λ e. differ.0 (ap (λ (x : Arriving). sender x.message) (one_thing arrival_things w.host a b c all.0 (sym e))),
  places_differ w a bs c differ.1 all.1,
)

-- messages that arrive, of different senders, arrive still when the first was granted to
pub rest_arrives : (s : Settings) (w : Work) (a : Arriving) (rest : List Arriving) (prio : ℕ)
    → SendersDiffer (λ (b : Arriving). sender b.message) (a ∷ rest) → AllByRecursion (λ b. Contains (arrivals w.host) b) (a ∷ rest)
    → AllByRecursion (λ b. (b.place ≡ a.place → ⊥) × Contains (arrivals (grant_to s a prio w).host) b) rest
rest_arrives s w a rest prio differ all = each rest (places_differ w a rest all.0 differ.0 all.1) all.1 where
  each : (bs : List Arriving) → AllByRecursion (λ b. b.place ≡ a.place → ⊥) bs → AllByRecursion (λ b. Contains (arrivals w.host) b) bs
      → AllByRecursion (λ b. (b.place ≡ a.place → ⊥) × Contains (arrivals (grant_to s a prio w).host) b) bs
  each [] ne c = tt
  each (b ∷ bs) ne c = ((ne.0, arrival_stays s a b prio w ne.0 c.0), each bs ne.1 c.1)

-- the chosen messages arrive, and are of different senders
pub chosen_arrive : (k : ℕ) (w : Work) → AllByRecursion (λ a. Contains (arrivals w.host) a) (chosen message_of k (arrivals w.host))
chosen_arrive k w = all_from (λ (a : Arriving). Contains (arrivals w.host) a) (chosen message_of k (arrivals w.host))
    (λ a c. chosen-contains (λ (x : Arriving). sender x.message) (λ x. choice_key x.message) k (arrivals w.host) a c)

pub chosen_differ : (k : ℕ) (w : Work) → SendersDiffer (λ (b : Arriving). sender b.message) (chosen message_of k (arrivals w.host))
chosen_differ k w = differ-chosen (λ (x : Arriving). sender x.message) (λ x. choice_key x.message) k (arrivals w.host)
