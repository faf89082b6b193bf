-- The chosen messages are granted to, one by one.
use Rattle.std.proofs.Common.{◌≡◌, ◌≢◌, ◌<◌, ◌≤◌, ◌+◌, ℕ, zero, suc, List, [], ◌∷◌, length, map, drop, get_or, refl, sym, ap, subst, ◌∙◌, arith}
use Rattle.std.specs.List.{AllByRecursion, Contains}
use Rattle.std.proofs.lemmas.List.{length-map, length-drop, drop_all}
use Rattle.plain_sets.specs.Ordered.{SendersDiffer}
use Rattle.plain_sets.proofs.OrderLaws.{all_weaker}
use Rattle.homa_plain.specs.declared.settings.Settings.{Settings}
use Rattle.homa_plain.specs.Grants.{chosen, chosen_by, sender}
use Rattle.homa_plain.specs.Host.{Host}
use Rattle.homa_plain.specs.Sending.{Arriving, arrivals}
use Rattle.homa_plain.specs.Work.{Work}
use Rattle.homa_plain.specs.Steps.{gives_grants}
use Rattle.host_view.specs.declared.outbox.SentFrame.{SentFrame}
use Rattle.homa_grants.specs.Entries as entry
use Rattle.host_view.specs.Seen.{slot_of, entry_of}
use Rattle.host_view.proofs.ByBook.{chosen-book}
use Rattle.host_view.specs.Follow.{ChangesAt}
use Rattle.host_books.specs.Ends.{grant_to, granted_each}
use Rattle.host_books.proofs.BookThings.{arrival_things}
use Rattle.host_books.proofs.Things.{thing_stays, one_thing}
use Rattle.host_books.proofs.Slots.{slots_stay}
use Rattle.host_books.proofs.GrantsEach.{grants_each, chosen_arrive, chosen_differ}
use Rattle.homa_host.specs.declared.parts.HostParts.{HostParts}
use Rattle.homa_host.specs.Parts.{host_of, seen_of, IsKept}
use Rattle.homa_host.specs.Amid.{Amid}
use Rattle.homa_host.specs.Granting.{ArrivesAt}

-- the messages that are granted to in this step
abbrev pub chosen_now : HostParts → List Arriving
chosen_now c = chosen (λ (a : Arriving). a.message) c.control.settings.overcommit (arrivals (host_of c))

-- one of them arrives still, at its slot
abbrev pub StillArrives : HostParts → HostParts → Arriving → Type 0
StillArrives first c a = ArrivesAt c (slot_of (seen_of first) a.place) a

-- these are left to be granted to
pub record IsGranting (first : HostParts) (before : List SentFrame) (c : HostParts) (out : List SentFrame) (rest : List Arriving) : Type 0 where
  pub step : (w : Work) → Amid w first before → (v : Work) × (gives_grants first.control.settings w ≡ granted_each first.control.settings rest v) × Amid v c out
  pub arrive : AllByRecursion (StillArrives first c) rest
  pub differ : SendersDiffer (λ (a : Arriving). sender a.message) rest

-- at first all are
pub granting_first : (c : HostParts) (out : List SentFrame) → IsGranting c out c out (chosen_now c)
granting_first c out = record {
  step = λ w a. (
    w,
    grants_each c.control.settings w
        ∙ ap (λ (h : Host). granted_each c.control.settings (chosen (λ (b : Arriving). b.message) c.control.settings.overcommit (arrivals h)) w) (sym a.host),
    a,
  );
  arrive = all_weaker (λ (a : Arriving). Contains (arrivals (host_of c)) a) (StillArrives c c) (λ a there. record { there = there; at = refl })
      (chosen_now c) (chosen_arrive c.control.settings.overcommit (record { host = host_of c; told = [] }));
  differ = chosen_differ c.control.settings.overcommit (record { host = host_of c; told = [] });
}

-- then one fewer
pub granting_on : (first : HostParts) (before : List SentFrame) (c d : HostParts) (out more : List SentFrame) (a : Arriving) (rest : List Arriving)
    (n prio : ℕ) → c.control.settings ≡ first.control.settings → prio ≡ length rest
    → IsGranting first before c out (a ∷ rest) → ((w : Work) → Amid w c out → Amid (grant_to c.control.settings a prio w) d more)
    → ChangesAt a.place n (seen_of c) (seen_of d) → IsGranting first before d more rest
granting_on first before c d out more a rest n prio same last granting step change = record {
  step = λ w am.
      let p = granting.step w am in (
        grant_to first.control.settings a (length rest) p.0,
        p.1,
        subst (λ (s : Settings). Amid (grant_to s a (length rest) p.0) d more) same
            (subst (λ (k : ℕ). Amid (grant_to c.control.settings a k p.0) d more) last (step p.0 p.2)),
      );
  arrive = each rest granting.arrive.1 granting.differ.0;
  differ = granting.differ.1;
} where
  each : (bs : List Arriving) → AllByRecursion (StillArrives first c) bs → AllByRecursion (λ b. sender a.message ≢ sender b.message) bs
      → AllByRecursion (StillArrives first d) bs
  each [] all differ = tt
  each (b ∷ bs) all differ =
      let apart = λ (e : b.place ≡ a.place). differ.0
      (ap (λ (x : Arriving). sender x.message) (one_thing arrival_things (host_of c) a b granting.arrive.0.there all.0.there (sym e))) in (
        record {
          there = thing_stays arrival_things a.place (host_of c) (host_of d) change.clients change.servers b apart all.0.there;
          at = slots_stay a.place n (seen_of c) (seen_of d) change b.place (λ e. apart (sym e)) ∙ all.0.at;
        },
        each bs all.1 differ.1,
      )

-- when none is left the grants are given
pub granting_done : (first : HostParts) (before : List SentFrame) (c : HostParts) (out : List SentFrame) → IsGranting first before c out []
    → (w : Work) → Amid w first before → Amid (gives_grants first.control.settings w) c out
granting_done first before c out granting w a = let p = granting.step w a in subst (λ (v : Work). Amid v c out) (sym p.1) p.2

-- the slots that the book chooses are those of the messages
pub chosen_slots : (c : HostParts) (slots : List ℕ) → IsKept c
    → slots ≡ map (λ (e : entry.Entry). e.slot) (chosen_by entry.entry_peer entry.entry_key c.books.grants.most c.books.grants.entries)
    → slots ≡ map (λ (a : Arriving). slot_of (seen_of c) a.place) (chosen_now c)
chosen_slots c slots kept e =
    e ∙ ap (λ k. map (λ (x : entry.Entry). x.slot) (chosen_by entry.entry_peer entry.entry_key k c.books.grants.entries)) kept.room.most
    ∙ ap (map (λ (x : entry.Entry). x.slot)) (chosen-book (seen_of c) c.books.grants.entries c.control.settings.overcommit kept.own kept.booked.entered)
    ∙ twice (chosen_now c) where
      twice : (as_ : List Arriving)
          → map (λ (x : entry.Entry). x.slot) (map (entry_of (seen_of c)) as_) ≡ map (λ (a : Arriving). slot_of (seen_of c) a.place) as_
      twice [] = refl
      twice (a ∷ rest) = ap (λ ns. slot_of (seen_of c) a.place ∷ ns) (twice rest)

-- the next of them
pub next_of : {X : Type 0} (f : X → ℕ) (xs : List X) (i : ℕ) → i < length (map f xs)
    → (x : X) × (drop i xs ≡ x ∷ drop (i + 1) xs) × (f x ≡ get_or (map f xs) i 0)
next_of f [] i l = absurd (omega arith)
next_of f (x ∷ xs) zero l = (x, refl, refl)
next_of f (x ∷ xs) (suc i) l =
    let r = next_of f xs i (omega arith) in
    let k : suc (i + 1) ≡ suc i + 1 = omega arith in
    (r.0, r.1 ∙ ap (λ m. r.0 ∷ drop m (x ∷ xs)) k, r.2)

-- the next message is granted to, and the rest is left
pub record IsNextGrant (first : HostParts) (before : List SentFrame) (c : HostParts) (out : List SentFrame) (slot : ℕ) (rest : List Arriving) : Type 0 where
  pub a : Arriving
  pub granting : IsGranting first before c out (a ∷ rest)
  pub arrives : ArrivesAt c slot a

pub next_grant : (first : HostParts) (before : List SentFrame) (c : HostParts) (out : List SentFrame) (slots : List ℕ) (i : ℕ)
    → slots ≡ map (λ (a : Arriving). slot_of (seen_of first) a.place) (chosen_now first)
    → i < length slots → IsGranting first before c out (drop i (chosen_now first))
    → IsNextGrant first before c out (get_or slots i 0) (drop (i + 1) (chosen_now first))
next_grant first before c out slots i e l granting =
    let f = λ (a : Arriving). slot_of (seen_of first) a.place in
    let n = next_of f (chosen_now first) i (omega (arith, ap length e)) in
    let g = subst (IsGranting first before c out) n.1 granting in
    record {
      a = n.0;
      granting = g;
      arrives = record { there = g.arrive.0.there; at = g.arrive.0.at ∙ n.2 ∙ ap (λ ns. get_or ns i 0) (sym e) };
    }

-- none is left at the end
pub none_left : {X : Type 0} (f : X → ℕ) (xs : List X) (i : ℕ) → length (map f xs) ≤ i → drop i xs ≡ []
none_left f xs i l = drop_all i xs (omega (arith, length-map xs f))

-- as many are left as come after
pub left_of : {X : Type 0} (f : X → ℕ) (xs : List X) (ns : List ℕ) (i k : ℕ) → ns ≡ map f xs → k + i ≡ length ns → k ≡ length (drop i xs)
left_of f xs ns i k e l = omega (arith, ap length e, length-map xs f, length-drop i xs)
