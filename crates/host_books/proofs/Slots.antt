-- The slots of rows, and the order numbers of their things.
use Rattle.std.proofs.Common.{◌≡◌, ◌<◌, ◌+◌, ℕ, true, false, Option, Some, None, List, [], ◌∷◌, refl, sym, ap, subst, ◌∙◌, arith}
use Rattle.std.specs.List.{AllByRecursion, flat_map}
use Rattle.std.specs.Option.{unwrap_or, option_and_then}
use Rattle.plain_sets.specs.Maps.{entries, get}
use Rattle.plain_sets.proofs.OrderLaws.{all_weaker}
use Rattle.homa_plain.specs.declared.id.CallId.{CallId}
use Rattle.homa_plain.specs.Calls.{is_call}
use Rattle.homa_plain.specs.Rows.{ClientRow, ServerRow, RowsOf}
use Rattle.homa_plain.specs.Host.{Host}
use Rattle.homa_plain.specs.Timers.{Place, OfClient, OfServer}
use Rattle.homa_plain.proofs.CallOrder.{calls_are}
use Rattle.step_laws.specs.StepLaws.{is_at_client, is_at_server, number_at}
use Rattle.step_laws.proofs.Places.{IsOne, all-append, things-numbers, client_inject, server_inject}
use Rattle.host_view.specs.Seen.{Seen, slot_of}
use Rattle.host_view.specs.Follow.{HasPlaces, HasSlots, has_row, ChangesAt}
use Rattle.host_books.proofs.Splits.{ThingsOf, of_clients, of_servers, all_of, at}

-- ---- slots

-- the place of a row of one side
module _ {R : Type 0} (limit : ℕ) (rows : RowsOf R) (places : RowsOf ℕ) (has : HasPlaces limit rows places) where
  place_within : (id : CallId) (r : R) → get rows id ≡ Some r → unwrap_or (get places id) 0 < limit
  place_within id r e = let s = has.stands id r e in subst (λ (o : Option ℕ). unwrap_or o 0 < limit) (sym s.1) s.2

  place_differs : (p q : CallId) (r s : R) → get rows p ≡ Some r → get rows q ≡ Some s → unwrap_or (get places p) 0 ≡ unwrap_or (get places q) 0 → p ≡ q
  place_differs p q r s e f same =
      let a = has.stands p r e in
      let b = has.stands q s f in
      let is : b.0 ≡ a.0 = sym (ap (λ (o : Option ℕ). unwrap_or o 0) b.1) ∙ sym same ∙ ap (λ (o : Option ℕ). unwrap_or o 0) a.1 in
      has.apart p q a.0 a.1 (b.1 ∙ ap Some is)

pub slots_within : (h : Seen) (p : Place) → HasSlots h → has_row h p → slot_of h p < h.settings.calls + h.settings.served
slots_within h (OfClient id) slots row = let l = place_within h.settings.calls h.host.clients h.client_places slots.clients id row.0 row.1 in omega arith
slots_within h (OfServer id) slots row = let l = place_within h.settings.served h.host.servers h.server_places slots.servers id row.0 row.1 in omega arith

pub slots_differ : (h : Seen) (p q : Place) → HasSlots h → has_row h p → has_row h q → slot_of h p ≡ slot_of h q → p ≡ q
slots_differ h (OfClient p) (OfClient q) slots a b e =
    ap OfClient (place_differs h.settings.calls h.host.clients h.client_places slots.clients p q a.0 b.0 a.1 b.1 e)
slots_differ h (OfServer p) (OfServer q) slots a b e =
    ap OfServer (place_differs h.settings.served h.host.servers h.server_places slots.servers p q a.0 b.0 a.1 b.1 (omega arith))
slots_differ h (OfClient p) (OfServer q) slots a b e =
    let l = place_within h.settings.calls h.host.clients h.client_places slots.clients p a.0 a.1 in absurd (omega arith)
slots_differ h (OfServer p) (OfClient q) slots a b e =
    let l = place_within h.settings.calls h.host.clients h.client_places slots.clients q b.0 b.1 in absurd (omega arith)

not_call : (q id : CallId) → (id ≡ q → ⊥) → is_call q id ≡ false
not_call q id ne = elim (is_call q id) as (λ b. is_call q id ≡ b → b ≡ false) [ true ↦ λ e. absurd (ne (sym ((calls_are q id).0 e))) | false ↦ λ e. refl ] refl

not_at_client : (p : Place) (q : CallId) → (p ≡ OfClient q → ⊥) → is_at_client p q ≡ false
not_at_client (OfClient id) q ne = not_call q id (λ e. ne (ap OfClient e))
not_at_client (OfServer id) q ne = refl

not_at_server : (p : Place) (q : CallId) → (p ≡ OfServer q → ⊥) → is_at_server p q ≡ false
not_at_server (OfClient id) q ne = refl
not_at_server (OfServer id) q ne = not_call q id (λ e. ne (ap OfServer e))

-- the slots of other rows stay
pub slots_stay : (place : Place) (n : ℕ) (old new : Seen) → ChangesAt place n old new → (p : Place) → (place ≡ p → ⊥) → slot_of new p ≡ slot_of old p
slots_stay place n old new change (OfClient q) ne = ap (λ (o : Option ℕ). unwrap_or o 0) (change.client_places q (not_at_client place q ne))
slots_stay place n old new change (OfServer q) ne =
    λ i. (change.settings i).calls + unwrap_or (change.server_places q (not_at_server place q ne) i) 0

-- ---- numbers

some_of : {R : Type 0} (f : R → Option ℕ) (o : Option R) (x : ℕ) → option_and_then f o ≡ Some x → (r : R) × (o ≡ Some r)
some_of f None x e = absurd (no e) where
  no : None ≡ Some x → ⊥
  no e = cc
some_of f (Some r) x e = (r, refl)

-- where a place has a number, a row stands
pub row_of_number : (of_client : ClientRow → Option ℕ) (of_server : ServerRow → Option ℕ) (h : Seen) (p : Place) (x : ℕ)
    → number_at of_client of_server h.host p ≡ Some x → has_row h p
row_of_number f g h (OfClient id) x e = some_of f (get h.host.clients id) x e
row_of_number f g h (OfServer id) x e = some_of g (get h.host.servers id) x e

module _ {X : Type 0} (t : ThingsOf X) where
  -- the number of a thing is that at its place
  abbrev pub IsNumbered : Host → X → Type 0
  IsNumbered h x = number_at t.of_client t.of_server h (t.place x) ≡ Some (t.order x)

  pub numbers : (h : Host) → AllByRecursion (IsNumbered h) (all_of t h)
  numbers h =
      all-append (IsNumbered h) (flat_map (of_clients t) (entries h.clients)) (flat_map (of_servers t) (entries h.servers))
      (all_weaker _ (IsNumbered h) (λ x a. ap (number_at t.of_client t.of_server h) a.1 ∙ a.2) (flat_map (of_clients t) (entries h.clients))
      (things-numbers OfClient client_inject t.place t.order t.of_client (of_clients t) (λ e. t.one_client e.0 e.1) h.clients))
      (all_weaker _ (IsNumbered h) (λ x a. ap (number_at t.of_client t.of_server h) a.1 ∙ a.2) (flat_map (of_servers t) (entries h.servers))
      (things-numbers OfServer server_inject t.place t.order t.of_server (of_servers t) (λ e. t.one_server e.0 e.1) h.servers))

  -- a row has at most one thing
  pub at_one : (h : Host) (p : Place) → IsOne t.place t.order p (number_at t.of_client t.of_server h p) (at t h p)
  at_one h (OfClient id) = by_row (get h.clients id) where
    by_row : (o : Option ClientRow) → IsOne t.place t.order (OfClient id) (option_and_then t.of_client o) (t.client_at id o)
    by_row None = subst (IsOne t.place t.order (OfClient id) None) (sym (t.no_client id)) tt
    by_row (Some r) = t.one_client id r
  at_one h (OfServer id) = by_row (get h.servers id) where
    by_row : (o : Option ServerRow) → IsOne t.place t.order (OfServer id) (option_and_then t.of_server o) (t.server_at id o)
    by_row None = subst (IsOne t.place t.order (OfServer id) None) (sym (t.no_server id)) tt
    by_row (Some r) = t.one_server id r

-- what stands in one list of at most one thing
pub one_all : {X : Type 0} (place : X → Place) (order : X → ℕ) (p : Place) (number : Option ℕ) (xs : List X) → IsOne place order p number xs
    → AllByRecursion (λ x. (place x ≡ p) × (number ≡ Some (order x))) xs
one_all place order p number [] one = tt
one_all place order p number (x ∷ []) one = (one, tt)
one_all place order p number (x ∷ y ∷ xs) one = absurd one
