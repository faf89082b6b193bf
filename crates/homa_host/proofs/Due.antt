-- The row that is due first, by its slot in the timers' book.
use Rattle.std.proofs.Common.{◌≡◌, ◌<◌, ◌≤◌, ◌+◌, ℕ, inl, inr, Bool, true, Option, Some, None, IsSome, List, [], ◌∷◌, refl, sym, ap, subst, ◌∙◌, arith}
use Rattle.std.specs.Prelude.{nat_le, take}
use Rattle.std.specs.List.{AllByRecursion, Contains, filter}
use Rattle.std.specs.Option.{option_map, IsSomeAnd, MatchOption}
use Rattle.std.proofs.lemmas.Bool.{leb-true, cond_both}
use Rattle.plain_sets.specs.Maps.{get}
use Rattle.plain_sets.specs.Ordered.{ordered, first_of, IsLeast}
use Rattle.plain_sets.proofs.OrderSame.{all_at, at_head, none_in, filter-all}
use Rattle.plain_sets.proofs.OrderFirst.{all_from, first-ordered}
use Rattle.plain_sets.proofs.MapMembers.{same_some}
use Rattle.homa_plain.specs.declared.id.CallId.{CallId}
use Rattle.homa_plain.specs.declared.settings.Settings.{Settings}
use Rattle.homa_plain.specs.Timers.{due}
use Rattle.homa_plain.specs.Host.{Host}
use Rattle.homa_plain.specs.Rows.{ClientRow, ServerRow}
use Rattle.homa_plain.specs.Timers.{Place, OfClient, OfServer, Timer, timer, timer_key, timers, client_deadline, server_deadline}
use Rattle.homa_plain.specs.Work.{Work, now_of}
use Rattle.homa_plain.specs.Steps.{acts_at}
use Rattle.step_laws.specs.StepLaws.{first_acts}
use Rattle.homa_timers.specs.Armed as armed
use Rattle.host_places.specs.Placed.{Placed, StandsAt, spot_at}
use Rattle.homa_client.specs.Held.{HeldRow, seen_row}
use Rattle.homa_client.specs.AtTable.{IsDueAt}
use Rattle.homa_server.specs.Held.{HeldServer, seen_server}
use Rattle.host_view.specs.declared.outbox.SentFrame.{SentFrame}
use Rattle.host_view.specs.Seen.{slot_of, timer_of}
use Rattle.host_view.specs.Follow.{client_timer, server_timer}
use Rattle.host_view.proofs.ByBook.{first_due-book}
use Rattle.host_books.proofs.Things.{thing_at}
use Rattle.host_books.proofs.BookThings.{timer_things}
use Rattle.homa_host.specs.Parts.{host_of, seen_of, IsKept}
use Rattle.homa_host.specs.Amid.{Amid}
use Rattle.homa_host.specs.declared.parts.HostParts.{HostParts}
use Rattle.homa_host.proofs.SlotRows.{client_held, server_held, client_spot, server_spot}

-- what passes a test is as the test says
passes : {X : Type 0} (P : X → Type 0) (p : X → Bool) → ((x : X) → p x ≡ true → P x) → (xs : List X) → AllByRecursion P (filter p xs)
passes P p holds [] = tt
passes P p holds (x ∷ xs) = cond_both (p x) _ _ (AllByRecursion P) (λ e. (holds x e, passes P p holds xs)) (λ _. passes P p holds xs)

-- what is due is one of the things, and its tick has come
pub first_is : {X : Type 0} (key : X → ℕ × ℕ) (now : ℕ) (xs : List X) (x : X) → first_of (due key now xs) ≡ Some x → Contains xs x × ((key x).0 ≤ now)
unfolding due
first_is {X} key now xs x e =
    let is : X → Bool = λ y. nat_le (key y).0 now in
    let there : Contains (filter is xs) x = by_order (ordered key (filter is xs)) (first-ordered key (filter is xs)) e in (
      all_at (Contains xs) (filter is xs) x (filter-all (Contains xs) is xs (all_from (Contains xs) xs (λ u c. c))) there,
      all_at (λ y. (key y).0 ≤ now) (filter is xs) x (passes (λ y. (key y).0 ≤ now) is (λ y t. leb-true _ _ t) xs) there,
    ) where
      by_order : (ys : List X)
          → MatchOption (first_of ys) (filter (λ y. nat_le (key y).0 now) xs ≡ []) (IsLeast key (filter (λ y. nat_le (key y).0 now) xs))
          → first_of (take 32 ys) ≡ Some x → Contains (filter (λ y. nat_le (key y).0 now) xs) x
      by_order [] least none = absurd (nothing none) where
        nothing : None ≡ Some x → ⊥
        nothing e = cc
      by_order (y ∷ ys) least some = subst (Contains (filter (λ y. nat_le (key y).0 now) xs)) (same_some y x some) least.0

-- a timer that a row has is at its deadline
in_timer : (p : Place) (order : ℕ) (o : Option ℕ) (t : Timer) → Contains (timer p order o) t → o ≡ Some t.at
in_timer p order None t c = absurd (none_in t c)
in_timer p order (Some at) t c = elim (at_head _ t [] c) [ inl e ↦ ap (λ (u : Timer). Some u.at) e | inr none ↦ absurd (none_in t none) ]

client_has : (s : Settings) (id : CallId) (o : Option ClientRow) (t : Timer) → Contains (client_timer s id o) t
    → (r : ClientRow) × (o ≡ Some r) × (client_deadline s r ≡ Some t.at)
client_has s id None t c = absurd (none_in t c)
client_has s id (Some r) t c = (r, refl, in_timer (OfClient id) r.order (client_deadline s r) t c)

server_has : (s : Settings) (id : CallId) (o : Option ServerRow) (t : Timer) → Contains (server_timer s id o) t
    → (r : ServerRow) × (o ≡ Some r) × (server_deadline s r ≡ Some t.at)
server_has s id None t c = absurd (none_in t c)
server_has s id (Some r) t c = (r, refl, in_timer (OfServer id) r.order (server_deadline s r) t c)

come : (o : Option ℕ) (at now : ℕ) → o ≡ Some at → at ≤ now → IsSomeAnd o (λ n. n ≤ now)
come o at now e up = subst (λ (o : Option ℕ). IsSomeAnd o (λ n. n ≤ now)) (sym e) up

module _ (c : HostParts) (kept : IsKept c) (slot : ℕ)
    (due_slot : option_map (λ (t : armed.Timer). t.slot) (first_of (due armed.timer_key c.control.last c.books.timers.timers)) ≡ Some slot) where
  -- the row that is due first
  pub found : (t : Timer) × (first_of (due timer_key c.control.last (timers c.control.settings (host_of c))) ≡ Some t) × (slot_of (seen_of c) t.place ≡ slot)
  found = by_first (first_of (due timer_key c.control.last (timers c.control.settings (host_of c)))) refl where
    slot_in : (o : Option Timer) → option_map (λ (t : armed.Timer). t.slot) (option_map (timer_of (seen_of c)) o) ≡ option_map
        (λ (t : Timer). slot_of (seen_of c) t.place) o
    slot_in None = refl
    slot_in (Some t) = refl

    by_first : (o : Option Timer) → first_of (due timer_key c.control.last (timers c.control.settings (host_of c))) ≡ o
        → (t : Timer) × (first_of (due timer_key c.control.last (timers c.control.settings (host_of c))) ≡ Some t) × (slot_of (seen_of c) t.place ≡ slot)
    by_first o e = by_case o e
        (sym (ap (option_map (λ (t : armed.Timer). t.slot))
        (first_due-book (seen_of c) c.books.timers.timers c.control.last kept.own kept.booked.armed ∙ ap (option_map (timer_of (seen_of c))) e)
        ∙ slot_in o) ∙ due_slot) where
          by_case : (o : Option Timer) → first_of (due timer_key c.control.last (timers c.control.settings (host_of c))) ≡ o
              → option_map (λ (t : Timer). slot_of (seen_of c) t.place) o ≡ Some slot
              → (t : Timer) × (first_of (due timer_key c.control.last (timers c.control.settings (host_of c))) ≡ Some t) × (slot_of (seen_of c) t.place ≡ slot)
          by_case None e at = absurd (nothing at) where
            nothing : None ≡ Some slot → ⊥
            nothing e = cc
          by_case (Some t) e at = (t, e, same_some _ slot at)

  is_due : Contains (timers c.control.settings (host_of c)) found.0 × (found.0.at ≤ c.control.last)
  is_due = first_is timer_key c.control.last (timers c.control.settings (host_of c)) found.0 found.1

  -- stands in one of the tables
  client_at : (id : CallId) → found.0.place ≡ OfClient id → (r : HeldRow) × StandsAt c.clients.rows id slot r
      × IsSomeAnd (client_deadline c.control.settings (seen_row c.pool r)) (λ at. at ≤ c.control.last)
  client_at id place =
      let has = client_has c.control.settings id (get (host_of c).clients id) found.0
      (thing_at (timer_things c.control.settings) (host_of c) (OfClient id) found.0 is_due.0 place) in
      let h = client_held c id slot has.0 has.1 (ap (slot_of (seen_of c)) (sym place) ∙ found.2) in
      (h.0, h.1, come _ found.0.at c.control.last (ap (client_deadline c.control.settings) h.2 ∙ has.2) is_due.1)

  server_at : (id : CallId) → found.0.place ≡ OfServer id → (place : ℕ) → slot ≡ c.control.settings.calls + place
      → (r : HeldServer) × StandsAt c.servers.rows id place r × IsSomeAnd (server_deadline c.control.settings (seen_server c.pool r))
      (λ at. at ≤ c.control.last)
  server_at id at place is =
      let has = server_has c.control.settings id (get (host_of c).servers id) found.0
      (thing_at (timer_things c.control.settings) (host_of c) (OfServer id) found.0 is_due.0 at) in
      let h = server_held c id place has.0 has.1 (ap (slot_of (seen_of c)) (sym at) ∙ found.2 ∙ is) in
      (h.0, h.1, come _ found.0.at c.control.last (ap (server_deadline c.control.settings) h.2 ∙ has.2) is_due.1)

  -- of a slot below the number of calls in the clients'
  pub due_client : slot < c.control.settings.calls
      → (id : CallId) × (found.0.place ≡ OfClient id) × (r : HeldRow) × StandsAt c.clients.rows id slot r
      × IsSomeAnd (client_deadline c.control.settings (seen_row c.pool r)) (λ at. at ≤ c.control.last)
  due_client below = by_place found.0.place refl where
    by_place : (p : Place) → found.0.place ≡ p → (id : CallId) × (found.0.place ≡ OfClient id) × (r : HeldRow) × StandsAt c.clients.rows id slot r
        × IsSomeAnd (client_deadline c.control.settings (seen_row c.pool r)) (λ at. at ≤ c.control.last)
    by_place (OfClient id) e = let h = client_at id e in (id, e, h.0, h.1, h.2)
    by_place (OfServer id) e = let at : slot_of (seen_of c) (OfServer id) ≡ slot = ap (slot_of (seen_of c)) (sym e) ∙ found.2 in absurd (omega (arith, at))

  pub client_spot_there : slot < c.control.settings.calls → IsSome (spot_at c.clients.rows slot)
  client_spot_there below = let d = due_client below in client_spot c kept d.0 slot d.2 d.3

  pub client_due_there : slot < c.control.settings.calls → IsDueAt c.control.settings c.control.last c.pool c.clients.rows slot
  client_due_there below id r stands =
      let d = due_client below in
      let one : id ≡ d.0 = kept.client_places.apart id d.0 _ _ stands d.3 refl in
      let same : r ≡ d.2 = ap (λ (x : Placed HeldRow). x.row) (same_some _ _ (sym stands ∙ ap (get c.clients.rows) one ∙ d.3)) in
      subst (λ (r : HeldRow). IsSomeAnd (client_deadline c.control.settings (seen_row c.pool r)) (λ at. at ≤ c.control.last)) (sym same) d.4

  pub client_first : slot < c.control.settings.calls → (new : HostParts) (before after : List SentFrame)
      → ((id : CallId) (r : HeldRow) (w : Work) → StandsAt c.clients.rows id slot r → Amid w c before → Amid
      (acts_at c.control.settings (OfClient id) w) new after)
      → (w : Work) → Amid w c before → Amid (first_acts c.control.settings (first_of (due timer_key (now_of w) (timers c.control.settings w.host))) w) new after
  client_first below new before after step w amid =
      let d = due_client below in
      let first : first_of (due timer_key (now_of w) (timers c.control.settings w.host)) ≡ Some found.0 =
      ap (λ (h : Host). first_of (due timer_key h.last (timers c.control.settings h))) (sym amid.host) ∙ found.1 in
      subst (λ (o : Option Timer). Amid (first_acts c.control.settings o w) new after) (sym first)
      (subst (λ (p : Place). Amid (acts_at c.control.settings p w) new after) (sym d.1) (step d.0 d.2 w d.3 amid))

  -- of another in the servers'
  module _ (place : ℕ) (is : slot ≡ c.control.settings.calls + place) where
    pub due_server : (id : CallId) × (found.0.place ≡ OfServer id) × (r : HeldServer) × StandsAt c.servers.rows id place r
        × IsSomeAnd (server_deadline c.control.settings (seen_server c.pool r)) (λ at. at ≤ c.control.last)
    due_server = by_place found.0.place refl where
      by_place : (p : Place) → found.0.place ≡ p → (id : CallId) × (found.0.place ≡ OfServer id) × (r : HeldServer)
          × StandsAt c.servers.rows id place r × IsSomeAnd (server_deadline c.control.settings (seen_server c.pool r)) (λ at. at ≤ c.control.last)
      by_place (OfServer id) e = let h = server_at id e place is in (id, e, h.0, h.1, h.2)
      by_place (OfClient id) e =
          let r = client_at id e in
          let within = kept.client_places.within id _ r.1 in
          absurd (omega (arith, within))

    pub server_spot_there : IsSome (spot_at c.servers.rows place)
    server_spot_there = let d = due_server in server_spot c kept d.0 place d.2 d.3

    pub server_due_there : (id : CallId) (r : HeldServer) → StandsAt c.servers.rows id place r
        → IsSomeAnd (server_deadline c.control.settings (seen_server c.pool r)) (λ at. at ≤ c.control.last)
    server_due_there id r stands =
        let d = due_server in
        let one : id ≡ d.0 = kept.server_places.apart id d.0 _ _ stands d.3 refl in
        let same : r ≡ d.2 = ap (λ (x : Placed HeldServer). x.row) (same_some _ _ (sym stands ∙ ap (get c.servers.rows) one ∙ d.3)) in
        subst (λ (r : HeldServer). IsSomeAnd (server_deadline c.control.settings (seen_server c.pool r)) (λ at. at ≤ c.control.last)) (sym same) d.4

    pub server_first : (new : HostParts) (before after : List SentFrame)
        → ((id : CallId) (r : HeldServer) (w : Work) → StandsAt c.servers.rows id place r → Amid w c before → Amid
        (acts_at c.control.settings (OfServer id) w) new after)
        → (w : Work) → Amid w c before
        → Amid (first_acts c.control.settings (first_of (due timer_key (now_of w) (timers c.control.settings w.host))) w) new after
    server_first new before after step w amid =
        let d = due_server in
        let first : first_of (due timer_key (now_of w) (timers c.control.settings w.host)) ≡ Some found.0 =
        ap (λ (h : Host). first_of (due timer_key h.last (timers c.control.settings h))) (sym amid.host) ∙ found.1 in
        subst (λ (o : Option Timer). Amid (first_acts c.control.settings o w) new after) (sym first)
        (subst (λ (p : Place). Amid (acts_at c.control.settings p w) new after) (sym d.1) (step d.0 d.2 w d.3 amid))
