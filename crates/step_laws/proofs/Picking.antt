-- The rows that are due act as if the first of them were picked anew before each act: no act makes a row due.
use Rattle.std.proofs.Common.{◌≡◌, ℕ, zero, suc, ◌+◌, ◌<◌, ◌≤◌, Bool, true, false, not, cond, Option, Some, None, List, [], ◌∷◌, ◌++◌, take, refl}
use Rattle.std.proofs.Common.{sym, ap, subst, ◌∙◌, arith, inl, inr}
use Rattle.std.specs.Prelude.{nat_lt, nat_le}
use Rattle.std.specs.List.{AllByRecursion, Contains, filter, flat_map}
use Rattle.std.specs.Option.{option_and_then}
use Rattle.std.proofs.lemmas.Bool.{cond_both, cases_Bool, lt-leb}
use Rattle.std.proofs.Math.Seq.{take-nil}
use Rattle.std.proofs.lemmas.List.Elements.{filter-append, Contains-append_cases}
use Rattle.std.proofs.lemmas.Grind.{flat_map-append}
use Rattle.plain_sets.specs.Maps.{entries, get}
use Rattle.plain_sets.specs.Ordered.{ordered, first_of}
use Rattle.plain_sets.proofs.OrderLaws.{all_weaker, ordered-all}
use Rattle.plain_sets.proofs.OrderFirst.{all_from}
use Rattle.plain_sets.proofs.OrderSame.{all_at, filter-all, ordered-filter}
use Rattle.homa_plain.specs.declared.id.CallId.{CallId}
use Rattle.homa_plain.specs.declared.settings.Settings.{Settings}
use Rattle.homa_plain.specs.Timers.{due, most_acts}
use Rattle.homa_plain.specs.Outgoing.{has_waiting}
use Rattle.homa_plain.specs.Calls.{is_call}
use Rattle.homa_plain.specs.Calls.{call_cmp}
use Rattle.homa_plain.specs.Rows.{ClientRow, ServerRow, State, Receiving, Held, Replying, Buried, RowsOf, set_row}
use Rattle.homa_plain.specs.Rules.{Moment, Did}
use Rattle.homa_plain.specs.Timers.{Place, OfClient, OfServer, Timer, timer_key, timer, timers, unless, has_no_gap, client_deadline, server_deadline}
use Rattle.homa_plain.specs.Timers.{is_client_at_rest, client_acts, state_acts, server_acts}
use Rattle.homa_plain.specs.Work.{Work, now_of}
use Rattle.homa_plain.specs.Steps.{moment, asked, served, client_acted, server_acted, acts_at, all_act, acts}
use Rattle.step_laws.specs.StepLaws.{first_acts, picked_anew}
use Rattle.step_laws.proofs.ToldBy.{asked-carried, served-carried, asked-clients, asked-servers, served-servers, served-clients}
use Rattle.homa_plain.proofs.CallOrder.{call_total, call_same, calls_are}
use Rattle.step_laws.proofs.RowMaps.{filter_all, Around, around-get, absent-get, entries-insert, entries-removed}
use Rattle.step_laws.proofs.Places.{client_inject, server_inject, two_sides, things-side, things-others, Pairwise, Differ, pairwise-filter}
use Rattle.step_laws.proofs.Places.{pairwise-ordered, one_timer, timers-differ}

-- ---- a row that acted isn't due

-- a deadline is later than now, where there is one
abbrev IsLater : ℕ → Option ℕ → Type 0
IsLater now None = Unit {0}
IsLater now (Some at) = now < at

later_unless : (now : ℕ) (rests : Bool) (at : ℕ) → now < at → IsLater now (unless rests at)
later_unless now true at h = tt
later_unless now false at h = h

module _ (s : Settings) (resend : 1 ≤ s.resend) (m : Moment) (id : CallId) where
  client_later : (r : ClientRow) → IsLater m.now (option_and_then (client_deadline s) (client_acts s m id r).row)
  unfolding client_deadline
  client_later r =
      cond_both (nat_lt r.count s.tries) _ _ (λ (d : Did ClientRow). IsLater m.now (option_and_then (client_deadline s) d.row))
      (λ _. later_unless m.now (is_client_at_rest (record r { count = r.count + 1; base = m.now })) (m.now + s.resend) (omega (arith, resend))) (λ _. tt)

  state_later : (row : ServerRow) (state : State) → IsLater m.now (option_and_then (server_deadline s) (state_acts s m id row state).row)
  unfolding server_deadline
  state_later row (Receiving service part base count) =
      cond_both (nat_lt count s.tries) _ _ (λ (d : Did ServerRow). IsLater m.now (option_and_then (server_deadline s) d.row))
      (λ _. later_unless m.now (has_no_gap part) (m.now + s.resend) (omega (arith, resend))) (λ _. tt)
  state_later row (Held response release) = later_unless m.now _ (m.now + s.resend) (omega (arith, resend))
  state_later row (Replying response out order base count) =
      cond_both (nat_lt count s.tries) _ _ (λ (d : Did ServerRow). IsLater m.now (option_and_then (server_deadline s) d.row))
      (λ _. later_unless m.now (has_waiting out) (m.now + s.resend) (omega (arith, resend))) (λ _. omega arith)
  state_later row (Buried until) = tt

-- ---- rows that are due

-- whether a row is due
abbrev is_due : ℕ → Timer → Bool
is_due now t = nat_le (timer_key t).0 now

not_due : (now : ℕ) (place : Place) (order : ℕ) (o : Option ℕ) → IsLater now o → filter (is_due now) (timer place order o) ≡ []
not_due now place order None h = refl
not_due now place order (Some at) h = ap (λ b. cond b (record { place = place; at = at; order = order } ∷ []) []) (lt-leb at now h)

abbrev same_place : Place → Place → Bool
same_place (OfClient a) (OfClient b) = is_call a b
same_place (OfServer a) (OfServer b) = is_call a b
same_place p q = false

same_places : (p q : Place) → same_place p q ≡ true → p ≡ q
same_places (OfClient a) (OfClient b) e = ap OfClient ((calls_are a b).0 e)
same_places (OfServer a) (OfServer b) e = ap OfServer ((calls_are a b).0 e)
same_places (OfClient a) (OfServer b) e = cc
same_places (OfServer a) (OfClient b) e = cc

place_itself : (p : Place) → same_place p p ≡ true
place_itself (OfClient a) = (calls_are a a).1 refl
place_itself (OfServer a) = (calls_are a a).1 refl

-- whether a timer is that of another place
abbrev is_other : Place → Timer → Bool
is_other place t = not (same_place t.place place)

other_true : (place : Place) (t : Timer) → (place ≡ t.place → ⊥) → is_other place t ≡ true
other_true place t differ = elim (cases_Bool (same_place t.place place)) [ inl e ↦ absurd (differ (sym (same_places t.place place e))) | inr e ↦ ap not e ]

other_false : (place : Place) (order : ℕ) (o : Option ℕ) (now : ℕ) → filter (is_other place) (filter (is_due now) (timer place order o)) ≡ []
other_false place order None now = refl
other_false place order (Some at) now =
    let t : Timer = record { place = place; at = at; order = order } in
    elim (is_due now t) as (λ b. filter (is_other place) (cond b (t ∷ []) []) ≡ []) [
      | true ↦ ap (λ b. cond (not b) (t ∷ []) []) (place_itself place)
      | false ↦ refl
    ]

-- ---- the timers after an act

-- a call's entry, if it has a row
abbrev row_entry : {R : Type 0} → CallId → Option R → List (CallId × R)
row_entry id None = []
row_entry id (Some row) = (id, row) ∷ []

entries-set_row : {R : Type 0} (rows : RowsOf R) (id : CallId) (old : R) (o : Option R) (a : Around call_cmp id old rows.list)
    → entries (set_row rows id o) ≡ a.front ++ (row_entry id o ++ a.back)
entries-set_row rows id old None a = entries-removed call_total call_same rows id old a
entries-set_row rows id old (Some row) a = entries-insert call_total call_same rows id old row a

append_none : {X : Type 0} (xs ys zs : List X) → xs ≡ [] → ys ++ (xs ++ zs) ≡ ys ++ zs
append_none xs ys zs e = ap (λ l. ys ++ (l ++ zs)) e

module _ {R : Type 0} (side : CallId → Place) (inject : (a b : CallId) → side a ≡ side b → a ≡ b) (order : R → ℕ) (deadline : R → Option ℕ) (now : ℕ) where
  -- the timer of a row
  abbrev row_timer : CallId × R → List Timer
  row_timer e = timer (side e.0) (order e.1) (deadline e.1)

  others_due : (id : CallId) (es : List (CallId × R)) → AllByRecursion (λ (e : CallId × R). id ≡ e.0 → ⊥) es
      → filter (is_other (side id)) (filter (is_due now) (flat_map row_timer es)) ≡ filter (is_due now) (flat_map row_timer es)
  others_due id es all =
      filter_all (is_other (side id)) (filter (is_due now) (flat_map row_timer es))
      (filter-all (λ t. is_other (side id) t ≡ true) (is_due now) (flat_map row_timer es)
      (all_weaker (λ (t : Timer). side id ≡ t.place → ⊥) (λ t. is_other (side id) t ≡ true) (λ t. other_true (side id) t) (flat_map row_timer es)
      (things-others side inject (λ (t : Timer). t.place) (λ t. t.order) (λ (r : R). Some (order r)) row_timer
      (λ e. one_timer (side e.0) (order e.1) (deadline e.1)) id es all)))

  row_done : (id : CallId) (o : Option R) → IsLater now (option_and_then deadline o) → filter (is_due now) (flat_map row_timer (row_entry id o)) ≡ []
  row_done id None h = refl
  row_done id (Some row) h =
      filter-append (is_due now) (timer (side id) (order row) (deadline row)) [] ∙ ap (λ l. l ++ []) (not_due now (side id) (order row) (deadline row) h)

  -- filters of three parts
  due_parts : (p : Timer → Bool) (xs ys zs : List Timer) → filter p (xs ++ (ys ++ zs)) ≡ filter p xs ++ (filter p ys ++ filter p zs)
  due_parts p xs ys zs = filter-append p xs (ys ++ zs) ∙ ap (λ l. filter p xs ++ l) (filter-append p ys zs)

  flat_parts : (xs ys zs : List (CallId × R)) → flat_map row_timer (xs ++ (ys ++ zs)) ≡ flat_map row_timer xs
      ++ (flat_map row_timer ys ++ flat_map row_timer zs)
  flat_parts xs ys zs = flat_map-append row_timer xs (ys ++ zs) ∙ ap (λ l. flat_map row_timer xs ++ l) (flat_map-append row_timer ys zs)

  -- of the rows of its side those that are due are those that were, but the one that acted
  side_due : (rows : RowsOf R) (id : CallId) (old : R) (o : Option R) → get rows id ≡ Some old → IsLater now (option_and_then deadline o)
      → filter (is_due now) (flat_map row_timer (entries (set_row rows id o))) ≡ filter (is_other (side id))
      (filter (is_due now) (flat_map row_timer (entries rows)))
  side_due rows id old o e later =
      let a = around-get call_total call_same rows id old e in
      let p : Timer → Bool = is_due now in
      let q : Timer → Bool = is_other (side id) in
      let front : List Timer = flat_map row_timer a.front in
      let back : List Timer = flat_map row_timer a.back in
      let acted : List Timer = flat_map row_timer (row_entry id o) in
      let was : List Timer = flat_map row_timer (row_entry id (Some old)) in
      let now_due : filter p (flat_map row_timer (entries (set_row rows id o))) ≡ filter p front ++ filter p back =
      ap (λ es. filter p (flat_map row_timer es)) (entries-set_row rows id old o a) ∙ ap (filter p) (flat_parts a.front (row_entry id o) a.back)
      ∙ due_parts p front acted back
      ∙ append_none (filter p acted) (filter p front) (filter p back) (row_done id o later) in
      let gone : filter q (filter p was) ≡ [] =
      ap (filter q) (filter-append p (timer (side id) (order old) (deadline old)) [])
      ∙ filter-append q (filter p (timer (side id) (order old) (deadline old))) []
      ∙ ap (λ l. l ++ []) (other_false (side id) (order old) (deadline old) now) in
      let then_due : filter q (filter p (flat_map row_timer (entries rows))) ≡ filter p front ++ filter p back =
      ap (λ es. filter q (filter p (flat_map row_timer es))) a.is ∙ ap (λ l. filter q (filter p l)) (flat_parts a.front (row_entry id (Some old)) a.back)
      ∙ ap (filter q) (due_parts p front was back) ∙ due_parts q (filter p front) (filter p was) (filter p back)
      ∙ append_none (filter q (filter p was)) (filter q (filter p front)) (filter q (filter p back)) gone
      ∙ ap (λ l. l ++ filter q (filter p back)) (others_due id a.front a.before) ∙ ap (λ l. filter p front ++ l) (others_due id a.back a.after) in
      now_due ∙ sym then_due

  -- no row of the other side stands at a place
  other_places : (place : Place) → ((id : CallId) → place ≡ side id → ⊥) → (rows : RowsOf R)
      → AllByRecursion (λ (t : Timer). place ≡ t.place → ⊥) (flat_map row_timer (entries rows))
  other_places place apart rows =
      all_weaker (λ (t : Timer). (id : CallId) × (t.place ≡ side id)) (λ t. place ≡ t.place → ⊥) (λ t h f. apart h.0 (f ∙ h.1))
      (flat_map row_timer (entries rows))
      (things-side side inject (λ (t : Timer). t.place) (λ t. t.order) (λ (r : R). Some (order r)) row_timer
      (λ e. one_timer (side e.0) (order e.1) (deadline e.1)) (entries rows))

  -- so those that are due stay
  other_side_due : (place : Place) → ((id : CallId) → place ≡ side id → ⊥) → (rows : RowsOf R)
      → filter (is_other place) (filter (is_due now) (flat_map row_timer (entries rows))) ≡ filter (is_due now) (flat_map row_timer (entries rows))
  other_side_due place apart rows =
      filter_all (is_other place) (filter (is_due now) (flat_map row_timer (entries rows)))
      (filter-all (λ t. is_other place t ≡ true) (is_due now) (flat_map row_timer (entries rows))
      (all_weaker (λ (t : Timer). place ≡ t.place → ⊥) (λ t. is_other place t ≡ true) (λ t. other_true place t) (flat_map row_timer (entries rows))
      (other_places place apart rows)))

  -- a call without a row has no timer
  no_timer : (rows : RowsOf R) (id : CallId) (t : Timer) → get rows id ≡ None → t.place ≡ side id → Contains (flat_map row_timer (entries rows)) t → ⊥
  no_timer rows id t e at c =
      all_at (λ (u : Timer). side id ≡ u.place → ⊥) (flat_map row_timer (entries rows)) t
      (things-others side inject (λ (u : Timer). u.place) (λ u. u.order) (λ (r : R). Some (order r)) row_timer
      (λ d. one_timer (side d.0) (order d.1) (deadline d.1)) id (entries rows) (absent-get call_total call_same rows id e)) c (sym at)

-- ---- an act

module _ (s : Settings) (resend : 1 ≤ s.resend) where
  abbrev client_timers : RowsOf ClientRow → List Timer
  client_timers rows = flat_map (λ (e : CallId × ClientRow). timer (OfClient e.0) e.1.order (client_deadline s e.1)) (entries rows)

  abbrev server_timers : RowsOf ServerRow → List Timer
  server_timers rows = flat_map (λ (e : CallId × ServerRow). timer (OfServer e.0) e.1.order (server_deadline s e.1)) (entries rows)

  -- the timers that are due
  abbrev due_timers : Work → List Timer
  due_timers w = filter (is_due (now_of w)) (timers s w.host)

  client_done : (id : CallId) (o : Option ClientRow) (w : Work) (t : Timer) → get w.host.clients id ≡ o → t.place ≡ OfClient id → Contains (timers s w.host) t
      → due_timers (client_acted s id o w) ≡ filter (is_other (OfClient id)) (due_timers w)
  client_done id None w t e at c =
      elim (Contains-append_cases (client_timers w.host.clients) (server_timers w.host.servers) t c) [
        | inl mine ↦ absurd (no_timer OfClient client_inject (λ (r : ClientRow). r.order) (client_deadline s) 0 w.host.clients id t e at mine)
        | inr theirs ↦ absurd (all_at (λ (u : Timer). OfClient id ≡ u.place → ⊥) (server_timers w.host.servers) t
            (other_places OfServer server_inject (λ (row : ServerRow). row.order) (server_deadline s) 0 (OfClient id)
            (λ q. two_sides id q) w.host.servers) theirs (sym at))
      ]
  client_done id (Some r) w t e at c =
      let did : Did ClientRow = client_acts s (moment s id w) id r in
      let v : Work = asked s id r.server did w in
      let now : ℕ = now_of w in
      let p : Timer → Bool = is_due now in
      let q : Timer → Bool = is_other (OfClient id) in
      let last : now_of v ≡ now = (asked-carried s id r.server did w).last in
      let clients : v.host.clients ≡ set_row w.host.clients id did.row = asked-clients s id r.server did w in
      let servers : v.host.servers ≡ w.host.servers = asked-servers s id r.server did w in
      let mine : filter p (client_timers (set_row w.host.clients id did.row)) ≡ filter q (filter p (client_timers w.host.clients)) =
      side_due OfClient client_inject (λ (x : ClientRow). x.order) (client_deadline s) now w.host.clients id r did.row e
      (client_later s resend (moment s id w) id r) in
      let theirs : filter q (filter p (server_timers w.host.servers)) ≡ filter p (server_timers w.host.servers) =
      other_side_due OfServer server_inject (λ (row : ServerRow). row.order) (server_deadline s) now (OfClient id) (λ a. two_sides id a) w.host.servers in
      let after : due_timers v ≡ filter p (client_timers (set_row w.host.clients id did.row)) ++ filter p (server_timers w.host.servers) =
      (λ i. filter (is_due (last i)) (client_timers (clients i) ++ server_timers (servers i)))
      ∙ filter-append p (client_timers (set_row w.host.clients id did.row)) (server_timers w.host.servers) in
      let before : filter q (due_timers w) ≡ filter q (filter p (client_timers w.host.clients)) ++ filter q (filter p (server_timers w.host.servers)) =
      ap (filter q) (filter-append p (client_timers w.host.clients) (server_timers w.host.servers))
      ∙ filter-append q (filter p (client_timers w.host.clients)) (filter p (server_timers w.host.servers)) in
      after ∙ ap (λ l. l ++ filter p (server_timers w.host.servers)) mine ∙ ap (λ l. filter q (filter p (client_timers w.host.clients)) ++ l)
      (sym theirs) ∙ sym before

  server_done : (id : CallId) (o : Option ServerRow) (w : Work) (t : Timer) → get w.host.servers id ≡ o → t.place ≡ OfServer id → Contains (timers s w.host) t
      → due_timers (server_acted s id o w) ≡ filter (is_other (OfServer id)) (due_timers w)
  server_done id None w t e at c =
      elim (Contains-append_cases (client_timers w.host.clients) (server_timers w.host.servers) t c) [
        | inr mine ↦ absurd (no_timer OfServer server_inject (λ (row : ServerRow). row.order) (server_deadline s) 0 w.host.servers id t e at mine)
        | inl theirs ↦ absurd (all_at (λ (u : Timer). OfServer id ≡ u.place → ⊥) (client_timers w.host.clients) t
            (other_places OfClient client_inject (λ (r : ClientRow). r.order) (client_deadline s) 0 (OfServer id)
            (λ q f. two_sides q id (sym f)) w.host.clients) theirs (sym at))
      ]
  server_done id (Some row) w t e at c =
      let did : Did ServerRow = server_acts s (moment s id w) id row in
      let v : Work = served s id did w in
      let now : ℕ = now_of w in
      let p : Timer → Bool = is_due now in
      let q : Timer → Bool = is_other (OfServer id) in
      let last : now_of v ≡ now = (served-carried s id did w).last in
      let clients : v.host.clients ≡ w.host.clients = served-clients s id did w in
      let servers : v.host.servers ≡ set_row w.host.servers id did.row = served-servers s id did w in
      let mine : filter p (server_timers (set_row w.host.servers id did.row)) ≡ filter q (filter p (server_timers w.host.servers)) =
      side_due OfServer server_inject (λ (x : ServerRow). x.order) (server_deadline s) now w.host.servers id row did.row e
      (state_later s resend (moment s id w) id row row.state) in
      let theirs : filter q (filter p (client_timers w.host.clients)) ≡ filter p (client_timers w.host.clients) =
      other_side_due OfClient client_inject (λ (r : ClientRow). r.order) (client_deadline s) now (OfServer id) (λ a f. two_sides a id (sym f)) w.host.clients in
      let after : due_timers v ≡ filter p (client_timers w.host.clients) ++ filter p (server_timers (set_row w.host.servers id did.row)) =
      (λ i. filter (is_due (last i)) (client_timers (clients i) ++ server_timers (servers i))) ∙ filter-append p (client_timers w.host.clients)
      (server_timers (set_row w.host.servers id did.row)) in
      let before : filter q (due_timers w) ≡ filter q (filter p (client_timers w.host.clients)) ++ filter q (filter p (server_timers w.host.servers)) =
      ap (filter q) (filter-append p (client_timers w.host.clients) (server_timers w.host.servers))
      ∙ filter-append q (filter p (client_timers w.host.clients)) (filter p (server_timers w.host.servers)) in
      after ∙ ap (λ l. filter p (client_timers w.host.clients) ++ l) mine ∙ ap (λ l. l ++ filter q (filter p (server_timers w.host.servers)))
      (sym theirs) ∙ sym before

  -- the rows that are due after an act are those that were, but the one that acted
  act_done : (place : Place) (w : Work) (t : Timer) → t.place ≡ place → Contains (timers s w.host) t
      → due_timers (acts_at s place w) ≡ filter (is_other place) (due_timers w)
  act_done (OfClient id) w t at c = client_done id (get w.host.clients id) w t refl at c
  act_done (OfServer id) w t at c = server_done id (get w.host.servers id) w t refl at c

  -- ---- all rows that are due, in order

  in_order : Work → List Timer
  in_order w = ordered timer_key (due_timers w)

  -- the first of them is a timer of the host, and the others are those of other places
  first_is : (w : Work) (t : Timer) (ts : List Timer) → in_order w ≡ t ∷ ts → Contains (timers s w.host) t
  unfolding in_order
  first_is w t ts e =
      let all : AllByRecursion (Contains (timers s w.host)) (timers s w.host) = all_from (Contains (timers s w.host)) (timers s w.host) (λ u c. c) in
      let placed : AllByRecursion (Contains (timers s w.host)) (t ∷ ts) =
      subst (AllByRecursion (Contains (timers s w.host))) e
      (ordered-all timer_key (Contains (timers s w.host)) (due_timers w)
      (filter-all (Contains (timers s w.host)) (is_due (now_of w)) (timers s w.host) all)) in
      placed.0

  others_after : (w : Work) (t : Timer) (ts : List Timer) → in_order w ≡ t ∷ ts → filter (is_other t.place) (t ∷ ts) ≡ ts
  unfolding in_order
  others_after w t ts e =
      let apart : Pairwise (Differ (λ (u : Timer). u.place)) (t ∷ ts) =
      subst (Pairwise (Differ (λ (u : Timer). u.place))) e
      (pairwise-ordered (Differ (λ (u : Timer). u.place)) (λ x y differ f. differ (sym f)) timer_key (due_timers w)
      (pairwise-filter (Differ (λ (u : Timer). u.place)) (is_due (now_of w)) (timers s w.host) (timers-differ s w.host))) in
      ap (λ b. cond (not b) (t ∷ filter (is_other t.place) ts) (filter (is_other t.place) ts)) (place_itself t.place)
      ∙ filter_all (is_other t.place) ts
      (all_weaker (λ (u : Timer). t.place ≡ u.place → ⊥) (λ u. is_other t.place u ≡ true) (λ u. other_true t.place u) ts apart.0)

  act_order : (w : Work) (t : Timer) (ts : List Timer) → in_order w ≡ t ∷ ts → in_order (acts_at s t.place w) ≡ ts
  unfolding in_order
  act_order w t ts e =
      ap (ordered timer_key) (act_done t.place w t refl (first_is w t ts e)) ∙ ordered-filter timer_key (is_other t.place) (due_timers w)
      ∙ ap (filter (is_other t.place)) e ∙ others_after w t ts e

  -- which row comes first
  first_due_is : (w : Work) → first_of (due timer_key (now_of w) (timers s w.host)) ≡ first_of (in_order w)
  unfolding due in_order
  first_due_is w = elim (ordered timer_key (due_timers w)) as (λ l. first_of (take 32 l) ≡ first_of l) [ [] ↦ refl | t ∷ ts ↦ refl ]

  picked : (n : ℕ) (w : Work) (ds : List Timer) → in_order w ≡ ds → all_act s (take n ds) w ≡ picked_anew s n w
  unfolding picked_anew
  picked zero w ds e = refl
  picked (suc n) w [] e =
      let none : first_of (due timer_key (now_of w) (timers s w.host)) ≡ None = first_due_is w ∙ ap first_of e in
      ap (λ l. all_act s l w) (sym (take-nil n)) ∙ picked n w [] e ∙ ap (λ o. picked_anew s n (first_acts s o w)) (sym none)
  picked (suc n) w (t ∷ ts) e =
      let some : first_of (due timer_key (now_of w) (timers s w.host)) ≡ Some t = first_due_is w ∙ ap first_of e in
      picked n (acts_at s t.place w) ts (act_order w t ts e) ∙ ap (λ o. picked_anew s n (first_acts s o w)) (sym some)

  pub acts-picked : (w : Work) → acts s w ≡ picked_anew s most_acts w
  unfolding due in_order
  acts-picked w = picked most_acts w (ordered timer_key (due_timers w)) refl
