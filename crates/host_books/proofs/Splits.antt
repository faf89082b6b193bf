-- The rows of a host before and after a change of one row, and what each list of its rows' things has of it.
use Rattle.std.proofs.Common.{◌≡◌, ℕ, true, false, Option, Some, None, List, [], ◌∷◌, ◌++◌, refl, sym, ap, ◌∙◌}
use Rattle.std.specs.List.{AllByRecursion, flat_map}
use Rattle.std.proofs.lemmas.Bool.{true≢false}
use Rattle.std.proofs.lemmas.Grind.{flat_map-append}
use Rattle.std.proofs.lemmas.List.{append_assoc, append-nil}
use Rattle.plain_sets.specs.Maps.{entries, get}
use Rattle.plain_sets.proofs.MapLaws.{same_map}
use Rattle.plain_sets.proofs.OrderLaws.{all_weaker}
use Rattle.homa_plain.specs.declared.id.CallId.{CallId}
use Rattle.homa_plain.specs.Calls.{is_call}
use Rattle.homa_plain.specs.Rows.{ClientRow, ServerRow, RowsOf, set_row}
use Rattle.homa_plain.specs.Host.{Host}
use Rattle.homa_plain.specs.Timers.{Place, OfClient, OfServer}
use Rattle.homa_plain.proofs.CallOrder.{call_total, call_same, calls_are}
use Rattle.step_laws.specs.StepLaws.{is_at_client, is_at_server}
use Rattle.step_laws.proofs.RowMaps.{around-get, absent-get, entries-insert, entries-removed}
use Rattle.step_laws.proofs.Places.{IsOne, all-append, things-side, things-others, client_inject, server_inject, two_sides}
use Rattle.step_laws.proofs.Others.{get-set_row, set_row-others}

-- the row of a call as an entry, if there is one
abbrev pub entry_of : {R : Type 0} → CallId → Option R → List (CallId × R)
entry_of id None = []
entry_of id (Some row) = (id, row) ∷ []

-- the entries of two maps that differ at one call alone
pub record MapSplit {R : Type 0} (m n : RowsOf R) (id : CallId) : Type 0 where
  pub front : List (CallId × R)
  pub back : List (CallId × R)
  pub old : entries m ≡ front ++ (entry_of id (get m id) ++ back)
  pub new : entries n ≡ front ++ (entry_of id (get n id) ++ back)
  pub before : AllByRecursion (λ (e : CallId × R). id ≡ e.0 → ⊥) front
  pub after : AllByRecursion (λ (e : CallId × R). id ≡ e.0 → ⊥) back

-- calls that the test tells apart are two
pub other_call : (q id : CallId) → is_call q id ≡ false → q ≡ id → ⊥
other_call q id e is = true≢false (sym ((calls_are q id).1 is) ∙ e)

module _ {R : Type 0} (m n : RowsOf R) (id : CallId) (same : (q : CallId) → is_call q id ≡ false → get n q ≡ get m q) where
  -- the second map is the first with the call's new row
  pub is_set : n ≡ set_row m id (get n id)
  is_set = same_map call_total call_same _ _ (λ q. elim (is_call q id) as (λ b. is_call q id ≡ b → get n q ≡ get (set_row m id (get n id)) q) [
    | true ↦ λ e. let is : q ≡ id = (calls_are q id).0 e in ap (get n) is ∙ sym (get-set_row m id (get n id)) ∙ ap (get (set_row m id (get n id))) (sym is)
    | false ↦ λ e. same q e ∙ sym (set_row-others m id (get n id) q e)
  ] refl)

  pub is_set_back : m ≡ set_row n id (get m id)
  is_set_back = same_map call_total call_same _ _ (λ q. elim (is_call q id) as (λ b. is_call q id ≡ b → get m q ≡ get (set_row n id (get m id)) q) [
    | true ↦ λ e. let is : q ≡ id = (calls_are q id).0 e in ap (get m) is ∙ sym (get-set_row n id (get m id)) ∙ ap (get (set_row n id (get m id))) (sym is)
    | false ↦ λ e. sym (same q e) ∙ sym (set_row-others n id (get m id) q e)
  ] refl)

  -- where the first has a row of the call
  split_old : (v : R) → get m id ≡ Some v → MapSplit m n id
  split_old v e =
      let a = around-get call_total call_same m id v e in
      record {
        front = a.front;
        back = a.back;
        old = a.is ∙ ap (λ o. a.front ++ (entry_of id o ++ a.back)) (sym e);
        new = ap entries is_set ∙ after_set (get n id);
        before = a.before;
        after = a.after;
      } where
        after_set : (o : Option R) → let a = around-get call_total call_same m id v e in entries (set_row m id o) ≡ a.front ++ (entry_of id o ++ a.back)
        after_set None = entries-removed call_total call_same m id v (around-get call_total call_same m id v e)
        after_set (Some w) = entries-insert call_total call_same m id v w (around-get call_total call_same m id v e)

  -- where the second has one
  split_new : (w : R) → get m id ≡ None → get n id ≡ Some w → MapSplit m n id
  split_new w none e =
      let a = around-get call_total call_same n id w e in
      record {
        front = a.front;
        back = a.back;
        old = ap entries (is_set_back ∙ ap (set_row n id) none) ∙ entries-removed call_total call_same n id w a
            ∙ ap (λ o. a.front ++ (entry_of id o ++ a.back)) (sym none);
        new = a.is ∙ ap (λ o. a.front ++ (entry_of id o ++ a.back)) (sym e);
        before = a.before;
        after = a.after;
      }

  -- where neither has
  split_none : get m id ≡ None → get n id ≡ None → MapSplit m n id
  split_none none gone =
      let back = append-nil (entries m) in
      let one : n ≡ m = is_set ∙ ap (set_row m id) (gone ∙ sym none) ∙ sym (set_same m) in
      record {
        front = entries m;
        back = [];
        old = sym (ap (λ o. entries m ++ (entry_of id o ++ [])) none ∙ back);
        new = ap entries one ∙ sym (ap (λ o. entries m ++ (entry_of id o ++ [])) gone ∙ back);
        before = absent-get call_total call_same m id none;
        after = tt;
      } where
        set_same : (m : RowsOf R) → m ≡ set_row m id (get m id)
        set_same m = same_map call_total call_same _ _ (λ q. elim (is_call q id) as (λ b. is_call q id ≡ b → get m q ≡ get (set_row m id (get m id)) q) [
          | true ↦ λ e. let is : q ≡ id =
              (calls_are q id).0 e in ap (get m) is ∙ sym (get-set_row m id (get m id)) ∙ ap (get (set_row m id (get m id))) (sym is)
          | false ↦ λ e. sym (set_row-others m id (get m id) q e)
        ] refl)

  pub map_split : MapSplit m n id
  map_split = by_rows (get m id) (get n id) refl refl where
    by_rows : (v w : Option R) → get m id ≡ v → get n id ≡ w → MapSplit m n id
    by_rows (Some v) w e f = split_old v e
    by_rows None (Some w) e f = split_new w e f
    by_rows None None e f = split_none e f

-- two maps without a difference are one
pub no_change : {R : Type 0} (m n : RowsOf R) → ((q : CallId) → get n q ≡ get m q) → n ≡ m
no_change m n same = same_map call_total call_same n m same

-- ---- things of rows

-- what kind of things rows have, each at most one: whose they are, their orders, and which a row has
pub record ThingsOf (X : Type 0) : Type 0 where
  pub place : X → Place
  pub order : X → ℕ
  pub of_client : ClientRow → Option ℕ
  pub of_server : ServerRow → Option ℕ
  pub client_at : CallId → Option ClientRow → List X
  pub server_at : CallId → Option ServerRow → List X
  pub no_client : (id : CallId) → client_at id None ≡ []
  pub no_server : (id : CallId) → server_at id None ≡ []
  pub one_client : (id : CallId) (r : ClientRow) → IsOne place order (OfClient id) (of_client r) (client_at id (Some r))
  pub one_server : (id : CallId) (r : ServerRow) → IsOne place order (OfServer id) (of_server r) (server_at id (Some r))

module _ {X : Type 0} (t : ThingsOf X) where
  abbrev pub of_clients : CallId × ClientRow → List X
  of_clients e = t.client_at e.0 (Some e.1)

  abbrev pub of_servers : CallId × ServerRow → List X
  of_servers e = t.server_at e.0 (Some e.1)

  -- the things of all rows of a host
  abbrev pub all_of : Host → List X
  all_of h = flat_map of_clients (entries h.clients) ++ flat_map of_servers (entries h.servers)

  -- those of the row at a place, at most one
  abbrev pub at : Host → Place → List X
  at h (OfClient id) = t.client_at id (get h.clients id)
  at h (OfServer id) = t.server_at id (get h.servers id)

  -- the things of two hosts that differ in one row alone
  pub record Split (p : Place) (g h : Host) : Type 0 where
    pub front : List X
    pub back : List X
    pub old : all_of g ≡ front ++ (at g p ++ back)
    pub new : all_of h ≡ front ++ (at h p ++ back)
    pub before : AllByRecursion (λ x. p ≡ t.place x → ⊥) front
    pub after : AllByRecursion (λ x. p ≡ t.place x → ⊥) back

  flat_client : (id : CallId) (o : Option ClientRow) → flat_map of_clients (entry_of id o) ≡ t.client_at id o
  flat_client id None = sym (t.no_client id)
  flat_client id (Some r) = append-nil (t.client_at id (Some r))

  flat_server : (id : CallId) (o : Option ServerRow) → flat_map of_servers (entry_of id o) ≡ t.server_at id o
  flat_server id None = sym (t.no_server id)
  flat_server id (Some r) = append-nil (t.server_at id (Some r))

  -- three parts of a list, each made anew
  three : {E : Type 0} (f : E → List X) (front one back : List E) (x : List X) → flat_map f one ≡ x
      → flat_map f (front ++ (one ++ back)) ≡ flat_map f front ++ (x ++ flat_map f back)
  three f front one back x e =
      flat_map-append f front (one ++ back) ∙ ap (λ ys. flat_map f front ++ ys) (flat_map-append f one back ∙ ap (λ ys. ys ++ flat_map f back) e)

  split_client : (id : CallId) (g h : Host) → ((q : CallId) → is_call q id ≡ false → get h.clients q ≡ get g.clients q)
      → ((q : CallId) → get h.servers q ≡ get g.servers q) → Split (OfClient id) g h
  split_client id g h clients servers =
      let s = map_split g.clients h.clients id clients in
      let rest = flat_map of_servers (entries g.servers) in
      let same = ap (λ m. flat_map of_servers (entries m)) (no_change g.servers h.servers servers) in
      let regroup = λ (x : List X). append_assoc (flat_map of_clients s.front) (x ++ flat_map of_clients s.back) rest
      ∙ ap (λ ys. flat_map of_clients s.front ++ ys) (append_assoc x (flat_map of_clients s.back) rest) in
      record {
        front = flat_map of_clients s.front;
        back = flat_map of_clients s.back ++ rest;
        old = ap (λ ys. ys ++ rest)
            (ap (flat_map of_clients) s.old ∙ three of_clients s.front (entry_of id (get g.clients id)) s.back _ (flat_client id (get g.clients id)))
            ∙ regroup (t.client_at id (get g.clients id));
        new = ap (λ ys. flat_map of_clients (entries h.clients) ++ ys) same
            ∙ ap (λ ys. ys ++ rest)
            (ap (flat_map of_clients) s.new ∙ three of_clients s.front (entry_of id (get h.clients id)) s.back _
            (flat_client id (get h.clients id))) ∙ regroup (t.client_at id (get h.clients id));
        before = things-others OfClient client_inject t.place t.order t.of_client of_clients (λ e. t.one_client e.0 e.1) id s.front s.before;
        after = all-append (λ x. OfClient id ≡ t.place x → ⊥) (flat_map of_clients s.back) rest
            (things-others OfClient client_inject t.place t.order t.of_client of_clients (λ e. t.one_client e.0 e.1) id s.back s.after)
            (all_weaker _ (λ x. OfClient id ≡ t.place x → ⊥) (λ x a e. two_sides id a.0 (e ∙ a.1)) rest
            (things-side OfServer server_inject t.place t.order t.of_server of_servers (λ e. t.one_server e.0 e.1) (entries g.servers)));
      }

  split_server : (id : CallId) (g h : Host) → ((q : CallId) → get h.clients q ≡ get g.clients q)
      → ((q : CallId) → is_call q id ≡ false → get h.servers q ≡ get g.servers q) → Split (OfServer id) g h
  split_server id g h clients servers =
      let s = map_split g.servers h.servers id servers in
      let first = flat_map of_clients (entries g.clients) in
      let same = ap (λ m. flat_map of_clients (entries m)) (no_change g.clients h.clients clients) in
      record {
        front = first ++ flat_map of_servers s.front;
        back = flat_map of_servers s.back;
        old = ap (λ ys. first ++ ys)
            (ap (flat_map of_servers) s.old ∙ three of_servers s.front (entry_of id (get g.servers id)) s.back _ (flat_server id (get g.servers id)))
            ∙ sym (append_assoc first (flat_map of_servers s.front) _);
        new = ap (λ ys. ys ++ flat_map of_servers (entries h.servers)) same
            ∙ ap (λ ys. first ++ ys)
            (ap (flat_map of_servers) s.new ∙ three of_servers s.front (entry_of id (get h.servers id)) s.back _
            (flat_server id (get h.servers id))) ∙ sym (append_assoc first (flat_map of_servers s.front) _);
        before = all-append (λ x. OfServer id ≡ t.place x → ⊥) first (flat_map of_servers s.front)
            (all_weaker _ (λ x. OfServer id ≡ t.place x → ⊥) (λ x a e. two_sides a.0 id (sym a.1 ∙ sym e)) first
            (things-side OfClient client_inject t.place t.order t.of_client of_clients (λ e. t.one_client e.0 e.1) (entries g.clients)))
            (things-others OfServer server_inject t.place t.order t.of_server of_servers (λ e. t.one_server e.0 e.1) id s.front s.before);
        after = things-others OfServer server_inject t.place t.order t.of_server of_servers (λ e. t.one_server e.0 e.1) id s.back s.after;
      }

  pub split : (p : Place) (g h : Host) → ((q : CallId) → is_at_client p q ≡ false → get h.clients q ≡ get g.clients q)
      → ((q : CallId) → is_at_server p q ≡ false → get h.servers q ≡ get g.servers q) → Split p g h
  split (OfClient id) g h clients servers = split_client id g h clients (λ q. servers q refl)
  split (OfServer id) g h clients servers = split_server id g h (λ q. clients q refl) servers
