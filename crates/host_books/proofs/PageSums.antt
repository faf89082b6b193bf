-- The pages of a host's rows before and after a change of one row.
use Rattle.std.proofs.Common.{◌≡◌, ◌≤◌, ◌+◌, ◌-◌, ℕ, false, Option, Some, None, List, [], ◌++◌, map, refl, ap, ◌∙◌, arith}
use Rattle.std.specs.List.{sum_by}
use Rattle.std.proofs.lemmas.List.{map-append}
use Rattle.std.proofs.lemmas.List.Sums.{sum_by-append, sum_by-cons}
use Rattle.plain_sets.specs.Maps.{get, remove, values}
use Rattle.plain_sets.proofs.MapLaws.{values-list}
use Rattle.homa_plain.specs.declared.id.CallId.{CallId}
use Rattle.homa_plain.specs.declared.settings.Settings.{Settings}
use Rattle.homa_plain.specs.Calls.{is_call}
use Rattle.homa_plain.specs.Rows.{ClientRow, ServerRow, RowsOf}
use Rattle.homa_plain.specs.Host.{Host, part_pages, state_pages, free_beside}
use Rattle.homa_plain.specs.Timers.{Place, OfClient, OfServer}
use Rattle.step_laws.proofs.Others.{get-set_row, set_row-others}
use Rattle.host_view.specs.Seen.{Seen}
use Rattle.host_view.specs.Follow.{ChangesAt}
use Rattle.host_books.specs.Pages.{client_pages, server_pages, pages_at, row_pages}
use Rattle.host_books.proofs.Splits.{entry_of, map_split, no_change}

module _ {R : Type 0} (f : R → ℕ) where
  -- what one row has, or none
  abbrev pub of_row : Option R → ℕ
  of_row None = 0
  of_row (Some r) = f r

  of_entry : (id : CallId) (o : Option R) → sum_by f (map (λ (e : CallId × R). e.1) (entry_of id o)) ≡ of_row o
  of_entry id None = refl
  of_entry id (Some r) = sum_by-cons f r [] ∙ omega arith

  three : (front one back : List (CallId × R)) → let row = λ (e : CallId × R). e.1 in
      sum_by f (map row (front ++ (one ++ back))) ≡ sum_by f (map row front) + (sum_by f (map row one) + sum_by f (map row back))
  three front one back =
      let row = λ (e : CallId × R). e.1 in
      ap (sum_by f) (map-append row front (one ++ back) ∙ ap (λ l. map row front ++ l) (map-append row one back))
      ∙ sum_by-append f (map row front) (map row one ++ map row back) ∙ ap (λ n. sum_by f (map row front) + n) (sum_by-append f (map row one) (map row back))

  -- two maps that differ at one call have sums that differ by its rows
  pub sum_changed : (m n : RowsOf R) (id : CallId) → ((q : CallId) → is_call q id ≡ false → get n q ≡ get m q)
      → sum_by f (values n) + of_row (get m id) ≡ sum_by f (values m) + of_row (get n id)
  sum_changed m n id same =
      let row = λ (e : CallId × R). e.1 in
      let s = map_split m n id same in
      let old : sum_by f (values m) ≡ sum_by f (map row s.front) + (of_row (get m id) + sum_by f (map row s.back)) =
      ap (sum_by f) (values-list m ∙ ap (map row) s.old) ∙ three s.front (entry_of id (get m id)) s.back
      ∙ ap (λ k. sum_by f (map row s.front) + (k + sum_by f (map row s.back))) (of_entry id (get m id)) in
      let new : sum_by f (values n) ≡ sum_by f (map row s.front) + (of_row (get n id) + sum_by f (map row s.back)) =
      ap (sum_by f) (values-list n ∙ ap (map row) s.new) ∙ three s.front (entry_of id (get n id)) s.back
      ∙ ap (λ k. sum_by f (map row s.front) + (k + sum_by f (map row s.back))) (of_entry id (get n id)) in
      omega (arith, old, new)

  -- without a call its row's part of the sum is gone
  pub sum_removed : (m : RowsOf R) (id : CallId) → sum_by f (values (remove m id)) + of_row (get m id) ≡ sum_by f (values m)
  sum_removed m id =
      let gone : of_row (get (remove m id) id) ≡ 0 = ap of_row (get-set_row m id None) in
      omega (arith, sum_changed m (remove m id) id (set_row-others m id None), gone)

client_rows : (o : Option ClientRow) → of_row (λ (r : ClientRow). part_pages r.part) o ≡ client_pages o
client_rows None = refl
client_rows (Some r) = refl

server_rows : (o : Option ServerRow) → of_row (λ (r : ServerRow). state_pages r.state) o ≡ server_pages o
server_rows None = refl
server_rows (Some r) = refl

pub pages_changed : (place : Place) (n : ℕ) (old new : Seen) → ChangesAt place n old new
    → row_pages new.host + pages_at old.host place ≡ row_pages old.host + pages_at new.host place
pages_changed (OfClient id) n old new change =
    let same = ap (λ (m : RowsOf ServerRow). sum_by (λ (r : ServerRow). state_pages r.state) (values m))
    (no_change old.host.servers new.host.servers (λ q. change.servers q refl)) in
    omega (
      arith,
      same,
      client_rows (get old.host.clients id),
      client_rows (get new.host.clients id),
      sum_changed (λ (r : ClientRow). part_pages r.part) old.host.clients new.host.clients id change.clients,
    )
pages_changed (OfServer id) n old new change =
    let same = ap (λ (m : RowsOf ClientRow). sum_by (λ (r : ClientRow). part_pages r.part) (values m))
    (no_change old.host.clients new.host.clients (λ q. change.clients q refl)) in
    omega (
      arith,
      same,
      server_rows (get old.host.servers id),
      server_rows (get new.host.servers id),
      sum_changed (λ (r : ServerRow). state_pages r.state) old.host.servers new.host.servers id change.servers,
    )

pub pages_free : (s : Settings) (h : Host) (id : CallId) → row_pages h ≤ s.pages
    → free_beside s h id ≡ (s.pages - row_pages h) + (client_pages (get h.clients id) + server_pages (get h.servers id))
pages_free s h id le =
    omega (
      arith,
      sum_removed (λ (r : ClientRow). part_pages r.part) h.clients id,
      sum_removed (λ (r : ServerRow). state_pages r.state) h.servers id,
      client_rows (get h.clients id),
      server_rows (get h.servers id),
    )
