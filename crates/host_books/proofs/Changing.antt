-- One row of a table changed, as the host and its books see it.
use Rattle.std.proofs.Common.{◌≡◌, ◌+◌, ℕ, false, Option, Some, sym, ap, subst, ◌∙◌}
use Rattle.std.specs.Option.{option_map, unwrap_or}
use Rattle.plain_sets.specs.Maps.{get}
use Rattle.homa_plain.specs.declared.id.CallId.{CallId}
use Rattle.homa_plain.specs.Calls.{is_call}
use Rattle.homa_plain.specs.Rows.{ClientRow, ServerRow, RowsOf, set_row}
use Rattle.homa_plain.specs.Timers.{OfClient, OfServer}
use Rattle.step_laws.proofs.Others.{set_row-others}
use Rattle.host_places.specs.Mapped.{mapped}
use Rattle.host_places.specs.Placed.{Placed, Changed}
use Rattle.host_places.proofs.MappedLaws.{get-mapped}
use Rattle.host_view.specs.Seen.{Seen}
use Rattle.host_view.specs.Follow.{HasSlots, ChangesAt}
use Rattle.host_books.specs.declared.books.Books.{Books}
use Rattle.host_books.specs.Duties.{AreBooked}
use Rattle.host_books.specs.SameRows.{SameRows}
use Rattle.host_books.proofs.Splits.{other_call}
use Rattle.host_books.proofs.Tables.{made_of}

-- ---- books say nothing of what stands beside the rows

pub books_stay : (g h : Seen) (b : Books) → SameRows g h → AreBooked g b → AreBooked h b
books_stay g h b same are =
    let middle = subst (λ (m : Seen). AreBooked m b) (λ i. record {
      settings = same.settings i;
      host = record g.host { last = same.last i; clients = same.clients i; servers = same.servers i };
      client_places = same.client_places i;
      server_places = same.server_places i;
      marks = g.marks;
    }) are in
    record { armed = middle.armed; entered = middle.entered; ready = record { all = middle.ready.all; only = middle.ready.only }; granted = middle.granted }

-- ---- a row of a table

module _ {R : Type 0} (rows new_rows : RowsOf (Placed R)) (id : CallId) (changed : Changed id rows new_rows) where
  abbrev places_of : RowsOf (Placed R) → RowsOf ℕ
  places_of m = mapped (λ (x : Placed R). x.place) m

  -- other calls keep their places
  places_stay : (q : CallId) → is_call q id ≡ false → get (places_of new_rows) q ≡ get (places_of rows) q
  places_stay q e =
      get-mapped (λ (x : Placed R). x.place) new_rows q ∙ ap (option_map (λ (x : Placed R). x.place)) (changed.others q (other_call q id e))
      ∙ sym (get-mapped (λ (x : Placed R). x.place) rows q)

-- the place of a row that is seen
place_seen : {R S : Type 0} (f : Placed R → S) (rows : RowsOf (Placed R)) (id : CallId) (r : S) (n : ℕ)
    → ((x : Placed R) → get rows id ≡ Some x → x.place ≡ n) → get (mapped f rows) id ≡ Some r
    → unwrap_or (get (mapped (λ (x : Placed R). x.place) rows) id) 0 ≡ n
place_seen {R} f rows id r n at e =
    let x = made_of f (get rows id) r (sym (get-mapped f rows id) ∙ e) in
    ap (λ (o : Option ℕ). unwrap_or o 0) (get-mapped (λ (y : Placed R). y.place) rows id ∙ ap (option_map (λ (y : Placed R). y.place)) x.1) ∙ at x.0 x.1

-- a client's row changed, at its place
pub client_changes : {R : Type 0} (f g : Placed R → ClientRow) (rows new_rows : RowsOf (Placed R)) (id : CallId) (row : Option ClientRow) (n : ℕ)
    (old new : Seen)
    → Changed id rows new_rows → mapped g new_rows ≡ set_row (mapped f rows) id row
    → ((x : Placed R) → get rows id ≡ Some x → x.place ≡ n) → ((x : Placed R) → get new_rows id ≡ Some x → x.place ≡ n)
    → old.host.clients ≡ mapped f rows → old.client_places ≡ mapped (λ x. x.place) rows → new.host.clients ≡ mapped g new_rows
    → new.client_places ≡ mapped (λ x. x.place) new_rows
    → new.settings ≡ old.settings → new.host.last ≡ old.host.last → new.host.servers ≡ old.host.servers → new.server_places ≡ old.server_places
    → HasSlots old → HasSlots new
    → ChangesAt (OfClient id) n old new
client_changes f g rows new_rows id row n old new changed seen was is clients places new_clients new_places settings last servers server_places before after =
    record {
      settings = settings;
      last = last;
      clients = λ q e. ap (λ m. get m q) (new_clients ∙ seen) ∙ set_row-others (mapped f rows) id row q e ∙ sym (ap (λ m. get m q) clients);
      servers = λ q e. ap (λ m. get m q) servers;
      client_places = λ q e. ap (λ m. get m q) new_places ∙ places_stay rows new_rows id changed q e ∙ sym (ap (λ m. get m q) places);
      server_places = λ q e. ap (λ m. get m q) server_places;
      before = λ r. ap (λ m. unwrap_or (get m id) 0) places ∙ place_seen f rows id r.0 n was (sym (ap (λ m. get m id) clients) ∙ r.1);
      after = λ r. ap (λ m. unwrap_or (get m id) 0) new_places ∙ place_seen g new_rows id r.0 n is (sym (ap (λ m. get m id) new_clients) ∙ r.1);
      slots_before = before;
      slots_after = after;
    }

-- a server's row changed, at its place
pub server_changes : {R : Type 0} (f g : Placed R → ServerRow) (rows new_rows : RowsOf (Placed R)) (id : CallId) (row : Option ServerRow) (n : ℕ)
    (old new : Seen)
    → Changed id rows new_rows → mapped g new_rows ≡ set_row (mapped f rows) id row
    → ((x : Placed R) → get rows id ≡ Some x → x.place ≡ n) → ((x : Placed R) → get new_rows id ≡ Some x → x.place ≡ n)
    → old.host.servers ≡ mapped f rows → old.server_places ≡ mapped (λ x. x.place) rows → new.host.servers ≡ mapped g new_rows
    → new.server_places ≡ mapped (λ x. x.place) new_rows
    → new.settings ≡ old.settings → new.host.last ≡ old.host.last → new.host.clients ≡ old.host.clients → new.client_places ≡ old.client_places
    → HasSlots old → HasSlots new
    → ChangesAt (OfServer id) (old.settings.calls + n) old new
server_changes f g rows new_rows id row n old new changed seen was is servers places new_servers new_places settings last clients client_places before after =
    record {
      settings = settings;
      last = last;
      clients = λ q e. ap (λ m. get m q) clients;
      servers = λ q e. ap (λ m. get m q) (new_servers ∙ seen) ∙ set_row-others (mapped f rows) id row q e ∙ sym (ap (λ m. get m q) servers);
      client_places = λ q e. ap (λ m. get m q) client_places;
      server_places = λ q e. ap (λ m. get m q) new_places ∙ places_stay rows new_rows id changed q e ∙ sym (ap (λ m. get m q) places);
      before =
          λ r. ap (λ k. old.settings.calls + k)
          (ap (λ m. unwrap_or (get m id) 0) places ∙ place_seen f rows id r.0 n was (sym (ap (λ m. get m id) servers) ∙ r.1));
      after = λ r. ap (λ s. s.calls + unwrap_or (get new.server_places id) 0) settings
          ∙ ap (λ k. old.settings.calls + k)
          (ap (λ m. unwrap_or (get m id) 0) new_places ∙ place_seen g new_rows id r.0 n is (sym (ap (λ m. get m id) new_servers) ∙ r.1));
      slots_before = before;
      slots_after = after;
    }
