-- A host that has done nothing.
use Rattle.std.proofs.lemmas.Bool.{true≢false}
use Rattle.std.proofs.Common.{◌≡◌, ◌≤◌, ◌<◌, ℕ, ◌+◌, true, Some, None, [], refl, sym, ap, subst, ◌∙◌, arith}
use Rattle.std.specs.List.{Contains, sum_by}
use Rattle.std.specs.Option.{option_and_then}
use Rattle.plain_sets.proofs.OrderSame.{none_in}
use Rattle.plain_sets.specs.Maps.{empty, get, values, same_list}
use Rattle.plain_sets.specs.Ordered.{ordered}
use Rattle.plain_sets.proofs.MapLaws.{get-empty}
use Rattle.homa_plain.specs.declared.id.HostId.{HostId}
use Rattle.homa_plain.specs.declared.settings.Settings.{Settings}
use Rattle.homa_plain.specs.Settings.{IsValid}
use Rattle.homa_plain.specs.Calls.{call_cmp}
use Rattle.homa_plain.specs.Host.{Host, new_host, part_pages, state_pages}
use Rattle.homa_plain.specs.Rows.{ClientRow, ServerRow}
use Rattle.step_laws.specs.StepLaws.{HasOwnOrders}
use Rattle.homa_plain.specs.Timers.{Place, OfClient, OfServer}
use Rattle.step_laws.proofs.OwnOrders.{new-own}
use Rattle.msg_pool.specs.Pool.{Pool, leased_pages}
use Rattle.host_places.specs.Mapped.{mapped}
use Rattle.host_places.specs.Placed.{Placed}
use Rattle.host_places.proofs.MappedLaws.{list-mapped}
use Rattle.homa_in.specs.Pooled.{IsInPool, HasNumber}
use Rattle.homa_client.specs.Held.{HeldRow, seen_row}
use Rattle.homa_client.specs.AtTable.{Clients}
use Rattle.homa_server.specs.Held.{HeldServer, seen_server, state_part}
use Rattle.homa_server.specs.Table.{Servers}
use Rattle.host_state.specs.Control.{Control}
use Rattle.host_state.specs.Fields.{new_control}
use Rattle.host_state.proofs.Opening.{new-sound}
use Rattle.host_books.specs.declared.books.Books.{Books}
use Rattle.host_books.specs.Duties.{HaveRoom, AreBooked}
use Rattle.homa_timers.specs.Armed.{timer_key}
use Rattle.homa_grants.specs.Entries.{entry_key}
use Rattle.host_books.specs.Pages.{row_pages}
use Rattle.host_laws.specs.Peers.{KnowsPeers}
use Rattle.host_view.specs.Seen.{Seen}
use Rattle.homa_host.specs.Parts.{host_of, seen_of, part_in, IsKept}
use Rattle.homa_host.specs.declared.parts.HostParts.{HostParts}

-- the parts of a host that has done nothing
abbrev new_parts : Settings → HostId → ℕ → ℕ → Books → HostParts
new_parts s id inc last b = record {
  control = new_control s id inc last;
  clients = record { host = id; inc = inc; seq = 0; settings = s; rows = empty };
  servers = record { host = id; settings = s; rows = empty };
  pool = record { pages = s.pages; leases = empty };
  books = b;
  order = 0;
}

none_some : {A B : Type 0} (x : A) → None ≡ Some x → B
none_some x e = cc

-- no rows are seen as none
mapped-empty : {X Y : Type 0} (f : X → Y) → mapped f (empty {R = call_cmp}) ≡ empty {R = call_cmp}
unfolding empty
mapped-empty f = same_list _ _ (list-mapped f empty)

no_pages : leased_pages empty ≡ 0
unfolding leased_pages values empty
no_pages = refl

no_values : {X : Type 0} (f : X → ℕ) → sum_by f (values (empty {X = X} {R = call_cmp})) ≡ 0
unfolding values empty
no_values f = refl

no_things : {X : Type 0} (key : X → ℕ × ℕ) → ordered key [] ≡ []
unfolding ordered
no_things key = refl

module _ (s : Settings) (id : HostId) (inc last : ℕ) (b : Books) (credit : b.pacer.credit ≡ s.rate) (refilled : b.pacer.refilled ≡ 0) where
  new-is : host_of (new_parts s id inc last b) ≡ new_host s id inc last
  new-is = λ i. record {
    id = id;
    inc = inc;
    seq = 0;
    order = 0;
    credit = credit i;
    refilled = refilled i;
    last = last;
    tuning = (new_host s id inc last).tuning;
    peers = (new_host s id inc last).peers;
    finished = (new_host s id inc last).finished;
    clients = mapped-empty (λ (x : Placed HeldRow). seen_row (record { pages = s.pages; leases = empty }) x.row) i;
    servers = mapped-empty (λ (x : Placed HeldServer). seen_server (record { pages = s.pages; leases = empty }) x.row) i;
  }

  pub new-seen : seen_of (new_parts s id inc last b) ≡ record {
    settings = s;
    host = new_host s id inc last;
    client_places = empty;
    server_places = empty;
    marks = [];
  }
  new-seen = λ i. record {
    settings = s;
    host = new-is i;
    client_places = mapped-empty (λ (x : Placed HeldRow). x.place) i;
    server_places = mapped-empty (λ (x : Placed HeldServer). x.place) i;
    marks = [];
  }

  new-booked : b.timers.timers ≡ [] → b.grants.entries ≡ [] → b.pacer.ready ≡ [] → b.changed ≡ true
      → AreBooked (record { settings = s; host = new_host s id inc last; client_places = empty; server_places = empty; marks = [] }) b
  unfolding empty
  new-booked timers grants ready changed = record {
    armed = timers ∙ sym (no_things timer_key);
    entered = grants ∙ sym (no_things entry_key);
    ready = record { all = λ l c. absurd (none_in l c); only = λ r c. absurd (none_in r (subst (λ book. Contains book r) ready c)) };
    granted = λ same. absurd (true≢false (sym changed ∙ same));
  }

  new-known : KnowsPeers s (new_host s id inc last)
  new-known = record {
    clients = λ q r is. none_some r (sym (get-empty call_cmp q) ∙ is);
    own = λ q r is. none_some r (sym (get-empty call_cmp q) ∙ is);
    servers = λ q r is. none_some r (sym (get-empty call_cmp q) ∙ is);
  }

  no_part : (k : Place) → part_in (new_parts s id inc last b) k ≡ None
  no_part (OfClient q) = ap (option_and_then (λ (x : Placed HeldRow). x.row.part)) (get-empty call_cmp q)
  no_part (OfServer q) = ap (option_and_then (λ (x : Placed HeldServer). state_part x.row.state)) (get-empty call_cmp q)

  pub new-kept : IsValid s → id.0 < s.hosts → 1 ≤ inc → last ≤ 1000000002000 → HaveRoom s b → b.timers.timers ≡ [] → b.grants.entries ≡ []
      → b.pacer.ready ≡ [] → b.changed ≡ true → IsKept (new_parts s id inc last b)
  new-kept valid named life clock room timers grants ready changed = record {
    control = new-sound s id inc last valid named life clock;
    one = record { client = refl; life = refl; client_settings = refl; server = refl; server_settings = refl };
    own = subst HasOwnOrders (sym new-is) (new-own s id inc last);
    known = subst (KnowsPeers s) (sym new-is) new-known;
    foreign = λ q e. subst (λ (h : Host). get h.servers q ≡ None) (sym new-is) (get-empty call_cmp q);
    opened = omega arith;
    parts = record {
      within = λ k. subst (IsInPool (record { pages = s.pages; leases = empty })) (sym (no_part k)) tt;
      apart = λ j k n a c. absurd (subst (HasNumber n) (no_part j) a);
    };
    pages = refl;
    leased =
        no_pages ∙ sym (ap row_pages new-is ∙ (λ i. no_values (λ (r : ClientRow). part_pages r.part) i + no_values (λ (r : ServerRow). state_pages r.state) i));
    client_places =
        record { within = λ q x is. none_some x (sym (get-empty call_cmp q) ∙ is); apart = λ p q x y a c e. none_some x (sym (get-empty call_cmp p) ∙ a) };
    server_places =
        record { within = λ q x is. none_some x (sym (get-empty call_cmp q) ∙ is); apart = λ p q x y a c e. none_some x (sym (get-empty call_cmp p) ∙ a) };
    room = room;
    booked = subst (λ (h : Seen). AreBooked h b) (sym new-seen) (new-booked timers grants ready changed);
  }

  -- parts that are these
  pub opened-is : (control : Control) (clients : Clients) (servers : Servers) (pool : Pool) → control ≡ new_control s id inc last
      → clients ≡ record { host = id; inc = inc; seq = 0; settings = s; rows = empty } → servers ≡ record { host = id; settings = s; rows = empty }
      → pool.pages ≡ s.pages → pool.leases ≡ empty
      → new_parts s id inc last b ≡ record { control = control; clients = clients; servers = servers; pool = pool; books = b; order = 0 }
  opened-is control clients servers pool c k v p l = λ i. record {
    control = sym c i;
    clients = sym k i;
    servers = sym v i;
    pool = record { pages = sym p i; leases = sym l i };
    books = b;
    order = 0;
  }
