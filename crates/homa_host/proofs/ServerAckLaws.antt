-- What an ACK did at a server, as the parts have it.
use Rattle.std.proofs.Common.{◌≡◌, ◌≤◌, ◌<◌, ◌+◌, ℕ, inl, refl, sym, ap, subst, ◌∙◌, arith, Option, Some, None, IfSome, IfNone, IsSome, List, []}
use Rattle.std.specs.Option.{option_map, unwrap_or}
use Rattle.plain_sets.specs.Maps.{get, len}
use Rattle.homa_plain.specs.declared.id.CallId.{CallId}
use Rattle.homa_plain.specs.declared.id.HostId.{HostId}
use Rattle.homa_plain.specs.declared.settings.Settings.{Settings}
use Rattle.homa_plain.specs.Host.{Host, free_beside}
use Rattle.homa_plain.specs.Rows.{ServerRow, State, Receiving, Held, Replying, Buried, set_row}
use Rattle.homa_plain.specs.Rules.{Moment, Did}
use Rattle.homa_plain.specs.Tombstones.{server_acked, state_acked}
use Rattle.homa_plain.specs.Work.{Work}
use Rattle.homa_plain.specs.Steps.{moment, served}
use Rattle.step_laws.specs.StepLaws.{HasOwnOrders}
use Rattle.step_laws.proofs.Orders.{server_acked-kept}
use Rattle.step_laws.proofs.OwnOrders.{Own, served-own}
use Rattle.step_laws.proofs.ToldBy.{served-carried, served-clients, served-servers}
use Rattle.msg_pool.specs.Pool.{Pool, free_pages}
use Rattle.host_places.specs.Placed.{Placed, StandsAt, ArePlaced, spot_at}
use Rattle.host_places.proofs.MappedLaws.{get-mapped}
use Rattle.host_places.proofs.PlacedLaws.{get-insert_else, get-remove_else}
use Rattle.homa_in.specs.Pieces.{moment_with}
use Rattle.homa_in.specs.Pooled.{AreIn, pages_of}
use Rattle.host_view.specs.Marks.{response_of, response_in}
use Rattle.host_view.specs.declared.outbox.SentFrame.{SentFrame}
use Rattle.host_state.specs.Control.{Control, IsSound, IsAt}
use Rattle.host_books.specs.declared.books.Books.{Books}
use Rattle.host_books.specs.Duties.{HaveRoom}
use Rattle.homa_server.specs.Held.{HeldServer, seen_server}
use Rattle.homa_server.specs.Answers.{acked_of}
use Rattle.homa_server.specs.Table.{Servers, ServerMoved, seen_servers, server_at, slot_at, request_at, server_moment}
use Rattle.host_books.specs.Duty.{server_duty_in, followed}
use Rattle.host_laws.specs.Peers.{KnowsClient, KnowsSender}
use Rattle.host_laws.proofs.Known.{server_acked-known}
use Rattle.homa_host.specs.Parts.{host_of, IsKept}
use Rattle.homa_host.specs.Amid.{Amid}
use Rattle.homa_host.specs.Outcomes.{IfStays, IfChanged}
use Rattle.homa_host.specs.ServerFollow.{acked_change, MayStayServer, FollowedServer}
use Rattle.homa_host.specs.declared.outcome.Change.{Change}
use Rattle.homa_host.specs.declared.outcome.Change.TheVariants.{Stays}
use Rattle.homa_host.specs.declared.parts.HostParts.{HostParts}
use Rattle.homa_host.proofs.AskedLaws.{silent, served-aside, amid_of}
use Rattle.homa_host.proofs.Begun.{GoesOn, kept-control}
use Rattle.homa_host.proofs.ServerKept.{server_parts, host_after, served_orders, served_kept}
use Rattle.homa_host.specs.ServerFollow.{CanFollowServer}
use Rattle.homa_host.proofs.ServerFollows.{IsServerChange, follow_within, follow_stands, follow_may, follow_books}
use Rattle.homa_host.proofs.ServerActLaws.{at_slot, row_get, not_own, slot_low, stays_at, placed_in, moment_of, known_row, few_places}

-- what the free pages and the rows are is nothing to an ACK
acked_like : (s : Settings) (h : HostId) (now order f g f' g' : ℕ) (id : CallId) (o : Option ServerRow)
    → server_acked s (moment_with h now order f g) id o ≡ server_acked s (moment_with h now order f' g') id o
unfolding server_acked
acked_like s h now order f g f' g' id None = refl
acked_like s h now order f g f' g' id (Some row) = by_state row.state where
  by_state : (state : State) → state_acked s (moment_with h now order f g) id row state ≡ state_acked s (moment_with h now order f' g') id row state
  by_state (Receiving service part base count) = refl
  by_state (Held response release) = refl
  by_state (Replying response out order base count) = refl
  by_state (Buried until) = refl

of_like : (h : HostId) (now order f g f' g' : ℕ) (id : CallId) (row : Option ServerRow) (u : Option ℕ)
    → acked_of (moment_with h now order f g) id row u ≡ acked_of (moment_with h now order f' g') id row u
of_like h now order f g f' g' id row None = refl
of_like h now order f g f' g' id row (Some until) = refl

-- a call that is buried has a row
acked_there : (s : Settings) (m : Moment) (id : CallId) (o row : Option ServerRow) (until : ℕ)
    → server_acked s m id o ≡ acked_of m id row (Some until) → IsSome o
unfolding server_acked
acked_there s m id None row until e = let said : [] ≡ _ = ap (λ (d : Did ServerRow). d.says) e in cc
acked_there s m id (Some r) row until e = refl

of_row : (m : Moment) (id : CallId) (row : Option ServerRow) (u : Option ℕ) → (acked_of m id row u).row ≡ row
of_row m id row None = refl
of_row m id row (Some until) = refl

of_order : (m : Moment) (id : CallId) (row : Option ServerRow) (u : Option ℕ) → (acked_of m id row u).order ≡ m.order
of_order m id row None = refl
of_order m id row (Some until) = refl

-- what the table's answer says
pub record IsAck (c : HostParts) (id : CallId) (now : ℕ) (servers : Servers) (result : Option (ℕ × ℕ)) : Type 0 where
  pub acked : (pool : Pool) (order : ℕ) → AreIn pool (request_at c.servers.rows)
      → let m = server_moment c.servers now order pool id in
      server_acked c.servers.settings m id (server_at pool c.servers.rows id) ≡ acked_of m id (server_at pool servers.rows id)
      (option_map (λ (x : ℕ × ℕ). x.1) result)
  pub same : IfNone result (servers ≡ c.servers)
  pub slot : IfSome result (λ (x : ℕ × ℕ). slot_at servers.rows id ≡ Some x.0)
  pub moved : (pool : Pool) → AreIn pool (request_at c.servers.rows) → ServerMoved id c.servers pool servers pool (server_at pool servers.rows id)
  pub placed : ArePlaced servers.settings.served servers.rows

module _ (c : HostParts) (kept : IsKept c) (id : CallId) (client : id.client.0 < c.control.settings.hosts) (call : 1 ≤ id.inc) (now : ℕ)
    (now_is : now ≡ c.control.last) (servers : Servers) where
  abbrev pub row_now : Option ServerRow
  row_now = server_at c.pool servers.rows id

  abbrev pub did_at : Work → Did ServerRow
  did_at w = server_acked c.control.settings (moment c.control.settings id w) id (get w.host.servers id)

  module _ (result : Option (ℕ × ℕ)) (is : IsAck c id now servers result) where
    moved : ServerMoved id c.servers c.pool servers c.pool row_now
    moved = is.moved c.pool (server_parts c kept.parts)

    settings_now : servers.settings ≡ c.control.settings
    settings_now = ap (λ (t : Servers). t.settings) moved.kept ∙ kept.one.server_settings

    room_now : HaveRoom servers.settings c.books
    room_now = subst (λ (s : Settings). HaveRoom s c.books) (sym settings_now) kept.room

    abbrev until : Option ℕ
    until = option_map (λ (x : ℕ × ℕ). x.1) result

    acked_on : (h : Host) → host_of c ≡ h → server_acked c.control.settings (moment_of c.control.settings id h) id (get h.servers id) ≡ acked_of
        (moment_of c.control.settings id h) id row_now until
    acked_on h e = subst (λ (h : Host). server_acked c.control.settings (moment_of c.control.settings id h) id (get h.servers id) ≡ acked_of
        (moment_of c.control.settings id h) id row_now until) e
        (let free = free_beside c.control.settings (host_of c) id in
        let rows = len (host_of c).servers in
        let f = free_pages c.pool + pages_of (request_at c.servers.rows id) in
        let g = len c.servers.rows in
        let there : server_acked c.control.settings (moment_with c.control.id c.control.last c.order f g) id (server_at c.pool c.servers.rows id)
        ≡ acked_of (moment_with c.control.id c.control.last c.order f g) id row_now until =
        subst (λ (t : ℕ × (HostId × Settings)). server_acked t.1.1 (moment_with t.1.0 t.0 c.order f g) id
        (server_at c.pool c.servers.rows id) ≡ acked_of (moment_with t.1.0 t.0 c.order f g) id row_now until)
        (λ i. (now_is i, (kept.one.server i, kept.one.server_settings i))) (is.acked c.pool c.order (server_parts c kept.parts)) in
        ap (server_acked c.control.settings (moment_with c.control.id c.control.last c.order free rows) id)
        (get-mapped (λ (x : Placed HeldServer). seen_server c.pool x.row) c.servers.rows id)
        ∙ acked_like c.control.settings c.control.id c.control.last c.order free rows f g id (server_at c.pool c.servers.rows id)
        ∙ there
        ∙ of_like c.control.id c.control.last c.order f g free rows id row_now until)

    pub acked_at : (w : Work) → host_of c ≡ w.host → did_at w ≡ acked_of (moment c.control.settings id w) id row_now until
    acked_at w e = acked_on w.host e

    row_at : (w : Work) → host_of c ≡ w.host → (did_at w).row ≡ row_now
    row_at w e = ap (λ (d : Did ServerRow). d.row) (acked_at w e) ∙ of_row (moment c.control.settings id w) id row_now until

    order_at : (w : Work) → host_of c ≡ w.host → (did_at w).order ≡ c.order
    order_at w e =
        ap (λ (d : Did ServerRow). d.order) (acked_at w e) ∙ of_order (moment c.control.settings id w) id row_now until ∙ ap (λ (h : Host). h.order) (sym e)

    acked_known : IfSome row_now (KnowsClient c.control.settings.hosts id)
    acked_known = subst (λ (o : Option ServerRow). IfSome o (KnowsClient c.control.settings.hosts id)) (row_at (silent c) refl)
        (known_row c.control.settings.hosts id client call (did_at (silent c)).row
        (server_acked-known c.control.settings.hosts c.control.settings (moment c.control.settings id (silent c)) id (get (host_of c).servers id)
        (old_known (get (host_of c).servers id) refl))) where
          old_known : (o : Option ServerRow) → get (host_of c).servers id ≡ o → IfSome o (λ row. KnowsSender c.control.settings.hosts row.state)
          old_known None e = tt
          old_known (Some row) e = (kept.known.servers id row e).sender

    acked_own : Own (served c.control.settings id (did_at (silent c)) (silent c))
    acked_own = served-own c.control.settings id (did_at (silent c)) (silent c)
        (server_acked-kept c.control.settings (moment c.control.settings id (silent c)) id (get (host_of c).servers id)) kept.own

    -- the responses of other calls stay
    pub acked_others : (h : Host) → h.servers ≡ seen_servers c.pool servers.rows → (q : CallId) → (q ≡ id → ⊥) → response_of h q ≡ response_of (host_of c) q
    acked_others h e q ne = ap (λ rows. unwrap_or (option_map (λ (r : ServerRow). response_in r.state) (get rows q)) []) (e ∙ moved.rows)
        ∙ ap (λ o. unwrap_or (option_map (λ (r : ServerRow). response_in r.state) o) []) (by_row row_now) where
          by_row : (o : Option ServerRow) → get (set_row (host_of c).servers id o) q ≡ get (host_of c).servers q
          by_row None = get-remove_else (host_of c).servers id q ne
          by_row (Some r) = get-insert_else (host_of c).servers id r q ne

  -- where it is buried, it stood there
  module _ (x : ℕ × ℕ) (is : IsAck c id now servers (Some x)) where
    stood_in : (o : Option (Placed HeldServer)) → get c.servers.rows id ≡ o
        → IsSome (option_map (λ (y : Placed HeldServer). seen_server c.pool y.row) o) → (r : HeldServer) × StandsAt c.servers.rows id x.0 r
    stood_in None e h = cc
    stood_in (Some y) e h = (y.row, e ∙ ap (λ (n : ℕ). Some (record { place = n; row = y.row })) (placed_at (get servers.rows id) refl)) where
      placed_at : (o : Option (Placed HeldServer)) → get servers.rows id ≡ o → y.place ≡ x.0
      placed_at None f = let a : None ≡ Some x.0 = ap (option_map (λ (z : Placed HeldServer). z.place)) (sym f) ∙ is.slot in cc
      placed_at (Some z) f = sym ((moved (Some x) is).changed.place y z e f) ∙ same_place where
        same_place : z.place ≡ x.0
        same_place = let a : Some z.place ≡ Some x.0 = ap (option_map (λ (z : Placed HeldServer). z.place)) (sym f) ∙ is.slot in cc

    stood_there : (r : HeldServer) × StandsAt c.servers.rows id x.0 r
    stood_there = stood_in (get c.servers.rows id) refl
        (acked_there c.servers.settings (server_moment c.servers now c.order c.pool id) id (server_at c.pool c.servers.rows id) row_now x.1
        (is.acked c.pool c.order (server_parts c kept.parts)))

    before : (y : Placed HeldServer) → get c.servers.rows id ≡ Some y → y.place ≡ x.0
    before = at_slot c kept x.0 id stood_there.0 stood_there.1

    after : (y : Placed HeldServer) → get servers.rows id ≡ Some y → y.place ≡ x.0
    after = stays_at c kept x.0 id stood_there.0 stood_there.1 servers c.pool row_now (moved (Some x) is)

    placed : ArePlaced c.control.settings.served servers.rows
    placed = placed_in c kept id servers c.pool row_now (moved (Some x) is) is.placed

    changed_at : IsServerChange (Stays x.0) x.0 row_now
    changed_at = (refl, row_stands (get servers.rows id) refl) where
      row_stands : (o : Option (Placed HeldServer)) → get servers.rows id ≡ o → IsSome (option_map (λ (y : Placed HeldServer). seen_server c.pool y.row) o)
      row_stands None f = let a : None ≡ Some x.0 = ap (option_map (λ (z : Placed HeldServer). z.place)) (sym f) ∙ is.slot in cc
      row_stands (Some z) f = refl

    abbrev did : Did ServerRow
    did = did_at (silent c)

    row_is : did.row ≡ row_now
    row_is = row_at (Some x) is (silent c) refl

    orders_at : HasOwnOrders (host_after c kept id x.0 servers c.pool row_now (moved (Some x) is) before after placed did.order)
    orders_at = served_orders c kept id x.0 servers c.pool row_now (moved (Some x) is) before after placed did row_is c.control (acked_own (Some x) is)

    may_stay : MayStayServer servers c.control.settings.calls c.books x.0
    may_stay = follow_may c kept id x.0 servers c.pool row_now (moved (Some x) is) before after placed did.order
        (inl (seen_server c.pool stood_there.0, row_get c kept x.0 id stood_there.0 stood_there.1)) orders_at (acked_known (Some x) is) (Stays x.0) changed_at

    stays_there : IsSome (spot_at servers.rows x.0)
    stays_there = follow_stands c kept id x.0 servers c.pool row_now (moved (Some x) is) before after placed (Stays x.0) changed_at

    low_there : x.0 < servers.settings.served
    low_there = follow_within c kept id x.0 servers c.pool row_now (moved (Some x) is) before after placed (Stays x.0)
        (slot_low c kept x.0 id stood_there.0 stood_there.1) changed_at

    books_there : (books : Books) → FollowedServer servers c.control.settings.calls (Stays x.0) c.books books
        → books ≡ followed (c.control.settings.calls + x.0) (server_duty_in c.control.settings row_now) c.books
    books_there books f = follow_books c kept id x.0 servers c.pool row_now (moved (Some x) is) before after placed (Stays x.0) books changed_at f

    kept_there : (books : Books) (control : Control) → FollowedServer servers c.control.settings.calls (Stays x.0) c.books books → IsSound control
        → control ≡ record c.control { tuning = control.tuning; marks = control.marks }
        → control.tuning.opened ≡ c.control.tuning.opened
        → IsKept (record { control = control; clients = c.clients; servers = servers; pool = c.pool; books = books; order = c.order })
    kept_there books control f sound same opened =
        let e = books_there books f in
        let order : did.order ≡ c.order = order_at (Some x) is (silent c) refl in
        let low = kept.opened in
        let all = served_kept c kept id x.0 servers c.pool row_now (moved (Some x) is) before after placed did row_is control
        (inl (seen_server c.pool stood_there.0, row_get c kept x.0 id stood_there.0 stood_there.1)) sound same (omega (arith, order, low, opened))
        (subst (λ (o : Option ServerRow). IfSome o (KnowsClient c.control.settings.hosts id)) (sym row_is) (acked_known (Some x) is))
        (not_own c kept x.0 id stood_there.0 stood_there.1) (acked_own (Some x) is) in
        subst (λ (p : HostParts). IsKept p)
        (λ i. record { control = control; clients = c.clients; servers = servers; pool = c.pool; books = (sym e) i; order = order i }) all

  -- ---- both ways

  acked_stands : (result : Option (ℕ × ℕ)) → IsAck c id now servers result → IfStays (acked_change result) (λ n. IsSome (spot_at servers.rows n))
  acked_stands None is = tt
  acked_stands (Some x) is = stays_there x is

  acked_within : (result : Option (ℕ × ℕ)) → IsAck c id now servers result → IfChanged (acked_change result) (λ n. n < servers.settings.served)
  acked_within None is = tt
  acked_within (Some x) is = low_there x is

  acked_may : (result : Option (ℕ × ℕ)) → IsAck c id now servers result → IfStays (acked_change result) (MayStayServer servers c.control.settings.calls c.books)
  acked_may None is = tt
  acked_may (Some x) is = may_stay x is

  -- the books can follow, and what they follow
  module _ (result : Option (ℕ × ℕ)) (is : IsAck c id now servers result) (calls : ℕ) (change : Change) (calls_are : calls ≡ c.control.settings.calls)
      (change_is : change ≡ acked_change result) where
    pub acked_follows : CanFollowServer servers calls c.books change
    acked_follows = subst (λ (y : ℕ × Change). CanFollowServer servers y.0 c.books y.1) (λ i. (sym calls_are i, sym change_is i)) (record {
      stands = acked_stands result is;
      may = acked_may result is;
      room = room_now result is;
      calls = ap (λ (s : Settings). s.calls) (sym (settings_now result is));
      within = acked_within result is;
      small = few_places c kept c.control.settings servers.settings refl (settings_now result is);
    })

    pub acked_followed : (books : Books) → FollowedServer servers calls change c.books books
        → FollowedServer servers c.control.settings.calls (acked_change result) c.books books
    acked_followed books f = subst (λ (y : ℕ × Change). FollowedServer servers y.0 y.1 c.books books) (λ i. (calls_are i, change_is i)) f

  pub acked_kept : (result : Option (ℕ × ℕ)) → IsAck c id now servers result → (books : Books) (control : Control)
      → FollowedServer servers c.control.settings.calls (acked_change result) c.books books → IsSound control
      → control ≡ record c.control { tuning = control.tuning; marks = control.marks } → control.tuning.opened ≡ c.control.tuning.opened
      → IsKept (record { control = control; clients = c.clients; servers = servers; pool = c.pool; books = books; order = c.order })
  acked_kept None is books control f sound same opened =
      let on : GoesOn c.control control = record {
        settings = ap (λ (x : Control). x.settings) same;
        id = ap (λ (x : Control). x.id) same;
        inc = ap (λ (x : Control). x.inc) same;
        last = at_least (ap (λ (x : Control). x.last) same);
        opened = opened;
      } in
      subst (λ (p : HostParts). IsKept p)
      (λ i. record { control = control; clients = c.clients; servers = (sym is.same) i; pool = c.pool; books = (sym f) i; order = c.order })
      (kept-control c control on sound kept) where
        at_least : control.last ≡ c.control.last → c.control.last ≤ control.last
        at_least e = omega (arith, e)
  acked_kept (Some x) is books control f sound same opened = kept_there x is books control f sound same opened

  acked_credit : (result : Option (ℕ × ℕ)) → IsAck c id now servers result → (books : Books)
      → FollowedServer servers c.control.settings.calls (acked_change result) c.books books
      → (books.pacer.credit ≡ c.books.pacer.credit) × (books.pacer.refilled ≡ c.books.pacer.refilled)
  acked_credit None is books f = (ap (λ (b : Books). b.pacer.credit) f, ap (λ (b : Books). b.pacer.refilled) f)
  acked_credit (Some x) is books f = let e = books_there x is books f in (ap (λ (b : Books). b.pacer.credit) e, ap (λ (b : Books). b.pacer.refilled) e)

  pub acked_amid : (result : Option (ℕ × ℕ)) → IsAck c id now servers result → (books : Books) (control : Control)
      → FollowedServer servers c.control.settings.calls (acked_change result) c.books books
      → (w : Work) (before frames : List SentFrame) → Amid w c before → IsAt (served c.control.settings id (did_at w) w) control frames
      → Amid (served c.control.settings id (did_at w) w)
      (record { control = control; clients = c.clients; servers = servers; pool = c.pool; books = books; order = c.order }) frames
  acked_amid result is books control f w before frames amid at =
      let s = c.control.settings in
      let did : Did ServerRow = did_at w in
      let v : Work = served s id did w in
      let aside = served-aside s id did w in
      let credit = acked_credit result is books f in
      amid_of v (record { control = control; clients = c.clients; servers = servers; pool = c.pool; books = books; order = c.order }) frames at
      (ap (λ (h : Host). h.seq) amid.host ∙ sym aside.seq)
      (sym (order_at result is w amid.host) ∙ sym (served-carried s id did w).order)
      (credit.0 ∙ ap (λ (h : Host). h.credit) amid.host ∙ sym aside.credit)
      (credit.1 ∙ ap (λ (h : Host). h.refilled) amid.host ∙ sym aside.refilled)
      (ap (λ (h : Host). h.clients) amid.host ∙ sym (served-clients s id did w))
      ((moved result is).rows ∙ ap (λ (h : Host). set_row h.servers id row_now) amid.host ∙ ap (set_row w.host.servers id)
      (sym (row_at result is w amid.host)) ∙ sym (served-servers s id did w))
