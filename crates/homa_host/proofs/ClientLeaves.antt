-- The next piece of a client's request goes out.
use Rattle.std.proofs.Common.{◌≡◌, ◌≤◌, ℕ, ◌+◌, ◌-◌, inl, inr, true, false, ◌&&◌, ◌||◌, Option, Some, IsSome, List, [], length, refl, sym, ap, subst, ◌∙◌}
use Rattle.std.specs.Prelude.{nat_lt, nat_le}
use Rattle.std.specs.List.{Contains}
use Rattle.std.specs.Option.{option_map}
use Rattle.std.proofs.lemmas.Bool.{cond_both}
use Rattle.plain_sets.specs.Maps.{get, insert}
use Rattle.plain_sets.specs.Ordered.{ordered, first_of}
use Rattle.plain_sets.specs.Ranges.{range}
use Rattle.homa_plain.specs.declared.id.CallId.{CallId}
use Rattle.homa_plain.specs.declared.row.Emitted.{Emitted}
use Rattle.homa_plain.specs.declared.row.Emitted.TheVariants.{Sent, Short, Rests}
use Rattle.homa_plain.specs.declared.settings.Settings.{Settings}
use Rattle.homa_plain.specs.Host.{Host}
use Rattle.homa_plain.specs.Outgoing.{next_range, IsSound}
use Rattle.homa_plain.specs.Rows.{ClientRow}
use Rattle.homa_plain.specs.Settings.{patience}
use Rattle.homa_plain.specs.SentNext.{Leaving, may_send_request, departures}
use Rattle.homa_plain.specs.Sending.{client_sends, while_new}
use Rattle.homa_plain.specs.Work.{Work}
use Rattle.homa_plain.specs.SentNext.{pumped_once, leaves_from, client_leaves, request_leaves}
use Rattle.homa_plain.specs.Timers.{OfClient}
use Rattle.step_laws.specs.StepLaws.{HasOwnOrders}
use Rattle.step_laws.proofs.OwnOrders.{client_leaves-own}
use Rattle.homa_in.specs.Pooled.{IsInPool}
use Rattle.host_places.specs.Placed.{StandsAt, spot_at}
use Rattle.homa_client.specs.Held.{HeldRow, seen_row}
use Rattle.homa_client.specs.AtTable.{Clients, Moved}
use Rattle.homa_client.specs.Gives.{row_emits, row_sends}
use Rattle.host_state.specs.Control as control_laws
use Rattle.host_state.specs.Control.{Control, IsAt}
use Rattle.host_view.specs.declared.outbox.SentFrame.{SentFrame}
use Rattle.host_view.specs.Seen.{ready_of, waiting}
use Rattle.homa_pacer.specs.Pace as pace
use Rattle.host_books.specs.declared.books.Books.{Books}
use Rattle.host_books.specs.Duties.{ready_in}
use Rattle.host_books.specs.Duty.{client_duty, arrival_duty, followed}
use Rattle.host_books.proofs.PumpOnce.{picked, idle_ready, sends_next, client_departs, client_rests, client_waits, client_sends_next}
use Rattle.host_books.proofs.PumpOnce.{client_short, some_next, shorter, booked_length}
use Rattle.host_laws.specs.Peers.{KnowsServer}
use Rattle.host_laws.proofs.Known.{client_sends-known}
use Rattle.homa_host.specs.declared.parts.HostParts.{HostParts}
use Rattle.homa_host.specs.Parts.{host_of, seen_of, IsKept}
use Rattle.homa_host.specs.Amid.{WasSent, WasIdle, WasShort}
use Rattle.homa_host.specs.Outcomes.{WentOnClient}
use Rattle.homa_host.specs.declared.outcome.Change.TheVariants.{Stays}
use Rattle.homa_host.proofs.Begun.{at-amid, amid-at, rest-amid}
use Rattle.homa_host.proofs.SlotRows.{client_row, client_standing, kept_slots}
use Rattle.homa_host.proofs.ClientKept.{own_like, host_after}
use Rattle.homa_host.specs.Outcomes.{CanFollowClient}
use Rattle.homa_host.proofs.ClientStays.{Beside, stood, knows, inside, spends, kept_spent, kept_same, amid_same, stands_after, spot_after, can_follow}
use Rattle.homa_host.proofs.ClientStays.{went_on, kept_stays}
use Rattle.homa_host.proofs.Emits.{IsView, view_of, picked_in, few_ready}

-- what the row of a request keeps
sends_request : (now seg : ℕ) (r : ClientRow) → (while_new now r).request ≡ r.request
sends_request now seg r = cond_both (nat_lt r.out.top r.out.length) (record r { heard = now; base = now; count = 0 }) r
    (λ (q : ClientRow). q.request ≡ r.request) (λ _. refl) (λ _. refl)

-- and what arrives in it
sends_arrival : (s : Settings) (now : ℕ) (r : ClientRow) → arrival_duty (client_sends s now r).part ≡ arrival_duty r.part
sends_arrival s now r = cond_both (nat_lt r.out.top r.out.length) (record r { heard = now; base = now; count = 0 }) r
    (λ (q : ClientRow). arrival_duty q.part ≡ arrival_duty r.part) (λ _. refl) (λ _. refl)

-- the row at a place, when it is to be sent next
pub record IsNext (c : HostParts) (slot : ℕ) : Type 0 where
  pub id : CallId
  pub row : HeldRow
  pub stands : StandsAt c.clients.rows id slot row
  pub sound : IsSound row.out
  pub first : option_map (λ (r : pace.Ready). r.slot) (first_of (ordered pace.ready_key c.books.pacer.ready)) ≡ Some slot

-- what was emitted from it, and the table afterwards
pub record HasEmitted (c : HostParts) (slot : ℕ) (n : IsNext c slot) (clients : Clients) (e : Emitted) : Type 0 where
  pub view : IsView (may_send_request c.control.settings c.control.last (seen_row c.pool n.row)) (next_range n.row.out c.control.settings.seg)
      c.books.pacer.credit e
  pub moved : Moved n.id c.clients c.pool clients c.pool (Some (row_sends c.control.settings c.control.last (seen_row c.pool n.row) e))

-- by the settings of the table, and the clock and the credit that it was told
pub emitted_at : (c : HostParts) (kept : IsKept c) (slot : ℕ) (n : IsNext c slot) (clients : Clients) (now credit : ℕ) (result e : Emitted)
    → now ≡ c.control.last → credit ≡ c.books.pacer.credit → result ≡ e
    → (IsInPool c.pool n.row.part → Moved n.id c.clients c.pool clients c.pool (Some (row_sends c.clients.settings now (seen_row c.pool n.row) result)))
    → result ≡ row_emits c.clients.settings now credit (seen_row c.pool n.row) → HasEmitted c slot n clients e
emitted_at c kept slot n clients now credit result e en ec ee moved is =
    let es = kept.one.client_settings in
    let may = may_send_request c.control.settings c.control.last (seen_row c.pool n.row) in
    let next = next_range n.row.out c.control.settings.seg in
    record {
      view = subst (IsView may next c.books.pacer.credit) (sym (λ i. row_emits (es i) (en i) (ec i) (seen_row c.pool n.row)) ∙ sym is ∙ ee)
          (view_of may next c.books.pacer.credit);
      moved = subst (λ (row : ClientRow). Moved n.id c.clients c.pool clients c.pool (Some row)) (λ i. row_sends (es i) (en i) (seen_row c.pool n.row) (ee i))
          (moved (inside c kept n.id slot n.row n.stands));
    }

module _ (c : HostParts) (kept : IsKept c) (slot : ℕ) (n : IsNext c slot) where
  abbrev row : ClientRow
  row = seen_row c.pool n.row

  is_row : get (host_of c).clients n.id ≡ Some row
  is_row = client_row c n.id slot n.row n.stands

  is_picked : (l : Leaving) × (first_of (ordered pace.ready_key c.books.pacer.ready) ≡ Some (ready_of (seen_of c) l)) × (l.place ≡ OfClient n.id)
      × Contains (waiting (host_of c)) l
  is_picked = let at = client_standing c n.id slot n.row n.stands in
      picked (seen_of c) (kept_slots c kept) (OfClient n.id) slot at.0 at.1 c.books.pacer.ready kept.booked.ready n.first

  -- where it may be sent, it is sent next
  next_here : may_send_request c.control.settings c.control.last row ≡ true → (w : Work) → w.host ≡ host_of c
      → pumped_once c.control.settings w ≡ leaves_from c.control.settings (OfClient n.id) w
  next_here may w same =
      let at = client_standing c n.id slot n.row n.stands in
      let l = is_picked in
      let is = client_waits (seen_of c) n.id row is_row l.0 l.3 l.2 in
      sends_next (seen_of c) (kept_slots c kept) (OfClient n.id) slot at.0 at.1 c.books.pacer.ready w l.0 kept.own kept.booked.ready l.1 l.2
      (subst (Contains (departures c.control.settings c.control.last (host_of c))) (sym is) (client_departs (seen_of c) n.id row is_row may)) same

  -- ---- nothing is sent

  -- it rests
  module _ (clients : Clients) (x : HasEmitted c slot n clients Rests) (pacer : pace.Pace)
      (idle : pacer ≡ record c.books.pacer { ready = pace.without slot c.books.pacer.ready }) where
    may_not : may_send_request c.control.settings c.control.last row ≡ false
    may_not = elim x.view [
      | inl rests ↦ rests
      | inr none ↦ ap (λ b. b && (nat_lt row.out.top row.out.length || nat_le c.control.last (row.heard + patience c.control.settings)))
          (some_next row.out c.control.settings.seg kept.control.valid.in_range.2.0 n.sound none)
    ]

    abbrev rested : Books
    rested = record c.books { pacer = record c.books.pacer { ready = pace.without slot c.books.pacer.ready } }

    abbrev parts : Books → HostParts
    parts books = record { control = c.control; clients = clients; servers = c.servers; pool = c.pool; books = books; order = c.order }

    pub rests_kept : IsKept (parts (record c.books { pacer = pacer }))
    rests_kept =
        let at = client_standing c n.id slot n.row n.stands in
        subst (λ (p : pace.Pace). IsKept (parts (record c.books { pacer = p }))) (sym idle)
        (kept_same c kept n.id slot n.row n.stands clients x.moved rested refl refl
        (record {
          timers = kept.room.timers;
          grants = kept.room.grants;
          hosts = kept.room.hosts;
          most = kept.room.most;
          pacer = kept.room.pacer;
          rate = kept.room.rate;
        })
        (record {
          armed = kept.booked.armed;
          entered = kept.booked.entered;
          granted = kept.booked.granted;
          ready = idle_ready (seen_of c) (kept_slots c kept) (OfClient n.id) slot at.0 at.1 c.books.pacer.ready kept.booked.ready
              (client_rests (seen_of c) n.id row is_row may_not);
        }))

    pub rests_idle : (out : List SentFrame) → WasIdle c out (parts (record c.books { pacer = pacer })) out
    rests_idle out =
        let y = picked_in c.books.pacer.ready slot n.first in
        subst (λ (p : pace.Pace). WasIdle c out (parts (record c.books { pacer = p })) out) (sym idle) (record {
          step = λ w amid. amid_same c kept n.id slot n.row n.stands clients x.moved rested refl refl w out amid;
          frames = refl;
          control = refl;
          fewer = shorter pace.ready_key (λ (x : pace.Ready). x.slot) slot c.books.pacer.ready y.0 y.1 y.2;
        })

  -- its next piece costs too much
  module _ (clients : Clients) (x : HasEmitted c slot n clients Short) where
    pub short_kept : IsKept (record { control = c.control; clients = clients; servers = c.servers; pool = c.pool; books = c.books; order = c.order })
    short_kept = kept_same c kept n.id slot n.row n.stands clients x.moved c.books refl refl kept.room kept.booked

    pub short_ends : (out : List SentFrame)
        → WasShort c out (record { control = c.control; clients = clients; servers = c.servers; pool = c.pool; books = c.books; order = c.order }) out
    short_ends out = record {
      step = λ w amid. next_here x.view.0 w (sym amid.host) ∙ client_short (seen_of c) n.id row is_row w x.view.1 (sym amid.host) x.view.2 x.view.3;
      same = λ w amid. amid_same c kept n.id slot n.row n.stands clients x.moved c.books refl refl w out amid;
    }

  -- ---- a piece is sent

  module _ (from to : ℕ) (clients : Clients) (x : HasEmitted c slot n clients (Sent from to)) where
    abbrev sent_row : ClientRow
    sent_row = client_sends c.control.settings c.control.last row

    sent_known : KnowsServer c.control.settings.hosts sent_row
    sent_known = client_sends-known c.control.settings.hosts c.control.settings c.control.last row (knows c kept n.id slot n.row n.stands)

    -- the row still stands, with its request
    pub request_there : IsSome (spot_at clients.rows slot) × (y : HeldRow) × StandsAt clients.rows n.id slot y × (y.request ≡ n.row.request)
    request_there =
        let y = stands_after c kept n.id slot n.row n.stands clients sent_row x.moved in (
          spot_after c kept n.id slot n.row n.stands clients sent_row x.moved,
          y.0,
          y.1,
          ap (λ (q : ClientRow). q.request) y.2
              ∙ sends_request c.control.last c.control.settings.seg row,
        )

    leaves_here : (w : Work) → w.host ≡ host_of c
        → leaves_from c.control.settings (OfClient n.id) w ≡ Some (request_leaves c.control.settings n.id row (range from to) w)
    leaves_here w same = client_sends_next (seen_of c) n.id row is_row w (range from to) same x.view.1 x.view.2

    abbrev paid : HostParts
    paid = record c { books = spends (to - from) c.books }

    paid_kept : IsKept paid
    paid_kept = kept_spent c (to - from) kept

    sent_own : HasOwnOrders (host_after paid paid_kept n.id slot (stood paid paid_kept n.id slot n.row n.stands) clients c.pool (Some sent_row) x.moved c.order)
    sent_own =
        let w : Work = record { host = host_of c; told = [] } in
        let v : Work = request_leaves c.control.settings n.id row (range from to) w in
        own_like v.host
        (host_after paid paid_kept n.id slot (stood paid paid_kept n.id slot n.row n.stands) clients c.pool (Some sent_row) x.moved c.order) refl
        (sym x.moved.rows) refl
        (client_leaves-own c.control.settings n.id (Some row) w v is_row
        (subst (λ (o : Option ClientRow). client_leaves c.control.settings n.id o w ≡ Some v) is_row (leaves_here w refl)) kept.own)

    -- with its bytes paid for, the books can follow
    module _ (pacer : pace.Pace) (spent : pacer ≡ record c.books.pacer { credit = c.books.pacer.credit - (to - from) }) where
      pub sent_follows : CanFollowClient clients (record c.books { pacer = pacer }) (Stays slot)
      sent_follows = can_follow paid paid_kept n.id slot n.row n.stands clients sent_row x.moved sent_own sent_known
          (record c.books { pacer = pacer }) (λ i. record c.books { pacer = spent i })

      module _ (books : Books) (went : WentOnClient clients slot (record c.books { pacer = pacer }) books) where
        followed_sent : books ≡ followed slot (client_duty c.control.settings sent_row) (spends (to - from) c.books)
        followed_sent = went_on paid paid_kept n.id slot n.row n.stands clients sent_row x.moved (record c.books { pacer = pacer }) books
            (λ i. record c.books { pacer = spent i }) (sends_arrival c.control.settings c.control.last row) went

        pub sent_kept : (control : Control) → control_laws.IsSound control → Beside c.control control
            → IsKept (record { control = control; clients = clients; servers = c.servers; pool = c.pool; books = books; order = c.order })
        sent_kept control sound beside =
            kept_stays paid paid_kept n.id slot n.row n.stands clients sent_row x.moved sent_own sent_known control sound beside books followed_sent

        pub sent_step : (out : List SentFrame) (control : Control) (out' : List SentFrame)
            → ((w : Work) → IsAt w c.control out → IsAt (request_leaves c.control.settings n.id row (range from to) w) control out')
            → length out' ≡ length out + 1
            → length control.marks ≡ length c.control.marks + 1
            → WasSent c out (record { control = control; clients = clients; servers = c.servers; pool = c.pool; books = books; order = c.order }) out'
        sent_step out control out' posted frames told =
            let y = picked_in c.books.pacer.ready slot n.first in
            let e = followed_sent in
            record {
              step = λ w amid.
                  let rest = rest-amid w c out amid in (
                    request_leaves c.control.settings n.id row (range from to) w,
                    next_here x.view.0 w (sym amid.host) ∙ leaves_here w (sym amid.host),
                    amid-at (request_leaves c.control.settings n.id row (range from to) w)
                        (record { control = control; clients = clients; servers = c.servers; pool = c.pool; books = books; order = c.order }) out'
                        (posted w (at-amid w c out amid))
                        (record {
                          seq = ap (λ (t : Clients). t.seq) x.moved.kept ∙ rest.seq;
                          order = rest.order;
                          credit = ap (λ (b : Books). b.pacer.credit) e ∙ ap (λ n. n - (to - from)) rest.credit;
                          refilled = ap (λ (b : Books). b.pacer.refilled) e ∙ rest.refilled;
                          clients = x.moved.rows ∙ ap (λ (h : Host). insert h.clients n.id (client_sends c.control.settings h.last row)) amid.host;
                          servers = rest.servers;
                        }),
                  );
              frames = frames;
              told = told;
              ready =
                  let duty = client_duty c.control.settings sent_row in
                  subst (λ (b : Books). length b.pacer.ready ≤ length c.books.pacer.ready) (sym e)
                  (booked_length pace.ready_key (λ (x : pace.Ready). x.slot) slot (ready_in slot duty.waiting) c.books.pacer.ready y.0
                  (few_ready slot duty.waiting) y.1 y.2);
            }
