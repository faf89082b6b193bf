-- What a client's row did whose timer was due, as the parts have it.
use Rattle.std.proofs.Common.{◌≡◌, ◌≤◌, ℕ, refl, sym, ap, subst, ◌∙◌, List, Option, Some}
use Rattle.std.specs.Option.{option_map, IfSome}
use Rattle.plain_sets.specs.Maps.{get, len}
use Rattle.homa_plain.specs.declared.id.CallId.{CallId}
use Rattle.homa_plain.specs.declared.id.HostId.{HostId}
use Rattle.homa_plain.specs.declared.settings.Settings.{Settings}
use Rattle.homa_plain.specs.Host.{Host, free_beside}
use Rattle.homa_plain.specs.Rows.{ClientRow}
use Rattle.homa_plain.specs.Rules.{Moment, Did}
use Rattle.homa_plain.specs.Timers.{OfClient, client_acts}
use Rattle.homa_plain.specs.Work.{Work}
use Rattle.homa_plain.specs.Steps.{moment, client_acted, asked}
use Rattle.step_laws.proofs.OwnOrders.{Own, acts_at-own}
use Rattle.msg_pool.specs.Pool.{Pool}
use Rattle.homa_in.specs.Pooled.{AreIn}
use Rattle.host_places.specs.Placed.{Placed, StandsAt}
use Rattle.host_places.proofs.MappedLaws.{get-mapped}
use Rattle.homa_in.specs.Pieces.{moment_with}
use Rattle.homa_client.specs.Held.{HeldRow, seen_row}
use Rattle.homa_client.specs.Gives.{IsAct}
use Rattle.homa_client.specs.AtTable.{Clients, Moved, HasActed, seen_rows, row_at, part_at, place_at}
use Rattle.homa_client.specs.declared.answers.ClientAct.{ClientAct}
use Rattle.homa_client.specs.declared.answers.ClientAct.TheVariants as act
use Rattle.host_laws.specs.Peers.{KnowsServer}
use Rattle.host_laws.proofs.Known.{client_acts-known}
use Rattle.host_state.specs.Control.{Control, IsSound, IsAt}
use Rattle.host_view.specs.declared.outbox.SentFrame.{SentFrame}
use Rattle.host_books.specs.declared.books.Books.{Books}
use Rattle.host_books.specs.Duty.{client_duty_in, followed}
use Rattle.homa_host.specs.Parts.{host_of, IsKept}
use Rattle.homa_host.specs.Amid.{Amid}
use Rattle.homa_host.specs.Outcomes.{client_act_change, FollowedClient}
use Rattle.homa_host.specs.declared.outcome.Change.{Change}
use Rattle.homa_host.specs.declared.parts.HostParts.{HostParts}
use Rattle.homa_host.proofs.AskedLaws.{silent, asked_amid, asked_kept, asked_orders}
use Rattle.homa_host.specs.Outcomes.{CanFollowClient}
use Rattle.homa_host.proofs.ClientKept.{own_call}
use Rattle.homa_host.proofs.FollowLaws.{IsChange, follow_room, follow_within, follow_stands, follow_may, follow_books}

-- the order number is as before
act_order : (s : Settings) (m : Moment) (id : CallId) (d : Did ClientRow) (a : ClientAct) → IsAct s m id d a → d.order ≡ m.order
act_order s m id d (act.Resend from to) is = ap (λ (d : Did ClientRow). d.order) is
act_order s m id d (act.Timeout q) is = ap (λ (d : Did ClientRow). d.order) is.1

act_change : (slot : ℕ) (a : ClientAct) (row : Option ClientRow) → HasActed a row → IsChange (client_act_change slot a) slot row
act_change slot (act.Resend from to) row is = (refl, is)
act_change slot (act.Timeout q) row is = (refl, is)

-- a row that stands at a place acted, and the table afterwards
pub record RowActed (c : HostParts) (slot : ℕ) (clients : Clients) (pool : Pool) (a : ClientAct) (id : CallId) (r : HeldRow) : Type 0 where
  pub stands : StandsAt c.clients.rows id slot r
  pub acted : (host : HostId) (order free rows : ℕ) → let m = moment_with host c.control.last order free rows in
      let did = client_acts c.control.settings m id (seen_row c.pool r) in
      IsAct c.control.settings m id did a × Moved id c.clients c.pool clients pool did.row
  pub left : HasActed a (row_at pool clients.rows id)
  pub inside : AreIn pool (part_at clients.rows)

-- by the settings of the table, and the clock that it was told
pub acted_by : (c : HostParts) (kept : IsKept c) (slot now : ℕ) → now ≡ c.control.last
    → (clients : Clients) (pool : Pool) (a : ClientAct) (id : CallId) (r : HeldRow) → StandsAt c.clients.rows id slot r
    → ((host : HostId) (order free rows : ℕ) → let m = moment_with host now order free rows in
    let did = client_acts c.clients.settings m id (seen_row c.pool r) in
    IsAct c.clients.settings m id did a × Moved id c.clients c.pool clients pool did.row)
    → HasActed a (row_at pool clients.rows id) → AreIn pool (part_at clients.rows) → RowActed c slot clients pool a id r
acted_by c kept slot now now_is clients pool a id r stands acted left inside = record {
  stands = stands;
  acted = λ host order free rows. subst (λ (t : ℕ × Settings). let m = moment_with host t.0 order free rows in
      let did = client_acts t.1 m id (seen_row c.pool r) in
      IsAct t.1 m id did a × Moved id c.clients c.pool clients pool did.row) (λ i. (now_is i, kept.one.client_settings i)) (acted host order free rows);
  left = left;
  inside = inside;
}

module _ (c : HostParts) (kept : IsKept c) (slot : ℕ) (clients : Clients) (pool : Pool) (a : ClientAct) (id : CallId) (r : HeldRow)
    (x : RowActed c slot clients pool a id r) where
  stood : place_at c.clients.rows id ≡ Some slot
  stood = ap (option_map (λ (x : Placed HeldRow). x.place)) x.stands

  row_get : get (seen_rows c.pool c.clients.rows) id ≡ Some (seen_row c.pool r)
  row_get =
      get-mapped (λ (x : Placed HeldRow). seen_row c.pool x.row) c.clients.rows id ∙ ap (option_map (λ (x : Placed HeldRow). seen_row c.pool x.row)) x.stands

  -- the call's server is known, and the call is the host's own
  pub row_known : KnowsServer c.control.settings.hosts (seen_row c.pool r) × (1 ≤ id.inc)
  row_known = (kept.known.clients id (seen_row c.pool r) row_get, subst (λ (n : ℕ). 1 ≤ n) (sym (own_call c kept id slot stood).1) kept.control.inc)

  abbrev pub did_at : Work → Did ClientRow
  did_at w = client_acts c.control.settings (moment c.control.settings id w) id (seen_row c.pool r)

  pub acted_at : (w : Work) → host_of c ≡ w.host → IsAct c.control.settings (moment c.control.settings id w) id (did_at w) a
      × Moved id c.clients c.pool clients pool (did_at w).row
  acted_at w e = subst (λ (now : ℕ). let m = moment_with w.host.id now w.host.order (free_beside c.control.settings w.host id) (len w.host.servers) in
      let did = client_acts c.control.settings m id (seen_row c.pool r) in
      IsAct c.control.settings m id did a × Moved id c.clients c.pool clients pool did.row) (ap (λ (h : Host). h.last) e)
      (x.acted w.host.id w.host.order (free_beside c.control.settings w.host id) (len w.host.servers))

  order_at : (w : Work) → host_of c ≡ w.host → (did_at w).order ≡ c.order
  order_at w e = act_order c.control.settings (moment c.control.settings id w) id (did_at w) a (acted_at w e).0 ∙ sym (ap (λ (h : Host). h.order) e)

  change_at : (w : Work) → host_of c ≡ w.host → IsChange (client_act_change slot a) slot (did_at w).row
  change_at w e = act_change slot a (did_at w).row (subst (λ (o : Option ClientRow). HasActed a o) ((acted_at w e).1.here) x.left)

  acts_known : IfSome (did_at (silent c)).row (KnowsServer c.control.settings.hosts)
  acts_known = client_acts-known c.control.settings.hosts c.control.settings (moment c.control.settings id (silent c)) id (seen_row c.pool r) row_known.0

  acts_own : Own (asked c.control.settings id r.server (did_at (silent c)) (silent c))
  acts_own = subst (λ (o : Option ClientRow). Own (client_acted c.control.settings id o (silent c))) row_get
      (acts_at-own c.control.settings (OfClient id) (silent c) kept.own)

  -- the books can follow
  module _ (change : Change) (change_is : change ≡ client_act_change slot a) where
    pub acted_follows : CanFollowClient clients c.books change
    acted_follows =
        let did : Did ClientRow = did_at (silent c) in
        let moved = (acted_at (silent c) refl).1 in
        let is = change_at (silent c) refl in
        let orders = asked_orders c kept id slot stood clients pool r.server did moved c.control acts_own in
        subst (CanFollowClient clients c.books) (sym change_is) (record {
          stands = follow_stands c kept id slot stood clients pool did.row moved x.inside (client_act_change slot a) is;
          may = follow_may c kept id slot stood clients pool did.row moved x.inside did.order orders acts_known (client_act_change slot a) is;
          room = follow_room c kept id slot stood clients pool did.row moved x.inside;
          within = follow_within c kept id slot stood clients pool did.row moved x.inside (client_act_change slot a) is;
        })

    -- they followed
    module _ (books : Books) (follows : FollowedClient clients change c.books books) (control : Control) where
      abbrev parts : HostParts
      parts = record { control = control; clients = clients; servers = c.servers; pool = pool; books = books; order = c.order }

      followed_acted : (w : Work) → host_of c ≡ w.host → books ≡ followed slot (client_duty_in c.control.settings (did_at w).row) c.books
      followed_acted w e = follow_books c kept id slot stood clients pool (did_at w).row (acted_at w e).1 x.inside (client_act_change slot a) books
          (change_at w e) (subst (λ (ch : Change). FollowedClient clients ch c.books books) change_is follows)

      pub acted_kept : IsSound control → control ≡ record c.control { tuning = control.tuning; finished = control.finished; marks = control.marks }
          → control.tuning.opened ≤ c.order → IsKept parts
      acted_kept sound same opened =
          let did : Did ClientRow = did_at (silent c) in
          let count = order_at (silent c) refl in
          let all = asked_kept c kept id slot stood clients pool r.server did (acted_at (silent c) refl).1 control sound same
          (subst (λ n. control.tuning.opened ≤ n) (sym count) opened) acts_known acts_own in
          subst (λ (p : HostParts). IsKept p)
          (λ i. record {
            control = control;
            clients = clients;
            servers = c.servers;
            pool = pool;
            books = (sym (followed_acted (silent c) refl)) i;
            order = count i;
          }) all

      -- the plain row acts
      pub acted_amid : (w : Work) (out out' : List SentFrame) → Amid w c out → IsAt (asked c.control.settings id r.server (did_at w) w) control out'
          → Amid (client_acted c.control.settings id (get w.host.clients id) w) parts out'
      acted_amid w out out' amid settled =
          let did : Did ClientRow = did_at w in
          let all = asked_amid c kept id slot stood clients pool r.server did (acted_at w amid.host).1 control w out out' amid settled in
          subst (λ (o : Option ClientRow). Amid (client_acted c.control.settings id o w) parts out')
          (sym (sym (ap (λ (h : Host). get h.clients id) amid.host) ∙ row_get))
          (subst (λ (p : HostParts). Amid (asked c.control.settings id r.server did w) p out')
          (λ i. record {
            control = control;
            clients = clients;
            servers = c.servers;
            pool = pool;
            books = (sym (followed_acted w amid.host)) i;
            order = order_at w amid.host i;
          }) all)
