-- What holds of the parts when a packet came to a call's client.
use Rattle.std.proofs.Common.{◌≡◌, ◌<◌, ◌≤◌, ◌+◌, ℕ, refl, sym, ap, subst, ◌∙◌, arith, List, Option, Some, None}
use Rattle.std.specs.Option.{IsSome}
use Rattle.homa_plain.specs.declared.id.CallId.{CallId}
use Rattle.homa_plain.specs.declared.id.HostId.{HostId}
use Rattle.homa_plain.specs.declared.packet.Packet.{Packet as WirePacket}
use Rattle.homa_plain.specs.declared.settings.Settings.{Settings}
use Rattle.homa_plain.specs.Rows.{ClientRow}
use Rattle.homa_plain.specs.Rules.{Did, Piece}
use Rattle.homa_plain.specs.Work.{Work}
use Rattle.homa_plain.specs.Steps.{asked}
use Rattle.msg_pool.specs.Pool.{Pool}
use Rattle.host_places.specs.Placed.{StandsAt, spot_at}
use Rattle.homa_client.specs.Held.{HeldRow, seen_row}
use Rattle.homa_client.specs.AtTable.{Clients, slot_in, row_at, version_at}
use Rattle.homa_client.specs.declared.answers.ClientDid.{ClientDid}
use Rattle.homa_server.specs.Table.{seen_servers}
use Rattle.host_state.specs.Control.{Control, IsSound, IsAt}
use Rattle.host_view.specs.declared.outbox.SentFrame.{SentFrame}
use Rattle.host_books.specs.declared.books.Books.{Books}
use Rattle.host_books.specs.Duties.{HaveRoom}
use Rattle.host_books.specs.Duty.{client_duty_in, followed}
use Rattle.homa_host.specs.Parts.{host_of, IsKept}
use Rattle.homa_host.specs.Amid.{Amid}
use Rattle.homa_host.specs.Outcomes.{client_change, client_orders, IfStays, IfChanged, IfTouched, MayStayClient, FollowedClient}
use Rattle.homa_host.specs.declared.parts.HostParts.{HostParts}
use Rattle.homa_host.specs.declared.outcome.Change.{Change}
use Rattle.homa_host.proofs.Begun.{kept-control}
use Rattle.homa_host.proofs.ClientKept.{servers_same}
use Rattle.homa_host.proofs.AskedLaws.{silent, amid_asked, asked_kept, asked_orders}
use Rattle.homa_host.specs.Outcomes.{CanFollowClient}
use Rattle.homa_host.proofs.FollowLaws.{standing, follow_within, follow_stands, follow_may, follow_books}
use Rattle.homa_host.proofs.GetsLaws.{HasReceived, got, gets, gets_order, gets_moved, gets_stood, gets_change, gets_known, gets_own, no_change}
use Rattle.homa_host.proofs.GetsLaws.{no_orders, no_touch, touched_row}

module _ (c : HostParts) (kept : IsKept c) {from : HostId} {packet : WirePacket} {payload : List ℕ} {now : ℕ} {clients : Clients} {pool : Pool}
    {told : List ℕ} {d : ClientDid} (taken : HasReceived c from packet payload now clients pool told d) where
  abbrev id : CallId
  id = record { client = c.control.id; inc = packet.inc; seq = packet.seq }

  abbrev did : Work → Did ClientRow
  did w = gets c kept taken w

  -- by whether the answer names a place
  by_slot : (P : Type 0) → (slot_in d ≡ None → P) → ((slot : ℕ) → slot_in d ≡ Some slot → P) → P
  by_slot P none some = elim (slot_in d) as (λ o. slot_in d ≡ o → P) [ None ↦ none | Some slot ↦ some slot ] refl

  gets_room : HaveRoom clients.settings c.books
  gets_room =
      subst (λ (s : Settings). HaveRoom s c.books) (sym (ap (λ (t : Clients). t.settings) (got c kept taken).moved.kept ∙ kept.one.client_settings)) kept.room

  pub gets_stands : IfStays (client_change d) (λ n. IsSome (spot_at clients.rows n))
  gets_stands = by_slot (IfStays (client_change d) (λ n. IsSome (spot_at clients.rows n)))
      (λ e. subst (λ (ch : Change). IfStays ch (λ n. IsSome (spot_at clients.rows n))) (sym (no_change d e)) tt)
      (λ slot e. follow_stands c kept id slot (gets_stood c kept taken slot e) clients pool (did (silent c)).row
      (gets_moved c kept taken (silent c) refl) taken.inside (client_change d) (gets_change c kept taken (silent c) refl slot e))

  gets_within : IfChanged (client_change d) (λ n. n < clients.settings.calls)
  gets_within = by_slot (IfChanged (client_change d) (λ n. n < clients.settings.calls))
      (λ e. subst (λ (ch : Change). IfChanged ch (λ n. n < clients.settings.calls)) (sym (no_change d e)) tt)
      (λ slot e. follow_within c kept id slot (gets_stood c kept taken slot e) clients pool (did (silent c)).row
      (gets_moved c kept taken (silent c) refl) taken.inside (client_change d) (gets_change c kept taken (silent c) refl slot e))

  gets_may : IfStays (client_change d) (MayStayClient clients c.books)
  gets_may = by_slot (IfStays (client_change d) (MayStayClient clients c.books))
      (λ e. subst (λ (ch : Change). IfStays ch (MayStayClient clients c.books)) (sym (no_change d e)) tt)
      (λ slot e.
      let stood = gets_stood c kept taken slot e in
      let moved = gets_moved c kept taken (silent c) refl in
      let orders = asked_orders c kept id slot stood clients pool from (did (silent c)) moved c.control (gets_own c kept taken) in
      follow_may c kept id slot stood clients pool (did (silent c)).row moved taken.inside (did (silent c)).order orders (gets_known c kept taken)
      (client_change d) (gets_change c kept taken (silent c) refl slot e))

  -- the books can follow
  pub gets_follows : (change : Change) → change ≡ client_change d → CanFollowClient clients c.books change
  gets_follows change e =
      subst (CanFollowClient clients c.books) (sym e) (record { stands = gets_stands; may = gets_may; room = gets_room; within = gets_within })

  -- the version in a first piece of the row that was touched
  pub gets_touched : (v : Option ℕ) (piece : Option Piece)
      → ((r : HeldRow) → IfTouched d (λ slot. StandsAt clients.rows id slot r → v ≡ version_at piece (Some (seen_row pool r))))
      → IfTouched d (λ _. v ≡ version_at piece (row_at pool clients.rows id))
  gets_touched v piece f = by_slot (IfTouched d (λ _. v ≡ version_at piece (row_at pool clients.rows id)))
      (λ e. no_touch (λ _. v ≡ version_at piece (row_at pool clients.rows id)) d e)
      (λ slot e.
      let left = (got c kept taken).left in
      let moved = (got c kept taken).moved in
      let stood = gets_stood c kept taken slot e in
      touched_row (v ≡ version_at piece (row_at pool clients.rows id))
      (λ r n. StandsAt clients.rows id n r → v ≡ version_at piece (Some (seen_row pool r))) d slot (row_at pool clients.rows id) e left f (λ is.
      let r = standing c kept id slot stood clients pool (row_at pool clients.rows id) moved taken.inside is in
      (r.0, λ h. h r.1 ∙ ap (version_at piece) (sym r.2))))

  module _ (control : Control) (books : Books) (order : ℕ) (order_is : order ≡ c.order + client_orders d) (change : Change)
      (change_is : change ≡ client_change d) (followed_by : FollowedClient clients change c.books books) where
    follows : FollowedClient clients (client_change d) c.books books
    follows = subst (λ (ch : Change). FollowedClient clients ch c.books books) change_is followed_by

    abbrev pub parts : HostParts
    parts = record { control = control; clients = clients; servers = c.servers; pool = pool; books = books; order = order }

    same_books : slot_in d ≡ None → books ≡ c.books
    same_books e = subst (λ (ch : Change). FollowedClient clients ch c.books books) (no_change d e) follows

    books_are : (w : Work) → host_of c ≡ w.host → (slot : ℕ) → slot_in d ≡ Some slot
        → books ≡ followed slot (client_duty_in c.control.settings (did w).row) c.books
    books_are w same slot e =
        follow_books c kept id slot (gets_stood c kept taken slot e) clients pool (did w).row
        (gets_moved c kept taken w same) taken.inside (client_change d) books (gets_change c kept taken w same slot e) follows

    pub gets_kept : IsSound control → control ≡ record c.control { tuning = control.tuning; finished = control.finished; marks = control.marks }
        → c.control.tuning.opened ≤ control.tuning.opened → control.tuning.opened ≤ c.control.tuning.opened + client_orders d → IsKept parts
    gets_kept sound same no_fewer opened = by_slot (IsKept parts)
        (λ e.
        let both = (got c kept taken).same e in
        let none = no_orders d e in
        let all = kept-control c control (record {
          settings = ap (λ (x : Control). x.settings) same;
          id = ap (λ (x : Control). x.id) same;
          inc = ap (λ (x : Control). x.inc) same;
          last = omega (arith, ap (λ (x : Control). x.last) same);
          opened = omega (arith, no_fewer, opened, none);
        }) sound kept in
        let count : c.order ≡ order = omega (arith, order_is, none) in
        subst (λ (x : HostParts). IsKept x)
        (λ i. record {
          control = control;
          clients = (sym both.0) i;
          servers = c.servers;
          pool = (sym both.1) i;
          books = (sym (same_books e)) i;
          order = count i;
        }) all)
        (λ slot e.
        let stood = gets_stood c kept taken slot e in
        let moved = gets_moved c kept taken (silent c) refl in
        let count : (did (silent c)).order ≡ order = gets_order c kept taken (silent c) refl ∙ sym order_is in
        let most_opened : control.tuning.opened ≤ (did (silent c)).order = omega (arith, opened, kept.opened, count, order_is) in
        let all = asked_kept c kept id slot stood clients pool from (did (silent c)) moved control sound same most_opened (gets_known c kept taken)
        (gets_own c kept taken) in
        subst (λ (x : HostParts). IsKept x)
        (λ i. record {
          control = control;
          clients = clients;
          servers = c.servers;
          pool = pool;
          books = (sym (books_are (silent c) refl slot e)) i;
          order = count i;
        }) all)

    servers_are : seen_servers pool c.servers.rows ≡ seen_servers c.pool c.servers.rows
    servers_are = by_slot (seen_servers pool c.servers.rows ≡ seen_servers c.pool c.servers.rows)
        (λ e. ap (λ (q : Pool). seen_servers q c.servers.rows) ((got c kept taken).same e).1)
        (λ slot e. servers_same c kept id slot (gets_stood c kept taken slot e) clients pool (did (silent c)).row
        (gets_moved c kept taken (silent c) refl))

    credit_is : books.pacer.credit ≡ c.books.pacer.credit
    credit_is = by_slot (books.pacer.credit ≡ c.books.pacer.credit) (λ e. ap (λ (b : Books). b.pacer.credit) (same_books e))
        (λ slot e. ap (λ (b : Books). b.pacer.credit) (books_are (silent c) refl slot e))

    refilled_is : books.pacer.refilled ≡ c.books.pacer.refilled
    refilled_is = by_slot (books.pacer.refilled ≡ c.books.pacer.refilled) (λ e. ap (λ (b : Books). b.pacer.refilled) (same_books e))
        (λ slot e. ap (λ (b : Books). b.pacer.refilled) (books_are (silent c) refl slot e))

    pub gets_amid : (w : Work) (before frames : List SentFrame) → Amid w c before → IsAt (asked c.control.settings id from (did w) w) control frames
        → Amid (asked c.control.settings id from (did w) w) parts frames
    gets_amid w before frames amid at =
        let moved = gets_moved c kept taken w amid.host in
        amid_asked c parts id from (did w) w before frames amid at (ap (λ (t : Clients). t.seq) moved.kept)
        (order_is ∙ sym (gets_order c kept taken w amid.host))
        credit_is refilled_is moved.rows servers_are
