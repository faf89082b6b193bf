-- What a server's row did whose timer was due, as the parts have it.
use Rattle.std.proofs.Common.{◌≡◌, ◌<◌, ◌≤◌, ◌+◌, ℕ, inl, refl, sym, ap, subst, ◌∙◌, arith, List, Option, Some, None}
use Rattle.std.specs.Option.{option_map, IfSome}
use Rattle.plain_sets.specs.Maps.{get, len}
use Rattle.plain_sets.proofs.MapMembers.{same_some}
use Rattle.homa_plain.specs.declared.id.CallId.{CallId}
use Rattle.homa_plain.specs.declared.id.HostId.{HostId}
use Rattle.homa_plain.specs.declared.settings.Settings.{Settings}
use Rattle.homa_plain.specs.Host.{Host, free_beside}
use Rattle.homa_plain.specs.Rows.{ServerRow}
use Rattle.homa_plain.specs.Rules.{Moment, Did}
use Rattle.homa_plain.specs.Timers.{OfServer, server_acts}
use Rattle.homa_plain.specs.Work.{Work}
use Rattle.homa_plain.specs.Steps.{moment, server_acted, served}
use Rattle.step_laws.proofs.OwnOrders.{Own, acts_at-own}
use Rattle.msg_pool.specs.Pool.{Pool}
use Rattle.host_places.specs.Placed.{Placed, StandsAt, ArePlaced}
use Rattle.host_places.proofs.MappedLaws.{get-mapped}
use Rattle.homa_in.specs.Pieces.{moment_with}
use Rattle.homa_server.specs.Held.{HeldServer, seen_server}
use Rattle.homa_server.specs.Answers.{acted_of, HasServerActed}
use Rattle.homa_server.specs.Table.{Servers, ServerMoved, seen_servers, server_at}
use Rattle.homa_server.specs.declared.answers.ServerAct.{ServerAct}
use Rattle.homa_server.specs.declared.answers.ServerAct.TheVariants as act
use Rattle.host_laws.specs.Peers.{KnowsClient, KnowsSender}
use Rattle.host_laws.proofs.Known.{server_acts-known}
use Rattle.host_state.specs.Control.{Control, IsSound, IsAt}
use Rattle.host_view.specs.declared.outbox.SentFrame.{SentFrame}
use Rattle.host_books.specs.declared.books.Books.{Books}
use Rattle.host_books.specs.Duty.{server_duty_in, followed}
use Rattle.host_books.specs.Stood.{Stood}
use Rattle.homa_host.specs.Parts.{host_of, seen_of, IsKept}
use Rattle.homa_host.specs.Amid.{Amid}
use Rattle.homa_host.specs.ServerFollow.{server_act_change, server_act_orders, FollowedServer}
use Rattle.homa_host.specs.declared.outcome.Change.{Change}
use Rattle.homa_host.specs.declared.parts.HostParts.{HostParts}
use Rattle.homa_host.proofs.AskedLaws.{silent}
use Rattle.homa_host.specs.ServerFollow.{CanFollowServer}
use Rattle.homa_host.proofs.ServerKept.{seen_after, served_orders, served_kept, served_amid}
use Rattle.homa_host.proofs.ServerFollows.{IsServerChange, same_settings, follow_room, follow_within, follow_stands, follow_may, follow_books}

-- the order number is as before, but where a response was released
acted_order : (s : Settings) (m : Moment) (id : CallId) (row : Option ServerRow) (a : ServerAct) → (acted_of s m id row a).order ≡ m.order + server_act_orders a
acted_order s m id row (act.Resend from to) = omega arith
acted_order s m id row (act.Drop q) = omega arith
acted_order s m id row act.Release = refl
acted_order s m id row act.NeedAck = omega arith
acted_order s m id row (act.Bury q until) = omega arith
acted_order s m id row (act.Free q) = omega arith

acted_row : (s : Settings) (m : Moment) (id : CallId) (row : Option ServerRow) (a : ServerAct) → (acted_of s m id row a).row ≡ row
acted_row s m id row (act.Resend from to) = refl
acted_row s m id row (act.Drop q) = refl
acted_row s m id row act.Release = refl
acted_row s m id row act.NeedAck = refl
acted_row s m id row (act.Bury q until) = refl
acted_row s m id row (act.Free q) = refl

act_change : (slot : ℕ) (a : ServerAct) (row : Option ServerRow) → HasServerActed a row → IsServerChange (server_act_change a slot) slot row
act_change slot (act.Resend from to) row is = (refl, is)
act_change slot (act.Drop q) row is = (refl, is)
act_change slot act.Release row is = (refl, is)
act_change slot act.NeedAck row is = (refl, is)
act_change slot (act.Bury q until) row is = (refl, is)
act_change slot (act.Free q) row is = (refl, is)

-- what a host would have a row do at once
abbrev pub moment_of : Settings → CallId → Host → Moment
moment_of s id h = record { host = h.id; now = h.last; order = h.order; free = free_beside s h id; rows = len h.servers }

-- a row's client is known with its life where its sender is
pub known_row : (hosts : ℕ) (id : CallId) → id.client.0 < hosts → 1 ≤ id.inc → (o : Option ServerRow) → IfSome o (λ row. KnowsSender hosts row.state)
    → IfSome o (KnowsClient hosts id)
known_row hosts id client life None k = tt
known_row hosts id client life (Some row) k = record { client = client; life = life; sender = k }

-- a row that stands at a slot
module _ (c : HostParts) (kept : IsKept c) (slot : ℕ) (id : CallId) (r : HeldServer) (stands : StandsAt c.servers.rows id slot r) where
  pub at_slot : (x : Placed HeldServer) → get c.servers.rows id ≡ Some x → x.place ≡ slot
  at_slot x e = ap (λ (y : Placed HeldServer). y.place) (same_some _ _ (sym e ∙ stands))

  pub row_get : get (seen_servers c.pool c.servers.rows) id ≡ Some (seen_server c.pool r)
  row_get = get-mapped (λ (x : Placed HeldServer). seen_server c.pool x.row) c.servers.rows id
      ∙ ap (option_map (λ (x : Placed HeldServer). seen_server c.pool x.row)) stands

  pub row_known : KnowsClient c.control.settings.hosts id (seen_server c.pool r)
  row_known = kept.known.servers id (seen_server c.pool r) row_get

  pub not_own : id.client ≡ c.control.id → ⊥
  not_own e = let a = sym row_get ∙ kept.foreign id e in cc

  pub slot_low : slot < c.control.settings.served
  slot_low = kept.server_places.within id (record { place = slot; row = r }) stands

  pub stays_at : (servers : Servers) (pool : Pool) (row : Option ServerRow) → ServerMoved id c.servers c.pool servers pool row
      → (x : Placed HeldServer) → get servers.rows id ≡ Some x → x.place ≡ slot
  stays_at servers pool row moved x e = moved.changed.place (record { place = slot; row = r }) x stands e

-- there are few places
pub few_places : (c : HostParts) → IsKept c → (s t : Settings) → s ≡ c.control.settings → t ≡ c.control.settings → s.calls + t.served < 4294967296
few_places c kept s t e f =
    let range = kept.control.valid.in_range in
    let calls = ap (λ (s : Settings). s.calls) e in
    let served = ap (λ (s : Settings). s.served) f in
    omega (arith, range.2.2.2.2.2.2.2.2.2.2.1, range.2.2.2.2.2.2.2.2.2.2.2.1, calls, served)

-- the places afterwards, by the settings of the host
pub placed_in : (c : HostParts) → IsKept c → (id : CallId) (servers : Servers) (pool : Pool) (row : Option ServerRow)
    → ServerMoved id c.servers c.pool servers pool row → ArePlaced servers.settings.served servers.rows
    → ArePlaced c.control.settings.served servers.rows
placed_in c kept id servers pool row moved placed =
    subst (λ (s : Settings). ArePlaced s.served servers.rows) (ap (λ (t : Servers). t.settings) moved.kept ∙ kept.one.server_settings) placed

-- a row that stands at a place acted, and the table afterwards
pub record RowActed (c : HostParts) (slot : ℕ) (servers : Servers) (pool : Pool) (a : ServerAct) (id : CallId) (r : HeldServer) : Type 0 where
  pub stands : StandsAt c.servers.rows id slot r
  pub acted : (free rows : ℕ) → let m = moment_with c.control.id c.control.last c.order free rows in
      server_acts c.control.settings m id (seen_server c.pool r) ≡ acted_of c.control.settings m id (server_at pool servers.rows id) a
  pub left : HasServerActed a (server_at pool servers.rows id)
  pub moved : ServerMoved id c.servers c.pool servers pool (server_at pool servers.rows id)
  pub placed : ArePlaced c.control.settings.served servers.rows

-- by the host and the settings of the table, and the clock that it was told
pub acted_by : (c : HostParts) (kept : IsKept c) (slot now : ℕ) → now ≡ c.control.last
    → (servers : Servers) (pool : Pool) (a : ServerAct) (id : CallId) (r : HeldServer) → StandsAt c.servers.rows id slot r
    → ((free rows : ℕ) → let m = moment_with c.servers.host now c.order free rows in
    server_acts c.servers.settings m id (seen_server c.pool r) ≡ acted_of c.servers.settings m id (server_at pool servers.rows id) a)
    → HasServerActed a (server_at pool servers.rows id) → ServerMoved id c.servers c.pool servers pool (server_at pool servers.rows id)
    → ArePlaced servers.settings.served servers.rows → RowActed c slot servers pool a id r
acted_by c kept slot now now_is servers pool a id r stands acted left moved placed = record {
  stands = stands;
  acted = λ free rows. subst (λ (t : ℕ × (HostId × Settings)). let m = moment_with t.1.0 t.0 c.order free rows in
      server_acts t.1.1 m id (seen_server c.pool r) ≡ acted_of t.1.1 m id (server_at pool servers.rows id) a)
      (λ i. (now_is i, (kept.one.server i, kept.one.server_settings i))) (acted free rows);
  left = left;
  moved = moved;
  placed = placed_in c kept id servers pool (server_at pool servers.rows id) moved placed;
}

module _ (c : HostParts) (kept : IsKept c) (slot : ℕ) (servers : Servers) (pool : Pool) (a : ServerAct) (id : CallId) (r : HeldServer)
    (x : RowActed c slot servers pool a id r) where
  abbrev row_now : Option ServerRow
  row_now = server_at pool servers.rows id

  abbrev pub did_at : Work → Did ServerRow
  did_at w = server_acts c.control.settings (moment c.control.settings id w) id (seen_server c.pool r)

  acted_on : (h : Host) → host_of c ≡ h → server_acts c.control.settings (moment_of c.control.settings id h) id (seen_server c.pool r)
      ≡ acted_of c.control.settings (moment_of c.control.settings id h) id row_now a
  acted_on h e = subst (λ (h : Host). server_acts c.control.settings (moment_of c.control.settings id h) id
      (seen_server c.pool r) ≡ acted_of c.control.settings (moment_of c.control.settings id h) id row_now a) e
      (x.acted (free_beside c.control.settings (host_of c) id) (len (host_of c).servers))

  pub acted_at : (w : Work) → host_of c ≡ w.host → did_at w ≡ acted_of c.control.settings (moment c.control.settings id w) id row_now a
  acted_at w e = acted_on w.host e

  row_at : (w : Work) → host_of c ≡ w.host → (did_at w).row ≡ row_now
  row_at w e = ap (λ (d : Did ServerRow). d.row) (acted_at w e) ∙ acted_row c.control.settings (moment c.control.settings id w) id row_now a

  order_at : (w : Work) → host_of c ≡ w.host → (did_at w).order ≡ c.order + server_act_orders a
  order_at w e = ap (λ (d : Did ServerRow). d.order) (acted_at w e) ∙ acted_order c.control.settings (moment c.control.settings id w) id row_now a
      ∙ ap (λ (h : Host). h.order + server_act_orders a) (sym e)

  change_at : IsServerChange (server_act_change a slot) slot row_now
  change_at = act_change slot a row_now x.left

  acts_known : IfSome row_now (KnowsClient c.control.settings.hosts id)
  acts_known =
      let k = row_known c kept slot id r x.stands in
      subst (λ (o : Option ServerRow). IfSome o (KnowsClient c.control.settings.hosts id)) (row_at (silent c) refl)
      (known_row c.control.settings.hosts id k.client k.life (did_at (silent c)).row
      (server_acts-known c.control.settings.hosts c.control.settings (moment c.control.settings id (silent c)) id (seen_server c.pool r) k.sender))

  acts_own : Own (served c.control.settings id (did_at (silent c)) (silent c))
  acts_own = subst (λ (o : Option ServerRow). Own (server_acted c.control.settings id o (silent c))) (row_get c kept slot id r x.stands)
      (acts_at-own c.control.settings (OfServer id) (silent c) kept.own)

  -- its place stays
  before : (y : Placed HeldServer) → get c.servers.rows id ≡ Some y → y.place ≡ slot
  before = at_slot c kept slot id r x.stands

  after : (y : Placed HeldServer) → get servers.rows id ≡ Some y → y.place ≡ slot
  after = stays_at c kept slot id r x.stands servers pool row_now x.moved

  stood : (order : ℕ) → Stood (OfServer id) (seen_of c) (seen_after c kept id slot servers pool row_now x.moved before after x.placed order)
  stood order = inl (seen_server c.pool r, row_get c kept slot id r x.stands)

  -- the books can follow
  module _ (calls : ℕ) (change : Change) (calls_are : calls ≡ c.control.settings.calls) (change_is : change ≡ server_act_change a slot) where
    pub acted_follows : CanFollowServer servers calls c.books change
    acted_follows =
        let did : Did ServerRow = did_at (silent c) in
        let settings = same_settings c kept id slot servers pool row_now x.moved before after x.placed in
        let orders = served_orders c kept id slot servers pool row_now x.moved before after x.placed did (row_at (silent c) refl) c.control acts_own in
        subst (λ (y : ℕ × Change). CanFollowServer servers y.0 c.books y.1) (λ i. (sym calls_are i, sym change_is i)) (record {
          stands = follow_stands c kept id slot servers pool row_now x.moved before after x.placed (server_act_change a slot) change_at;
          may = follow_may c kept id slot servers pool row_now x.moved before after x.placed did.order (stood did.order) orders acts_known
              (server_act_change a slot) change_at;
          room = follow_room c kept id slot servers pool row_now x.moved before after x.placed;
          calls = ap (λ (s : Settings). s.calls) (sym settings);
          within = follow_within c kept id slot servers pool row_now x.moved before after x.placed (server_act_change a slot)
              (slot_low c kept slot id r x.stands) change_at;
          small = few_places c kept c.control.settings servers.settings refl settings;
        })

    -- they followed
    module _ (books : Books) (follows : FollowedServer servers calls change c.books books) (order : ℕ)
        (order_is : order ≡ c.order + server_act_orders a) (control : Control) where
      abbrev parts : HostParts
      parts = record { control = control; clients = c.clients; servers = servers; pool = pool; books = books; order = order }

      followed_acted : books ≡ followed (c.control.settings.calls + slot) (server_duty_in c.control.settings row_now) c.books
      followed_acted = follow_books c kept id slot servers pool row_now x.moved before after x.placed (server_act_change a slot) books change_at
          (subst (λ (y : ℕ × Change). FollowedServer servers y.0 y.1 c.books books) (λ i. (calls_are i, change_is i)) follows)

      pub acted_kept : IsSound control → control ≡ record c.control { tuning = control.tuning; marks = control.marks } → control.tuning.opened ≤ order
          → IsKept parts
      acted_kept sound same opened =
          let did : Did ServerRow = did_at (silent c) in
          let row_is = row_at (silent c) refl in
          let count : did.order ≡ order = order_at (silent c) refl ∙ sym order_is in
          let all = served_kept c kept id slot servers pool row_now x.moved before after x.placed did row_is control (stood did.order) sound same
          (subst (λ n. control.tuning.opened ≤ n) (sym count) opened)
          (subst (λ (o : Option ServerRow). IfSome o (KnowsClient c.control.settings.hosts id)) (sym row_is) acts_known)
          (not_own c kept slot id r x.stands) acts_own in
          subst (λ (p : HostParts). IsKept p)
          (λ i. record { control = control; clients = c.clients; servers = servers; pool = pool; books = (sym followed_acted) i; order = count i }) all

      -- the plain row acts
      pub acted_amid : (w : Work) (out out' : List SentFrame) → Amid w c out → IsAt (served c.control.settings id (did_at w) w) control out'
          → Amid (server_acted c.control.settings id (get w.host.servers id) w) parts out'
      acted_amid w out out' amid settled =
          let did : Did ServerRow = did_at w in
          let count : did.order ≡ order = order_at w amid.host ∙ sym order_is in
          let all = served_amid c kept id slot servers pool row_now x.moved before after x.placed did (row_at w amid.host) control w out out' amid settled in
          subst (λ (o : Option ServerRow). Amid (server_acted c.control.settings id o w) parts out')
          (sym (sym (ap (λ (h : Host). get h.servers id) amid.host) ∙ row_get c kept slot id r x.stands))
          (subst (λ (p : HostParts). Amid (served c.control.settings id did w) p out')
          (λ i. record { control = control; clients = c.clients; servers = servers; pool = pool; books = (sym followed_acted) i; order = count i }) all)
