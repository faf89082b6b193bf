-- What comes of a rule that was carried out at a call's client, as the parts have it.
use Rattle.std.proofs.Common.{◌≡◌, ◌≤◌, ℕ, ◌==◌, nat_lt, Bool, true, false, List, [], ◌∷◌, ◌++◌, length, refl, sym, ap, subst, ◌∙◌, Option, Some, None}
use Rattle.std.proofs.lemmas.Bool.{cond_both}
use Rattle.std.specs.Option.{IfSome}
use Rattle.homa_plain.specs.declared.id.CallId.{CallId}
use Rattle.homa_plain.specs.declared.id.HostId.{HostId}
use Rattle.homa_plain.specs.declared.packet.Role.{Role}
use Rattle.homa_plain.specs.declared.packet.Role.TheVariants.{Client, Server}
use Rattle.homa_plain.specs.declared.packet.Body.TheVariants as body
use Rattle.homa_plain.specs.declared.settings.Settings.{Settings}
use Rattle.homa_plain.specs.Host.{Host, with_finished, finished_at}
use Rattle.homa_plain.specs.Rows.{ClientRow, ServerRow, set_row}
use Rattle.homa_plain.specs.Rules.{Did}
use Rattle.homa_plain.specs.Work.{Work, tells, posts, said}
use Rattle.homa_plain.specs.CutoffsPackets.{notes, tells_cutoffs}
use Rattle.homa_plain.specs.FiveAcks.{acknowledged, finishes}
use Rattle.homa_plain.specs.Steps.{asked, served}
use Rattle.step_laws.specs.StepLaws.{HasOwnOrders}
use Rattle.step_laws.proofs.ToldBy.{asked-carried, asked-clients, asked-servers}
use Rattle.step_laws.proofs.OwnOrders.{Own}
use Rattle.host_view.specs.declared.outbox.SentFrame.{SentFrame}
use Rattle.host_state.specs.Control.{Control, IsSound, IsAt}
use Rattle.msg_pool.specs.Pool.{Pool}
use Rattle.homa_client.specs.AtTable.{Clients, Moved, seen_rows, place_at}
use Rattle.homa_server.specs.Table.{seen_servers}
use Rattle.host_laws.specs.Peers.{KnowsServer, KnowsPeers}
use Rattle.host_laws.proofs.Known.{known-client}
use Rattle.homa_host.specs.Parts.{host_of, IsKept}
use Rattle.homa_host.specs.Amid.{Amid}
use Rattle.homa_host.specs.declared.parts.HostParts.{HostParts}
use Rattle.homa_host.proofs.Begun.{amid-at}
use Rattle.homa_host.proofs.ClientKept.{own_like, servers_same, own_call, host_after, parts_after, kept_after}

-- ---- what a rule leaves as it is, beside the rows, the clock, the cutoffs and the finished calls

pub record Aside (w v : Work) : Type 0 where
  pub seq : v.host.seq ≡ w.host.seq
  pub credit : v.host.credit ≡ w.host.credit
  pub refilled : v.host.refilled ≡ w.host.refilled

aside_then : (w v x : Work) → Aside w v → Aside v x → Aside w x
aside_then w v x a b = record { seq = b.seq ∙ a.seq; credit = b.credit ∙ a.credit; refilled = b.refilled ∙ a.refilled }

module _ (s : Settings) where
  notes-aside : (o : Option ℕ) (w : Work) → Aside w (notes s o w)
  notes-aside None w = record { seq = refl; credit = refl; refilled = refl }
  notes-aside (Some n) w = record { seq = refl; credit = refl; refilled = refl }

  cutoffs-aside : (role : Role) (id : CallId) (server : HostId) (o : Option ℕ) (w : Work) → Aside w (tells_cutoffs s role id server o w)
  cutoffs-aside role id server None w = record { seq = refl; credit = refl; refilled = refl }
  cutoffs-aside role id server (Some version) w =
      cond_both (version == w.host.tuning.own.version) w (posts s role id server (body.Cutoffs w.host.tuning.own) w) (Aside w)
      (λ _. record { seq = refl; credit = refl; refilled = refl }) (λ _. record { seq = refl; credit = refl; refilled = refl })

  acknowledged-aside : (server : HostId) (calls : List (ℕ × ℕ)) (w : Work) → Aside w (acknowledged s server calls w)
  acknowledged-aside server [] w = record { seq = refl; credit = refl; refilled = refl }
  acknowledged-aside server (call ∷ calls) w =
      cond_both (nat_lt (length calls) 4) (record w { host = with_finished server (call ∷ calls) w.host })
      (posts s Client (record { client = w.host.id; inc = call.0; seq = call.1 }) server (body.Ack calls)
      (record w { host = with_finished server [] w.host })) (Aside w)
      (λ _. record { seq = refl; credit = refl; refilled = refl }) (λ _. record { seq = refl; credit = refl; refilled = refl })

  finishes-aside : (id : CallId) (server : HostId) (done : Bool) (w : Work) → Aside w (finishes s id server done w)
  finishes-aside id server false w = record { seq = refl; credit = refl; refilled = refl }
  finishes-aside id server true w = acknowledged-aside server (finished_at w.host server ++ (id.inc, id.seq) ∷ []) w

  pub asked-aside : (id : CallId) (server : HostId) (did : Did ClientRow) (w : Work) → Aside w (asked s id server did w)
  unfolding asked
  asked-aside id server did w =
      let put : Work = record w { host = record w.host { order = did.order; clients = set_row w.host.clients id did.row } } in
      let noted : Work = notes s did.opened put in
      let reply : Work = tells_cutoffs s Client id server did.version noted in
      let told : Work = tells (said s w.host Client id server did.says) reply in
      let a = notes-aside did.opened put in
      let b = cutoffs-aside Client id server did.version noted in
      let d = finishes-aside id server did.finished told in
      record { seq = d.seq ∙ b.seq ∙ a.seq; credit = d.credit ∙ b.credit ∙ a.credit; refilled = d.refilled ∙ b.refilled ∙ a.refilled }

  pub served-aside : (id : CallId) (did : Did ServerRow) (w : Work) → Aside w (served s id did w)
  unfolding served
  served-aside id did w =
      let put : Work = record w { host = record w.host { order = did.order; servers = set_row w.host.servers id did.row } } in
      let noted : Work = notes s did.opened put in
      let a = notes-aside did.opened put in
      let b = cutoffs-aside Server id w.host.id did.version noted in
      record { seq = b.seq ∙ a.seq; credit = b.credit ∙ a.credit; refilled = b.refilled ∙ a.refilled }

-- ---- in the midst of a step

-- with what else the parts have of the host, what is so of the control is so of them
pub amid_of : (v : Work) (c : HostParts) (frames : List SentFrame) → IsAt v c.control frames → c.clients.seq ≡ v.host.seq → c.order ≡ v.host.order
    → c.books.pacer.credit ≡ v.host.credit → c.books.pacer.refilled ≡ v.host.refilled
    → seen_rows c.pool c.clients.rows ≡ v.host.clients → seen_servers c.pool c.servers.rows ≡ v.host.servers → Amid v c frames
amid_of v c frames at seq order credit refilled clients servers =
    amid-at v c frames at (record { seq = seq; order = order; credit = credit; refilled = refilled; clients = clients; servers = servers })

-- what comes of a rule is so of the parts, where they have the rest of the host
pub amid_asked : (c c' : HostParts) (id : CallId) (server : HostId) (did : Did ClientRow) (w : Work) (before frames : List SentFrame)
    → Amid w c before → IsAt (asked c.control.settings id server did w) c'.control frames
    → c'.clients.seq ≡ c.clients.seq → c'.order ≡ did.order → c'.books.pacer.credit ≡ c.books.pacer.credit → c'.books.pacer.refilled ≡ c.books.pacer.refilled
    → seen_rows c'.pool c'.clients.rows ≡ set_row (seen_rows c.pool c.clients.rows) id did.row
    → seen_servers c'.pool c'.servers.rows ≡ seen_servers c.pool c.servers.rows
    → Amid (asked c.control.settings id server did w) c' frames
amid_asked c c' id server did w before frames amid at seq order credit refilled clients servers =
    let s = c.control.settings in
    let aside = asked-aside s id server did w in
    amid-at (asked s id server did w) c' frames at (record {
      seq = seq ∙ ap (λ (h : Host). h.seq) amid.host ∙ sym aside.seq;
      order = order ∙ sym (asked-carried s id server did w).order;
      credit = credit ∙ ap (λ (h : Host). h.credit) amid.host ∙ sym aside.credit;
      refilled = refilled ∙ ap (λ (h : Host). h.refilled) amid.host ∙ sym aside.refilled;
      clients = clients ∙ ap (λ (h : Host). set_row h.clients id did.row) amid.host ∙ sym (asked-clients s id server did w);
      servers = servers ∙ ap (λ (h : Host). h.servers) amid.host ∙ sym (asked-servers s id server did w);
    })

-- ---- a rule at a call's client

-- a host of which nothing is told
abbrev pub silent : HostParts → Work
silent c = record { host = host_of c; told = [] }

module _ (c : HostParts) (kept : IsKept c) (id : CallId) (slot : ℕ) (stood : place_at c.clients.rows id ≡ Some slot) (clients : Clients) (pool : Pool)
    (server : HostId) (did : Did ClientRow)
    (moved : Moved id c.clients c.pool clients pool did.row) (control : Control) where
  abbrev pub after : HostParts
  after = parts_after c kept id slot stood clients pool did.row moved did.order control

  pub asked_amid : (w : Work) (before frames : List SentFrame) → Amid w c before → IsAt (asked c.control.settings id server did w) control frames
      → Amid (asked c.control.settings id server did w) after frames
  asked_amid w before frames amid at =
      amid_asked c after id server did w before frames amid at (ap (λ (t : Clients). t.seq) moved.kept) refl refl refl moved.rows
      (servers_same c kept id slot stood clients pool did.row moved)

  -- the orders of its rows
  pub asked_orders : Own (asked c.control.settings id server did (silent c))
      → HasOwnOrders (host_after c kept id slot stood clients pool did.row moved did.order)
  asked_orders own =
      let v : Work = asked c.control.settings id server did (silent c) in
      own_like v.host (host_after c kept id slot stood clients pool did.row moved did.order) (asked-carried c.control.settings id server did (silent c)).order
      (asked-clients c.control.settings id server did (silent c) ∙ sym moved.rows) (asked-servers c.control.settings id server did (silent c)) own

  pub asked_kept : IsSound control → control ≡ record c.control { tuning = control.tuning; finished = control.finished; marks = control.marks }
      → control.tuning.opened ≤ did.order
      → IfSome did.row (KnowsServer c.control.settings.hosts) → Own (asked c.control.settings id server did (silent c)) → IsKept after
  asked_kept sound same opened known own =
      let s = c.control.settings in
      let settings = ap (λ (x : Control). x.settings) same in
      let same_id = ap (λ (x : Control). x.id) same in
      let inc = ap (λ (x : Control). x.inc) same in
      let servers = servers_same c kept id slot stood clients pool did.row moved in
      let orders = own_like (asked s id server did (silent c)).host (host_of after) (asked-carried s id server did (silent c)).order
      (asked-clients s id server did (silent c) ∙ sym moved.rows)
      (asked-servers s id server did (silent c) ∙ sym servers) own in
      let call = own_call c kept id slot stood in
      let peers = known-client s (host_of c) (host_of after) same_id inc kept.known id did.row moved.rows servers (both did.row known call) in
      kept_after c kept id slot stood clients pool did.row moved did.order control sound settings same_id inc
      (ap (λ (x : Control). x.last) same) orders (subst (λ (s : Settings). KnowsPeers s (host_of after)) (sym settings) peers) opened where
        both : (o : Option ClientRow) → IfSome o (KnowsServer c.control.settings.hosts) → (id.client ≡ c.control.id) × (id.inc ≡ c.control.inc)
            → IfSome o (λ r. KnowsServer c.control.settings.hosts r × ((id.client ≡ c.control.id) × (id.inc ≡ c.control.inc)))
        both None k o = tt
        both (Some r) k o = (k, o)
