-- The law at all GRANTs of a step, and at the pieces that the step sends behind them.
use Rattle.std.proofs.Common.{◌≡◌, ℕ, inl, inr, Bool, true, false, Some, List, [], ◌∷◌, length, refl, sym, ap, subst, ◌∙◌}
use Rattle.std.specs.Prelude.{Contains}
use Rattle.plain_sets.specs.Maps.{get}
use Rattle.homa_plain.specs.declared.id.CallId.{CallId}
use Rattle.homa_plain.specs.declared.id.HostId.{HostId}
use Rattle.homa_plain.specs.declared.packet.Body.TheVariants as body
use Rattle.homa_plain.specs.declared.settings.Settings.{Settings}
use Rattle.homa_plain.specs.Calls.{is_call}
use Rattle.homa_plain.specs.Grants.{Message, Granted}
use Rattle.homa_plain.specs.Incoming.{Incoming, granted_to}
use Rattle.homa_plain.specs.Packets.{Packet, send_line, sender, receiver}
use Rattle.trace_rules.specs.Parts.{Part, raised}
use Rattle.homa_plain.specs.Rows.{ClientRow, ServerRow, Receiving, RowsOf, set_row}
use Rattle.homa_plain.specs.Host.{Host, Told, Sends, packets_in, entries_from}
use Rattle.homa_plain.specs.Timers.{Place, OfClient, OfServer}
use Rattle.homa_plain.specs.Sending.{Arriving, client_granted, server_granted, state_granted, granted_part, client_sends, state_sends}
use Rattle.homa_plain.specs.Work.{Work, now_of}
use Rattle.homa_plain.specs.Steps.{grants_at, client_is_granted, server_is_granted, gives_grants, ended}
use Rattle.trace_rules.specs.View.{View}
use Rattle.trace_rules.specs.Seen.{seen}
use Rattle.trace_rules.specs.Laws.{Holds}
use Rattle.trace_rules.specs.Granting.{Granting}
use Rattle.homa_plain.specs.World.{World}
use Rattle.homa_plain.proofs.CallOrder.{calls_are}
use Rattle.step_laws.specs.StepLaws.{LeavesOthers}
use Rattle.step_laws.proofs.Others.{get-set_row, set_row-others}
use Rattle.trace_steps.proofs.Lines.{holds-append}
use Rattle.step_moves.proofs.Inner.{entries_from-append}
use Rattle.step_moves.proofs.Moves.{IsMove}
use Rattle.step_moves.proofs.SendMoves.{server_grant, server_granted-move, client_grant, client_granted-move, response_leaves-move, request_leaves-move}
use Rattle.trace_steps.specs.Stands.{said_so_far}
use Rattle.step_moves.proofs.Hosts.{some_is}
use Rattle.trace_steps.proofs.Frame.{next_number, move_said}
use Rattle.step_moves.proofs.Names.{own_set}
use Rattle.step_moves.proofs.Chosen.{IsReceiving, IsAwaiting, IsArrivingAt, IsGrantAt, grants_of, step_grants_stand}
use Rattle.step_moves.proofs.Folds.{stays_at, grants_kept, pump_kept, PieceKeeps}
use Rattle.trace_granting.proofs.Messages.{part_in}
use Rattle.trace_granting.proofs.Allowed.{IsMatched, role_at, call_at}
use Rattle.trace_granting.proofs.Window.{NowWithin, NoGrants, AllLate, told_late}
use Rattle.trace_granting.proofs.GrantLines.{same_place, RaisesAt, request_raises, response_raises, matched_raised, near_after, lawful, granted_end}

-- the senders of a host's messages are those of its rows' calls
pub record HasOwnPeers (h : Host) : Type 0 where
  pub response : (id : CallId) (r : ClientRow) (part : Incoming) → get h.clients id ≡ Some r → r.part ≡ Some part → part.peer ≡ r.server
  pub request : (id : CallId) (row : ServerRow) (service : ℕ) (part : Incoming) (base count : ℕ) → get h.servers id ≡ Some row
      → row.state ≡ Receiving service part base count → part.peer ≡ id.client

-- the lines have the granted ends of a host's messages
abbrev pub AreGranted : Host → View → Type 0
AreGranted h u = (place : Place) (a : Message) (x : Part) → IsArrivingAt h a place → part_in u.now place ≡ Some x → x.granted ≡ a.granted

module _ (s : Settings) (w : World) (v : View) (host : HostId) (start : Host) where
  -- in the midst of the GRANTs of a step, which began at this host
  pub record IsGranting (work : Work) : Type 0 where
    pub holds : Holds Granting v (entries_from (length w.packets) work.told)
    pub near : NowWithin s (said_so_far w v work)
    pub matched : IsMatched start host (said_so_far w v work).now
    pub granted : AreGranted work.host (said_so_far w v work)
    pub name : work.host.id ≡ host
    pub own : (q : CallId) (r : ClientRow) → get work.host.clients q ≡ Some r → q.client ≡ host
    pub peers : HasOwnPeers work.host

  -- the law at one line more
  one_holds : (work new : Work) (p : Packet) (clients : RowsOf ClientRow) (servers : RowsOf ServerRow)
      (m : IsMove work new (Sends p ∷ []) clients servers) → Holds Granting v (entries_from (length w.packets) work.told)
      → Granting (said_so_far w v work) (send_line (next_number w v host work new (Sends p ∷ []) clients servers m) p)
      → Holds Granting v (entries_from (length w.packets) new.told)
  one_holds work new p clients servers m before one =
      subst (Holds Granting v) (sym (ap (entries_from (length w.packets)) m.grown ∙ entries_from-append (length w.packets) work.told (Sends p ∷ [])))
      (holds-append Granting v (entries_from (length w.packets) work.told)
      (send_line (next_number w v host work new (Sends p ∷ []) clients servers m) p ∷ []) before (one, tt))

  other_rows : (place : Place) (work new : Work) → LeavesOthers place work new → LeavesOthers place new work
  other_rows place work new l = record { clients = λ q e. sym (l.clients q e); servers = λ q e. sym (l.servers q e) }

  -- a GRANT keeps it
  granting_step : (work new : Work) (p : Packet) (clients : RowsOf ClientRow) (servers : RowsOf ServerRow)
      (m : IsMove work new (Sends p ∷ []) clients servers) (g : Granted Arriving) → Contains (grants_of s start) g → IsGranting work → IsGrantAt s work.host g
      → p.role ≡ role_at g.to.place → p.id ≡ call_at g.to.place → p.body ≡ body.Grant g.offset g.prio → sender p ≡ host → receiver p ≡ g.to.message.peer
      → ((n : ℕ) → RaisesAt g.to.place (raised (sender p) (receiver p) g.offset) (said_so_far w v work).now (seen (said_so_far w v work) (send_line n p)).now)
      → ((q : CallId) (r : ClientRow) → get clients q ≡ Some r → q.client ≡ host) → HasOwnPeers new.host → LeavesOthers g.to.place work new
      → ((b : Message) → IsArrivingAt new.host b g.to.place → b.granted ≡ g.offset) → IsGranting new
  granting_step work new p clients servers m g c k at role call what by to raises own peers others here =
      let u : View = said_so_far w v work in
      let n : ℕ = next_number w v host work new (Sends p ∷ []) clients servers m in
      let behind : View = seen u (send_line n p) in
      let said : said_so_far w v new ≡ behind = move_said w v host work new (Sends p ∷ []) clients servers m in
      let stood = k.matched.forth g.to.place g.to.message (step_grants_stand s start g c).stands in
      let same : stood.part.granted ≡ g.to.message.granted = k.granted g.to.place g.to.message stood.part at.stands stood.stands in
      record {
        holds = one_holds work new p clients servers m k.holds (lawful s start host u n k.matched k.near g c p role call what by to (raises n) same);
        near = subst (NowWithin s) (sym said) (near_after s start host u n k.matched k.near g c p role call what by to (raises n));
        matched = subst (λ (x : View). IsMatched start host x.now) (sym said)
            (matched_raised start host (sender p) (receiver p) g.offset g.to.place u.now behind.now (raises n) k.matched);
        granted = λ place b y stands is.
            let there : part_in behind.now place ≡ Some y = ap (λ (x : View). part_in x.now place) (sym said) ∙ is in
            elim (same_place place g.to.place) as (λ _. y.granted ≡ b.granted) [
              | inl e ↦
                  granted_end s start host u n k.matched k.near g c p role call what by to (raises n) same y (ap (part_in behind.now) (sym e) ∙ there)
                  ∙ sym (here b (subst (IsArrivingAt new.host b) e stands))
              | inr differ ↦ k.granted place b y
                  (stays_at g.to.place place g.to.message b new work (λ e. differ (sym e)) (other_rows g.to.place work new others) stands)
                  (sym ((raises n).others place differ) ∙ there)
            ];
        name = m.id ∙ k.name;
        own = λ q r is. own q r (ap (λ (rows : RowsOf ClientRow). get rows q) (sym m.at_clients) ∙ is);
        peers = peers;
      }

  -- of a request
  request_granting : (work : Work) (g : Granted Arriving) (id : CallId) → g.to.place ≡ OfServer id → Contains (grants_of s start) g → IsGranting work
      → IsGrantAt s work.host g → IsReceiving work.host id g.to.message
      → IsGranting (grants_at s (OfServer id) g.offset g.prio work)
  request_granting work g id place c k at a = subst (λ o. IsGranting (server_is_granted s id (body.Grant g.offset g.prio) g.offset o work)) (sym a.stands)
      (granting_step work new p work.host.clients (set_row work.host.servers id (Some row)) (server_granted-move s id work g.offset g.prio a.row) g c
      k at (ap role_at (sym place)) (ap call_at (sym place)) refl k.name
      (sym (k.peers.request id a.row a.service a.part a.base a.count a.stands a.state) ∙ ap (λ (x : Message). x.peer) (sym a.message))
      (λ n. subst (λ (q : Place). RaisesAt q (raised (sender p) (receiver p) g.offset) u.now (seen u (send_line n p)).now) (sym place)
      (request_raises u n p g.offset g.prio refl refl)) k.own
      (record { response = k.peers.response; request = peers })
      (subst (λ (q : Place). LeavesOthers q work new) (sym place)
      (record { clients = λ q e. refl; servers = λ q e. set_row-others work.host.servers id (Some row) q e }))
      (λ b stands. ends b (subst (IsArrivingAt new.host b) place stands))) where
        p : Packet
        p = server_grant s id work g.offset g.prio

        u : View
        u = said_so_far w v work

        row : ServerRow
        row = server_granted (now_of work) g.offset a.row

        new : Work
        new = server_is_granted s id (body.Grant g.offset g.prio) g.offset (Some a.row) work

        there : get new.host.servers id ≡ Some row
        there = get-set_row work.host.servers id (Some row)

        state : row.state ≡ Receiving a.service (granted_to a.part g.offset) (now_of work) a.count
        state = ap (state_granted (now_of work) g.offset) a.state

        one_part : (s t : ℕ) (x y : Incoming) (b c i j : ℕ) → Receiving s x b i ≡ Receiving t y c j → x ≡ y
        one_part s t x y b c i j e = cc

        ends : (b : Message) → IsReceiving new.host id b → b.granted ≡ g.offset
        ends b r =
            let rows : r.row ≡ row = some_is r.row row (sym r.stands ∙ there) in
            let parts : r.part ≡ granted_to a.part g.offset = one_part r.service a.service r.part (granted_to a.part g.offset) r.base
            (now_of work) r.count a.count (sym r.state ∙ ap (λ (x : ServerRow). x.state) rows ∙ state) in
            ap (λ (x : Message). x.granted) r.message ∙ ap (λ (x : Incoming). x.granted) parts

        peers : (q : CallId) (x : ServerRow) (service : ℕ) (part : Incoming) (base count : ℕ) → get new.host.servers q ≡ Some x
            → x.state ≡ Receiving service part base count → part.peer ≡ q.client
        peers q x service part base count is st = by_call (is_call q id) refl where
          by_call : (b : Bool) → is_call q id ≡ b → part.peer ≡ q.client
          by_call false e = k.peers.request q x service part base count (sym (set_row-others work.host.servers id (Some row) q e) ∙ is) st
          by_call true e =
              let same : q ≡ id = (calls_are q id).0 e in
              let rows : x ≡ row = some_is x row (sym is ∙ ap (get new.host.servers) same ∙ there) in
              let parts : part ≡ granted_to a.part g.offset = one_part service a.service part (granted_to a.part g.offset) base
              (now_of work) count a.count (sym st ∙ ap (λ (y : ServerRow). y.state) rows ∙ state) in
              ap (λ (y : Incoming). y.peer) parts ∙ k.peers.request id a.row a.service a.part a.base a.count a.stands a.state
              ∙ ap (λ (y : CallId). y.client) (sym same)

  -- of a response
  response_granting : (work : Work) (g : Granted Arriving) (id : CallId) → g.to.place ≡ OfClient id → Contains (grants_of s start) g → IsGranting work
      → IsGrantAt s work.host g → IsAwaiting work.host id g.to.message
      → IsGranting (grants_at s (OfClient id) g.offset g.prio work)
  response_granting work g id place c k at a = subst (λ o. IsGranting (client_is_granted s id (body.Grant g.offset g.prio) g.offset o work)) (sym a.stands)
      (granting_step work new p (set_row work.host.clients id (Some row)) work.host.servers
      (client_granted-move s id work g.offset g.prio a.row (mine ∙ sym k.name)) g c k at (ap role_at (sym place)) (ap call_at (sym place)) refl mine
      (sym (k.peers.response id a.row a.part a.stands a.has) ∙ ap (λ (x : Message). x.peer) (sym a.message))
      (λ n. subst (λ (q : Place). RaisesAt q (raised (sender p) (receiver p) g.offset) u.now (seen u (send_line n p)).now) (sym place)
      (response_raises u n p g.offset g.prio refl refl))
      (own_set host work.host.clients id (Some row) mine k.own) (record { response = peers; request = k.peers.request })
      (subst (λ (q : Place). LeavesOthers q work new) (sym place)
      (record { clients = λ q e. set_row-others work.host.clients id (Some row) q e; servers = λ q e. refl }))
      (λ b stands. ends b (subst (IsArrivingAt new.host b) place stands))) where
        mine : id.client ≡ host
        mine = k.own id a.row a.stands

        p : Packet
        p = client_grant s id work g.offset g.prio a.row

        u : View
        u = said_so_far w v work

        row : ClientRow
        row = client_granted (now_of work) g.offset a.row

        new : Work
        new = client_is_granted s id (body.Grant g.offset g.prio) g.offset (Some a.row) work

        there : get new.host.clients id ≡ Some row
        there = get-set_row work.host.clients id (Some row)

        part : row.part ≡ Some (granted_to a.part g.offset)
        part = ap (granted_part g.offset) a.has

        ends : (b : Message) → IsAwaiting new.host id b → b.granted ≡ g.offset
        ends b r =
            let rows : r.row ≡ row = some_is r.row row (sym r.stands ∙ there) in
            let parts : r.part ≡ granted_to a.part g.offset =
            some_is r.part (granted_to a.part g.offset) (sym r.has ∙ ap (λ (x : ClientRow). x.part) rows ∙ part) in
            ap (λ (x : Message). x.granted) r.message ∙ ap (λ (x : Incoming). x.granted) parts

        peers : (q : CallId) (x : ClientRow) (y : Incoming) → get new.host.clients q ≡ Some x → x.part ≡ Some y → y.peer ≡ x.server
        peers q x y is has = by_call (is_call q id) refl where
          by_call : (b : Bool) → is_call q id ≡ b → y.peer ≡ x.server
          by_call false e = k.peers.response q x y (sym (set_row-others work.host.clients id (Some row) q e) ∙ is) has
          by_call true e =
              let rows : x ≡ row = some_is x row (sym is ∙ ap (get new.host.clients) ((calls_are q id).0 e) ∙ there) in
              let parts : y ≡ granted_to a.part g.offset = some_is y (granted_to a.part g.offset) (sym has ∙ ap (λ (z : ClientRow). z.part) rows ∙ part) in
              ap (λ (z : Incoming). z.peer) parts ∙ k.peers.response id a.row a.part a.stands a.has ∙ ap (λ (z : ClientRow). z.server) (sym rows)

  -- each GRANT of the step
  one_granting : (work : Work) (g : Granted Arriving) → Contains (grants_of s start) g → IsGranting work → IsGrantAt s work.host g
      → IsGranting (grants_at s g.to.place g.offset g.prio work)
  one_granting work g c k at = by_place g.to.place refl at.stands where
    by_place : (place : Place) → g.to.place ≡ place → IsArrivingAt work.host g.to.message place → IsGranting (grants_at s place g.offset g.prio work)
    by_place (OfServer id) e a = request_granting work g id e c k at a
    by_place (OfClient id) e a = response_granting work g id e c k at a

-- ---- the end of a step

module _ (s : Settings) (w : World) (v : View) (host : HostId) where
  -- where the law holds of all lines so far, and what has arrived is within the windows
  pub record IsLawful (work : Work) : Type 0 where
    pub holds : Holds Granting v (entries_from (length w.packets) work.told)
    pub near : NowWithin s (said_so_far w v work)
    pub name : work.host.id ≡ host
    pub own : (q : CallId) (r : ClientRow) → get work.host.clients q ≡ Some r → q.client ≡ host

  -- a move whose lines refuse no delivery, and that gives no GRANT
  pub lawful_move : (work new : Work) (told : List Told) (clients : RowsOf ClientRow) (servers : RowsOf ServerRow)
      (m : IsMove work new told clients servers) → AllLate told → NoGrants (packets_in told)
      → ((q : CallId) (r : ClientRow) → get clients q ≡ Some r → q.client ≡ host) → IsLawful work → IsLawful new
  lawful_move work new told clients servers m late none own k =
      let n : ℕ = next_number w v host work new told clients servers m in
      let r = told_late s (said_so_far w v work) n told late none k.near in
      record {
        holds = subst (Holds Granting v) (sym (ap (entries_from (length w.packets)) m.grown ∙ entries_from-append (length w.packets) work.told told))
            (holds-append Granting v (entries_from (length w.packets) work.told) (entries_from n told) k.holds r.0);
        near = subst (NowWithin s) (sym (move_said w v host work new told clients servers m)) r.1;
        name = m.id ∙ k.name;
        own = λ q r is. own q r (ap (λ (rows : RowsOf ClientRow). get rows q) (sym m.at_clients) ∙ is);
      }

  pieces_lawful : PieceKeeps s IsLawful
  pieces_lawful = record {
    request = λ work id r range k is may at.
        let mine : id.client ≡ host = k.own id r is in
        lawful_move work _ _ (set_row work.host.clients id (Some (client_sends s (now_of work) r))) work.host.servers
        (request_leaves-move s id work r range (mine ∙ sym k.name)) tt (refl, tt)
        (own_set host work.host.clients id (Some (client_sends s (now_of work) r)) mine k.own) k;
    response = λ work id row response out order base count range k is state at.
        lawful_move work _ _ work.host.clients (set_row work.host.servers id (Some (record row { state = state_sends s (now_of work) row.state })))
        (response_leaves-move s id work row _ range) tt (refl, tt) k.own k;
  }

  -- what the end of a step needs
  pub record IsReady (work : Work) : Type 0 where
    pub lawful : IsLawful work
    pub matched : IsMatched work.host host (said_so_far w v work).now
    pub granted : AreGranted work.host (said_so_far w v work)
    pub peers : HasOwnPeers work.host

  pub ended_lawful : (work : Work) → IsReady work → IsLawful (ended s work)
  ended_lawful work k =
      let g = grants_kept s (IsGranting s w v host work.host) work (one_granting s w v host work.host)
      (record {
        holds = k.lawful.holds;
        near = k.lawful.near;
        matched = k.matched;
        granted = k.granted;
        name = k.lawful.name;
        own = k.lawful.own;
        peers = k.peers;
      }) in
      pump_kept s IsLawful pieces_lawful (gives_grants s work) (record { holds = g.holds; near = g.near; name = g.name; own = g.own })
