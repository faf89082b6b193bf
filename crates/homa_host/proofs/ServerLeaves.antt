-- The next piece of a server's response goes out.
use Rattle.std.proofs.Common.{◌≡◌, ◌<◌, ◌≤◌, ℕ, ◌+◌, ◌-◌, Bool, true, false, cond, Option, Some, None, List, [], length, refl, sym, ap, subst, ◌∙◌, arith}
use Rattle.std.specs.Prelude.{nat_lt}
use Rattle.std.specs.List.{Contains}
use Rattle.std.specs.Option.{option_map, option_and_then, MatchOption}
use Rattle.std.proofs.lemmas.Bool.{true≢false}
use Rattle.plain_sets.specs.Maps.{get, insert}
use Rattle.plain_sets.specs.Ordered.{ordered, first_of}
use Rattle.plain_sets.specs.Ranges.{Range, range}
use Rattle.homa_plain.specs.declared.id.CallId.{CallId}
use Rattle.homa_plain.specs.declared.settings.Settings.{Settings}
use Rattle.homa_plain.specs.declared.row.Emitted.{Emitted}
use Rattle.homa_plain.specs.declared.row.Emitted.TheVariants.{Sent, Short, Rests}
use Rattle.homa_plain.specs.Host.{Host, peer_cutoffs}
use Rattle.homa_plain.specs.Outgoing as outgoing
use Rattle.homa_plain.specs.Outgoing.{Outgoing, has_waiting, next_range, IsFront, IsIdle}
use Rattle.homa_plain.proofs.OutgoingLaws.{front-next_range, idle-waiting}
use Rattle.homa_plain.specs.Rows.{ServerRow, State, Receiving, Held, Replying, Buried}
use Rattle.homa_plain.specs.SentNext.{Leaving, departures}
use Rattle.homa_plain.specs.Sending.{response_content, state_sends}
use Rattle.homa_plain.specs.Work.{Work}
use Rattle.homa_plain.specs.SentNext.{pumped_once, leaves_from, server_leaves, response_leaves}
use Rattle.homa_plain.specs.Timers.{OfServer}
use Rattle.msg_pool.specs.Pool.{Pool}
use Rattle.step_laws.specs.StepLaws.{HasOwnOrders}
use Rattle.step_laws.proofs.OwnOrders.{server_leaves-own}
use Rattle.homa_in.specs.Sends.{emits}
use Rattle.homa_in.specs.Pooled.{AreIn}
use Rattle.host_places.specs.Placed.{Placed, StandsAt}
use Rattle.homa_server.specs.Held as held
use Rattle.homa_server.specs.Held.{HeldServer, HeldState, Arriving, Keeping, Answering, Gone, seen_server, seen_state, state_response}
use Rattle.homa_server.specs.Table.{Servers, ServerMoved, request_at}
use Rattle.homa_server.specs.Answers.{state_emits, server_sends}
use Rattle.host_state.specs.Control.{Control, IsSound, IsAt}
use Rattle.host_view.specs.declared.outbox.SentFrame.{SentFrame}
use Rattle.host_view.specs.Seen.{ready_of, waiting}
use Rattle.homa_pacer.specs.Pace as pace
use Rattle.host_books.specs.declared.books.Books.{Books}
use Rattle.host_books.specs.Duties.{ready_in}
use Rattle.host_books.specs.Duty.{server_duty, arrival_duty, arriving, followed}
use Rattle.host_books.proofs.PumpOnce.{picked, idle_ready, sends_next, server_departs, server_waits, server_rests, RestsIn, server_sends_next}
use Rattle.host_books.proofs.PumpOnce.{server_short, some_next, shorter, booked_length}
use Rattle.host_laws.specs.Peers.{KnowsClient}
use Rattle.host_laws.proofs.Known.{state_sends-known}
use Rattle.homa_host.specs.declared.parts.HostParts.{HostParts}
use Rattle.homa_host.specs.Parts.{host_of, seen_of, IsKept}
use Rattle.homa_host.specs.Amid.{WasSent, WasIdle, WasShort}
use Rattle.homa_host.proofs.Begun.{at-amid, amid-at, rest-amid}
use Rattle.homa_host.proofs.SlotRows.{server_row, server_standing, kept_slots}
use Rattle.homa_host.proofs.ClientKept.{own_like}
use Rattle.homa_host.specs.ServerFollow.{WentOnServer}
use Rattle.homa_host.specs.declared.outcome.Change.TheVariants.{Stays}
use Rattle.homa_host.specs.ServerFollow.{CanFollowServer}
use Rattle.homa_host.proofs.ClientStays.{Beside, spends, kept_spent}
use Rattle.homa_host.proofs.Emits.{few_ready, picked_in}
use Rattle.homa_host.proofs.ServerStays.{knows, all_inside, host_put, kept_same, amid_same, stands_after, can_follow, went_on, kept_stays}

-- ---- what a row emits

-- what is sent changes nothing that arrives
sends_arrival : (s : Settings) (now : ℕ) (state : State) → arrival_duty (arriving (state_sends s now state)) ≡ arrival_duty (arriving state)
sends_arrival s now (Receiving service part base count) = refl
sends_arrival s now (Held response release) = refl
sends_arrival s now (Replying response out order base count) = refl
sends_arrival s now (Buried until) = refl

-- a response goes out
pub record IsAnswering (state : HeldState) : Type 0 where
  pub response : List ℕ
  pub out : Outgoing
  pub order : ℕ
  pub base : ℕ
  pub count : ℕ
  pub is : state ≡ Answering response out order base count

abbrev pub IsServerView : Settings → Pool → ℕ → HeldState → Emitted → Type 0
IsServerView s pool credit state Rests = RestsIn (seen_state pool state)
IsServerView s pool credit state Short = (a : IsAnswering state) × (rg : Range) × (next_range a.out s.seg ≡ Some rg) × (nat_lt credit (rg.to - rg.from) ≡ true)
IsServerView s pool credit state (Sent from to) =
    (a : IsAnswering state) × (next_range a.out s.seg ≡ Some (range from to)) × (nat_lt credit (to - from) ≡ false)

server_view_of : (s : Settings) (pool : Pool) (credit : ℕ) (state : HeldState) → 0 < s.seg → held.IsKept state
    → IsServerView s pool credit state (state_emits s credit (seen_state pool state))
server_view_of s pool credit (Arriving service part base count) some k = tt
server_view_of s pool credit (Keeping response release) some k = tt
server_view_of s pool credit (Gone until) some k = tt
server_view_of s pool credit (Answering response out order base count) some k = by_next (next_range out s.seg) refl where
  answers : IsAnswering (Answering response out order base count)
  answers = record { response = response; out = out; order = order; base = base; count = count; is = refl }

  by_cost : (rg : Range) (b : Bool) → next_range out s.seg ≡ Some rg → nat_lt credit (rg.to - rg.from) ≡ b
      → IsServerView s pool credit (Answering response out order base count) (cond b Short (Sent rg.from rg.to))
  by_cost rg true n e = (answers, rg, n, e)
  by_cost rg false n e = (answers, n, e)

  by_next : (o : Option Range) → next_range out s.seg ≡ o → IsServerView s pool credit (Answering response out order base count) (emits credit o)
  by_next None n = some_next out s.seg some k.sound n
  by_next (Some rg) n = by_cost rg (nat_lt credit (rg.to - rg.from)) n refl

-- the row at a place, when it is to be sent next
pub record IsNext (c : HostParts) (place : ℕ) : Type 0 where
  pub id : CallId
  pub row : HeldServer
  pub stands : StandsAt c.servers.rows id place row
  pub sound : held.IsKept row.state
  pub first : option_map (λ (r : pace.Ready). r.slot) (first_of (ordered pace.ready_key c.books.pacer.ready)) ≡ Some (c.control.settings.calls + place)

-- what was emitted from it, and the table afterwards
pub record HasEmitted (c : HostParts) (place : ℕ) (n : IsNext c place) (servers : Servers) (e : Emitted) : Type 0 where
  pub view : IsServerView c.control.settings c.pool c.books.pacer.credit n.row.state e
  pub moved : ServerMoved n.id c.servers c.pool servers c.pool (Some (server_sends c.control.settings c.control.last (seen_server c.pool n.row) e))

-- by the settings of the table, and the clock and the credit that it was told
pub emitted_at : (c : HostParts) (kept : IsKept c) (place : ℕ) (n : IsNext c place) (servers : Servers) (now credit : ℕ) (result e : Emitted)
    → now ≡ c.control.last → credit ≡ c.books.pacer.credit → result ≡ e
    → (AreIn c.pool (request_at c.servers.rows) → ServerMoved n.id c.servers c.pool servers c.pool
    (Some (server_sends c.servers.settings now (seen_server c.pool n.row) result)))
    → result ≡ state_emits c.servers.settings credit (seen_server c.pool n.row).state → HasEmitted c place n servers e
emitted_at c kept place n servers now credit result e en ec ee moved is =
    let es = kept.one.server_settings in
    record {
      view = subst (IsServerView c.control.settings c.pool c.books.pacer.credit n.row.state)
          (sym (λ i. state_emits (es i) (ec i) (seen_server c.pool n.row).state) ∙ sym is ∙ ee)
          (server_view_of c.control.settings c.pool c.books.pacer.credit n.row.state kept.control.valid.in_range.2.0 n.sound);
      moved = subst (λ (row : ServerRow). ServerMoved n.id c.servers c.pool servers c.pool (Some row))
          (λ i. server_sends (es i) (en i) (seen_server c.pool n.row) (ee i))
          (moved (all_inside c kept n.id place n.row n.stands));
    }

-- where there are next bytes some wait
some_waits : (out : Outgoing) (seg : ℕ) (rg : Range) → 0 < seg → outgoing.IsSound out → next_range out seg ≡ Some rg → has_waiting out ≡ true
some_waits out seg rg some sound e = by_waiting (has_waiting out) refl where
  front : IsFront out seg rg
  front = subst (λ (o : Option Range). MatchOption o (IsIdle out) (IsFront out seg)) e (front-next_range out seg some sound)

  by_waiting : (b : Bool) → has_waiting out ≡ b → has_waiting out ≡ true
  by_waiting true w = w
  by_waiting false w = absurd (true≢false (sym (front.wait rg.from (omega arith) front.some) ∙ idle-waiting out w rg.from))

-- the response in a row is that of its plain row
abbrev plain_response : State → Option (List ℕ)
plain_response (Receiving service part base count) = None
plain_response (Held response release) = Some response
plain_response (Replying response out order base count) = Some response
plain_response (Buried until) = None

held_response : (pool : Pool) (state : HeldState) → state_response state ≡ plain_response (seen_state pool state)
held_response pool (Arriving service part base count) = refl
held_response pool (Keeping response release) = refl
held_response pool (Answering response out order base count) = refl
held_response pool (Gone until) = refl

module _ (c : HostParts) (kept : IsKept c) (place : ℕ) (n : IsNext c place) where
  abbrev row : ServerRow
  row = seen_server c.pool n.row

  abbrev slot : ℕ
  slot = c.control.settings.calls + place

  is_row : get (host_of c).servers n.id ≡ Some row
  is_row = server_row c n.id place n.row n.stands

  some_seg : 0 < c.control.settings.seg
  some_seg = kept.control.valid.in_range.2.0

  is_picked : (l : Leaving) × (first_of (ordered pace.ready_key c.books.pacer.ready) ≡ Some (ready_of (seen_of c) l)) × (l.place ≡ OfServer n.id)
      × Contains (waiting (host_of c)) l
  is_picked = let at = server_standing c n.id place n.row n.stands in
      picked (seen_of c) (kept_slots c kept) (OfServer n.id) slot at.0 at.1 c.books.pacer.ready kept.booked.ready n.first

  -- ---- of a response that goes out

  module _ (a : IsAnswering n.row.state) where
    replies : row.state ≡ Replying a.response a.out a.order a.base a.count
    replies = ap (seen_state c.pool) a.is

    replied : held.IsReplied a.response a.out a.base
    replied = subst held.IsKept a.is n.sound

    -- where bytes wait it is sent next
    next_here : (rg : Range) → next_range a.out c.control.settings.seg ≡ Some rg → (w : Work) → w.host ≡ host_of c
        → pumped_once c.control.settings w ≡ leaves_from c.control.settings (OfServer n.id) w
    next_here rg next w same =
        let at = server_standing c n.id place n.row n.stands in
        let l = is_picked in
        let is = server_waits (seen_of c) n.id row is_row a.response a.out a.order a.base a.count replies l.0 l.3 l.2 in
        sends_next (seen_of c) (kept_slots c kept) (OfServer n.id) slot at.0 at.1 c.books.pacer.ready w l.0 kept.own kept.booked.ready l.1 l.2
        (subst (Contains (departures c.control.settings c.control.last (host_of c))) (sym is)
        (server_departs (seen_of c) n.id row is_row a.response a.out a.order a.base a.count replies
        (some_waits a.out c.control.settings.seg rg some_seg replied.sound next))) same

  -- ---- nothing is sent

  -- it rests
  module _ (servers : Servers) (x : HasEmitted c place n servers Rests) (pacer : pace.Pace)
      (idle : pacer ≡ record c.books.pacer { ready = pace.without slot c.books.pacer.ready }) where
    abbrev rested : Books
    rested = record c.books { pacer = record c.books.pacer { ready = pace.without slot c.books.pacer.ready } }

    abbrev parts : Books → HostParts
    parts books = record { control = c.control; clients = c.clients; servers = servers; pool = c.pool; books = books; order = c.order }

    pub rests_kept : IsKept (parts (record c.books { pacer = pacer }))
    rests_kept =
        let at = server_standing c n.id place n.row n.stands in
        subst (λ (p : pace.Pace). IsKept (parts (record c.books { pacer = p }))) (sym idle)
        (kept_same c kept n.id place n.row n.stands servers x.moved rested refl refl
        (record {
          timers = kept.room.timers;
          grants = kept.room.grants;
          hosts = kept.room.hosts;
          most = kept.room.most;
          pacer = kept.room.pacer;
          rate = kept.room.rate;
        })
        (record {
          armed = kept.booked.armed;
          entered = kept.booked.entered;
          granted = kept.booked.granted;
          ready = idle_ready (seen_of c) (kept_slots c kept) (OfServer n.id) slot at.0 at.1 c.books.pacer.ready kept.booked.ready
              (server_rests (seen_of c) n.id row is_row x.view);
        }))

    pub rests_idle : (out : List SentFrame) → WasIdle c out (parts (record c.books { pacer = pacer })) out
    rests_idle out =
        let y = picked_in c.books.pacer.ready slot n.first in
        subst (λ (p : pace.Pace). WasIdle c out (parts (record c.books { pacer = p })) out) (sym idle) (record {
          step = λ w amid. amid_same c kept n.id place n.row n.stands servers x.moved rested refl refl w out amid;
          frames = refl;
          control = refl;
          fewer = shorter pace.ready_key (λ (x : pace.Ready). x.slot) slot c.books.pacer.ready y.0 y.1 y.2;
        })

  -- its next piece costs too much
  module _ (servers : Servers) (x : HasEmitted c place n servers Short) where
    pub short_kept : IsKept (record { control = c.control; clients = c.clients; servers = servers; pool = c.pool; books = c.books; order = c.order })
    short_kept = kept_same c kept n.id place n.row n.stands servers x.moved c.books refl refl kept.room kept.booked

    pub short_ends : (out : List SentFrame)
        → WasShort c out (record { control = c.control; clients = c.clients; servers = servers; pool = c.pool; books = c.books; order = c.order }) out
    short_ends out = record {
      step = λ w amid. let a = x.view.0 in next_here a x.view.1 x.view.2 w (sym amid.host)
          ∙ server_short (seen_of c) n.id row is_row a.response a.out a.order a.base a.count (replies a) w x.view.1 (sym amid.host) x.view.2 x.view.3;
      same = λ w amid. amid_same c kept n.id place n.row n.stands servers x.moved c.books refl refl w out amid;
    }

  -- ---- a piece is sent

  module _ (from to : ℕ) (servers : Servers) (x : HasEmitted c place n servers (Sent from to)) where
    abbrev sent_row : ServerRow
    sent_row = server_sends c.control.settings c.control.last row (Sent from to)

    sent_known : KnowsClient c.control.settings.hosts n.id sent_row
    sent_known = let k = knows c kept n.id place n.row n.stands in
        record { client = k.client; life = k.life; sender = state_sends-known c.control.settings.hosts c.control.settings c.control.last row.state k.sender }

    abbrev a : IsAnswering n.row.state
    a = x.view.0

    -- the response stays
    pub response_there : option_and_then (λ (y : Placed HeldServer). state_response y.row.state) (get servers.rows n.id) ≡ Some a.response
    response_there =
        let y = stands_after c kept n.id place n.row n.stands servers sent_row x.moved in
        ap (option_and_then (λ (y : Placed HeldServer). state_response y.row.state)) y.1
        ∙ held_response c.pool y.0.state ∙ ap (λ (q : ServerRow). plain_response q.state) y.2
        ∙ ap (λ (st : State). plain_response
        (server_sends c.control.settings c.control.last (record { order = n.row.order; state = st }) (Sent from to)).state) (replies a)

    abbrev content : Work → Work
    content w = response_leaves c.control.settings n.id row
        (response_content c.control.settings (peer_cutoffs c.control.settings w.host n.id.client).cutoffs a.response a.out (range from to)) (range from to) w

    leaves_here : (w : Work) → w.host ≡ host_of c → leaves_from c.control.settings (OfServer n.id) w ≡ Some (content w)
    leaves_here w same =
        server_sends_next (seen_of c) n.id row is_row a.response a.out a.order a.base a.count (replies a) w (range from to) same x.view.1 x.view.2

    abbrev paid : HostParts
    paid = record c { books = spends (to - from) c.books }

    paid_kept : IsKept paid
    paid_kept = kept_spent c (to - from) kept

    sent_own : HasOwnOrders (host_put paid paid_kept n.id place n.row n.stands servers sent_row x.moved)
    sent_own =
        let w : Work = record { host = host_of c; told = [] } in
        let v : Work = content w in
        own_like v.host (host_put paid paid_kept n.id place n.row n.stands servers sent_row x.moved) refl refl (sym x.moved.rows)
        (server_leaves-own c.control.settings n.id (Some row) w v is_row
        (subst (λ (o : Option ServerRow). server_leaves c.control.settings n.id o w ≡ Some v) is_row (leaves_here w refl)) kept.own)

    -- with its bytes paid for, the books can follow
    module _ (calls : ℕ) (pacer : pace.Pace) (calls_are : calls ≡ c.control.settings.calls)
        (spent : pacer ≡ record c.books.pacer { credit = c.books.pacer.credit - (to - from) }) where
      pub sent_follows : CanFollowServer servers calls (record c.books { pacer = pacer }) (Stays place)
      sent_follows = can_follow paid paid_kept n.id place n.row n.stands servers sent_row x.moved sent_own sent_known calls
          (record c.books { pacer = pacer }) calls_are (λ i. record c.books { pacer = spent i })

      module _ (books : Books) (went : WentOnServer servers calls place (record c.books { pacer = pacer }) books) where
        followed_sent : books ≡ followed slot (server_duty c.control.settings sent_row) (spends (to - from) c.books)
        followed_sent = went_on paid paid_kept n.id place n.row n.stands servers sent_row x.moved calls (record c.books { pacer = pacer }) books
            calls_are (λ i. record c.books { pacer = spent i }) (sends_arrival c.control.settings c.control.last row.state) went

        pub sent_kept : (control : Control) → IsSound control → Beside c.control control
            → IsKept (record { control = control; clients = c.clients; servers = servers; pool = c.pool; books = books; order = c.order })
        sent_kept control sound beside =
            kept_stays paid paid_kept n.id place n.row n.stands servers sent_row x.moved sent_own sent_known control sound beside books followed_sent

        pub sent_step : (out : List SentFrame) (control : Control) (out' : List SentFrame)
            → ((w : Work) → IsAt w c.control out → IsAt (content w) control out') → length out' ≡ length out + 1
            → length control.marks ≡ length c.control.marks + 1
            → WasSent c out (record { control = control; clients = c.clients; servers = servers; pool = c.pool; books = books; order = c.order }) out'
        sent_step out control out' posted frames told =
            let y = picked_in c.books.pacer.ready slot n.first in
            let e = followed_sent in
            record {
              step = λ w amid.
                  let rest = rest-amid w c out amid in (
                    content w,
                    next_here a (range from to) x.view.1 w (sym amid.host) ∙ leaves_here w (sym amid.host),
                    amid-at (content w)
                        (record { control = control; clients = c.clients; servers = servers; pool = c.pool; books = books; order = c.order }) out'
                        (posted w (at-amid w c out amid))
                        (record {
                          seq = rest.seq;
                          order = rest.order;
                          credit = ap (λ (b : Books). b.pacer.credit) e ∙ ap (λ n. n - (to - from)) rest.credit;
                          refilled = ap (λ (b : Books). b.pacer.refilled) e ∙ rest.refilled;
                          clients = rest.clients;
                          servers =
                              x.moved.rows ∙ ap (λ (h : Host). insert h.servers n.id (server_sends c.control.settings h.last row (Sent from to))) amid.host;
                        }),
                  );
              frames = frames;
              told = told;
              ready =
                  let duty = server_duty c.control.settings sent_row in
                  subst (λ (b : Books). length b.pacer.ready ≤ length c.books.pacer.ready) (sym e)
                  (booked_length pace.ready_key (λ (x : pace.Ready). x.slot) slot (ready_in slot duty.waiting) c.books.pacer.ready y.0
                  (few_ready slot duty.waiting) y.1 y.2);
            }
