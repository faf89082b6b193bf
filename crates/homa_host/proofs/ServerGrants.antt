-- A server's message is granted up to an end.
use Rattle.std.proofs.Common.{◌≡◌, ◌≤◌, ◌+◌, ℕ, Option, Some, [], refl, sym, ap, subst, ◌∙◌, arith}
use Rattle.plain_sets.specs.Maps.{insert}
use Rattle.plain_sets.proofs.MapMembers.{same_some}
use Rattle.homa_plain.specs.declared.id.CallId.{CallId}
use Rattle.homa_plain.specs.declared.packet.Body.TheVariants as body
use Rattle.homa_plain.specs.declared.packet.Role.TheVariants.{Server}
use Rattle.homa_plain.specs.Host.{Host}
use Rattle.homa_plain.specs.Rows.{ServerRow, State, Receiving, Held, Replying, Buried}
use Rattle.homa_plain.specs.Sending.{server_granted, state_granted}
use Rattle.homa_plain.specs.Sending as sending
use Rattle.homa_plain.specs.Work.{Work}
use Rattle.homa_plain.specs.Steps.{grants_at, server_is_granted}
use Rattle.homa_plain.specs.Timers.{Place, OfServer}
use Rattle.step_laws.specs.StepLaws.{HasOwnOrders}
use Rattle.step_laws.proofs.OwnOrders.{server_granted-own}
use Rattle.msg_pool.specs.Pool.{Pool}
use Rattle.homa_in.specs.Pooled.{AreIn}
use Rattle.host_places.specs.Placed.{StandsAt}
use Rattle.homa_server.specs.Held.{HeldServer, HeldState, Arriving, Keeping, Answering, Gone, seen_server, state_part}
use Rattle.homa_server.specs.Answers.{IsGrantable}
use Rattle.homa_server.specs.Table.{Servers, ServerMoved, request_at}
use Rattle.host_view.specs.Follow.{ChangesAt}
use Rattle.host_books.specs.declared.books.Books.{Books}
use Rattle.host_books.specs.Duty.{server_duty, arrival_duty, arriving, followed}
use Rattle.host_laws.specs.Peers.{KnowsClient}
use Rattle.host_laws.proofs.Known.{state_granted-known}
use Rattle.homa_host.specs.declared.parts.HostParts.{HostParts}
use Rattle.homa_host.specs.Parts.{host_of, seen_of, IsKept}
use Rattle.homa_host.specs.Granting.{ArrivesAt, IsRaised}
use Rattle.homa_host.specs.ServerFollow.{CanFollowServer, WentOnServer}
use Rattle.homa_host.specs.declared.outcome.Change.TheVariants.{Stays}
use Rattle.homa_host.proofs.SlotRows.{server_row, server_spot, arrives_at_server, arriving_server}
use Rattle.homa_host.proofs.ClientKept.{own_like}
use Rattle.homa_host.proofs.ClientStays.{beside_none}
use Rattle.homa_host.proofs.ServerStays.{knows, all_inside, part_inside, message_at, host_put, changes_to, can_follow, went_on, kept_stays}
use Rattle.homa_host.proofs.RaisedLaws.{Arrives, some_of, one_row, raised_step}

-- a grant changes nothing that the grants' book has of a request
granted_arrival : (now offset : ℕ) (state : State) → arrival_duty (arriving (state_granted now offset state)) ≡ arrival_duty (arriving state)
granted_arrival now offset (Receiving service part base count) = refl
granted_arrival now offset (Held response release) = refl
granted_arrival now offset (Replying response out order base count) = refl
granted_arrival now offset (Buried until) = refl

-- the message that arrives at the place of a server's row
abbrev pub ServerArrives : HostParts → ℕ → sending.Arriving → Type 0
ServerArrives c place a = Arrives c.servers.rows (λ (r : HeldServer). state_part r.state) OfServer c.pool place a

pub server_arrives : (c : HostParts) → IsKept c → (slot place : ℕ) → c.control.settings.calls + place ≡ slot → (a : sending.Arriving)
    → ArrivesAt c slot a → ServerArrives c place a
server_arrives c kept slot place e a is =
    let p = arrives_at_server c kept a slot is.there is.at (omega arith) in
    let r = arriving_server c kept a p.0 place is.there p.1 (is.at ∙ sym e) in
    let has = some_of (state_part r.0.state) r.2 in
    record {
      id = p.0;
      row = r.0;
      part = has.0;
      place = p.1;
      stands = r.1;
      spot = server_spot c kept p.0 place r.0 r.1;
      has = has.1;
      is = record { inside = part_inside c kept p.0 place r.0 r.1 has.0 has.1; message = message_at c kept p.0 place r.0 r.1 has.0 a has.1 p.1 is.there };
    }

module _ (c : HostParts) (kept : IsKept c) (slot place : ℕ) (at_slot : c.control.settings.calls + place ≡ slot) (a : sending.Arriving)
    (x : ServerArrives c place a) (offset : ℕ) where
  -- it may be granted up to there
  pub server_may : a.message.granted ≤ offset → offset ≤ a.message.length → (q : CallId) (s : HeldServer) → StandsAt c.servers.rows q place s
      → IsGrantable s.state offset
  server_may low high = one_row c.servers.rows c.control.settings.served place kept.server_places (λ (r : HeldServer). IsGrantable r.state offset)
      x.id x.row x.stands (by_state x.row.state x.has) where
        by_state : (state : HeldState) → state_part state ≡ Some x.part → IsGrantable state offset
        by_state (Arriving service part base count) e =
            let same = same_some part x.part e in
            (omega (arith, ap (λ p. p.granted) same, ap (λ m. m.granted) x.is.message), omega (arith, ap (λ p. p.length) same, ap (λ m. m.length) x.is.message))
        by_state (Keeping response release) e = cc
        by_state (Answering response out order base count) e = cc
        by_state (Gone until) e = cc

  -- the table notes it
  module _ (now : ℕ) (now_is : now ≡ c.control.last) (servers : Servers)
      (notes : (id : CallId) (r : HeldServer) (pool : Pool) → StandsAt c.servers.rows id place r → AreIn pool (request_at c.servers.rows) →
      ServerMoved id c.servers pool servers pool (Some (server_granted now offset (seen_server pool r)))) where
    abbrev row : ServerRow
    row = server_granted c.control.last offset (seen_server c.pool x.row)

    moved : ServerMoved x.id c.servers c.pool servers c.pool (Some row)
    moved = subst (λ n. ServerMoved x.id c.servers c.pool servers c.pool (Some (server_granted n offset (seen_server c.pool x.row)))) now_is
        (notes x.id x.row c.pool x.stands (all_inside c kept x.id place x.row x.stands))

    known : KnowsClient c.control.settings.hosts x.id row
    known =
        let k = knows c kept x.id place x.row x.stands in
        record {
          client = k.client;
          life = k.life;
          sender = state_granted-known c.control.settings.hosts c.control.last offset
              (seen_server c.pool x.row).state k.sender;
        }

    own : HasOwnOrders (host_put c kept x.id place x.row x.stands servers row moved)
    own =
        let w : Work = record { host = host_of c; told = [] } in
        let v : Work = server_is_granted c.control.settings x.id (body.Grant offset 0) offset (Some (seen_server c.pool x.row)) w in
        own_like v.host (host_put c kept x.id place x.row x.stands servers row moved) refl refl (sym moved.rows)
        (server_granted-own c.control.settings x.id offset 0 (Some (seen_server c.pool x.row)) w (server_row c x.id place x.row x.stands) kept.own)

    -- the books can follow
    module _ (calls : ℕ) (calls_are : calls ≡ c.control.settings.calls) where
      pub granted_follows : CanFollowServer servers calls c.books (Stays place)
      granted_follows = can_follow c kept x.id place x.row x.stands servers row moved own known calls c.books calls_are refl

      module _ (books : Books) (went : WentOnServer servers calls place c.books books) where
        followed_granted : books ≡ followed (c.control.settings.calls + place) (server_duty c.control.settings row) c.books
        followed_granted = went_on c kept x.id place x.row x.stands servers row moved calls c.books books calls_are refl
            (granted_arrival c.control.last offset (seen_server c.pool x.row).state) went

        abbrev parts : HostParts
        parts = record { control = c.control; clients = c.clients; servers = servers; pool = c.pool; books = books; order = c.order }

        pub granted_kept : IsKept parts
        granted_kept =
            kept_stays c kept x.id place x.row x.stands servers row moved own known c.control kept.control (beside_none c.control) books followed_granted

        pub raised : IsRaised c parts slot a offset Server x.id c.control.id
        raised =
            let e = followed_granted in
            let h : Host = record (host_of c) { servers = insert (host_of c).servers x.id row } in
            record {
              step = raised_step c parts h a.place offset Server x.id c.control.id
                  (λ w out at. record {
                    id = refl;
                    inc = refl;
                    last = refl;
                    tuning = refl;
                    peers = refl;
                    finished = refl;
                    marked = at.marked;
                    sent = at.sent;
                    formed = at.formed;
                  })
                  (record {
                    seq = refl;
                    order = refl;
                    credit = ap (λ (b : Books). b.pacer.credit) e;
                    refilled = ap (λ (b : Books). b.pacer.refilled) e;
                    clients = refl;
                    servers = moved.rows;
                  })
                  (λ told prio.
                  let w : Work = record { host = host_of c; told = told } in
                  ap (λ (p : Place). grants_at c.control.settings p offset prio w) x.place
                  ∙ ap (λ (o : Option ServerRow). server_is_granted c.control.settings x.id (body.Grant offset prio) offset o w)
                  (server_row c x.id place x.row x.stands));
              changes = subst (λ (p : Place × ℕ). ChangesAt p.0 p.1 (seen_of c) (seen_of parts)) (λ i. (sym x.place i, at_slot i))
                  (changes_to c kept x.id place x.row x.stands servers row moved c.control (beside_none c.control) books);
              life = (knows c kept x.id place x.row x.stands).life;
            }
