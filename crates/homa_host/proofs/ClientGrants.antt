-- A client's message is granted up to an end.
use Rattle.std.proofs.Common.{◌≡◌, ◌<◌, ◌≤◌, ℕ, Option, Some, None, [], refl, sym, ap, subst, ◌∙◌, arith}
use Rattle.std.specs.Prelude.{IsSomeAnd}
use Rattle.plain_sets.specs.Maps.{insert}
use Rattle.homa_plain.specs.declared.id.CallId.{CallId}
use Rattle.homa_plain.specs.declared.packet.Body.TheVariants as body
use Rattle.homa_plain.specs.declared.packet.Role.TheVariants.{Client}
use Rattle.homa_plain.specs.Host.{Host}
use Rattle.homa_plain.specs.Rows.{ClientRow}
use Rattle.homa_plain.specs.Incoming.{Incoming}
use Rattle.homa_plain.specs.Sending.{Arriving, client_granted, granted_part}
use Rattle.homa_plain.specs.Work.{Work}
use Rattle.homa_plain.specs.Steps.{grants_at, client_is_granted}
use Rattle.homa_plain.specs.Timers.{Place, OfClient}
use Rattle.step_laws.specs.StepLaws.{HasOwnOrders}
use Rattle.step_laws.proofs.OwnOrders.{client_granted-own}
use Rattle.msg_pool.specs.Pool.{Pool}
use Rattle.homa_in.specs.Part.{Part}
use Rattle.homa_in.specs.Pooled.{IsInPool}
use Rattle.host_places.specs.Placed.{StandsAt}
use Rattle.homa_client.specs.Held.{HeldRow, seen_row}
use Rattle.homa_client.specs.AtTable.{Clients, Moved, MayGrant}
use Rattle.host_view.specs.Follow.{ChangesAt}
use Rattle.host_books.specs.declared.books.Books.{Books}
use Rattle.host_books.specs.Duty.{client_duty, arrival_duty, followed}
use Rattle.host_laws.specs.Peers.{KnowsServer}
use Rattle.host_laws.proofs.Known.{client_granted-known}
use Rattle.homa_host.specs.declared.parts.HostParts.{HostParts}
use Rattle.homa_host.specs.Parts.{host_of, seen_of, IsKept}
use Rattle.homa_host.specs.Granting.{ArrivesAt, IsRaised}
use Rattle.homa_host.specs.Outcomes.{CanFollowClient, WentOnClient}
use Rattle.homa_host.specs.declared.outcome.Change.TheVariants.{Stays}
use Rattle.homa_host.proofs.SlotRows.{client_row, client_spot, arrives_at_client, arriving_client}
use Rattle.homa_host.proofs.ClientKept.{own_like, host_after}
use Rattle.homa_host.proofs.ClientStays.{beside_none, stood, knows, owned, inside, part_inside, message_at, changes_to, can_follow, went_on, kept_stays}
use Rattle.homa_host.proofs.RaisedLaws.{Arrives, some_of, one_row, raised_step}

-- a grant changes nothing that the grants' book has of a message
granted_arrival : (offset : ℕ) (part : Option Incoming) → arrival_duty (granted_part offset part) ≡ arrival_duty part
granted_arrival offset None = refl
granted_arrival offset (Some p) = refl

-- the message that arrives at a client's slot
abbrev pub ClientArrives : HostParts → ℕ → Arriving → Type 0
ClientArrives c slot a = Arrives c.clients.rows (λ (r : HeldRow). r.part) OfClient c.pool slot a

pub client_arrives : (c : HostParts) → IsKept c → (slot : ℕ) → slot < c.control.settings.calls → (a : Arriving) → ArrivesAt c slot a → ClientArrives c slot a
client_arrives c kept slot below a is =
    let p = arrives_at_client c kept a slot is.there is.at below in
    let r = arriving_client c kept a p.0 slot is.there p.1 is.at in
    let has = some_of r.0.part r.2 in
    record {
      id = p.0;
      row = r.0;
      part = has.0;
      place = p.1;
      stands = r.1;
      spot = client_spot c kept p.0 slot r.0 r.1;
      has = has.1;
      is = record { inside = part_inside c kept p.0 slot r.0 r.1 has.0 has.1; message = message_at c kept p.0 slot r.0 r.1 has.0 a has.1 p.1 is.there };
    }

module _ (c : HostParts) (kept : IsKept c) (slot : ℕ) (a : Arriving) (x : ClientArrives c slot a) (offset : ℕ) where
  -- it may be granted up to there
  pub client_may : a.message.granted ≤ offset → offset ≤ a.message.length → MayGrant c.clients.rows slot offset
  client_may low high = one_row c.clients.rows c.control.settings.calls slot kept.client_places
      (λ (r : HeldRow). IsSomeAnd r.part (λ (p : Part). (p.granted ≤ offset) × (offset ≤ p.length))) x.id x.row x.stands
      (subst (λ (o : Option Part). IsSomeAnd o (λ (p : Part). (p.granted ≤ offset) × (offset ≤ p.length))) (sym x.has)
      (omega (arith, ap (λ m. m.granted) x.is.message), omega (arith, ap (λ m. m.length) x.is.message)))

  -- the table notes it
  module _ (now : ℕ) (now_is : now ≡ c.control.last) (clients : Clients)
      (notes : (id : CallId) (r : HeldRow) (pool : Pool) → StandsAt c.clients.rows id slot r → IsInPool pool r.part →
      Moved id c.clients pool clients pool (Some (client_granted now offset (seen_row pool r)))) where
    abbrev row : ClientRow
    row = client_granted c.control.last offset (seen_row c.pool x.row)

    moved : Moved x.id c.clients c.pool clients c.pool (Some row)
    moved = subst (λ n. Moved x.id c.clients c.pool clients c.pool (Some (client_granted n offset (seen_row c.pool x.row)))) now_is
        (notes x.id x.row c.pool x.stands (inside c kept x.id slot x.row x.stands))

    known : KnowsServer c.control.settings.hosts row
    known = client_granted-known c.control.settings.hosts c.control.last offset (seen_row c.pool x.row) (knows c kept x.id slot x.row x.stands)

    own : HasOwnOrders (host_after c kept x.id slot (stood c kept x.id slot x.row x.stands) clients c.pool (Some row) moved c.order)
    own =
        let w : Work = record { host = host_of c; told = [] } in
        let v : Work = client_is_granted c.control.settings x.id (body.Grant offset 0) offset (Some (seen_row c.pool x.row)) w in
        own_like v.host (host_after c kept x.id slot (stood c kept x.id slot x.row x.stands) clients c.pool (Some row) moved c.order) refl (sym moved.rows) refl
        (client_granted-own c.control.settings x.id offset 0 (Some (seen_row c.pool x.row)) w (client_row c x.id slot x.row x.stands) kept.own)

    -- the books can follow
    pub granted_follows : CanFollowClient clients c.books (Stays slot)
    granted_follows = can_follow c kept x.id slot x.row x.stands clients row moved own known c.books refl

    module _ (books : Books) (went : WentOnClient clients slot c.books books) where
      followed_granted : books ≡ followed slot (client_duty c.control.settings row) c.books
      followed_granted = went_on c kept x.id slot x.row x.stands clients row moved c.books books refl
          (granted_arrival offset (seen_row c.pool x.row).part) went

      abbrev parts : HostParts
      parts = record { control = c.control; clients = clients; servers = c.servers; pool = c.pool; books = books; order = c.order }

      pub granted_kept : IsKept parts
      granted_kept =
          kept_stays c kept x.id slot x.row x.stands clients row moved own known c.control kept.control (beside_none c.control) books followed_granted

      pub raised : IsRaised c parts slot a offset Client x.id x.row.server
      raised =
          let e = followed_granted in
          let h : Host = record (host_of c) { clients = insert (host_of c).clients x.id row } in
          record {
            step = raised_step c parts h a.place offset Client x.id x.row.server
                (λ w out at. record {
                  id = refl;
                  inc = refl;
                  last = refl;
                  tuning = refl;
                  peers = refl;
                  finished = refl;
                  marked = at.marked;
                  sent = at.sent;
                  formed = at.formed;
                })
                (record {
                  seq = ap (λ (t : Clients). t.seq) moved.kept;
                  order = refl;
                  credit = ap (λ (b : Books). b.pacer.credit) e;
                  refilled = ap (λ (b : Books). b.pacer.refilled) e;
                  clients = moved.rows;
                  servers = refl;
                })
                (λ told prio.
                let w : Work = record { host = host_of c; told = told } in
                ap (λ (p : Place). grants_at c.control.settings p offset prio w) x.place
                ∙ ap (λ (o : Option ClientRow). client_is_granted c.control.settings x.id (body.Grant offset prio) offset o w)
                (client_row c x.id slot x.row x.stands));
            changes = subst (λ (p : Place). ChangesAt p slot (seen_of c) (seen_of parts)) (sym x.place)
                (changes_to c kept x.id slot x.row x.stands clients row moved c.control (beside_none c.control) books);
            life = subst (λ n. 1 ≤ n) (sym (owned c kept x.id slot x.row x.stands).1) kept.control.inc;
          }
