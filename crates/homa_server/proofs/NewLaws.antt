-- A packet of a call that has no row.
use Rattle.std.proofs.Common.{◌≡◌, ◌≤◌, ◌+◌, ℕ, false, refl, sym, ap, subst, ◌∙◌, arith, Option, Some, None, List, [], ◌∷◌}
use Rattle.std.specs.Option.{option_map, option_map_or, option_and_then, is_some}
use Rattle.std.proofs.lemmas.Bool.{true≢false, le-leb}
use Rattle.plain_sets.specs.Maps.{get, insert, len}
use Rattle.homa_plain.specs.declared.id.CallId.{CallId}
use Rattle.homa_plain.specs.declared.id.HostId.{HostId}
use Rattle.homa_plain.specs.declared.packet.Body.{Body}
use Rattle.homa_plain.specs.declared.packet.Body.TheVariants as body
use Rattle.homa_plain.specs.declared.packet.Role.{Role}
use Rattle.homa_plain.specs.declared.settings.Settings.{Settings}
use Rattle.homa_plain.specs.Entries.{PlainFullRows}
use Rattle.homa_plain.specs.declared.packet.Packet.{Packet as WirePacket}
use Rattle.homa_plain.specs.declared.packet.Role.TheVariants.{Client}
use Rattle.homa_plain.specs.Packets.{Packet, packet_between, call_between, server_between}
use Rattle.homa_plain.specs.Rows.{ServerRow}
use Rattle.homa_plain.specs.Rules.{Moment, Answer, Piece, Did, Tells, says}
use Rattle.homa_plain.specs.AtServer.{server_gets, unknown_gets, opens, piece_of}
use Rattle.homa_plain.specs.Tombstones.{server_acked}
use Rattle.msg_pool.specs.Pool.{Pool, free_pages}
use Rattle.homa_in.specs.Part.{Part}
use Rattle.host_places.specs.Placed.{Placed}
use Rattle.host_places.proofs.PlacedLaws.{changed-new, changed-none, get-insert_here}
use Rattle.homa_in.specs.Pieces.{piece_in, moment_with}
use Rattle.homa_in.specs.Pooled.{Moves, AreIn, pages_of}
use Rattle.homa_server.specs.Held.{HeldServer, seen_server, state_part, response_in}
use Rattle.homa_server.specs.Answers.{IsAnswered, IsReply, IsSlotOf, slot_in, IfRan, has_run, served_of, IsAsked, acked_of}
use Rattle.homa_server.specs.Table.{Servers, ServerRows, Served, packet_of, request_at, response_at, server_at, server_moment}
use Rattle.homa_server.specs.declared.answers.ServerDid.{ServerDid}
use Rattle.homa_server.specs.declared.answers.ServerDid.TheVariants as did
use Rattle.homa_server.proofs.TableLaws.{server_moved, still_requests}

-- nothing is asked of a service that didn't run
no_run : (answer : ServerDid) (P : ℕ → Type 0) → has_run answer ≡ false → IfRan answer P
no_run did.Nothing P e = tt
no_run (did.Touched slot) P e = tt
no_run (did.Opened slot) P e = tt
no_run (did.Ran slot opened hold) P e = absurd (true≢false e)
no_run (did.FullRows rows) P e = tt
no_run (did.FullPages need free) P e = tt
no_run (did.Gaps slot) P e = tt
no_run (did.Busy slot) P e = tt
no_run (did.Unknown slot) P e = tt

-- a slot that is named is one
pub slot_named : (slot : ℕ) → ◌≡◌ {A = Option ℕ} (Some slot) None → ⊥
slot_named slot e = cc

-- there is no room for a further row
pub full_rows : (s : Settings) (m : Moment) (id : CallId) (p : Piece) (a : Answer) → s.served ≤ m.rows
    → opens s m id p a ≡ says m None (Tells (PlainFullRows m.host id m.rows s.served) ∷ [])
full_rows s m id p a full = rw (le-leb s.served m.rows full) refl

pub full_said : (t : Servers) (id : CallId) (now order : ℕ) (pool : Pool) (size offset version service : ℕ) (payload : List ℕ) (ack : Option (ℕ × ℕ))
    (told : List ℕ) (n : ℕ) → n ≡ len t.rows → t.settings.served ≤ n
    → let m = moment_with t.host now order (free_pages pool) (len t.rows) in
    let what = body.Data size offset version service ack in
    IsAnswered t.settings m id (piece_in what payload) (λ (a : Answer). unknown_gets t.settings m id what payload a) None [] told (did.FullRows n)
full_said t id now order pool size offset version service payload ack told n is full a _ =
    let m = moment_with t.host now order (free_pages pool) (len t.rows) in
    full_rows t.settings m id (piece_of size offset version service payload) a (subst (λ (k : ℕ). t.settings.served ≤ k) is full)
    ∙ ap (λ (k : ℕ). says m None (Tells (PlainFullRows m.host id k t.settings.served) ∷ [])) (sym is)

module _ (t : Servers) (id : CallId) (none : get t.rows id ≡ None) where
  pub request_none : request_at t.rows id ≡ None
  request_none = ap (option_and_then (λ (x : Placed HeldServer). state_part x.row.state)) none

  pub server_none : (pool : Pool) → server_at pool t.rows id ≡ None
  server_none pool = ap (option_map (λ (x : Placed HeldServer). seen_server pool x.row)) none

  -- an ACK of it does nothing
  pub acked_none : (m : Moment) (pool : Pool) → server_acked t.settings m id (server_at pool t.rows id) ≡ acked_of m id (server_at pool t.rows id) None
  unfolding server_acked
  acked_none m pool = ap (server_acked t.settings m id) (server_none pool) ∙ ap (λ (o : Option ServerRow). acked_of m id o None) (sym (server_none pool))

  module _ (now order : ℕ) (pool : Pool) where
    -- all free pages are free beside it
    abbrev pub m : Moment
    m = moment_with t.host now order (free_pages pool) (len t.rows)

    moment_is : server_moment t now order pool id ≡ m
    moment_is =
        let free : free_pages pool + pages_of (request_at t.rows id) ≡ free_pages pool = omega (arith, ap pages_of request_none) in
        ap (λ (n : ℕ). moment_with t.host now order n (len t.rows)) free

    module _ (what : Body) (payload : List ℕ) (role : Role) (server : HostId) (inc at level : ℕ) where
      abbrev pub p : Packet
      p = packet_of id what payload role server inc at level

      gets_none : (a : Answer) → server_gets t.settings (server_moment t now order pool id) p a (server_at pool t.rows id)
          ≡ unknown_gets t.settings m id what payload a
      unfolding server_gets
      gets_none a =
          ap (server_gets t.settings (server_moment t now order pool id) p a) (server_none pool)
          ∙ ap (λ (k : Moment). unknown_gets t.settings k id what payload a) moment_is

      -- what the rule asks is asked
      pub asked_new : (number : ℕ) (request : List ℕ) (a : Answer) → IsAsked id number request (unknown_gets t.settings m id what payload a)
          → IsAsked id number request (server_gets t.settings (server_moment t now order pool id) p a (server_at pool t.rows id))
      asked_new number request a asked = subst (λ (d : Did ServerRow). IsAsked id number request d) (sym (gets_none a)) asked

      module _ (pool' : Pool) (told : List ℕ) (allowed : List ℕ → List ℕ → ℕ → Type 0) (answer : ServerDid) (are : AreIn pool (request_at t.rows)) where
        answered : (rows : ServerRows) (row : Option ServerRow) (response : List ℕ) → server_at pool' rows id ≡ row → response_at rows id ≡ response
            → IsAnswered t.settings m id (piece_in what payload) (λ (a : Answer). unknown_gets t.settings m id what payload a) row response told answer
            → IsAnswered t.settings (server_moment t now order pool id) id (piece_in what payload)
            (λ (a : Answer). server_gets t.settings (server_moment t now order pool id) p a (server_at pool t.rows id))
            (server_at pool' rows id) (response_at rows id) told answer
        answered rows row response here is did a reply =
            gets_none a ∙ did a (subst (λ (bytes : List ℕ). IsReply bytes a answer) is reply)
            ∙ ap (λ (k : Moment). served_of t.settings k id (piece_in what payload) row told a answer) (sym moment_is)
            ∙ ap (λ (o : Option ServerRow). served_of t.settings (server_moment t now order pool id) id (piece_in what payload) o told a answer) (sym here)

        -- no row is made
        pub served_none : Moves pool None pool' None
            → IsAnswered t.settings m id (piece_in what payload) (λ (a : Answer). unknown_gets t.settings m id what payload a) None [] told answer
            → IsSlotOf None answer → has_run answer ≡ false → pool' ≡ pool → Served t pool p now order t pool' told allowed answer
        served_none moves did here silent idle = record {
          did = answered t.rows None [] (server_none pool')
              (ap (λ (o : Option (Placed HeldServer)). option_map_or (λ (x : Placed HeldServer). response_in x.row.state) o []) none) did;
          ran = no_run answer (λ hold. allowed told (response_at t.rows id) hold) silent;
          slot = subst (λ (o : Option ℕ). IsSlotOf o answer) (sym (ap (option_map (λ (x : Placed HeldServer). x.place)) none)) here;
          named = λ some. absurd (true≢false (sym some ∙ ap is_some none));
          same = λ none. (refl, idle);
          moved = server_moved t t.rows pool pool' id _ are (subst (λ (o : Option Part). Moves pool o pool' o) (sym request_none) moves)
              (changed-none t.rows id) refl;
        }

        -- a row is made
        module _ (place : ℕ) (row : HeldServer) (moves : Moves pool None pool' (state_part row.state)) where
          abbrev rows : ServerRows
          rows = insert t.rows id (record { place = place; row = row })

          row_new : get rows id ≡ Some (record { place = place; row = row })
          row_new = get-insert_here t.rows id _

          moves_new : Moves pool (request_at t.rows id) pool' (request_at rows id)
          moves_new =
              subst (λ (o : Option Part). Moves pool o pool' (request_at rows id)) (sym request_none)
              (subst (λ (o : Option Part). Moves pool None pool' o)
              (sym (ap (option_and_then (λ (x : Placed HeldServer). state_part x.row.state)) row_new)) moves)

          pub still_new : AreIn pool' (request_at rows)
          still_new = still_requests t.rows rows pool pool' id are moves_new (changed-new t.rows id _ none)

          pub served_new : IsAnswered t.settings m id (piece_in what payload) (λ (a : Answer). unknown_gets t.settings m id what payload a)
              (Some (seen_server pool' row)) (response_in row.state) told answer
              → IsSlotOf (Some place) answer → (slot_in answer ≡ None → ⊥)
              → IfRan answer (λ hold. allowed told (response_in row.state) hold)
              → Served t pool p now order (record t { rows = rows }) pool' told allowed answer
          served_new did here named ran =
              let response : response_at rows id ≡ response_in row.state =
              ap (λ (o : Option (Placed HeldServer)). option_map_or (λ (x : Placed HeldServer). response_in x.row.state) o []) row_new in
              record {
                did = answered rows (Some (seen_server pool' row)) (response_in row.state)
                    (ap (option_map (λ (x : Placed HeldServer). seen_server pool' x.row)) row_new) response did;
                ran = subst (λ (bytes : List ℕ). IfRan answer (λ hold. allowed told bytes hold)) (sym response) ran;
                slot = subst (λ (o : Option ℕ). IsSlotOf o answer) (sym (ap (option_map (λ (x : Placed HeldServer). x.place)) row_new)) here;
                named = λ some. absurd (true≢false (sym some ∙ ap is_some none));
                same = λ idle. absurd (named idle);
                moved = server_moved t rows pool pool' id _ are moves_new (changed-new t.rows id _ none) refl;
              }

-- ---- the same of a table that is seen as this one

module _ (t seen : Servers) (is : t ≡ seen) (id : CallId) (none : get seen.rows id ≡ None) where
  none_here : get t.rows id ≡ None
  none_here = subst (λ (x : Servers). get x.rows id ≡ None) (sym is) none

  pub seen_asked : (now order : ℕ) (pool : Pool) (what : Body) (payload : List ℕ) (number : ℕ) (request : List ℕ) (a : Answer)
      → IsAsked id number request (unknown_gets t.settings (moment_with t.host now order (free_pages pool) (len t.rows)) id what payload a)
      → (role : Role) (server : HostId) (inc at level : ℕ)
      → IsAsked id number request
      (server_gets seen.settings (server_moment seen now order pool id) (packet_of id what payload role server inc at level) a (server_at pool seen.rows id))
  seen_asked now order pool what payload number request a asked role server inc at level =
      subst (λ (x : Servers). IsAsked id number request
      (server_gets x.settings (server_moment x now order pool id) (packet_of id what payload role server inc at level) a (server_at pool x.rows id))) is
      (asked_new t id none_here now order pool what payload role server inc at level number request a asked)

  module _ (now order : ℕ) (pool : Pool) (are : AreIn pool (request_at seen.rows)) (what : Body) (payload : List ℕ) (pool' : Pool) (told : List ℕ)
      (allowed : List ℕ → List ℕ → ℕ → Type 0) (answer : ServerDid) where
    abbrev pub IsGiven : Option ServerRow → List ℕ → Type 0
    IsGiven row response =
        let k = moment_with t.host now order (free_pages pool) (len t.rows) in
        IsAnswered t.settings k id (piece_in what payload) (λ (a : Answer). unknown_gets t.settings k id what payload a) row response told answer

    are_here : AreIn pool (request_at t.rows)
    are_here = subst (λ (x : Servers). AreIn pool (request_at x.rows)) (sym is) are

    pub seen_none : Moves pool None pool' None → IsGiven None [] → IsSlotOf None answer → has_run answer ≡ false → pool' ≡ pool
        → (role : Role) (server : HostId) (inc at level : ℕ)
        → Served seen pool (packet_of id what payload role server inc at level) now order seen pool' told allowed answer
    seen_none moves did here silent idle role server inc at level =
        subst (λ (x : Servers). Served x pool (packet_of id what payload role server inc at level) now order x pool' told allowed answer) is
        (served_none t id none_here now order pool what payload role server inc at level pool' told allowed answer are_here moves did here silent idle)

    module _ (place : ℕ) (row : HeldServer) (after : ServerRows) (made : after ≡ insert t.rows id (record { place = place; row = row }))
        (moves : Moves pool None pool' (state_part row.state)) where
      pub seen_new : IsGiven (Some (seen_server pool' row)) (response_in row.state) → IsSlotOf (Some place) answer → (slot_in answer ≡ None → ⊥)
          → IfRan answer (λ hold. allowed told (response_in row.state) hold)
          → (role : Role) (server : HostId) (inc at level : ℕ) → Served seen pool (packet_of id what payload role server inc at level) now order
          (record t { rows = after }) pool' told allowed answer
      seen_new did here named ran role server inc at level =
          subst (λ (x : Servers). Served x pool (packet_of id what payload role server inc at level) now order
          (record t { rows = after }) pool' told allowed answer) is
          (subst (λ (rows : ServerRows). Served t pool (packet_of id what payload role server inc at level) now order
          (record t { rows = rows }) pool' told allowed answer) (sym made)
          (served_new t id none_here now order pool what payload role server inc at level pool' told allowed answer are_here place row moves did here
          named ran))

      pub seen_still : AreIn pool' (request_at after)
      seen_still =
          subst (λ (rows : ServerRows). AreIn pool' (request_at rows)) (sym made)
          (still_new t id none_here now order pool what payload Client t.host 0 0 0 pool' told allowed answer are_here place row moves)

-- a packet that its client sent, as one of its call
pub sent_is : (from host : HostId) (w : WirePacket) (payload : List ℕ) (id : CallId) → w.role ≡ Client
    → id ≡ record { client = from; inc = w.inc; seq = w.seq }
    → packet_of id w.body payload w.role (server_between w.role from host) w.sender w.at w.level ≡ packet_between from host w payload
sent_is from host w payload id e is =
    ap (λ (q : CallId). packet_of q w.body payload w.role (server_between w.role from host) w.sender w.at w.level)
    (is ∙ ap (λ (r : Role). call_between r from host w.inc w.seq) (sym e))
