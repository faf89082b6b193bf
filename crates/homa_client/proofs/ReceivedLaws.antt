-- What a packet does to a table, from what it does to the row of its call.
use Rattle.std.proofs.Common.{◌≡◌, ℕ, Bool, true, false, not, ◌&&◌, nat_lt, if◌then◌else◌, cond, ltb, refl, sym, ap, subst, ◌∙◌, List, Option, Some, None}
use Rattle.std.specs.Option.{option_map, option_and_then}
use Rattle.plain_sets.specs.Maps.{get}
use Rattle.homa_plain.specs.declared.id.CallId.{CallId}
use Rattle.homa_plain.specs.declared.id.HostId.{HostId}
use Rattle.homa_plain.specs.declared.packet.Role.{Role}
use Rattle.homa_plain.specs.declared.packet.Role.TheVariants.{Server}
use Rattle.homa_plain.specs.declared.packet.Packet.{Packet as WirePacket}
use Rattle.homa_plain.specs.Calls.{is_host}
use Rattle.homa_plain.specs.Packets.{Packet, sender, packet_between, call_between, server_between}
use Rattle.homa_plain.specs.Rows.{ClientRow}
use Rattle.homa_plain.specs.Rules.{Moment, Did, keeps}
use Rattle.homa_plain.specs.AtClient.{client_gets, unasked, answered, refreshed, renewed}
use Rattle.msg_pool.specs.Pool.{Pool}
use Rattle.homa_in.specs.Part.{Part}
use Rattle.host_places.specs.Placed.{Placed, StandsAt, ArePlaced, set_at}
use Rattle.host_places.proofs.PlacedLaws.{changed-none, get-remove_here}
use Rattle.homa_in.specs.Pooled.{Moves, AreIn}
use Rattle.homa_in.specs.Pieces.{piece_in}
use Rattle.homa_in.proofs.MoveLaws.{still}
use Rattle.homa_client.specs.Held.{HeldRow, seen_row}
use Rattle.homa_client.specs.Gives.{Gave, HasNone, moment_of, did_of}
use Rattle.homa_client.specs.AtTable.{Clients, row_at, part_at, Moved, Received, answer_of, slot_in, HasLeft, told_of, rows_left}
use Rattle.homa_client.specs.declared.answers.ClientDid.{ClientDid}
use Rattle.homa_client.specs.declared.answers.ClientDid.TheVariants.{Nothing}
use Rattle.homa_client.specs.declared.answers.ClientDid.TheVariants as did
use Rattle.homa_client.specs.declared.answers.RowDid.{RowDid}
use Rattle.homa_client.specs.declared.answers.RowDid.TheVariants.{Touched, Opened, Done, Full, Gaps, Busy, Forgotten}
use Rattle.homa_client.proofs.TableLaws.{moved_in, put_stands, put_moved, put_in, gone_moved, gone_in}

-- a packet of a server, as the client of its call sees it
abbrev pub from_server : CallId → HostId → WirePacket → List ℕ → Packet
from_server id from w payload = record {
  role = Server;
  id = id;
  server = from;
  inc = w.sender;
  at = w.at;
  level = w.level;
  body = w.body;
  payload = payload;
}

pub of_server : (from host : HostId) (w : WirePacket) (payload : List ℕ) (id : CallId) → w.role ≡ Server
    → id ≡ record { client = host; inc = w.inc; seq = w.seq }
    → from_server id from w payload ≡ packet_between from host w payload
of_server from host w payload id e is = ap (λ (id : CallId). from_server id from w payload) is ∙ ap (λ (role : Role). record {
  role = role;
  id = call_between role from host w.inc w.seq;
  server = server_between role from host;
  inc = w.sender;
  at = w.at;
  level = w.level;
  body = w.body;
  payload = payload;
}) (sym e)

-- so what is known of one is known of the other
pub between : (from : HostId) (w : WirePacket) (payload : List ℕ) (id : CallId) → w.role ≡ Server
    → (t : Clients) → id ≡ record { client = t.host; inc = w.inc; seq = w.seq }
    → (pool : Pool) (now order : ℕ) (new : Clients) (pool' : Pool) (told : List ℕ) (answer : ClientDid)
    → Received t pool (from_server id from w payload) now order new pool' told answer
    → Received t pool (packet_between from t.host w payload) now order new pool' told answer
between from w payload id e t is pool now order new pool' told answer got =
    subst (λ (p : Packet). Received t pool p now order new pool' told answer) (of_server from t.host w payload id e is) got

-- the place of a row, if the packet is for it
abbrev taking : Packet → Option (Placed HeldRow) → Option ℕ
taking p o = option_and_then (λ (x : Placed HeldRow). if is_host (sender p) x.row.server && not (nat_lt p.inc x.row.seen) then Some x.place else None) o

-- an answer without a place says nothing of the row
nothing_left : (answer : ClientDid) (row : Option ClientRow) → slot_in answer ≡ None → HasLeft answer row
nothing_left did.Nothing row e = tt
nothing_left (did.Touched slot) row e = cc
nothing_left (did.Opened slot) row e = cc
nothing_left (did.Done slot id opened) row e = cc
nothing_left (did.Full slot id need free) row e = cc
nothing_left (did.Gaps slot id) row e = cc
nothing_left (did.Busy slot) row e = cc
nothing_left did.Ack row e = tt
nothing_left (did.Forgotten slot id) row e = cc

-- ---- where nothing happens

module _ (t : Clients) (pool : Pool) (p : Packet) (now order : ℕ) (told : List ℕ) (are : AreIn pool (part_at t.rows)) where
  stays : Moved p.id t pool t pool (row_at pool t.rows p.id)
  stays = moved_in p.id t t pool refl (changed-none t.rows p.id) (still pool (part_at t.rows p.id) (are.within p.id))

  -- the call isn't live
  pub received_none : get t.rows p.id ≡ None → (answer : ClientDid) → ((m : Moment) → unasked m p.body ≡ answer_of m p None told answer)
      → slot_in answer ≡ None → Received t pool p now order t pool told answer
  unfolding client_gets
  received_none none answer did slot = record {
    did = λ rows.
        let m = moment_of t.host now order pool (part_at t.rows p.id) rows in
        subst (λ (o : Option ClientRow). client_gets t.settings m p o ≡ answer_of m p o told answer)
        (sym (ap (option_map (λ (x : Placed HeldRow). seen_row pool x.row)) none)) (did m);
    slot = slot ∙ sym (ap (taking p) none);
    same = λ _. (refl, refl);
    left = nothing_left answer (row_at pool t.rows p.id) slot;
    moved = stays;
  }

  -- the packet isn't for the row
  pub received_other : (slot : ℕ) (r : HeldRow) → StandsAt t.rows p.id slot r → false ≡ (is_host (sender p) r.server && not (ltb p.inc r.seen))
      → Received t pool p now order t pool told Nothing
  unfolding client_gets
  received_other slot r stands refused = record {
    did = λ rows.
        let m = moment_of t.host now order pool (part_at t.rows p.id) rows in
        subst (λ (o : Option ClientRow). client_gets t.settings m p o ≡ answer_of m p o told Nothing)
        (sym (ap (option_map (λ (x : Placed HeldRow). seen_row pool x.row)) stands))
        (other (is_host (sender p) r.server) (ltb p.inc r.seen) refused (keeps m (seen_row pool r)) _);
    slot = sym (ap (taking p) stands ∙ ap (λ b. cond b (Some slot) None) (sym refused));
    same = λ _. (refl, refl);
    left = tt;
    moved = stays;
  } where
    other : (a b : Bool) → false ≡ (a && not b) → (x y : Did ClientRow) → cond (not a) x (cond b x y) ≡ x
    other true true e x y = refl
    other true false e x y = cc
    other false b e x y = refl

-- ---- where the row answers

-- the row afterwards
abbrev row_after : RowDid → ClientRow → Option ClientRow
row_after Touched row = Some row
row_after Opened row = Some row
row_after (Done opened) row = None
row_after (Full need free) row = Some row
row_after Gaps row = Some row
row_after Busy row = Some row
row_after Forgotten row = None

-- the answer of the table says what the row's does
answers_are : (m : Moment) (p : Packet) (slot : ℕ) (row : ClientRow) (told : List ℕ) (d : RowDid)
    → did_of m p.id (piece_in p.body p.payload) row told d ≡ answer_of m p (row_after d row) told (told_of slot p.id d)
answers_are m p slot row told Touched = refl
answers_are m p slot row told Opened = refl
answers_are m p slot row told (Done true) = refl
answers_are m p slot row told (Done false) = refl
answers_are m p slot row told (Full need free) = refl
answers_are m p slot row told Gaps = refl
answers_are m p slot row told Busy = refl
answers_are m p slot row told Forgotten = refl

slots_are : (slot : ℕ) (id : CallId) (d : RowDid) → slot_in (told_of slot id d) ≡ Some slot
slots_are slot id Touched = refl
slots_are slot id Opened = refl
slots_are slot id (Done opened) = refl
slots_are slot id (Full need free) = refl
slots_are slot id Gaps = refl
slots_are slot id Busy = refl
slots_are slot id Forgotten = refl

left_is : (slot : ℕ) (id : CallId) (d : RowDid) (row : ClientRow) → HasLeft (told_of slot id d) (row_after d row)
left_is slot id Touched row = refl
left_is slot id Opened row = refl
left_is slot id (Done opened) row = refl
left_is slot id (Full need free) row = refl
left_is slot id Gaps row = refl
left_is slot id Busy row = refl
left_is slot id Forgotten row = refl

module _ (t : Clients) (room : ℕ) (placed : ArePlaced room t.rows) (id : CallId) (slot : ℕ) (r new : HeldRow) (stands : StandsAt t.rows id slot r)
    (pool pool' : Pool) (are : AreIn pool (part_at t.rows))
    (moves : Moves pool r.part pool' new.part) where
  abbrev left : RowDid → Clients
  left d = record t { rows = rows_left (set_at t.rows slot new) id d }

  row_left_at : (d : RowDid) → row_at pool' (left d).rows id ≡ row_after d (seen_row pool' new)
  row_left_at Touched = ap (option_map (λ (x : Placed HeldRow). seen_row pool' x.row)) (put_stands t room placed id slot r new stands)
  row_left_at Opened = ap (option_map (λ (x : Placed HeldRow). seen_row pool' x.row)) (put_stands t room placed id slot r new stands)
  row_left_at (Done opened) = ap (option_map (λ (x : Placed HeldRow). seen_row pool' x.row)) (get-remove_here (set_at t.rows slot new) id)
  row_left_at (Full need free) = ap (option_map (λ (x : Placed HeldRow). seen_row pool' x.row)) (put_stands t room placed id slot r new stands)
  row_left_at Gaps = ap (option_map (λ (x : Placed HeldRow). seen_row pool' x.row)) (put_stands t room placed id slot r new stands)
  row_left_at Busy = ap (option_map (λ (x : Placed HeldRow). seen_row pool' x.row)) (put_stands t room placed id slot r new stands)
  row_left_at Forgotten = ap (option_map (λ (x : Placed HeldRow). seen_row pool' x.row)) (get-remove_here (set_at t.rows slot new) id)

  moved_left : (d : RowDid) → HasNone d new.part → Moved id t pool (left d) pool' (row_after d (seen_row pool' new))
  moved_left Touched none = put_moved t room placed id slot r new stands pool pool' are moves _ refl
  moved_left Opened none = put_moved t room placed id slot r new stands pool pool' are moves _ refl
  moved_left (Done opened) none = gone_moved t room placed id slot r new stands pool pool' are moves none _ refl
  moved_left (Full need free) none = put_moved t room placed id slot r new stands pool pool' are moves _ refl
  moved_left Gaps none = put_moved t room placed id slot r new stands pool pool' are moves _ refl
  moved_left Busy none = put_moved t room placed id slot r new stands pool pool' are moves _ refl
  moved_left Forgotten none = gone_moved t room placed id slot r new stands pool pool' are moves none _ refl

  pub in_left : (d : RowDid) → HasNone d new.part → AreIn pool' (part_at (left d).rows)
  in_left Touched none = put_in t room placed id slot r new stands pool pool' are moves
  in_left Opened none = put_in t room placed id slot r new stands pool pool' are moves
  in_left (Done opened) none = gone_in t room placed id slot r new stands pool pool' are moves none
  in_left (Full need free) none = put_in t room placed id slot r new stands pool pool' are moves
  in_left Gaps none = put_in t room placed id slot r new stands pool pool' are moves
  in_left Busy none = put_in t room placed id slot r new stands pool pool' are moves
  in_left Forgotten none = gone_in t room placed id slot r new stands pool pool' are moves none

module _ (t : Clients) (room : ℕ) (placed : ArePlaced room t.rows) (p : Packet) (slot : ℕ) (r new : HeldRow) (stands : StandsAt t.rows p.id slot r)
    (pool pool' : Pool) (are : AreIn pool (part_at t.rows)) (now order : ℕ) (told : List ℕ) (d : RowDid) where
  -- the row gave its answer
  pub received_gave : true ≡ (is_host (sender p) r.server && not (ltb p.inc r.seen))
      → ((rows : ℕ) → let m = moment_of t.host now order pool r.part rows in
      Gave m p.id (piece_in p.body p.payload) (answered t.settings m p.id p.body p.payload (refreshed now p.body (renewed p.inc (seen_row pool r))))
      pool r pool' new told d)
      → Received t pool p now order (record t { rows = rows_left (set_at t.rows slot new) p.id d }) pool' told (told_of slot p.id d)
  unfolding client_gets
  received_gave takes gave = record {
    did = λ rows.
        let here = row_left_at t room placed p.id slot r new stands pool pool' are (gave 0).moves d in
        let m' = moment_of t.host now order pool r.part rows in
        subst (λ (part : Option Part). let m = moment_of t.host now order pool part rows in
        client_gets t.settings m p (row_at pool t.rows p.id) ≡ answer_of m p (row_at pool' (rows_left (set_at t.rows slot new) p.id d) p.id) told
        (told_of slot p.id d))
        (sym (ap (λ (o : Option (Placed HeldRow)). elim o [ None ↦ None | Some x ↦ x.row.part ]) stands))
        (ap (client_gets t.settings m' p) (ap (option_map (λ (x : Placed HeldRow). seen_row pool x.row)) stands)
        ∙ mine (is_host (sender p) r.server) (ltb p.inc r.seen) takes (keeps m' (seen_row pool r)) _
        ∙ (gave rows).did ∙ answers_are m' p slot (seen_row pool' new) told d
        ∙ ap (λ (o : Option ClientRow). answer_of m' p o told (told_of slot p.id d)) (sym here));
    slot = slots_are slot p.id d ∙ sym (ap (taking p) stands ∙ ap (λ b. cond b (Some slot) None) (sym takes));
    same = λ none. absurd (nothing (sym (slots_are slot p.id d) ∙ none));
    left =
        let here = row_left_at t room placed p.id slot r new stands pool pool' are (gave 0).moves d in
        subst (λ (o : Option ClientRow). HasLeft (told_of slot p.id d) o) (sym here) (left_is slot p.id d (seen_row pool' new));
    moved =
        let here = row_left_at t room placed p.id slot r new stands pool pool' are (gave 0).moves d in
        subst (λ (o : Option ClientRow). Moved p.id t pool (record t { rows = rows_left (set_at t.rows slot new) p.id d }) pool' o) (sym here)
        (moved_left t room placed p.id slot r new stands pool pool' are (gave 0).moves d (gave 0).gone);
  } where
    nothing : Some slot ≡ None → ⊥
    nothing e = cc

    mine : (a b : Bool) → true ≡ (a && not b) → (x y : Did ClientRow) → cond (not a) x (cond b x y) ≡ y
    mine true true e x y = cc
    mine true false e x y = refl
    mine false b e x y = cc

  pub received_in : ((rows : ℕ) → let m = moment_of t.host now order pool r.part rows in
      Gave m p.id (piece_in p.body p.payload) (answered t.settings m p.id p.body p.payload (refreshed now p.body (renewed p.inc (seen_row pool r))))
      pool r pool' new told d)
      → AreIn pool' (part_at (rows_left (set_at t.rows slot new) p.id d))
  received_in gave = in_left t room placed p.id slot r new stands pool pool' are (gave 0).moves d (gave 0).gone
