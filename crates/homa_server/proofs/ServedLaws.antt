-- A packet of a call that has a row.
use Rattle.std.proofs.Common.{◌≡◌, ℕ, inl, inr, sym, ap, subst, ◌∙◌, Option, None, Some, List, [], Result, Ok, Err}
use Rattle.std.specs.Option.{option_map_or, option_and_then}
use Rattle.std.specs.Result.{IfOk, OnErr}
use Rattle.plain_sets.specs.Maps.{get, insert}
use Rattle.plain_sets.proofs.MapLaws.{same_map}
use Rattle.homa_plain.specs.declared.id.CallId.{CallId}
use Rattle.homa_plain.specs.declared.id.HostId.{HostId}
use Rattle.homa_plain.specs.declared.packet.Body.{Body}
use Rattle.homa_plain.specs.declared.packet.Role.{Role}
use Rattle.homa_plain.specs.declared.settings.Settings.{Settings}
use Rattle.homa_plain.specs.Rows.{ServerRow}
use Rattle.homa_plain.specs.Rules.{Moment, Answer}
use Rattle.homa_plain.specs.AtServer.{server_gets, row_gets}
use Rattle.homa_plain.proofs.CallOrder.{call_total, call_same}
use Rattle.msg_pool.specs.Pool.{Pool}
use Rattle.host_places.specs.Placed.{Placed, StandsAt, ArePlaced, set_at}
use Rattle.host_places.proofs.PlacedLaws.{one_call, set_at-insert, get-insert_here, get-insert_else}
use Rattle.homa_in.specs.Pooled.{Moves, AreIn}
use Rattle.homa_server.specs.Held.{HeldServer, seen_state, seen_server, state_part, response_in}
use Rattle.homa_in.specs.Pieces.{piece_in, moment_with}
use Rattle.homa_server.specs.Answers.{IsAnswered, IsReply, IsSlotOf, slot_in, slot_if, is_for, IfRan, served_of, IsAsked}
use Rattle.homa_server.specs.Table.{Servers, ServerRows, Served, packet_of, request_at, response_at, server_at, server_moment}
use Rattle.homa_server.specs.declared.answers.ServerDid.{ServerDid}
use Rattle.homa_server.proofs.StandLaws.{server_is, new_is, slot_new, server_new, moved_new}

-- facts of a call that succeeds, put together
pub if_ok_all : {T E : Type 0} (r : Result T E) (A B C Q : T → Type 0) → IfOk r A → IfOk r B → IfOk r C → ((t : T) → A t → B t → C t → Q t) → IfOk r Q
if_ok_all (Ok t) A B C Q a b c h = h t a b c
if_ok_all (Err e) A B C Q a b c h = tt

-- and of one that fails
pub on_err_so : {T E : Type 0} (r : Result T E) (P Q : Type 0) → OnErr r P → (P → Q) → OnErr r Q
on_err_so (Ok t) P Q h f = tt
on_err_so (Err e) P Q h f = f h

-- what holds whether a call succeeds or fails
pub either_way : {T E : Type 0} (r : Result T E) (Q : Type 0) → IfOk r (λ t. Q) → OnErr r Q → Q
either_way (Ok t) Q a b = a
either_way (Err e) Q a b = b

pub on_err_both : {T E : Type 0} (r : Result T E) (P Q : Type 0) → OnErr r P → OnErr r Q → OnErr r (P × Q)
on_err_both (Ok t) P Q a b = tt
on_err_both (Err e) P Q a b = (a, b)

module _ (room : ℕ) (rows : ServerRows) (slot : ℕ) (placed : ArePlaced room rows) (host : HostId) (s : Settings) (id : CallId) (r : HeldServer)
    (stands : StandsAt rows id slot r) where
  -- a row that becomes what it is leaves all as it was
  pub new-same : set_at rows slot r ≡ rows
  new-same = set_at-insert room rows placed id slot r r stands ∙ same_map call_total call_same _ _ (λ q. elim (one_call q id) [
    | inl is ↦ subst (λ (p : CallId). get (insert rows id (record { place = slot; row = r })) p ≡ get rows p) (sym is) (get-insert_here rows id _ ∙ sym stands)
    | inr ne ↦ get-insert_else rows id _ q ne
  ])

  module _ (body : Body) (payload : List ℕ) (role : Role) (server : HostId) (inc at level now order : ℕ) (pool : Pool) where
    abbrev v : Servers
    v = record { host = host; settings = s; rows = rows }

    -- what the rule of the row asks is asked
    pub asked_at : (number : ℕ) (request : List ℕ)
        → ((m : Moment) (a : Answer) → IsAsked id number request (row_gets s m id body payload a (seen_server pool r) (seen_state pool r.state))) → (a : Answer)
        → IsAsked id number request
        (server_gets s (server_moment v now order pool id) (packet_of id body payload role server inc at level) a (server_at pool rows id))
    unfolding server_gets
    asked_at number request asked a =
        subst (λ (o : Option ServerRow). IsAsked id number request
        (server_gets s (server_moment v now order pool id) (packet_of id body payload role server inc at level) a o))
        (sym (server_is rows slot id r stands pool))
        (asked (server_moment v now order pool id) a)

    module _ (pool' : Pool) (after : HeldServer) (are : AreIn pool (request_at rows))
        (moves : Moves pool (state_part r.state) pool' (state_part after.state)) where
      abbrev w : ServerRows
      w = set_at rows slot after

      response_new : response_at w id ≡ response_in after.state
      response_new = ap (λ (o : Option (Placed HeldServer)). option_map_or (λ (x : Placed HeldServer). response_in x.row.state) o [])
          (new_is room rows slot placed host s id r stands after)

      pub served_at : (told : List ℕ) (allowed : List ℕ → List ℕ → ℕ → Type 0) (answer : ServerDid)
          → ((free n : ℕ) → let m = moment_with host now order free n in
          IsAnswered s m id (piece_in body payload) (λ a. row_gets s m id body payload a (seen_server pool r) (seen_state pool r.state))
          (Some (seen_server pool' after)) (response_in after.state) told answer)
          → IsSlotOf (Some slot) answer → slot_in answer ≡ slot_if (is_for body r.state) slot
          → (slot_in answer ≡ None → (after ≡ r) × (pool' ≡ pool)) → IfRan answer (λ hold. allowed told (response_in after.state) hold)
          → Served v pool (packet_of id body payload role server inc at level) now order (record { host = host; settings = s; rows = w }) pool' told
          allowed answer
      unfolding server_gets
      served_at told allowed answer did here named idle ran =
          let m = server_moment v now order pool id in
          record {
            did = λ a reply.
                ap (server_gets s m (packet_of id body payload role server inc at level) a) (server_is rows slot id r stands pool)
                ∙ did m.free m.rows a (subst (λ (bytes : List ℕ). IsReply bytes a answer) response_new reply)
                ∙ ap (λ (o : Option ServerRow). served_of s m id (piece_in body payload) o told a answer)
                (sym (server_new room rows slot placed host s id r stands pool pool' after are moves));
            ran = subst (λ (bytes : List ℕ). IfRan answer (λ hold. allowed told bytes hold)) (sym response_new) ran;
            slot = subst (λ (o : Option ℕ). IsSlotOf o answer) (sym (slot_new room rows slot placed host s id r stands after)) here;
            named = λ _. named ∙ sym (ap (option_and_then (λ (x : Placed HeldServer). slot_if (is_for body x.row.state) x.place)) stands);
            same = λ none. (
              ap (λ (x : HeldServer). record { host = host; settings = s; rows = set_at rows slot x }) (idle none).0
                  ∙ ap (λ (m : ServerRows). record { host = host; settings = s; rows = m }) new-same,
              (idle none).1,
            );
            moved = moved_new room rows slot placed host s id r stands pool pool' after are moves;
          }
