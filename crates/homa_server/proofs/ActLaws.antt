-- A row whose timer is due.
use Rattle.std.proofs.Common.{◌≡◌, ◌≤◌, ◌⊎◌, ℕ, true, false, inl, inr, refl, sym, ap, subst, ◌∙◌, Option, Some, None}
use Rattle.std.specs.Option.{IsSome, IsSomeAnd}
use Rattle.plain_sets.specs.Maps.{get, remove}
use Rattle.homa_plain.specs.declared.id.CallId.{CallId}
use Rattle.homa_plain.specs.declared.id.HostId.{HostId}
use Rattle.homa_plain.specs.declared.settings.Settings.{Settings}
use Rattle.homa_plain.specs.Rows.{ServerRow}
use Rattle.homa_plain.specs.Rules.{Moment}
use Rattle.homa_plain.specs.Timers.{server_deadline, server_acts}
use Rattle.msg_pool.specs.Pool.{Pool}
use Rattle.homa_in.specs.Part.{Part}
use Rattle.host_places.specs.Placed.{StandsAt, ArePlaced, spot_at, set_at}
use Rattle.homa_in.specs.Pooled.{AreIn, Moves}
use Rattle.homa_server.specs.Held.{HeldServer, seen_server, state_part}
use Rattle.homa_server.specs.Answers.{HasTimer, HasServerActed, acted_of, after_act, goes}
use Rattle.homa_server.specs.Table.{ServerRows, ServerMoved, request_at, server_at}
use Rattle.homa_server.specs.declared.answers.ServerAct.{ServerAct}
use Rattle.homa_server.specs.declared.answers.ServerAct.TheVariants as act
use Rattle.homa_server.proofs.StandLaws.{in_pool, found_spot, rest_none, rest_others, stands_new, server_gone, still_gone, moved_gone}

some_and : (o : Option ℕ) (P : ℕ → Type 0) → IsSomeAnd o P → IsSome o
some_and None P h = absurd h
some_and (Some n) P h = refl

-- a row that is due has a timer
pub timer_runs : (rows : ServerRows) (slot : ℕ) (id : CallId) (r : HeldServer) → StandsAt rows id slot r → (s : Settings) (pool : Pool) (now : ℕ)
    → AreIn pool (request_at rows)
    → IsSomeAnd (server_deadline s (seen_server pool r)) (λ at. at ≤ now) → HasTimer s r
unfolding server_deadline
timer_runs rows slot id r stands s pool now are due = record { pool = pool; within = in_pool rows slot id r stands pool are; runs = some_and _ _ due }

-- which acts end a row
pub ends : (a : ServerAct) → ((q : CallId) × (a ≡ act.Drop q)) ⊎ ((q : CallId) × (a ≡ act.Free q)) → goes a ≡ true
ends a (inl is) = ap goes is.1
ends a (inr is) = ap goes is.1

pub stays : (a : ServerAct) → ((q : CallId) → a ≡ act.Drop q → ⊥) → ((q : CallId) → a ≡ act.Free q → ⊥) → goes a ≡ false
stays (act.Resend from to) drop free = refl
stays (act.Drop q) drop free = absurd (drop q refl)
stays act.Release drop free = refl
stays act.NeedAck drop free = refl
stays (act.Bury q until) drop free = refl
stays (act.Free q) drop free = absurd (free q refl)

pub ends_left : (a : ServerAct) → goes a ≡ true → (o : Option ServerRow) → o ≡ None → HasServerActed a o
ends_left (act.Resend from to) e o is = cc
ends_left (act.Drop q) e o is = is
ends_left act.Release e o is = cc
ends_left act.NeedAck e o is = cc
ends_left (act.Bury q until) e o is = cc
ends_left (act.Free q) e o is = is

pub stays_left : (a : ServerAct) → goes a ≡ false → (o : Option ServerRow) (row : ServerRow) → o ≡ Some row → HasServerActed a o
stays_left (act.Resend from to) e o row is = subst (λ (o : Option ServerRow). IsSome o) (sym is) refl
stays_left (act.Drop q) e o row is = cc
stays_left act.Release e o row is = subst (λ (o : Option ServerRow). IsSome o) (sym is) refl
stays_left act.NeedAck e o row is = subst (λ (o : Option ServerRow). IsSome o) (sym is) refl
stays_left (act.Bury q until) e o row is = subst (λ (o : Option ServerRow). IsSome o) (sym is) refl
stays_left (act.Free q) e o row is = cc

pub after-ends : (pool : Pool) (row : HeldServer) (a : ServerAct) → goes a ≡ true → after_act pool row a ≡ None
after-ends pool row a e = rw e refl

pub after-stays : (pool : Pool) (row : HeldServer) (a : ServerAct) → goes a ≡ false → after_act pool row a ≡ Some (seen_server pool row)
after-stays pool row a e = rw e refl

-- what the row that is found did is what the call's row did
pub acts_did : (s : Settings) (m : Moment) (pool : Pool) (id₀ id : CallId) (row r after : HeldServer) (a : ServerAct) (o : Option ServerRow)
    → id₀ ≡ id → row ≡ r
    → server_acts s m id₀ (seen_server pool row) ≡ acted_of s m id₀ (after_act pool after a) a → after_act pool after a ≡ o
    → server_acts s m id (seen_server pool r) ≡ acted_of s m id o a
acts_did s m pool id₀ id row r after a o same here did is =
    subst (λ (q : CallId). server_acts s m q (seen_server pool r) ≡ acted_of s m q o a) same
    (subst (λ (x : HeldServer). server_acts s m id₀ (seen_server pool x) ≡ acted_of s m id₀ o a) here
    (subst (λ (x : Option ServerRow). server_acts s m id₀ (seen_server pool row) ≡ acted_of s m id₀ x a) is did))

-- the row that is taken out, after it became another
module _ (room : ℕ) (rows : ServerRows) (slot : ℕ) (placed : ArePlaced room rows) (host : HostId) (s : Settings) (id : CallId) (r : HeldServer)
    (stands : StandsAt rows id slot r) (after : HeldServer)
    (x : CallId × HeldServer) (placed' : ArePlaced room (set_at rows slot after)) (found : spot_at (set_at rows slot after) slot ≡ Some x)
    (rest : ServerRows) (removed : rest ≡ remove (set_at rows slot after) x.0) where
  pub out_is : x ≡ (id, after)
  out_is = found_spot room (set_at rows slot after) slot placed' x (sym found) id after (stands_new room rows slot placed host s id r stands after)

  without : rest ≡ remove (set_at rows slot after) id
  without = removed ∙ ap (λ (y : CallId × HeldServer). remove (set_at rows slot after) y.0) out_is

  pub out_none : get rest id ≡ None
  out_none = ap (λ (m : ServerRows). get m id) without ∙ rest_none room rows slot placed host s id r stands after

  pub out_others : (q : CallId) → (q ≡ id → ⊥) → get rest q ≡ get rows q
  out_others q ne = ap (λ (m : ServerRows). get m q) without ∙ rest_others room rows slot placed host s id r stands after q ne

  module _ (pool pool' : Pool) (are : AreIn pool (request_at rows)) (part : state_part after.state ≡ state_part r.state)
      (moves : Moves pool (state_part x.1.state) pool' None) where
    out_moves : Moves pool (state_part r.state) pool' None
    out_moves = subst (λ (o : Option Part). Moves pool o pool' None) (ap (λ (y : CallId × HeldServer). state_part y.1.state) out_is ∙ part) moves

    pub server_out : server_at pool' rest id ≡ None
    server_out = server_gone room rows slot placed host s id r stands rest out_none out_others pool pool' are out_moves

    pub still_out : AreIn pool' (request_at rest)
    still_out = still_gone room rows slot placed host s id r stands rest out_none out_others pool pool' are out_moves

    pub moved_out : ServerMoved id (record { host = host; settings = s; rows = rows }) pool (record { host = host; settings = s; rows = rest }) pool'
        (server_at pool' rest id)
    moved_out = moved_gone room rows slot placed host s id r stands rest out_none out_others pool pool' are out_moves
