-- What a call does to what the host lends, to its row, and to the table.
use Rattle.std.specs.Prelude.{◌≡◌, ◌+◌, ◌^◌, ◌<◌, if◌then◌else◌, ℕ, Bool, Option, Some, None, List}
use Rattle.homa_plain.specs.declared.id.CallId.{CallId}
use Rattle.homa_plain.specs.declared.id.HostId.{HostId}
use Rattle.homa_plain.specs.declared.packet.Body.{Body}
use Rattle.homa_plain.specs.declared.packet.Role.{Role}
use Rattle.homa_plain.specs.Rules.{Answer}
use Rattle.homa_plain.specs.AtServer.{server_gets}
use Rattle.msg_pool.specs.Pool.{Pool}
use Rattle.homa_in.specs.Part.{Part}
use Rattle.homa_in.specs.Pieces.{piece_in}
use Rattle.homa_in.specs.Pooled.{IsInPool, Moves}
use Rattle.homa_server.specs.Held.{HeldServer, state_part}
use Rattle.homa_server.specs.Answers.{IfRan, IsAsked, IsSlotOf, has_run, service_in, slot_if, slot_in}
use Rattle.homa_server.specs.Table.{Servers, Served, packet_of, server_at, server_moment}
use Rattle.homa_server.specs.declared.answers.ServerDid.{ServerDid}
use Rattle.homa_server.specs.declared.lent.Lent.{Lent}

-- the pool has the part of a row, and the service may be asked once more
pub record CanServe {S : Type 0} (count : S → ℕ) (lent : Lent S) (part : Option Part) : Type 0 where
  pub served : count lent.service.now < 2 ^ 63
  pub pool : IsInPool lent.pool.now part

-- the references are those that were lent, and what the service may answer was so before
pub record IsSame {S : Type 0} (allows : S → ℕ → ℕ → List ℕ → List ℕ → ℕ → Type 0) (old new : Lent S) : Type 0 where
  pub pool : new.pool.ghost_name ≡ old.pool.ghost_name
  pub service : new.service.ghost_name ≡ old.service.ghost_name
  pub scratch : new.scratch.ghost_name ≡ old.scratch.ghost_name
  pub before : (count n hold : ℕ) (q r : List ℕ) → allows new.service.now count n q r hold → allows old.service.now count n q r hold

-- where the service ran, it answered once, and was allowed to answer so
pub record IsServed {S : Type 0} (served : S → ℕ) (allows : S → ℕ → ℕ → List ℕ → List ℕ → ℕ → Type 0) (old new : Lent S) (number : ℕ)
    (response : List ℕ) (did : ServerDid) : Type 0 where
  pub allowed : IfRan did (λ hold. allows old.service.now (served old.service.now) number new.scratch.now response hold)
  pub counted : served new.service.now ≡ (if has_run did then served old.service.now + 1 else served old.service.now)

-- the service found no memory: only the scratch changed
pub record IsRefused {S : Type 0} (served : S → ℕ) (old new : Lent S) : Type 0 where
  pub pool : new.pool.now ≡ old.pool.now
  pub counted : served new.service.now ≡ served old.service.now

-- what an answer says of the row at a place, and what became of the row and the pool; whether the packet is for the row is given
pub record IsLeft (place : ℕ) (wanted : Bool) (old : HeldServer) (pool : Pool) (new : HeldServer) (pool' : Pool) (did : ServerDid) : Type 0 where
  pub slot : IsSlotOf (Some place) did
  pub named : slot_in did ≡ slot_if wanted place
  pub idle : slot_in did ≡ None → (new ≡ old) × (pool' ≡ pool)
  pub moves : Moves pool (state_part old.state) pool' (state_part new.state)

-- a packet of a call was taken by the table, whatever else stands in its header
pub record HasTaken {S : Type 0} (served : S → ℕ) (allows : S → ℕ → ℕ → List ℕ → List ℕ → ℕ → Type 0) (old : Servers) (id : CallId) (body : Body)
    (payload : List ℕ) (now order : ℕ) (lent : Lent S) (new : Servers) (lent' : Lent S) (did : ServerDid) : Type 0 where
  pub received : (role : Role) (server : HostId) (inc sent level : ℕ)
      → Served old lent.pool.now (packet_of id body payload role server inc sent level) now order new lent'.pool.now lent'.scratch.now
      (λ request response hold. allows lent.service.now (served lent.service.now) (service_in (piece_in body payload)) request response hold) did
  pub counted : served lent'.service.now ≡ (if has_run did then served lent.service.now + 1 else served lent.service.now)

-- the service found no memory for what the packet asks of it: the table is as before, and of what was lent only the scratch changed
pub record HasAsked {S : Type 0} (served : S → ℕ) (old : Servers) (id : CallId) (body : Body) (payload : List ℕ) (now order : ℕ) (lent : Lent S)
    (new : Servers) (lent' : Lent S) : Type 0 where
  pub asks : (role : Role) (server : HostId) (inc sent level : ℕ) (a : Answer)
      → let p = packet_of id body payload role server inc sent level in
      IsAsked id (service_in (piece_in body payload)) lent'.scratch.now
      (server_gets old.settings (server_moment old now order lent.pool.now p.id) p a (server_at lent.pool.now old.rows p.id))
  pub same : new ≡ old
  pub refused : IsRefused served lent lent'
