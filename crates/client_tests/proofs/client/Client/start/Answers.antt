-- The row of a call that starts has no part.
use Rattle.std.proofs.Common.{◌≡◌, ℕ, List, sym, ap, subst, ◌∙◌, Result, Ok, Err, None, Option}
use Rattle.std.specs.Prelude.{IfOk, OnErr}
use Rattle.homa_plain.specs.declared.id.CallId.{CallId}
use Rattle.homa_plain.specs.declared.id.HostId.{HostId}
use Rattle.std.specs.Option.{option_and_then}
use Rattle.host_places.specs.Placed.{Placed}
use Rattle.homa_in.specs.Part.{Part}
use Rattle.msg_pool.specs.Pool.{Pool}
use Rattle.homa_in.specs.Pooled.{AreIn, Moves}
use Rattle.homa_in.proofs.MoveLaws.{still}
use Rattle.homa_client.specs.Held.{HeldRow}
use Rattle.homa_client.specs.AtTable.{Clients, Started, part_at}
use Rattle.homa_client.proofs.TableLaws.{in_after}
use Rattle.client_tests.proofs.client.Client.start.Goals as goal

abbrev part_in : Option (Placed HeldRow) → Option Part
part_in o = option_and_then (λ (x : Placed HeldRow). x.row.part) o

no_part : (pool : Pool) (a b : Option Part) → a ≡ None → b ≡ None → Moves pool a pool b
no_part pool a b e f =
    subst (λ (o : Option Part). Moves pool o pool b) (sym e) (subst (λ (o : Option Part). Moves pool None pool o) (sym f) (still pool None tt))

started_in : (old : Clients) (server : HostId) (service : ℕ) (request : List ℕ) (now order : ℕ) (new : Clients) (slot : ℕ) (id : CallId) (pool : Pool)
    → Started old server service request now order new slot id → AreIn pool (part_at old.rows) → AreIn pool (part_at new.rows)
started_in old server service request now order new slot id pool started are =
    in_after old.rows new.rows pool pool id started.changed.others are (no_part pool _ _ (ap part_in started.first) started.part)

still_in : {E : Type 0} (old : Clients) (server : HostId) (service : ℕ) (request : List ℕ) (now order : ℕ) (new : Clients) (pool : Pool)
    (r : Result (ℕ × CallId) E)
    → OnErr r (new ≡ old) → IfOk r (λ x. Started old server service request now order new x.0 x.1) → AreIn pool (part_at old.rows)
    → AreIn pool (part_at new.rows)
still_in old server service request now order new pool (Ok x) same started are = started_in old server service request now order new x.0 x.1 pool started are
still_in old server service request now order new pool (Err e) same started are = subst (λ (t : Clients). AreIn pool (part_at t.rows)) (sym same) are

pub returns : goal.returns
returns c = record { pool = still_in _ _ _ _ _ _ _ _ c.start.result c.start.ensures.same c.start.ensures.started c.requires.pool }
