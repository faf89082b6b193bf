-- A table without calls has no parts.
use Rattle.std.proofs.Common.{◌≡◌, ℕ, sym, subst, refl, Option, None}
use Rattle.plain_sets.specs.Maps.{get, empty}
use Rattle.homa_plain.specs.declared.id.CallId.{CallId}
use Rattle.homa_plain.specs.Calls.{call_cmp}
use Rattle.std.specs.Option.{option_and_then}
use Rattle.homa_in.specs.Part.{Part}
use Rattle.host_places.specs.Placed.{Placed}
use Rattle.msg_pool.specs.Pool.{Pool}
use Rattle.homa_in.specs.Pooled.{AreIn, IsInPool, HasNumber}
use Rattle.homa_client.specs.Held.{HeldRow}
use Rattle.homa_client.specs.AtTable.{Clients, part_at}
use Rattle.client_tests.proofs.client.Client.open.Goals as goal

abbrev part_in : Option (Placed HeldRow) → Option Part
part_in o = option_and_then (λ (x : Placed HeldRow). x.row.part) o

none_stands : (q : CallId) → get {X = Placed HeldRow} (empty {R = call_cmp}) q ≡ None
unfolding get empty
none_stands q = refl

parts-empty : (pool : Pool) → AreIn pool (part_at empty)
parts-empty pool = record {
  within = λ q. subst (λ (o : Option (Placed HeldRow)). IsInPool pool (part_in o)) (sym (none_stands q)) tt;
  apart = λ p q n h k. absurd (subst (λ (o : Option (Placed HeldRow)). HasNumber n (part_in o)) (none_stands p) h);
}

pub returns : goal.returns
returns c = subst (λ (t : Clients). AreIn c.in_ok-pool.pool (part_at t.rows)) (sym c.in_ok-table.ensures) (parts-empty c.in_ok-pool.pool)
