-- A table without rows has no call.
use Rattle.std.proofs.Common.{◌≡◌, ◌∙◌, sym, ap, None, Some}
use Rattle.plain_sets.specs.Maps.{get}
use Rattle.plain_sets.proofs.MapLaws.{get-empty}
use Rattle.homa_plain.specs.Calls.{call_cmp}
use Rattle.host_places.specs.Placed.{Placed, Table}
use Rattle.homa_client.specs.Held.{HeldRow}
use Rattle.homa_client.proofs.table.ClientTable.open.Goals as goal

nothing : (x : Placed HeldRow) → None ≡ Some x → ⊥
nothing x e = cc

pub invariant_of-result : goal.invariant_of-result
invariant_of-result c = record {
  valid = record { in_range = c.requires.in_range; unsched = c.requires.unsched; rate = c.requires.rate };
  room = ap (λ (t : Table HeldRow). t.room) c.in_ok-rows.ensures;
  own = λ id x e. absurd (nothing x (sym (get-empty call_cmp id) ∙ sym (ap (λ (t : Table HeldRow). get t.rows id) c.in_ok-rows.ensures) ∙ e));
}
