-- What a table ends as, where a `&mut` to one of its rows is returned.
use Rattle.std.specs.Prelude.{ℕ}
use Rattle.std.specs.Borrow.{Lends, Fml, RattleType, MutBor}
use Rattle.host_places.specs.Placed.{Table, set_at}
use Rattle.host_places.specs.contracts.table.Rows.{the_row}

-- once the borrow r ends, the row at the place is the last one written through r
abbrev pub lends_row : (R : RattleType) → MutBor (Table R.Denot) → ℕ → MutBor R.Denot → Fml
lends_row R s place r = Lends (the_row R) R s r (λ row. record (s.now) { rows = set_at (s.now.rows) place row })
