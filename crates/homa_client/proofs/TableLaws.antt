-- A table's plain rows, when the row of one call has changed.
use Rattle.std.proofs.Common.{◌≡◌, ◌<◌, ℕ, ◌+◌, List, arith, ◌==◌, if◌then◌else◌, true, false, inl, inr, refl, sym, ap, subst, ◌∙◌, Option, Some, None}
use Rattle.std.specs.Option.{option_map, option_and_then}
use Rattle.plain_sets.specs.Maps.{get, insert, remove}
use Rattle.plain_sets.proofs.MapLaws.{same_map}
use Rattle.plain_sets.proofs.MapMembers.{same_some}
use Rattle.homa_plain.specs.declared.id.CallId.{CallId}
use Rattle.homa_plain.specs.declared.id.HostId.{HostId}
use Rattle.homa_plain.specs.declared.settings.Settings.{Settings}
use Rattle.homa_plain.specs.Rows.{RowsOf, ClientRow, set_row}
use Rattle.homa_plain.specs.Steps.{new_call}
use Rattle.homa_plain.proofs.CallOrder.{call_total, call_same}
use Rattle.msg_pool.specs.Pool.{Pool}
use Rattle.homa_in.specs.Part.{Part}
use Rattle.host_places.specs.Placed.{Placed, Table, StandsAt, ArePlaced, Changed, spot_at, set_at}
use Rattle.host_places.proofs.PlacedLaws.{one_call, get-insert_here, get-insert_else, get-remove_here, get-remove_else, changed-put, set_at-insert}
use Rattle.host_places.proofs.PlacedLaws.{get-spot, spot-stands}
use Rattle.host_places.proofs.MappedLaws.{get-mapped, mapped-insert}
use Rattle.homa_in.specs.Pooled.{Moves, AreIn, IsInPool, seen_part}
use Rattle.homa_in.proofs.MoveLaws.{still_in, seen_others}
use Rattle.homa_client.specs.Held.{HeldRow, seen_row, new_row}
use Rattle.homa_client.specs.AtTable.{Clients, HeldRows, seen_rows, row_at, part_at, IsCallAt, IsTable, Moved}

-- the row at a place becomes this one
abbrev set_where : ℕ → HeldRow → Placed HeldRow → Placed HeldRow
set_where place row x = if x.place == place then record x { row = row } else x

-- the part and the plain row of a call, by what stands for it
abbrev part_in : Option (Placed HeldRow) → Option Part
part_in o = option_and_then (λ (x : Placed HeldRow). x.row.part) o

abbrev row_in : Pool → Option (Placed HeldRow) → Option ClientRow
row_in pool o = option_map (λ (x : Placed HeldRow). seen_row pool x.row) o

-- a row is seen as before where its part is
same_row : (pool pool' : Pool) (o : Option (Placed HeldRow)) → seen_part pool' (part_in o) ≡ seen_part pool (part_in o) → row_in pool' o ≡ row_in pool o
same_row pool pool' None part = refl
same_row pool pool' (Some x) part = ap (λ part. Some (record (seen_row pool x.row) { part = part })) part

-- the rows where one call has another row, or none
set_here : (rows : RowsOf ClientRow) (id : CallId) (row : Option ClientRow) → get (set_row rows id row) id ≡ row
set_here rows id None = get-remove_here rows id
set_here rows id (Some x) = get-insert_here rows id x

set_else : (rows : RowsOf ClientRow) (id : CallId) (row : Option ClientRow) (q : CallId) → (q ≡ id → ⊥) → get (set_row rows id row) q ≡ get rows q
set_else rows id None q ne = get-remove_else rows id q ne
set_else rows id (Some x) q ne = get-insert_else rows id x q ne

-- ---- one call's row has changed

module _ (old new : HeldRows) (pool pool' : Pool) (id : CallId) (others : (q : CallId) → (q ≡ id → ⊥) → get new q ≡ get old q) where
  part_others : (q : CallId) → (q ≡ id → ⊥) → part_at new q ≡ part_at old q
  part_others q ne = ap part_in (others q ne)

  -- the plain rows, where those of other calls are as before
  rows_set : (row : Option ClientRow) → row_at pool' new id ≡ row → ((q : CallId) → (q ≡ id → ⊥) → row_at pool' new q ≡ row_at pool old q)
      → seen_rows pool' new ≡ set_row (seen_rows pool old) id row
  rows_set row here else_ = same_map call_total call_same _ _ (λ q. get-mapped (λ (x : Placed HeldRow). seen_row pool' x.row) new q ∙ elim (one_call q id) [
    | inl is ↦ subst (λ (p : CallId). row_at pool' new p ≡ get (set_row (seen_rows pool old) id row) p) (sym is)
        (here ∙ sym (set_here (seen_rows pool old) id row))
    | inr ne ↦ else_ q ne ∙ sym (get-mapped (λ (x : Placed HeldRow). seen_row pool x.row) old q) ∙ sym (set_else (seen_rows pool old) id row q ne)
  ])

  module _ (are : AreIn pool (part_at old)) (moves : Moves pool (part_at old id) pool' (part_at new id)) where
    row_others : (q : CallId) → (q ≡ id → ⊥) → row_at pool' new q ≡ row_at pool old q
    row_others q ne =
        let part : seen_part pool' (part_at new q) ≡ seen_part pool (part_at new q) =
        seen_others one_call pool pool' (part_at old) (part_at new) id part_others moves are q ne ∙ ap (seen_part pool) (sym (part_others q ne)) in
        same_row pool pool' (get new q) part ∙ ap (row_in pool) (others q ne)

    -- the parts stand in the pool as before
    pub in_after : AreIn pool' (part_at new)
    in_after = still_in one_call pool pool' (part_at old) (part_at new) id part_others moves are

-- a table moved, where only one call's row did
pub moved_of : (id : CallId) (old new : Clients) (pool pool' : Pool) → new ≡ record old { rows = new.rows } → Changed id old.rows new.rows
    → AreIn pool (part_at old.rows) → Moves pool (part_at old.rows id) pool' (part_at new.rows id)
    → Moved id old pool new pool' (row_at pool' new.rows id)
moved_of id old new pool pool' kept changed are moves = record {
  here = refl;
  rows = rows_set old.rows new.rows pool pool' id changed.others (row_at pool' new.rows id) refl
      (row_others old.rows new.rows pool pool' id changed.others are moves);
  changed = changed;
  moves = moves;
  kept = kept;
}

-- and in the same pool
pub moved_in : (id : CallId) (old new : Clients) (pool : Pool) → new ≡ record old { rows = new.rows } → Changed id old.rows new.rows
    → Moves pool (part_at old.rows id) pool (part_at new.rows id)
    → Moved id old pool new pool (row_at pool new.rows id)
moved_in id old new pool kept changed moves = record {
  here = refl;
  rows = rows_set old.rows new.rows pool pool id changed.others (row_at pool new.rows id) refl (λ q ne. ap (row_in pool) (changed.others q ne));
  changed = changed;
  moves = moves;
  kept = kept;
}

-- ---- the calls of a table

-- each call whose row is among those of a table is among these
has_row : {X Y : Type 0} (f : X → Y) (o : Option X) (y : Y) → option_map f o ≡ Some y → (x : X) × (o ≡ Some x)
has_row f None y e = absurd (nothing e) where
  nothing : None ≡ Some y → ⊥
  nothing e = cc
has_row f (Some x) y e = (x, refl)

module _ (host : HostId) (inc seq : ℕ) (s : Settings) (t : Table HeldRow) (is : IsTable host inc seq s t) where
  pub table_set : (place : ℕ) (row : HeldRow) → IsTable host inc seq s (record t { rows = set_at t.rows place row })
  table_set place row = record {
    valid = is.valid;
    room = is.room;
    own = λ q x e. let was = has_row (set_where place row) (get t.rows q) x (sym (get-mapped (set_where place row) t.rows q) ∙ e) in is.own q was.0 was.1;
  }

  pub table_remove : (id : CallId) → IsTable host inc seq s (record t { rows = remove t.rows id })
  table_remove id = record {
    valid = is.valid;
    room = is.room;
    own = λ q x e. elim (one_call q id) [
      | inl same ↦ absurd (nothing x (sym (get-remove_here t.rows id) ∙ ap (get (remove t.rows id)) (sym same) ∙ e))
      | inr ne ↦ is.own q x (sym (get-remove_else t.rows id q ne) ∙ e)
    ];
  } where
    nothing : (x : Placed HeldRow) → None ≡ Some x → ⊥
    nothing x e = cc

-- ---- a row at its place

module _ (room : ℕ) (rows : HeldRows) (placed : ArePlaced room rows) (slot : ℕ) where
  -- what is read at a place is the row of the call that stands there
  pub read : (a : CallId × HeldRow) → spot_at rows slot ≡ Some a → (id : CallId) (r : HeldRow) → StandsAt rows id slot r → a ≡ (id, r)
  read a e id r stands = same_some a (id, r) (sym e ∙ spot-stands room rows placed id slot r stands)

  -- and so is what is lent
  pub lent : (x : HeldRow) → option_map (λ (s : CallId × HeldRow). s.1) (spot_at rows slot) ≡ Some x → (id : CallId) (r : HeldRow)
      → StandsAt rows id slot r → x ≡ r
  lent x e id r stands = same_some x r (sym e ∙ ap (option_map (λ (s : CallId × HeldRow). s.1)) (spot-stands room rows placed id slot r stands))

-- what is lent stands at the place
pub lent_stands : (rows : HeldRows) (slot : ℕ) (x : HeldRow) → option_map (λ (s : CallId × HeldRow). s.1) (spot_at rows slot) ≡ Some x
    → (id : CallId) × StandsAt rows id slot x
lent_stands rows slot x e = at (spot_at rows slot) refl e where
  at : (o : Option (CallId × HeldRow)) → spot_at rows slot ≡ o → option_map (λ (s : CallId × HeldRow). s.1) o ≡ Some x → (id : CallId) × StandsAt rows id slot x
  at None is f = absurd (nothing f) where
    nothing : None ≡ Some x → ⊥
    nothing f = cc
  at (Some s) is f = (s.0, subst (StandsAt rows s.0 slot) (same_some s.1 x f) (get-spot rows slot s.0 s.1 is))

-- the part of a row that stands in a table is in the pool
pub part_stands : (pool : Pool) (rows : HeldRows) → AreIn pool (part_at rows) → (id : CallId) (slot : ℕ) (r : HeldRow) → StandsAt rows id slot r
    → IsInPool pool r.part
part_stands pool rows are id slot r stands = subst (IsInPool pool) (ap part_in stands) (are.within id)

-- where the row at a place becomes another, each row stays at its place
place-set_where : (slot : ℕ) (new : HeldRow) (x : Placed HeldRow) → (set_where slot new x).place ≡ x.place
place-set_where slot new x = elim (x.place == slot) as (λ b. (if b then record x { row = new } else x).place ≡ x.place) [ true ↦ refl | false ↦ refl ]

pub placed_set : (room : ℕ) (rows : HeldRows) (slot : ℕ) (new : HeldRow) → ArePlaced room rows → ArePlaced room (set_at rows slot new)
placed_set room rows slot new placed = record {
  within = λ q x e. let was = before q x e in subst (λ n. n < room) was.1.1 (placed.within q was.0 was.1.0);
  apart = λ p q x y e f at. let was = before p x e in let too = before q y f in placed.apart p q was.0 too.0 was.1.0 too.1.0 (was.1.1 ∙ at ∙ sym too.1.1);
} where
  before : (q : CallId) (x : Placed HeldRow) → get (set_at rows slot new) q ≡ Some x → (w : Placed HeldRow) × ((get rows q ≡ Some w) × (w.place ≡ x.place))
  before q x e =
      let mapped_is = sym (get-mapped (set_where slot new) rows q) ∙ e in
      let was = has_row (set_where slot new) (get rows q) x mapped_is in
      let is : set_where slot new was.0 ≡ x = same_some _ x (sym (ap (option_map (set_where slot new)) was.1) ∙ mapped_is) in
      (was.0, (was.1, sym (place-set_where slot new was.0) ∙ ap (λ (z : Placed HeldRow). z.place) is))

-- the row at a place became another
module _ (t : Clients) (room : ℕ) (placed : ArePlaced room t.rows) (id : CallId) (slot : ℕ) (r new : HeldRow) (stands : StandsAt t.rows id slot r) where
  abbrev put : Clients
  put = record t { rows = set_at t.rows slot new }

  same : put.rows ≡ insert t.rows id (record { place = slot; row = new })
  same = set_at-insert room t.rows placed id slot r new stands

  pub put_changed : Changed id t.rows put.rows
  put_changed = subst (Changed id t.rows) (sym same) (changed-put t.rows id slot r new stands)

  pub put_stands : StandsAt put.rows id slot new
  put_stands = ap (λ (rows : HeldRows). get rows id) same ∙ get-insert_here t.rows id _

  pub put_spot : spot_at put.rows slot ≡ Some (id, new)
  put_spot = spot-stands room put.rows (placed_set room t.rows slot new placed) id slot new put_stands

  pub put_moves : (pool pool' : Pool) → Moves pool r.part pool' new.part → Moves pool (part_at t.rows id) pool' (part_at put.rows id)
  put_moves pool pool' moves = subst (λ (o : Option Part). Moves pool o pool' (part_at put.rows id)) (sym (ap part_in stands))
      (subst (λ (o : Option Part). Moves pool r.part pool' o) (sym (ap part_in put_stands)) moves)

  pub put_same : (pool : Pool) (row : Option ClientRow) → Moves pool r.part pool new.part → Some (seen_row pool new) ≡ row → Moved id t pool put pool row
  put_same pool row moves e = subst (λ (o : Option ClientRow). Moved id t pool put pool o) (ap (row_in pool) put_stands ∙ e)
      (moved_in id t put pool refl put_changed (put_moves pool pool moves))

  module _ (pool pool' : Pool) (are : AreIn pool (part_at t.rows)) (moves : Moves pool r.part pool' new.part) where
    pub put_moved : (row : Option ClientRow) → Some (seen_row pool' new) ≡ row → Moved id t pool put pool' row
    put_moved row e = subst (λ (o : Option ClientRow). Moved id t pool put pool' o) (ap (row_in pool') put_stands ∙ e)
        (moved_of id t put pool pool' refl put_changed are (put_moves pool pool' moves))

    pub put_in : AreIn pool' (part_at put.rows)
    put_in = in_after t.rows put.rows pool pool' id put_changed.others are (put_moves pool pool' moves)

  -- and then went, when it had no part any more
  abbrev gone : Clients
  gone = record t { rows = remove put.rows id }

  pub gone_changed : Changed id t.rows gone.rows
  gone_changed = record {
    place = λ x y was is. absurd (nothing y (sym (get-remove_here put.rows id) ∙ is));
    others = λ q ne. get-remove_else put.rows id q ne ∙ put_changed.others q ne;
  } where
    nothing : (y : Placed HeldRow) → None ≡ Some y → ⊥
    nothing y e = cc

  module _ (pool pool' : Pool) (are : AreIn pool (part_at t.rows)) (moves : Moves pool r.part pool' new.part) (none : new.part ≡ None) where
    gone_moves : Moves pool (part_at t.rows id) pool' (part_at gone.rows id)
    gone_moves =
        subst (λ (o : Option Part). Moves pool o pool' (part_at gone.rows id)) (sym (ap part_in stands))
        (subst (λ (o : Option Part). Moves pool r.part pool' o) (none ∙ sym (ap part_in (get-remove_here put.rows id))) moves)

    pub gone_moved : (row : Option ClientRow) → None ≡ row → Moved id t pool gone pool' row
    gone_moved row e = subst (λ (o : Option ClientRow). Moved id t pool gone pool' o) (ap (row_in pool') (get-remove_here put.rows id) ∙ e)
        (moved_of id t gone pool pool' refl gone_changed are gone_moves)

    pub gone_in : AreIn pool' (part_at gone.rows)
    gone_in = in_after t.rows gone.rows pool pool' id gone_changed.others are gone_moves

-- ---- a call starts

module _ (host : HostId) (inc seq : ℕ) (s : Settings) (t : Table HeldRow) (is : IsTable host inc seq s t) where
  abbrev next : CallId
  next = record { client = host; inc = inc; seq = seq }

  -- the next call has no row yet
  pub next_none : get t.rows next ≡ None
  next_none = none (get t.rows next) refl where
    none : (o : Option (Placed HeldRow)) → get t.rows next ≡ o → o ≡ None
    none None e = refl
    none (Some x) e = absurd (omega (arith, (is.own next x e).past))

  pub table_insert : (x : Placed HeldRow) → IsTable host inc (seq + 1) s (record t { rows = insert t.rows next x })
  table_insert x = record {
    valid = is.valid;
    room = is.room;
    own = λ q y e. elim (one_call q next) [
      | inl same ↦ record {
        of_host = ap (λ (p : CallId). p.client) same;
        of_life = ap (λ (p : CallId). p.inc) same;
        past = omega (arith, ap (λ (p : CallId). p.seq) same);
      }
      | inr ne ↦
          let own = is.own q y (sym (get-insert_else t.rows next x q ne) ∙ e) in
          record { of_host = own.of_host; of_life = own.of_life; past = omega (arith, own.past) }
    ];
  }

-- the rows with a new call's
pub rows_started : (t : Clients) (id : CallId) (slot : ℕ) (row : HeldRow) (server : HostId) (service : ℕ) (request : List ℕ) (now order : ℕ)
    (pool : Pool) → row ≡ new_row t.settings now order server service request
    → seen_rows pool (insert t.rows id (record { place = slot; row = row })) ≡ insert (seen_rows pool t.rows) id
    (new_call t.settings now order server service request)
rows_started t id slot row server service request now order pool e =
    mapped-insert call_total call_same (λ (x : Placed HeldRow). seen_row pool x.row) t.rows id _
    ∙ ap (λ (r : HeldRow). insert (seen_rows pool t.rows) id (seen_row pool r)) e

-- the call whose row stands at a place
pub call_is : (room : ℕ) (rows : HeldRows) → ArePlaced room rows → (slot : ℕ) (q id : CallId) (r : HeldRow) → IsCallAt rows slot q
    → StandsAt rows id slot r → q ≡ id
call_is room rows placed slot q id r at stands =
    same_some q id (sym at ∙ ap (option_map (λ (s : CallId × HeldRow). s.0)) (spot-stands room rows placed id slot r stands))
