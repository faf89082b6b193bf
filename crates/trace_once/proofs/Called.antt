-- A call starts: nothing was so of it before, and for all others nothing changes.
use Rattle.std.proofs.Common.{◌≡◌, ℕ, zero, suc, ◌+◌, ◌≤◌, ◌<◌, Bool, true, false, ◌&&◌, ◌||◌, Some, None, List, [], ◌∷◌, length, refl, sym, ap}
use Rattle.std.proofs.Common.{subst, ◌∙◌, inl, inr, arith}
use Rattle.std.specs.Prelude.{◌==◌, nat_lt, slice_get, slice_set}
use Rattle.std.proofs.lemmas.Bool.{lt-ltb, le-ltb, eq-eqb, or_cases, and_parts, ltb-true}
use Rattle.std.proofs.Math.Bool.{and-false}
use Rattle.plain_sets.specs.Maps.{get}
use Rattle.homa_plain.specs.declared.id.CallId.{CallId}
use Rattle.homa_plain.specs.declared.id.HostId.{HostId}
use Rattle.homa_plain.specs.declared.settings.Settings.{Settings}
use Rattle.homa_plain.specs.Calls.{is_call}
use Rattle.homa_plain.specs.Entries.{PlainCall}
use Rattle.homa_plain.specs.Rows.{ClientRow}
use Rattle.homa_plain.specs.Host.{Host, finished_at}
use Rattle.homa_plain.specs.Work.{Work, begun}
use Rattle.homa_plain.specs.Steps.{next_id, new_call, starts}
use Rattle.trace_rules.specs.View.{View}
use Rattle.trace_rules.specs.Seen.{seen}
use Rattle.homa_plain.specs.World.{World}
use Rattle.homa_plain.proofs.CallOrder.{calls_are}
use Rattle.step_laws.proofs.Others.{get-set_row, set_row-others}
use Rattle.trace_steps.specs.Stands.{Stand, state_of, is_old, put, amid}
use Rattle.step_moves.specs.Worlds.{at_host}
use Rattle.step_moves.proofs.Hosts.{both_set, there}
use Rattle.trace_steps.proofs.Runs.{ran_same, unrun_same}
use Rattle.trace_steps.proofs.Frame.{stand_is}
use Rattle.step_moves.proofs.Names.{own_set}
use Rattle.trace_once.specs.Lifetime.{times, called_by}
use Rattle.trace_once.proofs.Later.{at, later_at, lifetime_at}
use Rattle.trace_once.proofs.Events.{with_call, later_call, lifetime_call}
use Rattle.trace_once.proofs.Goes.{Goes, AllGo}
use Rattle.trace_once.proofs.Between.{kept_later}
use Rattle.trace_once.proofs.Amid.{IsAmid}

-- ---- names

-- a name that was used stays so
old_more : (q : CallId) (h x : Host) → x.inc ≡ h.inc → x.seq ≡ h.seq + 1 → is_old q h ≡ true → is_old q x ≡ true
old_more q h x inc seq e =
    elim (or_cases (nat_lt q.inc h.inc) (q.inc == h.inc && nat_lt q.seq h.seq) e) as (λ _. is_old q x ≡ true) [
      | inl less ↦ ap (λ b. b || (q.inc == x.inc && nat_lt q.seq x.seq)) (ap (nat_lt q.inc) inc ∙ less)
      | inr both ↦
          let p = and_parts (q.inc == h.inc) (nat_lt q.seq h.seq) both in
          let less : q.seq < h.seq = ltb-true q.seq h.seq p.1 in
          let now : (q.inc == x.inc && nat_lt q.seq x.seq) ≡ true =
          ap (λ b. b && nat_lt q.seq x.seq) (ap (λ i. q.inc == i) inc ∙ p.0) ∙ lt-ltb q.seq x.seq (omega (arith, less, seq)) in
          ap (λ b. nat_lt q.inc x.inc || b) now ∙ or_true (nat_lt q.inc x.inc)
    ] where
      or_true : (b : Bool) → b || true ≡ true
      or_true true = refl
      or_true false = refl

-- the next name wasn't, and then it is
pub next_unused : (h : Host) → is_old (next_id h) h ≡ false
next_unused h = ap (λ b. b || (h.inc == h.inc && nat_lt h.seq h.seq)) (le-ltb h.inc h.inc (omega arith)) ∙ ap (λ b. (h.inc == h.inc) && b)
    (le-ltb h.seq h.seq (omega arith)) ∙ and-false (h.inc == h.inc)

next_used : (h x : Host) → x.inc ≡ h.inc → x.seq ≡ h.seq + 1 → is_old (next_id h) x ≡ true
next_used h x inc seq =
    let now : (h.inc == x.inc && nat_lt h.seq x.seq) ≡ true =
    ap (λ b. b && nat_lt h.seq x.seq) (eq-eqb h.inc x.inc (sym inc)) ∙ lt-ltb h.seq x.seq (omega (arith, seq)) in
    ap (λ b. nat_lt h.inc x.inc || b) now ∙ or_true (nat_lt h.inc x.inc) where
      or_true : (b : Bool) → b || true ≡ true
      or_true true = refl
      or_true false = refl

-- ---- the start

module _ (s : Settings) (w : World) (v : View) (host : HostId) (now : ℕ) (h : Host) (room : host.0 < length w.hosts)
    (within : now ≤ w.clock + (times s).band) (server : HostId) (number : ℕ) (request : List ℕ) (k : IsAmid s w v host now (begun h now)) where
  abbrev id : CallId
  id = next_id h

  abbrev row : ClientRow
  row = new_call s now h.order server number request

  abbrev before : Work
  before = begun h now

  abbrev after : Work
  after = starts s server number request (begun h now)

  -- who ran, by the `call` line
  ran_still : (q : CallId) (n : HostId) → (amid w v host after q n).ran ≡ (amid w v host before q n).ran
  ran_still q n = ran_same v (seen v (PlainCall (next_id h) server number request)) n q (unrun_same v (PlainCall (next_id h) server number request) tt)

  -- at the call itself
  pub stand_here : (n : HostId) → amid w v host after (next_id h) n ≡ with_call (amid w v host before (next_id h) n) row
  unfolding seen
  stand_here n =
      stand_is _ _ refl
      (both_set 0 (λ y. y.last) w.hosts host.0 n.0 after.host before.host refl)
      (ap (λ o. at_host false (is_old id) o) (at_client after.host) ∙ next_used h after.host refl refl)
      (get-set_row v.calls (next_id h) (Some (called_by row)))
      (ap (λ o. at_host None (λ y. get y.clients id) o) (at_client after.host) ∙ get-set_row h.clients (next_id h) (Some row))
      (both_set None (λ y. state_of (get y.servers id)) w.hosts host.0 n.0 after.host before.host refl)
      (ran_still id n) where
        at_client : (x : Host) → slice_get (slice_set w.hosts host.0 x) (next_id h).client.0 ≡ Some x
        at_client x = ap (λ (y : HostId). slice_get (slice_set w.hosts host.0 x) y.0) k.name ∙ there w.hosts host.0 x room

  pub unused : (n : HostId) → (amid w v host before (next_id h) n).old ≡ false
  unused n = ap (λ o. at_host false (is_old (next_id h)) o)
      (ap (λ (y : HostId). slice_get (slice_set w.hosts host.0 before.host) y.0) k.name ∙ there w.hosts host.0 before.host room) ∙ next_unused h

  -- and at each other
  pub stand_other : (q : CallId) (n : HostId) → is_call q id ≡ false
      → amid w v host after q n ≡ at (amid w v host before q n) w.clock (amid w v host before q n).last
      (at_host false (is_old q) (slice_get (slice_set w.hosts host.0 after.host) q.client.0))
  unfolding seen
  stand_other q n e =
      stand_is _ _ refl
      (both_set 0 (λ y. y.last) w.hosts host.0 n.0 after.host before.host refl)
      refl
      (set_row-others v.calls (next_id h) (Some (called_by row)) q e)
      (both_set None (λ y. get y.clients q) w.hosts host.0 q.client.0 after.host before.host (set_row-others h.clients (next_id h) (Some row) q e))
      (both_set None (λ y. state_of (get y.servers q)) w.hosts host.0 n.0 after.host before.host refl)
      (ran_still q n)

  old_still : (q : CallId) (i : ℕ) → at_host false (is_old q) (slice_get (slice_set w.hosts host.0 before.host) i) ≡ true
      → at_host false (is_old q) (slice_get (slice_set w.hosts host.0 after.host) i) ≡ true
  old_still q i e = by_list w.hosts host.0 i e where
    by_list : (hs : List Host) (j i : ℕ) → at_host false (is_old q) (slice_get (slice_set hs j before.host) i) ≡ true
        → at_host false (is_old q) (slice_get (slice_set hs j after.host) i) ≡ true
    by_list [] j i e = e
    by_list (y ∷ hs) zero zero e = old_more q before.host after.host refl refl e
    by_list (y ∷ hs) zero (suc i) e = e
    by_list (y ∷ hs) (suc j) zero e = e
    by_list (y ∷ hs) (suc j) (suc i) e = by_list hs j i e

  goes : AllGo s (amid w v host before) (amid w v host after)
  goes q n = by_call (is_call q id) refl where
    by_call : (b : Bool) → is_call q id ≡ b → Goes (times s) n (amid w v host before q n) (amid w v host after q n)
    by_call true e =
        let old : Stand = amid w v host before id n in
        subst (λ (x : CallId). Goes (times s) n (amid w v host before x n) (amid w v host after x n)) (sym ((calls_are q id).0 e))
        (subst (Goes (times s) n old) (sym (stand_here n))
        (record {
          later = later_call s n old (unused n) (k.kept.calls id n) row;
          kept = lifetime_call s n old (unused n) (k.kept.calls id n) now h.order server number request within;
        }))
    by_call false e =
        let old : Stand = amid w v host before q n in
        let named : Bool = at_host false (is_old q) (slice_get (slice_set w.hosts host.0 after.host) q.client.0) in
        subst (Goes (times s) n old) (sym (stand_other q n e))
        (record {
          later = later_at (times s) old w.clock old.last named (omega arith) (omega arith) (old_still q q.client.0);
          kept =
              lifetime_at (times s) old w.clock old.last named (omega arith) (omega arith) (old_still q q.client.0) n (k.kept.calls q n).last
              (k.kept.calls q n);
        })

  pub started_amid : IsAmid s w v host now (starts s server number request (begun h now))
  started_amid = record {
    kept = kept_later s (put w host before) v (put w host after) (seen v (PlainCall (next_id h) server number request)) k.kept goes refl
        (λ n m. inl (both_set [] (λ y. finished_at y m) w.hosts host.0 n.0 after.host before.host refl));
    name = k.name;
    last = k.last;
    own = own_set host h.clients (next_id h) (Some row) k.name k.own;
    once = (tt, tt);
  }
