-- A host begins a step: its last tick rises, and no call changes.
use Rattle.std.proofs.Common.{◌≡◌, ℕ, ◌+◌, ◌≤◌, false, ◌&&◌, ◌||◌, Some, None, List, [], refl, sym, ap, subst, ◌∙◌, inl, arith}
use Rattle.std.specs.Prelude.{◌==◌, nat_lt, slice_get, slice_set, slice_index_or}
use Rattle.std.proofs.lemmas.List.{append-nil}
use Rattle.plain_sets.specs.Maps.{get}
use Rattle.homa_plain.specs.declared.id.CallId.{CallId}
use Rattle.homa_plain.specs.declared.id.HostId.{HostId}
use Rattle.homa_plain.specs.declared.settings.Settings.{Settings}
use Rattle.homa_plain.specs.Rows.{ClientRow, RowsOf}
use Rattle.homa_plain.specs.Host.{Host, finished_at}
use Rattle.homa_plain.specs.Credit.{refilled}
use Rattle.std.proofs.lemmas.Bool.{cond_both}
use Rattle.trace_rules.specs.View.{View}
use Rattle.homa_plain.specs.World.{World, host_at}
use Rattle.trace_steps.specs.Stands.{Stand, state_of, is_old, stand, put, amid}
use Rattle.step_moves.specs.Worlds.{at_host}
use Rattle.trace_steps.proofs.Frame.{stand_is}
use Rattle.trace_once.specs.Lifetime.{times}
use Rattle.trace_once.specs.Kept.{IsKept}
use Rattle.trace_once.proofs.Later.{at, later_at, lifetime_at}
use Rattle.trace_once.proofs.Goes.{Goes, AllGo}
use Rattle.trace_once.proofs.Between.{set_same, set_holds, last_rises, kept_later}
use Rattle.trace_once.proofs.Amid.{AreOwn, IsAmid}

-- the host at the beginning of its step, with this tick as its last; its credit may have been filled up
pub record Begins (h x : Host) (now : ℕ) : Type 0 where
  pub id : x.id ≡ h.id
  pub inc : x.inc ≡ h.inc
  pub seq : x.seq ≡ h.seq
  pub clients : x.clients ≡ h.clients
  pub servers : x.servers ≡ h.servers
  pub finished : x.finished ≡ h.finished
  pub last : x.last ≡ now

-- as a turn begins
pub begins_filled : (s : Settings) (h : Host) (now : ℕ) → Begins h (record (refilled s (record h { last = now })) { last = now }) now
begins_filled s h now =
    cond_both (nat_lt h.refilled now) (record h { last = now; credit = s.rate; refilled = now }) (record h { last = now })
    (λ (x : Host). Begins h (record x { last = now }) now)
    (λ _. record { id = refl; inc = refl; seq = refl; clients = refl; servers = refl; finished = refl; last = refl })
    (λ _. record { id = refl; inc = refl; seq = refl; clients = refl; servers = refl; finished = refl; last = refl })

module _ (s : Settings) (w : World) (v : View) (host : HostId) (now : ℕ) (h x : Host) (stands : host_at w host ≡ Some h) (b : Begins h x now)
    (after : h.last ≤ now) (within : now ≤ w.clock + (times s).band) where
  -- the last tick of each host
  abbrev pub lasts : HostId → ℕ
  lasts n = at_host 0 (λ (y : Host). y.last) (slice_get (slice_set w.hosts host.0 x) n.0)

  pub begun_stand : (q : CallId) (n : HostId) → amid w v host (record { host = x; told = [] }) q n ≡ at (stand w v q n) w.clock (lasts n) (stand w v q n).old
  begun_stand q n =
      stand_is _ _ refl refl
      (set_same false (is_old q) w.hosts host.0 q.client.0 h x stands
      (ap (λ (i : ℕ). nat_lt q.inc i || (q.inc == i && nat_lt q.seq x.seq)) b.inc
      ∙ ap (λ (i : ℕ). nat_lt q.inc h.inc || (q.inc == h.inc && nat_lt q.seq i)) b.seq))
      refl
      (set_same None (λ y. get y.clients q) w.hosts host.0 q.client.0 h x stands (ap (λ (rows : RowsOf ClientRow). get rows q) b.clients))
      (set_same None (λ y. state_of (get y.servers q)) w.hosts host.0 n.0 h x stands (ap (λ rows. state_of (get rows q)) b.servers))
      refl

  goes : IsKept s w v → AllGo s (stand w v) (amid w v host (record { host = x; told = [] }))
  goes k q n =
      let old : Stand = stand w v q n in
      let rises = last_rises w.hosts host.0 n.0 h x stands (omega (arith, after, b.last)) in
      let soon =
      set_holds 0 (λ (y : Host). y.last) (λ l. l ≤ w.clock + (times s).band) w.hosts host.0 n.0 x (omega (arith, b.last, within)) (k.calls q n).last in
      subst (Goes (times s) n old) (sym (begun_stand q n))
      (record {
        later = later_at (times s) old w.clock (lasts n) old.old (omega arith) rises (λ e. e);
        kept = lifetime_at (times s) old w.clock (lasts n) old.old (omega arith) rises (λ e. e) n soon (k.calls q n);
      })

  pub begun_amid : x.id ≡ host → AreOwn host x.clients → IsKept s w v → IsAmid s w v host now (record { host = x; told = [] })
  begun_amid name own k = record {
    kept = kept_later s w v (put w host (record { host = x; told = [] })) v k (goes k) (append-nil w.packets)
        (λ n m. inl (set_same [] (λ y. finished_at y m) w.hosts host.0 n.0 h x stands (ap (λ (f : List (List (ℕ × ℕ))). slice_index_or f m.0 []) b.finished)));
    name = name;
    last = b.last;
    own = own;
    once = tt;
  }
