-- The other events: the clock goes on, a host restarts, a line tells of a delivery, of an injection or of a shift.
use Rattle.std.proofs.Common.{◌≡◌, ℕ, zero, suc, ◌⊎◌, ◌+◌, ◌<◌, Bool, true, false, ◌&&◌, ◌||◌, Option, Some, None, List, [], ◌∷◌, length, cond, refl}
use Rattle.std.proofs.Common.{sym, ap, subst, ◌∙◌, inl, inr, arith}
use Rattle.std.specs.Prelude.{◌==◌, nat_lt, slice_get, slice_set, slice_index_or, replicate}
use Rattle.std.proofs.lemmas.Bool.{lt-ltb, or_cases, and_parts, ltb-true, eqb-true}
use Rattle.plain_sets.specs.Maps.{get}
use Rattle.plain_sets.proofs.MapLaws.{get-empty}
use Rattle.homa_plain.specs.declared.id.CallId.{CallId}
use Rattle.homa_plain.specs.declared.id.HostId.{HostId}
use Rattle.homa_plain.specs.declared.settings.Settings.{Settings}
use Rattle.homa_plain.specs.Calls.{is_host, call_cmp}
use Rattle.homa_plain.specs.Entries.{PlainEntry, PlainDeliver, PlainClock, PlainRestart, PlainInject, PlainShift}
use Rattle.homa_plain.specs.Host.{Host, new_host, finished_at}
use Rattle.trace_rules.specs.View.{View, Sent}
use Rattle.trace_rules.specs.Seen.{seen, begun, delivered, delivery}
use Rattle.homa_plain.specs.World.{World, host_at}
use Rattle.trace_steps.specs.Stands.{Stand, with_client, with_server, state_of, is_old, stand}
use Rattle.step_moves.specs.Worlds.{at_host}
use Rattle.trace_steps.specs.Told.{AllLived}
use Rattle.step_moves.proofs.Hosts.{some_is, there, elsewhere, within, apart, number_of}
use Rattle.trace_steps.proofs.Runs.{IsUnrun, ran_same, unrun_same}
use Rattle.trace_steps.proofs.Restarts.{unrun_restarted, ran_elsewhere}
use Rattle.trace_steps.proofs.Frame.{stand_is}
use Rattle.homa_plain.proofs.CallOrder.{hosts_are}
use Rattle.trace_once.specs.Lifetime.{times, Lifetime}
use Rattle.trace_once.specs.Kept.{IsKept}
use Rattle.trace_once.proofs.Later.{at, later_at, lifetime_at}
use Rattle.trace_once.proofs.Events.{later_forgotten, lifetime_forgotten, later_ended, lifetime_ended}
use Rattle.trace_once.proofs.Goes.{Goes, AllGo, goes_still, goes_then}
use Rattle.trace_once.proofs.Between.{set_same, ListsStay, kept_later}

-- ---- lines that tell of no run, no restart and no call

pub deliver_calls : (v : View) (n : ℕ) → (seen v (PlainDeliver n)).calls ≡ v.calls
unfolding seen
deliver_calls v n = by_packet (delivery (begun v) (PlainDeliver n)) where
  by_packet : (o : Option Sent) → (delivered (begun v) o).calls ≡ v.calls
  by_packet None = refl
  by_packet (Some p) = refl

pub inject_calls : (v : View) (id : HostId) (bytes : List ℕ) → (seen v (PlainInject id bytes)).calls ≡ v.calls
unfolding seen
inject_calls v id bytes = refl

pub shift_calls : (v : View) (id : HostId) (n : ℕ) → (seen v (PlainShift id n)).calls ≡ v.calls
unfolding seen
shift_calls v id n = refl

pub clock_calls : (v : View) (tick : ℕ) → (seen v (PlainClock tick)).calls ≡ v.calls
unfolding seen
clock_calls v tick = refl

pub restart_calls : (v : View) (host : HostId) (inc : ℕ) → (seen v (PlainRestart host inc)).calls ≡ v.calls
unfolding seen
restart_calls v host inc = refl

pub still_stand : (w : World) (v : View) (line : PlainEntry) → IsUnrun line → (seen v line).calls ≡ v.calls → (q : CallId) (n : HostId)
    → stand w (seen v line) q n ≡ stand w v q n
still_stand w v line quiet same q n =
    stand_is _ _ refl refl refl (ap (λ c. get c q) same) refl refl (ran_same v (seen v line) n q (unrun_same v line quiet))

still_line : (s : Settings) (w : World) (v : View) (line : PlainEntry) → IsUnrun line → (seen v line).calls ≡ v.calls → IsKept s w v → IsKept s w (seen v line)
still_line s w v line quiet same k =
    kept_later s w v w (seen v line) k
    (λ q n. goes_still (times s) n (stand w v q n) (stand w (seen v line) q n) (k.calls q n) (still_stand w v line quiet same q n)) refl (λ n m. inl refl)

pub deliver_line : (s : Settings) (w : World) (v : View) (n : ℕ) → IsKept s w v → IsKept s w (seen v (PlainDeliver n))
deliver_line s w v n k = still_line s w v (PlainDeliver n) tt (deliver_calls v n) k

pub inject_line : (s : Settings) (w : World) (v : View) (id : HostId) (bytes : List ℕ) → IsKept s w v → IsKept s w (seen v (PlainInject id bytes))
inject_line s w v id bytes k = still_line s w v (PlainInject id bytes) tt (inject_calls v id bytes) k

-- a host's own clock is set anew: its last tick stays
pub shift_kept : (s : Settings) (w : World) (v : View) (id : HostId) (n : ℕ) → IsKept s w v
    → IsKept s (record w { leads = slice_set w.leads id.0 n }) (seen v (PlainShift id n))
shift_kept s w v id n k =
    let l = still_line s w v (PlainShift id n) tt (shift_calls v id n) k in record { calls = l.calls; packets = l.packets; finished = l.finished }

-- the clock goes on
pub tick_kept : (s : Settings) (w : World) (v : View) → IsKept s w v → IsKept s (record w { clock = w.clock + 1 }) (seen v (PlainClock (w.clock + 1)))
tick_kept s w v k = kept_later s w v (record w { clock = w.clock + 1 }) (seen v (PlainClock (w.clock + 1))) k goes refl (λ n m. inl refl) where
  now : (q : CallId) (n : HostId) → stand (record w { clock = w.clock + 1 }) (seen v (PlainClock (w.clock + 1))) q n ≡ at (stand w v q n)
      (w.clock + 1) (stand w v q n).last (stand w v q n).old
  now q n = stand_is _ _ refl refl refl (ap (λ c. get c q) (clock_calls v (w.clock + 1))) refl refl
      (ran_same v (seen v (PlainClock (w.clock + 1))) n q (unrun_same v (PlainClock (w.clock + 1)) tt))

  goes : AllGo s (stand w v) (stand (record w { clock = w.clock + 1 }) (seen v (PlainClock (w.clock + 1))))
  goes q n =
      let old : Stand = stand w v q n in
      subst (Goes (times s) n old) (sym (now q n)) (record {
        later = later_at (times s) old (w.clock + 1) old.last old.old (omega arith) (omega arith) (λ e. e);
        kept =
            lifetime_at (times s) old (w.clock + 1) old.last old.old (omega arith) (omega arith) (λ e. e) n (omega (arith, (k.calls q n).last)) (k.calls q n);
      })

-- ---- a host restarts

-- a new host has finished no calls
pub none_finished : (n m : ℕ) → slice_index_or {A = List (ℕ × ℕ)} (replicate n []) m [] ≡ []
none_finished zero m = refl
none_finished (suc n) zero = refl
none_finished (suc n) (suc m) = none_finished n m

module _ (s : Settings) (w : World) (v : View) (host : HostId) (h : Host) (spares : ℕ) (stands : host_at w host ≡ Some h) (lived : AllLived v)
    (k : IsKept s w v) where
  abbrev new : Host
  new = new_host s host (h.inc + 1) h.last

  abbrev pub restarted_world : World
  restarted_world = record w { hosts = slice_set w.hosts host.0 (new_host s host (h.inc + 1) h.last); spares = spares }

  abbrev after : View
  after = seen v (PlainRestart host (h.inc + 1))

  room : host.0 < length w.hosts
  room = within w.hosts host.0 h stands

  same : (seen v (PlainRestart host (h.inc + 1))).calls ≡ v.calls
  same = restart_calls v host (h.inc + 1)

  -- a name of an earlier life was used
  old_more : (q : CallId) → is_old q h ≡ true → is_old q new ≡ true
  old_more q e = ap (λ b. b || (q.inc == new.inc && nat_lt q.seq new.seq))
      (lt-ltb q.inc (h.inc + 1) (earlier (or_cases (nat_lt q.inc h.inc) (q.inc == h.inc && nat_lt q.seq h.seq) e))) where
        earlier : (nat_lt q.inc h.inc ≡ true) ⊎ ((q.inc == h.inc && nat_lt q.seq h.seq) ≡ true) → q.inc < h.inc + 1
        earlier (inl less) = let l : q.inc < h.inc = ltb-true q.inc h.inc less in omega arith
        earlier (inr both) = let e : q.inc ≡ h.inc = eqb-true q.inc h.inc (and_parts (q.inc == h.inc) (nat_lt q.seq h.seq) both).0 in omega arith

  old_still : (q : CallId) (hs : List Host) (i n : ℕ) → slice_get hs i ≡ Some h → at_host false (is_old q) (slice_get hs n) ≡ true
      → at_host false (is_old q) (slice_get (slice_set hs i new) n) ≡ true
  old_still q [] i n at e = e
  old_still q (y ∷ hs) zero zero at e = old_more q (subst (λ (x : Host). is_old q x ≡ true) (some_is y h at) e)
  old_still q (y ∷ hs) zero (suc n) at e = e
  old_still q (y ∷ hs) (suc i) zero at e = e
  old_still q (y ∷ hs) (suc i) (suc n) at e = old_still q hs i n at e

  -- what it was the server of, it has forgotten; what it was the client of, is over
  forgets : (n : HostId) (b : Bool) (u : Stand) → Lifetime (times s) n u → Goes (times s) n u (cond b (with_server u None false) u)
  forgets n true u f = record { later = later_forgotten (times s) n u; kept = lifetime_forgotten (times s) n u f }
  forgets n false u f = goes_still (times s) n u u f refl

  ends : (n : HostId) (b : Bool) (u : Stand) → Lifetime (times s) n u → Goes (times s) n u (cond b (with_client u None) u)
  ends n true u f = record { later = later_ended (times s) n u; kept = lifetime_ended (times s) n u f }
  ends n false u f = goes_still (times s) n u u f refl

  -- the call after the restart, by whether its server and its client restarted
  abbrev pub changed : Bool → Bool → Stand → Bool → Stand
  changed a b u old = let x = cond a (with_server u None false) u in let y = cond b (with_client x None) x in at y y.clock y.last old

  pub now_stand : (q : CallId) (n : HostId) → stand restarted_world after q n
      ≡ changed (is_host host n) (is_host host q.client) (stand w v q n) (at_host false (is_old q) (slice_get (slice_set w.hosts host.0 new) q.client.0))
  now_stand q n = by_tests (is_host host n) refl (is_host host q.client) refl where
    old : Bool
    old = at_host false (is_old q) (slice_get (slice_set w.hosts host.0 new) q.client.0)

    last : at_host 0 (λ y. y.last) (slice_get (slice_set w.hosts host.0 new) n.0) ≡ (stand w v q n).last
    last = set_same 0 (λ y. y.last) w.hosts host.0 n.0 h new stands refl

    server_here : is_host host n ≡ true → at_host None (λ y. state_of (get y.servers q)) (slice_get (slice_set w.hosts host.0 new) n.0) ≡ None
    server_here e =
        ap (λ o. at_host None (λ y. state_of (get y.servers q)) o)
        (ap (slice_get (slice_set w.hosts host.0 new)) (sym (number_of host n e)) ∙ there w.hosts host.0 new room) ∙ ap state_of (get-empty call_cmp q)

    server_other : is_host host n ≡ false → at_host None (λ y. state_of (get y.servers q)) (slice_get (slice_set w.hosts host.0 new) n.0)
        ≡ (stand w v q n).server
    server_other e = ap (λ o. at_host None (λ y. state_of (get y.servers q)) o) (elsewhere w.hosts host.0 n.0 new (apart host n e))

    client_here : is_host host q.client ≡ true → at_host None (λ y. get y.clients q) (slice_get (slice_set w.hosts host.0 new) q.client.0) ≡ None
    client_here e =
        ap (λ o. at_host None (λ y. get y.clients q) o)
        (ap (slice_get (slice_set w.hosts host.0 new)) (sym (number_of host q.client e)) ∙ there w.hosts host.0 new room) ∙ get-empty call_cmp q

    client_other : is_host host q.client ≡ false → at_host None (λ y. get y.clients q) (slice_get (slice_set w.hosts host.0 new) q.client.0)
        ≡ (stand w v q n).client
    client_other e = ap (λ o. at_host None (λ y. get y.clients q) o) (elsewhere w.hosts host.0 q.client.0 new (apart host q.client e))

    ran_here : is_host host n ≡ true → (stand restarted_world after q n).ran ≡ false
    ran_here e = subst (λ (x : HostId). (stand restarted_world after q x).ran ≡ false) ((hosts_are host n).0 e) (unrun_restarted v host (h.inc + 1) q lived)

    ran_other : is_host host n ≡ false → (stand restarted_world after q n).ran ≡ (stand w v q n).ran
    ran_other e = ran_elsewhere v host (h.inc + 1) n q (turn_round (is_host n host) refl) where
      turn_round : (b : Bool) → is_host n host ≡ b → is_host n host ≡ false
      turn_round false f = f
      turn_round true f = absurd (apart host n e (number_of n host f))

    by_tests : (a : Bool) → is_host host n ≡ a → (b : Bool) → is_host host q.client ≡ b
        → stand restarted_world after q n ≡ changed (is_host host n) (is_host host q.client) (stand w v q n) old
    by_tests a e b f = subst (λ x. stand restarted_world after q n ≡ changed x (is_host host q.client) (stand w v q n) old) (sym e)
        (subst (λ x. stand restarted_world after q n ≡ changed a x (stand w v q n) old) (sym f) (each a e b f)) where
          called : (stand restarted_world after q n).called ≡ (stand w v q n).called
          called = ap (λ c. get c q) same

          each : (a : Bool) → is_host host n ≡ a → (b : Bool) → is_host host q.client ≡ b → stand restarted_world after q n ≡ changed a b (stand w v q n) old
          each true e true f = stand_is _ _ refl last refl called (client_here f) (server_here e) (ran_here e)
          each true e false f = stand_is _ _ refl last refl called (client_other f) (server_here e) (ran_here e)
          each false e true f = stand_is _ _ refl last refl called (client_here f) (server_other e) (ran_other e)
          each false e false f = stand_is _ _ refl last refl called (client_other f) (server_other e) (ran_other e)

  goes : AllGo s (stand w v) (stand restarted_world after)
  goes q n = subst (Goes (times s) n (stand w v q n)) (sym (now_stand q n)) (by_tests (is_host host n) (is_host host q.client)) where
    old : Bool
    old = at_host false (is_old q) (slice_get (slice_set w.hosts host.0 new) q.client.0)

    named : (stand w v q n).old ≡ true → at_host false (is_old q) (slice_get (slice_set w.hosts host.0 new) q.client.0) ≡ true
    named = old_still q w.hosts host.0 q.client.0 stands

    step : (u : Stand) → u.old ≡ (stand w v q n).old → Lifetime (times s) n u
        → Goes (times s) n u (at u u.clock u.last (at_host false (is_old q) (slice_get (slice_set w.hosts host.0 new) q.client.0)))
    step u same f = record {
      later = later_at (times s) u u.clock u.last _ (omega arith) (omega arith) (λ e. named (sym same ∙ e));
      kept = lifetime_at (times s) u u.clock u.last _ (omega arith) (omega arith) (λ e. named (sym same ∙ e)) n f.last f;
    }

    by_tests : (a b : Bool)
        → Goes (times s) n (stand w v q n) (changed a b (stand w v q n) (at_host false (is_old q) (slice_get (slice_set w.hosts host.0 new) q.client.0)))
    by_tests a b =
        let u : Stand = stand w v q n in
        let x : Stand = cond a (with_server u None false) u in
        let y : Stand = cond b (with_client x None) x in
        let first = forgets n a u (k.calls q n) in
        let second = ends n b x first.kept in
        goes_then (times s) n u x _ first (goes_then (times s) n x y _ second (step y (olds a b) second.kept)) where
          olds : (a b : Bool)
              → (let u : Stand = stand w v q n in let x : Stand = cond a (with_server u None false) u in
              let y : Stand = cond b (with_client x None) x in y.old) ≡ (stand w v q n).old
          olds true true = refl
          olds true false = refl
          olds false true = refl
          olds false false = refl

  -- a new host has finished no calls, and the others have the lists that they had
  lists : ListsStay s w v restarted_world after
  lists n m = by_host (is_host host n) refl where
    by_host : (b : Bool) → is_host host n ≡ b
        → (at_host [] (λ y. finished_at y m) (slice_get (slice_set w.hosts host.0 new) n.0) ≡ at_host [] (λ y. finished_at y m) (host_at w n))
        ⊎ (at_host [] (λ y. finished_at y m) (slice_get (slice_set w.hosts host.0 new) n.0) ≡ [])
    by_host true e =
        inr (ap (λ o. at_host [] (λ y. finished_at y m) o)
        (ap (slice_get (slice_set w.hosts host.0 new)) (sym (number_of host n e)) ∙ there w.hosts host.0 new room) ∙ none_finished s.hosts m.0)
    by_host false e = inl (ap (λ o. at_host [] (λ y. finished_at y m) o) (elsewhere w.hosts host.0 n.0 new (apart host n e)))

  pub restart_kept : IsKept s restarted_world (seen v (PlainRestart host (h.inc + 1)))
  restart_kept = kept_later s w v restarted_world after k goes refl lists
