-- Lines within a block, one kind after the other.
use Rattle.std.proofs.Common.{◌≡◌, ℕ, Bool, true, false, ◌&&◌, Option, Some, None, List, ◌∷◌, refl, sym, ap, ◌∙◌, subst}
use Rattle.std.specs.Prelude.{if◌then◌else◌, ◌==◌, IfSome}
use Rattle.std.specs.Option.{option_map, option_map_or}
use Rattle.plain_sets.specs.Maps.{get, contains_key}
use Rattle.std.specs.Str.{bytes_eq}
use Rattle.trace_rules.specs.Judge.{is_called}
use Rattle.homa_plain.specs.declared.id.CallId.{CallId}
use Rattle.homa_plain.specs.declared.id.HostId.{HostId}
use Rattle.homa_plain.specs.declared.entry.Why.{Why}
use Rattle.homa_plain.specs.declared.entry.Why.TheVariants.{Timeout, Forgotten}
use Rattle.homa_plain.specs.Entries.{PlainEntry, PlainRun, PlainDone, PlainFail, PlainDrop, PlainStale, PlainSend}
use Rattle.homa_plain.specs.Calls.{is_host}
use Rattle.trace_rules.specs.View.{Called, View, Sent, no_ends, life, is_server_of}
use Rattle.trace_rules.specs.Seen.{seen, with_line, refused, sent, stale, is_delivery_to}
use Rattle.check_call.specs.Spots as spots
use Rattle.check_call.specs.Spots.{spot, Undo, only, undo_each, said_spot, finished_spot, dropped_spot}
use Rattle.check_call.specs.Steps.{undo_after, dropped_at}
use Rattle.check_call.proofs.Each.{each_dropped}
use Rattle.check_call.proofs.Lines.{line_spot}
use Rattle.check_call.specs.declared.spot.Change.{Change}
use Rattle.check_call.specs.declared.spot.Change.TheVariants.{Nothing, Finished, Dropped}
use Rattle.check_call.specs.declared.call.Call.{Call}
use Rattle.check_call.specs.Kept.{Beside}
use Rattle.check_call.specs.Calls.{beside}
use Rattle.check_lines.specs.declared.block.Here.{Here}
use Rattle.check_lines.specs.declared.block.Delivery.{Delivery}
use Rattle.check_lines.specs.declared.block.Named.{Named}
use Rattle.check_lines.specs.declared.trace.Trace.{Trace}
use Rattle.check_lines.specs.Traces.{Keeps, IsDelivered, IsNamed, IsHere, call_at, beside_at, due_of}
use Rattle.check_lines.specs.Changes.{Changes, ChangesAs, IsChange, IsMade, Ready, Takes}
use Rattle.check_lines.proofs.KeepLaws.{found_call}
use Rattle.check_lines.proofs.Readings.{made_kept}
use Rattle.check_lines.proofs.TakeLaws.{keeps_rest, keeps_lines, delivered_on}
use Rattle.check_lines.proofs.SendLaws.{said_due}

-- ---- `done` and `fail`

ends_by : (o : Option Beside) → IfSome o (λ b. ChangesAs b Finished finished_spot)
ends_by None = tt
ends_by (Some b) = record { apart = tt; same = λ k s st. refl }

-- a call ends
pub ends : (t : Trace) (id : CallId) → IsChange t id Finished finished_spot
ends t id = ends_by (beside_at t id)

pub done_changes : (v : View) (o : Option Undo) (id : CallId) (bytes : List ℕ) → spots.IsUndo v o → Changes v (seen v (PlainDone id bytes)) id finished_spot
unfolding seen
done_changes v o id bytes is = record {
  same = record { settings = refl; tick = refl; leads = refl; firsts = refl; restarts = refl; calls = refl; packets = refl; runs = refl };
  spots = λ q. line_spot v o (PlainDone id bytes) q is;
}

pub fail_changes : (v : View) (o : Option Undo) (id : CallId) (why : Why) → spots.IsUndo v o → Changes v (seen v (PlainFail id why)) id finished_spot
unfolding seen
fail_changes v o id Timeout is = record {
  same = record { settings = refl; tick = refl; leads = refl; firsts = refl; restarts = refl; calls = refl; packets = refl; runs = refl };
  spots = λ q. line_spot v o (PlainFail id Timeout) q is;
}
fail_changes v o id Forgotten is = record {
  same = record { settings = refl; tick = refl; leads = refl; firsts = refl; restarts = refl; calls = refl; packets = refl; runs = refl };
  spots = λ q. line_spot v o (PlainFail id Forgotten) q is;
}

-- what is kept where only the lists of the block's calls change
pub here_takes : (v : View) (o : Option Undo) (line : PlainEntry) (t mid : Trace) (here : Here) → Ready v o t → Keeps (seen v line) mid
    → IsDelivered mid mid.delivery (undo_after v o line) → (seen v line).now.due ≡ v.now.due → due_of mid.delivery ≡ due_of t.delivery
    → IsHere here (seen v line).here → Takes v o line (record mid { here = here })
here_takes v o line t mid here r kept delivered due same named = record {
  kept = keeps_rest (seen v line) mid (record mid { here = here }) mid.place mid.ended here mid.delivery refl kept;
  delivered = delivered_on mid (record mid { here = here }) (undo_after v o line) (λ q. refl) refl delivered;
  due = due ∙ (r.due ∙ sym same);
  here = named;
}

pub done_due : (v : View) (id : CallId) (bytes : List ℕ) → (seen v (PlainDone id bytes)).now.due ≡ v.now.due
unfolding seen
done_due v id bytes = refl

pub done_here : (v : View) (h : Here) (n : Named) (id : CallId) (bytes : List ℕ) → IsHere h v.here → IsNamed n (id ∷ v.here.dones)
    → IsHere (record h { dones = n }) (seen v (PlainDone id bytes)).here
unfolding seen
done_here v h n id bytes is named = record { runs = is.runs; dones = named; forgotten = is.forgotten }

pub fail_due : (v : View) (id : CallId) (why : Why) → (seen v (PlainFail id why)).now.due ≡ v.now.due
unfolding seen
fail_due v id Timeout = refl
fail_due v id Forgotten = refl

pub timeout_here : (v : View) (h : Here) (id : CallId) → IsHere h v.here → IsHere h (seen v (PlainFail id Timeout)).here
unfolding seen
timeout_here v h id is = is

pub forgotten_here : (v : View) (h : Here) (n : Named) (id : CallId) → IsHere h v.here → IsNamed n (id ∷ v.here.forgotten)
    → IsHere (record h { forgotten = n }) (seen v (PlainFail id Forgotten)).here
unfolding seen
forgotten_here v h n id is named = record { runs = is.runs; dones = is.dones; forgotten = named }

-- ---- `drop`

drops_by : (v : View) (host : HostId) (id : CallId) (c : Call) (b : Bool) → is_host c.server host ≡ b → is_server_of v id host ≡ b → (z : Beside)
    → ChangesAs z (if b then Dropped else Nothing) (dropped_at v host id)
drops_by v host id c true e f z = record { apart = tt; same = λ k s st. ap (λ x. if x then dropped_spot s else s) (sym f) }
drops_by v host id c false e f z = record { apart = tt; same = λ k s st. ap (λ x. if x then dropped_spot s else s) (sym f) }

-- what it does to a call that a host gives its request up
pub drops : (v : View) (t : Trace) (host : HostId) (id : CallId) (change : Change) → Keeps v t
    → IfSome (call_at t id) (λ c. change ≡ (if is_host c.server host then Dropped else Nothing)) → IsChange t id change (dropped_at v host id)
drops v t host id change keeps is = by_call (call_at t id) refl is where
  by_call : (o : Option Call) → call_at t id ≡ o → IfSome o (λ c. change ≡ (if is_host c.server host then Dropped else Nothing))
      → IfSome (option_map (beside id.client t.settings.resend) o) (λ b. ChangesAs b change (dropped_at v host id))
  by_call None e x = tt
  by_call (Some c) e x =
      let server : is_server_of v id host ≡ is_host c.server host =
      ap (λ (d : Option Called). option_map_or (λ y. is_host y.server host) d false) (found_call v t id c keeps e).called in
      subst (λ (z : Change). ChangesAs (beside id.client t.settings.resend c) z (dropped_at v host id)) (sym x)
      (drops_by v host id c (is_host c.server host) refl server (beside id.client t.settings.resend c))

pub drop_changes : (v : View) (o : Option Undo) (host : HostId) (id : CallId) → spots.IsUndo v o
    → Changes v (seen v (PlainDrop host id)) id (dropped_at v host id)
unfolding seen
drop_changes v o host id is = record {
  same = record { settings = refl; tick = refl; leads = refl; firsts = refl; restarts = refl; calls = refl; packets = refl; runs = refl };
  spots = λ q. line_spot v o (PlainDrop host id) q is;
}

pub drop_due : (v : View) (host : HostId) (id : CallId) → (seen v (PlainDrop host id)).now.due ≡ v.now.due
unfolding seen
drop_due v host id = (each_dropped v host id).due v.now

pub drop_here : (v : View) (h : Here) (host : HostId) (id : CallId) → IsHere h v.here → IsHere h (seen v (PlainDrop host id)).here
unfolding seen
drop_here v h host id is = is

-- ---- `run`

pub run_line : (v : View) (o : Option Undo) (t mid : Trace) (host : HostId) (id : CallId) (service : ℕ) (request response : List ℕ) (hold : ℕ)
    (n : Named) → Ready v o t
    → Keeps (record v { runs = record { host = host; life = life v host; id = id; response = response } ∷ v.runs }) mid
    → IsDelivered mid mid.delivery o → mid.delivery ≡ t.delivery → IsHere mid.here v.here → IsNamed n (id ∷ v.here.runs)
    → Takes v o (PlainRun host id service request response hold) (record mid { here = record mid.here { runs = n } })
unfolding seen
run_line v o t mid host id service request response hold n r kept delivered same here named =
    let w : View = record v { runs = record { host = host; life = life v host; id = id; response = response } ∷ v.runs } in
    let u : Trace = record mid { here = record mid.here { runs = n } } in
    record {
      kept = keeps_rest (seen v (PlainRun host id service request response hold)) mid u mid.place mid.ended (record mid.here { runs = n }) mid.delivery refl
          (keeps_lines w (seen v (PlainRun host id service request response hold)) mid
          (record { settings = refl; tick = refl; leads = refl; firsts = refl; restarts = refl; calls = refl; packets = refl; runs = refl })
          (λ q. refl) kept);
      delivered = delivered_on mid u o (λ q. refl) refl delivered;
      due = r.due ∙ ap due_of (sym same);
      here = record { runs = named; dones = here.dones; forgotten = here.forgotten };
    }

-- ---- a delivery that is taken back

none_due : (t : Trace) (d : Option Delivery) → IsDelivered t d None → due_of d ≡ no_ends
none_due t None is = refl
none_due t (Some d) is = absurd is

pub stale_line : (v : View) (o : Option Undo) (t u : Trace) (host : HostId) (at now : ℕ) → Ready v o t → Keeps (stale v) u → u.delivery ≡ None
    → u.here ≡ t.here → Takes v o (PlainStale host at now) u
unfolding seen
stale_line v o t u host at now r kept none here = record {
  kept = keeps_lines (stale v) (seen v (PlainStale host at now)) u
      (record { settings = refl; tick = refl; leads = refl; firsts = refl; restarts = refl; calls = refl; packets = refl; runs = refl }) (λ q. refl) kept;
  delivered = subst (λ d. IsDelivered u d None) (sym none) tt;
  due = due_by o r.is r.delivered r.due ∙ ap due_of (sym none);
  here = subst (λ h. IsHere h v.here) (sym here) r.here;
}
  where
    due_by : (o : Option Undo) → spots.IsUndo v o → IsDelivered t t.delivery o → v.now.due ≡ due_of t.delivery → (stale v).now.due ≡ no_ends
    due_by (Some x) is d e = is.due_if_stale
    due_by None is d e = is.1.due ∙ (e ∙ none_due t t.delivery d)

pub gaps_line : (v : View) (o : Option Undo) (t u : Trace) (line : PlainEntry) (host : HostId) (id : CallId) → with_line v line ≡ refused v host id
    → undo_after v o line ≡ o → Ready v o t → Keeps (refused v host id) u → IsDelivered u u.delivery o
    → (refused v host id).now.due ≡ due_of u.delivery → u.here ≡ t.here → Takes v o line u
unfolding seen
gaps_line v o t u line host id is after r kept delivered due here = record {
  kept = keeps_lines (refused v host id) (seen v line) u
      (record {
        settings = ap (λ w. w.settings) is;
        tick = ap (λ w. w.tick) is;
        leads = ap (λ w. w.leads) is;
        firsts = ap (λ w. w.firsts) is;
        restarts = ap (λ w. w.restarts) is;
        calls = ap (λ w. w.calls) is;
        packets = ap (λ w. w.packets) is;
        runs = ap (λ w. w.runs) is;
      })
      (λ q. ap (λ w. spot w.now q) is) kept;
  delivered = subst (IsDelivered u u.delivery) (sym after) delivered;
  due = ap (λ w. w.now.due) is ∙ due;
  here = subst (λ w. IsHere u.here w.here) (sym is)
      (subst (λ h. IsHere h (refused v host id).here) (sym here) (subst (IsHere t.here) (same_here (is_delivery_to v host id)) r.here));
}
  where
    same_here : (b : Bool) → v.here ≡ (if b then record v { now = v.if_refused } else v).here
    same_here true = refl
    same_here false = refl

-- ---- a packet that is sent

pub send_line : (v : View) (o : Option Undo) (t u : Trace) (p : Sent) (number level : ℕ) → Ready v o t → Keeps (sent v p) u
    → IsDelivered u u.delivery (option_map (undo_each (only p.id (said_spot v p p.body))) o) → due_of u.delivery ≡ due_of t.delivery → u.here ≡ t.here
    → Takes v o (PlainSend number p.from p.to p.inc p.role p.id level p.body p.payload) u
unfolding seen
send_line v o t u p number level r kept delivered due here = record {
  kept = keeps_lines (sent v p) (seen v (PlainSend number p.from p.to p.inc p.role p.id level p.body p.payload)) u
      (record { settings = refl; tick = refl; leads = refl; firsts = refl; restarts = refl; calls = refl; packets = refl; runs = refl }) (λ q. refl) kept;
  delivered = delivered;
  due = said_due v p ∙ (r.due ∙ sym due);
  here = subst (λ h. IsHere h v.here) (sym here) r.here;
}

-- ---- other lines

-- a line that says nothing
pub other_line : (v : View) (o : Option Undo) (t : Trace) (line : PlainEntry) → with_line v line ≡ v → undo_after v o line ≡ o → Ready v o t → Takes v o line t
unfolding seen
other_line v o t line is after r = record {
  kept = keeps_lines v (seen v line) t
      (record {
        settings = ap (λ w. w.settings) is;
        tick = ap (λ w. w.tick) is;
        leads = ap (λ w. w.leads) is;
        firsts = ap (λ w. w.firsts) is;
        restarts = ap (λ w. w.restarts) is;
        calls = ap (λ w. w.calls) is;
        packets = ap (λ w. w.packets) is;
        runs = ap (λ w. w.runs) is;
      })
      (λ q. ap (λ w. spot w.now q) is) r.kept;
  delivered = subst (IsDelivered t t.delivery) (sym after) r.delivered;
  due = ap (λ w. w.now.due) is ∙ r.due;
  here = subst (λ w. IsHere t.here w.here) (sym is) r.here;
}

-- ---- what the shape says

pub both : (a b : Bool) → (a && b) ≡ true → (a ≡ true) × (b ≡ true)
both true b h = (refl, h)
both false b h = absurd cc

-- the call that a line names was made
pub made_by : (v : View) (t : Trace) (id : CallId) (front : Bool) → Keeps v t → (front && contains_key v.calls id) ≡ true → IsMade t id
made_by v t id front keeps e = made_kept v t id keeps ∙ (both front (contains_key v.calls id) e).1

-- a call runs at its server
pub server_by : (v : View) (id : CallId) (host : HostId) (service : ℕ) (request : List ℕ) (front : Bool)
    → (front && option_map_or (is_called host service request) (get v.calls id) false) ≡ true → is_server_of v id host ≡ true
server_by v id host service request front e = by_call (get v.calls id) (both front _ e).1 where
  by_call : (o : Option Called) → option_map_or (is_called host service request) o false ≡ true → option_map_or (λ c. is_host c.server host) o false ≡ true
  by_call None h = h
  by_call (Some c) h =
      (both (is_host c.server host) (c.service == service) (both (is_host c.server host && c.service == service) (bytes_eq c.request request) h).0).0
