-- Lines of events, one kind after the other.
use Rattle.std.proofs.Common.{◌≡◌, ℕ, zero, suc, ◌+◌, ◌≤◌, arith, Bool, true, false, cond, not, ◌&&◌, Option, Some, None, List, [], ◌∷◌, ◌++◌, length}
use Rattle.std.proofs.Common.{map, refl, sym, ap, ◌∙◌, subst}
use Rattle.std.specs.Prelude.{if◌then◌else◌, ◌==◌, unwrap_or, slice_get, IfSome}
use Rattle.std.specs.Option.{option_map, option_map_or}
use Rattle.std.specs.Ordering.{nat_cmp}
use Rattle.std.specs.Cmp.{nat_cmp_total}
use Rattle.std.proofs.lemmas.Bool.Decides.{nat_tests}
use Rattle.plain_sets.specs.Maps.{Map, get, insert}
use Rattle.plain_sets.specs.Numbers.{Numbers}
use Rattle.plain_sets.proofs.MapLaws.{get-insert}
use Rattle.homa_plain.specs.declared.id.CallId.{CallId}
use Rattle.homa_plain.specs.declared.id.HostId.{HostId}
use Rattle.homa_plain.specs.Calls.{is_host}
use Rattle.homa_plain.specs.Entries.{PlainEntry, PlainCall, PlainInject, PlainDeliver, PlainClock, PlainRestart, PlainShift, PlainRecv}
use Rattle.trace_rules.specs.Parts.{Part}
use Rattle.trace_rules.specs.View.{Called, View, Sent, no_ends, life, restarts_of, is_server_of}
use Rattle.trace_rules.specs.Seen.{seen, begun, delivered, delivery}
use Rattle.homa_plain.proofs.CallOrder.{hosts_are}
use Rattle.check_call.specs.Spots.{spot, Undo, restarted_spot}
use Rattle.check_call.specs.Steps.{undo_after, undo_of}
use Rattle.check_call.proofs.Each.{each_restarted}
use Rattle.check_call.specs.declared.call.Call.{Call}
use Rattle.check_call.specs.declared.part.Part.{Part as KeptPart}
use Rattle.check_call.specs.Kept.{StandsFor, part_of, packet_of, no_spot, is_incoming, IsCounted}
use Rattle.check_call.specs.Calls.{spot_in, beside}
use Rattle.check_lines.specs.declared.block.Here.{Here}
use Rattle.check_lines.specs.declared.block.Named.TheVariants.{Nobody}
use Rattle.check_lines.specs.declared.trace.Trace.{Trace}
use Rattle.check_lines.specs.Traces.{Keeps, IsCallAt, IsKept, IsAbsent, IsDelivered, IsHere, is_incoming_at, call_at, host_at, lead_of, first_of}
use Rattle.check_lines.specs.Traces.{restarts_in, asked_of, awaited_of, due_of}
use Rattle.check_lines.specs.Changes.{SameLists, SameLines, IsAfter, Takes}
use Rattle.check_lines.proofs.KeepLaws.{found_call, stands_now, absent_now, incoming_of, host_turned}
use Rattle.check_lines.proofs.TakeLaws.{keeps_lines}
use Rattle.check_lines.proofs.SendLaws.{number_tests}

abbrev nobody : Here
nobody = record { runs = Nobody; dones = Nobody; forgotten = Nobody }

pub event_takes : (v : View) (o : Option Undo) (line : PlainEntry) (u : Trace) → Keeps (seen v line) u → u.delivery ≡ None
    → undo_after v o line ≡ None → (seen v line).now.due ≡ no_ends → (seen v line).here ≡ no_ends → u.here ≡ nobody → Takes v o line u
event_takes v o line u kept none after due here is = record {
  kept = kept;
  delivered = subst (λ x. IsDelivered u u.delivery x) (sym after) (subst (λ d. IsDelivered u d None) (sym none) tt);
  due = due ∙ ap due_of (sym none);
  here = subst (λ h. IsHere h (seen v line).here) (sym is) (subst (IsHere nobody) (sym here) (record { runs = refl; dones = refl; forgotten = refl }));
}

-- ---- deliveries

begun_keeps : (v : View) (t : Trace) → Keeps v t → Keeps (begun v) t
begun_keeps v t k =
    keeps_lines v (begun v) t
    (record { settings = refl; tick = refl; leads = refl; firsts = refl; restarts = refl; calls = refl; packets = refl; runs = refl }) (λ q. refl) k

pub begin_keeps : (v : View) (t : Trace) → Keeps v t → Keeps (begun v) t
begin_keeps = begun_keeps

no_here : (v : View) (o : Option Sent) → (delivered (begun v) o).here ≡ no_ends
no_here v None = refl
no_here v (Some p) = refl

after_takes : (v : View) (o : Option Undo) (line : PlainEntry) (u : Trace) (x : Option Sent) → SameLines (delivered (begun v) x) (seen v line)
    → ((q : CallId) → spot (seen v line).now q ≡ spot (delivered (begun v) x).now q) → (seen v line).now.due ≡ (delivered (begun v) x).now.due
    → (seen v line).here ≡ (delivered (begun v) x).here → undo_after v o line ≡ option_map (undo_of (begun v)) x → IsAfter (begun v) x u
    → u.here ≡ nobody → Takes v o line u
after_takes v o line u x same spots due here after is none = record {
  kept = keeps_lines (delivered (begun v) x) (seen v line) u same spots is.kept;
  delivered = subst (λ y. IsDelivered u u.delivery y) (sym after) is.undo;
  due = due ∙ is.due;
  here = subst (λ h. IsHere h (seen v line).here) (sym none)
      (subst (IsHere nobody) (sym (here ∙ no_here v x)) (record { runs = refl; dones = refl; forgotten = refl }));
}

pub deliver_takes : (v : View) (o : Option Undo) (u : Trace) (n : ℕ) → IsAfter (begun v) (delivery v (PlainDeliver n)) u → u.here ≡ nobody
    → Takes v o (PlainDeliver n) u
unfolding seen
deliver_takes v o u n is none = after_takes v o (PlainDeliver n) u (delivery v (PlainDeliver n))
    (record { settings = refl; tick = refl; leads = refl; firsts = refl; restarts = refl; calls = refl; packets = refl; runs = refl })
    (λ q. refl) refl refl refl is none

pub recv_takes : (v : View) (o : Option Undo) (u : Trace) (host from : HostId) (bytes : List ℕ)
    → IsAfter (begun v) (delivery v (PlainRecv host from bytes)) u → u.here ≡ nobody → Takes v o (PlainRecv host from bytes) u
unfolding seen
recv_takes v o u host from bytes is none = after_takes v o (PlainRecv host from bytes) u (delivery v (PlainRecv host from bytes))
    (record { settings = refl; tick = refl; leads = refl; firsts = refl; restarts = refl; calls = refl; packets = refl; runs = refl })
    (λ q. refl) refl refl refl is none

-- a packet by its number
map_got : {A B : Type 0} (f : A → B) (xs : List A) (n : ℕ) → slice_get (map f xs) n ≡ option_map f (slice_get xs n)
map_got f [] n = refl
map_got f (x ∷ xs) zero = refl
map_got f (x ∷ xs) (suc n) = map_got f xs n

pub packet_got : (v : View) (t : Trace) (n : ℕ) → Keeps v t → slice_get t.packets.items n ≡ option_map packet_of (delivery v (PlainDeliver n))
packet_got v t n keeps = ap (λ ps. slice_get ps n) (sym keeps.packets) ∙ map_got packet_of v.packets n

-- ---- clocks

-- a call of which the lines say the same
call_begun : (v w : View) (q : CallId) (o : Option Call) → w.calls ≡ v.calls → w.packets ≡ v.packets → w.runs ≡ v.runs → w.restarts ≡ v.restarts
    → w.settings ≡ v.settings → ((q : CallId) → spot w.now q ≡ spot v.now q) → IsCallAt v q o → IsCallAt w q o
call_begun v w q o calls packets runs restarts settings spots k =
    subst (λ x. IsCallAt x q o)
    (λ i. record w { calls = sym calls i; packets = sym packets i; runs = sym runs i; restarts = sym restarts i; settings = sym settings i }) (by_call o k)
  where
    by_call : (o : Option Call) → IsCallAt v q o
        → IsCallAt (record w { calls = v.calls; packets = v.packets; runs = v.runs; restarts = v.restarts; settings = v.settings }) q o
    by_call None k = record { called = k.called; runs = k.runs; now = spots q ∙ k.now }
    by_call (Some c) k = record {
      called = k.called;
      size = k.size;
      sent = k.sent;
      runs = k.runs;
      client_life = k.client_life;
      server_life = k.server_life;
      now = subst (StandsFor (beside q.client v.settings.resend c) (spot_in c (record { client = life v q.client; server = life v c.server })))
          (sym (spots q)) k.now;
    }

pub clock_keeps : (v : View) (t u : Trace) (tick : ℕ) → Keeps v t → u ≡ record t { tick = tick } → Keeps (seen v (PlainClock tick)) u
unfolding seen
clock_keeps v t u tick k e = subst (Keeps (seen v (PlainClock tick))) (sym e) (record {
  settings = k.settings;
  wire = k.wire;
  tick = refl;
  hosts = λ h. record { lead = (k.hosts h).lead; first = (k.hosts h).first; restarts = (k.hosts h).restarts };
  listed = λ h. record { asked = (k.listed h).asked; awaited = (k.listed h).awaited };
  aligned = k.aligned;
  calls = λ q. call_begun v (seen v (PlainClock tick)) q (call_at t q) refl refl refl refl refl (λ q. refl) (k.calls q);
  packets = k.packets;
  made = k.made;
})

host_got : {X : Type 0} (m : Map nat_cmp X) (host h : HostId) (x : X) → get (insert m host.0 x) h.0 ≡ (if is_host h host then Some x else get m h.0)
host_got m host h x = get-insert nat_cmp_total m host.0 x h.0 ∙ ap (λ b. cond b (Some x) (get m h.0)) (number_tests h.0 host.0)

pub shift_keeps : (v : View) (t u : Trace) (host : HostId) (n : ℕ) → Keeps v t → u ≡ record t { hosts = u.hosts }
    → ((h : HostId) → lead_of (host_at u h) ≡ (if is_host h host then Some n else lead_of (host_at t h)))
    → ((h : HostId) → first_of (host_at u h) ≡ first_of (host_at t h)) → ((h : HostId) → restarts_in (host_at u h) ≡ restarts_in (host_at t h))
    → SameLists t u → Keeps (seen v (PlainShift host n)) u
unfolding seen
shift_keeps v t u host n k e lead first restarts lists = subst (Keeps (seen v (PlainShift host n))) (sym e) (record {
  settings = k.settings;
  wire = k.wire;
  tick = k.tick;
  hosts = λ h. record {
    lead = host_got v.leads host h n ∙ (ap (λ x. if is_host h host then Some n else x) (k.hosts h).lead ∙ sym (lead h));
    first = (k.hosts h).first ∙ sym (first h);
    restarts = (k.hosts h).restarts ∙ sym (restarts h);
  };
  listed = λ h. record { asked = λ q. lists.asked h q ∙ (k.listed h).asked q; awaited = λ q. lists.awaited h q ∙ (k.listed h).awaited q };
  aligned = k.aligned;
  calls = λ q. call_begun v (seen v (PlainShift host n)) q (call_at t q) refl refl refl refl refl (λ q. refl) (k.calls q);
  packets = k.packets;
  made = k.made;
})

pub inject_keeps : (v : View) (t : Trace) (host : HostId) (bytes : List ℕ) → Keeps v t → Keeps (seen v (PlainInject host bytes)) t
unfolding seen
inject_keeps v t host bytes k =
    keeps_lines v (seen v (PlainInject host bytes)) t
    (record { settings = refl; tick = refl; leads = refl; firsts = refl; restarts = refl; calls = refl; packets = refl; runs = refl }) (λ q. refl) k

-- ---- the block that begins

pub call_due : (v : View) (id : CallId) (server : HostId) (service : ℕ) (bytes : List ℕ) → (seen v (PlainCall id server service bytes)).now.due ≡ no_ends
unfolding seen
call_due v id server service bytes = refl

pub call_here : (v : View) (id : CallId) (server : HostId) (service : ℕ) (bytes : List ℕ) → (seen v (PlainCall id server service bytes)).here ≡ no_ends
unfolding seen
call_here v id server service bytes = refl

pub clock_due : (v : View) (tick : ℕ) → (seen v (PlainClock tick)).now.due ≡ no_ends
unfolding seen
clock_due v tick = refl

pub clock_here : (v : View) (tick : ℕ) → (seen v (PlainClock tick)).here ≡ no_ends
unfolding seen
clock_here v tick = refl

pub restart_due : (v : View) (host : HostId) (inc : ℕ) → (seen v (PlainRestart host inc)).now.due ≡ no_ends
unfolding seen
restart_due v host inc = refl

pub restart_here : (v : View) (host : HostId) (inc : ℕ) → (seen v (PlainRestart host inc)).here ≡ no_ends
unfolding seen
restart_here v host inc = refl

pub shift_due : (v : View) (host : HostId) (n : ℕ) → (seen v (PlainShift host n)).now.due ≡ no_ends
unfolding seen
shift_due v host n = refl

pub shift_here : (v : View) (host : HostId) (n : ℕ) → (seen v (PlainShift host n)).here ≡ no_ends
unfolding seen
shift_here v host n = refl

pub inject_due : (v : View) (host : HostId) (bytes : List ℕ) → (seen v (PlainInject host bytes)).now.due ≡ no_ends
unfolding seen
inject_due v host bytes = refl

pub inject_here : (v : View) (host : HostId) (bytes : List ℕ) → (seen v (PlainInject host bytes)).here ≡ no_ends
unfolding seen
inject_here v host bytes = refl

-- ---- a restart

no_list : (h : HostId) (a : Bool) → a ≡ false → (b : Bool) → (if b then false else a) ≡ false
no_list h a e true = refl
no_list h a e false = e

module _ (v : View) (t : Trace) (host : HostId) (inc : ℕ) (keeps : Keeps v t) where
  abbrev after : View
  after = seen v (PlainRestart host inc)

  restarts_after : (h : HostId) → restarts_of after h ≡ (if is_host h host then restarts_of v h ++ inc ∷ [] else restarts_of v h)
  unfolding seen
  restarts_after h = ap (λ o. unwrap_or o []) (host_got v.restarts host h (restarts_of v host ++ inc ∷ [])) ∙ by_test (is_host h host) refl where
    by_test : (b : Bool) → is_host h host ≡ b → unwrap_or (if b then Some (restarts_of v host ++ inc ∷ []) else get v.restarts h.0)
        [] ≡ (if b then restarts_of v h ++ inc ∷ [] else restarts_of v h)
    by_test true e = ap (λ (x : HostId). restarts_of v x ++ inc ∷ []) (sym ((hosts_are h host).0 e))
    by_test false e = refl

  length_more : (xs : List ℕ) → length (xs ++ inc ∷ []) ≡ length xs + 1
  length_more [] = refl
  length_more (x ∷ xs) = omega (arith, length_more xs)

  life_then : (h : HostId) → is_host h host ≡ true → life after h ≡ life v h + 1
  life_then h e = ap length (restarts_after h ∙ ap (λ b. if b then restarts_of v h ++ inc ∷ [] else restarts_of v h) e) ∙ length_more (restarts_of v h)

  life_else : (h : HostId) → is_host h host ≡ false → life after h ≡ life v h
  life_else h e = ap length (restarts_after h ∙ ap (λ b. if b then restarts_of v h ++ inc ∷ [] else restarts_of v h) e)

  life_grows : (h : HostId) → life v h ≤ life after h
  life_grows h = elim (is_host h host) as (λ b. is_host h host ≡ b → life v h ≤ life after h)
      [ true ↦ λ e. omega (arith, life_then h e) | false ↦ λ e. omega (arith, life_else h e) ] refl

  spots_after : (q : CallId) → spot after.now q ≡ restarted_spot v host q (spot v.now q)
  unfolding seen
  spots_after q = (each_restarted v host).spots (begun v).now q

  -- what is read in the present life: nothing of an earlier one
  in_life : {A : Type 0} (h : HostId) (n : ℕ) (b : Bool) (k : Option A) → is_host h host ≡ b → n ≤ life v h
      → (if n == life after h then k else None) ≡ (if not b then (if n == life v h then k else None) else None)
  in_life h n true k e l = let test : (n == life after h) ≡ false = grind (arith, nat_tests, life_then h e, l) in ap (λ b. if b then k else None) test
  in_life h n false k e l = ap (λ m. if n == m then k else None) (life_else h e)

  counted_in : {A : Type 0} (P : A → Type 0) (b : Bool) (k : Option A) → IfSome k P → IfSome (if not b then k else None) P
  counted_in P true k x = tt
  counted_in P false k x = x

  mapped_in : {A B : Type 0} (f : A → B) (b : Bool) (k : Option A) → option_map f (if not b then k else None) ≡ (if not b then option_map f k else None)
  mapped_in f true k = refl
  mapped_in f false k = refl

  restarted_call : (q : CallId) (c : Call) → call_at t q ≡ Some c → IsKept after q c
  unfolding seen
  restarted_call q c e =
      let k = found_call v t q c keeps e in
      let s = k.now in
      let server : is_server_of v q host ≡ is_host c.server host = ap (λ (d : Option Called). option_map_or (λ y. is_host y.server host) d false) k.called in
      let request_in = in_life c.server c.lives.server (is_host c.server host) c.spot.request refl k.server_life in
      let live_in = in_life q.client c.lives.client (is_host q.client host) c.spot.live refl k.client_life in
      let response_in = in_life q.client c.lives.client (is_host q.client host) c.spot.response refl k.client_life in
      record {
        called = k.called;
        size = k.size;
        sent = k.sent;
        runs = k.runs;
        client_life = omega (arith, k.client_life, life_grows q.client);
        server_life = omega (arith, k.server_life, life_grows c.server);
        now = subst (StandsFor (beside q.client v.settings.resend c)
            (spot_in c (record { client = life after q.client; server = life after c.server }))) (sym (spots_after q)) (record {
              live = ap (λ x. if not (is_host q.client host) then x else None) s.live ∙ sym live_in;
              request = (λ i. if not (server i) then s.request i else None)
                  ∙ (sym (mapped_in (part_of c.server q.client c.asked) (is_host c.server host)
                  (if c.lives.server == life v c.server then c.spot.request else None)) ∙ ap (option_map (part_of c.server q.client c.asked)) (sym request_in));
              response = ap (λ x. if not (is_host q.client host) then x else None) s.response
                  ∙ (sym (mapped_in (part_of q.client c.server c.answered) (is_host q.client host)
                  (if c.lives.client == life v q.client then c.spot.response else None)) ∙ ap (option_map (part_of q.client c.server c.answered))
                  (sym response_in));
              request_count =
                  subst (λ x. IfSome x (IsCounted c.asked)) (sym request_in)
                  (counted_in (IsCounted c.asked) (is_host c.server host) (if c.lives.server == life v c.server then c.spot.request else None) s.request_count);
              response_count = subst (λ x. IfSome x (IsCounted c.answered)) (sym response_in)
                  (counted_in (IsCounted c.answered) (is_host q.client host) (if c.lives.client == life v q.client then c.spot.response else None)
                  s.response_count);
              resends = s.resends;
            });
      }

  none_of : (b : Bool) → (let o : Option Part = None in (if not b then o else None) ≡ o)
  none_of true = refl
  none_of false = refl

  nothing_of : (b : Bool) → (let o : Option ℕ = None in (if not b then o else None) ≡ o)
  nothing_of true = refl
  nothing_of false = refl

  restarted_none : (q : CallId) → restarted_spot v host q no_spot ≡ no_spot
  restarted_none q =
      λ i. record {
        live = nothing_of (is_host q.client host) i;
        request = none_of (is_server_of v q host) i;
        response = none_of (is_host q.client host) i;
        resends = [];
      }

  restarted_at : (q : CallId) (o : Option Call) → call_at t q ≡ o → IsCallAt after q o
  unfolding seen
  restarted_at q None e =
      let k : IsAbsent v q = subst (IsCallAt v q) e (keeps.calls q) in
      record { called = k.called; runs = k.runs; now = spots_after q ∙ (ap (restarted_spot v host q) k.now ∙ restarted_none q) }
  restarted_at q (Some c) e = restarted_call q c e

  -- of the messages of a host that restarts none is left, and those of the others stay
  list_by : (h mine peer : HostId) (set : Numbers) (o : Option Part) (k : Option KeptPart) (a : Bool) → o ≡ option_map (part_of mine peer set) k
      → a ≡ is_incoming_at h o
      → (b c : Bool) → is_host h host ≡ b → is_host mine host ≡ c → (if b then false else a) ≡ is_incoming_at h (if not c then o else None)
  list_by h mine peer set o k a e is true true x y = refl
  list_by h mine peer set o k a e is true false x y =
      sym (incoming_of h mine peer set o k e ∙ ap (λ b. b && is_incoming o) (ap (is_host mine) ((hosts_are h host).0 x) ∙ y))
  list_by h mine peer set o k a e is false true x y =
      is ∙ (incoming_of h mine peer set o k e ∙ ap (λ b. b && is_incoming o) (host_turned mine h ∙ (ap (is_host h) ((hosts_are mine host).0 y) ∙ x)))
  list_by h mine peer set o k a e is false false x y = is

  asked_after : (h : HostId) (q : CallId) (o : Option Call) → call_at t q ≡ o
      → (if is_host h host then false else asked_of (host_at t h) q) ≡ is_incoming_at h (restarted_spot v host q (spot v.now q)).request
  asked_after h q None e =
      let none : (spot v.now q).request ≡ None = ap (λ s. s.request) (absent_now v t q keeps e) in
      no_list h (asked_of (host_at t h) q) ((keeps.listed h).asked q ∙ ap (is_incoming_at h) none) (is_host h host)
      ∙ sym (ap (λ x. is_incoming_at h (if not (is_server_of v q host) then x else None)) none ∙ ap (is_incoming_at h) (none_of (is_server_of v q host)))
  asked_after h q (Some c) e =
      let server : is_server_of v q host ≡ is_host c.server host =
      ap (λ (d : Option Called). option_map_or (λ y. is_host y.server host) d false) (found_call v t q c keeps e).called in
      list_by h c.server q.client c.asked (spot v.now q).request _ (asked_of (host_at t h) q) (stands_now v t q c keeps e).request
      ((keeps.listed h).asked q) (is_host h host) (is_host c.server host) refl refl
      ∙ ap (λ b. is_incoming_at h (if not b then (spot v.now q).request else None)) (sym server)

  awaited_after : (h : HostId) (q : CallId) (o : Option Call) → call_at t q ≡ o
      → (if is_host h host then false else awaited_of (host_at t h) q) ≡ is_incoming_at h (restarted_spot v host q (spot v.now q)).response
  awaited_after h q None e =
      let none : (spot v.now q).response ≡ None = ap (λ s. s.response) (absent_now v t q keeps e) in
      no_list h (awaited_of (host_at t h) q) ((keeps.listed h).awaited q ∙ ap (is_incoming_at h) none) (is_host h host)
      ∙ sym (ap (λ x. is_incoming_at h (if not (is_host q.client host) then x else None)) none ∙ ap (is_incoming_at h) (none_of (is_host q.client host)))
  awaited_after h q (Some c) e =
      list_by h q.client c.server c.answered (spot v.now q).response _ (awaited_of (host_at t h) q) (stands_now v t q c keeps e).response
      ((keeps.listed h).awaited q) (is_host h host) (is_host q.client host) refl refl

  pub restart_keeps : (u : Trace) → u ≡ record t { hosts = u.hosts }
      → ((h : HostId) → restarts_in (host_at u h) ≡ (if is_host h host then restarts_in (host_at t h) ++ inc ∷ [] else restarts_in (host_at t h)))
      → ((h : HostId) → lead_of (host_at u h) ≡ lead_of (host_at t h)) → ((h : HostId) → first_of (host_at u h) ≡ first_of (host_at t h))
      → ((h : HostId) (q : CallId) → asked_of (host_at u h) q ≡ (if is_host h host then false else asked_of (host_at t h) q))
      → ((h : HostId) (q : CallId) → awaited_of (host_at u h) q ≡ (if is_host h host then false else awaited_of (host_at t h) q)) → Keeps after u
  unfolding seen
  restart_keeps u e restarts lead first asked awaited = subst (Keeps after) (sym e) (record {
    settings = keeps.settings;
    wire = keeps.wire;
    tick = keeps.tick;
    hosts = λ h. record {
      lead = (keeps.hosts h).lead ∙ sym (lead h);
      first = (keeps.hosts h).first ∙ sym (first h);
      restarts = restarts_after h ∙ (ap (λ rs. if is_host h host then rs ++ inc ∷ [] else rs) (keeps.hosts h).restarts ∙ sym (restarts h));
    };
    listed = λ h. record {
      asked = λ q. asked h q ∙ (asked_after h q (call_at t q) refl ∙ ap (λ s. is_incoming_at h s.request) (sym (spots_after q)));
      awaited = λ q. awaited h q ∙ (awaited_after h q (call_at t q) refl ∙ ap (λ s. is_incoming_at h s.response) (sym (spots_after q)));
    };
    aligned = keeps.aligned;
    calls = λ q. restarted_at q (call_at t q) refl;
    packets = keeps.packets;
    made = keeps.made;
  })
