-- Each event keeps what the lines tell of clocks, names, lives and packets.
use Rattle.std.proofs.Common.{◌≡◌, ℕ, zero, suc, ◌+◌, ◌≤◌, ◌<◌, Bool, true, false, Option, Some, None, List, [], ◌∷◌, ◌++◌, length, map, refl, sym}
use Rattle.std.proofs.Common.{ap, subst, ◌∙◌, arith}
use Rattle.std.specs.Prelude.{slice_get, slice_set, slice_index_or, unwrap_or, nat_lt}
use Rattle.std.specs.List.{AllByRecursion}
use Rattle.std.specs.Ordering.{nat_cmp, eq_by_cmp}
use Rattle.std.proofs.lemmas.Bool.{cond_both, false_from_ne_true}
use Rattle.std.proofs.lemmas.List.{append-nil}
use Rattle.plain_sets.specs.Maps.{get, insert}
use Rattle.plain_sets.proofs.MapLaws.{get-empty}
use Rattle.homa_plain.specs.declared.id.HostId.{HostId}
use Rattle.homa_plain.specs.declared.settings.Settings.{Settings}
use Rattle.homa_plain.specs.declared.event.Event.{Event}
use Rattle.homa_plain.specs.declared.event.Event.TheVariants as event
use Rattle.homa_plain.specs.Settings.{band}
use Rattle.homa_plain.specs.Calls.{is_host, call_cmp}
use Rattle.homa_plain.specs.Entries.{PlainDeliver, PlainInject, PlainClock, PlainRestart, PlainShift}
use Rattle.homa_plain.specs.Wire.{packet_in}
use Rattle.homa_plain.specs.Packets.{Packet, receiver}
use Rattle.homa_plain.specs.Rows.{ClientRow, RowsOf}
use Rattle.homa_plain.specs.Host.{Host, new_host, entries_from}
use Rattle.homa_plain.specs.Rules.{Answer}
use Rattle.homa_plain.specs.Work.{Work, begun}
use Rattle.homa_plain.specs.Steps.{starts, next_id, new_call, comes, acts, call_step, arrival_step, turn_step}
use Rattle.homa_plain.specs.Credit.{refilled}
use Rattle.trace_rules.specs.View.{View}
use Rattle.trace_rules.specs.Seen.{seen, seen_all}
use Rattle.homa_plain.specs.World.{World, SentPacket, After, Done, outcome, host_at, own_clock, next_answer}
use Rattle.homa_plain.proofs.CallOrder.{hosts_are}
use Rattle.trace_steps.specs.Stands.{put, said_so_far}
use Rattle.trace_steps.specs.Told.{HasLives, IsTold}
use Rattle.step_moves.specs.Worlds.{HasOwnName, IsDated}
use Rattle.trace_steps.proofs.Lives.{number_itself, same_number, get-there, get-elsewhere}
use Rattle.trace_steps.proofs.Restarts.{lived_restarted, lives_here, lives_elsewhere}
use Rattle.trace_steps.proofs.ToldMoves.{each_set}
use Rattle.step_moves.proofs.Names.{own_set}
use Rattle.trace_steps.proofs.ToldSteps.{told_view, inject_same, call_same, deliver_same, set_same, IsSameHost, told_host, ToldAmid, told_ended}
use Rattle.trace_steps.proofs.ToldSteps.{told_acts, told_comes}
use Rattle.step_moves.proofs.Hosts.{within, length-set, some_is, apart, none_some}
use Rattle.step_moves.proofs.Timed.{resend_of}
use Rattle.trace_steps.proofs.Events.{after_step, call_done, deliver_done, inject_done, turn_done, restart_done, shift_done, clock_done}

-- ---- a step begins, and ends

-- the world that a step leaves, but for the answers that are left
told_answers : (s : Settings) (w : World) (v : View) (answers : List Answer) → IsTold s w v → IsTold s (record w { answers = answers }) v
told_answers s w v answers k = record {
  valid = k.valid;
  settings = k.settings;
  tick = k.tick;
  leads = k.leads;
  packets = k.packets;
  names = k.names;
  lives = k.lives;
  lived = k.lived;
  clocks = record { lead = k.clocks.lead; last = k.clocks.last; each = k.clocks.each };
  dated = k.dated;
}

-- no packet more
told_packets_same : (s : Settings) (w : World) (v : View) → IsTold s w v → IsTold s (record w { packets = w.packets ++ [] }) v
told_packets_same s w v k = record {
  valid = k.valid;
  settings = k.settings;
  tick = k.tick;
  leads = k.leads;
  packets = k.packets ∙ ap (map (λ (p : SentPacket). _)) (sym (append-nil w.packets));
  names = k.names;
  lives = k.lives;
  lived = k.lived;
  clocks = record { lead = k.clocks.lead; last = k.clocks.last; each = k.clocks.each };
  dated = subst (AllByRecursion (IsDated s)) (sym (append-nil w.packets)) k.dated;
}

module _ (s : Settings) (w : World) (v : View) (host : HostId) (h : Host) (stands : host_at w host ≡ Some h) (k : IsTold s w v) where
  -- a host that takes a step, with nothing told yet but the event's line
  pub begun_amid : (first : Host) → first.id ≡ h.id → first.inc ≡ h.inc → first.clients ≡ h.clients → first.last ≡ own_clock w host
      → ToldAmid s w v host (within w.hosts host.0 h stands) (record { host = first; told = [] })
  begun_amid first id inc clients last =
      let same : IsSameHost s w host h first = record {
        name = id;
        inc = inc;
        own = λ q r is. (k.names host h stands).own q r (ap (λ (rows : RowsOf ClientRow). get rows q) (sym clients) ∙ is);
        last = omega (arith, last);
      } in
      told_packets_same s (record w { hosts = slice_set w.hosts host.0 first }) v (told_host s w v host h first stands same k)

  -- a call starts
  pub started_amid : (now : ℕ) (server : HostId) (service : ℕ) (request : List ℕ) → now ≡ own_clock w host
      → ToldAmid s w v host (within w.hosts host.0 h stands) (starts s server service request (begun h now))
  started_amid now server service request at =
      let work : Work = starts s server service request (begun h now) in
      let mine : h.id ≡ host = (k.names host h stands).name in
      let same : IsSameHost s w host h work.host = record {
        name = refl;
        inc = refl;
        own = own_set host h.clients (next_id h) (Some (new_call s now h.order server service request)) mine (k.names host h stands).own;
        last = omega (arith, at);
      } in
      told_view s (put w host work) v (said_so_far w v work) (call_same v (next_id h) server service request)
      (told_packets_same s (record w { hosts = slice_set w.hosts host.0 work.host }) v (told_host s w v host h work.host stands same k))

  -- what the step leaves
  pub after_told : (work : Work) → ToldAmid s w v host (within w.hosts host.0 h stands) work
      → IsTold s (after_step w host [] work).world (seen_all v (entries_from (length w.packets) work.told))
  after_told work a = told_answers s (put w host work) (said_so_far w v work) _ a

-- ---- steps

module _ (s : Settings) (w : World) (v : View) (host : HostId) (h : Host) (stands : host_at w host ≡ Some h) (k : IsTold s w v) where
  call_told : (server : HostId) (number : ℕ) (request : List ℕ) → let work : Work = call_step s h (own_clock w host) server number request in
      IsTold s (after_step w host [] work).world (seen_all v (entries_from (length w.packets) work.told))
  unfolding call_step
  call_told server number request =
      after_told s w v host h stands k (call_step s h (own_clock w host) server number request)
      (told_ended s w v host (within w.hosts host.0 h stands) (starts s server number request (begun h (own_clock w host)))
      (started_amid s w v host h stands k (own_clock w host) server number request refl))

  arrival_told : (o : Option Packet) (answer : Answer) → ((p : Packet) → o ≡ Some p → receiver p ≡ host) → let work : Work =
      arrival_step s h (own_clock w host) o answer in IsTold s (after_step w host [] work).world (seen_all v (entries_from (length w.packets) work.told))
  unfolding arrival_step
  arrival_told o answer at =
      after_told s w v host h stands k (arrival_step s h (own_clock w host) o answer)
      (told_ended s w v host (within w.hosts host.0 h stands) (comes s o answer (begun h (own_clock w host)))
      (told_comes s w v host (within w.hosts host.0 h stands) o answer (begun h (own_clock w host)) at
      (begun_amid s w v host h stands k (record h { last = own_clock w host }) refl refl refl refl)))

  turn_told : let work : Work =
      turn_step s h (own_clock w host) in IsTold s (after_step w host [] work).world (seen_all v (entries_from (length w.packets) work.told))
  unfolding turn_step
  turn_told =
      let now : ℕ = own_clock w host in
      let l = within w.hosts host.0 h stands in
      let filled : Host = refilled s (record h { last = now }) in
      let same = cond_both (nat_lt h.refilled now) (record h { last = now; credit = s.rate; refilled = now }) (record h { last = now })
      (λ (x : Host). (x.id ≡ h.id) × (x.inc ≡ h.inc) × (x.clients ≡ h.clients)) (λ _. (refl, refl, refl)) (λ _. (refl, refl, refl)) in
      after_told s w v host h stands k (turn_step s h now)
      (told_ended s w v host l (acts s (begun filled now))
      (told_acts s w v host l (resend_of s k.valid) (begun filled now)
      (begun_amid s w v host h stands k (record filled { last = now }) same.0 same.1 same.2 refl)))

-- ---- the other events

-- the clock goes on
ticked_told : (s : Settings) (w : World) (v : View) → IsTold s w v → IsTold s (record w { clock = w.clock + 1 }) (seen v (PlainClock (w.clock + 1)))
unfolding seen
ticked_told s w v k = record {
  valid = k.valid;
  settings = k.settings;
  tick = refl;
  leads = k.leads;
  packets = k.packets;
  names = k.names;
  lives = λ id h is. let l = k.lives id h is in record { first = l.first; now = l.now; later = l.later; told = l.told; sent = l.sent };
  lived = k.lived;
  clocks = record { lead = k.clocks.lead; last = λ id h is. omega (arith, k.clocks.last id h is); each = k.clocks.each };
  dated = k.dated;
}

-- a host's own clock is set anew
index_there : (xs : List ℕ) (i x : ℕ) → i < length xs → slice_index_or (slice_set xs i x) i 0 ≡ x
index_there [] i x l = absurd (omega (arith, l))
index_there (y ∷ xs) zero x l = refl
index_there (y ∷ xs) (suc i) x l = index_there xs i x (omega (arith, l))

index_elsewhere : (xs : List ℕ) (i n x : ℕ) → (n ≡ i → ⊥) → slice_index_or (slice_set xs i x) n 0 ≡ slice_index_or xs n 0
index_elsewhere [] i n x e = refl
index_elsewhere (y ∷ xs) zero zero x e = absurd (e refl)
index_elsewhere (y ∷ xs) zero (suc n) x e = refl
index_elsewhere (y ∷ xs) (suc i) zero x e = refl
index_elsewhere (y ∷ xs) (suc i) (suc n) x e = index_elsewhere xs i n x (λ k. e (ap suc k))

shifted_told : (s : Settings) (w : World) (v : View) (id : HostId) (n : ℕ) (h : Host) → host_at w id ≡ Some h → n ≤ band s → h.last ≤ w.clock + n
    → IsTold s w v → IsTold s (record w { leads = slice_set w.leads id.0 n }) (seen v (PlainShift id n))
unfolding seen
shifted_told s w v id n h stands most forth k = record {
  valid = k.valid;
  settings = k.settings;
  tick = k.tick;
  leads = λ m l. by_host m (is_host m id) refl l;
  packets = k.packets;
  names = k.names;
  lives = λ m x is. let l = k.lives m x is in record { first = l.first; now = l.now; later = l.later; told = l.told; sent = l.sent };
  lived = k.lived;
  clocks = record {
    lead = λ m. lead_of m (is_host m id) refl;
    last = λ m x is. last_of m x is (is_host m id) refl;
    each = length-set w.leads id.0 n ∙ k.clocks.each;
  };
  dated = k.dated;
} where
  room : id.0 < length w.leads
  room = omega (arith, within w.hosts id.0 h stands, k.clocks.each)

  key : (m : HostId) (b : Bool) → is_host m id ≡ b → eq_by_cmp nat_cmp m.0 id.0 ≡ b
  key m true e = ap (λ (x : HostId). eq_by_cmp nat_cmp x.0 id.0) ((hosts_are m id).0 e) ∙ number_itself id.0
  key m false e = false_from_ne_true (eq_by_cmp nat_cmp m.0 id.0) (λ t. apart m id e (sym (same_number m.0 id.0 t)))

  here : (m : HostId) → is_host m id ≡ true → slice_index_or (slice_set w.leads id.0 n) m.0 0 ≡ n
  here m e = ap (λ (x : HostId). slice_index_or (slice_set w.leads id.0 n) x.0 0) ((hosts_are m id).0 e) ∙ index_there w.leads id.0 n room

  other : (m : HostId) → is_host m id ≡ false → slice_index_or (slice_set w.leads id.0 n) m.0 0 ≡ slice_index_or w.leads m.0 0
  other m e = index_elsewhere w.leads id.0 m.0 n (λ same. apart m id e (sym same))

  by_host : (m : HostId) (b : Bool) → is_host m id ≡ b → m.0 < length w.hosts
      → unwrap_or (get (insert v.leads id.0 n) m.0) s.skew ≡ slice_index_or (slice_set w.leads id.0 n) m.0 0
  by_host m true e l =
      ap (λ (o : Option ℕ). unwrap_or o s.skew) (ap (λ (x : HostId). get (insert v.leads id.0 n) x.0) ((hosts_are m id).0 e) ∙ get-there v.leads id.0 n)
      ∙ sym (here m e)
  by_host m false e l = ap (λ (o : Option ℕ). unwrap_or o s.skew) (get-elsewhere v.leads id.0 n m.0 (key m false e)) ∙ k.leads m l ∙ sym (other m e)

  lead_of : (m : HostId) (b : Bool) → is_host m id ≡ b → slice_index_or (slice_set w.leads id.0 n) m.0 0 ≤ band s
  lead_of m true e = omega (arith, here m e, most)
  lead_of m false e = omega (arith, other m e, k.clocks.lead m)

  last_of : (m : HostId) (x : Host) → host_at w m ≡ Some x → (b : Bool) → is_host m id ≡ b → x.last ≤ w.clock + slice_index_or (slice_set w.leads id.0 n) m.0 0
  last_of m x is true e =
      let same : h.last ≡ x.last =
      ap (λ (y : Host). y.last) (some_is h x (sym stands ∙ ap (λ (y : HostId). slice_get w.hosts y.0) (sym ((hosts_are m id).0 e)) ∙ is)) in
      omega (arith, here m e, forth, same)
  last_of m x is false e = omega (arith, other m e, k.clocks.last m x is)

-- a host restarts
restarted_told : (s : Settings) (w : World) (v : View) (id : HostId) (h : Host) (spares : ℕ) → host_at w id ≡ Some h → IsTold s w v
    → IsTold s (record w { hosts = slice_set w.hosts id.0 (new_host s id (h.inc + 1) h.last); spares = spares }) (seen v (PlainRestart id (h.inc + 1)))
unfolding seen
restarted_told s w v id h spares stands k = record {
  valid = k.valid;
  settings = k.settings;
  tick = k.tick;
  leads = λ m l. k.leads m (omega (arith, l, length-set w.hosts id.0 new));
  packets = k.packets;
  names = each_set HasOwnName HasOwnName w.hosts id h new room
      (λ _. record { name = refl; own = λ q r is. absurd (none_some r (sym (get-empty call_cmp q) ∙ is)) }) (λ _ _ _ n. n) (back HasOwnName k.names);
  lives = each_set (HasLives v) (HasLives after) w.hosts id h new room (λ l. lives_here v id (h.inc + 1) h new refl refl l)
      (λ m x e l. lives_elsewhere v id (h.inc + 1) m x (key m e) l) (back (HasLives v) k.lives);
  lived = lived_restarted v id (h.inc + 1) k.lived;
  clocks = record {
    lead = k.clocks.lead;
    last = each_set (λ m x. x.last ≤ own_clock w m) (λ m x. x.last ≤ own_clock w m) w.hosts id h new room (λ l. l) (λ _ _ _ l. l)
        (back (λ m x. x.last ≤ own_clock w m) k.clocks.last);
    each = k.clocks.each ∙ sym (length-set w.hosts id.0 new);
  };
  dated = k.dated;
} where
  new : Host
  new = new_host s id (h.inc + 1) h.last

  after : View
  after = seen v (PlainRestart id (h.inc + 1))

  room : id.0 < length w.hosts
  room = within w.hosts id.0 h stands

  key : (m : HostId) → is_host m id ≡ false → eq_by_cmp nat_cmp m.0 id.0 ≡ false
  key m e = false_from_ne_true (eq_by_cmp nat_cmp m.0 id.0) (λ t. apart m id e (sym (same_number m.0 id.0 t)))

  back : (P : HostId → Host → Type 0) → ((n : HostId) (x : Host) → slice_get w.hosts n.0 ≡ Some x → P n x) → (n : HostId) (x : Host)
      → slice_get (slice_set w.hosts id.0 h) n.0 ≡ Some x → P n x
  back P all n x is = all n x (ap (λ hs. slice_get hs n.0) (sym (set_same w.hosts id.0 h stands)) ∙ is)

-- ---- every event

pub told_event : (s : Settings) (w : World) (v : View) (e : Event) (bytes : List ℕ) (after : After) → IsTold s w v → outcome s w e bytes ≡ Done after
    → IsTold s after.world (seen_all v after.told)
unfolding outcome
told_event s w v (event.Call client server number) bytes after k e =
    let c = call_done s w after client server number bytes e in
    subst (λ (x : After). IsTold s x.world (seen_all v x.told)) (sym c.is) (call_told s w v client c.host c.stands k server number bytes)
told_event s w v (event.Deliver n) bytes after k e =
    let c = deliver_done s w after n e in
    subst (λ (x : After). IsTold s x.world (seen_all v x.told)) (sym c.is)
    (arrival_told s w (seen v (PlainDeliver n)) (receiver c.sent.packet) c.host c.stands
    (told_view s w v (seen v (PlainDeliver n)) (deliver_same v n) k) (Some c.sent.packet) (next_answer w.answers)
    (λ p is. ap receiver (sym (some_is c.sent.packet p is))))
told_event s w v event.Clock bytes after k e =
    let c = clock_done s w after e in
    subst (λ (x : After). IsTold s x.world (seen_all v x.told)) (sym c.is) (ticked_told s w v k)
told_event s w v (event.Turn host) bytes after k e =
    let c = turn_done s w after host (host_at w host) refl e in
    subst (λ (x : After). IsTold s x.world (seen_all v x.told)) (sym c.is) (turn_told s w v host c.host c.stands k)
told_event s w v (event.Restart host) bytes after k e =
    let c = restart_done s w after host (host_at w host) w.spares refl refl e in
    subst (λ (x : After). IsTold s x.world (seen_all v x.told)) (sym c.is) (restarted_told s w v host c.host c.spares c.stands k)
told_event s w v (event.Inject host) bytes after k e =
    let c = inject_done s w after host bytes (host_at w host) (packet_in s.wire bytes) refl refl e in
    subst (λ (x : After). IsTold s x.world (seen_all v x.told)) (sym c.is)
    (arrival_told s w (seen v (PlainInject host bytes)) host c.host c.stands
    (told_view s w v (seen v (PlainInject host bytes)) (inject_same v host bytes) k) None (next_answer w.answers) (λ p is. absurd (none_some p is)))
told_event s w v (event.Shift host n) bytes after k e =
    let c = shift_done s w after host n (host_at w host) refl e in
    subst (λ (x : After). IsTold s x.world (seen_all v x.told)) (sym c.is) (shifted_told s w v host n c.host c.stands c.most c.forth k)
