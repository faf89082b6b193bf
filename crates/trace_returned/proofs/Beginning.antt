-- Between two steps, and where one begins: lines of events leave what the lines say of messages true.
use Rattle.std.proofs.Common.{◌≡◌, ℕ, ◌+◌, ◌≤◌, ◌<◌, Bool, true, false, Option, Some, None, List, [], ◌∷◌, length, cond, refl, sym, ap, subst, ◌∙◌}
use Rattle.std.specs.Prelude.{slice_get, slice_set, Contains}
use Rattle.std.specs.Option.{option_map}
use Rattle.std.specs.List.{AllByRecursion}
use Rattle.std.proofs.lemmas.Bool.{false≢true}
use Rattle.std.proofs.lemmas.List.{append-nil}
use Rattle.plain_sets.specs.Maps.{get}
use Rattle.plain_sets.proofs.MapLaws.{get-empty}
use Rattle.homa_plain.specs.declared.id.CallId.{CallId}
use Rattle.homa_plain.specs.declared.id.HostId.{HostId}
use Rattle.homa_plain.specs.declared.settings.Settings.{Settings}
use Rattle.homa_plain.specs.Calls.{is_call, call_cmp}
use Rattle.homa_plain.specs.Entries.{PlainEntry, PlainSettings, PlainCall, PlainDeliver, PlainClock, PlainInject, PlainShift}
use Rattle.homa_plain.specs.Rows.{ClientRow, State, RowsOf}
use Rattle.homa_plain.specs.Host.{Host}
use Rattle.homa_plain.specs.Rules.{Answer}
use Rattle.homa_plain.specs.Work.{Work, begun}
use Rattle.homa_plain.specs.Steps.{starts, next_id, new_call}
use Rattle.trace_rules.specs.View.{View, Progress, Called, no_ends, at_start}
use Rattle.trace_rules.specs.Seen.{seen}
use Rattle.trace_rules.specs.Laws.{Once, SameCalls}
use Rattle.homa_plain.specs.World.{World, host_at, own_clock, new_world}
use Rattle.homa_plain.proofs.CallOrder.{calls_are}
use Rattle.trace_steps.specs.Told.{IsTold}
use Rattle.trace_steps.proofs.Progress.{get-set, AreLevel, level_itself}
use Rattle.trace_steps.proofs.Runs.{IsUnrun, unrun_same}
use Rattle.trace_steps.specs.Stands.{Stand, state_of, stand, put, amid}
use Rattle.step_moves.specs.Worlds.{at_host}
use Rattle.trace_steps.specs.Contents.{replies, Replies}
use Rattle.step_moves.proofs.Hosts.{within, none_some, some_is}
use Rattle.trace_steps.proofs.ToldEvents as told_events
use Rattle.trace_steps.proofs.ToldSteps.{told_view, deliver_same}
use Rattle.trace_once.specs.Lifetime.{times, took_part, called_by}
use Rattle.trace_once.specs.Kept.{IsKept}
use Rattle.trace_once.proofs.Later.{at}
use Rattle.trace_once.proofs.Events.{with_call}
use Rattle.trace_once.proofs.Amid.{AreOwn}
use Rattle.trace_once.proofs.Begun.{Begins, begun_stand, begun_amid}
use Rattle.trace_once.proofs.Called.{stand_here, stand_other, unused, started_amid}
use Rattle.trace_once.proofs.Opened.{new_at}
use Rattle.trace_once.proofs.Restarted.{deliver_calls, still_stand, deliver_line}
use Rattle.trace_returned.specs.Tales.{Tale, tale, IsTruthful, IsSameRequest, IsSameResponse, IsSame, IsClosed, IsTrue, receiving}
use Rattle.trace_returned.proofs.Calm.{tale_is, same_replies}
use Rattle.trace_returned.proofs.ReplyLines.{lines_truthful}
use Rattle.trace_returned.specs.Closing.{Closed}
use Rattle.trace_returned.proofs.Saying.{IsSaying}
use Rattle.trace_returned.proofs.ServerCame.{IsBefore, plain_closed}
use Rattle.trace_returned.proofs.Stepping.{same_shift}

-- a block that has what is due
same_calls : (xs ys : List CallId) → xs ≡ ys → SameCalls xs ys
same_calls xs ys e id = ((λ c. subst (λ (zs : List CallId). Contains zs id) e c), (λ c. subst (λ (zs : List CallId). Contains zs id) (sym e) c))

pub closed_line : (v : View) (line : PlainEntry) → IsClosed v → Closed v line
closed_line v line k closing =
    (same_calls v.here.runs v.now.due.runs k.runs, same_calls v.here.dones v.now.due.dones k.dones, same_calls v.here.forgotten v.now.due.forgotten k.forgotten)

-- each call that the lines tell was made to a host that stands
abbrev pub AreServed : World → View → Type 0
AreServed w v = (q : CallId) (c : Called) → get v.calls q ≡ Some c → c.server.0 < length w.hosts

-- the same call, where the clock and the host's last tick rose
pub same_at : (s : Settings) (v : View) (q : CallId) (m : HostId) (x : Stand) (t : Tale) (clock last : ℕ) (old : Bool) → IsSame s v q m x t
    → IsSame s v q m (at x clock last old) t
same_at s v q m x t clock last old k = record { live = k.live; request = k.request; unmade = k.unmade; response = k.response; replies = k.replies }

-- ---- a line that tells of no run, no restart and no call

-- a view whose block has just begun, and of which all else stays
pub record IsFresh (v u : View) : Type 0 where
  pub tales : (q : CallId) → tale u.now q ≡ tale v.now q
  pub refused : u.if_refused ≡ u.now
  pub here : u.here ≡ no_ends
  pub due : u.now.due ≡ no_ends

pub inject_fresh : (v : View) (id : HostId) (bytes : List ℕ) → IsFresh v (seen v (PlainInject id bytes))
unfolding seen
inject_fresh v id bytes = record { tales = λ q. refl; refused = refl; here = refl; due = refl }

pub shift_fresh : (v : View) (id : HostId) (n : ℕ) → IsFresh v (seen v (PlainShift id n))
unfolding seen
shift_fresh v id n = record { tales = λ q. refl; refused = refl; here = refl; due = refl }

pub clock_fresh : (v : View) (tick : ℕ) → IsFresh v (seen v (PlainClock tick))
unfolding seen
clock_fresh v tick = record { tales = λ q. refl; refused = refl; here = refl; due = refl }

pub quiet_replies : (v : View) (line : PlainEntry) (m : HostId) (q : CallId) → IsUnrun line → replies (seen v line) m q ≡ replies v m q
quiet_replies v line m q quiet = let e = unrun_same v line quiet in same_replies v (seen v line) m q e.runs e.restarts

-- behind such a line, of a world with the same packets
pub line_true : (s : Settings) (w x : World) (v : View) (line : PlainEntry) → Once v line → IsUnrun line → IsFresh v (seen v line)
    → x.packets ≡ w.packets
    → ((q : CallId) (m : HostId) → (clock : ℕ) × (last : ℕ) × (old : Bool) × (stand x (seen v line) q m ≡ at (stand w v q m) clock last old))
    → IsTrue s w v → IsTrue s x (seen v line)
line_true s w x v line once quiet fresh packets stands t = record {
  same = λ q m. let a = stands q m in
      same_shift s v (line ∷ []) q m (at (stand w v q m) a.0 a.1 a.2) (stand x (seen v line) q m) (tale v.now q) (tale (seen v line).now q)
      (once, tt) a.3 (fresh.tales q) (quiet_replies v line m q quiet)
      (same_at s v q m (stand w v q m) (tale v.now q) a.0 a.1 a.2 (t.same q m));
  packets = subst (AllByRecursion (IsTruthful (seen v line))) (sym packets) (lines_truthful v (line ∷ []) (once, tt) w.packets t.packets);
  level = subst (λ (m : Progress). AreLevel m (seen v line).now) (sym fresh.refused) (level_itself (seen v line).now);
  closed = plain_closed (seen v line) fresh.here fresh.due;
}

-- ---- a step begins

module _ (s : Settings) (w : World) (v : View) (host : HostId) (h x : Host) (stands : host_at w host ≡ Some h) (told : IsTold s w v)
    (b : Begins h x (own_clock w host)) (after : h.last ≤ own_clock w host) (within_band : own_clock w host ≤ w.clock + (times s).band) (k : IsKept s w v) where
  own_name : x.id ≡ host
  own_name = b.id ∙ (told.names host h stands).name

  own_rows : AreOwn host x.clients
  own_rows q r is = (told.names host h stands).own q r (ap (λ (rows : RowsOf ClientRow). get rows q) (sym b.clients) ∙ is)

  pub begun_saying : IsTrue s w v → AreServed w v → IsSaying s w v host (own_clock w host) (within w.hosts host.0 h stands) (record { host = x; told = [] })
  begun_saying t served = record {
    amid = begun_amid s w v host (own_clock w host) h x stands b after within_band own_name own_rows k;
    told = told_events.begun_amid s w v host h stands told x b.id b.inc b.clients b.last;
    same = record {
      same = λ q m. subst (λ y. IsSame s v q m y (tale v.now q)) (sym (begun_stand s w v host (own_clock w host) h x stands b after within_band q m))
          (same_at s v q m (stand w v q m) (tale v.now q) _ _ _ (t.same q m));
      packets = subst (AllByRecursion (IsTruthful v)) (sym (append-nil w.packets)) t.packets;
      level = t.level;
      closed = t.closed;
    };
    returned = (tt, served, tt);
  }

-- by a delivery
module _ (s : Settings) (w : World) (v : View) (n : ℕ) (host : HostId) (h x : Host) (stands : host_at w host ≡ Some h) (told : IsTold s w v)
    (b : Begins h x (own_clock w host)) (after : h.last ≤ own_clock w host) (within_band : own_clock w host ≤ w.clock + (times s).band) (k : IsKept s w v) where
  pub begun_before : IsTrue s w v → AreServed w v → IsBefore s w v n host (own_clock w host) (within w.hosts host.0 h stands) (record { host = x; told = [] })
  begun_before t served =
      let now : ℕ = own_clock w host in
      let line : View = seen v (PlainDeliver n) in
      let told_line : IsTold s w line = told_view s w v line (deliver_same v n) told in
      let kept_line = deliver_line s w v n k in
      let own : AreOwn host x.clients = (λ q r is. (told.names host h stands).own q r (ap (λ (rows : RowsOf ClientRow). get rows q) (sym b.clients) ∙ is)) in
      record {
        told = told_events.begun_amid s w line host h stands told_line x b.id b.inc b.clients b.last;
        view = refl;
        same = λ q m.
            same_shift s v (PlainDeliver n ∷ []) q m
            (at (stand w v q m) w.clock (at_host 0 (λ (y : Host). y.last) (slice_get (slice_set w.hosts host.0 x) m.0)) (stand w v q m).old)
            (amid w line host (record { host = x; told = [] }) q m) (tale v.now q) (tale v.now q) (tt, tt)
            (begun_stand s w line host now h x stands b after within_band q m
            ∙ ap (λ (y : Stand). at y w.clock (at_host 0 (λ (y : Host). y.last) (slice_get (slice_set w.hosts host.0 x) m.0)) y.old)
            (still_stand w v (PlainDeliver n) tt (deliver_calls v n) q m))
            refl (quiet_replies v (PlainDeliver n) m q tt) (same_at s v q m (stand w v q m) (tale v.now q) _ _ _ (t.same q m));
        packets = subst (AllByRecursion (IsTruthful line)) (sym (append-nil w.packets)) (lines_truthful v (PlainDeliver n ∷ []) (tt, tt) w.packets t.packets);
        returned = (tt, λ q c e. served q c (ap (λ m. get m q) (sym (deliver_calls v n)) ∙ e), tt);
        amid = begun_amid s w line host now h x stands b after within_band (b.id ∙ (told.names host h stands).name) own kept_line;
      }

-- ---- a call starts

module _ (s : Settings) (w : World) (v : View) (host : HostId) (h : Host) (stands : host_at w host ≡ Some h) (told : IsTold s w v)
    (within_band : own_clock w host ≤ w.clock + (times s).band) (server : HostId) (number : ℕ) (request : List ℕ)
    (k : IsSaying s w v host (own_clock w host) (within w.hosts host.0 h stands) (begun h (own_clock w host))) where
  abbrev id : CallId
  id = next_id h

  abbrev now : ℕ
  now = own_clock w host

  abbrev room : host.0 < length w.hosts
  room = within w.hosts host.0 h stands

  abbrev before : Work
  before = begun h (own_clock w host)

  abbrev after : Work
  after = starts s server number request (begun h (own_clock w host))

  abbrev line : PlainEntry
  line = PlainCall (next_id h) server number request

  abbrev u : View
  u = seen v (PlainCall (next_id h) server number request)

  abbrev row : ClientRow
  row = new_call s now h.order server number request

  call_tale : (q : CallId) (b : Bool) → is_call q id ≡ b
      → tale (seen v (PlainCall (next_id h) server number request)).now q
      ≡ record { live = cond b (Some 0) (get v.now.live q); request = get v.now.requests q; response = get v.now.responses q }
  unfolding seen
  call_tale q b e = tale_is _ _ (get-set v.now.live (next_id h) 0 q ∙ ap (λ t. cond t (Some 0) (get v.now.live q)) e) refl refl

  call_block : ((seen v (PlainCall (next_id h) server number request)).if_refused ≡ (seen v (PlainCall (next_id h) server number request)).now)
      × ((seen v (PlainCall (next_id h) server number request)).here ≡ no_ends) × ((seen v (PlainCall (next_id h) server number request)).now.due ≡ no_ends)
  unfolding seen
  call_block = (refl, refl, refl)

  call_line : get (seen v (PlainCall (next_id h) server number request)).calls (next_id h) ≡ Some
      (record { server = server; service = number; request = request })
  unfolding seen
  call_line = get-set v.calls (next_id h) (record { server = server; service = number; request = request }) (next_id h)
      ∙ ap (λ t. cond t (Some (record { server = server; service = number; request = request })) (get v.calls (next_id h)))
      ((calls_are (next_id h) (next_id h)).1 refl)

  call_other : (q : CallId) → is_call q (next_id h) ≡ false → get (seen v (PlainCall (next_id h) server number request)).calls q ≡ get v.calls q
  unfolding seen
  call_other q e = get-set v.calls (next_id h) (record { server = server; service = number; request = request }) q
      ∙ ap (λ t. cond t (Some (record { server = server; service = number; request = request })) (get v.calls q)) e

  -- nothing was so of the call before
  none_called : (m : HostId) → (amid w v host before id m).called ≡ None
  none_called m = by_call (amid w v host before id m).called refl where
    by_call : (o : Option Called) → (amid w v host before id m).called ≡ o → o ≡ None
    by_call None e = refl
    by_call (Some c) e =
        absurd (false≢true (sym (unused s w v host now h room within_band server number request k.amid m) ∙ (k.amid.kept.calls id m).named c e))

  none_live : (m : HostId) → (amid w v host before id m).client ≡ None
  none_live m = by_row (amid w v host before id m).client refl where
    by_row : (o : Option ClientRow) → (amid w v host before id m).client ≡ o → o ≡ None
    by_row None e = refl
    by_row (Some r) e = absurd (none_some (called_by r) (sym (none_called m) ∙ ((k.amid.kept.calls id m).client r e).called))

  none_served : (m : HostId) → (amid w v host before id m).server ≡ None
  none_served m = by_state (amid w v host before id m).server refl where
    by_state : (o : Option State) → (amid w v host before id m).server ≡ o → o ≡ None
    by_state None e = refl
    by_state (Some state) e =
        let made = (k.amid.kept.calls id m).made (ap (took_part (amid w v host before id m).ran) e) in
        absurd (none_some _ (sym (none_called m) ∙ made.called))

  new_same : (m : HostId)
      → IsSame s u id m (with_call (amid w v host before id m) row)
      (record { live = Some 0; request = get v.now.requests id; response = get v.now.responses id })
  new_same m =
      let o = k.same.same id m in
      let none : get v.now.requests id ≡ None = o.unmade (none_called m) in
      let served : (amid w v host before id m).server ≡ None = none_served m in
      record {
        live = refl;
        request = λ c called there. subst (λ y. IsSameRequest s id.client c (amid w v host before id m).ran (receiving y) (get v.now.requests id)) (sym served)
            (subst (IsSameRequest s id.client c (amid w v host before id m).ran None) (sym none) ((λ _. refl), tt));
        unmade = λ e. none;
        response = subst (λ y. IsSameResponse s v id y (get v.now.responses id)) (none_live m) o.response;
        replies = subst (Replies (replies u m id)) (sym served) tt;
      }

  call_same : (q : CallId) (m : HostId) (b : Bool) → is_call q id ≡ b → IsSame s u q m (amid w v host after q m) (tale u.now q)
  call_same q m true e =
      subst (λ (y : CallId). IsSame s u y m (amid w v host after y m) (tale u.now y)) (sym ((calls_are q id).0 e))
      (subst (λ y. IsSame s u id m y (tale u.now id)) (sym (stand_here s w v host now h room within_band server number request k.amid m))
      (subst (IsSame s u id m (with_call (amid w v host before id m) row)) (sym (call_tale id true ((calls_are id id).1 refl))) (new_same m)))
  call_same q m false e =
      same_shift s v (line ∷ []) q m _ (amid w v host after q m) (tale v.now q) (tale u.now q) (tt, tt)
      (stand_other s w v host now h room within_band server number request k.amid q m e) (call_tale q false e) (quiet_replies v line m q tt)
      (same_at s v q m (amid w v host before q m) (tale v.now q) _ _ _ (k.same.same q m))

  pub started_saying : server.0 < length w.hosts
      → IsSaying s w v host (own_clock w host) (within w.hosts host.0 h stands) (starts s server number request (begun h (own_clock w host)))
  started_saying there = record {
    amid = started_amid s w v host now h room within_band server number request k.amid;
    told = told_events.started_amid s w v host h stands told now server number request refl;
    same = record {
      same = λ q m. call_same q m (is_call q id) refl;
      packets = lines_truthful v (line ∷ []) (tt, tt) (put w host before).packets k.same.packets;
      level = subst (λ (m : Progress). AreLevel m u.now) (sym call_block.0) (level_itself u.now);
      closed = plain_closed u call_block.1 call_block.2;
    };
    returned = ((tt, tt), (λ q c e. by_call q c e (is_call q id) refl), (closed_line v line k.same.closed, tt));
  } where
    by_call : (q : CallId) (c : Called) → get u.calls q ≡ Some c → (b : Bool) → is_call q id ≡ b → c.server.0 < length w.hosts
    by_call q c e false f = k.returned.1 q c (sym (call_other q f) ∙ e)
    by_call q c e true f =
        let same : record { server = server; service = number; request = request } ≡ c =
        some_is _ c (sym call_line ∙ ap (λ (y : CallId). get u.calls y) (sym ((calls_are q id).0 f)) ∙ e) in
        subst (λ (y : Called). y.server.0 < length w.hosts) same there

-- ---- a world that was just opened

pub opened_true : (s : Settings) (incs : List ℕ) (clock boxes : ℕ) (answers : List Answer)
    → IsTrue s (new_world s incs clock boxes answers) (seen (at_start clock) (PlainSettings s))
unfolding new_world seen
opened_true s incs clock boxes answers = record {
  same = λ q m.
      let w : World = new_world s incs clock boxes answers in
      let v : View = seen (at_start clock) (PlainSettings s) in
      let server : (stand w v q m).server ≡ None = new_at None (λ h. state_of (get h.servers q)) s incs 0 m.0 (λ _ _. ap state_of (get-empty call_cmp q)) in
      let client : (stand w v q m).client ≡ None = new_at None (λ h. get h.clients q) s incs 0 q.client.0 (λ _ _. get-empty call_cmp q) in
      record {
        live = get-empty call_cmp q ∙ ap (option_map (λ (r : ClientRow). r.seen)) (sym client);
        request = λ c e there. absurd (none_some c (sym (get-empty call_cmp q) ∙ e));
        unmade = λ e. get-empty call_cmp q;
        response = subst (λ o. IsSameResponse s v q o (get v.now.responses q)) (sym client) (get-empty call_cmp q);
        replies = subst (Replies (replies v m q)) (sym server) tt;
      };
  packets = tt;
  level = level_itself _;
  closed = record { runs = refl; dones = refl; forgotten = refl };
}

pub opened_served : (s : Settings) (incs : List ℕ) (clock boxes : ℕ) (answers : List Answer)
    → AreServed (new_world s incs clock boxes answers) (seen (at_start clock) (PlainSettings s))
unfolding seen
opened_served s incs clock boxes answers q c e = absurd (none_some c (sym (get-empty call_cmp q) ∙ e))
