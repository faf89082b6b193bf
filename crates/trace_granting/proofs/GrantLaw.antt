-- Granting, of every trace.
use Rattle.std.proofs.Common.{◌≡◌, ℕ, ◌+◌, ◌<◌, ◌≤◌, Bool, true, false, not, ◌⊎◌, cond, Some, None, List, [], length, inl, inr, refl, sym, ap, subst}
use Rattle.std.proofs.Common.{◌∙◌, arith}
use Rattle.std.specs.Prelude.{slice_get, slice_set}
use Rattle.std.specs.Option.{option_and_then}
use Rattle.std.proofs.lemmas.Bool.{false≢true, true≢false, cases_Bool}
use Rattle.plain_sets.specs.Maps.{Map, get, retain}
use Rattle.plain_sets.proofs.MapLaws.{get-empty}
use Rattle.homa_plain.specs.declared.id.CallId.{CallId}
use Rattle.homa_plain.specs.declared.id.HostId.{HostId}
use Rattle.homa_plain.specs.declared.event.Event.{Event}
use Rattle.homa_plain.specs.declared.event.Event.TheVariants as event
use Rattle.homa_plain.specs.declared.settings.Settings.{Settings}
use Rattle.homa_plain.specs.Calls.{is_host, call_cmp}
use Rattle.homa_plain.specs.Entries.{PlainEntry, PlainSettings, PlainDeliver, PlainClock, PlainRestart, PlainInject, PlainShift, PlainFinished}
use Rattle.homa_plain.specs.Entries.{PlainRefused, PlainStalled}
use Rattle.trace_rules.specs.Lines.{is_last}
use Rattle.homa_plain.specs.Packets.{receiver}
use Rattle.trace_rules.specs.Parts.{Part}
use Rattle.homa_plain.specs.Rules.{Answer}
use Rattle.homa_plain.specs.Host.{Host, new_host}
use Rattle.homa_plain.specs.Timers.{Place, OfClient, OfServer}
use Rattle.homa_plain.specs.Work.{Work}
use Rattle.trace_rules.specs.View.{View, at_start, is_server_of}
use Rattle.trace_rules.specs.Seen.{seen, seen_all}
use Rattle.trace_rules.specs.Laws.{Holds}
use Rattle.trace_rules.specs.Granting.{IsWithin, Granting}
use Rattle.homa_plain.specs.Wire.{packet_in}
use Rattle.homa_plain.specs.World.{World, After, Done, outcome, host_at, next_answer, new_world}
use Rattle.homa_plain.proofs.CallOrder.{hosts_are}
use Rattle.step_laws.proofs.OwnOrders.{new-own}
use Rattle.step_laws.specs.StepLaws.{HasOwnOrders, response_order, request_order}
use Rattle.trace_steps.specs.Always.{KeptByEvent, HoldsAlways}
use Rattle.trace_steps.proofs.Always.{always}
use Rattle.step_moves.proofs.Names.{hosts_new}
use Rattle.step_moves.proofs.Hosts.{some_is, none_some, within, there, elsewhere}
use Rattle.trace_steps.proofs.Events.{after_step, call_done, deliver_done, inject_done, turn_done, restart_done, shift_done, clock_done}
use Rattle.trace_steps.proofs.ToldSteps.{told_view, inject_same}
use Rattle.trace_steps.specs.Stands.{said_so_far, stand}
use Rattle.trace_once.proofs.Restarted.{inject_calls, inject_line, still_stand}
use Rattle.trace_returned.proofs.Beginning.{AreServed, inject_fresh, line_true}
use Rattle.trace_returned.proofs.Restart.{get-kept}
use Rattle.trace_returned.proofs.Laws.{IsSoFar, event_says, so_later, opened_so, some_within}
use Rattle.trace_granting.proofs.Messages.{part_in}
use Rattle.trace_granting.proofs.Window.{PartsWithin, IsBoundedAt, parts_within, deliver_within, inject_within}
use Rattle.trace_granting.proofs.Ages.{number, IsInOrder}
use Rattle.trace_granting.proofs.GrantSteps.{HasGrants, StepGrants, call_grants, turn_grants, junk_grants, packet_grants}

-- ---- hosts

host_cases : (n host : HostId) → (n ≡ host) ⊎ (n ≡ host → ⊥)
host_cases n host = by_test (cases_Bool (is_host n host)) where
  by_test : (is_host n host ≡ true) ⊎ (is_host n host ≡ false) → (n ≡ host) ⊎ (n ≡ host → ⊥)
  by_test (inl e) = inl ((hosts_are n host).0 e)
  by_test (inr e) = inr (λ f. true≢false (sym ((hosts_are n host).1 f) ∙ e))

number_apart : (n host : HostId) → (n ≡ host → ⊥) → n.0 ≡ host.0 → ⊥
number_apart n host apart e = apart (λ i. record { 0 = e i })

-- the host that had the step, or another one
module _ (w : World) (host : HostId) (x : Host) (room : host.0 < length w.hosts) where
  which : (n : HostId) (g : Host) → slice_get (slice_set w.hosts host.0 x) n.0 ≡ Some g → ((n ≡ host) × (g ≡ x)) ⊎ ((n ≡ host → ⊥) × (host_at w n ≡ Some g))
  which n g is = by_host (host_cases n host) where
    by_host : (n ≡ host) ⊎ (n ≡ host → ⊥) → ((n ≡ host) × (g ≡ x)) ⊎ ((n ≡ host → ⊥) × (host_at w n ≡ Some g))
    by_host (inl e) = inl (e, some_is g x (sym is ∙ ap (λ (m : HostId). slice_get (slice_set w.hosts host.0 x) m.0) e ∙ there w.hosts host.0 x room))
    by_host (inr apart) = inr (apart, sym (elsewhere w.hosts host.0 n.0 x (number_apart n host apart)) ∙ is)

-- ---- what is so behind a step, and behind a line that leaves the parts

module _ (s : Settings) (w : World) where
  step_has : (v before : View) (host : HostId) (work : Work) → host.0 < length w.hosts → HasGrants s w before → StepGrants s w v host before work
      → HasGrants s (after_step w host [] work).world (said_so_far w v work)
  step_has v before host work room g r = record {
    within_all = r.ends.within;
    own = λ n x is. own n x (which w host work.host room n x is);
    orders = λ n x is. orders n x (which w host work.host room n x is);
    placed = r.ends.aged.placed;
  } where
    own : (n : HostId) (x : Host) → ((n ≡ host) × (x ≡ work.host)) ⊎ ((n ≡ host → ⊥) × (host_at w n ≡ Some x)) → HasOwnOrders x
    own n x (inl e) = subst HasOwnOrders (sym e.1) r.own
    own n x (inr e) = g.own n x e.1

    orders : (n : HostId) (x : Host) → ((n ≡ host) × (x ≡ work.host)) ⊎ ((n ≡ host → ⊥) × (host_at w n ≡ Some x)) → IsInOrder n x (said_so_far w v work).now
    orders n x (inl e) = subst (λ (m : HostId). IsInOrder m x (said_so_far w v work).now) (sym e.0)
        (subst (λ (y : Host). IsInOrder host y (said_so_far w v work).now) (sym e.1) r.ends.aged.order)
    orders n x (inr e) = r.ends.aged.elsewhere n x e.0 (g.orders n x e.1)

  -- each part stays or vanishes
  module _ (v u : View) (parts : (q : Place) → (part_in u.now q ≡ None) ⊎ (part_in u.now q ≡ part_in v.now q)) where
    stood : (q : Place) (y : Part) → part_in u.now q ≡ Some y → part_in v.now q ≡ Some y
    stood q y is = by_part (parts q) where
      by_part : (part_in u.now q ≡ None) ⊎ (part_in u.now q ≡ part_in v.now q) → part_in v.now q ≡ Some y
      by_part (inl e) = absurd (none_some y (sym e ∙ is))
      by_part (inr e) = sym e ∙ is

    bounded : (q : Place) → IsBoundedAt s.window (part_in v.now q) → IsBoundedAt s.window (part_in u.now q)
    bounded q k = by_part (parts q) where
      by_part : (part_in u.now q ≡ None) ⊎ (part_in u.now q ≡ part_in v.now q) → IsBoundedAt s.window (part_in u.now q)
      by_part (inl e) = subst (IsBoundedAt s.window) (sym e) tt
      by_part (inr e) = subst (IsBoundedAt s.window) (sym e) k

    pub fewer_within : PartsWithin s.window v.now → PartsWithin s.window u.now
    fewer_within k id = (bounded (OfServer id) (k id).0, bounded (OfClient id) (k id).1)

    pub fewer_order : (n : HostId) (h : Host) → IsInOrder n h v.now → IsInOrder n h u.now
    fewer_order n h k p q a b x y pa qb px qy xh yh = k p q a b x y pa qb (stood p x px) (stood q y qy) xh yh

    pub fewer_placed : v.place ≤ u.place → ((q : Place) (y : Part) → part_in v.now q ≡ Some y → y.order < v.place) → (q : Place) (y : Part)
        → part_in u.now q ≡ Some y → y.order < u.place
    fewer_placed later k q y is = let t : y.order < v.place = k q y (stood q y is) in omega (arith, t, later)

  pub line_has : (x : World) (v u : View) → x.hosts ≡ w.hosts → ((q : Place) → part_in u.now q ≡ part_in v.now q) → v.place ≤ u.place
      → HasGrants s w v → HasGrants s x u
  line_has x v u hosts same later g = record {
    within_all = fewer_within v u (λ q. inr (same q)) g.within_all;
    own = λ n h is. g.own n h (ap (λ hs. slice_get hs n.0) (sym hosts) ∙ is);
    orders = λ n h is. fewer_order v u (λ q. inr (same q)) n h (g.orders n h (ap (λ hs. slice_get hs n.0) (sym hosts) ∙ is));
    placed = fewer_placed v u (λ q. inr (same q)) later g.placed;
  }

-- ---- lines of events

inject_parts : (v : View) (id : HostId) (bytes : List ℕ) (q : Place) → part_in (seen v (PlainInject id bytes)).now q ≡ part_in v.now q
unfolding seen
inject_parts v id bytes (OfClient q) = refl
inject_parts v id bytes (OfServer q) = refl

shift_parts : (v : View) (id : HostId) (n : ℕ) (q : Place) → part_in (seen v (PlainShift id n)).now q ≡ part_in v.now q
unfolding seen
shift_parts v id n (OfClient q) = refl
shift_parts v id n (OfServer q) = refl

pub clock_parts : (v : View) (n : ℕ) (q : Place) → part_in (seen v (PlainClock n)).now q ≡ part_in v.now q
unfolding seen
clock_parts v n (OfClient q) = refl
clock_parts v n (OfServer q) = refl

kept_or_gone : {X : Type 0} (m : Map call_cmp X) (p : CallId → Bool) (q : CallId) → (get (retain m p) q ≡ None) ⊎ (get (retain m p) q ≡ get m q)
kept_or_gone m p q = by_test (p q) refl where
  by_test : (b : Bool) → p q ≡ b → (get (retain m p) q ≡ None) ⊎ (get (retain m p) q ≡ get m q)
  by_test true e = inr (get-kept m p q ∙ ap (λ b. cond b (get m q) None) e)
  by_test false e = inl (get-kept m p q ∙ ap (λ b. cond b (get m q) None) e)

restart_parts : (v : View) (host : HostId) (inc : ℕ) (q : Place) → (part_in (seen v (PlainRestart host inc)).now q ≡ None)
    ⊎ (part_in (seen v (PlainRestart host inc)).now q ≡ part_in v.now q)
unfolding seen
restart_parts v host inc (OfClient q) = kept_or_gone v.now.responses (λ id. not (is_host id.client host)) q
restart_parts v host inc (OfServer q) = kept_or_gone v.now.requests (λ id. not (is_server_of v id host)) q

pub line_settings : (v : View)
    → (((id : HostId) (bytes : List ℕ) → (seen v (PlainInject id bytes)).settings ≡ v.settings)
    × ((id : HostId) (n : ℕ) → (seen v (PlainShift id n)).settings ≡ v.settings)
    × ((n : ℕ) → (seen v (PlainClock n)).settings ≡ v.settings) × ((id : HostId) (n : ℕ) → (seen v (PlainRestart id n)).settings ≡ v.settings))
unfolding seen
line_settings v = (λ id bytes. refl, λ id n. refl, λ n. refl, λ id n. refl)

pub line_place : (v : View) (line : PlainEntry) → (seen v line).place ≡ v.place + 1
unfolding seen
line_place v line = refl

new_numbers : (s : Settings) (id : HostId) (inc last : ℕ) (q : Place) (a : ℕ) → number (new_host s id inc last) q ≡ Some a → ⊥
new_numbers s id inc last (OfClient q) a e = none_some a (sym (ap (option_and_then response_order) (get-empty call_cmp q)) ∙ e)
new_numbers s id inc last (OfServer q) a e = none_some a (sym (ap (option_and_then request_order) (get-empty call_cmp q)) ∙ e)

restart_has : (s : Settings) (w : World) (v : View) (host : HostId) (h : Host) (spares : ℕ) → host_at w host ≡ Some h → HasGrants s w v
    → HasGrants s (record w { hosts = slice_set w.hosts host.0 (new_host s host (h.inc + 1) h.last); spares = spares }) (seen v (PlainRestart host (h.inc + 1)))
restart_has s w v host h spares stands g = record {
  within_all = fewer_within s w v u parts g.within_all;
  own = λ n x is. own n x (which w host new room n x is);
  orders = λ n x is. orders n x (which w host new room n x is);
  placed = fewer_placed s w v u parts later g.placed;
} where
  u : View
  u = seen v (PlainRestart host (h.inc + 1))

  new : Host
  new = new_host s host (h.inc + 1) h.last

  room : host.0 < length w.hosts
  room = within w.hosts host.0 h stands

  parts : (q : Place) → (part_in u.now q ≡ None) ⊎ (part_in u.now q ≡ part_in v.now q)
  parts q = restart_parts v host (h.inc + 1) q

  later : v.place ≤ u.place
  later = let n : u.place ≡ v.place + 1 = line_place v (PlainRestart host (h.inc + 1)) in omega (arith, n)

  own : (n : HostId) (x : Host) → ((n ≡ host) × (x ≡ new)) ⊎ ((n ≡ host → ⊥) × (host_at w n ≡ Some x)) → HasOwnOrders x
  own n x (inl e) = subst HasOwnOrders (sym e.1) (new-own s host (h.inc + 1) h.last)
  own n x (inr e) = g.own n x e.1

  orders : (n : HostId) (x : Host) → ((n ≡ host) × (x ≡ new)) ⊎ ((n ≡ host → ⊥) × (host_at w n ≡ Some x)) → IsInOrder n x u.now
  orders n x (inl e) = λ p q a b y z pa qb py qz yh zh. absurd (new_numbers s host (h.inc + 1) h.last p a (ap (λ (m : Host). number m p) (sym e.1) ∙ pa))
  orders n x (inr e) = fewer_order s w v u parts n x (g.orders n x e.1)

-- ---- every event

record EventGrants (s : Settings) (v : View) (after : After) : Type 0 where
  pub holds : Holds Granting v after.told
  pub has : HasGrants s after.world (seen_all v after.told)

event_grants : (s : Settings) (w : World) (v : View) (e : Event) (bytes : List ℕ) (after : After) → IsSoFar s w v → HasGrants s w v
    → outcome s w e bytes ≡ Done after → EventGrants s v after
unfolding outcome
event_grants s w v (event.Call client server number) bytes after so g e =
    let c = call_done s w after client server number bytes e in
    let r = call_grants s w v client c.host c.stands so.0 so.1 so.2 so.3 g server number bytes (some_within w.hosts server.0 c.other) in
    let has = step_has s w v v client _ (within w.hosts client.0 c.host c.stands) g r in
    subst (EventGrants s v) (sym c.is)
    (record { holds = r.ends.holds; has = record { within_all = has.within_all; own = has.own; orders = has.orders; placed = has.placed } })
event_grants s w v (event.Deliver n) bytes after so g e =
    let c = deliver_done s w after n e in
    let host : HostId = receiver c.sent.packet in
    let r = packet_grants s w v n host c.host c.stands so.0 so.1 so.2 so.3 g c.sent (next_answer w.answers) c.at refl c.early in
    let all = deliver_within s v n (so.0).valid.unsched (so.0).settings g.within_all in
    let has = step_has s w (seen v (PlainDeliver n)) v host _ (within w.hosts host.0 c.host c.stands) g r in
    subst (EventGrants s v) (sym c.is) (record {
      holds = (parts_within s.window (seen v (PlainDeliver n)) (ap (λ (x : Settings). x.window) all.settings) all.now, r.ends.holds);
      has = record { within_all = has.within_all; own = has.own; orders = has.orders; placed = has.placed };
    })
event_grants s w v event.Clock bytes after so g e =
    let u : View = seen v (PlainClock (w.clock + 1)) in
    let next : u.place ≡ v.place + 1 = line_place v (PlainClock (w.clock + 1)) in
    let has = line_has s w (record w { clock = w.clock + 1 }) v u refl (clock_parts v (w.clock + 1)) (omega (arith, next)) g in
    subst (EventGrants s v) (sym (clock_done s w after e).is) (record {
      holds = (parts_within s.window u (ap (λ (x : Settings). x.window) ((line_settings v).2 (w.clock + 1) ∙ (so.0).settings)) has.within_all, tt);
      has = record { within_all = has.within_all; own = has.own; orders = has.orders; placed = has.placed };
    })
event_grants s w v (event.Turn host) bytes after so g e =
    let c = turn_done s w after host (host_at w host) refl e in
    let r = turn_grants s w v host c.host c.stands so.0 so.1 so.2 so.3 g in
    let has = step_has s w v v host _ (within w.hosts host.0 c.host c.stands) g r in
    subst (EventGrants s v) (sym c.is)
    (record { holds = r.ends.holds; has = record { within_all = has.within_all; own = has.own; orders = has.orders; placed = has.placed } })
event_grants s w v (event.Restart host) bytes after so g e =
    let c = restart_done s w after host (host_at w host) w.spares refl refl e in
    let u : View = seen v (PlainRestart host (c.host.inc + 1)) in
    let has = restart_has s w v host c.host c.spares c.stands g in
    subst (EventGrants s v) (sym c.is) (record {
      holds = (parts_within s.window u (ap (λ (x : Settings). x.window) ((line_settings v).3 host (c.host.inc + 1) ∙ (so.0).settings)) has.within_all, tt);
      has = record { within_all = has.within_all; own = has.own; orders = has.orders; placed = has.placed };
    })
event_grants s w v (event.Inject host) bytes after so g e =
    let c = inject_done s w after host bytes (host_at w host) (packet_in s.wire bytes) refl refl e in
    let line : PlainEntry = PlainInject host bytes in
    let u : View = seen v line in
    let next : u.place ≡ v.place + 1 = line_place v line in
    let told_line = told_view s w v u (inject_same v host bytes) so.0 in
    let true_line = line_true s w w v line tt tt (inject_fresh v host bytes) refl
    (λ q m. (w.clock, (stand w v q m).last, (stand w v q m).old, still_stand w v line tt (inject_calls v host bytes) q m)) so.2 in
    let served : AreServed w u = λ q x f. so.3 q x (ap (λ m. get m q) (sym (inject_calls v host bytes)) ∙ f) in
    let here = line_has s w w v u refl (inject_parts v host bytes) (omega (arith, next)) g in
    let all = inject_within s v host bytes (so.0).settings g.within_all in
    let r = junk_grants s w u host c.host c.stands told_line (inject_line s w v host bytes so.1) true_line served here (next_answer w.answers) all in
    let has = step_has s w u u host _ (within w.hosts host.0 c.host c.stands) here r in
    subst (EventGrants s v) (sym c.is) (record {
      holds = (parts_within s.window u (ap (λ (x : Settings). x.window) all.settings) all.now, r.ends.holds);
      has = record { within_all = has.within_all; own = has.own; orders = has.orders; placed = has.placed };
    })
event_grants s w v (event.Shift host n) bytes after so g e =
    let u : View = seen v (PlainShift host n) in
    let next : u.place ≡ v.place + 1 = line_place v (PlainShift host n) in
    let has = line_has s w (record w { leads = slice_set w.leads host.0 n }) v u refl (shift_parts v host n) (omega (arith, next)) g in
    subst (EventGrants s v) (sym (shift_done s w after host n (host_at w host) refl e).is) (record {
      holds = (parts_within s.window u (ap (λ (x : Settings). x.window) ((line_settings v).1 host n ∙ (so.0).settings)) has.within_all, tt);
      has = record { within_all = has.within_all; own = has.own; orders = has.orders; placed = has.placed };
    })

-- ---- the law

abbrev IsGrantingSoFar : Settings → World → View → Type 0
IsGrantingSoFar s w v = IsSoFar s w v × HasGrants s w v

no_parts : (s : Settings) (clock : ℕ) (q : Place) → part_in (seen (at_start clock) (PlainSettings s)).now q ≡ None
unfolding seen
no_parts s clock (OfClient q) = get-empty call_cmp q
no_parts s clock (OfServer q) = get-empty call_cmp q

opened_within : (s : Settings) (clock : ℕ) → PartsWithin s.window (seen (at_start clock) (PlainSettings s)).now
opened_within s clock id =
    (subst (IsBoundedAt s.window) (sym (no_parts s clock (OfServer id))) tt, subst (IsBoundedAt s.window) (sym (no_parts s clock (OfClient id))) tt)

pub opened_grants : (s : Settings) (incs : List ℕ) (clock boxes : ℕ) (answers : List Answer)
    → HasGrants s (new_world s incs clock boxes answers) (seen (at_start clock) (PlainSettings s))
unfolding new_world
opened_grants s incs clock boxes answers = record {
  within_all = opened_within s clock;
  own = λ n h is. let k = hosts_new s 0 incs n.0 h is in subst HasOwnOrders (sym k.is) (new-own s _ _ _);
  orders = λ n h is p q a b x y pa qb px qy xh yh. absurd (none_some x (sym (no_parts s clock p) ∙ px));
  placed = λ q y is. absurd (none_some y (sym (no_parts s clock q) ∙ is));
}

pub event_granting : KeptByEvent IsGrantingSoFar Granting
event_granting s w v e after so done =
    let k = event_grants s w v e.event e.bytes after so.0 so.1 done in
    let says = event_says s w v e.event e.bytes after so.0.0 so.0.1 so.0.2 so.0.3 done in
    (k.holds, (so_later s w v e.event e.bytes after so.0 done says, k.has))

pub first_granting : (s : Settings) (clock : ℕ) → IsWithin (seen (at_start clock) (PlainSettings s))
unfolding seen
first_granting s clock = parts_within s.window (seen (at_start clock) (PlainSettings s)) refl (opened_within s clock)

pub last_granting : (s : Settings) (v : View) (line : PlainEntry) → v.settings ≡ s → PartsWithin s.window v.now → is_last line ≡ true → Granting v line
unfolding seen
last_granting s v (PlainFinished n) same k e = parts_within s.window (seen v (PlainFinished n)) (ap (λ (x : Settings). x.window) same) k
last_granting s v (PlainRefused line fault) same k e = parts_within s.window (seen v (PlainRefused line fault)) (ap (λ (x : Settings). x.window) same) k
last_granting s v (PlainStalled turns now) same k e = parts_within s.window (seen v (PlainStalled turns now)) (ap (λ (x : Settings). x.window) same) k
last_granting s v line same k e = absurd (false≢true e)

pub granting_always : HoldsAlways Granting
granting_always =
    always IsGrantingSoFar Granting (λ s incs clock boxes opening. first_granting s clock)
    (λ s incs clock boxes answers opening. (opened_so s incs clock boxes answers opening, opened_grants s incs clock boxes answers)) event_granting
    (λ s w v line so e. last_granting s v line (so.0.0).settings so.1.within_all e)
