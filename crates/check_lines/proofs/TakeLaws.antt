-- A line that is taken.
use Rattle.std.proofs.Common.{◌≡◌, ℕ, arith, Bool, true, false, cond, ◌&&◌, Option, Some, None, length, map, refl, sym, ap, ◌∙◌, subst}
use Rattle.std.specs.Prelude.{if◌then◌else◌, IfSome, is_some, slice_set}
use Rattle.std.specs.Option.{option_map, option_map_or}
use Rattle.homa_plain.specs.declared.id.CallId.{CallId}
use Rattle.homa_plain.specs.declared.id.HostId.{HostId}
use Rattle.homa_plain.specs.Calls.{is_host, is_call}
use Rattle.homa_plain.proofs.CallOrder.{calls_are}
use Rattle.trace_rules.specs.View.{View, Sent, life, sent_last}
use Rattle.trace_rules.specs.Seen.{stale, refused, is_delivery_to}
use Rattle.check_call.specs.LeftOut.{runs_of}
use Rattle.check_call.specs.Spots as spots
use Rattle.check_call.specs.Spots.{spot, Undo, only, undo_each}
use Rattle.check_call.specs.declared.spot.Spot.{Spot}
use Rattle.check_call.specs.declared.spot.Change.{Change}
use Rattle.check_call.specs.declared.spot.Change.TheVariants.{Nothing}
use Rattle.check_call.specs.declared.call.Call.{Call}
use Rattle.check_call.specs.Kept.{Beside, StandsFor, IsApart, changed, no_spot}
use Rattle.check_call.specs.Calls.{spot_in, beside, called_of}
use Rattle.check_call.specs.declared.call.Lives.{Lives}
use Rattle.check_lines.specs.declared.block.Delivery.{Delivery}
use Rattle.check_lines.specs.declared.block.Here.{Here}
use Rattle.check_lines.specs.declared.trace.Trace.{Trace}
use Rattle.check_lines.specs.Traces.{Keeps, IsUndoOf, IsDelivered, StandsOr, AreSpots, IsKept, IsCallAt, is_incoming_at, lives_in, run_of, call_in}
use Rattle.check_lines.specs.Traces.{IsPlace, call_at, beside_at}
use Rattle.check_lines.specs.Changes.{SameSets, SameLines, Changes, ChangesAs, IsChange, IsMade, StandsAt, Ready}
use Rattle.check_lines.proofs.Places.{call_replaced}
use Rattle.check_lines.proofs.KeepLaws.{same_lines, call_still, found_call, absent_now, stands_now, lives_now}

-- ---- what is kept, where nothing of it changes

-- the block and the count of lines are no part of it
pub keeps_rest : (v : View) (t u : Trace) (place : ℕ) (ended : Bool) (here : Here) (delivery : Option Delivery)
    → u ≡ record t { place = place; ended = ended; here = here; delivery = delivery } → Keeps v t → Keeps v u
keeps_rest v t u place ended here delivery e k = subst (Keeps v) (sym e) (record {
  settings = k.settings;
  wire = k.wire;
  tick = k.tick;
  hosts = k.hosts;
  listed = k.listed;
  aligned = k.aligned;
  calls = k.calls;
  packets = k.packets;
  made = k.made;
})

pub keeps_delivery : (v : View) (t u : Trace) → u ≡ record t { delivery = u.delivery } → Keeps v t → Keeps v u
keeps_delivery v t u e k = keeps_rest v t u t.place t.ended t.here u.delivery e k

-- lines that say the same, and leave each spot
pub keeps_lines : (v w : View) (t : Trace) → SameLines v w → ((q : CallId) → spot w.now q ≡ spot v.now q) → Keeps v t → Keeps w t
keeps_lines v w t same spots k = subst (λ x. Keeps x t) (same_lines v w same) (record {
  settings = k.settings;
  wire = k.wire;
  tick = k.tick;
  hosts = λ h. record { lead = (k.hosts h).lead; first = (k.hosts h).first; restarts = (k.hosts h).restarts };
  listed = λ h. record {
    asked = λ q. (k.listed h).asked q ∙ ap (λ s. is_incoming_at h s.request) (sym (spots q));
    awaited = λ q. (k.listed h).awaited q ∙ ap (λ s. is_incoming_at h s.response) (sym (spots q));
  };
  aligned = k.aligned;
  calls = λ q. call_still v w q (call_at t q) (spots q) (k.calls q);
  packets = k.packets;
  made = k.made;
})

-- ---- the block's delivery

-- the spots of calls stand beside the same
delivered_by : (t u : Trace) → SameSets t u → (d : Option Delivery) (o : Option Undo) → IsDelivered t d o → IsDelivered u d o
delivered_by t u same None None is = tt
delivered_by t u same None (Some x) is = absurd is
delivered_by t u same (Some d) None is = absurd is
delivered_by t u same (Some d) (Some x) is = record { packet = is.packet; spots = subst (λ b. AreSpots b d x) (sym (same x.packet.id)) is.spots; due = is.due }

pub delivered_on : (t u : Trace) (o : Option Undo) → SameSets t u → u.delivery ≡ t.delivery → IsDelivered t t.delivery o → IsDelivered u u.delivery o
delivered_on t u o same e is = subst (λ d. IsDelivered u d o) (sym e) (delivered_by t u same t.delivery o is)

-- a change of another call
pub undo_else : (t : Trace) (d : Delivery) (u : Undo) (id : CallId) (f : spots.Spot → spots.Spot) → is_call u.packet.id id ≡ false → IsUndoOf t d u
    → IsUndoOf t d (undo_each (only id f) u)
undo_else t d u id f e is =
    let r : only id f u.packet.id u.refused ≡ u.refused = ap (λ b. cond b (f u.refused) u.refused) e in
    let s : only id f u.packet.id u.stale ≡ u.stale = ap (λ b. cond b (f u.stale) u.stale) e in
    record {
      packet = is.packet;
      spots = subst (λ x. AreSpots (beside_at t u.packet.id) d x) (λ i. record u { refused = sym r i; stale = sym s i }) is.spots;
      due = is.due;
    }

pub some_there : (o : Option Call) → is_some o ≡ true → (c : Call) × (o ≡ Some c)
some_there None e = absurd cc
some_there (Some c) e = (c, refl)

not_made : (o : Option Call) (b : Call → Beside) → is_some o ≡ true → option_map b o ≡ None → ⊥
not_made None b m e = cc
not_made (Some c) b m e = cc

-- a change of the packet's call
pub undo_then : (t : Trace) (d : Delivery) (u : Undo) (id : CallId) (change : Change) (f : spots.Spot → spots.Spot) (refused stale : Spot)
    → is_call u.packet.id id ≡ true → IsMade t id → IsChange t id change f
    → ((b : Beside) (s : spots.Spot) → ChangesAs b change f → StandsFor b d.refused s → StandsFor b refused (f s))
    → ((b : Beside) (s : spots.Spot) → ChangesAs b change f → StandsFor b d.stale s → StandsFor b stale (f s))
    → IsUndoOf t d u → IsUndoOf t (record d { refused = refused; stale = stale }) (undo_each (only id f) u)
undo_then t d u id change f refused stale e made ch r s is =
    let here = (calls_are u.packet.id id).0 e in
    let x : only id f u.packet.id u.refused ≡ f u.refused = ap (λ b. cond b (f u.refused) u.refused) e in
    let y : only id f u.packet.id u.stale ≡ f u.stale = ap (λ b. cond b (f u.stale) u.stale) e in
    record {
      packet = is.packet;
      spots = subst (λ z. AreSpots (beside_at t u.packet.id) (record d { refused = refused; stale = stale }) z)
          (λ i. record u { refused = sym x i; stale = sym y i })
          (by_set (beside_at t u.packet.id) refl (subst (λ (q : CallId). IsMade t q) (sym here) made)
          (subst (λ (q : CallId). IsChange t q change f) (sym here) ch) is.spots);
      due = is.due;
    }
  where
    by_set : (o : Option Beside) → beside_at t u.packet.id ≡ o → IsMade t u.packet.id → IfSome o (λ b. ChangesAs b change f) → AreSpots o d u
        → AreSpots o (record d { refused = refused; stale = stale }) (record u { refused = f u.refused; stale = f u.stale })
    by_set None e m k a = absurd (not_made (call_at t u.packet.id) (beside u.packet.id.client t.settings.resend) m e)
    by_set (Some b) e m k a = (r b u.refused k a.0, s b u.stale k a.1)

-- ---- a change that is none

-- the spot of its call stays
nothing_there : (v : View) (t : Trace) (id : CallId) (f : spots.Spot → spots.Spot) → Keeps v t → IsMade t id → IsChange t id Nothing f
    → f (spot v.now id) ≡ spot v.now id
nothing_there v t id f keeps made ch =
    let here = some_there (call_at t id) made in
    let c = here.0 in
    let is : ChangesAs (beside id.client t.settings.resend c) Nothing f =
    subst (λ (o : Option Call). IfSome (option_map (beside id.client t.settings.resend) o) (λ b. ChangesAs b Nothing f)) here.1 ch in
    sym (is.same (spot_in c (lives_in t id c.server)) (spot v.now id) (stands_now v t id c keeps here.1))

-- so does what is kept
pub nothing_changes : (v w : View) (t : Trace) (id : CallId) (f : spots.Spot → spots.Spot) → Keeps v t → IsMade t id → IsChange t id Nothing f
    → Changes v w id f → Keeps w t
nothing_changes v w t id f keeps made ch changes = keeps_lines v w t changes.same (λ q. changes.spots q ∙ at_call q (is_call q id) refl) keeps where
  at_call : (q : CallId) (b : Bool) → is_call q id ≡ b → only id f q (spot v.now q) ≡ spot v.now q
  at_call q true e =
      ap (λ b. cond b (f (spot v.now q)) (spot v.now q)) e
      ∙ subst (λ (x : CallId). f (spot v.now x) ≡ spot v.now x) (sym ((calls_are q id).0 e)) (nothing_there v t id f keeps made ch)
  at_call q false e = ap (λ b. cond b (f (spot v.now q)) (spot v.now q)) e

-- and what the block's delivery may be taken back to
pub nothing_undone : (t : Trace) (d : Option Delivery) (o : Option Undo) (id : CallId) (f : spots.Spot → spots.Spot) → IsMade t id
    → IsChange t id Nothing f
    → IsDelivered t d o → IsDelivered t d (option_map (undo_each (only id f)) o)
nothing_undone t None None id f made ch is = tt
nothing_undone t None (Some u) id f made ch is = absurd is
nothing_undone t (Some d) None id f made ch is = absurd is
nothing_undone t (Some d) (Some u) id f made ch is = at_call (is_call u.packet.id id) refl where
  at_call : (b : Bool) → is_call u.packet.id id ≡ b → IsUndoOf t d (undo_each (only id f) u)
  at_call true e =
      undo_then t d u id Nothing f d.refused d.stale e made ch (λ b s x st. subst (StandsFor b d.refused) (x.same d.refused s st) st)
      (λ b s x st. subst (StandsFor b d.stale) (x.same d.stale s st) st) is
  at_call false e = undo_else t d u id f e is

-- ---- a change of a call

-- the changed spot stands for what the change makes of the old one
pub changed_stands : (v : View) (t : Trace) (id : CallId) (change : Change) (f : spots.Spot → spots.Spot) (k m : Spot) → Keeps v t
    → IsChange t id change f → IfSome (call_at t id) (λ c. k ≡ spot_in c (lives_in t id c.server))
    → ((b : Beside) (s : spots.Spot) → IsApart b.gap change → StandsFor b k s → StandsFor b m (changed b change s)) → StandsAt t id m (f (spot v.now id))
changed_stands v t id change f k m keeps ch is says = by_call (call_at t id) refl ch is where
  by_call : (o : Option Call) → call_at t id ≡ o → IfSome (option_map (beside id.client t.settings.resend) o) (λ b. ChangesAs b change f)
      → IfSome o (λ c. k ≡ spot_in c (lives_in t id c.server))
      → IfSome (option_map (beside id.client t.settings.resend) o) (λ b. StandsFor b m (f (spot v.now id)))
  by_call None e x i = tt
  by_call (Some c) e x i =
      let b = beside id.client t.settings.resend c in
      let st = subst (λ (s : Spot). StandsFor b s (spot v.now id)) (sym i) (stands_now v t id c keeps e) in
      subst (StandsFor b m) (x.same k (spot v.now id) st) (says b (spot v.now id) x.apart st)

-- ---- a call whose parts are settled

pub settled_call : (v : View) (t : Trace) (id : CallId) (c d : Call) (l : Lives) → Keeps v t → call_at t id ≡ Some c → l ≡ lives_in t id c.server
    → d ≡ record c { lives = l; spot = d.spot; asked = d.asked; answered = d.answered }
    → ((client : HostId) (gap : ℕ) (s : spots.Spot) → StandsFor (beside client gap c) (spot_in c l) s → StandsFor (beside client gap d)
    (spot_in d l) s) → IsKept v id d
settled_call v t id c d l keeps here lives e says =
    let was = found_call v t id c keeps here in
    let present : Lives = record { client = life v id.client; server = life v c.server } in
    let same : present ≡ l = lives_now v t id c.server keeps ∙ sym lives in
    let st = says id.client v.settings.resend (spot v.now id)
    (subst (λ (x : Lives). StandsFor (beside id.client v.settings.resend c) (spot_in c x) (spot v.now id)) same was.now) in
    let server : d.server ≡ c.server = ap (λ x. x.server) e in
    let kept : d.lives ≡ l = ap (λ x. x.lives) e in
    record {
      called = was.called ∙ ap (λ x. Some (called_of x)) (sym e);
      size = subst (λ (x : Call). x.size ≡ length x.request.items) (sym e) was.size;
      sent = subst (λ (x : Call). x.sent_last ≡ sent_last v id) (sym e) was.sent;
      runs = subst (λ (x : Call). runs_of v id ≡ map (run_of id x.server x.request.items) x.runs.items) (sym e) was.runs;
      client_life = omega (arith, ap (λ x. x.client) kept, ap (λ x. x.client) same);
      server_life = omega (arith, ap (λ x. x.server) kept, ap (λ x. x.server) same, ap (life v) server);
      now = subst (λ (x : Lives). StandsFor (beside id.client v.settings.resend d) (spot_in d x) (spot v.now id))
          (sym same ∙ (λ i. record { client = life v id.client; server = life v (sym server i) })) st;
    }

-- what is kept, where a call stands for the same as before
pub replaced_keeps : (v : View) (t u : Trace) (id : CallId) (at : ℕ) (d : Call) → Keeps v t → IsPlace t id at → IsKept v id d
    → u ≡ record t { calls = u.calls } → u.calls.items ≡ slice_set t.calls.items at d → length u.calls.items ≡ length t.calls.items → Keeps v u
replaced_keeps v t u id at d keeps place kept e items len = subst (Keeps v) (sym e) (record {
  settings = keeps.settings;
  wire = keeps.wire;
  tick = keeps.tick;
  hosts = keeps.hosts;
  listed = keeps.listed;
  aligned = keeps.aligned ∙ sym len;
  calls = λ q. subst (IsCallAt v q) (sym (ap (λ cs. call_in t.ids.keys cs q) items ∙ call_replaced t.ids.keys t.calls.items id at d q place))
      (by_test q (is_call id q) refl);
  packets = keeps.packets;
  made = keeps.made;
})
  where
    by_test : (q : CallId) (b : Bool) → is_call id q ≡ b → IsCallAt v q (if b then Some d else call_at t q)
    by_test q true e = subst (λ (x : CallId). IsKept v x d) ((calls_are id q).0 e) kept
    by_test q false e = keeps.calls q

pub here_now : (t : Trace) (id : CallId) (at : ℕ) (d : Call) → IsPlace t id at → call_in t.ids.keys (slice_set t.calls.items at d) id ≡ Some d
here_now t id at d place = call_replaced t.ids.keys t.calls.items id at d id place ∙ ap (λ b. if b then Some d else call_at t id) ((calls_are id id).1 refl)

-- ---- a call that is put back

stands_or : (o : Option Beside) (k : Spot) (s : spots.Spot) → StandsOr o k s → IfSome o (λ b. StandsFor b k s)
stands_or None k s x = tt
stands_or (Some b) k s x = x

pub put_back : (t : Trace) (id : CallId) (k : Spot) (s : spots.Spot) → StandsOr (beside_at t id) k s → StandsAt t id k s
put_back t id k s x = stands_or (beside_at t id) k s x

-- one that wasn't made is as it was
pub none_back : (v w : View) (t : Trace) (id : CallId) (k : Spot) (f : spots.Spot → spots.Spot) → Keeps v t → Changes v w id f → call_at t id ≡ None
    → StandsOr (beside_at t id) k (f (spot v.now id)) → Keeps w t
none_back v w t id k f keeps ch here back = keeps_lines v w t ch.same (λ q. ch.spots q ∙ by_test q (is_call q id) refl) keeps where
  none : f (spot v.now id) ≡ no_spot
  none = subst (λ o. StandsOr o k (f (spot v.now id))) (ap (option_map (beside id.client t.settings.resend)) here) back

  by_test : (q : CallId) (b : Bool) → is_call q id ≡ b → cond b (f (spot v.now q)) (spot v.now q) ≡ spot v.now q
  by_test q true e = subst (λ (x : CallId). f (spot v.now x) ≡ spot v.now x) (sym ((calls_are q id).0 e)) (none ∙ sym (absent_now v t id keeps here))
  by_test q false e = refl

-- ---- the block

-- what the block's delivery may be taken back to
pub block_of : (v : View) (o : Option Undo) (t : Trace) (d : Delivery) → Ready v o t → t.delivery ≡ Some d
    → (u : Undo) × (o ≡ Some u) × spots.IsUndo v (Some u) × IsUndoOf t d u
block_of v None t d r e = absurd (subst (λ x. IsDelivered t x None) e r.delivered)
block_of v (Some u) t d r e = (u, refl, r.is, subst (λ x. IsDelivered t x (Some u)) e r.delivered)

pub no_block : (v : View) (o : Option Undo) (t : Trace) → Ready v o t → t.delivery ≡ None → (o ≡ None) × spots.IsUndo v None
no_block v None t r e = (refl, r.is)
no_block v (Some u) t r e = absurd (subst (λ x. IsDelivered t x (Some u)) e r.delivered)

-- the packet's call and host
pub packet_is : (t : Trace) (d : Delivery) (u : Undo) (host : HostId) (id : CallId) → IsUndoOf t d u
    → (is_call d.packet.id id && is_host d.packet.to host) ≡ (is_call u.packet.id id && is_host u.packet.to host)
packet_is t d u host id is = ap (λ k. is_call k.id id && is_host k.to host) is.packet

pub refused_here : (v : View) (u : Undo) (host : HostId) (id : CallId) → spots.IsUndo v (Some u)
    → is_delivery_to v host id ≡ (is_call u.packet.id id && is_host u.packet.to host)
refused_here v u host id is = ap (λ came. option_map_or (λ (p : Sent). is_call p.id id && is_host p.to host) came false) is.came

pub refused_none : (v : View) (host : HostId) (id : CallId) → spots.IsUndo v None → is_delivery_to v host id ≡ false
refused_none v host id is = ap (λ came. option_map_or (λ (p : Sent). is_call p.id id && is_host p.to host) came false) is.2

-- what the spots are if the delivery is taken back
pub refused_changes : (v : View) (u : Undo) (id : CallId) → u.packet.id ≡ id → spots.IsUndo v (Some u)
    → Changes v (record v { now = v.if_refused }) id (λ _. u.refused)
refused_changes v u id e is = record {
  same = record { settings = refl; tick = refl; leads = refl; firsts = refl; restarts = refl; calls = refl; packets = refl; runs = refl };
  spots = λ q. is.refused q ∙ ap (λ (x : CallId). only x (λ _. u.refused) q (spot v.now q)) e;
}

pub stale_changes : (v : View) (u : Undo) (id : CallId) → u.packet.id ≡ id → spots.IsUndo v (Some u) → Changes v (stale v) id (λ _. u.stale)
stale_changes v u id e is = record {
  same = record { settings = refl; tick = refl; leads = refl; firsts = refl; restarts = refl; calls = refl; packets = refl; runs = refl };
  spots = λ q. is.stale q ∙ ap (λ (x : CallId). only x (λ _. u.stale) q (spot v.now q)) e;
}

pub stale_same : (v : View) (t : Trace) → spots.IsUndo v None → Keeps v t → Keeps (stale v) t
stale_same v t is k =
    keeps_lines v (stale v) t
    (record { settings = refl; tick = refl; leads = refl; firsts = refl; restarts = refl; calls = refl; packets = refl; runs = refl }) (λ q. is.1.spots q) k

-- its bytes aren't admitted
pub without_undo : (t u : Trace) (d e : Delivery) (x : Undo) → e ≡ record d { runs = false; done = false } → SameSets t u → IsUndoOf t d x → IsUndoOf u e x
without_undo t u d e x is same undo =
    subst (λ z. IsUndoOf u z x) (sym is)
    (record { packet = undo.packet; spots = subst (λ o. AreSpots o d x) (sym (same x.packet.id)) undo.spots; due = undo.due })

-- the delivery is another one's, or there is none
pub refused_else : (v : View) (t : Trace) (host : HostId) (id : CallId) → is_delivery_to v host id ≡ false → Keeps v t → Keeps (refused v host id) t
refused_else v t host id e k = subst (λ b. Keeps (if b then record v { now = v.if_refused } else v) t) (sym e) k

pub refused_due_else : (v : View) (host : HostId) (id : CallId) → is_delivery_to v host id ≡ false → (refused v host id).now.due ≡ v.now.due
refused_due_else v host id e = ap (λ b. (if b then record v { now = v.if_refused } else v).now.due) e

pub refused_then : (v : View) (t : Trace) (host : HostId) (id : CallId) → is_delivery_to v host id ≡ true → Keeps (record v { now = v.if_refused }) t
    → Keeps (refused v host id) t
refused_then v t host id e k = subst (λ b. Keeps (if b then record v { now = v.if_refused } else v) t) (sym e) k

pub refused_due_then : (v : View) (u : Undo) (host : HostId) (id : CallId) → is_delivery_to v host id ≡ true → spots.IsUndo v (Some u)
    → (refused v host id).now.due ≡ u.due
refused_due_then v u host id e is = ap (λ b. (if b then record v { now = v.if_refused } else v).now.due) e ∙ is.due_if_refused
