-- Line by line: each call's spot, and what the block's delivery changed.
use Rattle.std.proofs.Common.{◌≡◌, ℕ, Bool, true, false, ◌&&◌, not, Option, Some, None, List, [], ◌∷◌, length, cond, refl, sym, ap, subst, ◌∙◌}
use Rattle.std.specs.Prelude.{if◌then◌else◌}
use Rattle.std.specs.Option.{option_map, option_map_or}
use Rattle.homa_plain.specs.declared.id.CallId.{CallId}
use Rattle.homa_plain.specs.declared.id.HostId.{HostId}
use Rattle.homa_plain.specs.declared.entry.Why.TheVariants.{Timeout, Forgotten}
use Rattle.homa_plain.specs.Entries.{PlainEntry, PlainSettings, PlainCall, PlainDeliver, PlainClock, PlainRestart, PlainInject, PlainShift}
use Rattle.homa_plain.specs.Entries.{PlainStale, PlainSend, PlainRun, PlainDone, PlainFail, PlainDrop, PlainGaps, PlainFullRows, PlainFullPages}
use Rattle.homa_plain.specs.Entries.{PlainRecv}
use Rattle.homa_plain.specs.Calls.{is_host, is_call}
use Rattle.trace_rules.specs.View.{Sent, Progress, View}
use Rattle.trace_rules.specs.Seen.{seen, with_line, seen_all, in_each, started, finished, restarted, said, begun, delivered, delivery, refused, stale}
use Rattle.trace_rules.specs.Seen.{is_delivery_to}
use Rattle.check_call.specs.Spots.{Spot, spot, only, said_spot, finished_spot, started_spot, restarted_spot, Undo, IsSame, IsBut, IsUndo, undo_each}
use Rattle.check_call.specs.Steps.{unmoved, is_undone, delivered_at, taken_back, undone, refused_at, dropped_at, line_at, undo_of, undo_after}
use Rattle.check_call.proofs.Each.{each_started, each_finished, each_said, each_dropped, each_restarted}
use Rattle.check_call.proofs.Block.{undo_begun, spot_delivered, undo_delivered, undo_in_each, undo_refused, undo_stale}

-- the test whether the delivery is taken back
undone_is : (v : View) (o : Option Undo) (host : HostId) (id : CallId) → IsUndo v o → is_delivery_to v host id ≡ is_undone o host id
undone_is v None host id is = ap (λ came. option_map_or (λ (p : Sent). is_call p.id id && is_host p.to host) came false) is.2
undone_is v (Some u) host id is = ap (λ came. option_map_or (λ (p : Sent). is_call p.id id && is_host p.to host) came false) is.came

refused_spot : (v : View) (o : Option Undo) (host : HostId) (id q : CallId) → IsUndo v o
    → spot (refused v host id).now q ≡ refused_at o host id q (spot v.now q)
refused_spot v o host id q is =
    ap (λ b. spot (if b then record v { now = v.if_refused } else v).now q) (undone_is v o host id is) ∙ by_test (is_undone o host id) where
      there : (o : Option Undo) → IsUndo v o → spot v.if_refused q ≡ taken_back o q (spot v.now q)
      there None is = is.0.spots q
      there (Some u) is = is.refused q

      by_test : (b : Bool) → spot (if b then record v { now = v.if_refused } else v).now q ≡ (if b then taken_back o q (spot v.now q) else spot v.now q)
      by_test true = there o is
      by_test false = refl

refused_undo : (v : View) (o : Option Undo) (host : HostId) (id : CallId) → IsUndo v o → IsUndo (refused v host id) o
refused_undo v o host id is = by_test (is_delivery_to v host id) where
  there : (o : Option Undo) → IsUndo v o → IsUndo (record v { now = v.if_refused }) o
  there None is = (
    record { spots = λ q. refl; came = refl; due = refl },
    record { spots = λ q. is.1.spots q ∙ sym (is.0.spots q); came = is.1.came ∙ sym is.0.came; due = is.1.due ∙ sym is.0.due },
    is.0.came ∙ is.2,
  )
  there (Some u) is = undo_refused v u is

  by_test : (b : Bool) → IsUndo (if b then record v { now = v.if_refused } else v) o
  by_test true = there o is
  by_test false = is

stale_spot : (v : View) (o : Option Undo) (q : CallId) → IsUndo v o → spot v.if_stale q ≡ undone o q (spot v.now q)
stale_spot v None q is = is.1.spots q
stale_spot v (Some u) q is = is.stale q

delivered_is : (v : View) (o : Option Sent) (q : CallId) → spot (delivered v o).now q ≡ delivered_at v o q (spot v.now q)
delivered_is v None q = refl
delivered_is v (Some p) q = spot_delivered v p q

delivered_undo : (v : View) (o : Option Sent) → IsUndo (delivered (begun v) o) (option_map (undo_of (begun v)) o)
delivered_undo v None = undo_begun v
delivered_undo v (Some p) = undo_delivered (begun v) p (undo_begun v) refl

-- each call's spot after a line
pub line_spot : (v : View) (o : Option Undo) (line : PlainEntry) (q : CallId) → IsUndo v o → spot (seen v line).now q ≡ line_at v o line q (spot v.now q)
unfolding seen
line_spot v o (PlainCall id server service bytes) q is = (each_started id).spots (begun v).now q
line_spot v o (PlainDeliver packet) q is = delivered_is (begun v) (delivery v (PlainDeliver packet)) q
line_spot v o (PlainRecv host from bytes) q is = delivered_is (begun v) (delivery v (PlainRecv host from bytes)) q
line_spot v o (PlainRestart host inc) q is = (each_restarted v host).spots (begun v).now q
line_spot v o (PlainStale host at now) q is = stale_spot v o q is
line_spot v o (PlainSend number from to inc role id level body payload) q is =
    (each_said v (record { from = from; to = to; inc = inc; role = role; id = id; body = body; payload = payload }) body).spots v.now q
line_spot v o (PlainDone id bytes) q is = (each_finished id).spots v.now q
line_spot v o (PlainFail id Timeout) q is = (each_finished id).spots v.now q
line_spot v o (PlainFail id Forgotten) q is = (each_finished id).spots v.now q
line_spot v o (PlainDrop host id) q is = (each_dropped v host id).spots v.now q
line_spot v o (PlainGaps host id) q is = refused_spot v o host id q is
line_spot v o (PlainFullRows host id rows limit) q is = refused_spot v o host id q is
line_spot v o (PlainFullPages host id need free) q is = refused_spot v o host id q is
line_spot v o line q is = refl

-- a line that changes none of the three
carried : (v u : View) (o : Option Undo) → u.now ≡ v.now → u.if_refused ≡ v.if_refused → u.if_stale ≡ v.if_stale → IsUndo v o → IsUndo u o
carried v u None now refused stale is = (
  subst (λ (m : Progress). IsSame m u.now) (sym refused) (subst (λ (m : Progress). IsSame v.if_refused m) (sym now) is.0),
  subst (λ (m : Progress). IsSame m u.now) (sym stale) (subst (λ (m : Progress). IsSame v.if_stale m) (sym now) is.1),
  ap (λ (m : Progress). m.came) now ∙ is.2,
)
carried v u (Some x) now refused stale is = record {
  refused = λ q. ap (λ (m : Progress). spot m q) refused ∙ is.refused q ∙ ap (λ (m : Progress). only x.packet.id (λ _. x.refused) q (spot m q)) (sym now);
  stale = λ q. ap (λ (m : Progress). spot m q) stale ∙ is.stale q ∙ ap (λ (m : Progress). only x.packet.id (λ _. x.stale) q (spot m q)) (sym now);
  came = ap (λ (m : Progress). m.came) now ∙ is.came;
  came_if_refused = ap (λ (m : Progress). m.came) refused ∙ is.came_if_refused;
  due_if_refused = ap (λ (m : Progress). m.due) refused ∙ is.due_if_refused;
  came_if_stale = ap (λ (m : Progress). m.came) stale ∙ is.came_if_stale;
  due_if_stale = ap (λ (m : Progress). m.due) stale ∙ is.due_if_stale;
}

-- what can be taken back after a line, its place aside
with_line_undo : (v : View) (o : Option Undo) (line : PlainEntry) → IsUndo v o → IsUndo (with_line v line) (undo_after v o line)
with_line_undo v o (PlainCall id server service bytes) is = carried (in_each (started id) (begun v)) (with_line v (PlainCall id server service bytes))
    (undo_after v o (PlainCall id server service bytes)) refl refl refl (undo_in_each _ _ (each_started id) (begun v) None (undo_begun v))
with_line_undo v o (PlainDeliver packet) is = delivered_undo v (delivery v (PlainDeliver packet))
with_line_undo v o (PlainRecv host from bytes) is = delivered_undo v (delivery v (PlainRecv host from bytes))
with_line_undo v o (PlainClock tick) is = carried (begun v) (with_line v (PlainClock tick)) (undo_after v o (PlainClock tick)) refl refl refl (undo_begun v)
with_line_undo v o (PlainRestart host inc) is = carried (in_each (restarted v host) (begun v)) (with_line v (PlainRestart host inc))
    (undo_after v o (PlainRestart host inc)) refl refl refl (undo_in_each _ _ (each_restarted v host) (begun v) None (undo_begun v))
with_line_undo v o (PlainInject host bytes) is = undo_begun v
with_line_undo v o (PlainShift host n) is =
    carried (begun v) (with_line v (PlainShift host n)) (undo_after v o (PlainShift host n)) refl refl refl (undo_begun v)
with_line_undo v o (PlainStale host at now) is = undo_stale v o is
with_line_undo v o (PlainSend number from to inc role id level body payload) is =
    carried (in_each (said v (record { from = from; to = to; inc = inc; role = role; id = id; body = body; payload = payload }) body) v)
    (with_line v (PlainSend number from to inc role id level body payload)) (undo_after v o (PlainSend number from to inc role id level body payload))
    refl refl refl
    (undo_in_each _ _ (each_said v (record { from = from; to = to; inc = inc; role = role; id = id; body = body; payload = payload }) body) v o is)
with_line_undo v o (PlainDone id bytes) is = carried (in_each (finished id) v) (with_line v (PlainDone id bytes))
    (undo_after v o (PlainDone id bytes)) refl refl refl (undo_in_each _ _ (each_finished id) v o is)
with_line_undo v o (PlainFail id Timeout) is = undo_in_each _ _ (each_finished id) v o is
with_line_undo v o (PlainFail id Forgotten) is = carried (in_each (finished id) v) (with_line v (PlainFail id Forgotten))
    (undo_after v o (PlainFail id Forgotten)) refl refl refl (undo_in_each _ _ (each_finished id) v o is)
with_line_undo v o (PlainDrop host id) is = undo_in_each _ _ (each_dropped v host id) v o is
with_line_undo v o (PlainGaps host id) is = refused_undo v o host id is
with_line_undo v o (PlainFullRows host id rows limit) is = refused_undo v o host id is
with_line_undo v o (PlainFullPages host id need free) is = refused_undo v o host id is
with_line_undo v o line is = carried v (with_line v line) o refl refl refl is

pub line_undo : (v : View) (o : Option Undo) (line : PlainEntry) → IsUndo v o → IsUndo (seen v line) (undo_after v o line)
unfolding seen
line_undo v o line is = carried (with_line v line) (seen v line) (undo_after v o line) refl refl refl (with_line_undo v o line is)
