-- Only the message that a line changed can leave its window.
use Rattle.std.proofs.Common.{◌≡◌, ℕ, Bool, true, false, ◌&&◌, not, Option, Some, None, List, [], ◌∷◌, length, cond, refl, sym, ap, subst, ◌∙◌}
use Rattle.std.specs.Prelude.{if◌then◌else◌}
use Rattle.std.specs.Option.{option_map, option_map_or}
use Rattle.homa_plain.specs.declared.id.CallId.{CallId}
use Rattle.homa_plain.specs.declared.id.HostId.{HostId}
use Rattle.homa_plain.specs.declared.settings.Settings.{Settings}
use Rattle.homa_plain.specs.declared.entry.Why.TheVariants.{Timeout, Forgotten}
use Rattle.homa_plain.specs.Entries.{PlainEntry, PlainSettings, PlainCall, PlainDeliver, PlainClock, PlainRestart, PlainInject, PlainShift}
use Rattle.homa_plain.specs.Entries.{PlainStale, PlainSend, PlainRun, PlainDone, PlainFail, PlainDrop, PlainGaps, PlainFullRows, PlainFullPages}
use Rattle.homa_plain.specs.Entries.{PlainRecv}
use Rattle.homa_plain.specs.Calls.{is_host, is_call}
use Rattle.trace_rules.specs.Parts.{Part}
use Rattle.trace_rules.specs.View.{Sent, Progress, View, is_server_of}
use Rattle.trace_rules.specs.Seen.{seen, begun, delivered, delivery, refused, is_delivery_to}
use Rattle.trace_rules.specs.Granting.{IsWithinAt, IsWithin}
use Rattle.homa_plain.proofs.CallOrder.{calls_are}
use Rattle.check_call.specs.Spots.{Spot, spot, only, started_spot, finished_spot, dropped_spot, said_spot, restarted_spot, delivered_spot, Undo, IsUndo}
use Rattle.check_call.specs.Steps.{unmoved, is_undone, delivered_at, taken_back, undone, refused_at, dropped_at, line_at}
use Rattle.check_call.specs.Tested.{IsWithinSpot, to_test, AtCall, IsOther}
use Rattle.check_call.proofs.Lines.{line_spot}

module _ (w : ℕ) where
  -- every change that keeps each call within
  abbrev Keeps : (CallId → Spot → Spot) → Type 0
  Keeps at = (q : CallId) (s : Spot) → IsWithinSpot w s → IsWithinSpot w (at q s)

  none_if : (b : Bool) (o : Option Part) → IsWithinAt w o → IsWithinAt w (if b then o else None)
  none_if true o is = is
  none_if false o is = tt

  either : (b : Bool) (s t : Spot) → IsWithinSpot w s → IsWithinSpot w t → IsWithinSpot w (cond b s t)
  either true s t x y = x
  either false s t x y = y

  keeps_started : (id : CallId) → Keeps (only id started_spot)
  keeps_started id q s is = either (is_call q id) (started_spot s) s is is

  keeps_finished : (id : CallId) → Keeps (only id finished_spot)
  keeps_finished id q s is = either (is_call q id) (finished_spot s) s (is.0, tt) is

  keeps_dropped : (v : View) (host : HostId) (id : CallId) → Keeps (only id (dropped_at v host id))
  keeps_dropped v host id q s is = either (is_call q id) (dropped_at v host id s) s (either (is_server_of v id host) (dropped_spot s) s (tt, is.1) is) is

  keeps_restarted : (v : View) (host : HostId) → Keeps (restarted_spot v host)
  keeps_restarted v host q s is = (none_if (not (is_server_of v q host)) s.request is.0, none_if (not (is_host q.client host)) s.response is.1)

  -- where one call alone changes, it is enough that it is within afterwards
  one_call : (m n : Progress) (id : CallId) (g : Spot → Spot) → ((q : CallId) → spot n q ≡ only id g q (spot m q))
      → ((q : CallId) → IsWithinSpot w (spot m q)) → IsWithinSpot w (spot n id)
      → (q : CallId) → IsWithinSpot w (spot n q)
  one_call m n id g is all here q =
      elim (is_call q id) as (λ b. is_call q id ≡ b → IsWithinSpot w (spot n q)) [
        | true ↦ λ t. subst (λ c. IsWithinSpot w (spot n c)) (sym ((calls_are q id).0 t)) here
        | false ↦ λ t. subst (IsWithinSpot w) (sym (is q ∙ ap (λ b. cond b (g (spot m q)) (spot m q)) t)) (all q)
      ] refl

  kept : (m n : Progress) (at : CallId → Spot → Spot) → Keeps at → ((q : CallId) → spot n q ≡ at q (spot m q))
      → ((q : CallId) → IsWithinSpot w (spot m q)) → (q : CallId) → IsWithinSpot w (spot n q)
  kept m n at keeps is all q = subst (IsWithinSpot w) (sym (is q)) (keeps q (spot m q) (all q))

  -- a change of one call, if there is one
  maybe_one : {A : Type 0} (call : A → CallId) (g : A → Spot → Spot) (o : Option A) (at : Option A → CallId → Spot → Spot)
      → ((q : CallId) (s : Spot) → at None q s ≡ s) → ((x : A) (q : CallId) (s : Spot) → at (Some x) q s ≡ only (call x) (g x) q s)
      → (m n : Progress) → ((q : CallId) → spot n q ≡ at o q (spot m q)) → ((q : CallId) → IsWithinSpot w (spot m q))
      → AtCall (λ id. IsWithinSpot w (spot n id)) (option_map call o)
      → (q : CallId) → IsWithinSpot w (spot n q)
  maybe_one call g None at none some m n is all here q = subst (IsWithinSpot w) (sym (is q ∙ none q (spot m q))) (all q)
  maybe_one call g (Some x) at none some m n is all here q = one_call m n (call x) (g x) (λ r. is r ∙ some x r (spot m r)) all here q

  refused_one : (o : Option Undo) (host : HostId) (id : CallId) (m n : Progress) → ((q : CallId) → spot n q ≡ refused_at o host id q (spot m q))
      → ((q : CallId) → IsWithinSpot w (spot m q))
      → AtCall (λ id. IsWithinSpot w (spot n id)) (option_map (λ u. u.packet.id) o) → (q : CallId) → IsWithinSpot w (spot n q)
  refused_one None host id m n is all here q = subst (IsWithinSpot w) (sym (is q)) (all q)
  refused_one (Some u) host id m n is all here q =
      one_call m n u.packet.id (λ s. if is_undone (Some u) host id then u.refused else s)
      (λ r. is r ∙ turned (is_undone (Some u) host id) (is_call r u.packet.id) (spot m r)) all here q
    where
      turned : (b c : Bool) (s : Spot) → (if b then cond c u.refused s else s) ≡ cond c (if b then u.refused else s) s
      turned true c s = refl
      turned false true s = refl
      turned false false s = refl

-- the settings stay
pub same_settings : (v : View) (line : PlainEntry) → IsOther line → (seen v line).settings ≡ v.settings
unfolding seen
same_settings v (PlainSettings settings) other = absurd other
same_settings v (PlainDeliver packet) other = of_packet (delivery v (PlainDeliver packet)) where
  of_packet : (o : Option Sent) → (delivered (begun v) o).settings ≡ v.settings
  of_packet None = refl
  of_packet (Some p) = refl
same_settings v (PlainRecv host from bytes) other = of_packet (delivery v (PlainRecv host from bytes)) where
  of_packet : (o : Option Sent) → (delivered (begun v) o).settings ≡ v.settings
  of_packet None = refl
  of_packet (Some p) = refl
same_settings v (PlainFail id Timeout) other = refl
same_settings v (PlainFail id Forgotten) other = refl
same_settings v (PlainGaps host id) other = of_test (is_delivery_to v host id) where
  of_test : (b : Bool) → (if b then record v { now = v.if_refused } else v).settings ≡ v.settings
  of_test true = refl
  of_test false = refl
same_settings v (PlainFullRows host id rows limit) other = of_test (is_delivery_to v host id) where
  of_test : (b : Bool) → (if b then record v { now = v.if_refused } else v).settings ≡ v.settings
  of_test true = refl
  of_test false = refl
same_settings v (PlainFullPages host id need free) other = of_test (is_delivery_to v host id) where
  of_test : (b : Bool) → (if b then record v { now = v.if_refused } else v).settings ≡ v.settings
  of_test true = refl
  of_test false = refl
same_settings v line other = refl

-- by the old settings
by_old : (v : View) (o : Option Undo) (line : PlainEntry) → IsUndo v o → IsOther line → IsWithin v
    → AtCall (λ id. IsWithinSpot v.settings.window (spot (seen v line).now id)) (to_test v o line) → (q : CallId)
    → IsWithinSpot v.settings.window (spot (seen v line).now q)
by_old v o line is other all here = at_line line other (λ q. line_spot v o line q is) here where
  w : ℕ
  w = v.settings.window

  at_line : (line : PlainEntry) → IsOther line → ((q : CallId) → spot (seen v line).now q ≡ line_at v o line q (spot v.now q))
      → AtCall (λ id. IsWithinSpot w (spot (seen v line).now id)) (to_test v o line)
      → (q : CallId) → IsWithinSpot w (spot (seen v line).now q)
  at_line (PlainSettings settings) other at here = absurd other
  at_line (PlainCall id server service bytes) other at here =
      kept w v.now (seen v (PlainCall id server service bytes)).now (only id started_spot) (keeps_started w id) at all
  at_line (PlainDeliver packet) other at here =
      maybe_one w (λ (p : Sent). p.id) (delivered_spot (begun v)) (delivery v (PlainDeliver packet)) (delivered_at (begun v)) (λ q s. refl)
      (λ p q s. refl) v.now (seen v (PlainDeliver packet)).now at all here
  at_line (PlainRecv host from bytes) other at here =
      maybe_one w (λ (p : Sent). p.id) (delivered_spot (begun v)) (delivery v (PlainRecv host from bytes)) (delivered_at (begun v)) (λ q s. refl)
      (λ p q s. refl) v.now (seen v (PlainRecv host from bytes)).now at all here
  at_line (PlainRestart host inc) other at here = kept w v.now (seen v (PlainRestart host inc)).now (restarted_spot v host) (keeps_restarted w v host) at all
  at_line (PlainStale host t now) other at here =
      maybe_one w (λ (u : Undo). u.packet.id) (λ u _. u.stale) o undone (λ q s. refl) (λ u q s. refl) v.now (seen v (PlainStale host t now)).now at all here
  at_line (PlainSend number from to inc role id level body payload) other at here =
      one_call w v.now (seen v (PlainSend number from to inc role id level body payload)).now id
      (said_spot v (record { from = from; to = to; inc = inc; role = role; id = id; body = body; payload = payload }) body) at all here
  at_line (PlainDone id bytes) other at here = kept w v.now (seen v (PlainDone id bytes)).now (only id finished_spot) (keeps_finished w id) at all
  at_line (PlainFail id why) other at here = kept w v.now (seen v (PlainFail id why)).now (only id finished_spot) (keeps_finished w id) at all
  at_line (PlainDrop host id) other at here = kept w v.now (seen v (PlainDrop host id)).now (only id (dropped_at v host id)) (keeps_dropped w v host id) at all
  at_line (PlainGaps host id) other at here = refused_one w o host id v.now (seen v (PlainGaps host id)).now at all here
  at_line (PlainFullRows host id rows limit) other at here = refused_one w o host id v.now (seen v (PlainFullRows host id rows limit)).now at all here
  at_line (PlainFullPages host id need free) other at here = refused_one w o host id v.now (seen v (PlainFullPages host id need free)).now at all here
  at_line line other at here = kept w v.now (seen v line).now unmoved (λ q s is. is) at all

pub within_line : (v : View) (o : Option Undo) (line : PlainEntry) → IsUndo v o → IsOther line → IsWithin v
    → AtCall (λ id. IsWithinSpot v.settings.window (spot (seen v line).now id)) (to_test v o line) → IsWithin (seen v line)
within_line v o line is other all here = subst (λ (s : Settings). (q : CallId) → IsWithinSpot s.window (spot (seen v line).now q))
    (sym (same_settings v line other)) (by_old v o line is other all here)
