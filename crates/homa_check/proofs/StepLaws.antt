-- A line that is judged and taken.
use Rattle.std.proofs.Common.{◌≡◌, ℕ, ◌+◌, arith, Bool, true, false, not, ◌&&◌, ◌||◌, Option, Some, None, Decides, refl, sym, ap, ◌∙◌, subst}
use Rattle.std.specs.Prelude.{if◌then◌else◌, ◌==◌, nat_le, is_ok}
use Rattle.std.specs.Option.{option_map}
use Rattle.std.proofs.lemmas.Bool.{eqb-true, true≢false}
use Rattle.std.proofs.lemmas.Bool.Decides.{nat_tests}
use Rattle.plain_sets.specs.Maps.{len}
use Rattle.plain_sets.proofs.MapLaws.{get-empty}
use Rattle.homa_plain.specs.declared.id.CallId.{CallId}
use Rattle.homa_plain.specs.declared.id.HostId.{HostId}
use Rattle.homa_plain.specs.declared.settings.Settings.{Settings}
use Rattle.homa_plain.specs.Calls.{call_cmp}
use Rattle.homa_plain.specs.Entries.{PlainEntry, PlainSettings, PlainDeliver, PlainStale, PlainSend, PlainGaps, PlainFullRows, PlainFullPages}
use Rattle.homa_plain.specs.Entries.{PlainRecv, PlainJunk}
use Rattle.trace_rules.specs.Granting.{IsWithin, IsWithinAt}
use Rattle.trace_rules.specs.Judge as judge
use Rattle.trace_rules.specs.Judge.{Clause, GrantingClause, has_shape, runs_once, returns_answer, hands_up, fails_in_time, grants_chosen, is_within}
use Rattle.trace_rules.specs.Judge.{is_within_at, judged}
use Rattle.trace_rules.specs.Parts.{Part, is_message}
use Rattle.homa_plain.specs.Settings.{verdict}
use Rattle.trace_rules.proofs.LawTests.{granting_is}
use Rattle.trace_rules.specs.View.{View, Sent, nothing_seen}
use Rattle.trace_rules.specs.Seen.{seen, begun, delivery}
use Rattle.check_call.specs.Spots as spots
use Rattle.check_call.specs.Spots.{spot, Undo, IsUndo}
use Rattle.check_call.specs.Steps.{undo_after, undo_of}
use Rattle.check_call.specs.Tested.{IsWithinSpot, to_test, AtCall, IsOther}
use Rattle.check_call.proofs.Within.{same_settings, within_line}
use Rattle.check_call.specs.Kept.{within, is_within_spot}
use Rattle.check_lines.specs.declared.block.Delivery.{Delivery}
use Rattle.check_lines.specs.declared.trace.Trace.{Trace}
use Rattle.homa_check.specs.Judging.{is_allowed_line, judged_before}
use Rattle.check_lines.specs.Sends.{tested, keeps_window}
use Rattle.check_lines.specs.Traces.{Follows, IsDelivered}
use Rattle.check_lines.specs.Changes.{IsTaken}
use Rattle.check_lines.proofs.LineLaws.{both}

-- ---- the chain of clauses

grants_is : (v : View) (line : PlainEntry) → grants_chosen v line ≡ (is_allowed_line v line && is_within (seen v line))
grants_is v (PlainSend number from to inc role id level body payload) = refl
grants_is v line = refl

chain : Bool → Bool → Bool → Bool → Bool → Bool → Option Clause
chain a b c d e f =
    if not a then Some judge.ShapeClause
    else if not b then Some judge.OnceClause
    else if not c then Some judge.ReturnedClause
    else if not d then Some judge.HandedUpClause
    else if not e then Some judge.FailsClause
    else if not f then Some GrantingClause
    else None

judged-chain : (v : View) (line : PlainEntry) → judged v line ≡ chain (has_shape v line) (runs_once v line) (returns_answer v line) (hands_up v line)
    (fails_in_time v line) (is_allowed_line v line && is_within (seen v line))
unfolding judged chain
judged-chain v line = ap (chain (has_shape v line) (runs_once v line) (returns_answer v line) (hands_up v line) (fails_in_time v line)) (grants_is v line)

before-chain : (v : View) (line : PlainEntry) → judged_before v line ≡ chain (has_shape v line) (runs_once v line) (returns_answer v line)
    (hands_up v line) (fails_in_time v line) (is_allowed_line v line)
unfolding chain
before-chain v line = refl

chain_some : (a b c d e f g : Bool) (x : Clause) → chain a b c d e f ≡ Some x → chain a b c d e (f && g) ≡ Some x
unfolding chain
chain_some false b c d e f g x h = h
chain_some true false c d e f g x h = h
chain_some true true false d e f g x h = h
chain_some true true true false e f g x h = h
chain_some true true true true false f g x h = h
chain_some true true true true true false g x h = h
chain_some true true true true true true g x h = absurd cc

chain_none : (a b c d e f g : Bool) → chain a b c d e f ≡ None → chain a b c d e (f && g) ≡ (if not g then Some GrantingClause else None)
unfolding chain
chain_none false b c d e f g h = absurd cc
chain_none true false c d e f g h = absurd cc
chain_none true true false d e f g h = absurd cc
chain_none true true true false e f g h = absurd cc
chain_none true true true true false f g h = absurd cc
chain_none true true true true true false g h = absurd cc
chain_none true true true true true true g h = refl

chain_shape : (a b c d e f : Bool) → chain a b c d e f ≡ None → (a ≡ true) × (b ≡ true)
unfolding chain
chain_shape false b c d e f h = absurd cc
chain_shape true false c d e f h = absurd cc
chain_shape true true c d e f h = (refl, refl)

pub judged_some : (v : View) (line : PlainEntry) (x : Clause) → judged_before v line ≡ Some x → judged v line ≡ Some x
judged_some v line x h = judged-chain v line ∙ chain_some (has_shape v line) (runs_once v line) (returns_answer v line) (hands_up v line)
    (fails_in_time v line) (is_allowed_line v line) (is_within (seen v line)) x (sym (before-chain v line) ∙ h)

judged_none : (v : View) (line : PlainEntry) → judged_before v line ≡ None
    → judged v line ≡ (if not (is_within (seen v line)) then Some GrantingClause else None)
judged_none v line h = judged-chain v line ∙ chain_none (has_shape v line) (runs_once v line) (returns_answer v line) (hands_up v line)
    (fails_in_time v line) (is_allowed_line v line) (is_within (seen v line)) (sym (before-chain v line) ∙ h)

pub shape_and_once : (v : View) (line : PlainEntry) → judged_before v line ≡ None → (has_shape v line ≡ true) × (runs_once v line ≡ true)
shape_and_once v line h = chain_shape (has_shape v line) (runs_once v line) (returns_answer v line) (hands_up v line) (fails_in_time v line)
    (is_allowed_line v line) (sym (before-chain v line) ∙ h)

-- ---- windows

some_host : HostId
some_host = record { 0 = 0 }

within_is : (w : View) → Decides (is_within w) (IsWithin w)
unfolding seen
within_is w = granting_is w (PlainJunk some_host)

part_within : (window : ℕ) (p : Part) → is_within_at window p ≡ true → IsWithinAt window (Some p)
part_within window p h m = grind (arith, nat_tests)

within_part : (window : ℕ) (p : Part) → IsWithinAt window (Some p) → (b : Bool) → is_message p ≡ b → (not b || nat_le p.granted (len p.arrived + window)) ≡ true
within_part window p h true e = let l = h e in grind (arith, nat_tests)
within_part window p h false e = refl

option_within : (window : ℕ) (o : Option Part) → within window o ≡ true → IsWithinAt window o
option_within window None h = tt
option_within window (Some p) h = part_within window p h

within_option : (window : ℕ) (o : Option Part) → IsWithinAt window o → within window o ≡ true
within_option window None h = refl
within_option window (Some p) h = within_part window p h (is_message p) refl

spot_within : (window : ℕ) (s : spots.Spot) → is_within_spot window s ≡ true → IsWithinSpot window s
spot_within window s h =
    let two = both (within window s.request) (within window s.response) h in (option_within window s.request two.0, option_within window s.response two.1)

all_within : (w : View) (id : Option CallId) → IsWithin w → keeps_window w id ≡ true
all_within w None h = refl
all_within w (Some q) h =
    (λ i. within_option w.settings.window (spot w.now q).request (h q).0 i && within_option w.settings.window (spot w.now q).response (h q).1 i)

-- no message of the call whose delivery it is left its window
at_block : (w : View) (t : Trace) (window : ℕ) (d : Option Delivery) (o : Option Undo) → w.settings.window ≡ window → IsDelivered t d o
    → keeps_window w (option_map (λ x. x.packet.id) d) ≡ true → AtCall (λ id. IsWithinSpot window (spot w.now id)) (option_map (λ u. u.packet.id) o)
at_block w t window None None e is h = tt
at_block w t window None (Some u) e is h = absurd is
at_block w t window (Some d) None e is h = absurd is
at_block w t window (Some d) (Some u) e is h =
    subst (λ (q : CallId). IsWithinSpot window (spot w.now q)) (ap (λ k. k.id) is.packet)
    (subst (λ (n : ℕ). IsWithinSpot n (spot w.now d.packet.id)) e (spot_within w.settings.window (spot w.now d.packet.id) h))

at_delivered : (w v : View) (t : Trace) (window : ℕ) (d : Option Delivery) (x : Option Sent) → w.settings.window ≡ window
    → IsDelivered t d (option_map (undo_of v) x) → keeps_window w (option_map (λ x. x.packet.id) d) ≡ true
    → AtCall (λ id. IsWithinSpot window (spot w.now id)) (option_map (λ p. p.id) x)
at_delivered w v t window None None e is h = tt
at_delivered w v t window None (Some p) e is h = absurd is
at_delivered w v t window (Some d) None e is h = absurd is
at_delivered w v t window (Some d) (Some p) e is h =
    subst (λ (q : CallId). IsWithinSpot window (spot w.now q)) (ap (λ k. k.id) is.packet)
    (subst (λ (n : ℕ). IsWithinSpot n (spot w.now d.packet.id)) e (spot_within w.settings.window (spot w.now d.packet.id) h))

-- the calls that were tested are those that a line may take out of their windows
at_tested : (v : View) (t u : Trace) (o : Option Undo) (line : PlainEntry) → IsOther line → (seen v line).settings ≡ v.settings
    → IsDelivered t t.delivery o → IsDelivered u u.delivery (undo_after v o line) → keeps_window (seen v line) (tested t.delivery line) ≡ true
    → keeps_window (seen v line) (tested u.delivery line) ≡ true
    → AtCall (λ id. IsWithinSpot v.settings.window (spot (seen v line).now id)) (to_test v o line)
at_tested v t u o (PlainSettings settings) other same before behind a b = absurd other
at_tested v t u o (PlainDeliver packet) other same before behind a b =
    at_delivered (seen v (PlainDeliver packet)) (begun v) u v.settings.window u.delivery (delivery v (PlainDeliver packet)) (ap (λ s. s.window) same) behind b
at_tested v t u o (PlainRecv host from bytes) other same before behind a b =
    at_delivered (seen v (PlainRecv host from bytes)) (begun v) u v.settings.window u.delivery (delivery v (PlainRecv host from bytes))
    (ap (λ s. s.window) same) behind b
at_tested v t u o (PlainStale host at now) other same before behind a b =
    at_block (seen v (PlainStale host at now)) t v.settings.window t.delivery o (ap (λ s. s.window) same) before a
at_tested v t u o (PlainGaps host id) other same before behind a b =
    at_block (seen v (PlainGaps host id)) t v.settings.window t.delivery o (ap (λ s. s.window) same) before a
at_tested v t u o (PlainFullRows host id rows limit) other same before behind a b =
    at_block (seen v (PlainFullRows host id rows limit)) t v.settings.window t.delivery o (ap (λ s. s.window) same) before a
at_tested v t u o (PlainFullPages host id need free) other same before behind a b =
    at_block (seen v (PlainFullPages host id need free)) t v.settings.window t.delivery o (ap (λ s. s.window) same) before a
at_tested v t u o (PlainSend number from to inc role id level body payload) other same before behind a b =
    let w = seen v (PlainSend number from to inc role id level body payload) in
    subst (λ (n : ℕ). IsWithinSpot n (spot w.now id)) (ap (λ s. s.window) same) (spot_within w.settings.window (spot w.now id) a)
at_tested v t u o line other same before behind a b = tt

-- before the first line there are no messages
first_within : (v : View) (s : Settings) → v ≡ nothing_seen → IsWithin (seen v (PlainSettings s))
unfolding seen
first_within v s e = subst (λ x. IsWithin (seen x (PlainSettings s))) (sym e)
    (λ id. (subst (IsWithinAt s.window) (sym (get-empty call_cmp id)) tt, subst (IsWithinAt s.window) (sym (get-empty call_cmp id)) tt))

other_still : (v : View) (t u : Trace) (line : PlainEntry) → IsOther line → Follows v t → (k : IsTaken v t line u)
    → keeps_window (seen v line) (tested t.delivery line) ≡ true → keeps_window (seen v line) (tested u.delivery line) ≡ true → IsWithin (seen v line)
other_still v t u line other f k a b =
    within_line v k.undo line k.is other f.within (at_tested v t u k.undo line other (same_settings v line other) k.before k.behind a b)

all_still : (v : View) (t u : Trace) (line : PlainEntry) → Follows v t → has_shape v line ≡ true → (k : IsTaken v t line u)
    → keeps_window (seen v line) (tested t.delivery line) ≡ true → keeps_window (seen v line) (tested u.delivery line) ≡ true → IsWithin (seen v line)
all_still v t u (PlainSettings s) f shape k a b = first_within v s (f.first (eqb-true v.place 0 (both (v.place == 0) (is_ok (verdict s)) shape).0))
all_still v t u line f shape k a b = other_still v t u line tt f k a b

-- where they were kept so far, and at these calls, they are kept
pub windows_kept : (v : View) (t u : Trace) (line : PlainEntry) → Follows v t → judged_before v line ≡ None → IsTaken v t line u
    → keeps_window (seen v line) (tested t.delivery line) ≡ true → keeps_window (seen v line) (tested u.delivery line) ≡ true
    → Follows (seen v line) u × (None ≡ judged v line)
windows_kept v t u line f before k a b =
    let all = all_still v t u line f (shape_and_once v line before).0 k a b in
    (k.follows all, sym (judged_none v line before ∙ ap (λ b. if not b then Some GrantingClause else None) ((within_is (seen v line)).1 all)))

pub window_left : (v : View) (t u : Trace) (line : PlainEntry) (a b : Option CallId) → judged_before v line ≡ None
    → (keeps_window (seen v line) a && keeps_window (seen v line) b) ≡ false → Some GrantingClause ≡ judged v line
window_left v t u line a b before h =
    sym (judged_none v line before ∙ ap (λ b. if not b then Some GrantingClause else None) (by_test (is_within (seen v line)) refl)) where
      by_test : (x : Bool) → is_within (seen v line) ≡ x → x ≡ false
      by_test false e = refl
      by_test true e =
          let all = (within_is (seen v line)).0 e in
          absurd (true≢false ((λ i. sym (all_within (seen v line) a all) i && sym (all_within (seen v line) b all) i) ∙ h))
