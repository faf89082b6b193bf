-- A line that is taken.
use Rattle.std.proofs.Common.{◌≡◌, ◌+◌, ◌-◌, ◌^◌, ◌<◌, min, arith, true, ◌||◌, Option, Some, None, IsOk, refl, sym, ap, ◌∙◌, subst}
use Rattle.std.specs.Prelude.{◌==◌, is_ok, Result, Ok, Err}
use Rattle.std.proofs.lemmas.Bool.{eqb-true}
use Rattle.plain_sets.proofs.MapLaws.{get-empty}
use Rattle.homa_plain.specs.declared.id.CallId.{CallId}
use Rattle.homa_plain.specs.declared.settings.Settings.{Settings}
use Rattle.homa_plain.specs.declared.settings.SettingFault.{SettingFault}
use Rattle.homa_plain.specs.Calls.{call_cmp}
use Rattle.homa_plain.specs.Entries.{PlainEntry, PlainSettings}
use Rattle.trace_rules.specs.Judge.{has_shape}
use Rattle.trace_rules.specs.Lines.{is_last}
use Rattle.homa_plain.specs.Settings.{verdict, IsValid}
use Rattle.homa_plain.proofs.SettingsLemmas.{ok_is_valid}
use Rattle.trace_rules.specs.View.{View, nothing_seen}
use Rattle.trace_rules.specs.Seen.{seen}
use Rattle.homa_plain.specs.Wire.{Between}
use Rattle.check_call.specs.Spots.{Undo, IsUndo}
use Rattle.check_call.specs.Steps.{undo_after}
use Rattle.check_call.proofs.Lines.{line_undo}
use Rattle.check_call.specs.declared.call.Call.{Call}
use Rattle.check_call.specs.Calls.{called_of}
use Rattle.check_lines.specs.declared.block.Delivery.{Delivery}
use Rattle.check_lines.specs.declared.trace.Trace.{Trace}
use Rattle.check_lines.specs.Traces.{Follows, Keeps, beside_at, IsCallAt, IsDelivered, IsHere, call_at, due_of}
use Rattle.check_lines.specs.Changes.{Ready, Takes, IsTaken, SameNumbers}
use Rattle.check_lines.proofs.LineLaws.{both}
use Rattle.check_lines.proofs.TakeLaws.{keeps_rest, delivered_on}

-- ---- the settings' line

is_valid : (r : Result (Unit {0}) SettingFault) → is_ok r ≡ true → IsOk r
is_valid (Ok x) e = refl
is_valid (Err x) e = absurd cc

wire_of : (s : Settings) → is_ok (verdict s) ≡ true → Between 1 2 s.wire
wire_of s e =
    let v : IsValid s = (ok_is_valid s (verdict s) refl).0 (is_valid (verdict s) e) in
    let r = v.in_range.2.2.2.2.2.2.2.2.2.2.2.2.2.2 in (r.0, r.1)

first_call : (t : Trace) (s : Settings) (q : CallId) (o : Option Call) → IsCallAt nothing_seen q o → IsCallAt (seen nothing_seen (PlainSettings s)) q o
unfolding seen
first_call t s q None k = record { called = k.called; runs = k.runs; now = k.now }
first_call t s q (Some c) k = absurd (let both : None ≡ Some (called_of c) = sym (get-empty call_cmp q) ∙ k.called in cc)

first_undo : (o : Option Undo) → IsUndo nothing_seen o → o ≡ None
first_undo None is = refl
first_undo (Some u) is = absurd (let both : None ≡ Some u.packet = is.came in cc)

settings_first : (o : Option Undo) (t : Trace) (s : Settings) → Ready nothing_seen o t → is_ok (verdict s) ≡ true
    → Takes nothing_seen o (PlainSettings s) (record t { settings = s })
unfolding seen
settings_first o t s r valid =
    let k = r.kept in
    let none = first_undo o r.is in
    let u = record t { settings = s } in
    record {
      kept = record {
        settings = refl;
        wire = wire_of s valid;
        tick = k.tick;
        hosts = λ h. record { lead = (k.hosts h).lead; first = (k.hosts h).first; restarts = (k.hosts h).restarts };
        listed = λ h. record { asked = (k.listed h).asked; awaited = (k.listed h).awaited };
        aligned = k.aligned;
        calls = λ q. first_call t s q (call_at t q) (k.calls q);
        packets = k.packets;
        made = k.made;
      };
      delivered = subst (λ x. IsDelivered u t.delivery x) (sym none) (no_delivery t u t.delivery (subst (IsDelivered t t.delivery) none r.delivered));
      due = r.due;
      here = r.here;
    }
  where
    no_delivery : (t u : Trace) (d : Option Delivery) → IsDelivered t d None → IsDelivered u d None
    no_delivery t u None is = tt
    no_delivery t u (Some d) is = absurd is

pub settings_takes : (v : View) (o : Option Undo) (t : Trace) (s : Settings) → Ready v o t → (v.place ≡ 0 → v ≡ nothing_seen)
    → has_shape v (PlainSettings s) ≡ true → Takes v o (PlainSettings s) (record t { settings = s })
settings_takes v o t s r first shape =
    let two = both (v.place == 0) (is_ok (verdict s)) shape in
    let is = first (eqb-true v.place 0 two.0) in
    subst (λ x. Takes x o (PlainSettings s) (record t { settings = s })) (sym is) (settings_first o t s (subst (λ x. Ready x o t) is r) two.1)

-- ---- a line that was taken

pub taken_is : (v : View) (o : Option Undo) (t mid u : Trace) (line : PlainEntry) → Follows v t → (f : Ready v o t) → Takes v o line mid
    → SameNumbers t mid → v.place < 2 ^ 64 - 1 → u ≡ record mid { place = u.place; ended = u.ended } → u.place ≡ min (mid.place + 1) (2 ^ 64 - 1)
    → u.ended ≡ (mid.ended || is_last line)
    → IsTaken v t line u
unfolding seen
taken_is v o t mid u line f r takes same small e place ended =
    let w = seen v line in
    let kept = keeps_rest w mid u u.place u.ended mid.here mid.delivery e takes.kept in
    let there = ap (λ z. z.delivery) e in
    let behind : IsDelivered u u.delivery (undo_after v o line) =
    delivered_on mid u (undo_after v o line) (λ q. ap (λ z. beside_at z q) e) there takes.delivered in
    record {
      kept = kept;
      follows = λ within. record {
        place = omega (arith, f.place, place, same.place, small);
        ended = ((λ i. f.ended i || is_last line) ∙ (ap (λ b. b || is_last line) (sym same.ended) ∙ sym ended));
        kept = kept;
        block = record {
          undo = undo_after v o line;
          is = line_undo v o line r.is;
          kept = behind;
          due = takes.due ∙ ap due_of (sym there);
          here = subst (λ h. IsHere h w.here) (sym (ap (λ z. z.here) e)) takes.here;
        };
        within = within;
        first = λ zero. absurd (omega (arith, zero));
      };
      undo = o;
      is = r.is;
      before = r.delivered;
      behind = behind;
    }

pub ready : (v : View) (t : Trace) → (f : Follows v t) → Ready v f.block.undo t
ready v t f = record { kept = f.kept; is = f.block.is; delivered = f.block.kept; due = f.block.due; here = f.block.here }

-- ---- a call is looked up

-- where a call was looked up is no part of what is kept
pub looked_up : (v : View) (t u : Trace) → u ≡ record t { recent = u.recent } → Follows v t → Follows v u
looked_up v t u e f = subst (Follows v) (sym e) (record {
  place = f.place;
  ended = f.ended;
  kept = kept;
  block = record {
    undo = f.block.undo;
    is = f.block.is;
    kept = delivered_on t w f.block.undo (λ q. refl) refl f.block.kept;
    due = f.block.due;
    here = f.block.here;
  };
  within = f.within;
  first = f.first;
}) where
  w : Trace
  w = record t { recent = u.recent }

  kept : Keeps v w
  kept = record {
    settings = f.kept.settings;
    wire = f.kept.wire;
    tick = f.kept.tick;
    hosts = f.kept.hosts;
    listed = f.kept.listed;
    aligned = f.kept.aligned;
    calls = f.kept.calls;
    packets = f.kept.packets;
    made = f.kept.made;
  }
