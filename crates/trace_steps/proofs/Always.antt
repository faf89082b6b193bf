-- What each event keeps is so along each trace, and the law holds at each of its lines.
use Rattle.std.proofs.Common.{◌≡◌, ℕ, zero, suc, ◌+◌, ◌≤◌, ◌<◌, Option, Some, None, List, [], ◌∷◌, length, refl, sym, ap, subst, ◌∙◌, arith}
use Rattle.std.specs.Prelude.{slice_get, slice_index_or, unwrap_or, replicate}
use Rattle.std.specs.Ordering.{nat_cmp}
use Rattle.std.proofs.lemmas.List.{length-replicate}
use Rattle.plain_sets.specs.Maps.{get}
use Rattle.plain_sets.proofs.MapLaws.{get-empty}
use Rattle.homa_plain.specs.declared.id.HostId.{HostId}
use Rattle.homa_plain.specs.declared.settings.Settings.{Settings}
use Rattle.homa_plain.specs.declared.fault.LineFault.TheVariants.{World as ByWorld}
use Rattle.homa_plain.specs.Calls.{call_cmp}
use Rattle.homa_plain.specs.Entries.{PlainEntry, PlainSettings}
use Rattle.homa_plain.specs.Host.{Host, new_host}
use Rattle.homa_plain.specs.World.{World, Outcome, Refused, Done, outcome, new_hosts, new_world}
use Rattle.homa_plain.specs.Replay.{Happening, Run, after_event, carried}
use Rattle.trace_rules.specs.View.{View, at_start}
use Rattle.trace_rules.specs.Seen.{seen, seen_all}
use Rattle.trace_rules.specs.Laws.{Holds}
use Rattle.trace_steps.specs.Always.{IsSoAtFirst, KeptByEvent, IsProvedBy}
use Rattle.trace_steps.specs.Told.{HasLives, IsTold}
use Rattle.step_moves.specs.Worlds.{HasOwnName}
use Rattle.trace_steps.proofs.Lines.{seen_all-append, holds-append}
use Rattle.step_moves.proofs.Hosts.{some_is, none_some}
use Rattle.step_moves.proofs.Names.{IsNew, hosts_new, length-new}

-- ---- every list of events

module _ (so : Settings → World → View → Type 0) (law : View → PlainEntry → Type 0) where
  -- it is so of some world at the end of these lines, and the law holds at each of them
  record IsSoBehind (s : Settings) (v : View) (told : List PlainEntry) : Type 0 where
    pub holds : Holds law v told
    pub world : World
    pub so_there : so s world (seen_all v told)

  carried_so : KeptByEvent so law → (s : Settings) (w : World) (v : View) (events : List Happening) → so s w v → IsSoBehind s v (carried s w events).told
  unfolding carried
  carried_so kept s w v [] k = record { holds = tt; world = w; so_there = k }
  carried_so kept s w v (e ∷ es) k = by_outcome (outcome s w e.event e.bytes) refl (λ w' v' l. carried_so kept s w' v' es l) where
    by_outcome : (o : Outcome) → outcome s w e.event e.bytes ≡ o → ((w' : World) (v' : View) → so s w' v' → IsSoBehind s v' (carried s w' es).told)
        → IsSoBehind s v
        (elim o as (λ _. Run) [
          | Refused fault ↦ record { world = w; told = []; count = 0; fault = Some (ByWorld fault) }
          | Done after ↦
              after_event after.told (carried s after.world es)
        ]).told
    by_outcome (Refused fault) e' later = record { holds = tt; world = w; so_there = k }
    by_outcome (Done after) e' later =
        let one = kept s w v e after k e' in
        let rest = later after.world (seen_all v after.told) one.1 in
        record {
          holds = holds-append law v after.told (carried s after.world es).told one.0 rest.holds;
          world = rest.world;
          so_there = subst (so s rest.world) (sym (seen_all-append v after.told (carried s after.world es).told)) rest.so_there;
        }

  pub always : IsProvedBy so law
  always first opened kept ends s incs clock boxes answers events opening =
      let w : World = new_world s incs clock boxes answers in
      let v : View = seen (at_start clock) (PlainSettings s) in
      let told : List PlainEntry = (carried s w events).told in
      let rest = carried_so kept s w v events (opened s incs clock boxes answers opening) in
      let start = first s incs clock boxes opening in (
        (start, rest.holds),
        (λ line last. (start, holds-append law v told (line ∷ []) rest.holds (ends s rest.world (seen_all v told) line rest.so_there last, tt))),
      )

-- ---- a world just opened

skew_at : (n i x : ℕ) → i < n → slice_index_or (replicate n x) i 0 ≡ x
skew_at zero i x l = absurd (omega (arith, l))
skew_at (suc n) zero x l = refl
skew_at (suc n) (suc i) x l = skew_at n i x (omega (arith, l))

skew_most : (n i x : ℕ) → slice_index_or (replicate n x) i 0 ≤ x
skew_most zero i x = omega arith
skew_most (suc n) zero x = omega arith
skew_most (suc n) (suc i) x = skew_most n i x

pub told_first : IsSoAtFirst IsTold
unfolding new_world seen
told_first s incs clock boxes answers opening = record {
  valid = opening.valid;
  settings = refl;
  tick = refl;
  leads = λ id l. ap (λ (o : Option ℕ). unwrap_or o s.skew) (get-empty nat_cmp id.0)
      ∙ sym (skew_at (length incs) id.0 s.skew (omega (arith, l, length-new s 0 incs)));
  packets = refl;
  names = λ id h is. named id h (hosts_new s 0 incs id.0 h is);
  lives = λ id h is. lived id h (hosts_new s 0 incs id.0 h is);
  lived = tt;
  clocks = record {
    lead = λ id. omega (arith, skew_most (length incs) id.0 s.skew);
    last = λ id h is. rested id h (hosts_new s 0 incs id.0 h is);
    each = length-replicate (length incs) s.skew ∙ sym (length-new s 0 incs);
  };
  dated = tt;
} where
  v : View
  v = seen (at_start clock) (PlainSettings s)

  named : (id : HostId) (h : Host) → IsNew s (0 + id.0) h → HasOwnName id h
  named id h n =
      let number : 0 + id.0 ≡ id.0 = omega arith in
      record {
        name = ap (λ (x : Host). x.id) n.is ∙ ap (λ (m : ℕ). let k : HostId = record { 0 = m } in k) number;
        own = λ q r is. absurd (none_some r (sym (ap (λ (x : Host). get x.clients q) n.is ∙ get-empty call_cmp q) ∙ is));
      }

  lived : (id : HostId) (h : Host) → IsNew s (0 + id.0) h → HasLives v id h
  lived id h n =
      let none : get v.restarts id.0 ≡ None = get-empty nat_cmp id.0 in
      let alive : length (unwrap_or (get v.restarts id.0) []) ≡ 0 = ap (λ (o : Option (List ℕ)). length (unwrap_or o [])) none in
      let same : h.inc ≡ n.inc = ap (λ (x : Host). x.inc) n.is in
      record {
        first = n.inc;
        now = (let z : h.inc ≡ n.inc + length (unwrap_or (get v.restarts id.0) []) = omega (arith, same, alive) in z);
        later = λ i l. absurd (omega (arith, l, alive));
        told = λ x e. absurd (none_some x (sym (get-empty nat_cmp id.0) ∙ e));
        sent = tt;
      }

  rested : (id : HostId) (h : Host) → IsNew s (0 + id.0) h → h.last ≤ clock + slice_index_or (replicate (length incs) s.skew) id.0 0
  rested id h n = omega (arith, ap (λ (x : Host). x.last) n.is)
