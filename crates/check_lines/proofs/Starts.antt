-- Before the first line.
use Rattle.std.proofs.Common.{◌≡◌, ℕ, Option, None, List, [], ◌∷◌, length, false, refl, sym, ap, ◌∙◌, subst, arith}
use Rattle.std.specs.Ordering.{nat_cmp}
use Rattle.std.specs.Prelude.{unwrap_or, slice_get}
use Rattle.plain_sets.proofs.MapLaws.{get-empty}
use Rattle.homa_plain.specs.declared.id.CallId.{CallId}
use Rattle.homa_plain.specs.declared.id.HostId.{HostId}
use Rattle.homa_plain.specs.Settings.{usual}
use Rattle.homa_plain.specs.Calls.{call_cmp}
use Rattle.trace_rules.specs.View.{no_ends, nothing_seen, no_progress}
use Rattle.trace_rules.specs.Granting.{IsWithin, IsWithinAt}
use Rattle.check_call.specs.Spots.{spot, IsSame}
use Rattle.check_lines.specs.declared.trace.Trace.{Trace}
use Rattle.check_lines.specs.declared.block.Named.TheVariants.{Nobody}
use Rattle.check_call.specs.Kept.{no_spot}
use Rattle.check_lines.specs.Traces.{Follows, host_at, IsHost, IsListed, is_incoming_at, IsCallAt, call_in, IsHere, IsDelivered, due_of}

spot_none : (q : CallId) → spot no_progress q ≡ no_spot
spot_none q = λ i. record {
  live = get-empty call_cmp q i;
  request = get-empty call_cmp q i;
  response = get-empty call_cmp q i;
  resends = unwrap_or (get-empty call_cmp q i) [];
}

none_host : (h : HostId) (t : Trace) → t.hosts.items ≡ [] → IsHost nothing_seen h (host_at t h)
none_host h t e = subst (λ hosts. IsHost nothing_seen h (slice_get hosts h.0)) (sym e)
    (record { lead = get-empty nat_cmp h.0; first = get-empty nat_cmp h.0; restarts = ap (λ (o : Option (List ℕ)). unwrap_or o []) (get-empty nat_cmp h.0) })

within_none : IsWithin nothing_seen
within_none id = (
  subst (IsWithinAt nothing_seen.settings.window) (sym (get-empty call_cmp id)) tt,
  subst (IsWithinAt nothing_seen.settings.window) (sym (get-empty call_cmp id)) tt,
)

same_none : IsSame no_progress no_progress
same_none = record { spots = λ q. refl; came = refl; due = refl }

none_listed : (h : HostId) (t : Trace) → t.hosts.items ≡ [] → IsListed nothing_seen h (host_at t h)
none_listed h t e = subst (λ hosts. IsListed nothing_seen h (slice_get hosts h.0)) (sym e)
    (record { asked = λ q. sym (ap (is_incoming_at h) (get-empty call_cmp q)); awaited = λ q. sym (ap (is_incoming_at h) (get-empty call_cmp q)) })

-- nothing is kept
pub at_first : (t : Trace) → t.settings ≡ usual → t.place ≡ 0 → t.ended ≡ false → t.tick ≡ 0 → t.hosts.items ≡ [] → t.ids.keys ≡ []
    → t.calls.items ≡ [] → t.packets.items ≡ [] → t.here ≡ record { runs = Nobody; dones = Nobody; forgotten = Nobody } → t.delivery ≡ None
    → Follows nothing_seen t
at_first t settings place ended tick hosts ids calls packets here delivery = record {
  place = sym place;
  ended = sym ended;
  kept = record {
    settings = sym settings;
    wire = (omega arith, omega arith);
    tick = sym tick;
    hosts = λ h. none_host h t hosts;
    listed = λ h. none_listed h t hosts;
    aligned = ap length ids ∙ sym (ap length calls);
    calls = λ q. subst (λ ks. IsCallAt nothing_seen q (call_in ks t.calls.items q)) (sym ids)
        (record { called = get-empty call_cmp q; runs = refl; now = spot_none q });
    packets = sym packets;
    made = tt;
  };
  block = record {
    undo = None;
    is = (same_none, same_none, refl);
    kept = subst (λ d. IsDelivered t d None) (sym delivery) tt;
    due = sym (ap due_of delivery);
    here = subst (λ k. IsHere k no_ends) (sym here) (record { runs = refl; dones = refl; forgotten = refl });
  };
  within = within_none;
  first = λ e. refl;
}

pub no_items : {A : Type 0} (xs : List A) → length xs ≡ 0 → xs ≡ []
no_items [] e = refl
no_items (x ∷ xs) e = absurd (omega (arith, e))
