-- The order of calls is total, and tells different calls apart.
use Rattle.std.proofs.Common.{◌≡◌, ℕ, true, Decides, refl, ap, subst, Less, Equal, Greater, nat_cmp, is_eq}
use Rattle.std.specs.Ordering.{ordering_then}
use Rattle.std.specs.Cmp.{IsTotalOrder, nat_cmp_total, on_total, then_total, tied_itself}
use Rattle.std.specs.FinMap.{IsAntisymmetric}
use Rattle.std.proofs.lemmas.Bool.Decides.{Decides-eqb, Decides-like}
use Rattle.std.proofs.lemmas.Map.Lookups.{exact_pairs, exact_unsigned}
use Rattle.homa_plain.specs.declared.id.CallId.{CallId}
use Rattle.homa_plain.specs.declared.id.HostId.{HostId}
use Rattle.homa_plain.specs.Calls.{is_host, call_cmp, is_call}
use Rattle.std.specs.declared.cmp.Ordering.{Ordering}

-- what the test of a tie says
equal : (r : Ordering) → is_eq r ≡ true → r ≡ Equal
equal Less e = cc
equal Equal e = refl
equal Greater e = cc

pub call_total : IsTotalOrder call_cmp
call_total =
    then_total (on_total (λ id. id.client.0) nat_cmp_total) (then_total (on_total (λ id. id.inc) nat_cmp_total) (on_total (λ id. id.seq) nat_cmp_total))

-- only equal calls tie
pub call_same : IsAntisymmetric call_cmp
call_same a b e =
    ap (λ (p : ℕ × (ℕ × ℕ)). record { client = record { 0 = p.0 }; inc = p.1.0; seq = p.1.1 })
    (exact_pairs nat_cmp (λ x y. ordering_then (nat_cmp x.0 y.0) (nat_cmp x.1 y.1)) exact_unsigned (exact_pairs nat_cmp nat_cmp exact_unsigned exact_unsigned)
    (a.client.0, (a.inc, a.seq)) (b.client.0, (b.inc, b.seq)) e)

-- whether two calls, or two hosts, are the same
pub calls_are : (a b : CallId) → Decides (is_call a b) (a ≡ b)
calls_are a b = (λ e. call_same a b (equal _ e), λ e. subst (λ (c : CallId). is_call a c ≡ true) e (ap is_eq (tied_itself call_total a)))

pub hosts_are : (a b : HostId) → Decides (is_host a b) (a ≡ b)
hosts_are a b = Decides-like _ (λ e. ap (λ (n : ℕ). record { 0 = n }) e) (λ e. ap (λ h. h.0) e) (Decides-eqb a.0 b.0)
