-- Hosts of which something is changed.
use Rattle.std.proofs.Common.{◌≡◌, ◌≢◌, ◌≤◌, length, arith, ℕ, zero, suc, Bool, true, false, cond, ◌&&◌, Option, Some, None, List, [], ◌∷◌, refl, sym, ap, ◌∙◌}
use Rattle.std.specs.Prelude.{◌==◌, if◌then◌else◌, slice_get, slice_set}
use Rattle.std.proofs.lemmas.Bool.{eqb-true, eq-eqb, true≢false}
use Rattle.homa_plain.specs.Calls.{is_host, is_call}
use Rattle.homa_plain.specs.declared.id.CallId.{CallId}
use Rattle.homa_plain.proofs.CallOrder.{calls_are, hosts_are}
use Rattle.homa_plain.specs.declared.id.HostId.{HostId}
use Rattle.homa_plain.specs.declared.packet.Role.{Role}
use Rattle.homa_plain.specs.declared.packet.Role.TheVariants.{Client, Server}
use Rattle.check_lines.specs.declared.host.Host.{Host}
use Rattle.check_lines.specs.declared.trace.Trace.{Trace}
use Rattle.check_lines.specs.Traces.{host_at, lead_of, first_of, restarts_in, incoming_of}
use Rattle.check_lines.specs.Changes.{SameHosts, SameLists, noted}
use Rattle.check_lines.proofs.Places.{same_tests}

-- what isn't changed is the same at each place
pub same_at : {A : Type 0} (f : Option Host → A) (xs : List Host) (n k : ℕ) (old new : Host) → slice_get xs n ≡ Some old → f (Some new) ≡ f (Some old)
    → f (slice_get (slice_set xs n new) k) ≡ f (slice_get xs k)
same_at f [] n k old new e h = refl
same_at f (x ∷ xs) zero zero old new e h = h ∙ sym (ap f e)
same_at f (x ∷ xs) zero (suc k) old new e h = refl
same_at f (x ∷ xs) (suc n) zero old new e h = refl
same_at f (x ∷ xs) (suc n) (suc k) old new e h = same_at f xs n k old new e h

pub same_hosts : (t u w : Trace) (n : ℕ) (old new : Host) → SameHosts t u → slice_get u.hosts.items n ≡ Some old → w.hosts.items ≡ slice_set u.hosts.items n new
    → new.lead ≡ old.lead → new.first ≡ old.first → new.restarts ≡ old.restarts → SameHosts t w
same_hosts t u w n old new s e is l f r = record {
  lead = λ h. ap (λ (hs : List Host). lead_of (slice_get hs h.0)) is ∙ (same_at lead_of u.hosts.items n h.0 old new e l ∙ s.lead h);
  first = λ h. ap (λ (hs : List Host). first_of (slice_get hs h.0)) is ∙ (same_at first_of u.hosts.items n h.0 old new e f ∙ s.first h);
  restarts = λ h. ap (λ (hs : List Host). restarts_in (slice_get hs h.0)) is
      ∙ (same_at restarts_in u.hosts.items n h.0 old new e (ap (λ rs. rs.items) r) ∙ s.restarts h);
}

-- ---- one host is changed

there_now : (xs : List Host) (n : ℕ) (old new : Host) → slice_get xs n ≡ Some old → slice_get (slice_set xs n new) n ≡ Some new
there_now [] n old new e = absurd cc
there_now (x ∷ xs) zero old new e = refl
there_now (x ∷ xs) (suc n) old new e = there_now xs n old new e

elsewhere : (xs : List Host) (n k : ℕ) (new : Host) → k ≢ n → slice_get (slice_set xs n new) k ≡ slice_get xs k
elsewhere [] n k new d = refl
elsewhere (x ∷ xs) zero zero new d = absurd (d refl)
elsewhere (x ∷ xs) zero (suc k) new d = refl
elsewhere (x ∷ xs) (suc n) zero new d = refl
elsewhere (x ∷ xs) (suc n) (suc k) new d = elsewhere xs n k new (λ e. d (ap suc e))

-- what is kept of each host, where that of one is changed
pub changed_at : {A : Type 0} (f : Option Host → A) (xs : List Host) (n k : ℕ) (old new : Host) → slice_get xs n ≡ Some old
    → f (slice_get (slice_set xs n new) k) ≡ (if k == n then f (Some new) else f (slice_get xs k))
changed_at f xs n k old new e =
    elim (k == n) as (λ b. (k == n) ≡ b → f (slice_get (slice_set xs n new) k) ≡ (if b then f (Some new) else f (slice_get xs k))) [
      | true ↦ λ t. ap (λ (j : ℕ). f (slice_get (slice_set xs n new) j)) (eqb-true k n t) ∙ ap f (there_now xs n old new e)
      | false ↦ λ t. ap f (elsewhere xs n k new (λ p. true≢false (sym (eq-eqb k n p) ∙ t)))
    ] refl

-- .. as a change of what was kept
pub changed_by : {A : Type 0} (f : Option Host → A) (change : A → A) (t u : Trace) (host h : HostId) (old new : Host)
    → ((k : HostId) → f (host_at u k) ≡ f (host_at t k)) → slice_get u.hosts.items host.0 ≡ Some old → f (Some new) ≡ change (f (Some old))
    → f (slice_get (slice_set u.hosts.items host.0 new) h.0) ≡ (if is_host h host then change (f (host_at t h)) else f (host_at t h))
changed_by {A} f change t u host h old new same e c =
    changed_at f u.hosts.items host.0 h.0 old new e
    ∙ elim (h.0 == host.0) as
    (λ b. (h.0 == host.0) ≡ b → (if b then f (Some new) else f (host_at u h)) ≡ (if b then change (f (host_at t h)) else f (host_at t h))) [
      | true ↦ λ p. c ∙ ap change (ap f (sym e) ∙ (ap (λ (n : ℕ). f (slice_get u.hosts.items n)) (sym (eqb-true h.0 host.0 p)) ∙ same h))
      | false ↦ λ p. same h
    ] refl

-- ---- what is noted of calls

pub call_turned : (a b : CallId) → is_call a b ≡ is_call b a
call_turned a b = same_tests _ _ (a ≡ b) (calls_are a b) (λ e. sym ((calls_are b a).0 e), λ e. (calls_are b a).1 (sym e))

-- the messages that one side sends are the same
pub incoming_same : (r : Role) (t u : Trace) → SameLists t u → (h : HostId) (q : CallId) → incoming_of r (host_at u h) q ≡ incoming_of r (host_at t h) q
incoming_same Client t u s = s.asked
incoming_same Server t u s = s.awaited

-- one call is noted at one host
pub noted_at : (f : Option Host → CallId → Bool) (t u : Trace) (host : HostId) (id : CallId) (is : Bool) (old new : Host)
    → ((h : HostId) (q : CallId) → f (host_at u h) q ≡ f (host_at t h) q) → slice_get u.hosts.items host.0 ≡ Some old
    → ((q : CallId) → f (Some new) q ≡ cond (is_call id q) is (f (Some old) q)) → (h : HostId) (q : CallId)
    → f (slice_get (slice_set u.hosts.items host.0 new) h.0) q ≡ noted host id is (λ h q. f (host_at t h) q) h q
noted_at f t u host id is old new same here set h q =
    changed_at (λ o. f o q) u.hosts.items host.0 h.0 old new here
    ∙ elim (h.0 == host.0) as
    (λ b. (h.0 == host.0) ≡ b → (if b then f (Some new) q else f (host_at u h) q) ≡ (if b && is_call q id then is else f (host_at t h) q)) [
      | true ↦ λ p. set q ∙ (ap (λ b. cond b is (f (Some old) q)) (call_turned id q)
          ∙ ap (cond (is_call q id) is) (ap (λ o. f o q) (sym here ∙ ap (λ (n : ℕ). slice_get u.hosts.items n) (sym (eqb-true h.0 host.0 p))) ∙ same h q))
      | false ↦ λ p. same h q
    ] refl

-- it was so before
pub noted_still : (lists : HostId → CallId → Bool) (host : HostId) (id : CallId) (is was : Bool) → was ≡ is → lists host id ≡ was
    → (h : HostId) (q : CallId) → lists h q ≡ noted host id is lists h q
noted_still lists host id is was e here h q =
    elim (h.0 == host.0) as (λ b. (h.0 == host.0) ≡ b → lists h q ≡ (if b && is_call q id then is else lists h q)) [
      | true ↦ λ p. elim (is_call q id) as (λ b. is_call q id ≡ b → lists h q ≡ cond b is (lists h q)) [
        | true ↦ λ s. ap (λ (x : HostId). lists x q) ((hosts_are h host).0 p) ∙ (ap (lists host) ((calls_are q id).0 s) ∙ (here ∙ e))
        | false ↦ λ s. refl
      ] refl
      | false ↦ λ p. refl
    ] refl

-- no host stands there
pub none_beyond : (xs : List Host) (n : ℕ) → length xs ≤ n → slice_get xs n ≡ None
none_beyond [] n l = refl
none_beyond (x ∷ xs) zero l = absurd (omega (arith, l))
none_beyond (x ∷ xs) (suc n) l = none_beyond xs n (omega (arith, l))
