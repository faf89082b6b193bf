-- The lifetime invariant from one moment between two steps to another: every call goes on, and no packet is sent.
use Rattle.std.proofs.Common.{◌≡◌, ℕ, zero, suc, ◌≤◌, ◌⊎◌, inl, inr, Some, List, [], ◌∷◌, refl, sym, ap, subst, ◌∙◌, arith}
use Rattle.std.specs.Prelude.{slice_get, slice_set}
use Rattle.std.specs.List.{AllByRecursion}
use Rattle.homa_plain.specs.declared.id.HostId.{HostId}
use Rattle.homa_plain.specs.declared.settings.Settings.{Settings}
use Rattle.homa_plain.specs.Host.{Host, finished_at}
use Rattle.trace_rules.specs.View.{View}
use Rattle.homa_plain.specs.World.{World, host_at}
use Rattle.trace_steps.specs.Stands.{stand}
use Rattle.step_moves.specs.Worlds.{at_host}
use Rattle.step_moves.proofs.Hosts.{some_is}
use Rattle.trace_once.specs.Lifetime.{IsOver}
use Rattle.trace_once.specs.Kept.{PacketFits, call_of, IsKept}
use Rattle.trace_once.proofs.Goes.{AllGo, packets_later, lists_later}

-- ---- lists of hosts of which one is set

-- what each host has of something stays, if that of the one that is set does
pub set_same : {A : Type 0} (none : A) (f : Host → A) (hs : List Host) (i n : ℕ) (h x : Host) → slice_get hs i ≡ Some h → f x ≡ f h
    → at_host none f (slice_get (slice_set hs i x) n) ≡ at_host none f (slice_get hs n)
set_same none f [] i n h x at e = refl
set_same none f (y ∷ hs) zero zero h x at e = e ∙ ap f (some_is h y (sym at))
set_same none f (y ∷ hs) zero (suc n) h x at e = refl
set_same none f (y ∷ hs) (suc i) zero h x at e = refl
set_same none f (y ∷ hs) (suc i) (suc n) h x at e = set_same none f hs i n h x at e

-- whatever holds of that of the one that was set, and of the others
pub set_holds : {A : Type 0} (none : A) (f : Host → A) (P : A → Type 0) (hs : List Host) (i n : ℕ) (x : Host) → P (f x)
    → P (at_host none f (slice_get hs n)) → P (at_host none f (slice_get (slice_set hs i x) n))
set_holds none f P [] i n x new old = old
set_holds none f P (y ∷ hs) zero zero x new old = new
set_holds none f P (y ∷ hs) zero (suc n) x new old = old
set_holds none f P (y ∷ hs) (suc i) zero x new old = old
set_holds none f P (y ∷ hs) (suc i) (suc n) x new old = set_holds none f P hs i n x new old

-- the last ticks of the hosts, where one rises
pub last_rises : (hs : List Host) (i n : ℕ) (h x : Host) → slice_get hs i ≡ Some h → h.last ≤ x.last
    → at_host 0 (λ (y : Host). y.last) (slice_get hs n) ≤ at_host 0 (λ (y : Host). y.last) (slice_get (slice_set hs i x) n)
last_rises [] i n h x at le = omega arith
last_rises (y ∷ hs) zero zero h x at le = let e : y.last ≡ h.last = ap (λ (z : Host). z.last) (some_is y h at) in omega (arith, e, le)
last_rises (y ∷ hs) zero (suc n) h x at le = omega arith
last_rises (y ∷ hs) (suc i) zero h x at le = omega arith
last_rises (y ∷ hs) (suc i) (suc n) h x at le = last_rises hs i n h x at le

-- ---- from one moment to a later one

module _ (s : Settings) (w : World) (v : View) (x : World) (u : View) where
  -- each list of finished calls is as it was, or gone
  abbrev pub ListsStay : Type 0
  ListsStay = (n m : HostId) → (at_host [] (λ h. finished_at h m) (host_at x n) ≡ at_host [] (λ h. finished_at h m) (host_at w n))
      ⊎ (at_host [] (λ h. finished_at h m) (host_at x n) ≡ [])

  pub kept_later : IsKept s w v → AllGo s (stand w v) (stand x u) → x.packets ≡ w.packets → ListsStay → IsKept s x u
  kept_later k goes same lists = record {
    calls = λ q n. (goes q n).kept;
    packets = subst (AllByRecursion (PacketFits s (stand x u))) (sym same) (packets_later s (stand w v) (stand x u) goes w.packets k.packets);
    finished = λ n m. by_list n m (lists n m);
  } where
    over : HostId → HostId → List (ℕ × ℕ) → Type 0
    over n m calls = AllByRecursion (λ (c : ℕ × ℕ). IsOver m (stand x u (call_of n c) m)) calls

    by_list : (n m : HostId) → (at_host [] (λ h. finished_at h m) (host_at x n) ≡ at_host [] (λ h. finished_at h m) (host_at w n))
        ⊎ (at_host [] (λ h. finished_at h m) (host_at x n) ≡ []) → over n m (at_host [] (λ h. finished_at h m) (host_at x n))
    by_list n m (inl e) =
        subst (over n m) (sym e) (lists_later s (stand w v) (stand x u) goes n m (at_host [] (λ h. finished_at h m) (host_at w n)) (k.finished n m))
    by_list n m (inr e) = subst (over n m) (sym e) tt
