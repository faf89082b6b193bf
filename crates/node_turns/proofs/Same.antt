-- What stays the same over parts of a loop turn, one after another.
use Rattle.std.proofs.Common.{◌≡◌, ◌≤◌, ◌+◌, ℕ, Bool, Result, Ok, Err, refl, ap, ◌∙◌, subst, arith}
use Rattle.homa_io.specs.Outside.{HasRisen}
use Rattle.homa_plain.specs.declared.settings.Settings.{Settings}
use Rattle.homa_plain.specs.declared.id.HostId.{HostId}
use Rattle.node_io.specs.declared.observer.SeenFault.{SeenFault}
use Rattle.node_io.specs.declared.observer.SeenFault.TheVariants.{Write, Stranger, NoMemory as NoRoom}
use Rattle.node_io.specs.Observer.{OnWrite, UnlessWrite}
use Rattle.node_turns.specs.declared.stop.NodeStop.{NodeStop}
use Rattle.node_turns.specs.declared.stop.NodeStop.TheVariants.{Net, NoMemory}
use Rattle.node_turns.specs.Seen.{seen_stop}
use Rattle.node_turns.specs.Faults.{counts, AreFaults}
use Rattle.node_turns.specs.Same.{HaveStepped, IsSameOutside}

module _ {H : Type 0} (set : H → Settings) (tick counted : H → ℕ) where
  -- no step was done
  pub stepped_none : (h : H) (most : ℕ) → HaveStepped set tick counted h h most
  stepped_none h most = record { settings = refl; clock = refl; steps = omega arith }

  -- some steps, and then some more
  pub stepped_on : (a b c : H) (first more most : ℕ) → first + more ≤ most → HaveStepped set tick counted a b first → HaveStepped set tick counted b c more
      → HaveStepped set tick counted a c most
  stepped_on a b c first more most fit h k = record {
    settings = k.settings ∙ h.settings;
    clock = k.clock ∙ h.clock;
    steps = omega (arith, h.steps, k.steps, fit);
  }

  -- so many steps are at most as many as this
  pub stepped_within : (a b : H) (few most : ℕ) → few ≤ most → HaveStepped set tick counted a b few → HaveStepped set tick counted a b most
  stepped_within a b few most fit h = record { settings = h.settings; clock = h.clock; steps = omega (arith, h.steps, fit) }

module _ {N O : Type 0} (knows : N → HostId → Bool) (lost : N → ℕ) (failed : O → ℕ) (is_same : O → O → Type 0)
    (self : (o : O) → is_same o o) (on : (a b c : O) → is_same a b → is_same b c → is_same a c) where
  -- nothing was asked of the net or told
  pub outside_none : (n : N) (o : O) → IsSameOutside {A = Unit {0}} knows lost failed is_same n n o o (Ok tt)
  outside_none n o = record { known = refl; faults = refl; same = self o }

  -- there was no memory
  pub outside_memory : {A : Type 0} (n : N) (o : O) → IsSameOutside {A = A} knows lost failed is_same n n o o (Err NoMemory)
  outside_memory n o = record { known = refl; faults = refl; same = self o }

  -- the net did something, and the observer took reports
  pub outside_went : (n m : N) (o p : O) → knows m ≡ knows n → lost m ≡ lost n → failed p ≡ failed o → is_same o p
      → IsSameOutside {A = Unit {0}} knows lost failed is_same n m o p (Ok tt)
  outside_went n m o p k q r s = record { known = k; faults = ap (λ c. counts 0 c (failed p)) q ∙ ap (λ c. counts 0 (lost n) c) r; same = s }

  -- the net failed
  pub outside_lost : {A : Type 0} (n m : N) (o : O) → knows m ≡ knows n → HasRisen (lost n) (lost m)
      → IsSameOutside {A = A} knows lost failed is_same n m o o (Err Net)
  outside_lost n m o k r = record { known = k; faults = (r, refl, refl); same = self o }

  -- the net did something, and the observer didn't take a report
  pub outside_untold : {A : Type 0} (n m : N) (o p : O) (f : SeenFault) → knows m ≡ knows n → lost m ≡ lost n → OnWrite (Err f) (HasRisen (failed o) (failed p))
      → UnlessWrite (Err f) (failed p ≡ failed o) → is_same o p → IsSameOutside {A = A} knows lost failed is_same n m o p (Err (seen_stop f))
  outside_untold n m o p (Write why) k q r u s = record { known = k; faults = (r, refl, q); same = s }
  outside_untold n m o p Stranger k q r u s = record
      { known = k; faults = ap (λ c. counts 0 c (failed p)) q ∙ ap (λ c. counts 0 (lost n) c) u; same = s }
  outside_untold n m o p NoRoom k q r u s = record { known = k; faults = ap (λ c. counts 0 c (failed p)) q ∙ ap (λ c. counts 0 (lost n) c) u; same = s }

  -- one part went well, and then came another one
  pub outside_on : {A : Type 0} (n0 n1 n2 : N) (o0 o1 o2 : O) (r : Result A NodeStop)
      → IsSameOutside {A = Unit {0}} knows lost failed is_same n0 n1 o0 o1 (Ok tt) → IsSameOutside knows lost failed is_same n1 n2 o1 o2 r
      → IsSameOutside knows lost failed is_same n0 n2 o0 o2 r
  outside_on n0 n1 n2 o0 o1 o2 r h k = record {
    known = k.known ∙ h.known;
    faults = subst (λ c. AreFaults c (counts 0 (lost n2) (failed o2)) r) h.faults k.faults;
    same = on o0 o1 o2 h.same k.same;
  }
