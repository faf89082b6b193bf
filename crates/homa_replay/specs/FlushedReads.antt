-- Laws on what a source does that writes what is held before each read, which its model cites.
use Rattle.std.proofs.Common.{◌≡◌, ◌≤◌, ℕ, Option, None, Some, refl, sym, ◌∙◌, subst, arith}
use Rattle.std.proofs.Math.Nat.{le_trans}
use Rattle.homa_io.specs.Outside.{HasRisen}
use Rattle.homa_replay.specs.declared.stop.Stop.{Stop}
use Rattle.homa_replay.specs.declared.stop.Stop.TheVariants.{Read, Write, NoMemory}
use Rattle.homa_replay.specs.Ahead.{Counts, IsQuiet, IsStop, IsHeeded}

quiet_self : (a : Counts) → IsQuiet a a
quiet_self a = record { source = refl; sink = refl }

quiet_on : (a b c : Counts) → IsQuiet a b → IsQuiet b c → IsQuiet a c
quiet_on a b c p q = record { source = q.source ∙ p.source; sink = q.sink ∙ p.sink }

self_by : (a : Counts) (stop : Option Stop) → a.stop ≡ stop → IsHeeded a a stop
self_by a None e = subst (IsStop a a) (sym e) (quiet_self a, refl)
self_by a (Some stop) e = (quiet_self a, e, refl, omega arith)

-- where nothing was done, the first fault is heeded
pub heeded_self : (a : Counts) → IsHeeded a a a.stop
heeded_self a = self_by a a.stop refl

-- nothing and then a stop
stop_after : (a b c : Counts) (stop : Option Stop) → IsQuiet a b → b.own ≡ a.own → IsStop b c stop → IsStop a c stop
stop_after a b c None q e h = (quiet_on a b c q h.0, h.1 ∙ e)
stop_after a b c (Some Read) q e h =
    (subst (λ (n : ℕ). HasRisen n c.source) q.source h.0, h.1 ∙ q.sink, h.2, subst (λ (n : ℕ). HasRisen n c.own) e h.3)
stop_after a b c (Some Write) q e h =
    (subst (λ (n : ℕ). HasRisen n c.sink) q.sink h.0, h.1 ∙ q.source, subst (λ (n : ℕ). HasRisen n c.own) e h.2)
stop_after a b c (Some NoMemory) q e h = h

-- a stop and then nothing
stop_before : (a b c : Counts) (stop : Stop) → IsStop a b (Some stop) → IsQuiet b c → c.held ≡ b.held → b.own ≤ c.own → IsStop a c (Some stop)
stop_before a b c Read h q e l =
    (subst (λ (n : ℕ). HasRisen a.source n) (sym q.source) h.0, q.sink ∙ h.1, e ∙ h.2, le_trans h.3 l)
stop_before a b c Write h q e l = (subst (λ (n : ℕ). HasRisen a.sink n) (sym q.sink) h.0, q.source ∙ h.1, le_trans h.2 l)
stop_before a b c NoMemory h q e l = h

on_by : (a b c : Counts) (first second : Option Stop) → a.stop ≡ first → b.stop ≡ second → IsHeeded a b first → IsHeeded b c second → IsHeeded a c first
on_by a b c None None e f h k =
    let q : IsStop a b None = subst (IsStop a b) f h in
    stop_after a b c c.stop q.0 q.1 k
on_by a b c None (Some stop) e f h k =
    let q : IsStop a b (Some stop) = subst (IsStop a b) f h in
    subst (IsStop a c) (sym k.1) (stop_before a b c stop q k.0 k.2 k.3)
on_by a b c (Some stop) None e f h k = absurd (let g : None ≡ Some stop = sym f ∙ h.1 in cc)
on_by a b c (Some stop) (Some other) e f h k = (quiet_on a b c h.0 k.0, k.1 ∙ (sym f ∙ h.1), k.2 ∙ h.2, le_trans h.3 k.3)

-- where the first fault is heeded in two calls, one after the other, it is in both together
pub heeded_on : (a b c : Counts) → IsHeeded a b a.stop → IsHeeded b c b.stop → IsHeeded a c a.stop
heeded_on a b c h k = on_by a b c a.stop b.stop refl refl h k
