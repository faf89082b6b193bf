-- Packets that enter the fabric one after the other.
use Rattle.std.proofs.Common.{◌≡◌, ℕ, suc, ◌+◌, ◌≤◌, ◌<◌, None, Some, List, ◌∷◌, inl, inr, drop, length, refl, sym, ap, ◌∙◌, arith}
use Rattle.std.specs.List.{slice_get}
use Rattle.std.proofs.Math.Seq.{drop-cons}
use Rattle.std.proofs.lemmas.Option.{slice_get_cases, slice_get_within, get_or_from_slice_get}
use Rattle.homa_plain.specs.declared.settings.Settings.{Settings}
use Rattle.homa_plain.specs.Packets.{receiver, datagram}
use Rattle.homa_plain.specs.World.{World, SentPacket}
use Rattle.generated_runs.specs.Fabric.{Fabric, sent}
use Rattle.generated_runs.specs.Rounds.{all_sent}
use Rattle.homa_world.specs.declared.shown.Passing.{Passing}
use Rattle.homa_world.specs.Passing.{IsPassing, IsOf}
use Rattle.homa_generate.specs.GenerateWorld.{AreNew}

drop_at : {X : Type 0} (xs : List X) (n : ℕ) (x : X) → slice_get xs n ≡ Some x → drop n xs ≡ x ∷ drop (suc n) xs
drop_at {X} xs n x is = drop-cons xs n x (slice_get_within xs n x is) ∙ ap (λ (y : X). y ∷ drop (suc n) xs) (get_or_from_slice_get xs n x x is)

-- the next one
pub entered_next : (s : Settings) (packets : List SentPacket) (n : ℕ) (x : SentPacket) (p : Passing) (f g : Fabric) → slice_get packets n ≡ Some x
    → IsPassing s x p → g ≡ sent f p.to.0 p.level (record { number = n; size = p.len; tick = p.tick })
    → all_sent s n (drop n packets) f ≡ all_sent s (n + 1) (drop (n + 1) packets) g
entered_next s packets n x p f g is passing entered =
    let next : suc n ≡ n + 1 = omega arith in
    ap (λ (l : List SentPacket). all_sent s n l f) (drop_at packets n x is)
    ∙ ap (λ (k : ℕ). all_sent s k (drop k packets)
    (sent f (receiver x.packet).0 x.packet.level (record { number = n; size = length (datagram s x.packet); tick = x.tick }))) next
    ∙ ap (all_sent s (n + 1) (drop (n + 1) packets)) (sym (entered ∙ rw (passing.to, passing.level, passing.len, passing.tick) refl))

-- each packet that is new is shown
pub all_shown : (s : Settings) (w : World) (first n : ℕ) → AreNew s w first → first ≤ n → n < length w.packets → IsOf s w n None → ⊥
all_shown s w first n new from there none =
    elim (slice_get_cases w.packets n).1 [
      | inl x ↦ omega (arith, none x.0 x.2 new.version, new.now n x.0 from x.2)
      | inr past ↦ omega (arith, there, past.0)
    ]
