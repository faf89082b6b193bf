-- Entries that a network heeds, one after the other.
use Rattle.std.proofs.Common.{◌≡◌, ◌<◌, ◌+◌, ℕ, Option, Some, List, [], ◌∷◌, ◌++◌, length, take, refl, sym, ap, ◌∙◌, subst}
use Rattle.std.specs.List.{slice_get}
use Rattle.std.proofs.lemmas.List.{take_more}
use Rattle.std.proofs.lemmas.Option.{get_or_from_slice_get}
use Rattle.homa_plain.specs.declared.settings.Settings.{Settings}
use Rattle.homa_plain.specs.Entries.{PlainEntry}
use Rattle.homa_plain.specs.World.{World}
use Rattle.homa_world.specs.declared.shown.Passing.{Passing}
use Rattle.simulation.specs.Turns.{IsShown, AreHeeded}

module _ {N : Type 0} (heeds : N → PlainEntry → Option Passing → N → Type 0) (s : Settings) (w : World) where
  pub heeded_on : (es fs : List PlainEntry) (a b c : N) → AreHeeded heeds s w es a b → AreHeeded heeds s w fs b c → AreHeeded heeds s w (es ++ fs) a c
  heeded_on [] fs a b c first rest = subst (λ (x : N). AreHeeded heeds s w fs x c) (sym first) rest
  heeded_on (e ∷ es) fs a b c first rest = record {
    passing = first.passing;
    is_shown = first.is_shown;
    next = first.next;
    heeded = first.heeded;
    rest = heeded_on es fs first.next b c first.rest rest;
  }

  -- one entry more
  pub one_heeded : (es : List PlainEntry) (i : ℕ) (e : PlainEntry) (a b c : N) (passing : Option Passing) → i < length es → slice_get es i ≡ Some e
      → AreHeeded heeds s w (take i es) a b → IsShown s w e passing → heeds b e passing c → AreHeeded heeds s w (take (i + 1) es) a c
  one_heeded es i e a b c passing inside is so_far shown heeded =
      let one : AreHeeded heeds s w (e ∷ []) b c = record { passing = passing; is_shown = shown; next = c; heeded = heeded; rest = refl } in
      subst (λ (l : List PlainEntry). AreHeeded heeds s w l a c)
      (ap (λ (x : PlainEntry). take i es ++ x ∷ []) (sym (get_or_from_slice_get es i e e is)) ∙ sym (take_more es i e inside))
      (heeded_on (take i es) (e ∷ []) a b c so_far one)
