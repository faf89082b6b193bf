-- Events that take no bytes.
use Rattle.std.proofs.Common.{◌≡◌, ℕ, Bool, true, false, List, [], ◌++◌, refl, sym, subst, ◌∙◌}
use Rattle.homa_plain.specs.declared.settings.Settings.{Settings}
use Rattle.homa_plain.specs.declared.event.Event.{Event}
use Rattle.homa_plain.specs.declared.event.Event.TheVariants as event
use Rattle.homa_plain.specs.declared.fault.WorldFault.{WorldFault}
use Rattle.homa_plain.specs.Entries.{PlainEntry}
use Rattle.homa_plain.specs.World.{World as PlainWorld, outcome}
use Rattle.homa_plain.specs.Answers.{shown, answering}
use Rattle.homa_replay.specs.ReplayWorld.{IsApplied, IsNotApplied}
use Rattle.homa_world.specs.declared.parts.WorldParts.{WorldParts}
use Rattle.box_laws.specs.Boxes.{Allows}
use Rattle.homa_world.specs.Standing.{StandsFor, Applies, Refuses, told_of, may_tell_of}

abbrev pub takes_bytes : Event → Bool
takes_bytes (event.Call client server number) = true
takes_bytes (event.Inject host) = true
takes_bytes e = false

-- the bytes beside them make no difference
same_outcome : (s : Settings) (w : PlainWorld) (e : Event) (bytes : List ℕ) → takes_bytes e ≡ false → outcome s w e bytes ≡ outcome s w e []
unfolding outcome
same_outcome s w (event.Deliver n) bytes none = refl
same_outcome s w event.Clock bytes none = refl
same_outcome s w (event.Turn host) bytes none = refl
same_outcome s w (event.Restart host) bytes none = refl
same_outcome s w (event.Shift host n) bytes none = refl
same_outcome s w (event.Call client server number) bytes none = cc
same_outcome s w (event.Inject host) bytes none = cc

applied_with : (s : Settings) (w : PlainWorld) (e : Event) (bytes : List ℕ) (stands : PlainWorld → Type 0) (told : List PlainEntry)
    (before after : List PlainEntry → Type 0) → takes_bytes e ≡ false
    → IsApplied s w (record { event = e; bytes = [] }) stands told before after → IsApplied s w (record { event = e; bytes = bytes }) stands told before after
applied_with s w e bytes stands told before after none a = record {
  next = a.next;
  stood = a.stood;
  done = λ later. same_outcome s (answering (shown told ++ later) w) e bytes none ∙ a.done later;
  allowed = a.allowed;
}

refused_with : (s : Settings) (w : PlainWorld) (e : Event) (bytes : List ℕ) (fault : WorldFault) → takes_bytes e ≡ false
    → IsNotApplied s w (record { event = e; bytes = [] }) fault → IsNotApplied s w (record { event = e; bytes = bytes }) fault
refused_with s w e bytes fault none r =
    record { refused = λ known later. same_outcome s (answering later w) e bytes none ∙ r.refused known later; memory = r.memory }

module _ {S : Type 0} (served : S → ℕ) (allows : Allows S) (seen old new : WorldParts S) (view : old ≡ seen) (e given : Event) (bytes : List ℕ)
    (is : given ≡ e) (none : takes_bytes e ≡ false) where
  pub applies_with : Applies served allows old new (record { event = e; bytes = [] })
      → (w : PlainWorld) → StandsFor seen w → IsApplied seen.settings w (record { event = given; bytes = bytes }) (StandsFor new) (told_of new)
      (may_tell_of served allows seen) (may_tell_of served allows new)
  applies_with a =
      subst (λ o. (w : PlainWorld) → StandsFor o w → IsApplied o.settings w (record { event = given; bytes = bytes }) (StandsFor new) (told_of new)
      (may_tell_of served allows o) (may_tell_of served allows new)) view (λ w stands.
      subst (λ x. IsApplied old.settings w (record { event = x; bytes = bytes }) (StandsFor new) (told_of new) (may_tell_of served allows old)
      (may_tell_of served allows new)) (sym is)
      (applied_with old.settings w e bytes (StandsFor new) (told_of new) (may_tell_of served allows old) (may_tell_of served allows new) none (a w stands)))

  pub refuses_with : (fault : WorldFault) → Refuses old (record { event = e; bytes = [] }) fault → (w : PlainWorld) → StandsFor seen w
      → IsNotApplied seen.settings w (record { event = given; bytes = bytes }) fault
  refuses_with fault r =
      subst (λ o. (w : PlainWorld) → StandsFor o w → IsNotApplied o.settings w (record { event = given; bytes = bytes }) fault) view (λ w stands.
      subst (λ x. IsNotApplied old.settings w (record { event = x; bytes = bytes }) fault) (sym is)
      (refused_with old.settings w e bytes fault none (r w stands)))
