-- Events that are carried out one after the other.
use Rattle.std.proofs.Common.{Bool, true, false, ◌≡◌, ℕ, is_none, Option, None, Some, List, [], ◌∷◌, ◌++◌, refl, sym, ap, ◌∙◌, subst, append_assoc}
use Rattle.std.proofs.lemmas.List.{append-nil}
use Rattle.homa_plain.specs.declared.settings.Settings.{Settings}
use Rattle.homa_plain.specs.declared.fault.LineFault.{LineFault}
use Rattle.homa_plain.specs.declared.fault.LineFault.TheVariants.{World as ByWorld}
use Rattle.homa_plain.specs.declared.fault.WorldFault.{WorldFault}
use Rattle.homa_plain.specs.Entries.{PlainEntry, is_memory}
use Rattle.homa_plain.specs.Rules.{Answer}
use Rattle.homa_plain.specs.World.{World, Outcome, Refused, Done, outcome}
use Rattle.homa_plain.specs.Replay.{Happening, Run, after_event, carried}
use Rattle.homa_plain.specs.Answers.{shown, answering}
use Rattle.homa_replay.specs.ReplayWorld.{IsApplied, IsNotApplied}
use Rattle.homa_replay.proofs.Streams.{shown_parts}
use Rattle.generated_runs.proofs.Carried.{by_outcome, first_event, no_event, IsJoined, joined}
use Rattle.homa_generate.specs.Counts.{counted}
use Rattle.homa_generate.specs.Carried.{IsCarried}
use Rattle.homa_generate.proofs.CountLaws.{counted-append}

abbrev is_done : Run → Bool
is_done r = is_none r.fault

no_fault : (o : Option LineFault) → is_none o ≡ true → o ≡ None
no_fault None e = refl
no_fault (Some fault) e = cc

-- the first part is refused
stopped_first : (s : Settings) (w : World) (a b : List Happening) (o : Outcome)
    → ((v : World) → is_done (carried s v a) ≡ false → carried s v (a ++ b) ≡ carried s v a)
    → is_done (by_outcome s w a o) ≡ false → by_outcome s w (a ++ b) o ≡ by_outcome s w a o
stopped_first s w a b (Refused fault) next stopped = refl
stopped_first s w a b (Done after) next stopped = ap (after_event after.told) (next after.world stopped)

pub stopped_part : (s : Settings) (w : World) (a b : List Happening) → is_done (carried s w a) ≡ false → carried s w (a ++ b) ≡ carried s w a
stopped_part s w [] b stopped = absurd (no (ap is_done (sym (no_event s w)) ∙ stopped)) where
  no : true ≡ false → ⊥
  no e = cc
stopped_part s w (e ∷ a) b stopped =
    rw (first_event s w e (a ++ b), first_event s w e a)
    (stopped_first s w a b (outcome s w e.event e.bytes) (λ v h. stopped_part s v a b h) (rw (sym (first_event s w e a)) stopped))

-- ---- what the code did

module _ (s : Settings) (w : World) (stands : World → Type 0) (old new : List ℕ) (before after : List PlainEntry → Type 0) where
  -- an event
  pub one_carried : (e : Happening) (told : List PlainEntry) → IsApplied s w e stands told before after → new ≡ counted old told
      → IsCarried s w (e ∷ []) stands old new before after true
  one_carried e told a counts =
      let runs : (later : List Answer)
      → carried s (answering (shown told ++ later) w) (e ∷ []) ≡ after_event told
      (record { world = answering later a.next; told = []; count = 0; fault = None }) =
      λ later. first_event s (answering (shown told ++ later) w) e [] ∙ ap (by_outcome s (answering (shown told ++ later) w) []) (a.done later)
      ∙ ap (after_event told) (no_event s (answering later a.next)) in
      record {
        next = a.next;
        stood = a.stood;
        told = told;
        counts = counts;
        allowed = a.allowed;
        world = λ later. ap (λ (r : Run). r.world) (runs later);
        tells = λ later. ap (λ (r : Run). r.told) (runs later) ∙ append-nil told;
        ends = λ later. ap is_done (runs later);
      }

-- an event that the world refuses
pub one_refused : (s : Settings) (w : World) (stands : World → Type 0) (old : List ℕ) (before after : List PlainEntry → Type 0) (e : Happening)
    (fault : WorldFault) → IsNotApplied s w e fault → is_memory fault ≡ false → stands w
    → ((told : List PlainEntry) → after told → before told) → IsCarried s w (e ∷ []) stands old old before after false
one_refused s w stands old before after e fault refused known stood no_more =
    let runs : (later : List Answer)
    → carried s (answering later w) (e ∷ []) ≡ record { world = answering later w; told = []; count = 0; fault = Some (ByWorld fault) } =
    λ later. first_event s (answering later w) e [] ∙ ap (by_outcome s (answering later w) []) (refused.refused known later) in
    record {
      next = w;
      stood = stood;
      told = [];
      counts = refl;
      allowed = λ more may. no_more more may;
      world = λ later. ap (λ (r : Run). r.world) (runs later);
      tells = λ later. ap (λ (r : Run). r.told) (runs later);
      ends = λ later. ap is_done (runs later);
    }

-- whether all was done, under another name
pub done_as : (s : Settings) (w : World) (es : List Happening) (stands : World → Type 0) (old new : List ℕ) (before after : List PlainEntry → Type 0)
    (d e : Bool) → IsCarried s w es stands old new before after d → d ≡ e → IsCarried s w es stands old new before after e
done_as s w es stands old new before after d e c same = subst (IsCarried s w es stands old new before after) same c

-- no event
pub none_carried : (s : Settings) (w : World) (stands : World → Type 0) (old : List ℕ) (before : List PlainEntry → Type 0) → stands w
    → IsCarried s w [] stands old old before before true
none_carried s w stands old before h = record {
  next = w;
  stood = h;
  told = [];
  counts = refl;
  allowed = λ more k. k;
  world = λ later. ap (λ (r : Run). r.world) (no_event s (answering later w));
  tells = λ later. ap (λ (r : Run). r.told) (no_event s (answering later w));
  ends = λ later. ap is_done (no_event s (answering later w));
}

-- events behind others
pub more_carried : (s : Settings) (w : World) (a b : List Happening) (st su : World → Type 0) (old mid new : List ℕ)
    (p q r : List PlainEntry → Type 0) (done : Bool) → IsCarried s w a st old mid p q true
    → ((v : World) → st v → IsCarried s v b su mid new q r done) → IsCarried s w (a ++ b) su old new p r done
more_carried s w a b st su old mid new p q r done first next =
    let second = next first.next first.stood in
    let parts : (later : List Answer) → IsJoined (carried s (answering (shown (first.told ++ second.told) ++ later) w) (a ++ b))
    (carried s (answering (shown first.told ++ (shown second.told ++ later)) w) a) (carried s (answering (shown second.told ++ later) first.next) b) =
    λ later.
    let rest = shown second.told ++ later in
    rw (shown_parts first.told second.told later, ← (first.world rest))
    (joined s (answering (shown first.told ++ rest) w) a b (no_fault _ (first.ends rest))) in
    record {
      next = second.next;
      stood = second.stood;
      told = first.told ++ second.told;
      counts = second.counts ∙ ap (λ (l : List ℕ). counted l second.told) first.counts ∙ sym (counted-append old first.told second.told);
      allowed = λ more h. subst p (sym (append_assoc first.told second.told more)) (first.allowed (second.told ++ more) (second.allowed more h));
      world = λ later. (parts later).world ∙ second.world later;
      tells = λ later. (parts later).told ∙ ap (λ (l : List PlainEntry). l ++ (carried s (answering (shown second.told ++ later) first.next) b).told)
          (first.tells (shown second.told ++ later)) ∙ ap (λ (l : List PlainEntry). first.told ++ l) (second.tells later);
      ends = λ later. ap is_none (parts later).fault ∙ second.ends later;
    }

-- further events, where the settings stayed
pub then_carried : (s t : Settings) (w : World) (a b : List Happening) (st su : World → Type 0) (old mid new : List ℕ)
    (p q r : List PlainEntry → Type 0) (done : Bool) → t ≡ s → IsCarried s w a st old mid p q true → (es : List Happening) → es ≡ a ++ b
    → ((v : World) → st v → IsCarried t v b su mid new q r done) → IsCarried s w es su old new p r done
then_carried s t w a b st su old mid new p q r done same first es k h =
    subst (λ (l : List Happening). IsCarried s w l su old new p r done) (sym k)
    (more_carried s w a b st su old mid new p q r done first (λ v x. subst (λ (o : Settings). IsCarried o v b su mid new q r done) same (h v x)))

-- events behind one that the world refuses
pub then_stopped : (s : Settings) (w : World) (a b : List Happening) (st : World → Type 0) (old new : List ℕ) (p q : List PlainEntry → Type 0)
    → IsCarried s w a st old new p q false → (es : List Happening) → es ≡ a ++ b → IsCarried s w es st old new p q false
then_stopped s w a b st old new p q first es k =
    let same : (later : List Answer) → carried s (answering (shown first.told ++ later) w) es ≡ carried s (answering (shown first.told ++ later) w) a =
    λ later. ap (carried s (answering (shown first.told ++ later) w)) k ∙ stopped_part s (answering (shown first.told ++ later) w) a b (first.ends later) in
    record {
      next = first.next;
      stood = first.stood;
      told = first.told;
      counts = first.counts;
      allowed = first.allowed;
      world = λ later. ap (λ (r : Run). r.world) (same later) ∙ first.world later;
      tells = λ later. ap (λ (r : Run). r.told) (same later) ∙ first.tells later;
      ends = λ later. ap is_done (same later) ∙ first.ends later;
    }
