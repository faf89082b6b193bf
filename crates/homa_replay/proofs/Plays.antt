-- Events that are played one after the other.
use Rattle.std.proofs.Common.{◌≡◌, ℕ, ◌+◌, Bool, false, Option, List, [], ◌∷◌, ◌++◌, length, length-append, refl, sym, ap, ◌∙◌, subst}
use Rattle.std.proofs.Common.{append_assoc, add-zero, arith}
use Rattle.std.specs.List.{flat_map}
use Rattle.std.proofs.lemmas.List.{append-nil}
use Rattle.std.proofs.lemmas.Grind.{flat_map-append}
use Rattle.homa_io.specs.Outside.{appended, TookFront}
use Rattle.homa_plain.specs.declared.settings.Settings.{Settings}
use Rattle.homa_plain.specs.declared.fault.WorldFault.{WorldFault}
use Rattle.homa_plain.specs.Entries.{PlainEntry}
use Rattle.homa_plain.specs.Text.{line_text}
use Rattle.homa_plain.specs.Script.{Steps}
use Rattle.homa_plain.specs.Rules.{Answer}
use Rattle.homa_plain.specs.World.{World}
use Rattle.homa_plain.specs.Replay.{Happening, Replay, with_told, last_entry}
use Rattle.homa_plain.specs.Answers.{shown, answering}
use Rattle.homa_replay.specs.Stream.{goes_on, refused_line, IsRefused}
use Rattle.homa_replay.specs.ReplayWorld.{IsApplied}
use Rattle.homa_replay.specs.Lines.{text_of, IsFront, ArePlayed, AreRefused, AreCut}
use Rattle.homa_replay.proofs.Fronts.{nothing_appended, wrote_more, front_after, front_wide, front_none, front_same}
use Rattle.homa_replay.proofs.Streams.{event_done, event_refused, shown_parts, told_parts}

-- the text of what was told, and of the rest
pub text-with_told : (told : List PlainEntry) (r : Replay) → text_of (with_told told r) ≡ flat_map line_text told ++ text_of r
text-with_told told r =
    ap (λ (l : List PlainEntry). flat_map line_text l) (append_assoc told r.told (last_entry r.end ∷ []))
    ∙ flat_map-append line_text told (r.told ++ last_entry r.end ∷ [])

pub printed_more : (old mid new : Option (List ℕ)) (a b : List PlainEntry) → mid ≡ appended old (flat_map line_text a)
    → new ≡ appended mid (flat_map line_text b) → new ≡ appended old (flat_map line_text (a ++ b))
printed_more old mid new a b e h =
    wrote_more old mid new (flat_map line_text a) (flat_map line_text b) e h ∙ ap (λ (l : List ℕ). appended old l) (sym (flat_map-append line_text a b))

pub allowed_more : (p q r : List PlainEntry → Type 0) (a b : List PlainEntry) → ((more : List PlainEntry) → q more → p (a ++ more))
    → ((more : List PlainEntry) → r more → q (b ++ more)) → (more : List PlainEntry) → r more → p ((a ++ b) ++ more)
allowed_more p q r a b f g more h = subst p (sym (append_assoc a b more)) (f (b ++ more) (g more h))

-- ---- fronts of a replay

pub front_of : (old new : Option (List ℕ)) (told : List PlainEntry) (a b : Replay) → a ≡ b → IsFront a told old new → IsFront b told old new
front_of old new told a b e f = subst (λ (r : Replay). IsFront r told old new) e f

-- nothing was told or printed
pub front_begins : (old : Option (List ℕ)) (r : Replay) → IsFront r [] old old
front_begins old r = record { rest = r.told; tells = refl; took = front_none old (text_of r) }

-- the first entries were told, and a front of them was printed
pub front_amid : (old new : Option (List ℕ)) (told : List PlainEntry) (r : Replay) → TookFront old new (flat_map line_text told)
    → IsFront (with_told told r) told old new
front_amid old new told r f = record {
  rest = r.told;
  tells = refl;
  took = front_same old new (flat_map line_text told ++ text_of r) _ (sym (text-with_told told r)) (front_wide old new (flat_map line_text told) (text_of r) f);
}

-- the first entries were printed, and a front of the rest
pub front_behind : (old mid new : Option (List ℕ)) (told t : List PlainEntry) (r : Replay) → mid ≡ appended old (flat_map line_text told)
    → IsFront r t mid new → IsFront (with_told told r) (told ++ t) old new
front_behind old mid new told t r e f = record {
  rest = f.rest;
  tells = ap (λ (l : List PlainEntry). told ++ l) f.tells ∙ sym (append_assoc told t f.rest);
  took = front_same old new (flat_map line_text told ++ text_of r) _ (sym (text-with_told told r))
      (front_after old mid new (flat_map line_text told) (text_of r) e f.took);
}

-- ---- one event

module _ (s : Settings) (w : World) (old new : Option (List ℕ)) (before : List PlainEntry → Type 0) where
  pub none_played : (stands : World → Type 0) → stands w → old ≡ new → ArePlayed s w [] stands old new before before
  none_played stands h e = record {
    next = w;
    stood = h;
    told = [];
    printed = sym e ∙ nothing_appended old;
    allowed = λ more h. h;
    same = λ events line rest steps later. ap (λ (n : ℕ). goes_on s (answering later w) n line rest steps) (sym (add-zero events));
  }

  pub one_played : (e : Happening) (stands : World → Type 0) (told : List PlainEntry) (after : List PlainEntry → Type 0)
      → IsApplied s w e stands told before after
      → new ≡ appended old (flat_map line_text told) → ArePlayed s w (e ∷ []) stands old new before after
  one_played e stands told after a h = record {
    next = a.next;
    stood = a.stood;
    told = told;
    printed = h;
    allowed = a.allowed;
    same = λ events line rest steps later. event_done s w a.next events line e rest steps (shown told) later told a.done;
  }

  pub one_refused : (e : Happening) (fault : WorldFault) → IsRefused s w e fault → before [] → old ≡ new → AreRefused s w (e ∷ []) old new before fault
  one_refused e fault r none h = record {
    told = [];
    printed = sym h ∙ nothing_appended old;
    allowed = none;
    same = λ events line rest steps later. event_refused s w events line e rest steps later fault r;
  }

  -- there was no memory
  pub none_cut : (es : List Happening) (all : Bool) → before [] → old ≡ new → AreCut s w es old new before all
  none_cut es all none h = record {
    told = [];
    allowed = none;
    printed = λ _. sym h ∙ nothing_appended old;
    front = λ events line rest steps later. subst (λ (o : Option (List ℕ)). IsFront (goes_on s (answering later w) events line (es ++ rest) steps) [] old o) h
        (front_begins old _);
  }

  -- a write failed
  pub one_cut : (e : Happening) (stands : World → Type 0) (told : List PlainEntry) (after : List PlainEntry → Type 0)
      → IsApplied s w e stands told before after → after []
      → TookFront old new (flat_map line_text told) → AreCut s w (e ∷ []) old new before false
  one_cut e stands told after a none f = record {
    told = told;
    allowed = subst before (append-nil told) (a.allowed [] none);
    printed = λ k. absurd cc;
    front = λ events line rest steps later.
        front_of old new told _ _ (sym (event_done s w a.next events line e rest steps (shown told) later told a.done)) (front_amid old new told _ f);
  }

-- ---- more events

module _ (s : Settings) (w : World) (a b : List Happening) (st : World → Type 0) (old mid new : Option (List ℕ)) (p q : List PlainEntry → Type 0)
    (first : ArePlayed s w a st old mid p q) where
  -- what stands in front of the second events
  before_more : (more : List PlainEntry) (events line : ℕ) (rest : List Happening) (steps : Steps) (later : List Answer)
      → goes_on s (answering (shown (first.told ++ more) ++ later) w) events line ((a ++ b) ++ rest) steps
      ≡ with_told first.told (goes_on s (answering (shown more ++ later) first.next) (events + length a) line (b ++ rest) steps)
  before_more more events line rest steps later =
      ap (λ (l : List Answer). goes_on s (answering l w) events line ((a ++ b) ++ rest) steps) (shown_parts first.told more later)
      ∙ (ap (λ (es : List Happening). goes_on s (answering (shown first.told ++ (shown more ++ later)) w) events line es steps) (append_assoc a b rest)
      ∙ first.same events line (b ++ rest) steps (shown more ++ later))

  pub played_more : (su : World → Type 0) (r : List PlainEntry → Type 0) → ArePlayed s first.next b su mid new q r → ArePlayed s w (a ++ b) su old new p r
  played_more su r second = record {
    next = second.next;
    stood = second.stood;
    told = first.told ++ second.told;
    printed = printed_more old mid new first.told second.told first.printed second.printed;
    allowed = allowed_more p q r first.told second.told first.allowed second.allowed;
    same = λ events line rest steps later.
        let n : events + length a + length b ≡ events + length (a ++ b) = omega (arith, length-append a b) in
        before_more second.told events line rest steps later
        ∙ (ap (λ (x : Replay). with_told first.told x) (second.same (events + length a) line rest steps later)
        ∙ (told_parts first.told second.told (goes_on s (answering later second.next) (events + length a + length b) line rest steps)
        ∙ ap (λ (k : ℕ). with_told (first.told ++ second.told) (goes_on s (answering later second.next) k line rest steps)) n));
  }

  pub refused_more : (fault : WorldFault) → AreRefused s first.next b mid new q fault → AreRefused s w (a ++ b) old new p fault
  refused_more fault second = record {
    told = first.told ++ second.told;
    printed = printed_more old mid new first.told second.told first.printed second.printed;
    allowed = first.allowed second.told second.allowed;
    same = λ events line rest steps later.
        before_more second.told events line rest steps later
        ∙ (ap (λ (x : Replay). with_told first.told x) (second.same (events + length a) line rest steps later)
        ∙ told_parts first.told second.told (refused_line line fault));
  }

  pub cut_more : (all : Bool) → AreCut s first.next b mid new q all → AreCut s w (a ++ b) old new p all
  cut_more all second = record {
    told = first.told ++ second.told;
    allowed = first.allowed second.told second.allowed;
    printed = λ k. printed_more old mid new first.told second.told first.printed (second.printed k);
    front = λ events line rest steps later.
        front_of old new (first.told ++ second.told) _ _ (sym (before_more second.told events line rest steps later))
        (front_behind old mid new first.told second.told _ first.printed (second.front (events + length a) line rest steps later));
  }

-- ---- events behind those that are refused or cut off

module _ (s : Settings) (w : World) (a b : List Happening) (old new : Option (List ℕ)) (p : List PlainEntry → Type 0) where
  pub refused_wide : (fault : WorldFault) → AreRefused s w a old new p fault → AreRefused s w (a ++ b) old new p fault
  refused_wide fault first = record {
    told = first.told;
    printed = first.printed;
    allowed = first.allowed;
    same = λ events line rest steps later.
        ap (λ (es : List Happening). goes_on s (answering (shown first.told ++ later) w) events line es steps) (append_assoc a b rest)
        ∙ first.same events line (b ++ rest) steps later;
  }

  pub cut_wide : (all : Bool) → AreCut s w a old new p all → AreCut s w (a ++ b) old new p all
  cut_wide all first = record {
    told = first.told;
    allowed = first.allowed;
    printed = first.printed;
    front = λ events line rest steps later.
        front_of old new first.told _ _
        (ap (λ (es : List Happening). goes_on s (answering (shown first.told ++ later) w) events line es steps) (sym (append_assoc a b rest)))
        (first.front events line (b ++ rest) steps later);
  }
