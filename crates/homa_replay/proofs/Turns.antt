-- A turn or a tick more.
use Rattle.std.proofs.Common.{◌≡◌, ℕ, Bool, Option, None, Some, List, ◌++◌, refl, sym, subst, false, true≢false}
use Rattle.std.specs.Prelude.{is_some, IfSome}
use Rattle.homa_plain.specs.declared.settings.Settings.{Settings}
use Rattle.homa_plain.specs.declared.fault.WorldFault.{WorldFault}
use Rattle.homa_plain.specs.Entries.{PlainEntry}
use Rattle.homa_plain.specs.World.{World}
use Rattle.homa_plain.specs.Replay.{Happening}
use Rattle.homa_replay.specs.Lines.{ArePlayed, AreRefused, AreCut}
use Rattle.homa_replay.proofs.Plays.{played_more, refused_more, cut_more, refused_wide, cut_wide}

pub is_none : {A : Type 0} (o : Option A) → is_some o ≡ false → o ≡ None
is_none None e = refl
is_none (Some x) e = absurd (true≢false e)

-- the settings stay
module _ (s t : Settings) (w : World) (old new : Option (List ℕ)) (p : List PlainEntry → Type 0) (e : s ≡ t) where
  pub played_at : (es : List Happening) (st : World → Type 0) (q : List PlainEntry → Type 0) → ArePlayed s w es st old new p q → ArePlayed t w es st old new p q
  played_at es st q a = subst (λ (x : Settings). ArePlayed x w es st old new p q) e a

  pub refused_at : (es : List Happening) (fault : WorldFault) → AreRefused s w es old new p fault → AreRefused t w es old new p fault
  refused_at es fault a = subst (λ (x : Settings). AreRefused x w es old new p fault) e a

  pub cut_at : (es : List Happening) (all : Bool) → AreCut s w es old new p all → AreCut t w es old new p all
  cut_at es all a = subst (λ (x : Settings). AreCut x w es old new p all) e a

-- behind some events a further one, and all of them
module _ (s t : Settings) (w : World) (a b : List Happening) (st : World → Type 0) (old mid new : Option (List ℕ)) (p q : List PlainEntry → Type 0)
    (e : t ≡ s) (first : ArePlayed s w a st old mid p q) where
  pub then_played : (su : World → Type 0) (r : List PlainEntry → Type 0) (es : List Happening) → es ≡ a ++ b
      → ((v : World) → st v → ArePlayed t v b su mid new q r) → ArePlayed s w es su old new p r
  then_played su r es k h =
      subst (λ (l : List Happening). ArePlayed s w l su old new p r) (sym k)
      (played_more s w a b st old mid new p q first su r (played_at t s first.next mid new q e b su r (h first.next first.stood)))

  pub then_refused : (c es : List Happening) (fault : WorldFault) → es ≡ (a ++ b) ++ c → ((v : World) → st v → AreRefused t v b mid new q fault)
      → AreRefused s w es old new p fault
  then_refused c es fault k h =
      subst (λ (l : List Happening). AreRefused s w l old new p fault) (sym k)
      (refused_wide s w (a ++ b) c old new p fault
      (refused_more s w a b st old mid new p q first fault (refused_at t s first.next mid new q e b fault (h first.next first.stood))))

  pub then_cut : (c es : List Happening) (all : Bool) → es ≡ (a ++ b) ++ c → ((v : World) → st v → AreCut t v b mid new q all) → AreCut s w es old new p all
  then_cut c es all k h =
      subst (λ (l : List Happening). AreCut s w l old new p all) (sym k)
      (cut_wide s w (a ++ b) c old new p all
      (cut_more s w a b st old mid new p q first all (cut_at t s first.next mid new q e b all (h first.next first.stood))))

-- what holds of a value, if there is one
pub if_some : {A : Type 0} (o : Option A) (p q : A → Type 0) → IfSome o p → ((x : A) → p x → q x) → IfSome o q
if_some None p q h f = tt
if_some (Some x) p q h f = f x h
