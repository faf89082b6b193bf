-- What became of events that are played, by how the call of it ended.
use Rattle.std.proofs.Common.{◌≡◌, ℕ, true, false, Option, None, Some, Result, Ok, Err, List, [], ◌++◌, refl, sym, ap, ◌∙◌, subst}
use Rattle.std.specs.Prelude.{is_some, IsErrAnd}
use Rattle.std.proofs.lemmas.List.{append-nil}
use Rattle.homa_plain.specs.declared.settings.Settings.{Settings}
use Rattle.homa_plain.specs.declared.fault.WorldFault.{WorldFault}
use Rattle.homa_plain.specs.Entries.{PlainEntry, is_memory}
use Rattle.homa_plain.specs.World.{World}
use Rattle.homa_plain.specs.Replay.{Happening}
use Rattle.homa_replay.specs.declared.stop.Stop.{Stop}
use Rattle.homa_replay.specs.Stops.{prints_all}
use Rattle.homa_replay.specs.Lines.{ArePlayed, AreRefused, AreCut}
use Rattle.homa_replay.specs.Playing.{Plays}
use Rattle.homa_replay.proofs.Plays.{refused_wide, cut_wide}
use Rattle.homa_replay.proofs.Turns.{then_played, then_refused, then_cut}

-- where one is refused, not all were played
pub not_all : (o : Option WorldFault) → is_some o ≡ true → ◌≡◌ {A = Result (Option WorldFault) Stop} (Ok o) (Ok None) → ⊥
not_all None e k = absurd cc
not_all (Some fault) e k = absurd cc

module _ {s : Settings} {es : List Happening} {stands st : World → Type 0} {p q : List PlainEntry → Type 0} {old new : Option (List ℕ)} where
  -- all were played
  pub plays_all : ((w : World) → stands w → ArePlayed s w es st old new p q) → Plays s es stands st p q old new (Ok None)
  plays_all all = record { played = λ _. all; refused = tt; real = tt; cut = tt }

  -- one is refused
  pub plays_refused : (fault : WorldFault) → is_memory fault ≡ false → ((w : World) → stands w → AreRefused s w es old new p fault)
      → Plays s es stands st p q old new (Ok (Some fault))
  plays_refused fault real refused = record { played = λ k. absurd cc; refused = refused; real = real; cut = tt }

  -- it stopped in their midst
  pub plays_cut : (r : Result (Option WorldFault) Stop) (stop : Stop) → IsErrAnd r (λ y. y ≡ stop)
      → ((w : World) → stands w → AreCut s w es old new p (prints_all stop)) → Plays s es stands st p q old new r
  plays_cut (Ok x) stop h cut = absurd h
  plays_cut (Err y) stop h cut = record {
    played = λ k. absurd cc;
    refused = tt;
    real = tt;
    cut = λ w k. subst (λ (z : Stop). AreCut s w es old new p (prints_all z)) (sym h) (cut w k);
  }

-- further events stand behind them, and not all were played
module _ {s : Settings} {es : List Happening} {stands st : World → Type 0} {p q : List PlainEntry → Type 0} {old new : Option (List ℕ)} where
  pub plays_wide : (b : List Happening) (r : Result (Option WorldFault) Stop) → Plays s es stands st p q old new r → (r ≡ Ok None → ⊥)
      → Plays s (es ++ b) stands st p q old new r
  plays_wide b (Ok None) d none = absurd (none refl)
  plays_wide b (Ok (Some fault)) d none = plays_refused fault d.real (λ w h. refused_wide s w es b old new p fault (d.refused w h))
  plays_wide b (Err stop) d none = plays_cut (Err stop) stop refl (λ w h. cut_wide s w es b old new p (prints_all stop) (d.cut w h))

-- behind some events further ones, and all of them
module _ (s t : Settings) (a b c es : List Happening) {stands st su : World → Type 0} {p q r : List PlainEntry → Type 0} {old mid new : Option (List ℕ)}
    (e : t ≡ s) (first : (w : World) → stands w → ArePlayed s w a st old mid p q) (k : es ≡ (a ++ b) ++ c) where
  pub plays_on : (result : Result (Option WorldFault) Stop) → Plays t b st su q r mid new result → (result ≡ Ok None → c ≡ [])
      → Plays s es stands su p r old new result
  plays_on (Ok None) d none =
      let all : es ≡ a ++ b = k ∙ (ap (λ (l : List Happening). (a ++ b) ++ l) (none refl) ∙ append-nil (a ++ b)) in
      plays_all (λ w h. then_played s t w a b st old mid new p q e (first w h) su r es all (d.played refl))
  plays_on (Ok (Some fault)) d none =
      plays_refused fault d.real (λ w h. then_refused s t w a b st old mid new p q e (first w h) c es fault k d.refused)
  plays_on (Err stop) d none = plays_cut (Err stop) stop refl (λ w h. then_cut s t w a b st old mid new p q e (first w h) c es (prints_all stop) k d.cut)
