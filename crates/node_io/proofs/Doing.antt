-- What was sent and given among the things that a net did.
use Rattle.std.proofs.Common.{◌≡◌, List, [], ◌∷◌, ◌++◌, refl, ap, ◌∙◌}
use Rattle.std.proofs.lemmas.List.{append-nil}
use Rattle.node_runs.specs.Acts.{Act, Sent, Received, sents, gives}

pub sents_more : (a b : List Act) → sents (a ++ b) ≡ sents a ++ sents b
sents_more [] b = refl
sents_more (Sent d ∷ a) b = ap (λ ds. d ∷ ds) (sents_more a b)
sents_more (act ∷ a) b = sents_more a b

pub gives_more : (a b : List Act) → gives (a ++ b) ≡ gives a ++ gives b
gives_more [] b = refl
gives_more (Received r ∷ a) b = ap (λ rs. r ∷ rs) (gives_more a b)
gives_more (act ∷ a) b = gives_more a b

-- nothing was sent, and nothing given
pub same_sents : (a b new : List Act) → new ≡ a ++ b → sents b ≡ [] → sents new ≡ sents a
same_sents a b new e none = ap sents e ∙ sents_more a b ∙ ap (λ xs. sents a ++ xs) none ∙ append-nil (sents a)

pub same_gives : (a b new : List Act) → new ≡ a ++ b → gives b ≡ [] → gives new ≡ gives a
same_gives a b new e none = ap gives e ∙ gives_more a b ∙ ap (λ xs. gives a ++ xs) none ∙ append-nil (gives a)
