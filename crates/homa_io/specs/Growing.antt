-- Laws on what was taken, which the model of a sink that holds lines back cites.
use Rattle.std.proofs.Common.{◌≡◌, ℕ, Option, None, Some, List, [], ◌++◌, refl, sym, ap, ◌∙◌, append_assoc}
use Rattle.std.proofs.lemmas.List.{append-nil}
use Rattle.homa_io.specs.Outside.{appended, Grows}

-- two parts after one another are taken as one
pub appended-appended : (old : Option (List ℕ)) (a b : List ℕ) → appended (appended old a) b ≡ appended old (a ++ b)
appended-appended None a b = refl
appended-appended (Some taken) a b = ap Some (append_assoc taken a b)

-- no bytes change nothing
pub appended-nil : (taken : Option (List ℕ)) → appended taken [] ≡ taken
appended-nil None = refl
appended-nil (Some taken) = ap Some (append-nil taken)

-- what was taken has grown by nothing
pub grows_none : (taken : Option (List ℕ)) → Grows taken taken
grows_none taken = ([], sym (appended-nil taken))

-- what grows twice grows
pub grows_on : (a b c : Option (List ℕ)) → Grows a b → Grows b c → Grows a c
grows_on a b c f g = (f.0 ++ g.0, g.1 ∙ (ap (λ (o : Option (List ℕ)). appended o g.0) f.1 ∙ appended-appended a f.0 g.0))
