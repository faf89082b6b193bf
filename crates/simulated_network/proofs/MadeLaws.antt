-- What stays when a call is replaced, or one more is made.
use Rattle.std.proofs.Common.{◌≡◌, ℕ, ◌<◌, ◌≤◌, List, [], ◌∷◌, ◌++◌, length, sym, ap, ◌∙◌, get_or, inl, inr}
use Rattle.std.specs.Prelude.{Option, Some, slice_get, slice_set, unwrap_or}
use Rattle.std.proofs.Math.Seq.{map-set_same}
use Rattle.std.proofs.lemmas.List.{get_or_past, map-append}
use Rattle.std.proofs.lemmas.Option.{slice_get-get_or, slice_get_cases}
use Rattle.call_figures.specs.declared.calls.SimCall.{SimCall}
use Rattle.simulated_network.specs.Runs.{made_of, all_made}

-- a call that is replaced by one that was made as it was: all were made as before
pub changed_alike : (cs : List SimCall) (i : ℕ) (c : SimCall) → ((d : SimCall) → slice_get cs i ≡ Some d → made_of c ≡ made_of d)
    → all_made (slice_set cs i c) ≡ all_made cs
changed_alike cs i c alike =
    map-set_same made_of cs i c c (elim (slice_get_cases cs i).1 as (λ _. made_of c ≡ made_of (get_or cs i c)) [
      | inl found ↦ alike (get_or cs i c) (slice_get-get_or cs i c found.1)
      | inr past ↦ ap made_of (sym (get_or_past cs i c past.0))
    ])

-- the call at a place is replaced by one that was made as it was
pub changed_at : (cs : List SimCall) (i : ℕ) (c e : SimCall) → slice_get cs i ≡ Some e → made_of c ≡ made_of e
    → all_made (slice_set cs i c) ≡ all_made cs
changed_at cs i c e is made =
    changed_alike cs i c (λ d at. made ∙ ap (λ (o : Option SimCall). made_of (unwrap_or o e)) (sym is ∙ at))

-- one call more was made
pub made_behind : (cs : List SimCall) (c : SimCall) → all_made (cs ++ c ∷ []) ≡ all_made cs ++ made_of c ∷ []
made_behind cs c = map-append made_of cs (c ∷ [])
