-- What went out of what is held.
use Rattle.std.proofs.Common.{◌≡◌, ℕ, Option, List, [], ◌++◌, take, drop, sym, ap, ◌∙◌}
use Rattle.std.proofs.lemmas.List.{take-append-drop}
use Rattle.homa_io.specs.Outside.{appended, Grows}
use Rattle.homa_io.specs.Growing.{appended-appended, appended-nil, grows_on}

module _ (old mid new : Option (List ℕ)) (before held part rest : List ℕ) (n : ℕ) where
  -- where n bytes more of what is held went out, they are still whole with the rest
  pub part_went_out : part ≡ held → rest ≡ drop n held → appended mid held ≡ appended old before → new ≡ appended mid (take n part)
      → appended new rest ≡ appended old before
  part_went_out same is_rest whole took =
      ap (λ (o : Option (List ℕ)). appended o rest) (took ∙ ap (λ (xs : List ℕ). appended mid (take n xs)) same)
      ∙ (appended-appended mid (take n held) rest
      ∙ (ap (λ (xs : List ℕ). appended mid (take n held ++ xs)) is_rest
      ∙ (ap (λ (xs : List ℕ). appended mid xs) (take-append-drop n held) ∙ whole)))

  -- and what was taken has grown by them
  pub grew : Grows old mid → new ≡ appended mid (take n part) → Grows old new
  grew grows took = grows_on old mid new grows (take n part, took)

-- where nothing is held, all went out
pub all_went_out : (old new : Option (List ℕ)) (before held : List ℕ) → held ≡ [] → appended new held ≡ appended old before → new ≡ appended old before
all_went_out old new before held none whole = sym (ap (λ (xs : List ℕ). appended new xs) none ∙ appended-nil new) ∙ whole
