-- Bytes that are moved in parts.
use Rattle.std.proofs.Common.{◌≡◌, ℕ, ◌+◌, Option, List, ◌++◌, length, take, drop, sym, ap, ◌∙◌}
use Rattle.std.proofs.lemmas.List.{take-append-drop, drop-drop}
use Rattle.std.proofs.Math.Seq.{take-append_seam, take-add}
use Rattle.homa_io.specs.Outside.{appended, TookFront}
pub use Rattle.homa_io.specs.Growing.{appended-appended}

-- bytes from the one at `at` on are those that were moved to the front of a buffer, and the rest
pub moved : (xs part tail : List ℕ) (at n : ℕ) → part ≡ take n (drop at xs) → length part ≡ n → drop at xs ≡ take n (part ++ tail) ++ drop (at + n) xs
moved xs part tail at n is_part is_long =
    let front = ap (λ (k : ℕ). take k (part ++ tail)) (sym is_long) ∙ (take-append_seam part tail ∙ is_part) in
    sym (rw front (rw (← drop-drop n at xs) (take-append-drop n (drop at xs))))

-- where `written` bytes were taken, and then n of the rest, so many more were
pub part_taken : (old mid new : Option (List ℕ)) (xs : List ℕ) (written n : ℕ) → mid ≡ appended old (take written xs)
    → new ≡ appended mid (take n (drop written xs)) → new ≡ appended old (take (written + n) xs)
part_taken old mid new xs written n before after =
    after ∙ (ap (λ (o : Option (List ℕ)). appended o (take n (drop written xs))) before
    ∙ (appended-appended old (take written xs) (take n (drop written xs)) ∙ ap (λ (ys : List ℕ). appended old ys) (sym (take-add written n xs))))

-- where `written` bytes were taken and then none, a front of all was
pub took_front : (old mid new : Option (List ℕ)) (xs : List ℕ) (written : ℕ) → mid ≡ appended old (take written xs) → new ≡ mid → TookFront old new xs
took_front old mid new xs written before after = (take written xs, drop written xs, take-append-drop written xs, after ∙ before)
