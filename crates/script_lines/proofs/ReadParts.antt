-- Reads one after another.
use Rattle.std.proofs.Common.{◌≡◌, ◌⊎◌, inl, inr, ℕ, Bool, true, false, Option, None, Some, List, [], ◌∷◌, ◌++◌, refl, sym, ap, ◌∙◌, subst, append_assoc}
use Rattle.std.specs.Prelude.{◌||◌}
use Rattle.homa_io.specs.Outside.{unread, IsAtEnd}
use Rattle.script_lines.specs.Read.{IsRead, IsCut}

some_same : (a b : List ℕ) → Some a ≡ Some b → a ≡ b
some_same a b e = cc

pub none_left : (a b : List ℕ) → a ++ b ≡ [] → (a ≡ []) × (b ≡ [])
none_left [] b e = (refl, e)
none_left (x ∷ a) b e = absurd cc

left_of : (bytes came : List ℕ) (left : Option (List ℕ)) → Some bytes ≡ unread came left → (rest : List ℕ) × (bytes ≡ came ++ rest) × (left ≡ Some rest)
left_of bytes came None e = absurd cc
left_of bytes came (Some rest) e = (rest, some_same bytes (came ++ rest) e, refl)

-- what is left of these bytes, where some came
pub some_left : (bytes came : List ℕ) (left left2 : Option (List ℕ)) → left ≡ Some bytes → left ≡ unread came left2 → (rest : List ℕ)
    × (bytes ≡ came ++ rest) × (left2 ≡ Some rest)
some_left bytes came left left2 e h = left_of bytes came left2 (sym e ∙ h)

pub at_end : (left : Option (List ℕ)) (rest : List ℕ) → left ≡ Some rest → IsAtEnd left → rest ≡ []
at_end left rest e h = let is : IsAtEnd (Some rest) = subst IsAtEnd e h in is

either_left : (a b : Bool) → a ≡ true → (a || b) ≡ true
either_left true b e = refl
either_left false b e = absurd cc

either_right : (a b : Bool) → b ≡ true → (a || b) ≡ true
either_right true b e = refl
either_right false b e = e

either_of : (a b : Bool) → (a || b) ≡ true → (a ≡ true) ⊎ (b ≡ true)
either_of true b e = inl refl
either_of false b e = inr e

nothing_of : (a b : Bool) (came rest : List ℕ) → (a ≡ true → came ++ rest ≡ []) → (b ≡ true → rest ≡ []) → (a ≡ true) ⊎ (b ≡ true) → rest ≡ []
nothing_of a b came rest f g (inl e) = (none_left came rest (f e)).1
nothing_of a b came rest f g (inr e) = g e

follows : (a b : Bool) (came rest more : List ℕ) → (a ≡ true → came ++ rest ≡ []) → ((a || b) ≡ true → more ≡ []) → a ≡ true → came ++ more ≡ []
follows a b came rest more f h e = ap (λ (xs : List ℕ). xs ++ more) (none_left came rest (f e)).0 ∙ h (either_left a b e)

module _ {A : Type 0} where
  -- nothing was read yet
  pub read_start : (bytes : List ℕ) (left : Option (List ℕ)) (due : List ℕ → A) → left ≡ Some bytes → IsRead bytes left due due
  read_start bytes left due e = record { came = []; rest = bytes; split = refl; has_left = e; ended = false; nothing = λ k. absurd cc; same = λ more k. refl }

  -- what was due is also this, for all that may follow
  pub read_to : (bytes : List ℕ) (left : Option (List ℕ)) (due now then : List ℕ → A) → IsRead bytes left due now → ((more : List ℕ) → now more ≡ then more)
      → IsRead bytes left due then
  read_to bytes left due now then d f = record {
    came = d.came;
    rest = d.rest;
    split = d.split;
    has_left = d.has_left;
    ended = d.ended;
    nothing = d.nothing;
    same = λ more k. d.same more k ∙ f more;
  }

  -- more was read
  pub read_on : (bytes : List ℕ) (left left2 : Option (List ℕ)) (due now then : List ℕ → A) → IsRead bytes left due now
      → ((rest : List ℕ) → left ≡ Some rest → IsRead rest left2 now then) → IsRead bytes left2 due then
  read_on bytes left left2 due now then d f =
      let e = f d.rest d.has_left in
      let none = λ (k : d.ended ≡ true). sym e.split ∙ d.nothing k in
      record {
        came = d.came ++ e.came;
        rest = e.rest;
        split = d.split ∙ (ap (λ (xs : List ℕ). d.came ++ xs) e.split ∙ sym (append_assoc d.came e.came e.rest));
        has_left = e.has_left;
        ended = d.ended || e.ended;
        nothing = λ k. nothing_of d.ended e.ended e.came e.rest none e.nothing (either_of d.ended e.ended k);
        same = λ more k. ap due (append_assoc d.came e.came more)
            ∙ (d.same (e.came ++ more) (follows d.ended e.ended e.came e.rest more none k) ∙ e.same more (λ h. k (either_right d.ended e.ended h)));
      }

  -- more was read, and then reading failed
  pub cut_on : (bytes : List ℕ) (left left2 : Option (List ℕ)) (due now : List ℕ → A) → IsRead bytes left due now
      → ((rest : List ℕ) → left ≡ Some rest → IsCut rest left2) → IsCut bytes left2
  cut_on bytes left left2 due now d f =
      let e = f d.rest d.has_left in
      record {
        came = d.came ++ e.came;
        rest = e.rest;
        split = d.split ∙ (ap (λ (xs : List ℕ). d.came ++ xs) e.split ∙ sym (append_assoc d.came e.came e.rest));
        has_left = e.has_left;
      }

  -- what was due of all the bytes is what is due of the rest
  pub read_whole : (bytes : List ℕ) (left : Option (List ℕ)) (due now : List ℕ → A) → (d : IsRead bytes left due now) → due bytes ≡ now d.rest
  read_whole bytes left due now d = ap due d.split ∙ d.same d.rest d.nothing

-- what is made of what was due
pub read_map : {A B : Type 0} (bytes : List ℕ) (left : Option (List ℕ)) (due now : List ℕ → A) (f : A → B) → IsRead bytes left due now
    → IsRead bytes left (λ more. f (due more)) (λ more. f (now more))
read_map bytes left due now f d = record {
  came = d.came;
  rest = d.rest;
  split = d.split;
  has_left = d.has_left;
  ended = d.ended;
  nothing = d.nothing;
  same = λ more k. ap f (d.same more k);
}
