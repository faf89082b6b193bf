-- A message that enters a list of chosen ones.
use Rattle.std.proofs.Common.{◌≡◌, ℕ, zero, suc, ◌+◌, ◌-◌, ◌<◌, ◌≤◌, arith, Bool, true, false, List, [], ◌∷◌, take, drop, get_or, length, refl, sym, ap, ◌∙◌}
use Rattle.std.proofs.Math.Seq.{drop-cons}
use Rattle.std.specs.Prelude.{◌==◌, ◌||◌, if◌then◌else◌, slice_get}
use Rattle.std.specs.List.{insert}
use Rattle.plain_sets.specs.Ordered.{is_below, not_of, ordered, firsts}
use Rattle.check_call.specs.Entered.{entered}
use Rattle.check_call.proofs.Entering.{chosen-more}
use Rattle.check_call.specs.declared.choice.Message.{Message}
use Rattle.check_call.specs.Choices.{sender_of, key_of, place_in, is_blocked}

-- those of other senders
abbrev others : Message → List Message → List Message
others m ws = not_of sender_of (sender_of m) ws

-- what becomes of a list that a message enters at a place, if it isn't blocked there
pub record Enters (m : Message) (ws : List Message) (n : ℕ) : Type 0 where
  pub stays : is_blocked m (slice_get ws n) ≡ true → ws ≡ entered sender_of key_of m ws
  pub changes : is_blocked m (slice_get ws n) ≡ false → insert (others m ws) n m ≡ entered sender_of key_of m ws
  pub inside : is_blocked m (slice_get ws n) ≡ false → n ≤ length (others m ws)

enters_behind : (m w : Message) (ws : List Message) (b c : Bool) → is_below (key_of m) (key_of w) ≡ b → (sender_of w == sender_of m) ≡ c
    → Enters m ws (place_in m ws) → Enters m (w ∷ ws) (if b || c then 0 else suc (place_in m ws))
enters_behind m w ws true c e f i =
    record {
      stays = λ h. let x : false ≡ true = rw e at h in absurd cc;
      changes = λ h. rw e refl;
      inside = λ h. omega arith;
    }
enters_behind m w ws false true e f i =
    record {
      stays = λ h. rw (e, f) refl;
      changes = λ h. let x : true ≡ false = rw e at h in absurd cc;
      inside = λ h. omega arith;
    }
enters_behind m w ws false false e f i =
    record {
      stays = λ h. rw (e, f) (ap (λ l. w ∷ l) (i.stays h));
      changes = λ h. rw (e, f) (ap (λ l. w ∷ l) (i.changes h));
      inside = λ h. rw f (omega (arith, i.inside h));
    }

pub enters_at : (m : Message) (ws : List Message) → Enters m ws (place_in m ws)
enters_at m [] = record { stays = λ h. absurd cc; changes = λ h. refl; inside = λ h. omega arith }
enters_at m (w ∷ ws) = enters_behind m w ws (is_below (key_of m) (key_of w)) (sender_of w == sender_of m) refl refl (enters_at m ws)

-- ---- all messages

-- of none
pub none_chosen : (k : ℕ) → [] ≡ take k (firsts sender_of (ordered key_of []))
unfolding ordered firsts
none_chosen zero = refl
none_chosen (suc k) = refl

pub drop_all : {A : Type 0} (xs : List A) (n : ℕ) → n ≡ length xs → drop n xs ≡ []
drop_all [] zero e = refl
drop_all [] (suc n) e = refl
drop_all (x ∷ xs) zero e = absurd (omega (arith, e))
drop_all (x ∷ xs) (suc n) e = drop_all xs n (omega (arith, e))

-- one message more, from the back
pub one_chosen : (k i : ℕ) (xs chosen with : List Message) (d : Message) → i < length xs
    → chosen ≡ take k (firsts sender_of (ordered key_of (drop (length xs - i) xs)))
    → with ≡ entered sender_of key_of (get_or xs (length xs - 1 - i) d) chosen
    → take k with ≡ take k (firsts sender_of (ordered key_of (drop (length xs - (i + 1)) xs)))
one_chosen k i xs chosen with d h c w =
    let n : ℕ = length xs - (i + 1) in
    let at : length xs - 1 - i ≡ n = omega arith in
    let behind : suc n ≡ length xs - i = omega (arith, h) in
    let all : drop n xs ≡ get_or xs n d ∷ drop (length xs - i) xs = drop-cons xs n d (omega (arith, h)) ∙ ap (λ (j : ℕ). get_or xs n d ∷ drop j xs) behind in
    ap (take k) (w ∙ ap (λ (j : ℕ). entered sender_of key_of (get_or xs j d) chosen) at ∙ ap (entered sender_of key_of (get_or xs n d)) c)
    ∙ (sym (chosen-more sender_of key_of k (get_or xs n d) (drop (length xs - i) xs)) ∙ ap (λ l. take k (firsts sender_of (ordered key_of l))) (sym all))
