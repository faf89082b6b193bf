-- A text that is written and held part by part.
use Rattle.std.proofs.Common.{◌≡◌, ℕ, Option, List, [], ◌++◌, arith, refl, sym, ap, ◌∙◌, append_assoc}
use Rattle.std.specs.Prelude.{Result, Ok, Err, IsErr}
use Rattle.std.proofs.lemmas.List.{append-nil}
use Rattle.homa_io.specs.Outside.{appended, TookFront}
use Rattle.homa_io.specs.Growing.{appended-nil}
use Rattle.homa_io.specs.Writing.{WriteEnds, IsWritten}
use Rattle.homa_io.proofs.Fronts.{two_put, front_after}
use Rattle.homa_io.proofs.Writing.{handed_on, ends_on}
use Rattle.written_lines.specs.Put.{IsPut, Puts}

-- nothing was written yet
put_start : (taken : Option (List ℕ)) (held : List ℕ) → IsPut taken taken held (held ++ [])
put_start taken held = record { written = []; taken = sym (appended-nil taken); text = sym (append-nil held) }

-- all was written
pub put_all : (a b c : Option (List ℕ)) (held x y : List ℕ) → b ≡ appended a x → c ≡ appended b y → held ≡ [] → IsPut a c held (x ++ y)
put_all a b c held x y first then none =
    record { written = x ++ y; taken = two_put a b c x y first then; text = ap (λ (zs : List ℕ). (x ++ y) ++ zs) none ∙ append-nil (x ++ y) }

-- what was held is written
put_whole : (a b c : Option (List ℕ)) (held x all : List ℕ) → IsPut a b held x → c ≡ appended b held → x ≡ all → c ≡ appended a all
put_whole a b c held x all so_far then same = two_put a b c so_far.written held so_far.taken then ∙ ap (λ (zs : List ℕ). appended a zs) (so_far.text ∙ same)

-- a part, and then the next
put_on : (a b c : Option (List ℕ)) (h k base x y all : List ℕ) → IsPut a b h (base ++ x) → IsPut b c k (h ++ y) → x ++ y ≡ all → IsPut a c k (base ++ all)
put_on a b c h k base x y all so_far next same = record {
  written = so_far.written ++ next.written;
  taken = two_put a b c so_far.written next.written so_far.taken next.taken;
  text =
      append_assoc so_far.written next.written k
      ∙ (ap (λ (zs : List ℕ). so_far.written ++ zs) next.text
      ∙ (sym (append_assoc so_far.written h y)
      ∙ (ap (λ (zs : List ℕ). zs ++ y) so_far.text
      ∙ (append_assoc base x y ∙ ap (λ (zs : List ℕ). base ++ zs) same))));
}

-- a front of a text is one of it and more
pub front_more : (a c : Option (List ℕ)) (x y all : List ℕ) → TookFront a c x → x ++ y ≡ all → TookFront a c all
front_more a c x y all f same = (f.0, f.1 ++ y, sym (append_assoc f.0 f.1 y) ∙ (ap (λ (zs : List ℕ). zs ++ y) f.2 ∙ same), f.3)

-- a part, and then a front of the next
put_front : (a b c : Option (List ℕ)) (h base x y rest all : List ℕ) → IsPut a b h (base ++ x) → TookFront b c (h ++ y)
    → x ++ (y ++ rest) ≡ all → TookFront a c (base ++ all)
put_front a b c h base x y rest all so_far f same =
    front_more a c (so_far.written ++ (h ++ y)) rest (base ++ all)
    (front_after a b c so_far.written (h ++ y) so_far.taken f)
    (ap (λ (zs : List ℕ). zs ++ rest) (sym (append_assoc so_far.written h y) ∙ (ap (λ (zs : List ℕ). zs ++ y) so_far.text ∙ append_assoc base x y))
    ∙ (append_assoc base (x ++ y) rest ∙ ap (λ (zs : List ℕ). base ++ zs) (append_assoc x y rest ∙ same)))

-- a front of what was held
put_front_held : (a b c : Option (List ℕ)) (h x all : List ℕ) → IsPut a b h x → TookFront b c h → x ≡ all → TookFront a c all
put_front_held a b c h x all so_far f same =
    front_more a c (so_far.written ++ h) [] all (front_after a b c so_far.written h so_far.taken f) (append-nil (so_far.written ++ h) ∙ (so_far.text ∙ same))

-- a part, and then a front of the last
put_front_last : (a b c : Option (List ℕ)) (h base x y all : List ℕ) → IsPut a b h (base ++ x) → TookFront b c (h ++ y)
    → x ++ y ≡ all → TookFront a c (base ++ all)
put_front_last a b c h base x y all so_far f same = put_front a b c h base x y [] all so_far f (ap (λ (zs : List ℕ). x ++ zs) (append-nil y) ∙ same)

-- and how the whole ends
module _ {K A E : Type 0} {taken : K → Option (List ℕ)} {faults : K → ℕ} {is_same : K → K → Type 0} where
  -- nothing is put
  pub none_put : {u : A} {a : K} {held : List ℕ} → is_same a a → Puts {E = E} taken faults is_same (Ok u) a a held (held ++ [])
  none_put {a} {held} same = record { ok = put_start (taken a) held; err = tt; risen = tt; quiet = refl; never_falls = omega arith; same = same }

  module _ (on : (a b c : K) → is_same a b → is_same b c → is_same a c) where
    -- a part was put, and then the next
    pub puts_on : {u : A} {r : Result A E} {a b c : K} {h k all : List ℕ} (base x y : List ℕ)
        → Puts {E = E} taken faults is_same (Ok u) a b h (base ++ x)
        → Puts taken faults is_same r b c k (h ++ y)
        → x ++ y ≡ all
        → Puts taken faults is_same r a c k (base ++ all)
    puts_on base x y first second same =
        ends_on on first second (λ put. put_on _ _ _ _ _ base x y _ first.ok put same) (λ front. put_front_last _ _ _ _ base x y _ first.ok front same)

    -- a part was put, and the next failed
    pub failed_on : {u : A} {e : E} {a b c : K} {h k all : List ℕ} {done : Type 0} (base x y rest : List ℕ) (r : Result A E)
        → IsErr r
        → Puts {E = E} taken faults is_same (Ok u) a b h (base ++ x)
        → Puts {A = A} taken faults is_same (Err e) b c k (h ++ y)
        → x ++ (y ++ rest) ≡ all
        → WriteEnds taken faults is_same r a c (base ++ all) done
    failed_on base x y rest r failed first second same =
        handed_on r failed (ends_on on first second (λ put. put) (λ front. put_front _ _ _ _ base x y rest _ first.ok front same)) (λ front. front)

    -- a text was put, and then what was held is written
    pub whole_on : {u : A} {r : Result A E} {a b c : K} {h x all : List ℕ}
        → Puts {E = E} taken faults is_same (Ok u) a b h x
        → IsWritten taken faults is_same r b c h
        → x ≡ all
        → IsWritten taken faults is_same r a c all
    whole_on first second same =
        ends_on on first second (λ whole. put_whole _ _ _ _ _ _ first.ok whole same) (λ front. put_front_held _ _ _ _ _ _ first.ok front same)
