-- What a sink took, where a text was put into one over it that holds lines back.
use Rattle.std.proofs.Common.{◌≡◌, ℕ, Option, None, Some, List, [], ◌++◌, refl, sym, ap, ◌∙◌, append_assoc, unwrap_or}
use Rattle.std.proofs.lemmas.List.{append_cancel_left}
use Rattle.homa_io.specs.Outside.{appended, TookFront, Grows}
use Rattle.homa_io.specs.Growing.{appended-appended, appended-nil}

front_by : (old new : Option (List ℕ)) (held more text : List ℕ) → new ≡ appended old more → appended new held ≡ appended old text → TookFront old new text
front_by None new held more text e f = ([], text, refl, e)
front_by (Some taken) new held more text e f =
    let whole : Some (taken ++ (more ++ held)) ≡ Some (taken ++ text) =
    ap Some (sym (append_assoc taken more held)) ∙ (ap (λ (o : Option (List ℕ)). appended o held) (sym e) ∙ f) in
    (more, held, append_cancel_left taken (more ++ held) text (ap (λ (o : Option (List ℕ)). unwrap_or o []) whole), e)

-- what it took is a front of the text
pub front_of : (old new : Option (List ℕ)) (held text : List ℕ) → Grows old new → appended new held ≡ appended old text → TookFront old new text
front_of old new held text g f = front_by old new held g.0 text g.1 f

-- and a front of each text that begins with a front of it, where nothing was held before
pub front_within : (old new : Option (List ℕ)) (before held x y all : List ℕ) → Grows old new → before ≡ []
    → TookFront (appended old before) (appended new held) x → x ++ y ≡ all → TookFront old new all
front_within old new before held x y all g none f same =
    let whole = f.3 ∙ ap (λ (b : List ℕ). appended (appended old b) f.0) none ∙ ap (λ (o : Option (List ℕ)). appended o f.0) (appended-nil old) in
    let front = front_of old new held f.0 g whole in (
      front.0,
      front.1 ++ (f.1 ++ y),
      sym (append_assoc front.0 front.1 (f.1 ++ y))
          ∙ (ap (λ (l : List ℕ). l ++ (f.1 ++ y)) front.2 ∙ (sym (append_assoc f.0 f.1 y) ∙ (ap (λ (l : List ℕ). l ++ y) f.2 ∙ same))),
      front.3,
    )

-- two texts that were put in one after the other
pub two_put : (old mid new : Option (List ℕ)) (x y : List ℕ) → mid ≡ appended old x → new ≡ appended mid y → new ≡ appended old (x ++ y)
two_put old mid new x y a b = b ∙ (ap (λ (o : Option (List ℕ)). appended o y) a ∙ appended-appended old x y)

-- a text that was put in, and a front of the next
pub front_after : (old mid new : Option (List ℕ)) (x y : List ℕ) → mid ≡ appended old x → TookFront mid new y → TookFront old new (x ++ y)
front_after old mid new x y a f = (x ++ f.0, f.1, append_assoc x f.0 f.1 ∙ ap (λ (l : List ℕ). x ++ l) f.2, two_put old mid new x f.0 a f.3)

-- what was put in where nothing was held before went out whole, where nothing is held behind it
pub went_out : (old mid new : Option (List ℕ)) (before held text : List ℕ) → before ≡ [] → appended mid held ≡ appended (appended old before) text
    → new ≡ appended mid held → new ≡ appended old text
went_out old mid new before held text none a b =
    b ∙ (a ∙ (ap (λ (l : List ℕ). appended (appended old l) text) none ∙ ap (λ (o : Option (List ℕ)). appended o text) (appended-nil old)))
