-- What a sink took of texts one after another.
use Rattle.std.proofs.Common.{◌≡◌, ◌<◌, ℕ, ◌+◌, suc, Option, None, Some, List, [], ◌++◌, length, take, drop, get_or, refl, sym, ap, ◌∙◌, subst, append_assoc}
use Rattle.std.specs.List.{flat_map}
use Rattle.std.proofs.lemmas.List.{append-nil}
use Rattle.homa_io.specs.Outside.{appended, TookFront}
use Rattle.homa_io.proofs.Parts.{appended-appended}
use Rattle.written_lines.proofs.Texts.{flat_map-split, flat_map-more}

pub nothing_appended : (old : Option (List ℕ)) → old ≡ appended old []
nothing_appended None = refl
nothing_appended (Some xs) = ap Some (sym (append-nil xs))

pub wrote_more : (old mid new : Option (List ℕ)) (a b : List ℕ) → mid ≡ appended old a → new ≡ appended mid b → new ≡ appended old (a ++ b)
wrote_more old mid new a b e h = h ∙ (ap (λ (o : Option (List ℕ)). appended o b) e ∙ appended-appended old a b)

-- a front of the second text, behind the first
pub front_after : (old mid new : Option (List ℕ)) (x y : List ℕ) → mid ≡ appended old x → TookFront mid new y → TookFront old new (x ++ y)
front_after old mid new x y a f = (x ++ f.0, f.1, append_assoc x f.0 f.1 ∙ ap (λ (l : List ℕ). x ++ l) f.2, wrote_more old mid new x f.0 a f.3)

-- a front of the first text
pub front_wide : (old new : Option (List ℕ)) (x y : List ℕ) → TookFront old new x → TookFront old new (x ++ y)
front_wide old new x y f = (f.0, f.1 ++ y, sym (append_assoc f.0 f.1 y) ∙ ap (λ (l : List ℕ). l ++ y) f.2, f.3)

-- all of a text
pub front_whole : (old new : Option (List ℕ)) (x : List ℕ) → new ≡ appended old x → TookFront old new x
front_whole old new x e = (x, [], append-nil x, e)

-- nothing of a text
pub front_none : (old : Option (List ℕ)) (x : List ℕ) → TookFront old old x
front_none old x = ([], x, refl, nothing_appended old)

pub front_same : (old new : Option (List ℕ)) (x y : List ℕ) → x ≡ y → TookFront old new x → TookFront old new y
front_same old new x y e f = subst (λ (l : List ℕ). TookFront old new l) e f

-- one more of a list was taken
pub wrote_entry : {X : Type 0} (f : X → List ℕ) (xs : List X) (i : ℕ) (x : X) (text : List ℕ) (old mid new : Option (List ℕ)) → i < length xs
    → get_or xs i x ≡ x → text ≡ f x → mid ≡ appended old (flat_map f (take i xs)) → new ≡ appended mid text → new ≡ appended old (flat_map f (take (i + 1) xs))
wrote_entry {X} f xs i x text old mid new h is same e t =
    wrote_more old mid new (flat_map f (take i xs)) text e t
    ∙ (ap (λ (ys : List ℕ). appended old (flat_map f (take i xs) ++ ys)) (same ∙ ap f (sym is))
    ∙ ap (λ (ys : List ℕ). appended old ys) (flat_map-more f xs i x h))

-- a front of the next was taken
pub took_entry : {X : Type 0} (f : X → List ℕ) (xs : List X) (i : ℕ) (x : X) (text : List ℕ) (old mid new : Option (List ℕ)) → i < length xs
    → get_or xs i x ≡ x → text ≡ f x → mid ≡ appended old (flat_map f (take i xs)) → TookFront mid new text → TookFront old new (flat_map f xs)
took_entry {X} f xs i x text old mid new h is same e t =
    front_same old new ((flat_map f (take i xs) ++ f (get_or xs i x)) ++ flat_map f (drop (suc i) xs)) (flat_map f xs)
    (append_assoc (flat_map f (take i xs)) (f (get_or xs i x)) (flat_map f (drop (suc i) xs)) ∙ flat_map-split f xs i x h)
    (front_wide old new (flat_map f (take i xs) ++ f (get_or xs i x)) (flat_map f (drop (suc i) xs))
    (front_after old mid new (flat_map f (take i xs)) (f (get_or xs i x)) e (front_same mid new text (f (get_or xs i x)) (same ∙ ap f (sym is)) t)))
