-- Bytes that are taken one after another.
use Rattle.std.proofs.Common.{◌≡◌, ◌<◌, ◌≤◌, ℕ, ◌+◌, ◌-◌, arith, Option, None, Some, List, [], ◌∷◌, ◌++◌, length, take, drop, refl, sym, ap, ◌∙◌, append_assoc}
use Rattle.std.proofs.lemmas.List.{append-nil, take-append-drop, length-take, length-drop, drop-take, drop-drop}
use Rattle.homa_io.specs.Outside.{unread}
use Rattle.text_lines.specs.Rest.{Rest, Takes}

-- two parts were left before the first, and then before the second
pub unread-append : (a b : List ℕ) (left : Option (List ℕ)) → unread (a ++ b) left ≡ unread a (unread b left)
unread-append a b None = refl
unread-append a b (Some xs) = ap Some (append_assoc a b xs)

pub unread-nil : (left : Option (List ℕ)) → unread [] left ≡ left
unread-nil None = refl
unread-nil (Some xs) = refl

-- nothing was taken
pub takes_none : (pending : List ℕ) (old new : Option (List ℕ)) → new ≡ old
    → Takes (record { pending = pending; left = old }) (record { pending = pending; left = new }) []
takes_none pending old new same = record { came = []; source = sym (unread-nil new ∙ same); bytes = append-nil pending }

-- some bytes, and then more
pub takes_on : (old mid new : Rest) (xs ys : List ℕ) → Takes old mid xs → Takes mid new ys → Takes old new (xs ++ ys)
takes_on old mid new xs ys first then = record {
  came = first.came ++ then.came;
  source = first.source ∙ (ap (λ (o : Option (List ℕ)). unread first.came o) then.source ∙ sym (unread-append first.came then.came new.left));
  bytes =
      sym (append_assoc old.pending first.came then.came)
      ∙ (ap (λ (zs : List ℕ). zs ++ then.came) first.bytes
      ∙ (append_assoc xs mid.pending then.came
      ∙ (ap (λ (zs : List ℕ). xs ++ zs) then.bytes ∙ sym (append_assoc xs ys new.pending))));
}

-- the first n pending bytes are taken
pub takes_front : (pending : List ℕ) (n : ℕ) (left : Option (List ℕ))
    → Takes (record { pending = pending; left = left }) (record { pending = drop n pending; left = left }) (take n pending)
takes_front pending n left = record { came = []; source = sym (unread-nil left); bytes = append-nil pending ∙ sym (take-append-drop n pending) }

-- this byte is pending, and is taken
pub takes_behind : (pending : List ℕ) (b : ℕ) (more : List ℕ) (left : Option (List ℕ)) → pending ≡ b ∷ more
    → Takes (record { pending = pending; left = left }) (record { pending = more; left = left }) (b ∷ [])
takes_behind pending b more left is = record { came = []; source = sym (unread-nil left); bytes = append-nil pending ∙ is }

-- the first pending byte is taken
pub takes_first : (pending : List ℕ) (left : Option (List ℕ)) → 0 < length pending
    → (b : ℕ) × Takes (record { pending = pending; left = left }) (record { pending = drop 1 pending; left = left }) (b ∷ [])
takes_first [] left some = absurd (omega arith)
takes_first (b ∷ more) left some = (b, takes_behind (b ∷ more) b more left refl)

-- bytes came, where none was pending
pub takes_came : (old now : Option (List ℕ)) (pending came : List ℕ) → pending ≡ [] → old ≡ unread came now
    → Takes (record { pending = pending; left = old }) (record { pending = came; left = now }) []
takes_came old now pending came none is = record { came = came; source = is; bytes = ap (λ (xs : List ℕ). xs ++ came) none }

-- the first n bytes of a part are taken off it
pub part_rest : (buf : List ℕ) (start end n : ℕ) → n ≤ length (take (end - start) (drop start buf))
    → take (end - (start + n)) (drop (start + n) buf) ≡ drop n (take (end - start) (drop start buf))
part_rest buf start end n within =
    let rest = end - (start + n) in
    let sum : n + rest ≡ end - start = omega (arith, length-take (end - start) (drop start buf)) in
    sym
    (ap (λ (k : ℕ). drop n (take k (drop start buf))) (sym sum)
    ∙ (drop-take n rest (drop start buf) ∙ ap (λ (xs : List ℕ). take rest xs) (drop-drop n start buf)))

-- where a part ends at its start there is no byte in it, and otherwise some
pub no_pending : (buf : List ℕ) (start end : ℕ) → end ≤ start → take (end - start) (drop start buf) ≡ []
no_pending buf start end past =
    let none : end - start ≡ 0 = omega (arith, past) in
    ap (λ (k : ℕ). take k (drop start buf)) none

pub some_pending : (buf : List ℕ) (start end : ℕ) → start < end → end ≤ length buf → take (end - start) (drop start buf) ≡ [] → ⊥
some_pending buf start end some within none =
    let empty : length (take (end - start) (drop start buf)) ≡ 0 = ap length none in
    omega (arith, some, within, empty, length-take (end - start) (drop start buf), length-drop start buf)

-- a read failed, where no byte was pending
pub takes_failed : (p q : List ℕ) (old new : Option (List ℕ)) → p ≡ [] → q ≡ [] → new ≡ old
    → Takes (record { pending = p; left = old }) (record { pending = q; left = new }) []
takes_failed p q old new before after same = record {
  came = [];
  source = sym (unread-nil new ∙ same);
  bytes = append-nil p ∙ (before ∙ sym after);
}
