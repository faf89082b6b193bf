-- Lists that grow at their ends, and what the entries of reports show.
use Rattle.std.proofs.Common.{◌≡◌, ◌≤◌, ◌+◌, ℕ, zero, suc, arith, Option, None, Some, List, [], ◌∷◌, ◌++◌, refl, sym, ap, ◌∙◌, subst, append_assoc}
use Rattle.std.specs.Prelude.{map, take, drop, length, slice_get}
use Rattle.std.proofs.lemmas.List.{append-nil, length-append}
use Rattle.homa_plain.specs.Entries.{PlainEntry, PlainRun}
use Rattle.homa_plain.specs.Answers.{shown}
use Rattle.node_io.specs.Net.{added}
use Rattle.homa_plain.specs.Bytes.{IsBytes}
use Rattle.homa_plain.specs.declared.id.HostId.{HostId}
use Rattle.node_runs.specs.Course.{Report, Tells, Turning, Datagram, Receive, IsReceived, AreReceived}
use Rattle.node_runs.specs.Texts.{entries, sent_number}
use Rattle.node_turns.specs.Told.{listed, Listed, ListedFront, numbers_of}

pub listed_none : {A : Type 0} (old : Option (List A)) → old ≡ listed old []
listed_none None = refl
listed_none (Some xs) = ap Some (sym (append-nil xs))

pub listed_listed : {A : Type 0} (old : Option (List A)) (xs ys : List A) → listed (listed old xs) ys ≡ listed old (xs ++ ys)
listed_listed None xs ys = refl
listed_listed (Some old) xs ys = ap Some (append_assoc old xs ys)

pub listed_more : {A : Type 0} (old mid new : Option (List A)) (xs ys : List A) → mid ≡ listed old xs → new ≡ listed mid ys → new ≡ listed old (xs ++ ys)
listed_more old mid new xs ys e h = h ∙ ap (λ o. listed o ys) e ∙ listed_listed old xs ys

pub added_is : {A : Type 0} (old : Option (List A)) (x : A) → added old x ≡ listed old (x ∷ [])
added_is None x = refl
added_is (Some xs) x = refl

pub entries_parts : (xs ys : List Report) → entries (xs ++ ys) ≡ entries xs ++ entries ys
entries_parts [] ys = refl
entries_parts (Tells e ∷ xs) ys = ap (λ es. e ∷ es) (entries_parts xs ys)
entries_parts (Turning id ∷ xs) ys = entries_parts xs ys

pub entries_tells : (es : List PlainEntry) → entries (map Tells es) ≡ es
entries_tells [] = refl
entries_tells (e ∷ es) = ap (λ xs. e ∷ xs) (entries_tells es)

shown_first : (e : PlainEntry) (a b : List PlainEntry) → shown (a ++ b) ≡ shown a ++ shown b → shown (e ∷ a ++ b) ≡ shown (e ∷ a) ++ shown b
shown_first (PlainRun host id service request response hold) a b same = ap (λ xs. record { bytes = response; hold = hold } ∷ xs) same
shown_first e a b same = same

pub shown_parts : (a b : List PlainEntry) → shown (a ++ b) ≡ shown a ++ shown b
shown_parts [] b = refl
shown_parts (e ∷ a) b = shown_first e a b (shown_parts a b)

some_is : {A : Type 0} (x y : A) → Some x ≡ Some y → x ≡ y
some_is x y e = cc

one_taken : {A B : Type 0} (f : A → B) (xs : List A) (i : ℕ) (x : A) → slice_get xs i ≡ Some x → map f (take (suc i) xs) ≡ map f (take i xs) ++ f x ∷ []
one_taken f [] i x e = cc
one_taken f (y ∷ xs) zero x e = ap (λ z. f z ∷ []) (some_is y x e)
one_taken f (y ∷ xs) (suc i) x e = ap (λ zs. f y ∷ zs) (one_taken f xs i x e)

-- one more of a list
pub taken_more : {A B : Type 0} (f : A → B) (xs : List A) (i : ℕ) (x : A) → slice_get xs i ≡ Some x → map f (take (i + 1) xs) ≡ map f (take i xs) ++ f x ∷ []
taken_more f xs i x e =
    let one : i + 1 ≡ suc i = omega (arith) in
    ap (λ n. map f (take n xs)) one ∙ one_taken f xs i x e

-- a list in two parts
pub parts_of : {A B : Type 0} (f : A → B) (xs : List A) (i : ℕ) → map f (take i xs) ++ map f (drop i xs) ≡ map f xs
parts_of f xs zero = refl
parts_of f [] (suc i) = refl
parts_of f (x ∷ xs) (suc i) = ap (λ ys. f x ∷ ys) (parts_of f xs i)

-- and around one of them
pub parts_around : {A B : Type 0} (f : A → B) (xs : List A) (i : ℕ) (x : A) → slice_get xs i ≡ Some x
    → map f (take i xs) ++ (f x ∷ map f (drop (suc i) xs)) ≡ map f xs
parts_around f [] i x e = cc
parts_around f (y ∷ xs) zero x e = ap (λ z. f z ∷ map f xs) (sym (some_is y x e))
parts_around f (y ∷ xs) (suc i) x e = ap (λ ys. f y ∷ ys) (parts_around f xs i x e)

-- all of a list
pub whole_of : {A B : Type 0} (f : A → B) (xs : List A) (i : ℕ) → length xs ≤ i → map f (take i xs) ≡ map f xs
whole_of f [] zero l = refl
whole_of f [] (suc i) l = refl
whole_of f (x ∷ xs) zero l = absurd (omega (arith, l))
whole_of f (x ∷ xs) (suc i) l = ap (λ ys. f x ∷ ys) (whole_of f xs i (omega (arith, l)))

-- a front was sent
pub front_sent : {A B : Type 0} (f : A → B) (xs : List A) (i : ℕ) (old mid new : Option (List B)) → mid ≡ listed old (map f (take i xs)) → new ≡ mid
    → ListedFront old new (map f xs)
front_sent f xs i old mid new e same = record { front = map f (take i xs); rest = map f (drop i xs); split = parts_of f xs i; is = same ∙ e }

-- one more was sent
pub sent_more : {A B : Type 0} (f : A → B) (xs : List A) (i : ℕ) (x : A) (old mid new : Option (List B)) → slice_get xs i ≡ Some x
    → mid ≡ listed old (map f (take i xs)) → new ≡ added mid (f x) → new ≡ listed old (map f (take (i + 1) xs))
sent_more f xs i x old mid new at e h =
    listed_more old mid new (map f (take i xs)) (f x ∷ []) e (h ∙ added_is mid (f x)) ∙ ap (listed old) (sym (taken_more f xs i x at))

-- all was sent
pub whole_listed : {A : Type 0} (old new : Option (List A)) (xs : List A) → new ≡ listed old xs → ListedFront old new xs
whole_listed old new xs e = record { front = xs; rest = []; split = append-nil xs; is = e }

-- what was received, and then more
pub received_more : (a b : List Receive) → AreReceived a → AreReceived b → AreReceived (a ++ b)
received_more [] b p q = q
received_more (r ∷ a) b p q = (p.0, received_more a b p.1 q)

-- a datagram that came, with its bytes in other words
pub received_one : (from : HostId) (y z : List ℕ) → y ≡ z → IsBytes y → length y ≤ 1500 → IsReceived (record { from = from; bytes = z })
received_one from y z e bytes few = subst (λ xs. IsReceived (record { from = from; bytes = xs })) e (record { bytes = bytes; few = few })

-- nothing was sent
pub front_none : {A : Type 0} (s0 s1 : Option (List A)) → s1 ≡ s0 → ListedFront s0 s1 []
front_none s0 s1 e = record { front = []; rest = []; split = refl; is = e ∙ listed_none s0 }

-- a front was sent behind what was sent before
pub front_listed : {A : Type 0} (s0 s1 s2 : Option (List A)) (x y : List A) → Listed s0 s1 x → ListedFront s1 s2 y → ListedFront s0 s2 (x ++ y)
front_listed s0 s1 s2 x y e f = record {
  front = x ++ f.front;
  rest = f.rest;
  split = append_assoc x f.front f.rest ∙ ap (λ ds. x ++ ds) f.split;
  is = listed_more s0 s1 s2 x f.front e f.is;
}

pub numbers_parts : (a b : List Report) → numbers_of (a ++ b) ≡ numbers_of a ++ numbers_of b
numbers_parts [] b = refl
numbers_parts (r ∷ a) b = ap (λ ns. sent_number r ++ ns) (numbers_parts a b) ∙ sym (append_assoc (sent_number r) (numbers_of a) (numbers_of b))

-- as many packets were told as datagrams were sent, and then more of both
pub numbers_more : (x y : List Datagram) (a b : List Report) → length x ≡ length (numbers_of a) → length y ≡ length (numbers_of b)
    → length (x ++ y) ≡ length (numbers_of (a ++ b))
numbers_more x y a b p q =
    length-append x y ∙ ap (λ m. m + length y) p ∙ ap (λ m. length (numbers_of a) + m) q
    ∙ sym (ap length (numbers_parts a b) ∙ length-append (numbers_of a) (numbers_of b))
