-- Calls at the places of their ids.
use Rattle.std.proofs.Common.{◌≡◌, ℕ, zero, suc, ◌+◌, ◌<◌, ◌≤◌, arith, Bool, true, false, ◌&&◌, cond, Some, None, List, [], ◌∷◌, ◌++◌, length, refl}
use Rattle.std.proofs.Common.{sym, ap, ◌∙◌, Decides, subst}
use Rattle.std.specs.Prelude.{if◌then◌else◌, ◌==◌, is_some, slice_get, slice_set, position}
use Rattle.std.specs.Option.{option_map}
use Rattle.std.specs.List.{position_from, AllByRecursion, IsDistinct}
use Rattle.std.proofs.lemmas.Iterator.Adapters.{position_from-zero}
use Rattle.std.proofs.lemmas.Map.Keys.{IsDistinct-head, IsDistinct-tail}
use Rattle.std.proofs.lemmas.Bool.{eqb-true, eq-eqb, true≢false}
use Rattle.homa_plain.specs.declared.id.CallId.{CallId}
use Rattle.homa_plain.specs.Calls.{is_call}
use Rattle.homa_plain.proofs.CallOrder.{calls_are}
use Rattle.check_call.specs.declared.call.Call.{Call}
use Rattle.check_lines.specs.Traces.{call_in, IsPlaceIn}
use Rattle.check_lines.specs.Changes.{call_or}

-- two tests of the same
pub same_tests : (a b : Bool) (P : Type 0) → Decides a P → Decides b P → a ≡ b
same_tests true true P f g = refl
same_tests true false P f g = absurd (true≢false (sym (g.1 (f.0 refl))))
same_tests false true P f g = absurd (true≢false (sym (f.1 (g.0 refl))))
same_tests false false P f g = refl

both : (a b : Bool) → (a && b) ≡ true → (a ≡ true) × (b ≡ true)
both true b h = (refl, h)
both false b h = absurd cc

fields : (a b : CallId) → Decides (a.client.0 == b.client.0 && (a.inc == b.inc && a.seq == b.seq)) (a ≡ b)
fields a b = (
  λ h.
      let p = both (a.client.0 == b.client.0) (a.inc == b.inc && a.seq == b.seq) h in
      let q = both (a.inc == b.inc) (a.seq == b.seq) p.1 in
      let x = eqb-true a.client.0 b.client.0 p.0 in
      let y = eqb-true a.inc b.inc q.0 in
      let z = eqb-true a.seq b.seq q.1 in
      λ i. record { client = record { 0 = x i }; inc = y i; seq = z i },
  λ e. subst (λ (c : CallId). (a.client.0 == c.client.0 && (a.inc == c.inc && a.seq == c.seq)) ≡ true) e
      (rw (eq-eqb a.client.0 a.client.0 refl, eq-eqb a.inc a.inc refl, eq-eqb a.seq a.seq refl) refl),
)

pub same_id : (a b : CallId) → (a.client.0 == b.client.0 && (a.inc == b.inc && a.seq == b.seq)) ≡ is_call a b
same_id a b = same_tests _ _ (a ≡ b) (fields a b) (calls_are a b)

-- ---- where an id stands

-- what a place that was found is
pub record IsFound (ks : List CallId) (cs : List Call) (q : CallId) (i m : ℕ) : Type 0 where
  pub n : ℕ
  pub at : m ≡ i + n
  pub place : n < length cs → IsPlaceIn ks cs q n
  pub beyond : length cs ≤ n → call_in ks cs q ≡ None

some_is : {A : Type 0} (x y : A) → Some x ≡ Some y → x ≡ y
some_is x y h = cc

found_step : (k : CallId) (ks : List CallId) (cs : List Call) (q : CallId) (i m : ℕ) (b : Bool) → is_call q k ≡ b
    → cond b (Some i) (position_from (is_call q) (i + 1) ks) ≡ Some m
    → ((ds : List Call) → position_from (is_call q) (i + 1) ks ≡ Some m → IsFound ks ds q (i + 1) m) → IsFound (k ∷ ks) cs q i m
found_step k ks [] q i m true e h rest = record { n = 0; at = sym (some_is i m h) ∙ omega arith; place = λ l. absurd (omega (arith, l)); beyond = λ l. refl }
found_step k ks (c ∷ cs) q i m true e h rest = record { n = 0; at = sym (some_is i m h) ∙ omega arith; place = λ l. e; beyond = λ l. absurd (omega (arith, l)) }
found_step k ks [] q i m false e h rest =
    let f = rest [] h in record { n = suc f.n; at = f.at ∙ omega arith; place = λ l. absurd (omega (arith, l)); beyond = λ l. refl }
found_step k ks (c ∷ cs) q i m false e h rest =
    let f = rest cs h in
    record {
      n = suc f.n;
      at = f.at ∙ omega arith;
      place = λ l. (e, f.place (omega (arith, l)));
      beyond = λ l. ap (λ b. cond b (Some c) (call_in ks cs q)) e ∙ f.beyond (omega (arith, l));
    }

found_from : (ks : List CallId) (cs : List Call) (q : CallId) (i m : ℕ) → position_from (is_call q) i ks ≡ Some m → IsFound ks cs q i m
found_from [] cs q i m h = absurd cc
found_from (k ∷ ks) cs q i m h = found_step k ks cs q i m (is_call q k) refl h (λ ds. found_from ks ds q (i + 1) m)

none_step : (k : CallId) (ks : List CallId) (c : Call) (cs : List Call) (q : CallId) (i : ℕ) (b : Bool) → is_call q k ≡ b
    → cond b (Some i) (position_from (is_call q) (i + 1) ks) ≡ None
    → (position_from (is_call q) (i + 1) ks ≡ None → call_in ks cs q ≡ None) → call_in (k ∷ ks) (c ∷ cs) q ≡ None
none_step k ks c cs q i true e h rest = absurd cc
none_step k ks c cs q i false e h rest = ap (λ b. cond b (Some c) (call_in ks cs q)) e ∙ rest h

none_from : (ks : List CallId) (cs : List Call) (q : CallId) (i : ℕ) → position_from (is_call q) i ks ≡ None → call_in ks cs q ≡ None
none_from [] cs q i h = refl
none_from (k ∷ ks) [] q i h = refl
none_from (k ∷ ks) (c ∷ cs) q i h = none_step k ks c cs q i (is_call q k) refl h (none_from ks cs q (i + 1))

-- the test may be written otherwise
pub place_found : (t : CallId → Bool) (ks : List CallId) (cs : List Call) (q : CallId) (m : ℕ) → ((k : CallId) → t k ≡ is_call q k)
    → position t ks ≡ Some m → IsFound ks cs q 0 m
place_found t ks cs q m same h =
    found_from ks cs q 0 m (sym (position_from-zero (is_call q) ks) ∙ (sym (ap (λ (f : CallId → Bool). position f ks) (λ i k. same k i)) ∙ h))

pub place_none : (t : CallId → Bool) (ks : List CallId) (cs : List Call) (q : CallId) → ((k : CallId) → t k ≡ is_call q k) → position t ks ≡ None
    → call_in ks cs q ≡ None
place_none t ks cs q same h =
    none_from ks cs q 0 (sym (position_from-zero (is_call q) ks) ∙ (sym (ap (λ (f : CallId → Bool). position f ks) (λ i k. same k i)) ∙ h))

-- ---- an id that stands at a known place

other_side : (a b : CallId) → is_call a b ≡ false → is_call b a ≡ false
other_side a b h =
    elim (is_call b a) as (λ x. is_call b a ≡ x → is_call b a ≡ false)
    [ true ↦ λ t. absurd (true≢false (sym ((calls_are a b).1 (sym ((calls_are b a).0 t))) ∙ h)) | false ↦ λ t. t ] refl

one_of_all : {A : Type 0} (P : A → Type 0) (xs : List A) (n : ℕ) (x : A) → AllByRecursion P xs → slice_get xs n ≡ Some x → P x
one_of_all P [] n x all h = absurd cc
one_of_all P (y ∷ ys) zero x all h = subst P (some_is y x h) all.0
one_of_all P (y ∷ ys) (suc n) x all h = one_of_all P ys n x all.1 h

known_from : (t : CallId → CallId → Bool) (ks : List CallId) (q k : CallId) (n i : ℕ) → ((a b : CallId) → t a b ≡ is_call a b) → IsDistinct t ks
    → slice_get ks n ≡ Some k → is_call q k ≡ true → position_from (is_call q) i ks ≡ Some (i + n)
known_from t [] q k n i same apart h e = absurd cc
known_from t (x ∷ ks) q k zero i same apart h e =
    ap (λ b. cond b (Some i) (position_from (is_call q) (i + 1) ks)) (ap (is_call q) (some_is x k h) ∙ e) ∙ ap (λ m. Some m) (omega arith)
known_from t (x ∷ ks) q k (suc n) i same apart h e =
    let first : is_call x k ≡ false = sym (same x k) ∙ one_of_all (λ y. t x y ≡ false) ks n k (IsDistinct-head t x ks apart) h in
    let own : is_call q x ≡ false = ap (λ (c : CallId). is_call c x) ((calls_are q k).0 e) ∙ other_side x k first in
    ap (λ b. cond b (Some i) (position_from (is_call q) (i + 1) ks)) own
    ∙ (known_from t ks q k n (i + 1) same (IsDistinct-tail t x ks apart) h e ∙ ap (λ m. Some m) (omega arith))

-- of ids that differ
pub place_known : (t : CallId → CallId → Bool) (ks : List CallId) (q k : CallId) (n : ℕ) → ((a b : CallId) → t a b ≡ is_call a b) → IsDistinct t ks
    → slice_get ks n ≡ Some k → is_call q k ≡ true → position (is_call q) ks ≡ Some n
place_known t ks q k n same apart h e = position_from-zero (is_call q) ks ∙ (known_from t ks q k n 0 same apart h e ∙ ap (λ m. Some m) (omega arith))

-- the test may be written otherwise
pub place_by : (t : CallId → Bool) (ks : List CallId) (q : CallId) → ((k : CallId) → t k ≡ is_call q k) → position t ks ≡ position (is_call q) ks
place_by t ks q same = ap (λ (f : CallId → Bool). position f ks) (λ i k. same k i)

-- ---- what stands there

pub call_at_place : (ks : List CallId) (cs : List Call) (q : CallId) (n : ℕ) → IsPlaceIn ks cs q n → call_in ks cs q ≡ slice_get cs n
call_at_place [] cs q n h = absurd h
call_at_place (k ∷ ks) [] q n h = absurd h
call_at_place (k ∷ ks) (c ∷ cs) q zero h = ap (λ b. cond b (Some c) (call_in ks cs q)) h
call_at_place (k ∷ ks) (c ∷ cs) q (suc n) h = ap (λ b. cond b (Some c) (call_in ks cs q)) h.0 ∙ call_at_place ks cs q n h.1

pub place_within : (ks : List CallId) (cs : List Call) (q : CallId) (n : ℕ) → IsPlaceIn ks cs q n → n < length cs
place_within [] cs q n h = absurd h
place_within (k ∷ ks) [] q n h = absurd h
place_within (k ∷ ks) (c ∷ cs) q zero h = omega arith
place_within (k ∷ ks) (c ∷ cs) q (suc n) h = omega (arith, place_within ks cs q n h.1)

-- a place keeps its id when calls change
pub place_stays : (ks : List CallId) (cs : List Call) (q : CallId) (n m : ℕ) (d : Call) → IsPlaceIn ks cs q n → IsPlaceIn ks (slice_set cs m d) q n
place_stays [] cs q n m d h = absurd h
place_stays (k ∷ ks) [] q n m d h = absurd h
place_stays (k ∷ ks) (c ∷ cs) q zero zero d h = h
place_stays (k ∷ ks) (c ∷ cs) q zero (suc m) d h = h
place_stays (k ∷ ks) (c ∷ cs) q (suc n) zero d h = h
place_stays (k ∷ ks) (c ∷ cs) q (suc n) (suc m) d h = (h.0, place_stays ks cs q n m d h.1)

other_id : (id q k : CallId) → is_call id k ≡ false → is_call q k ≡ true → is_call id q ≡ false
other_id id q k h e = subst (λ (x : CallId). is_call id x ≡ false) (sym ((calls_are q k).0 e)) h

own_id : (id q k : CallId) → is_call id k ≡ true → is_call q k ≡ is_call id q
own_id id q k h =
    let is = (calls_are id k).0 h in
    same_tests _ _ (q ≡ k) (calls_are q k) (λ e. sym ((calls_are id q).0 e) ∙ is, λ e. (calls_are id q).1 (is ∙ sym e))

-- one call is replaced
pub call_replaced : (ks : List CallId) (cs : List Call) (id : CallId) (n : ℕ) (d : Call) (q : CallId) → IsPlaceIn ks cs id n
    → call_in ks (slice_set cs n d) q ≡ (if is_call id q then Some d else call_in ks cs q)
call_replaced [] cs id n d q h = absurd h
call_replaced (k ∷ ks) [] id n d q h = absurd h
call_replaced (k ∷ ks) (c ∷ cs) id zero d q h =
    elim (is_call q k) as (λ b. is_call q k ≡ b → cond b (Some d) (call_in ks cs q) ≡ cond (is_call id q) (Some d) (cond b (Some c) (call_in ks cs q))) [
      | true ↦ λ e. sym (ap (λ b. cond b (Some d) (Some c)) (sym (own_id id q k h) ∙ e))
      | false ↦
          λ e. sym (ap (λ b. cond b (Some d) (call_in ks cs q)) (sym (own_id id q k h) ∙ e))
    ] refl
call_replaced (k ∷ ks) (c ∷ cs) id (suc n) d q h =
    elim (is_call q k) as
    (λ b. is_call q k ≡ b → cond b (Some c) (call_in ks (slice_set cs n d) q) ≡ cond (is_call id q) (Some d) (cond b (Some c) (call_in ks cs q)))
    [ true ↦ λ e. sym (ap (λ b. cond b (Some d) (Some c)) (other_id id q k h.0 e)) | false ↦ λ e. call_replaced ks cs id n d q h.1 ] refl

-- .. as a change of what stood there
pub call_changed : (ks : List CallId) (cs : List Call) (id : CallId) (n : ℕ) (c : Call) (change : Call → Call) (q : CallId) → IsPlaceIn ks cs id n
    → slice_get cs n ≡ Some c
    → call_in ks (slice_set cs n (change c)) q ≡ call_or id change (call_in ks cs) q
call_changed ks cs id n c change q h e =
    call_replaced ks cs id n (change c) q h
    ∙ elim (is_call id q) as
    (λ b. is_call id q ≡ b → cond b (Some (change c)) (call_in ks cs q) ≡ cond b (option_map change (call_in ks cs q)) (call_in ks cs q))
    [ true ↦ λ t. sym (ap (option_map change) (ap (call_in ks cs) (sym ((calls_are id q).0 t)) ∙ (call_at_place ks cs id n h ∙ e))) | false ↦ λ t. refl ] refl

added_step : (k : CallId) (ks : List CallId) (c : Call) (cs : List Call) (id : CallId) (d : Call) (q : CallId) (b : Bool) → is_call id k ≡ b
    → cond b (Some c) (call_in ks cs id) ≡ None
    → (call_in ks cs id ≡ None → call_in (ks ++ id ∷ []) (cs ++ d ∷ []) q ≡ (if is_call id q then Some d else call_in ks cs q))
    → call_in ((k ∷ ks) ++ id ∷ []) ((c ∷ cs) ++ d ∷ []) q ≡ (if is_call id q then Some d else call_in (k ∷ ks) (c ∷ cs) q)
added_step k ks c cs id d q true e h rest = absurd cc
added_step k ks c cs id d q false e h rest =
    elim (is_call q k) as
    (λ b. is_call q k ≡ b → cond b (Some c) (call_in (ks ++ id ∷ []) (cs ++ d ∷ []) q) ≡ cond (is_call id q) (Some d) (cond b (Some c) (call_in ks cs q)))
    [ true ↦ λ t. sym (ap (λ b. cond b (Some d) (Some c)) (other_id id q k e t)) | false ↦ λ t. rest h ] refl

-- a call is added behind the others
pub call_added : (ks : List CallId) (cs : List Call) (id : CallId) (d : Call) (q : CallId) → length ks ≡ length cs → call_in ks cs id ≡ None
    → call_in (ks ++ id ∷ []) (cs ++ d ∷ []) q ≡ (if is_call id q then Some d else call_in ks cs q)
call_added [] [] id d q l h = ap (λ b. cond b (Some d) None) (own_id id q id ((calls_are id id).1 refl))
call_added [] (c ∷ cs) id d q l h = absurd (omega (arith, l))
call_added (k ∷ ks) [] id d q l h = absurd (omega (arith, l))
call_added (k ∷ ks) (c ∷ cs) id d q l h = added_step k ks c cs id d q (is_call id k) refl h (call_added ks cs id d q (omega (arith, l)))

-- there is a call at a place
pub some_call : (ks : List CallId) (cs : List Call) (q : CallId) (n : ℕ) → IsPlaceIn ks cs q n → is_some (call_in ks cs q) ≡ true
some_call [] cs q n h = absurd h
some_call (k ∷ ks) [] q n h = absurd h
some_call (k ∷ ks) (c ∷ cs) q zero h = ap (λ b. is_some (cond b (Some c) (call_in ks cs q))) h
some_call (k ∷ ks) (c ∷ cs) q (suc n) h = ap (λ b. is_some (cond b (Some c) (call_in ks cs q))) h.0 ∙ some_call ks cs q n h.1
