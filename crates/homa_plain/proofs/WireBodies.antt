-- The fields of each kind: what is read is spelled so, and what is spelled so is read again.
use Rattle.std.proofs.Common.{◌≡◌, ℕ, zero, suc, ◌^◌, ◌<◌, ◌≤◌, Bool, true, false, cond, eqb, ltb, List, [], ◌∷◌, ◌++◌, length, Option, Some, None}
use Rattle.std.proofs.Common.{refl, sym, ap, subst, ◌∙◌, arith}
use Rattle.std.specs.Prelude.{IfSome, ◌==◌, ◌&&◌}
use Rattle.std.specs.List.{AllByRecursion, flat_map}
use Rattle.std.specs.Int.{w16, w32, to_be_bytes}
use Rattle.std.proofs.lemmas.Bool.{eqb-true, and_parts, le-ltb}
use Rattle.std.proofs.lemmas.Option.{cond_some}
use Rattle.homa_plain.specs.declared.packet.Body.{Body}
use Rattle.homa_plain.specs.declared.packet.Body.TheVariants as body
use Rattle.homa_plain.specs.declared.packet.Cutoffs.{Cutoffs}
use Rattle.homa_plain.specs.Bytes.{IsBytes, byte_at, number_at, two, two_at, times}
use Rattle.homa_plain.specs.Wire.{kind, ack_bytes, body_bytes, ack_of, ack_at, data_at, grant_at, resend_at, cutoffs_at, unknown_at, more_at, calls_at, body_at}
use Rattle.homa_plain.proofs.WireFields.{IsBytes-rest, bind_some, given, some_is, Takes, Takes-then, wide16, wide32, number_takes, number_again}
use Rattle.homa_plain.proofs.WireFields.{reads_number, AreWide, reads_two, times_takes, times_again}

pub byte_takes : (bytes : List ℕ) (x : ℕ) (rest : List ℕ) → IsBytes bytes → byte_at bytes ≡ Some (x, rest) → Takes bytes (x ∷ []) rest
byte_takes [] x rest fits e = absurd cc
byte_takes (b ∷ bytes) x rest fits e =
    subst (λ (y : ℕ × List ℕ). Takes (b ∷ bytes) (y.0 ∷ []) y.1) (some_is (b, bytes) (x, rest) e)
    (record { parts = refl; rest_fits = IsBytes-rest b bytes fits })

-- ---- acknowledgements

no_call : (call : ℕ × ℕ) → (call.0 == 0 && call.1 == 0) ≡ true → 0 ∷ two call ≡ 0 ∷ two (0, 0)
no_call call h =
    let parts = and_parts (call.0 == 0) (call.1 == 0) h in
    let first : call.0 ≡ 0 = eqb-true call.0 0 parts.0 in
    let second : call.1 ≡ 0 = eqb-true call.1 0 parts.1 in
    ap (λ (n : ℕ). 0 ∷ two (n, call.1)) first ∙ ap (λ (n : ℕ). 0 ∷ two (0, n)) second

ack_of_is : (flag : ℕ) (call : ℕ × ℕ) (ack : Option (ℕ × ℕ)) → ack_of flag call ≡ Some ack → flag ∷ two call ≡ ack_bytes ack
ack_of_is zero call ack e =
    let g = cond_some (call.0 == 0 && call.1 == 0) None ack e in
    no_call call g.0 ∙ ap ack_bytes g.1
ack_of_is (suc zero) call ack e = ap ack_bytes (some_is (Some call) ack e)
ack_of_is (suc (suc n)) call ack e = absurd cc

ack_takes : (bytes : List ℕ) (ack : Option (ℕ × ℕ)) (rest : List ℕ) → IsBytes bytes → ack_at bytes ≡ Some (ack, rest) → Takes bytes (ack_bytes ack) rest
unfolding ack_at
ack_takes bytes ack rest fits e =
    let a = bind_some (byte_at bytes) _ (ack, rest) e in
    let b = bind_some (two_at a.0.1) _ (ack, rest) a.2 in
    let c = bind_some (ack_of a.0.0 b.0.0) _ (ack, rest) b.2 in
    let flag = byte_takes bytes a.0.0 a.0.1 fits a.1 in
    let call = reads_two.takes a.0.1 b.0.0 b.0.1 flag.rest_fits b.1 in
    let both = Takes-then bytes (a.0.0 ∷ []) a.0.1 (two b.0.0) b.0.1 flag call.0 in
    let named : Takes bytes (ack_bytes c.0) b.0.1 = subst (λ (t : List ℕ). Takes bytes t b.0.1) (ack_of_is a.0.0 b.0.0 c.0 c.1) both in
    subst (λ (y : Option (ℕ × ℕ) × List ℕ). Takes bytes (ack_bytes y.0) y.1) (some_is (c.0, b.0.1) (ack, rest) c.2) named

ack_again : (ack : Option (ℕ × ℕ)) (rest : List ℕ) → IfSome ack AreWide → ack_at (ack_bytes ack ++ rest) ≡ Some (ack, rest)
unfolding ack_at
ack_again None rest h = rw (reads_two.again (0, 0) rest (omega arith, omega arith)) refl
ack_again (Some call) rest h = rw (reads_two.again call rest h) refl

-- ---- kinds

-- the reader of a kind took the fields of a body of that kind
abbrev Took : ℕ → List ℕ → Body × List ℕ → Type 0
Took number bytes read = Takes bytes (body_bytes read.0) read.1 × (number ≡ kind read.0)

Took-by : (number k : ℕ) (bytes : List ℕ) (read : Body × List ℕ) → number ≡ k → Took k bytes read → Took number bytes read
Took-by number k bytes read n took = (took.0, n ∙ took.1)

-- what a reader made is what it answered
Took-made : (number : ℕ) (bytes : List ℕ) (what : Body) (rest : List ℕ) (read : Body × List ℕ) → Takes bytes (body_bytes what) rest
    → number ≡ kind what → given (what, rest) ≡ given read → Took number bytes read
Took-made number bytes what rest read takes same e = subst (Took number bytes) (some_is (what, rest) read e) (takes, same)

data_takes : (bytes : List ℕ) (read : Body × List ℕ) → IsBytes bytes → data_at bytes ≡ Some read → Took 1 bytes read
unfolding data_at
data_takes bytes read fits e =
    let a = bind_some (two_at bytes) _ read e in
    let b = bind_some (number_at w16 a.0.1) _ read a.2 in
    let c = bind_some (byte_at b.0.1) _ read b.2 in
    let d = bind_some (ack_at c.0.1) _ read c.2 in
    let range = reads_two.takes bytes a.0.0 a.0.1 fits a.1 in
    let version = number_takes w16 (2 ^ 16) wide16 a.0.1 b.0.0 b.0.1 range.0.rest_fits b.1 in
    let service = byte_takes b.0.1 c.0.0 c.0.1 version.0.rest_fits c.1 in
    let ack = ack_takes c.0.1 d.0.0 d.0.1 service.rest_fits d.1 in
    let last = Takes-then b.0.1 (c.0.0 ∷ []) c.0.1 (ack_bytes d.0.0) d.0.1 service ack in
    let most = Takes-then a.0.1 (to_be_bytes w16 b.0.0) b.0.1 (c.0.0 ∷ ack_bytes d.0.0) d.0.1 version.0 last in
    let all = Takes-then bytes (two a.0.0) a.0.1 (to_be_bytes w16 b.0.0 ++ c.0.0 ∷ ack_bytes d.0.0) d.0.1 range.0 most in
    Took-made 1 bytes (body.Data a.0.0.0 a.0.0.1 b.0.0 c.0.0 d.0.0) d.0.1 read all refl d.2

data_again : (size offset version service : ℕ) (ack : Option (ℕ × ℕ)) (rest : List ℕ) → size < 2 ^ 32 → offset < 2 ^ 32 → version < 2 ^ 16
    → IfSome ack AreWide → data_at (body_bytes (body.Data size offset version service ack) ++ rest) ≡ Some (body.Data size offset version service ack, rest)
unfolding data_at
data_again size offset version service ack rest h k m w =
    rw (
      reads_two.again (size, offset) (to_be_bytes w16 version ++ (service ∷ (ack_bytes ack ++ rest))) (h, k),
      number_again w16 (2 ^ 16) wide16 version (service ∷ (ack_bytes ack ++ rest)) m,
      ack_again ack rest w,
    ) refl

grant_takes : (bytes : List ℕ) (read : Body × List ℕ) → IsBytes bytes → grant_at bytes ≡ Some read → Took 2 bytes read
unfolding grant_at
grant_takes bytes read fits e =
    let a = bind_some (number_at w32 bytes) _ read e in
    let b = bind_some (byte_at a.0.1) _ read a.2 in
    let offset = number_takes w32 (2 ^ 32) wide32 bytes a.0.0 a.0.1 fits a.1 in
    let prio = byte_takes a.0.1 b.0.0 b.0.1 offset.0.rest_fits b.1 in
    let all = Takes-then bytes (to_be_bytes w32 a.0.0) a.0.1 (b.0.0 ∷ []) b.0.1 offset.0 prio in
    Took-made 2 bytes (body.Grant a.0.0 b.0.0) b.0.1 read all refl b.2

grant_again : (offset prio : ℕ) (rest : List ℕ) → offset < 2 ^ 32 → grant_at (body_bytes (body.Grant offset prio) ++ rest) ≡ Some (body.Grant offset prio, rest)
unfolding grant_at
grant_again offset prio rest h = rw (number_again w32 (2 ^ 32) wide32 offset (prio ∷ rest) h) refl

resend_takes : (bytes : List ℕ) (read : Body × List ℕ) → IsBytes bytes → resend_at bytes ≡ Some read → Took 3 bytes read
unfolding resend_at
resend_takes bytes read fits e =
    let a = bind_some (two_at bytes) _ read e in
    let b = bind_some (byte_at a.0.1) _ read a.2 in
    let range = reads_two.takes bytes a.0.0 a.0.1 fits a.1 in
    let prio = byte_takes a.0.1 b.0.0 b.0.1 range.0.rest_fits b.1 in
    let all = Takes-then bytes (two a.0.0) a.0.1 (b.0.0 ∷ []) b.0.1 range.0 prio in
    Took-made 3 bytes (body.Resend a.0.0.0 a.0.0.1 b.0.0) b.0.1 read all refl b.2

resend_again : (from to prio : ℕ) (rest : List ℕ) → from < 2 ^ 32 → to < 2 ^ 32
    → resend_at (body_bytes (body.Resend from to prio) ++ rest) ≡ Some (body.Resend from to prio, rest)
unfolding resend_at
resend_again from to prio rest h k = rw (reads_two.again (from, to) (prio ∷ rest) (h, k)) refl

cutoffs_take : (bytes : List ℕ) (read : Body × List ℕ) → IsBytes bytes → cutoffs_at bytes ≡ Some read → Took 5 bytes read
unfolding cutoffs_at
cutoffs_take bytes read fits e =
    let a = bind_some (number_at w16 bytes) _ read e in
    let b = bind_some (times (number_at w32) 8 a.0.1) _ read a.2 in
    let version = number_takes w16 (2 ^ 16) wide16 bytes a.0.0 a.0.1 fits a.1 in
    let upto = times_takes (number_at w32) (to_be_bytes w32) (λ n. n < 2 ^ 32) (reads_number w32 (2 ^ 32) wide32) 8 a.0.1 b.0.0 b.0.1 version.0.rest_fits b.1 in
    let all = Takes-then bytes (to_be_bytes w16 a.0.0) a.0.1 (flat_map (to_be_bytes w32) b.0.0) b.0.1 version.0 upto.0 in
    Took-made 5 bytes (body.Cutoffs (record { version = a.0.0; upto = b.0.0 })) b.0.1 read all refl b.2

cutoffs_again : (c : Cutoffs) (rest : List ℕ) → c.version < 2 ^ 16 → length c.upto ≡ 8 → AllByRecursion (λ n. n < 2 ^ 32) c.upto
    → cutoffs_at (body_bytes (body.Cutoffs c) ++ rest) ≡ Some (body.Cutoffs c, rest)
unfolding cutoffs_at
cutoffs_again c rest h len each =
    rw (
      number_again w16 (2 ^ 16) wide16 c.version (flat_map (to_be_bytes w32) c.upto ++ rest) h,
      times_again (number_at w32) (to_be_bytes w32) (λ n. n < 2 ^ 32) (reads_number w32 (2 ^ 32) wide32) 8 c.upto rest len each,
    ) refl

unknown_takes : (bytes : List ℕ) (read : Body × List ℕ) → IsBytes bytes → unknown_at bytes ≡ Some read → Took 6 bytes read
unfolding unknown_at
unknown_takes bytes read fits e =
    let a = bind_some (byte_at bytes) _ read e in
    Took-made 6 bytes (body.Unknown a.0.0) a.0.1 read (byte_takes bytes a.0.0 a.0.1 fits a.1) refl a.2

-- where a test was passed
passed : {A : Type 0} (b : Bool) (x : Option A) (y : A) → cond b None x ≡ Some y → (b ≡ false) × (x ≡ Some y)
passed true x y e = absurd cc
passed false x y e = (refl, e)

more_takes : (count : ℕ) (bytes : List ℕ) (more : List (ℕ × ℕ)) (rest : List ℕ) → IsBytes bytes → more_at count bytes ≡ Some (more, rest)
    → Takes bytes (flat_map two more) rest × (count ≡ suc (length more))
unfolding more_at
more_takes zero bytes more rest fits e = absurd cc
more_takes (suc n) bytes more rest fits e =
    let g = passed (ltb 4 n) (times two_at n bytes) (more, rest) e in
    let took = times_takes two_at two AreWide reads_two n bytes more rest fits g.1 in
    (took.0, ap suc (sym took.1))

calls_take : (bytes : List ℕ) (read : Body × List ℕ) → IsBytes bytes → calls_at bytes ≡ Some read → Took 8 bytes read
unfolding calls_at
calls_take bytes read fits e =
    let a = bind_some (byte_at bytes) _ read e in
    let b = bind_some (more_at a.0.0 a.0.1) _ read a.2 in
    let count = byte_takes bytes a.0.0 a.0.1 fits a.1 in
    let more = more_takes a.0.0 a.0.1 b.0.0 b.0.1 count.rest_fits b.1 in
    let both = Takes-then bytes (a.0.0 ∷ []) a.0.1 (flat_map two b.0.0) b.0.1 count more.0 in
    let all : Takes bytes (suc (length b.0.0) ∷ flat_map two b.0.0) b.0.1 = subst (λ (n : ℕ). Takes bytes (n ∷ flat_map two b.0.0) b.0.1) more.1 both in
    Took-made 8 bytes (body.Ack b.0.0) b.0.1 read all refl b.2

calls_again : (more : List (ℕ × ℕ)) (rest : List ℕ) → length more ≤ 4 → AllByRecursion AreWide more
    → calls_at (body_bytes (body.Ack more) ++ rest) ≡ Some (body.Ack more, rest)
unfolding calls_at more_at
calls_again more rest few each =
    rw (le-ltb 4 (length more) few, times_again two_at two AreWide reads_two (length more) more rest refl each) refl

-- ---- the kind's number

-- an if-chain over a number
pick : {A : Type 0} (number k : ℕ) (x y : Option A) (z : A) (Q : Type 0) → (number ≡ k → x ≡ Some z → Q) → (y ≡ Some z → Q)
    → cond (eqb number k) x y ≡ Some z → Q
pick {A} number k x y z Q f g e = by_test (eqb number k) (λ h. eqb-true number k h) e
  where
    by_test : (t : Bool) → (t ≡ true → number ≡ k) → cond t x y ≡ Some z → Q
    by_test true h e = f (h refl) e
    by_test false h e = g e

-- the fields that are read are those of a body of this kind
pub body_takes : (number : ℕ) (bytes : List ℕ) (read : Body × List ℕ) → IsBytes bytes → body_at number bytes ≡ Some read → Took number bytes read
unfolding body_at
body_takes number bytes read fits e =
    let Q = Took number bytes read in
    pick number 1 (data_at bytes) _ read Q (λ n h. Took-by number 1 bytes read n (data_takes bytes read fits h)) (λ e.
    pick number 2 (grant_at bytes) _ read Q (λ n h. Took-by number 2 bytes read n (grant_takes bytes read fits h)) (λ e.
    pick number 3 (resend_at bytes) _ read Q (λ n h. Took-by number 3 bytes read n (resend_takes bytes read fits h)) (λ e.
    pick number 4 (Some (body.Busy, bytes)) _ read Q
    (λ n h. Took-by number 4 bytes read n (Took-made 4 bytes body.Busy bytes read (record { parts = refl; rest_fits = fits }) refl h)) (λ e.
    pick number 5 (cutoffs_at bytes) _ read Q (λ n h. Took-by number 5 bytes read n (cutoffs_take bytes read fits h)) (λ e.
    pick number 6 (unknown_at bytes) _ read Q (λ n h. Took-by number 6 bytes read n (unknown_takes bytes read fits h)) (λ e.
    pick number 7 (Some (body.NeedAck, bytes)) _ read Q
    (λ n h. Took-by number 7 bytes read n (Took-made 7 bytes body.NeedAck bytes read (record { parts = refl; rest_fits = fits }) refl h)) (λ e.
    pick number 8 (calls_at bytes) None read Q (λ n h. Took-by number 8 bytes read n (calls_take bytes read fits h)) (λ e. absurd cc) e) e) e) e) e) e) e) e

-- a body whose numbers have room in their fields
abbrev pub HasRoom : Body → Type 0
HasRoom (body.Data size offset version service ack) = (size < 2 ^ 32) × (offset < 2 ^ 32) × (version < 2 ^ 16) × IfSome ack AreWide
HasRoom (body.Grant offset prio) = offset < 2 ^ 32
HasRoom (body.Resend from to prio) = (from < 2 ^ 32) × (to < 2 ^ 32)
HasRoom body.Busy = Unit {0}
HasRoom (body.Cutoffs c) = (c.version < 2 ^ 16) × (length c.upto ≡ 8) × AllByRecursion (λ n. n < 2 ^ 32) c.upto
HasRoom (body.Unknown reason) = Unit {0}
HasRoom body.NeedAck = Unit {0}
HasRoom (body.Ack more) = (length more ≤ 4) × AllByRecursion AreWide more

-- a body's fields are read again
pub body_again : (what : Body) (rest : List ℕ) → HasRoom what → body_at (kind what) (body_bytes what ++ rest) ≡ Some (what, rest)
unfolding body_at unknown_at
body_again (body.Data size offset version service ack) rest h = data_again size offset version service ack rest h.0 h.1 h.2 h.3
body_again (body.Grant offset prio) rest h = grant_again offset prio rest h
body_again (body.Resend from to prio) rest h = resend_again from to prio rest h.0 h.1
body_again body.Busy rest h = refl
body_again (body.Cutoffs c) rest h = cutoffs_again c rest h.0 h.1 h.2
body_again (body.Unknown reason) rest h = refl
body_again body.NeedAck rest h = refl
body_again (body.Ack more) rest h = calls_again more rest h.0 h.1
