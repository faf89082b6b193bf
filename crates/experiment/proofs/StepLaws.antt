-- The steps of a table.
use Rattle.std.proofs.Common.{◌≡◌, refl, ℕ, zero, suc, ◌+◌, ◌-◌, ◌*◌, ◌/◌, ◌^◌, ◌<◌, ◌≤◌, inl, inr, true, ◌&&◌}
use Rattle.std.proofs.Common.{nat_lt, nat_le, List, [], ◌∷◌, ◌++◌, length, get_or, take, drop, arith, All}
use Rattle.std.proofs.lemmas.Bool.{cases_lt, and_parts, and_from, ltb-true, leb-true, le-leb, lt-ltb}
use Rattle.std.proofs.lemmas.List.Elements.{All-nil, All-cons, All-weaker, All-get_or}
use Rattle.std.proofs.lemmas.Grind.{common_steps}
use Rattle.std.proofs.Math.Nat.{mul-le-mul_right, le_of_mul-le-mul_right, div-le_of_le-mul}
use Rattle.std.proofs.lemmas.List.Sums.{sum_by-cons, sum_by-le, sum_by-drop_more, sum_by_more_le}
use Rattle.experiment.specs.declared.steps.Step.{Step}
use Rattle.experiment.specs.Tables.{is_step, rises, is_table, last_upto, shares}

-- what a step is
pub record IsStep (low : ℕ) (s : Step) : Type 0 where
  pub from : low ≤ s.above
  pub rises : s.above < s.upto
  pub most : s.upto ≤ 1000000
  pub some : 0 < s.share
  pub share_most : s.share ≤ 1000000

pub step_is : (low : ℕ) (s : Step) → is_step low s ≡ true → IsStep low s
step_is low s e =
    let p5 = and_parts (nat_le low s.above && nat_lt s.above s.upto && nat_le s.upto 1000000 && nat_lt 0 s.share) (nat_le s.share 1000000) e in
    let p4 = and_parts (nat_le low s.above && nat_lt s.above s.upto && nat_le s.upto 1000000) (nat_lt 0 s.share) p5.0 in
    let p3 = and_parts (nat_le low s.above && nat_lt s.above s.upto) (nat_le s.upto 1000000) p4.0 in
    let p2 = and_parts (nat_le low s.above) (nat_lt s.above s.upto) p3.0 in
    record {
      from = leb-true low s.above p2.0;
      rises = ltb-true s.above s.upto p2.1;
      most = leb-true s.upto 1000000 p3.1;
      some = ltb-true 0 s.share p4.1;
      share_most = leb-true s.share 1000000 p5.1;
    }

pub is_step_from : (low : ℕ) (s : Step) → low ≤ s.above → s.above < s.upto → s.upto ≤ 1000000 → 0 < s.share → s.share ≤ 1000000 → is_step low s ≡ true
is_step_from low s a b c d e =
    and_from (nat_le low s.above && nat_lt s.above s.upto && nat_le s.upto 1000000 && nat_lt 0 s.share) (nat_le s.share 1000000)
    (and_from (nat_le low s.above && nat_lt s.above s.upto && nat_le s.upto 1000000) (nat_lt 0 s.share)
    (and_from (nat_le low s.above && nat_lt s.above s.upto) (nat_le s.upto 1000000)
    (and_from (nat_le low s.above) (nat_lt s.above s.upto) (le-leb low s.above a) (lt-ltb s.above s.upto b)) (le-leb s.upto 1000000 c)) (lt-ltb 0 s.share d))
    (le-leb s.share 1000000 e)

-- what holds of each step of a table
pub record IsGood (s : Step) : Type 0 where
  pub rises : s.above < s.upto
  pub most : s.upto ≤ 1000000
  pub some : 0 < s.share
  pub share_most : s.share ≤ 1000000

good : (low : ℕ) (s : Step) → IsStep low s → IsGood s
good low s p = record { rises = p.rises; most = p.most; some = p.some; share_most = p.share_most }

all_good : (low : ℕ) (steps : List Step) → rises low steps ≡ true → All IsGood steps
all_good low [] e = All-nil IsGood
all_good low (s ∷ steps) e =
    let p = and_parts (is_step low s) (rises s.upto steps) e in
    All-cons IsGood s steps (good low s (step_is low s p.0)) (all_good s.upto steps p.1)

pub record IsTable (steps : List Step) : Type 0 where
  pub rise : rises 0 steps ≡ true
  pub good : All IsGood steps
  pub some : 0 < length steps
  pub most : length steps ≤ 4000

pub table_is : (steps : List Step) → is_table steps ≡ true → IsTable steps
table_is steps e =
    let p2 = and_parts (rises 0 steps && nat_lt 0 (length steps)) (nat_le (length steps) 4000) e in
    let p1 = and_parts (rises 0 steps) (nat_lt 0 (length steps)) p2.0 in
    record {
      rise = p1.0;
      good = all_good 0 steps p1.0;
      some = ltb-true 0 (length steps) p1.1;
      most = leb-true (length steps) 4000 p2.1;
    }

is_table_from : (steps : List Step) → rises 0 steps ≡ true → 0 < length steps → length steps ≤ 4000 → is_table steps ≡ true
is_table_from steps a b c =
    and_from (rises 0 steps && nat_lt 0 (length steps)) (nat_le (length steps) 4000)
    (and_from (rises 0 steps) (nat_lt 0 (length steps)) a (lt-ltb 0 (length steps) b)) (le-leb (length steps) 4000 c)

-- ---- the greatest length

pub last_get : (steps : List Step) (d : Step) → 0 < length steps → (get_or steps (length steps - 1) d).upto ≡ last_upto steps
last_get [] d some = absurd (omega arith)
last_get (s ∷ []) d some = refl
last_get (s ∷ t ∷ steps) d some =
    let before : length (s ∷ t ∷ steps) - 1 ≡ suc (length (t ∷ steps) - 1) = omega arith in
    rw before (last_get (t ∷ steps) d (omega arith))

last_most : (low : ℕ) (s : Step) (steps : List Step) → rises low (s ∷ steps) ≡ true → (low < last_upto (s ∷ steps)) × (last_upto (s ∷ steps) ≤ 1000000)
last_most low s [] e =
    let p = and_parts (is_step low s) true e in
    let q = step_is low s p.0 in
    (omega (arith, q.from, q.rises), q.most)
last_most low s (t ∷ steps) e =
    let p = and_parts (is_step low s) (rises s.upto (t ∷ steps)) e in
    let q = step_is low s p.0 in
    let more = last_most s.upto t steps p.1 in
    (omega (arith, q.from, q.rises, more.0), more.1)

pub last_within : (steps : List Step) → IsTable steps → (1 ≤ last_upto steps) × (last_upto steps ≤ 1000000)
last_within [] p = absurd (omega (arith, p.some))
last_within (s ∷ steps) p = last_most 0 s steps p.rise

rises_push : (low : ℕ) (s : Step) (steps : List Step) (t : Step) → rises low (s ∷ steps) ≡ true → is_step (last_upto (s ∷ steps)) t ≡ true
    → rises low (s ∷ (steps ++ t ∷ [])) ≡ true
rises_push low s [] t e step =
    let p = and_parts (is_step low s) true e in
    and_from (is_step low s) (is_step s.upto t && true) p.0 (and_from (is_step s.upto t) true step refl)
rises_push low s (u ∷ steps) t e step =
    let p = and_parts (is_step low s) (rises s.upto (u ∷ steps)) e in
    and_from (is_step low s) (rises s.upto (u ∷ (steps ++ t ∷ []))) p.0 (rises_push s.upto u steps t p.1 step)

-- one more step makes a table
pub table_push : (steps : List Step) (t : Step) → IsTable steps → length steps < 4000 → is_step (last_upto steps) t ≡ true
    → is_table (steps ++ t ∷ []) ≡ true
table_push [] t p room step = absurd (omega (arith, p.some))
table_push (s ∷ steps) t p room step =
    let len : length (s ∷ (steps ++ t ∷ [])) ≡ length (s ∷ steps) + 1 = grind (arith, common_steps) in
    is_table_from (s ∷ (steps ++ t ∷ [])) (rises_push 0 s steps t p.rise step) (omega (arith, len)) (omega (arith, len, room))

-- ---- shares

pub some_shares : (steps : List Step) → IsTable steps → 1 ≤ shares steps
some_shares [] p = absurd (omega (arith, p.some))
some_shares (s ∷ steps) p =
    let q = step_is 0 s (and_parts (is_step 0 s) (rises s.upto steps) p.rise).0 in
    omega (arith, sum_by-cons (λ (t : Step). t.share) s steps, q.some)

pub most_shares : (steps : List Step) → IsTable steps → shares steps ≤ 4000000000
most_shares steps p =
    let each : All (λ (s : Step). s.share ≤ 1000000) steps = All-weaker IsGood (λ (s : Step). s.share ≤ 1000000) (λ s q. q.share_most) steps p.good in
    let all = sum_by-le (λ (s : Step). s.share) 1000000 steps each in
    let few : length steps * 1000000 ≤ 4000 * 1000000 = mul-le-mul_right 1000000 p.most in
    omega (arith, all, few)

-- ---- each step

-- what a read beyond a list would give
abbrev pub no_step : Step
no_step = record { above = 0; upto = 0; share = 0 }

pub good_at : (steps : List Step) (i : ℕ) → is_table steps ≡ true → i < length steps → IsGood (get_or steps i no_step)
good_at steps i table inside = All-get_or IsGood steps i no_step inside (table_is steps table).good

upto_most : (low : ℕ) (s : Step) (steps : List Step) (i : ℕ) → rises low (s ∷ steps) ≡ true → i < length (s ∷ steps)
    → (get_or (s ∷ steps) i no_step).upto ≤ last_upto (s ∷ steps)
upto_most low s [] zero e inside = omega arith
upto_most low s [] (suc i) e inside = absurd (omega (arith, inside))
upto_most low s (t ∷ steps) zero e inside =
    let p = and_parts (is_step low s) (rises s.upto (t ∷ steps)) e in
    let more = last_most s.upto t steps p.1 in
    omega (arith, more.0)
upto_most low s (t ∷ steps) (suc i) e inside =
    let p = and_parts (is_step low s) (rises s.upto (t ∷ steps)) e in
    upto_most s.upto t steps i p.1 (omega (arith, inside))

pub upto_within : (steps : List Step) (i : ℕ) → is_table steps ≡ true → i < length steps → (get_or steps i no_step).upto ≤ last_upto steps
upto_within [] i table inside = absurd (omega (arith, inside))
upto_within (s ∷ steps) i table inside = upto_most 0 s steps i (table_is (s ∷ steps) table).rise inside

-- steps that are left have shares
some_left : (steps : List Step) (i : ℕ) → is_table steps ≡ true → i < length steps → 1 ≤ shares (drop i steps)
some_left steps i table inside =
    omega (arith, sum_by-drop_more (λ (s : Step). s.share) steps i no_step inside, (good_at steps i table inside).some)

-- a step behind which no share is left is the last one
pub is_last : (steps : List Step) (i parts : ℕ) → is_table steps ≡ true → i < length steps → 1 ≤ parts
    → shares (drop i steps) * parts ≤ (get_or steps i no_step).share * parts
    → ((get_or steps i no_step).upto ≡ last_upto steps) × (shares (drop i steps) ≡ (get_or steps i no_step).share)
is_last steps i parts table inside some left =
    let split = sum_by-drop_more (λ (s : Step). s.share) steps i no_step inside in
    let less : shares (drop i steps) ≤ (get_or steps i no_step).share = le_of_mul-le-mul_right left some in
    elim (cases_lt (i + 1) (length steps)) [
      | inl more ↦ absurd (omega (arith, split, less, some_left steps (i + 1) table more))
      | inr end ↦ (
          let last : length steps - 1 ≡ i = omega (arith, end, inside) in
          let e = last_get steps no_step (table_is steps table).some in
          (rw last at e, omega (arith, split, less))
          )
    ]

-- ---- bounds of sums

pub share_fits : (steps : List Step) (i sum : ℕ) → is_table steps ≡ true → i < length steps → sum ≡ shares (take i steps)
    → sum + (get_or steps i no_step).share ≤ 4000000000
share_fits steps i sum table inside is =
    omega (arith, is, sum_by_more_le (λ (s : Step). s.share) steps i no_step inside, most_shares steps (table_is steps table))

pub wires_fit : (steps : List Step) (i sum term : ℕ) → is_table steps ≡ true → i < length steps → sum ≤ shares (take i steps) * 17179869184000
    → term ≤ (get_or steps i no_step).share * 17179869184000 → sum + term < 2 ^ 128
wires_fit steps i sum term table inside a b =
    omega (arith, a, b, sum_by_more_le (λ (s : Step). s.share) steps i no_step inside, most_shares steps (table_is steps table))

pub term_most : (between lengths share : ℕ) → 0 < lengths → between ≤ lengths * 17179869184 → between * share * 1000 / lengths ≤ share * 17179869184000
term_most between lengths share some most =
    let more : between * (share * 1000) ≤ lengths * 17179869184 * (share * 1000) = mul-le-mul_right (share * 1000) most in
    let all : between * share * 1000 ≤ lengths * (share * 17179869184000) = omega (arith, more) in
    div-le_of_le-mul lengths all
