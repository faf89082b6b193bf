-- The calls that lines of a block name.
use Rattle.std.proofs.Common.{◌≡◌, ◌≢◌, ◌<◌, arith, true, false, ◌&&◌, ◌||◌, Option, Some, None, List, [], ◌∷◌, length, refl, sym, ap, ◌∙◌}
use Rattle.std.specs.Option.{option_to_list}
use Rattle.std.specs.List.{AllByRecursion, list_any, list_all}
use Rattle.homa_plain.specs.declared.id.CallId.{CallId}
use Rattle.homa_plain.specs.Calls.{is_call}
use Rattle.trace_rules.specs.Judge.{has_call, are_same_calls}
use Rattle.homa_plain.proofs.CallOrder.{calls_are}

none_has : (ids : List CallId) → 0 < length ids → list_all (has_call []) ids ≡ false
none_has [] h = absurd (omega (arith, h))
none_has (q ∷ ids) h = refl

-- none is due
pub not_due : (ids : List CallId) → 0 < length ids → are_same_calls ids [] ≡ false
not_due ids h = ap (λ b. b && true) (none_has ids h)

own : (q : CallId) → is_call q q ≡ true
own q = (calls_are q q).1 refl

all_has : (id : CallId) (ids : List CallId) → AllByRecursion (λ q. q ≡ id) ids → list_all (has_call (id ∷ [])) ids ≡ true
all_has id [] all = refl
all_has id (q ∷ ids) all = ap (λ b. (b || false) && list_all (has_call (id ∷ [])) ids) ((calls_are q id).1 all.0) ∙ all_has id ids all.1

any_has : (id : CallId) (ids : List CallId) → 0 < length ids → AllByRecursion (λ q. q ≡ id) ids → list_any (is_call id) ids ≡ true
any_has id [] h all = absurd (omega (arith, h))
any_has id (q ∷ ids) h all = ap (λ b. b || list_any (is_call id) ids) ((calls_are id q).1 (sym all.0))

-- the one that is due
pub just_due : (id : CallId) (ids : List CallId) → 0 < length ids → AllByRecursion (λ q. q ≡ id) ids → are_same_calls ids (id ∷ []) ≡ true
just_due id ids h all = ap (λ b. b && (has_call ids id && true)) (all_has id ids all) ∙ ap (λ b. b && true) (any_has id ids h all)

differs : (a b : CallId) → a ≢ b → is_call a b ≡ false
differs a b n = elim (is_call a b) as (λ c. is_call a b ≡ c → c ≡ false) [ true ↦ λ e. absurd (n ((calls_are a b).0 e)) | false ↦ λ e. refl ] refl

-- another one than is due
pub other_has : (id d : CallId) (ids : List CallId) → id ≢ d → 0 < length ids → AllByRecursion (λ q. q ≡ id) ids → list_all (has_call (d ∷ [])) ids ≡ false
other_has id d [] n h all = absurd (omega (arith, h))
other_has id d (q ∷ ids) n h all = ap (λ b. (b || false) && list_all (has_call (d ∷ [])) ids) (differs q d (λ e. n (sym all.0 ∙ e)))

pub other_due : (id d : CallId) (ids : List CallId) → id ≢ d → 0 < length ids → AllByRecursion (λ q. q ≡ id) ids → are_same_calls ids (d ∷ []) ≡ false
other_due id d ids n h all = ap (λ b. b && (has_call ids d && true)) (other_has id d ids n h all)

-- one more, other than those before it
pub one_more : (id other d : CallId) (ids : List CallId) → other ≢ id → 0 < length ids → AllByRecursion (λ q. q ≡ other) ids
    → ((is_call id d || false) && list_all (has_call (d ∷ [])) ids) ≡ false
one_more id other d ids n h all =
    elim (is_call id d) as (λ b. is_call id d ≡ b → ((b || false) && list_all (has_call (d ∷ [])) ids) ≡ false)
    [ true ↦ λ e. other_has other d ids (λ p. n (p ∙ sym ((calls_are id d).0 e))) h all | false ↦ λ e. refl ] refl

-- several
pub several_due : (ids : List CallId) (due : Option CallId) → 0 < length ids → ((d : CallId) → list_all (has_call (d ∷ [])) ids ≡ false)
    → false ≡ are_same_calls ids (option_to_list due)
several_due ids None h s = sym (not_due ids h)
several_due ids (Some d) h s = sym (ap (λ b. b && (has_call ids d && true)) (s d))
