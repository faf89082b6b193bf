-- How many measured calls haven't ended, as calls are made, replaced and end.
use Rattle.std.proofs.Common.{◌≡◌, ℕ, ◌<◌, ◌≤◌, ◌+◌, ◌-◌, ◌^◌, min, List, [], ◌∷◌, ◌++◌, length, sym, ap, ◌∙◌, refl, get_or, inl, inr, arith, Bool, true, false}
use Rattle.std.specs.Prelude.{Option, Some, slice_get, slice_set, unwrap_or, ◌&&◌, if◌then◌else◌}
use Rattle.std.proofs.lemmas.List.{set_past}
use Rattle.std.proofs.lemmas.List.Sums.{sum_by-append, sum_by-set}
use Rattle.std.proofs.lemmas.Option.{slice_get-get_or, slice_get_cases, slice_get_within, unwrap_or-slice_get}
use Rattle.experiment.specs.declared.load.Load.{Load}
use Rattle.call_figures.specs.declared.calls.CallEnd.{CallEnd}
use Rattle.call_figures.specs.declared.calls.SimCall.{SimCall}
use Rattle.simulated_network.specs.Measured.{is_measured}
use Rattle.simulated_network.specs.Runs.{RunState, Made, made_of}
use Rattle.simulated_network.specs.Ends.{is_open, one_unended, unended_of, MayEnd}

abbrev one_if : (measured unended : Bool) → ℕ
one_if measured unended = if measured && unended then 1 else 0

one_most : (measured unended : Bool) → one_if measured unended ≤ 1
one_most true true = omega arith
one_most true false = omega arith
one_most false unended = omega arith

none_ended : (measured : Bool) → one_if measured false ≡ 0
none_ended true = refl
none_ended false = refl

one_opened : (measured : Bool) → one_if measured true ≡ (if measured then 1 else 0)
one_opened true = refl
one_opened false = refl

-- one call more was made
pub unended_behind : (load : Load) (cs : List SimCall) (c : SimCall) → unended_of load (cs ++ c ∷ []) ≡ unended_of load cs + one_unended load c
unended_behind load cs c = omega (arith, sum_by-append (one_unended load) cs (c ∷ []))

-- no more haven't ended than there are
pub unended_most : (load : Load) (cs : List SimCall) → unended_of load cs ≤ length cs
unended_most load [] = omega arith
unended_most load (c ∷ cs) =
    omega (arith, one_most (is_measured load c.drawn) (is_open c.end), unended_most load cs, sum_by-append (one_unended load) (c ∷ []) cs)

-- a call that was made alike and ended alike counts alike
pub one_alike : (load : Load) (c d : SimCall) → made_of c ≡ made_of d → c.end ≡ d.end → one_unended load c ≡ one_unended load d
one_alike load c d made ends =
    ap (λ (m : Made). one_if (is_measured load m.drawn) (is_open c.end)) made ∙ ap (λ (e : CallEnd). one_if (is_measured load d.drawn) (is_open e)) ends

-- a call was replaced by one that was made alike and ended alike
pub unended_alike : (load : Load) (cs : List SimCall) (i : ℕ) (c : SimCall) → ((d : SimCall) → slice_get cs i ≡ Some d → made_of c ≡ made_of d)
    → ((d : SimCall) → slice_get cs i ≡ Some d → c.end ≡ d.end) → unended_of load (slice_set cs i c) ≡ unended_of load cs
unended_alike load cs i c made ends =
    elim (slice_get_cases cs i).1 as (λ _. unended_of load (slice_set cs i c) ≡ unended_of load cs) [
      | inl found ↦ let at = slice_get-get_or cs i c found.1 in
          omega (arith, sum_by-set (one_unended load) cs i c c found.1, one_alike load c (get_or cs i c) (made (get_or cs i c) at) (ends (get_or cs i c) at))
      | inr past ↦ ap (unended_of load) (set_past cs i c past.0)
    ]

-- what is counted when a call is made
pub made_counts : (load : Load) (cs ds : List SimCall) (c : SimCall) (b : Bool) (n more most : ℕ) → b ≡ is_measured load c.drawn
    → is_open c.end ≡ true → ds ≡ cs ++ c ∷ [] → n ≡ unended_of load cs → more ≡ (if b then 1 else 0) → most ≡ length ds → most < 2 ^ 64
    → min (min (n + more) (2 ^ 64 - 1)) most ≡ unended_of load ds
made_counts load cs ds c b n more most measured is behind before one all few =
    let counts : more ≡ one_unended load c =
    one ∙ (sym (one_opened b) ∙ (ap (λ (x : Bool). one_if x true) measured ∙ ap (one_if (is_measured load c.drawn)) (sym is))) in
    omega (arith, counts, before, all, few, unended_most load ds, ap (unended_of load) behind, unended_behind load cs c)

-- what is counted when a call ends
pub end_counts : (load : Load) (cs : List SimCall) (i : ℕ) (c d : SimCall) (b : Bool) (n less : ℕ) → slice_get cs i ≡ Some d
    → b ≡ is_measured load d.drawn → is_open d.end ≡ true → is_open c.end ≡ false → n ≡ unended_of load cs → less ≡ (if b then 1 else 0)
    → n - less ≡ unended_of load (slice_set cs i c)
end_counts load cs i c d b n less at measured is ended before one =
    let same : get_or cs i d ≡ d = sym (unwrap_or-slice_get cs i d) ∙ ap (λ (o : Option SimCall). unwrap_or o d) at in
    let counts : less ≡ one_unended load d =
    one ∙ (sym (one_opened b) ∙ (ap (λ (x : Bool). one_if x true) measured ∙ ap (one_if (is_measured load d.drawn)) (sym is))) in
    let none : one_unended load c ≡ 0 = ap (one_if (is_measured load c.drawn)) ended ∙ none_ended (is_measured load c.drawn) in
    omega (arith, sum_by-set (one_unended load) cs i c d (slice_get_within cs i d at), ap (one_unended load) same, counts, none, before)

-- a run may end if its measured calls are over
pub ends_over : (n : RunState) → n.load.warm + n.load.calls ≤ n.drawn → unended_of n.load n.calls ≡ 0 → MayEnd n
ends_over n drawn ended = inl (record { drawn = drawn; ended = ended })

-- a run may end if too many calls were drawn
pub ends_late : (n : RunState) → n.load.warm + n.load.calls + (n.load.calls + 1000) ≤ n.drawn → MayEnd n
ends_late n drawn = inr (inl drawn)

-- a run may end if nothing is due
pub ends_idle : (n : RunState) → n.agenda.dues ≡ [] → MayEnd n
ends_idle n none = inr (inr none)
