-- Events that are counted one after another.
use Rattle.std.proofs.Common.{◌≡◌, ℕ, ◌+◌, Option, None, Some, Result, Ok, Err, List, refl, sym, ap, ◌∙◌, add_assoc, add-zero}
use Rattle.homa_plain.specs.Script.{Given, Refusal, Steps, opening}
use Rattle.script_lines.specs.declared.stop.ScriptStop.{ScriptStop}
use Rattle.script_lines.specs.declared.stop.ScriptStop.TheVariants.{Read, Fault}
use Rattle.script_lines.specs.Place.{Place}
use Rattle.homa_script.specs.Steps.{steps_left, step_first, refused_at, no_steps}
use Rattle.script_lines.specs.Read.{IsRead}
use Rattle.homa_script.specs.Script.{IsLast, IsNext}
use Rattle.script_lines.proofs.ReadParts.{read_to, read_on, read_map, read_whole}
use Rattle.bench_script.specs.Count.{events_in, events_of, unless_refused, count_steps, count_of, IsStop}

-- so many events more
abbrev pub after : ℕ → Result ℕ Refusal → Result ℕ Refusal
after n (Ok m) = Ok (n + m)
after n (Err refusal) = Err refusal

one_by : (n m k : ℕ) (refused : Option Refusal) → after n (unless_refused refused (m + k)) ≡ after (n + m) (unless_refused refused k)
one_by n m k None = ap Ok (sym (add_assoc n m k))
one_by n m k (Some refusal) = refl

-- a step is counted
pub count_one : (n line : ℕ) (given : Given) (rest : Steps) → after n (count_steps (step_first (record { line = line; given = given }) rest)) ≡ after
    (n + events_in given) (count_steps rest)
count_one n line given rest = one_by n (events_in given) (events_of rest.steps) rest.refused

-- what is due, where so many were counted
abbrev pub count_left : Place → ℕ → List ℕ → Result ℕ Refusal
count_left place n more = after n (count_steps (steps_left place more))

abbrev pub IsCounting : ℕ → Place → ℕ → Option (List ℕ) → Option (List ℕ) → Type 0
IsCounting limit place n left0 left = (bytes : List ℕ) → left0 ≡ Some bytes → IsRead bytes left (λ more. count_of (opening limit more)) (count_left place n)

-- a step came
pub count_more : (limit : ℕ) (old new : Place) (n line : ℕ) (given : Given) (left0 left left2 : Option (List ℕ)) → IsCounting limit old n left0 left
    → ((bytes : List ℕ) → left ≡ Some bytes → IsRead bytes left2 (steps_left old)
    (λ more. step_first (record { line = line; given = given }) (steps_left new more))) → IsCounting limit new (n + events_in given) left0 left2
count_more limit old new n line given left0 left left2 d f bytes k =
    read_on bytes left left2 (λ more. count_of (opening limit more)) (count_left old n) (count_left new (n + events_in given)) (d bytes k)
    (λ rest h. read_to rest left2 (count_left old n)
    (λ more. after n (count_steps (step_first (record { line = line; given = given }) (steps_left new more)))) (count_left new (n + events_in given))
    (read_map rest left2 (steps_left old) (λ more. step_first (record { line = line; given = given }) (steps_left new more))
    (λ steps. after n (count_steps steps)) (f rest h))
    (λ more. count_one n line given (steps_left new more)))

-- the end came
pub count_end : (limit : ℕ) (old : Place) (n : ℕ) (left0 left left2 : Option (List ℕ)) → IsCounting limit old n left0 left
    → ((bytes : List ℕ) → left ≡ Some bytes → IsLast old bytes left2) → (bytes : List ℕ) → left0 ≡ Some bytes → count_of (opening limit bytes) ≡ Ok n
count_end limit old n left0 left left2 d f bytes k =
    read_whole bytes left2 (λ more. count_of (opening limit more)) (λ more. after n (count_steps no_steps))
    (read_on bytes left left2 (λ more. count_of (opening limit more)) (count_left old n) (λ more. after n (count_steps no_steps)) (d bytes k)
    (λ rest h. read_map rest left2 (steps_left old) (λ more. no_steps) (λ steps. after n (count_steps steps)) (f rest h).0))
    ∙ ap Ok (add-zero n)

-- a line is refused, or a read failed
pub count_stop : (limit : ℕ) (old new : Place) (n : ℕ) (operand : List ℕ) (left0 left left2 : Option (List ℕ)) (stop : ScriptStop)
    → IsCounting limit old n left0 left → ((bytes : List ℕ) → left ≡ Some bytes → IsNext old new operand bytes left2 (Err stop)) → (bytes : List ℕ)
    → left0 ≡ Some bytes → IsStop (count_of (opening limit bytes)) new.number stop
count_stop limit old new n operand left0 left left2 (Read failed) d f bytes k = tt
count_stop limit old new n operand left0 left left2 (Fault fault) d f bytes k =
    read_whole bytes left2 (λ more. count_of (opening limit more)) (λ more. after n (count_steps (refused_at new.number fault)))
    (read_on bytes left left2 (λ more. count_of (opening limit more)) (count_left old n) (λ more. after n (count_steps (refused_at new.number fault)))
    (d bytes k)
    (λ rest h. read_map rest left2 (steps_left old) (λ more. refused_at new.number fault) (λ steps. after n (count_steps steps)) (f rest h)))
