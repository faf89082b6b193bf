-- Calls to the sink below, one after the other.
use Rattle.std.proofs.Common.{ℕ, Option, List, ◌∙◌}
use Rattle.std.specs.Prelude.{Result, Ok}
use Rattle.std.proofs.lemmas.Result.{on_ok_weaker, on_err_weaker}
use Rattle.homa_io.specs.Growing.{grows_on}
use Rattle.homa_io.specs.Held.{PassesOn}
use Rattle.homa_io.proofs.Counts.{risen_behind, kept_behind}

-- what one that went well passed on and then the next
pub passes_then : {K A B E : Type 0} {taken : K → Option (List ℕ)} {faults : K → ℕ} {is_same : K → K → Type 0} {u : A} {r : Result B E} {a b c : K}
    → ((a b c : K) → is_same a b → is_same b c → is_same a c)
    → PassesOn {E = E} taken faults is_same (Ok u) a b
    → PassesOn taken faults is_same r b c
    → PassesOn taken faults is_same r a c
passes_then {faults} {r} {a} {b} {c} on first second = record {
  grows = grows_on _ _ _ first.grows second.grows;
  risen = on_err_weaker r (λ risen. risen_behind (faults a) (faults b) (faults c) first.quiet risen) second.risen;
  quiet = on_ok_weaker r (λ same. same ∙ first.quiet) second.quiet;
  never_falls = kept_behind (faults a) (faults b) (faults c) first.quiet second.never_falls;
  same = on a b c first.same second.same;
}
