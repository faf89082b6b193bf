use Rattle.std.proofs.Common.{◌≡◌, sym, subst, refl, true}
use Rattle.std.proofs.lemmas.Result.{on_ok_weaker}
use Rattle.homa_plain.specs.declared.settings.Settings.{Settings}
use Rattle.homa_plain.specs.declared.entry.Entry.{Entry}
use Rattle.homa_plain.specs.declared.entry.Entry.TheVariants as entry
use Rattle.homa_plain.specs.Entries.{plain}
use Rattle.trace_rules.specs.Judge.{has_shape}
use Rattle.check_call.specs.Tested.{IsOther}
use Rattle.check_lines.specs.Changes.{Takes}
use Rattle.check_lines.proofs.TakenLaws.{settings_takes}
use Rattle.check_lines.proofs.trace.Trace.take_line.Goals as goal

pub returns-in-Settings-clause-taken : goal.returns-in-Settings-clause-taken
returns-in-Settings-clause-taken c v o r place first shape once =
    let t = c.args.self.now in
    let s = c.in-Settings.settings in
    subst (λ (x : Entry). Takes v o (plain x) (record t { settings = s })) (sym c.in-Settings.is)
    (settings_takes v o t s r first (subst (λ (x : Entry). has_shape v (plain x) ≡ true) c.in-Settings.is shape))

-- it is another line
other : (line : Entry) → ((s : Settings) → line ≡ entry.Settings s → ⊥) → (x : Entry) → line ≡ x → IsOther (plain x)
other line none (entry.Settings s) e = absurd (none s e)
other line none x e = tt

pub returns-in_default-clause-taken : goal.returns-in_default-clause-taken
returns-in_default-clause-taken c =
    let line = c.args.line.now in
    on_ok_weaker c.take_other.result (λ k v o r place first shape once. k v o r place (other line c.in_default.not-Settings line refl) shape once)
    c.take_other.ensures.taken
