use Rattle.std.proofs.Common.{◌≡◌, ◌-◌, ◌^◌, ◌<◌, ◌∙◌, sym, ap, subst, None, Some, Option}
use Rattle.std.specs.Prelude.{IfOk}
use Rattle.std.specs.Option.{option_map}
use Rattle.homa_plain.specs.Entries.{PlainEntry, plain}
use Rattle.trace_rules.specs.View.{View}
use Rattle.check_reader.specs.Forms.{entry_of}
use Rattle.check_verdict.specs.Verdict.{judged_text, seen_text}
use Rattle.check_verdict.proofs.TextLaws.{entry_read}
use Rattle.homa_check.specs.Clauses.{clause_of}
use Rattle.check_lines.specs.Traces.{Follows}
use Rattle.homa_check.proofs.text.step.Goals as goal

pub returns-in-Some : goal.returns-in-Some
returns-in-Some c =
    let h = c.read_entry.ensures in
    let e : entry_of c.args.line.now ≡ Some (plain c.in-Some.entry) =
    entry_read plain c.read_entry.result c.args.line.now h.line h.fits h.usual h.none ∙ ap (option_map plain) c.in-Some.is in
    record {
      judged = subst (λ (o : Option PlainEntry). IfOk c.step_entry.result
          (λ r. (v : View) → Follows v c.args.trace.now → v.place < 2 ^ 64 - 1 → option_map clause_of r ≡ judged_text v o)) (sym e) c.step_entry.ensures.judged;
      next = subst (λ (o : Option PlainEntry). IfOk c.step_entry.result
          (λ r. (v : View) → Follows v c.args.trace.now → v.place < 2 ^ 64 - 1 → r ≡ None → Follows (seen_text v o) c.step_entry.new.trace))
          (sym e) c.step_entry.ensures.next;
    }

pub returns-in-None : goal.returns-in-None
returns-in-None c =
    let h = c.read_entry.ensures in
    let e : entry_of c.args.line.now ≡ None =
    entry_read plain c.read_entry.result c.args.line.now h.line h.fits h.usual h.none ∙ ap (option_map plain) c.in-None.is in
    record { judged = λ v f p. sym (ap (judged_text v) e); next = λ v f p n. absurd cc }
