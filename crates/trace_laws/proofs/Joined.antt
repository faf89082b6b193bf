-- Laws that follow, line by line, from others.
use Rattle.std.proofs.Common.{List, [], ◌∷◌, ◌++◌}
use Rattle.homa_plain.specs.declared.entry.Why.TheVariants.{Timeout, Forgotten}
use Rattle.homa_plain.specs.Entries.{PlainEntry, PlainFail}
use Rattle.trace_rules.specs.View.{View, at_start}
use Rattle.trace_rules.specs.Seen.{seen}
use Rattle.trace_rules.specs.Shape.{Shape}
use Rattle.trace_rules.specs.Laws.{Holds, Once, Returned, HandedUp, Fails}
use Rattle.trace_rules.specs.Granting.{Granting}
use Rattle.trace_rules.specs.Judge.{Obeys}
use Rattle.trace_steps.specs.Always.{trace, HoldsAlways}
use Rattle.trace_fails.specs.Timeouts.{TimesOut}
use Rattle.trace_fails.proofs.FairLaw.{timeouts_always}
use Rattle.trace_granting.proofs.GrantLaw.{granting_always}
use Rattle.trace_returned.specs.Closing as closing
use Rattle.trace_once.proofs.Kept.{once_always}
use Rattle.trace_returned.proofs.Laws.{returned_always, handed_up_always, forgotten_always}
use Rattle.trace_laws.specs.Shaped.{HoldsWithCause}
use Rattle.trace_laws.proofs.ShapedLaw.{shaped_always}

holds_both : (a b c : View → PlainEntry → Type 0) → ((v : View) (line : PlainEntry) → a v line → b v line → c v line)
    → (v : View) (lines : List PlainEntry) → Holds a v lines → Holds b v lines → Holds c v lines
holds_both a b c follows v [] x y = tt
holds_both a b c follows v (line ∷ lines) x y = (follows v line x.0 y.0, holds_both a b c follows (seen v line) lines x.1 y.1)

-- of two laws
both_always : (a b c : View → PlainEntry → Type 0) → ((v : View) (line : PlainEntry) → a v line → b v line → c v line) → HoldsAlways a → HoldsAlways b
    → HoldsAlways c
both_always a b c follows x y s incs clock boxes answers events opening =
    let told : List PlainEntry = trace s incs clock boxes answers events in
    let first = x s incs clock boxes answers events opening in
    let second = y s incs clock boxes answers events opening in (
      holds_both a b c follows (at_start clock) told first.0 second.0,
      λ line last. holds_both a b c follows (at_start clock) (told ++ line ∷ [])
          (first.1 line last) (second.1 line last),
    )

-- timeouts, and calls that are forgotten
fails_line : (v : View) (line : PlainEntry) → TimesOut v line → closing.Forgotten v line → Fails v line
fails_line v (PlainFail id Timeout) a b = a
fails_line v (PlainFail id Forgotten) a b = b
fails_line v line a b = b

pub fails_always : HoldsAlways Fails
fails_always = both_always TimesOut closing.Forgotten Fails fails_line timeouts_always forgotten_always

-- ---- all of them

-- one that wants a cause, and one that doesn't
both_with_cause : (a b c : View → PlainEntry → Type 0) → ((v : View) (line : PlainEntry) → a v line → b v line → c v line) → HoldsWithCause a
    → HoldsAlways b → HoldsWithCause c
both_with_cause a b c follows x y s incs clock boxes answers events opening =
    let told : List PlainEntry = trace s incs clock boxes answers events in
    let first = x s incs clock boxes answers events opening in
    let second = y s incs clock boxes answers events opening in (
      holds_both a b c follows (at_start clock) told first.0 second.0,
      λ line last cause. holds_both a b c follows (at_start clock) (told ++ line ∷ [])
          (first.1 line last cause) (second.1 line last),
    )

-- the shape and the laws but granting
abbrev ObeysButGranting : View → PlainEntry → Type 0
ObeysButGranting v line = Shape v line × Once v line × Returned v line × HandedUp v line × Fails v line

four_always : HoldsAlways (λ v line. Once v line × Returned v line × HandedUp v line × Fails v line)
four_always =
    both_always (λ v line. Once v line × Returned v line) (λ v line. HandedUp v line × Fails v line)
    (λ v line. Once v line × Returned v line × HandedUp v line × Fails v line) (λ v line a b. (a.0, a.1, b.0, b.1))
    (both_always Once Returned (λ v line. Once v line × Returned v line) (λ v line a b. (a, b)) once_always returned_always)
    (both_always HandedUp Fails (λ v line. HandedUp v line × Fails v line) (λ v line a b. (a, b)) handed_up_always fails_always)

-- with granting, a line obeys them all
pub obeyed_always : HoldsWithCause Obeys
obeyed_always =
    both_with_cause ObeysButGranting Granting Obeys
    (λ v line a g. record { shape = a.0; once = a.1; returned = a.2; handed_up = a.3; fails = a.4; granting = g })
    (both_with_cause Shape (λ v line. Once v line × Returned v line × HandedUp v line × Fails v line) ObeysButGranting
    (λ v line a b. (a, b.0, b.1, b.2, b.3)) shaped_always four_always) granting_always
