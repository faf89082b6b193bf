-- All that is so of a world and of the lines up to it, by which the laws are proved: joined, and kept by each event.
use Rattle.std.proofs.Common.{◌≡◌, ℕ, true, List, [], ◌∷◌, length, refl, ◌∙◌}
use Rattle.std.proofs.lemmas.Bool.{false≢true}
use Rattle.homa_plain.specs.declared.settings.Settings.{Settings}
use Rattle.homa_plain.specs.declared.entry.Why.TheVariants.{Timeout, Forgotten}
use Rattle.homa_plain.specs.Entries.{PlainEntry, PlainSettings, PlainFail, PlainFinished, PlainRefused, PlainStalled}
use Rattle.trace_rules.specs.Lines.{is_last}
use Rattle.trace_rules.specs.View.{View, at_start}
use Rattle.trace_rules.specs.Seen.{seen}
use Rattle.trace_rules.specs.Shape.{IsBehind}
use Rattle.trace_rules.specs.Laws.{Holds, Once, Returned, Fails}
use Rattle.trace_rules.specs.Granting.{Granting}
use Rattle.trace_rules.specs.Judge.{Obeys}
use Rattle.homa_plain.specs.World.{World}
use Rattle.trace_steps.specs.Always.{IsOpening, IsSoAtFirst, KeptByEvent}
use Rattle.trace_once.proofs.Kept.{event_once}
use Rattle.trace_fails.specs.Timeouts.{TimesOut, HasFairRows}
use Rattle.trace_fails.proofs.FairLaw.{first_fair, event_times_out}
use Rattle.trace_returned.specs.Closing.{Closed}
use Rattle.trace_returned.proofs.Beginning.{closed_line}
use Rattle.trace_returned.proofs.Laws.{IsSoFar, event_says, opened_so}
use Rattle.trace_granting.proofs.GrantSteps.{HasGrants}
use Rattle.trace_granting.proofs.GrantLaw.{event_granting, opened_grants, first_granting, last_granting}
use Rattle.trace_laws.specs.Shaped.{HasCause}
use Rattle.trace_laws.proofs.ShapedLaw.{IsShapedLine, event_lines, last_shaped, opened_behind, opened_hosts}

-- ---- what is so, and the law

pub record IsLawful (s : Settings) (w : World) (v : View) : Type 0 where
  pub so : IsSoFar s w v
  pub fair : HasFairRows s w v
  pub grants : HasGrants s w v
  pub many : length w.hosts ≡ s.hosts
  pub behind : IsBehind v

-- the shape, where a line that refuses one has a cause, and all five laws
pub record IsObeyed (v : View) (line : PlainEntry) : Type 0 where
  pub shape : IsShapedLine v line
  pub once : Once v line
  pub returned : Returned v line
  pub closed : Closed v line
  pub times_out : TimesOut v line
  pub granting : Granting v line

fails_line : (v : View) (line : PlainEntry) → TimesOut v line → Closed v line → Fails v line
fails_line v (PlainFail id Timeout) a b = a
fails_line v (PlainFail id Forgotten) a b = λ e. (b e).2
fails_line v line a b = λ e. (b e).2

pub obeys : (v : View) (line : PlainEntry) → HasCause line → IsObeyed v line → Obeys v line
obeys v line cause k = record {
  shape = k.shape cause;
  once = k.once;
  returned = k.returned;
  handed_up = λ e. let x = k.closed e in (x.0, x.1);
  fails = fails_line v line k.times_out k.closed;
  granting = k.granting;
}

-- ---- each event keeps it

joined : (v : View) (lines : List PlainEntry) → Holds IsShapedLine v lines → Holds Once v lines → Holds Returned v lines → Holds Closed v lines
    → Holds TimesOut v lines → Holds Granting v lines → Holds IsObeyed v lines
joined v [] a b c d e f = tt
joined v (line ∷ lines) a b c d e f = (
  record { shape = a.0; once = b.0; returned = c.0; closed = d.0; times_out = e.0; granting = f.0 },
  joined (seen v line) lines a.1 b.1 c.1 d.1 e.1 f.1,
)

pub event_obeyed : KeptByEvent IsLawful IsObeyed
event_obeyed s w v e after k done =
    let shape = event_lines s w v e after (k.so.0, k.so.1, k.many, k.behind) done in
    let once = event_once s w v e after (k.so.0, k.so.1) done in
    let says = event_says s w v e.event e.bytes after k.so.0 k.so.1 k.so.2 k.so.3 done in
    let fair = event_times_out s w v e after ((k.so.0, k.so.1), k.fair) done in
    let grants = event_granting s w v e after (k.so, k.grants) done in (
      joined v after.told shape.0 once.0 says.returned says.closed fair.0 grants.0,
      record { so = grants.1.0; fair = fair.1.1; grants = grants.1.1; many = shape.1.2; behind = shape.1.3 },
    )

-- ---- it is so at first, and the law holds at the first line

pub first_lawful : IsSoAtFirst IsLawful
first_lawful s incs clock boxes answers opening = record {
  so = opened_so s incs clock boxes answers opening;
  fair = first_fair s incs clock boxes answers opening;
  grants = opened_grants s incs clock boxes answers;
  many = opened_hosts s incs clock boxes answers ∙ opening.hosts;
  behind = opened_behind s clock;
}

pub first_obeyed : (s : Settings) (incs : List ℕ) (clock boxes : ℕ) → IsOpening s incs clock boxes → IsObeyed (at_start clock) (PlainSettings s)
first_obeyed s incs clock boxes opening = record {
  shape = λ cause. (refl, opening.valid);
  once = tt;
  returned = tt;
  closed = λ e. absurd (false≢true e);
  times_out = tt;
  granting = first_granting s clock;
}

-- ---- the law holds at a last line

last_quiet : (v : View) (line : PlainEntry) → is_last line ≡ true → Once v line × Returned v line × TimesOut v line
last_quiet v (PlainFinished n) e = (tt, tt, tt)
last_quiet v (PlainRefused line fault) e = (tt, tt, tt)
last_quiet v (PlainStalled turns now) e = (tt, tt, tt)
last_quiet v line e = absurd (false≢true e)

pub last_obeyed : (s : Settings) (w : World) (v : View) (line : PlainEntry) → IsLawful s w v → is_last line ≡ true → IsObeyed v line
last_obeyed s w v line k e =
    let quiet = last_quiet v line e in
    record {
      shape = last_shaped v line e k.behind;
      once = quiet.0;
      returned = quiet.1;
      closed = closed_line v line k.so.2.closed;
      times_out = quiet.2;
      granting = last_granting s v line (k.so.0).settings k.grants.within_all e;
    }
