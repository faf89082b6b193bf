use Rattle.std.proofs.Common.{◌∙◌, sym}
use Rattle.text_lines.proofs.Spelled.{spells_none, spells_counted, spells_hex}
use Rattle.text_lines.proofs.bytes.read_bytes.Goals as goal

pub returns-then-eq-clause-ok : goal.returns-then-eq-clause-ok
returns-then-eq-clause-ok c = spells_none c.args.word.now (rw (← c.as_slice.ensures) (sym c.eq.ensures ∙ c.if-eq.true))

pub returns-in-Some-clause-ok : goal.returns-in-Some-clause-ok
returns-in-Some-clause-ok c =
    let star = c.in-Some.ensures.cases in
    rw (spells_counted c.args.word.now c.in-Some.digits.now star.0 star.1) c.read_counted.ensures.ok

pub returns-in-Some-clause-err : goal.returns-in-Some-clause-err
returns-in-Some-clause-err c =
    let star = c.in-Some.ensures.cases in
    rw (spells_counted c.args.word.now c.in-Some.digits.now star.0 star.1) c.read_counted.ensures.err

pub returns-in-None-clause-ok : goal.returns-in-None-clause-ok
returns-in-None-clause-ok c =
    rw (spells_hex c.args.word.now (rw (← c.as_slice.ensures) (sym c.eq.ensures ∙ c.if-eq.false)) c.in-None.ensures.cases) c.read_hex.ensures.ok

pub returns-in-None-clause-err : goal.returns-in-None-clause-err
returns-in-None-clause-err c =
    rw (spells_hex c.args.word.now (rw (← c.as_slice.ensures) (sym c.eq.ensures ∙ c.if-eq.false)) c.in-None.ensures.cases) c.read_hex.ensures.err
