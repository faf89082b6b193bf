use Rattle.std.proofs.Common.{◌∙◌, ap}
use Rattle.std.proofs.lemmas.Bool.Decides.{Decides-eqb}
use Rattle.std.proofs.lemmas.Slice.Eq.{strip_suffix_is}
use Rattle.homa_plain.specs.Script.{without_return}
use Rattle.script_lines.proofs.Returns.{strip_some, strip_none}
use Rattle.script_lines.proofs.line.last_line.Goals as goal

pub returns-in-Some-clause-value : goal.returns-in-Some-clause-value
returns-in-Some-clause-value c =
    let is = rw c.in-Some.is at
    (strip_suffix_is Decides-eqb c.bytes-line.result.now c.as_slice.result.now c.strip_suffix.result c.strip_suffix.ensures.cases) in
    strip_some c.bytes-line.result.now c.as_slice.result.now c.in-Some.front.now c.as_slice.ensures is ∙ ap without_return c.bytes-line.ensures

pub returns-in-None-clause-value : goal.returns-in-None-clause-value
returns-in-None-clause-value c =
    let is = rw c.in-None.is at
    (strip_suffix_is Decides-eqb c.bytes-line.result.now c.as_slice.result.now c.strip_suffix.result c.strip_suffix.ensures.cases) in
    strip_none c.bytes-line.result.now c.as_slice.result.now c.as_slice.ensures is ∙ ap without_return c.bytes-line.ensures
