use Rattle.check_words.proofs.Cuts.{parts-one, parts-more}
use Rattle.check_words.proofs.fields.cut.Goals as goal

pub returns-in-None-clause-parts : goal.returns-in-None-clause-parts
returns-in-None-clause-parts c = parts-one c.args.separator c.args.text.now c.in-None.ensures

pub returns-in-Some-clause-parts : goal.returns-in-Some-clause-parts
returns-in-Some-clause-parts c = parts-more c.args.separator c.args.text.now c.in-Some.i c.in-Some.ensures
