use Rattle.check_words.specs.FieldsLeft.{byte_of}
use Rattle.check_words.proofs.Cuts.{is_empty-left}
use Rattle.check_words.proofs.fields.Fields.is_empty.Goals as goal

pub returns : goal.returns
returns c = is_empty-left (byte_of c.args.self.separator) (λ text. text.now) c.args.self.rest c.is_none.result c.is_none.ensures
