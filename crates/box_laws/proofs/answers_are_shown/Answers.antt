use Rattle.box_laws.proofs.ShownLaws.{none_shown}
use Rattle.box_laws.proofs.answers_are_shown.Goals as goal

pub returns : goal.returns
returns c = record { none = none_shown }
