use Rattle.homa_plain.proofs.ChoiceLaws.{grant-chosen, chosen-grant, few-grants}
use Rattle.plain_laws.proofs.grants.grants_made.Goals as goal

pub returns-clause-only : goal.returns-clause-only
returns-clause-only g c = grant-chosen

pub returns-clause-all : goal.returns-clause-all
returns-clause-all g c = chosen-grant

pub returns-clause-few : goal.returns-clause-few
returns-clause-few g c = few-grants
