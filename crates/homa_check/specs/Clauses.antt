-- What a line breaks.
use Rattle.trace_rules.specs.Judge as judge
use Rattle.homa_check.specs.declared.verdict.Clause.{Clause}
use Rattle.homa_check.specs.declared.verdict.Clause.TheVariants.{Shape, Once, Returned, HandedUp, Fails, Granting}

-- a clause, as the definitions have it
abbrev pub clause_of : Clause → judge.Clause
clause_of Shape = judge.ShapeClause
clause_of Once = judge.OnceClause
clause_of Returned = judge.ReturnedClause
clause_of HandedUp = judge.HandedUpClause
clause_of Fails = judge.FailsClause
clause_of Granting = judge.GrantingClause
