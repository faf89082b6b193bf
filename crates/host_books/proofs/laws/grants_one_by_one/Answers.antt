use Rattle.host_books.proofs.GrantsEach.{grants_each, chosen_arrive, chosen_differ, rest_arrives}
use Rattle.host_books.proofs.laws.grants_one_by_one.Goals as goal

pub returns : goal.returns
returns c = record { each = grants_each; arrive = chosen_arrive; differ = chosen_differ; rest = rest_arrives }
