use Rattle.host_books.proofs.Slots.{slots_within, slots_differ, slots_stay}
use Rattle.host_books.proofs.laws.rows_have_slots.Goals as goal

pub returns : goal.returns
returns c = record { within = slots_within; differ = slots_differ; stay = λ place p n old new change. slots_stay place n old new change p }
