use Rattle.host_books.proofs.PumpOnce.{pump_goes, pump_ends, pump_full}
use Rattle.host_books.proofs.laws.pump_one_by_one.Goals as goal

pub returns : goal.returns
returns c = record { goes = pump_goes; ends = pump_ends; full = pump_full }
