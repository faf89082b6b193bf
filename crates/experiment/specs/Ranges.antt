-- The ranges of what lines say.
use Rattle.std.specs.Prelude.{◌≤◌}
use Rattle.experiment.specs.declared.statement.Statement.{Statement}
use Rattle.experiment.specs.declared.statement.Statement.TheVariants as line
use Rattle.experiment.specs.Amounts.{least, most}
use Rattle.experiment.specs.Marks.{IsRestart, IsCall, IsInjection, IsShift}

-- each number of a line is in its range
abbrev pub IsWithin : Statement → Type 0
IsWithin line.Blank = Unit {0}
IsWithin (line.Setting name n) = Unit {0}
IsWithin (line.Amount amount n) = (least amount ≤ n) × (n ≤ most amount)
IsWithin (line.Workload n) = (1 ≤ n) × (n ≤ 5)
IsWithin (line.Size upto share) = (1 ≤ upto) × (upto ≤ 1000000) × (1 ≤ share) × (share ≤ 1000000)
IsWithin (line.Length upto share) = (1 ≤ upto) × (upto ≤ 1000000) × (1 ≤ share) × (share ≤ 1000000)
IsWithin (line.Cumulative upto sum) = (1 ≤ upto) × (upto ≤ 1000000) × (1 ≤ sum) × (sum ≤ 1000000)
IsWithin (line.Card card) = Unit {0}
IsWithin (line.Hot hot) = (hot.host.0 ≤ 31) × (hot.share ≤ 1000)
IsWithin (line.Restart restart) = IsRestart restart
IsWithin (line.Call call) = IsCall call
IsWithin (line.Inject injection) = IsInjection injection
IsWithin (line.Shift shift) = IsShift shift
