-- The ranges of what happens at moments that lines say.
use Rattle.std.specs.Prelude.{ℕ, ◌≤◌, List, [], ◌∷◌}
use Rattle.experiment.specs.declared.marks.Restarting.{Restarting}
use Rattle.experiment.specs.declared.marks.ListedCall.{ListedCall}
use Rattle.experiment.specs.declared.marks.Injection.{Injection}
use Rattle.experiment.specs.declared.marks.Shifting.{Shifting}

-- a moment is at most a day
abbrev pub IsRestart : Restarting → Type 0
IsRestart r = (r.host.0 ≤ 31) × (r.at ≤ 86400000000000000)

-- a message has 1 to 1,000,000 bytes
abbrev pub IsCall : ListedCall → Type 0
IsCall c = (c.client.0 ≤ 31) × (c.server.0 ≤ 31) × (1 ≤ c.bytes) × (c.bytes ≤ 1000000) × (c.at ≤ 86400000000000000)

abbrev pub IsInjection : Injection → Type 0
IsInjection i = (i.host.0 ≤ 31) × (i.bytes ≤ 1500) × (i.at ≤ 86400000000000000)

abbrev pub IsShift : Shifting → Type 0
IsShift s = (s.host.0 ≤ 31) × (s.ticks ≤ 2000) × (s.at ≤ 86400000000000000)

-- the moment of the last call, or 0
abbrev pub last_at : List ListedCall → ℕ
last_at [] = 0
last_at (c ∷ []) = c.at
last_at (c ∷ d ∷ calls) = last_at (d ∷ calls)
