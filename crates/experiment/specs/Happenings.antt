-- What lines say that happens at moments.
use Rattle.std.specs.Prelude.{nat_lt, if◌then◌else◌, Result, Ok, List, [], ◌∷◌, ◌++◌, length}
use Rattle.experiment.specs.declared.fault.Refusal.{Refusal}
use Rattle.experiment.specs.declared.fault.Wrong.TheVariants.{TooMany, Before}
use Rattle.experiment.specs.declared.happenings.Happenings.{Happenings}
use Rattle.experiment.specs.declared.marks.Restarting.{Restarting}
use Rattle.experiment.specs.declared.marks.ListedCall.{ListedCall}
use Rattle.experiment.specs.declared.marks.Injection.{Injection}
use Rattle.experiment.specs.declared.marks.Shifting.{Shifting}
use Rattle.experiment.specs.Grammar.{refused}
use Rattle.experiment.specs.Marks.{last_at}

-- all that happens, by its kind and in the order of its lines
pub record Happening : Type 0 where
  pub restarts : List Restarting
  pub listed : List ListedCall
  pub injections : List Injection
  pub shifts : List Shifting

abbrev pub happening : Happenings → Happening
happening h = record { restarts = h.restarts.items; listed = h.listed.items; injections = h.injections.items; shifts = h.shifts.items }

-- one restart more
abbrev pub restarted : Happening → Restarting → Result Happening Refusal
restarted h r = if nat_lt (length h.restarts) 64 then Ok (record h { restarts = h.restarts ++ r ∷ [] }) else refused 1 (TooMany 64)

-- one call more
abbrev pub called : Happening → ListedCall → Result Happening Refusal
called h c =
    if nat_lt c.at (last_at h.listed) then refused 5 Before
    else if nat_lt (length h.listed) 100000000 then Ok (record h { listed = h.listed ++ c ∷ [] })
    else refused 1 (TooMany 100000000)

-- one datagram more
abbrev pub injected : Happening → Injection → Result Happening Refusal
injected h i = if nat_lt (length h.injections) 100000 then Ok (record h { injections = h.injections ++ i ∷ [] }) else refused 1 (TooMany 100000)

-- one clock more
abbrev pub shifted : Happening → Shifting → Result Happening Refusal
shifted h s = if nat_lt (length h.shifts) 100000 then Ok (record h { shifts = h.shifts ++ s ∷ [] }) else refused 1 (TooMany 100000)
