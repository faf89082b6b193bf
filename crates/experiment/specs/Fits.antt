-- What makes of what was said an experiment, or which line is wrong.
use Rattle.std.specs.Prelude.{ℕ, ◌*◌, nat_lt, nat_le, if◌then◌else◌, Option, None, Some, Result, Ok, Err, List, [], ◌∷◌}
use Rattle.homa_plain.specs.declared.settings.SettingFault.{SettingFault}
use Rattle.homa_plain.specs.declared.settings.SettingFault.TheVariants.{OutOfRange, UnschedOverWindow, RateUnderSeg}
use Rattle.homa_plain.specs.declared.settings.Name.TheVariants.{Skew}
use Rattle.experiment.specs.declared.amounts.Amount.TheVariants.{Incast}
use Rattle.experiment.specs.declared.fault.Wrong.{Wrong}
use Rattle.experiment.specs.declared.fault.Wrong.TheVariants as wrong
use Rattle.experiment.specs.declared.fault.ExperimentFault.{ExperimentFault}
use Rattle.experiment.specs.declared.fault.ExperimentFault.TheVariants.{Said}
use Rattle.experiment.specs.declared.load.Hot.{Hot}
use Rattle.experiment.specs.declared.marks.Restarting.{Restarting}
use Rattle.experiment.specs.declared.marks.ListedCall.{ListedCall}
use Rattle.experiment.specs.declared.marks.Injection.{Injection}
use Rattle.experiment.specs.declared.marks.Shifting.{Shifting}

-- this word of this line is wrong
abbrev pub said : (line word : ℕ) → Wrong → Result (Unit {0}) ExperimentFault
said line word what = Err (Said line word what)

-- the settings are valid
abbrev pub settings_by : ℕ → Result (Unit {0}) SettingFault → Result (Unit {0}) ExperimentFault
settings_by line (Ok valid) = Ok tt
settings_by line (Err (OutOfRange name)) = said line 2 (wrong.Setting name)
settings_by line (Err UnschedOverWindow) = said line 2 wrong.UnschedOverWindow
settings_by line (Err RateUnderSeg) = said line 2 wrong.RateUnderSeg

-- the hosts of restarts are hosts
abbrev pub restarts_fit : ℕ → List Restarting → Result (Unit {0}) ExperimentFault
restarts_fit hosts [] = Ok tt
restarts_fit hosts (r ∷ rest) = if nat_lt r.host.0 hosts then restarts_fit hosts rest else said r.line 2 wrong.Host

-- the hosts of calls are hosts
abbrev pub calls_fit : ℕ → List ListedCall → Result (Unit {0}) ExperimentFault
calls_fit hosts [] = Ok tt
calls_fit hosts (c ∷ rest) =
    if nat_lt c.client.0 hosts then (if nat_lt c.server.0 hosts then calls_fit hosts rest else said c.line 3 wrong.Host) else said c.line 2 wrong.Host

-- the hosts of datagrams are hosts
abbrev pub injections_fit : ℕ → List Injection → Result (Unit {0}) ExperimentFault
injections_fit hosts [] = Ok tt
injections_fit hosts (i ∷ rest) = if nat_lt i.host.0 hosts then injections_fit hosts rest else said i.line 2 wrong.Host

-- the hosts of clocks are hosts, and none is set further ahead than twice the skew
abbrev pub shifts_fit : (hosts skew : ℕ) → List Shifting → Result (Unit {0}) ExperimentFault
shifts_fit hosts skew [] = Ok tt
shifts_fit hosts skew (s ∷ rest) =
    if nat_lt s.host.0 hosts then (if nat_le s.ticks (2 * skew) then shifts_fit hosts skew rest else said s.line 3 (wrong.AgainstSetting Skew))
    else said s.line 2 wrong.Host

-- there are more hosts than clients of an incast
abbrev pub incast_fits : (hosts incast line : ℕ) → Result (Unit {0}) ExperimentFault
incast_fits hosts incast line = if nat_lt incast hosts then Ok tt else said line 2 (wrong.Against Incast)

-- the host to which more calls go is a host
abbrev pub hot_fits : (hosts line : ℕ) → Option Hot → Result (Unit {0}) ExperimentFault
hot_fits hosts line None = Ok tt
hot_fits hosts line (Some hot) = if nat_lt hot.host.0 hosts then Ok tt else said line 2 wrong.Host
