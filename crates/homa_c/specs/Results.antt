-- What C is answered.
use Rattle.std.specs.Prelude.{ℕ, nat_le, nat_lt, ◌==◌, ◌&&◌, Bool, not, if◌then◌else◌, Option, Some, None, Result, Ok, Err, is_err}
use Rattle.homa_plain.specs.declared.settings.SettingFault.{SettingFault}
use Rattle.homa_plain.specs.declared.settings.SettingFault.TheVariants.{OutOfRange, UnschedOverWindow, RateUnderSeg}
use Rattle.homa_plain.specs.declared.settings.Name.{Name}
use Rattle.homa_plain.specs.declared.settings.Name.TheVariants.{Hosts, Seg, Window, Unsched, Overcommit, Rate, Resend, Tries, Life, Pages, Calls}
use Rattle.homa_plain.specs.declared.settings.Name.TheVariants.{Served, Rebalance, Skew, Wire}
use Rattle.homa_plain.specs.Limits.{last_host_tick}
use Rattle.homa_plain.specs.Settings.{verdict}
use Rattle.driven_host.specs.declared.faults.StepFault.{StepFault}
use Rattle.driven_host.specs.declared.faults.StepFault.TheVariants.{NoHost, Spent, Back, Empty, TooLong, TooManyPages, CallsFull}
use Rattle.late_host.specs.declared.outcomes.Heard.{Heard}
use Rattle.late_host.specs.declared.outcomes.Heard.TheVariants as heard
use Rattle.late_host.specs.declared.outcomes.Answered.{Answered}
use Rattle.late_host.specs.declared.outcomes.Answered.TheVariants as answered
use Rattle.homa_c.specs.declared.settings.HomaSettings.{HomaSettings}
use Rattle.homa_c.specs.Shown.{given_settings}

-- why no step begins: FULL and SPENT; and BAD_HOST, BAD_TICK, NO_BYTES, TOO_LONG and TOO_MANY_PAGES, which are mistakes
abbrev pub fault_code : StepFault → ℕ
fault_code CallsFull = 4
fault_code Spent = 5
fault_code NoHost = 19
fault_code Back = 21
fault_code Empty = 22
fault_code TooLong = 23
fault_code TooManyPages = 24

-- the same, and OK where there is no cause
abbrev pub code : Option StepFault → ℕ
code None = 0
code (Some fault) = fault_code fault

-- what came of a datagram at a host that keeps what asks: OK, ASKS, AT_WORK, FULL, NO_MEMORY, or why no step began
abbrev pub heard_code : Heard → ℕ
heard_code heard.Taken = 0
heard_code (heard.Ran id) = 0
heard_code (heard.Asks e) = 1
heard_code (heard.AtWork id) = 6
heard_code (heard.Full id) = 4
heard_code heard.NoMemory = 3
heard_code (heard.Refused fault) = fault_code fault

-- what came of an answer: OK, LATER, GONE, NO_MEMORY, or why it can't be given
abbrev pub settled_code : Answered → ℕ
settled_code answered.Ran = 0
settled_code answered.Held = 0
settled_code answered.Later = 7
settled_code answered.Gone = 8
settled_code answered.NoMemory = 3
settled_code (answered.Refused fault) = fault_code fault

-- the place of a setting among the settings, from 1
abbrev pub name_code : Name → ℕ
name_code Hosts = 1
name_code Seg = 2
name_code Window = 3
name_code Unsched = 4
name_code Overcommit = 5
name_code Rate = 6
name_code Resend = 7
name_code Tries = 8
name_code Life = 9
name_code Pages = 10
name_code Calls = 11
name_code Served = 12
name_code Rebalance = 13
name_code Skew = 14
name_code Wire = 15

-- what is wrong with settings: nothing, the first that is outside its range, or two that don't go together
abbrev pub setting_code : Result (Unit {0}) SettingFault → ℕ
setting_code (Ok valid) = 0
setting_code (Err (OutOfRange name)) = name_code name
setting_code (Err UnschedOverWindow) = 16
setting_code (Err RateUnderSeg) = 17

-- why a host can't be opened: IS_OPEN, BAD_SETTING, BAD_HOST, BAD_INCARNATION or BAD_TICK; OK where there is no cause
abbrev pub open_code : Bool → HomaSettings → ℕ → ℕ → ℕ → ℕ
open_code is_open s id inc last =
    if is_open then 17
    else if is_err (verdict (given_settings s)) then 18
    else if nat_le s.hosts id then 19
    else if inc == 0 then 20
    else if nat_lt last_host_tick last then 21
    else 0

-- a host with these settings can keep so many calls, for so many ticks
abbrev pub can_keep : HomaSettings → ℕ → ℕ → Bool
can_keep s kept keep = nat_le 1 kept && nat_le kept 4096 && nat_le keep s.life

-- why a host that keeps what asks can't be opened: as above, and BAD_SETTING also where it can't keep so many calls for so many ticks
abbrev pub open_late_code : Bool → HomaSettings → ℕ → ℕ → ℕ → ℕ → ℕ → ℕ
open_late_code is_open s id inc last kept keep =
    if not is_open && not (can_keep s kept keep) then 18 else open_code is_open s id inc last
