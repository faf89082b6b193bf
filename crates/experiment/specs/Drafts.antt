-- What the lines of an experiment said so far, and what makes it an experiment.
use Rattle.std.specs.Prelude.{ℕ, if◌then◌else◌, Option, Some, Result, Ok, Err, List, slice_set, ◌==◌}
use Rattle.homa_plain.specs.declared.settings.Settings.{Settings}
use Rattle.homa_plain.specs.declared.settings.SettingFault.{SettingFault}
use Rattle.homa_plain.specs.declared.settings.SettingFault.TheVariants.{OutOfRange, UnschedOverWindow, RateUnderSeg}
use Rattle.homa_plain.specs.declared.settings.Name.{Name}
use Rattle.homa_plain.specs.Settings.{verdict}
use Rattle.homa_plain.specs.Script.{with_setting}
use Rattle.experiment.specs.declared.amounts.Amount.{Amount}
use Rattle.experiment.specs.declared.fault.Refusal.{Refusal}
use Rattle.experiment.specs.declared.fault.Wrong.TheVariants as wrong
use Rattle.experiment.specs.declared.draft.Draft.{Draft}
use Rattle.experiment.specs.declared.statement.Statement.{Statement}
use Rattle.experiment.specs.declared.statement.Statement.TheVariants as line
use Rattle.experiment.specs.declared.load.Hot.{Hot}
use Rattle.experiment.specs.declared.network.Card.{Card}
use Rattle.experiment.specs.Amounts.{index}
use Rattle.experiment.specs.Grammar.{◌>>=◌, refused}
use Rattle.experiment.specs.Sizes.{Sizing, sizing, numbered, sized, lengthened, cumulated}
use Rattle.experiment.specs.Happenings.{Happening, happening, restarted, called, injected, shifted}

-- what was said, and the last lines of a setting, of `incast` and of `hot`
pub record Drafting : Type 0 where
  pub settings : Settings
  pub numbers : List ℕ
  pub card : Card
  pub hot : Option Hot
  pub sizes : Sizing
  pub happenings : Happening
  pub setting_line : ℕ
  pub incast_line : ℕ
  pub hot_line : ℕ

abbrev pub drafting : Draft → Drafting
drafting d = record {
  settings = d.settings;
  numbers = d.numbers;
  card = d.card;
  hot = d.hot;
  sizes = sizing d.sizes;
  happenings = happening d.happenings;
  setting_line = d.setting_line;
  incast_line = d.incast_line;
  hot_line = d.hot_line;
}

-- a setting has another number, unless it is outside its range
abbrev pub set_by : Result (Unit {0}) SettingFault → Drafting → ℕ → Name → ℕ → Result Drafting Refusal
set_by (Ok valid) d line name n = Ok (record d { settings = with_setting d.settings name n; setting_line = line })
set_by (Err (OutOfRange outside)) d line name n = refused 2 (wrong.Setting name)
set_by (Err UnschedOverWindow) d line name n = Ok (record d { settings = with_setting d.settings name n; setting_line = line })
set_by (Err RateUnderSeg) d line name n = Ok (record d { settings = with_setting d.settings name n; setting_line = line })

abbrev pub setting_set : Drafting → ℕ → Name → ℕ → Result Drafting Refusal
setting_set d line name n = set_by (verdict (with_setting d.settings name n)) d line name n

-- the last line of `incast`, where line `line` says this amount
abbrev pub incast_at : Drafting → ℕ → Amount → ℕ
incast_at d line amount = if index amount == 16 then line else d.incast_line

-- an amount has another number
abbrev pub amount_set : Drafting → ℕ → Amount → ℕ → Drafting
amount_set d line amount n = record d { numbers = slice_set d.numbers (index amount) n; incast_line = incast_at d line amount }

-- what was said after line n, or why that is refused
abbrev pub after : Drafting → ℕ → Statement → Result Drafting Refusal
after d n line.Blank = Ok d
after d n (line.Setting name m) = setting_set d n name m
after d n (line.Amount amount m) = Ok (amount_set d n amount m)
after d n (line.Workload m) = Ok (record d { sizes = numbered m })
after d n (line.Size upto share) = sized d.sizes upto share >>= λ s. Ok (record d { sizes = s })
after d n (line.Length upto share) = lengthened d.sizes upto share >>= λ s. Ok (record d { sizes = s })
after d n (line.Cumulative upto sum) = cumulated d.sizes upto sum >>= λ s. Ok (record d { sizes = s })
after d n (line.Card card) = Ok (record d { card = card })
after d n (line.Hot hot) = Ok (record d { hot = Some hot; hot_line = n })
after d n (line.Restart r) = restarted d.happenings r >>= λ h. Ok (record d { happenings = h })
after d n (line.Call c) = called d.happenings c >>= λ h. Ok (record d { happenings = h })
after d n (line.Inject i) = injected d.happenings i >>= λ h. Ok (record d { happenings = h })
after d n (line.Shift s) = shifted d.happenings s >>= λ h. Ok (record d { happenings = h })
