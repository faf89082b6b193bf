-- The settings of a run, and which are valid.
use Rattle.std.specs.Prelude.{ℕ, ◌+◌, ◌-◌, ◌*◌, ◌≤◌, ◌==◌, nat_lt, ◌||◌, if◌then◌else◌, Option, None, Some, Result, Ok, Err, List, [], ◌∷◌}
use Rattle.homa_plain.specs.declared.settings.Settings.{Settings}
use Rattle.homa_plain.specs.declared.settings.Limits.{Limits}
use Rattle.homa_plain.specs.declared.settings.Name.{Name}
use Rattle.homa_plain.specs.declared.settings.Name.TheVariants.{Hosts, Seg, Window, Unsched, Overcommit, Rate, Resend, Tries, Life, Pages, Calls}
use Rattle.homa_plain.specs.declared.settings.Name.TheVariants.{Served, Rebalance, Skew, Wire}
use Rattle.homa_plain.specs.declared.settings.SettingFault.{SettingFault}
use Rattle.homa_plain.specs.declared.settings.SettingFault.TheVariants.{OutOfRange, UnschedOverWindow, RateUnderSeg}
use Rattle.homa_plain.specs.Limits.{longest_message}

-- a setting, the least and the most that it may be, and what it is
abbrev pub between : Name → ℕ → ℕ → ℕ → Limits
between name least most value = record { name = name; least = least; most = most; value = value }

-- the settings in their order
abbrev pub ranges : Settings → List Limits
ranges s =
    between Hosts 2 32 s.hosts ∷
    between Seg 1 1400 s.seg ∷
    between Window 1 longest_message s.window ∷
    between Unsched 1 longest_message s.unsched ∷
    between Overcommit 1 7 s.overcommit ∷
    between Rate 1 longest_message s.rate ∷
    between Resend 1 1000 s.resend ∷
    between Tries 1 100 s.tries ∷
    between Life 1 100000 s.life ∷
    between Pages 1 4096 s.pages ∷
    between Calls 1 1024 s.calls ∷
    between Served 1 4096 s.served ∷
    between Rebalance 0 1024 s.rebalance ∷
    between Skew 0 1000 s.skew ∷
    between Wire 1 2 s.wire ∷ []

-- each setting is in its range
abbrev pub AllInRange : List Limits → Type 0
AllInRange [] = Unit {0}
AllInRange (r ∷ rest) = (r.least ≤ r.value) × (r.value ≤ r.most) × AllInRange rest

-- settings that a run may have
pub record IsValid (s : Settings) : Type 0 where
  pub in_range : AllInRange (ranges s)
  pub unsched : s.unsched ≤ s.window
  pub rate : s.seg ≤ s.rate

-- the first setting that is outside its range
abbrev pub first_outside : List Limits → Option Name
first_outside [] = None
first_outside (r ∷ rest) = if nat_lt r.value r.least || nat_lt r.most r.value then Some r.name else first_outside rest

-- what is wrong with settings, where this is the first one outside its range, or none is outside
abbrev pub verdict_by : Settings → Option Name → Result (Unit {0}) SettingFault
verdict_by s (Some name) = Err (OutOfRange name)
verdict_by s None = if nat_lt s.window s.unsched then Err UnschedOverWindow else if nat_lt s.rate s.seg then Err RateUnderSeg else Ok tt

-- what is wrong with settings, if anything is
abbrev pub verdict : Settings → Result (Unit {0}) SettingFault
verdict s = verdict_by s (first_outside (ranges s))

-- the number of a setting
abbrev pub setting : Settings → Name → ℕ
setting s Hosts = s.hosts
setting s Seg = s.seg
setting s Window = s.window
setting s Unsched = s.unsched
setting s Overcommit = s.overcommit
setting s Rate = s.rate
setting s Resend = s.resend
setting s Tries = s.tries
setting s Life = s.life
setting s Pages = s.pages
setting s Calls = s.calls
setting s Served = s.served
setting s Rebalance = s.rebalance
setting s Skew = s.skew
setting s Wire = s.wire

-- the settings that hold where none are given
abbrev pub usual : Settings
usual = record {
  hosts = 2;
  seg = 1400;
  window = 10000;
  unsched = 10000;
  overcommit = 4;
  rate = 14000;
  resend = 4;
  tries = 5;
  life = 20;
  pages = 1024;
  calls = 256;
  served = 1024;
  rebalance = 0;
  skew = 0;
  wire = 1;
}

-- how many rows a host has: those of its own calls, and those that it serves
abbrev pub slots : Settings → ℕ
slots s = s.calls + s.served

-- the level of a RESEND and of what it asks for: that of the first message that is granted to
abbrev pub asking_level : Settings → ℕ
asking_level s = s.overcommit - 1

-- the patience: after so many silent ticks a row gives up
abbrev pub patience : Settings → ℕ
patience s = s.resend * (s.tries + 1)

-- the accepted life: for how many ticks a packet may be taken; with version 2 the receiver itself refuses it later
abbrev pub accepted_life : Settings → ℕ
accepted_life s = if s.wire == 1 then s.life else s.life + 4 * s.skew

-- the band: by how many ticks two hosts' clocks may differ
-- A rule of this project.
abbrev pub band : Settings → ℕ
band s = 2 * s.skew

-- the span: how long a packet may still have an effect
-- A rule of this project.
abbrev pub span : Settings → ℕ
span s = accepted_life s + band s
