-- The experiment that was said.
use Rattle.std.specs.Prelude.{◌≡◌, ℕ, ◌*◌, ◌/◌, ◌==◌, if◌then◌else◌, Option, None, Result, Ok, Err, List, [], length}
use Rattle.homa_plain.specs.declared.settings.Settings.{Settings}
use Rattle.homa_plain.specs.Settings.{usual, verdict}
use Rattle.experiment.specs.declared.amounts.Amount.TheVariants.{Link, Delay, Switch, HostDelay, ServiceTime, Overhead, Buffer, CardLimit, Tick, Spread}
use Rattle.experiment.specs.declared.amounts.Amount.TheVariants.{Loss, Repeat, Jitter, Load as Filled, Exact, Service, Incast, Burst, Warm, Measure}
use Rattle.experiment.specs.declared.amounts.Amount.TheVariants.{Seed, Seeds, Parts, Events}
use Rattle.experiment.specs.declared.fault.ExperimentFault.{ExperimentFault}
use Rattle.experiment.specs.declared.load.Hot.{Hot}
use Rattle.experiment.specs.declared.load.Load.{Load}
use Rattle.experiment.specs.declared.network.Card.{Card}
use Rattle.experiment.specs.declared.network.Card.TheVariants.{Levels}
use Rattle.experiment.specs.declared.network.Network.{Network}
use Rattle.experiment.specs.declared.numbers.TheConstants.{USUAL}
use Rattle.experiment.specs.declared.trial.Experiment.{Experiment}
use Rattle.experiment.specs.Amounts.{number_of, is_yes}
use Rattle.experiment.specs.Drafts.{Drafting}
use Rattle.experiment.specs.Fits.{settings_by, restarts_fit, calls_fit, injections_fit, shifts_fit, incast_fits, hot_fits}
use Rattle.experiment.specs.Sizes.{numbered as of_number}

-- the settings of the hosts where no line says them
abbrev pub usual_settings : Settings
usual_settings = record usual {
  hosts = 16;
  rate = 2800;
  resend = 200;
  life = 400;
  pages = 4096;
  calls = 1024;
  served = 4096;
  rebalance = 1024;
}

-- what holds before the first line
abbrev pub nothing_said : Drafting
nothing_said = record {
  settings = usual_settings;
  numbers = USUAL;
  card = Levels;
  hot = None;
  sizes = of_number 2;
  happenings = record { restarts = []; listed = []; injections = []; shifts = [] };
  setting_line = 0;
  incast_line = 0;
  hot_line = 0;
}

-- the first of two faults
abbrev pub both : Result (Unit {0}) ExperimentFault → Result (Unit {0}) ExperimentFault → Result (Unit {0}) ExperimentFault
both (Ok done) next = next
both (Err fault) next = Err fault

-- whether what was said fits together, or the line that is wrong
abbrev pub checked : Drafting → Result (Unit {0}) ExperimentFault
checked d =
    both (settings_by d.setting_line (verdict d.settings))
    (both (restarts_fit d.settings.hosts d.happenings.restarts)
    (both (calls_fit d.settings.hosts d.happenings.listed)
    (both (injections_fit d.settings.hosts d.happenings.injections)
    (both (shifts_fit d.settings.hosts d.settings.skew d.happenings.shifts)
    (both (incast_fits d.settings.hosts (number_of d.numbers Incast) d.incast_line) (hot_fits d.settings.hosts d.hot_line d.hot))))))

-- the network of these numbers, with this card
pub record IsNetwork (numbers : List ℕ) (card : Card) (network : Network) : Type 0 where
  pub byte : network.byte ≡ 8000000 / number_of numbers Link
  pub delay : network.delay ≡ number_of numbers Delay * 1000
  pub switch : network.switch ≡ number_of numbers Switch * 1000
  pub host_delay : network.host_delay ≡ number_of numbers HostDelay * 1000
  pub service_time : network.service_time ≡ number_of numbers ServiceTime * 1000
  pub overhead : network.overhead ≡ number_of numbers Overhead
  pub buffer : network.buffer ≡ number_of numbers Buffer
  pub kind : network.card ≡ card
  pub card_limit : network.card_limit ≡ number_of numbers CardLimit
  pub tick : network.tick ≡ number_of numbers Tick * 1000
  pub is_spread : network.is_spread ≡ is_yes (number_of numbers Spread)
  pub loss : network.loss ≡ number_of numbers Loss
  pub repeat : network.repeat ≡ number_of numbers Repeat
  pub jitter : network.jitter ≡ number_of numbers Jitter * 1000

-- the load of these numbers; if calls are listed, all of them are measured, and none is made before them
pub record IsLoad (numbers : List ℕ) (hot : Option Hot) (listed : ℕ) (load : Load) : Type 0 where
  pub filled : load.load ≡ number_of numbers Filled
  pub is_exact : load.is_exact ≡ is_yes (number_of numbers Exact)
  pub service : load.service ≡ number_of numbers Service
  pub incast : load.incast ≡ number_of numbers Incast
  pub burst : load.burst ≡ number_of numbers Burst
  pub named : load.hot ≡ hot
  pub warm : load.warm ≡ (if listed == 0 then number_of numbers Warm else 0)
  pub calls : load.calls ≡ (if listed == 0 then number_of numbers Measure else listed)
  pub seed : load.seed ≡ number_of numbers Seed
  pub seeds : load.seeds ≡ number_of numbers Seeds
  pub parts : load.parts ≡ number_of numbers Parts
  pub events : load.events ≡ number_of numbers Events

-- an experiment is what was said
pub record IsMade (d : Drafting) (e : Experiment) : Type 0 where
  pub settings : e.settings ≡ d.settings
  pub network : IsNetwork d.numbers d.card e.network
  pub load : IsLoad d.numbers d.hot (length d.happenings.listed) e.load
  pub workload : e.workload ≡ d.sizes.steps
  pub numbered : e.numbered ≡ d.sizes.numbered
  pub restarts : e.restarts.items ≡ d.happenings.restarts
  pub listed : e.listed.items ≡ d.happenings.listed
  pub injections : e.injections.items ≡ d.happenings.injections
  pub shifts : e.shifts.items ≡ d.happenings.shifts
