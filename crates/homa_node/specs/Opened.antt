-- A script that is read up to `go`.
use Rattle.std.specs.Prelude.{◌≡◌, ◌^◌, ℕ, Option, Result, Ok, Err, List}
use Rattle.homa_plain.specs.declared.settings.Settings.{Settings}
use Rattle.node_runs.specs.Course.{locals as local_hosts}
use Rattle.node_runs.specs.Script.{opening, Opened, unopened}
use Rattle.node_turns.specs.declared.stop.NodeStop.{NodeStop}
use Rattle.node_turns.specs.declared.stop.NodeStop.TheVariants.{Script, Read, NoMemory}
use Rattle.script_lines.specs.Place.{Place, IsCounted}
use Rattle.script_lines.specs.Read.{IsRead, IsCut}
use Rattle.node_script.specs.declared.setup.Setup.{Setup}
use Rattle.node_script.specs.declared.stop.SetupStop.{SetupStop}
use Rattle.node_script.specs.declared.stop.SetupStop.TheVariants as setup
use Rattle.node_script.specs.Heads.{setup_seen}
use Rattle.node_script.specs.Calls.{calls_left}
use Rattle.homa_node.specs.declared.opening.Node.{Node}

-- why the lines up to `go` give no setup
abbrev pub opening_stop : ℕ → SetupStop → NodeStop
opening_stop line setup.NoMemory = NoMemory
opening_stop line (setup.Read failed) = Read
opening_stop line (setup.Fault fault) = Script line fault

-- the setup and the calls behind it, or the refusal, are those of the definition, whatever stands behind; or reading stopped
abbrev pub HasOpened : ℕ → Place → List ℕ → Option (List ℕ) → Result Setup NodeStop → Type 0
HasOpened limit new bytes left (Ok s) = IsRead bytes left (opening limit) (λ more. Opened (setup_seen s) (calls_left (setup_seen s) 0 new more))
HasOpened limit new bytes left (Err (Script line fault)) = IsRead bytes left (opening limit) (λ more. unopened line fault)
HasOpened limit new bytes left (Err Read) = IsCut bytes left
HasOpened limit new bytes left (Err NoMemory) = IsCut bytes left
HasOpened limit new bytes left (Err stop) = ⊥

-- a node behind `go`: its calls are still to be read, its local hosts are those of its setup, and its hosts have done nothing
pub record StandsAtGo {H : Type 0} (set : H → Settings) (tick done : H → ℕ) (node : Node H) : Type 0 where
  pub counted : IsCounted node.reader.place
  pub limit : node.reader.place.limit ≡ 2 ^ 36
  pub locals : node.locals.items ≡ local_hosts (setup_seen node.setup)
  pub settings : set node.hosts ≡ node.setup.settings
  pub clock : tick node.hosts ≡ 0
  pub steps : done node.hosts ≡ 0
