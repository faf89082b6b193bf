-- How long messages take alone.
use Rattle.std.specs.Prelude.{ℕ, ◌+◌, ◌*◌, ◌==◌, min, if◌then◌else◌}
use Rattle.experiment.specs.declared.trial.Experiment.{Experiment}
use Rattle.experiment.specs.Wires.{wire, cut_for}

-- the bytes of a message on a link, and those of its longest frame once more, on the other link
abbrev pub bytes_alone : Experiment → ℕ → ℕ
bytes_alone e n = wire (cut_for e.settings e.network.overhead) n + wire (cut_for e.settings e.network.overhead) (min n e.settings.seg)

-- from the first bit of a message until its receiver has the last one: the time of these bytes, two delays of links, that of the switch and that of the host
abbrev pub message_alone : Experiment → ℕ → ℕ
message_alone e n = e.network.byte * bytes_alone e n + 2 * e.network.delay + e.network.switch + e.network.host_delay

-- a call: its request, its service, and its response
abbrev pub call_alone : Experiment → ℕ → ℕ → ℕ
call_alone e request response = message_alone e request + message_alone e response + e.network.service_time

-- the bytes of the answer to a request
abbrev pub answer_of : Experiment → ℕ → ℕ
answer_of e request = if e.load.service == 1 then 8 else request
