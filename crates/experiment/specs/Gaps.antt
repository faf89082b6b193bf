-- How far apart calls are.
use Rattle.std.specs.Prelude.{ℕ, ◌+◌, ◌*◌, ◌/◌, ◌^◌, ◌==◌, min, nat_lt, if◌then◌else◌}
use Rattle.rand_pcg.specs.Lcg.{Lcg, started, increment_of}
use Rattle.rand_pcg.specs.Pcg.{multiplier_64}
use Rattle.experiment.specs.declared.load.Load.{Load}
use Rattle.experiment.specs.declared.trial.Experiment.{Experiment}
use Rattle.experiment.specs.Wires.{Cut, cut_for, wire}
use Rattle.experiment.specs.Tables.{after_lengths, wires_drawn, mean_wire}

-- how an experiment's messages are cut
abbrev pub cut_in : Experiment → Cut
cut_in e = cut_for e.settings e.network.overhead

-- the bytes of the answer to a request
abbrev pub answer_length : Load → ℕ → ℕ
answer_length load n = if load.service == 1 then 8 else n

-- the generator of a seed's lengths
abbrev pub lengths_of : ℕ → Lcg
lengths_of seed = started 64 multiplier_64 seed (increment_of 64 2)

-- the mean of the bytes on the wire of a seed's requests that are measured, in 1000ths: those before them are drawn too
abbrev pub mean_of_seed : Experiment → ℕ → ℕ
mean_of_seed e seed =
    wires_drawn (cut_in e) e.load.calls e.workload (after_lengths e.load.warm e.workload (lengths_of seed)) * 1000 / e.load.calls

-- the mean of the bytes on the wire of a request, in 1000ths: of a seed's own lengths, or of the table's
abbrev pub mean_asked : Experiment → ℕ → ℕ
mean_asked e seed = if e.load.is_exact then mean_of_seed e seed else mean_wire (cut_in e) e.workload

-- the bytes on a link that is to be filled, in 1000ths: of both messages of a call, which each have a link; or of all requests of an incast
abbrev pub bytes_at_once : Experiment → ℕ → ℕ
bytes_at_once e asked =
    if nat_lt 0 e.load.incast then asked * e.load.incast
    else if e.load.service == 1 then asked + wire (cut_in e) 8 * 1000
    else asked * 2

-- the mean gap in picoseconds: the bytes of as many calls as are made at once take so many of 1000 parts of it; at most 20 hours
abbrev pub gap_of : Experiment → ℕ → ℕ
gap_of e seed = min (e.network.byte * e.load.burst * bytes_at_once e (mean_asked e seed) / e.load.load) (2 ^ 56)
