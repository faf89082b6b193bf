-- How many lines of each kind a trace has, in the order of the summary.
use Rattle.std.specs.Prelude.{◌≡◌, ℕ, ◌+◌, ◌-◌, ◌^◌, Option, None, Some, List, [], ◌∷◌, map, replicate, slice_set, slice_index_or, codes}
use Rattle.std.specs.List.{flat_map}
use Rattle.homa_plain.specs.Entries.{PlainEntry}
use Rattle.homa_plain.specs.Kinds.{kinds as packet_kinds, kind_number, kind_name}
use Rattle.generated_runs.specs.Generated.{summary_line}
use Rattle.homa_world.specs.declared.kinds.LineKind.{LineKind}
use Rattle.homa_world.specs.declared.kinds.LineKind.TheVariants as line
use Rattle.homa_world.specs.Kinds.{kind_of}

-- all kinds, in the order of the summary: those of packets stand last, by their numbers
abbrev pub kinds : List LineKind
kinds = line.Call ∷ line.Run ∷ line.Done ∷ line.Timeout ∷ line.Forgotten ∷ line.Deliver ∷ line.Clock ∷ map line.Sent packet_kinds

-- a kind's place there
abbrev pub place : LineKind → ℕ
place line.Call = 0
place line.Run = 1
place line.Done = 2
place line.Timeout = 3
place line.Forgotten = 4
place line.Deliver = 5
place line.Clock = 6
place (line.Sent kind) = 6 + kind_number kind

-- a kind's name there
abbrev pub name : LineKind → List ℕ
name line.Call = codes "calls"
name line.Run = codes "runs"
name line.Done = codes "done"
name line.Timeout = codes "timeout"
name line.Forgotten = codes "forgotten"
name line.Deliver = codes "deliver"
name line.Clock = codes "clock"
name (line.Sent kind) = kind_name kind

-- how many lines of a kind were counted
abbrev pub number_of : List ℕ → LineKind → ℕ
number_of counts k = slice_index_or counts (place k) 0

-- with one more of a kind
abbrev pub one_more : List ℕ → Option LineKind → List ℕ
one_more counts None = counts
one_more counts (Some k) = slice_set counts (place k) (number_of counts k + 1)

-- with these entries
abbrev pub counted : List ℕ → List PlainEntry → List ℕ
counted counts [] = counts
counted counts (e ∷ es) = counted (one_more counts (kind_of e)) es

-- it is a kind whose number has no room left
abbrev pub IsFullOf : List ℕ → Option LineKind → Type 0
IsFullOf counts kind = (k : LineKind) × (kind ≡ Some k) × (number_of counts k ≡ 2 ^ 64 - 1)

-- no line was counted
abbrev pub no_counts : List ℕ
no_counts = replicate 15 0

-- the line of a kind
abbrev pub count_line : List ℕ → LineKind → List ℕ
count_line counts k = summary_line (name k) (number_of counts k)

-- the lines of these counts
abbrev pub counts_text : List ℕ → List ℕ
counts_text counts = flat_map (count_line counts) kinds
