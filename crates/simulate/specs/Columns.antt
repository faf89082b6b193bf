-- The columns of each kind of line, by name.
use Rattle.std.specs.Prelude.{ℕ, List, [], ◌∷◌, ◌++◌, codes}

-- what of the links was asked, offered and taken
abbrev pub taken_names : List (List ℕ)
taken_names =
    codes "seed" ∷ codes "window_ns" ∷ codes "run_ns" ∷ codes "asked" ∷ codes "offered" ∷ codes "up" ∷ codes "down" ∷ codes "hot_host"
    ∷ codes "hot_down" ∷ codes "data" ∷ codes "again" ∷ codes "control" ∷ codes "withheld" ∷ codes "wasted" ∷ codes "coming" ∷ codes "unsent"
    ∷ codes "empty" ∷ []

-- how the calls that were measured ended, and the packets of the window
abbrev pub ended_names : List (List ℕ)
ended_names =
    codes "done" ∷ codes "failed" ∷ codes "open" ∷ codes "resends" ∷ codes "again_bytes" ∷ codes "bytes" ∷ codes "packets" ∷ codes "cutoffs" ∷ []

-- what became of the packets of the whole run, and what went wrong in it
abbrev pub fates_names : List (List ℕ)
fates_names =
    codes "sent" ∷ codes "repeated" ∷ codes "delivered" ∷ codes "lost" ∷ codes "full" ∷ codes "old" ∷ codes "under_way" ∷ codes "left_out"
    ∷ codes "dropped" ∷ codes "refused" ∷ codes "held" ∷ codes "events" ∷ []

-- what waited at cards and outputs
abbrev pub queues_names : List (List ℕ)
queues_names =
    codes "card_most" ∷ codes "card_mean" ∷ codes "card_little" ∷ codes "card_wait_ns" ∷ codes "out_most" ∷ codes "out_mean" ∷ codes "out_little"
    ∷ codes "out_wait_ns" ∷ []

-- the most bytes that waited at an output, by level
abbrev pub most_names : List (List ℕ)
most_names =
    codes "most0" ∷ codes "most1" ∷ codes "most2" ∷ codes "most3" ∷ codes "most4" ∷ codes "most5" ∷ codes "most6" ∷ codes "most7" ∷ []

-- their mean, by level
abbrev pub means_names : List (List ℕ)
means_names =
    codes "mean0" ∷ codes "mean1" ∷ codes "mean2" ∷ codes "mean3" ∷ codes "mean4" ∷ codes "mean5" ∷ codes "mean6" ∷ codes "mean7" ∷ []

-- each level's share of the bytes
abbrev pub shares_names : List (List ℕ)
shares_names =
    codes "share0" ∷ codes "share1" ∷ codes "share2" ∷ codes "share3" ∷ codes "share4" ∷ codes "share5" ∷ codes "share6" ∷ codes "share7" ∷ []

-- the waits of a call
abbrev pub waits_names : List (List ℕ)
waits_names =
    codes "call_card_ns" ∷ codes "call_out_ns" ∷ codes "call_grant_ns" ∷ codes "call_credit_ns" ∷ []

-- those of the line of a run
abbrev pub totals_names : List (List ℕ)
totals_names =
    taken_names ++ ended_names ++ fates_names ++ queues_names ++ most_names ++ means_names ++ shares_names ++ waits_names

-- those of the line of a call
abbrev pub call_names : List (List ℕ)
call_names =
    codes "seed" ∷ codes "id" ∷ codes "drawn" ∷ codes "client" ∷ codes "server" ∷ codes "request" ∷ codes "response" ∷ codes "made" ∷ codes "first"
    ∷ codes "ran" ∷ codes "ended" ∷ codes "end" ∷ codes "alone" ∷ codes "slowdown" ∷ codes "resends" ∷ codes "again" ∷ codes "controls"
    ∷ codes "card" ∷ codes "output" ∷ codes "grant" ∷ codes "credit" ∷ []

-- those of a line of slowdowns
abbrev pub slowdown_names : List (List ℕ)
slowdown_names =
    codes "seed" ∷ codes "part" ∷ codes "from" ∷ codes "to" ∷ codes "count" ∷ codes "done" ∷ codes "p50" ∷ codes "p50_off" ∷ codes "p99"
    ∷ codes "p99_off" ∷ codes "p999" ∷ codes "p999_off" ∷ []
