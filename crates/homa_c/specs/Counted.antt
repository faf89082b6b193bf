-- What C is told of a host's counts.
use Rattle.std.specs.Prelude.{ℕ, unwrap_or, List, [], ◌∷◌, length, slice_get}
use Rattle.plain_sets.specs.Maps.{len}
use Rattle.driven_host.specs.declared.counts.HostCounts.{HostCounts}
use Rattle.late_host.specs.Late.{Late}

-- the counts by their numbers, from 0, and at the end how many calls are live, how many are kept until they are answered, and
-- how many rows the calls have that it serves
abbrev pub all_counts : HostCounts → ℕ → ℕ → ℕ → List ℕ
all_counts c live kept rows =
    c.calls ∷ c.done ∷ c.timeouts ∷ c.forgotten ∷ c.asked ∷ c.ran ∷ c.sent ∷ c.sent_bytes ∷ c.received ∷ c.resends_sent ∷ c.junk ∷ c.stale ∷ c.no_row
    ∷ c.no_pages ∷ c.gaps ∷ c.dropped ∷ c.buried ∷ c.freed ∷ live ∷ kept ∷ rows ∷ []

-- the count of this number; 0 where there is none
abbrev pub count_of : Late → ℕ → ℕ
count_of l which =
    unwrap_or (slice_get (all_counts l.driven.counts (len l.driven.host.host.clients) (length l.calls) (len l.driven.host.host.servers)) which) 0
