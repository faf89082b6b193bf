-- The pages that the messages of a host's rows take.
use Rattle.std.specs.Prelude.{ℕ, ◌+◌, Option, None, Some}
use Rattle.std.specs.List.{sum_by}
use Rattle.plain_sets.specs.Maps.{get, values}
use Rattle.homa_plain.specs.Rows.{ClientRow, ServerRow}
use Rattle.homa_plain.specs.Host.{Host, part_pages, state_pages}
use Rattle.homa_plain.specs.Timers.{Place, OfClient, OfServer}

-- the pages that the response in a client's row takes; none if there is no row
abbrev pub client_pages : Option ClientRow → ℕ
client_pages None = 0
client_pages (Some r) = part_pages r.part

-- the pages that a request takes which arrives in a server's row; none if there is no row
abbrev pub server_pages : Option ServerRow → ℕ
server_pages None = 0
server_pages (Some r) = state_pages r.state

-- the pages of the row at a place; none if the place has no row
abbrev pub pages_at : Host → Place → ℕ
pages_at h (OfClient id) = client_pages (get h.clients id)
pages_at h (OfServer id) = server_pages (get h.servers id)

-- the pages of all rows
abbrev pub row_pages : Host → ℕ
row_pages h = sum_by (λ (r : ClientRow). part_pages r.part) (values h.clients) + sum_by (λ (r : ServerRow). state_pages r.state) (values h.servers)
