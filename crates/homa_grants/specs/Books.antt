-- A book of messages. Which of them are granted to is in `homa_plain/specs/Grants`.
use Rattle.std.specs.Prelude.{ℕ, ◌<◌, ◌≤◌, List, refl}
use Rattle.std.specs.List.{AllByRecursion}
use Rattle.std.specs.Coded.{Coded, code_by, coded×, coded_list, coded_ℕ}
use Rattle.plain_sets.specs.Ordered.{IsInOrder, SendersDiffer}
use Rattle.homa_grants.specs.Entries.{Entry, entry_key}

-- what a book is seen as
pub record Book : Type 0 where
  pub slots : ℕ  -- how many slots there are
  pub hosts : ℕ  -- how many hosts there are
  pub most : ℕ  -- how many messages are chosen
  pub entries : List Entry  -- the messages, in order of their keys

-- the slot of a message is one of so many, and its peer one of so many hosts
pub record IsWithin (slots hosts : ℕ) (e : Entry) : Type 0 where
  pub slot : e.slot < slots
  pub peer : e.peer < hosts

-- what holds of every book: its messages are in order, no two are of one slot or have one order, and each is within
pub record IsSound (b : Book) : Type 0 where
  pub in_order : IsInOrder entry_key b.entries
  pub slots : SendersDiffer (λ e. e.slot) b.entries
  pub orders : SendersDiffer (λ e. e.order) b.entries
  pub within : AllByRecursion (IsWithin b.slots b.hosts) b.entries
  pub some : 1 ≤ b.most
  pub few : b.most ≤ 7

-- how a message is stored
abbrev pub entry_code : Coded Entry
entry_code =
    code_by (ℕ × (ℕ × (ℕ × ℕ))) (coded× coded_ℕ (coded× coded_ℕ (coded× coded_ℕ coded_ℕ)))
    (λ e. (e.slot, (e.peer, (e.remaining, e.order)))) (λ c. record { slot = c.0; peer = c.1.0; remaining = c.1.1.0; order = c.1.1.1 }) (λ _. refl)

-- how a book is stored
abbrev pub book_code : Coded Book
book_code =
    code_by (ℕ × (ℕ × (ℕ × List Entry))) (coded× coded_ℕ (coded× coded_ℕ (coded× coded_ℕ (coded_list entry_code))))
    (λ b. (b.slots, (b.hosts, (b.most, b.entries)))) (λ c. record { slots = c.0; hosts = c.1.0; most = c.1.1.0; entries = c.1.1.1 }) (λ _. refl)
