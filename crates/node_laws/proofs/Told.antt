-- What a host's own lines tell beside its number and a call: numbers that fit their types.
use Rattle.std.proofs.Common.{◌≡◌, ◌≤◌, ◌<◌, ◌^◌, ℕ, ◌+◌, ◌-◌, ◌*◌, Bool, true, false, cond, Option, None, Some, List, [], ap, ◌∙◌, arith}
use Rattle.std.specs.Prelude.{◌==◌, is_some}
use Rattle.std.specs.List.{AllByRecursion}
use Rattle.std.proofs.lemmas.Bool.{cond_both}
use Rattle.std.proofs.lemmas.Nat.{mul-le}
use Rattle.plain_sets.specs.Maps.{get, insert, remove, len, contains_key}
use Rattle.plain_sets.proofs.MapLaws.{len-insert, len-remove}
use Rattle.homa_plain.specs.declared.id.CallId.{CallId}
use Rattle.homa_plain.specs.declared.packet.Role.{Role}
use Rattle.homa_plain.specs.declared.settings.Settings.{Settings}
use Rattle.homa_plain.specs.Settings.{IsValid, accepted_life, span, patience}
use Rattle.homa_plain.specs.Wire.{FitsKind}
use Rattle.homa_plain.proofs.CallOrder.{call_total}
use Rattle.homa_plain.specs.Entries.{PlainEntry, PlainRun, PlainBury, PlainFullRows, PlainFullPages, PlainBalance, PlainStale}
use Rattle.homa_plain.specs.Rows.{RowsOf, set_row}
use Rattle.homa_plain.specs.Host.{Told, Says, Sends, pages_for}
use Rattle.homa_plain.specs.Rules.{Moment, Say, Tells, Posts}
use Rattle.homa_plain.specs.Packets.{Packet}
use Rattle.world_laws.specs.Sound.{IsSent, IsMessage, AreCutoffs}

-- numbers and bytes that a line tells beside a host, and a call with what its own line says of it
abbrev pub FitsEntry : PlainEntry → Type 0
FitsEntry (PlainRun host id service request response hold) = IsMessage response × (hold ≤ 1000000)
FitsEntry (PlainBury host id until) = until < 2 ^ 64
FitsEntry (PlainFullRows host id rows limit) = (rows < 2 ^ 32) × (limit < 2 ^ 32)
FitsEntry (PlainFullPages host id need free) = (need < 2 ^ 32) × (free < 2 ^ 32)
FitsEntry (PlainBalance host cutoffs) = AreCutoffs cutoffs
FitsEntry (PlainStale host at now) = (at < 2 ^ 64) × (now < 2 ^ 64)
FitsEntry entry = Unit {0}

-- what a rule says at this role
abbrev pub FitsSaid : Role → Say → Type 0
FitsSaid role (Tells entry) = FitsEntry entry
FitsSaid role (Posts what) = FitsKind role 7 what []

abbrev pub AllSaid : Role → List Say → Type 0
AllSaid role says = AllByRecursion (FitsSaid role) says

-- what is told
abbrev pub FitsTold : Told → Type 0
FitsTold (Says entry) = FitsEntry entry
FitsTold (Sends packet) = Unit {0}

abbrev pub AllTold : List Told → Type 0
AllTold told = AllByRecursion FitsTold told

-- what a rule knows of its host is within bounds
pub record IsMoment (m : Moment) : Type 0 where
  pub now : m.now ≤ 1000000002000
  pub free : m.free < 2 ^ 32
  pub rows : m.rows < 2 ^ 32

-- how many pages a message takes
pub few_pages : (n : ℕ) → n ≤ 1000000 → pages_for n < 2 ^ 32
few_pages n small = omega (arith, small)

pub served_small : (s : Settings) → IsValid s → s.served < 2 ^ 32
served_small s v = let most : s.served ≤ 4096 = v.in_range.2.2.2.2.2.2.2.2.2.2.2.1 in omega (arith, most)

pub pages_small : (s : Settings) → IsValid s → s.pages ≤ 4096
pages_small s v = v.in_range.2.2.2.2.2.2.2.2.2.1

-- a sender's clock
pub dated_small : (s : Settings) → IsValid s → (p : Packet) → IsSent s p → p.at < 2 ^ 64
dated_small s v p sent =
    cond_both (s.wire == 1) 0 1000000002000 (λ (n : ℕ). p.at ≤ n → p.at < 2 ^ 64) (λ _ le. omega (arith, le)) (λ _ le. omega (arith, le)) sent.tick

-- a tombstone's last tick
module _ (s : Settings) (v : IsValid s) (now : ℕ) (soon : now ≤ 1000000002000) where
  span_small : span s ≤ 106000
  span_small =
      let life : s.life ≤ 100000 = v.in_range.2.2.2.2.2.2.2.2.1 in
      let skew : s.skew ≤ 1000 = v.in_range.2.2.2.2.2.2.2.2.2.2.2.2.2.1 in
      let accepted : accepted_life s ≤ 104000 =
      cond_both (s.wire == 1) s.life (s.life + 4 * s.skew) (λ (n : ℕ). n ≤ 104000) (λ _. omega (arith, life)) (λ _. omega (arith, life, skew)) in
      omega (arith, accepted, skew)

  patience_small : patience s ≤ 101000
  patience_small =
      let resend : s.resend ≤ 1000 = v.in_range.2.2.2.2.2.2.1 in
      let tries : s.tries ≤ 100 = v.in_range.2.2.2.2.2.2.2.1 in
      mul-le s.resend (s.tries + 1) 1000 101 resend (omega (arith, tries))

  pub soon_until : now + span s < 2 ^ 64
  soon_until = omega (arith, soon, span_small)

  pub late_until : now + 2 * span s + patience s < 2 ^ 64
  late_until = omega (arith, soon, span_small, patience_small)

-- ---- how many calls a host serves

module _ {R : Type 0} (rows : RowsOf R) (id : CallId) where
  -- a row that goes, or stays away
  pub rows_gone : len (set_row rows id None) ≤ len rows
  rows_gone = by_test (contains_key rows id) (len-remove call_total rows id) where
    by_test : (b : Bool) → len (remove rows id) ≡ cond b (len rows - 1) (len rows) → len (remove rows id) ≤ len rows
    by_test true e = omega (arith, e)
    by_test false e = omega (arith, e)

  -- one that may come
  pub rows_more : (o : Option R) → len (set_row rows id o) ≤ len rows + 1
  rows_more None = omega (arith, rows_gone)
  rows_more (Some r) = by_test (contains_key rows id) (len-insert call_total rows id r) where
    by_test : (b : Bool) → len (insert rows id r) ≡ cond b (len rows) (len rows + 1) → len (insert rows id r) ≤ len rows + 1
    by_test true e = omega (arith, e)
    by_test false e = omega (arith, e)

  -- one that stands
  pub rows_kept : (row : R) (o : Option R) → get rows id ≡ Some row → len (set_row rows id o) ≤ len rows
  rows_kept row None at = rows_gone
  rows_kept row (Some r) at = let e : len (insert rows id r) ≡ len rows =
      len-insert call_total rows id r ∙ ap (λ (o : Option R). cond (is_some o) (len rows) (len rows + 1)) at in omega (arith, e)
