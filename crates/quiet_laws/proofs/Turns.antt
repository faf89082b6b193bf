-- A turn in which no timer is due.
use Rattle.std.proofs.Common.{◌≡◌, ℕ, ◌+◌, ◌<◌, Bool, true, false, Option, Some, None, List, [], ◌∷◌, ◌++◌, take, refl, ap, ◌∙◌, cond}
use Rattle.std.proofs.lemmas.Bool.{lt-leb}
use Rattle.std.proofs.lemmas.List.{append-nil}
use Rattle.plain_sets.specs.Maps as maps
use Rattle.plain_sets.specs.Maps.{empty, insert, get, entries}
use Rattle.plain_sets.specs.Ordered.{ordered}
use Rattle.homa_plain.specs.declared.settings.Settings.{Settings}
use Rattle.homa_plain.specs.Timers.{due, most_acts}
use Rattle.homa_plain.specs.Incoming.{Incoming}
use Rattle.homa_plain.specs.Outgoing.{Outgoing}
use Rattle.homa_plain.specs.Rows.{ClientRow, Receiving, Replying}
use Rattle.homa_plain.specs.Host.{Told}
use Rattle.homa_plain.specs.Timers.{Place, OfClient, OfServer, Timer, timer_key, timer, unless, client_deadline, is_client_at_rest, server_deadline, has_no_gap}
use Rattle.homa_plain.specs.Outgoing.{has_waiting}
use Rattle.homa_plain.specs.Work.{Work}
use Rattle.homa_plain.specs.Steps.{acts, all_act}
use Rattle.quiet_laws.specs.Hosts.{the_call, Bits, client_host, server_host, asking}

-- one timer, which rests or isn't due
none_due : (place : Place) (order at now : ℕ) (rests : Bool) → now < at → due timer_key now (timer place order (unless rests at) ++ []) ≡ []
unfolding due ordered
none_due place order at now true h = refl
none_due place order at now false h =
    ap (λ t. take most_acts (ordered timer_key (cond t (record { place = place; at = at; order = order } ∷ []) []))) (lt-leb at now h)

module _ (s : Settings) (b : Bits) (credit : ℕ) (told : List Told) where
  pub client_waits : (request : List ℕ) (order : ℕ) (out : Outgoing) (heard base count seen : ℕ) (part : Option Incoming) → b.last < base + s.resend
      → let w : Work = record { host = client_host b credit (asking request order out heard base count seen part); told = told } in acts s w ≡ w
  unfolding get insert empty maps.checked client_deadline
  client_waits request order out heard base count seen part h =
      let r : ClientRow = asking request order out heard base count seen part in
      let w : Work = record { host = client_host b credit r; told = told } in
      ap (λ ts. all_act s (due timer_key b.last ts) w) (more (timer (OfClient the_call) order (client_deadline s r)))
      ∙ ap (λ ts. all_act s ts w) (none_due (OfClient the_call) order (base + s.resend) b.last (is_client_at_rest r) h) where
        more : (ts : List Timer) → (ts ++ []) ++ [] ≡ ts ++ []
        more ts = append-nil (ts ++ [])

  pub server_waits : (row_order service : ℕ) (part : Incoming) (base count : ℕ) → b.last < base + s.resend
      → let w : Work =
      record { host = server_host b credit (Some (record { order = row_order; state = Receiving service part base count })); told = told } in acts s w ≡ w
  unfolding get insert empty maps.checked server_deadline
  server_waits row_order service part base count h =
      let w : Work = record { host = server_host b credit (Some (record { order = row_order; state = Receiving service part base count })); told = told } in
      ap (λ ts. all_act s ts w) (none_due (OfServer the_call) row_order (base + s.resend) b.last (has_no_gap part) h)

  pub replier_waits : (row_order : ℕ) (response : List ℕ) (out : Outgoing) (order base count : ℕ) → b.last < base + s.resend
      → let w : Work =
      record { host = server_host b credit (Some (record { order = row_order; state = Replying response out order base count })); told = told } in
      acts s w ≡ w
  unfolding get insert empty maps.checked server_deadline
  replier_waits row_order response out order base count h =
      let w : Work =
      record { host = server_host b credit (Some (record { order = row_order; state = Replying response out order base count })); told = told } in
      ap (λ ts. all_act s ts w) (none_due (OfServer the_call) row_order (base + s.resend) b.last (has_waiting out) h)

  pub nobody_waits : let w : Work = record { host = server_host b credit None; told = told } in acts s w ≡ w
  unfolding empty maps.checked due ordered
  nobody_waits = refl
