-- A piece of the response comes to the client.
use Rattle.std.proofs.Common.{◌≡◌, ℕ, zero, suc, ◌+◌, ◌<◌, ◌≤◌, true, false, Option, Some, None, List, [], ◌∷◌, length, refl, sym, ap, subst, ◌∙◌, arith, cond}
use Rattle.std.specs.Prelude.{nat_lt, not}
use Rattle.std.proofs.lemmas.Bool.{le-ltb, eq-eqb, ne_eqb}
use Rattle.std.proofs.lemmas.List.{append-nil}
use Rattle.plain_sets.specs.Maps as maps
use Rattle.plain_sets.specs.Maps.{empty, insert, get, entries}
use Rattle.homa_plain.specs.declared.packet.Role.TheVariants.{Client, Server}
use Rattle.homa_plain.specs.declared.packet.Body.TheVariants as body
use Rattle.homa_plain.specs.declared.settings.Settings.{Settings}
use Rattle.homa_plain.specs.Entries.{PlainDone, PlainGaps, PlainFullPages}
use Rattle.homa_plain.specs.Incoming.{Incoming, with_bytes, leaves_too_many_gaps, is_whole, message}
use Rattle.homa_plain.specs.Incoming as incoming
use Rattle.homa_plain.specs.Packets.{Packet}
use Rattle.homa_plain.specs.Outgoing.{Outgoing}
use Rattle.homa_plain.specs.Rows.{ClientRow, set_row}
use Rattle.homa_plain.specs.Host.{Host, Told, pages_for}
use Rattle.homa_plain.specs.Rules.{Answer, Moment, Did, keeps, says, version_of, opening, Tells}
use Rattle.homa_plain.specs.AtClient.{client_gets, piece_comes, piece_added, with_part}
use Rattle.homa_plain.specs.AtServer.{piece_of}
use Rattle.homa_plain.specs.Work.{Work, begun, tells}
use Rattle.homa_plain.specs.Steps.{comes, takes, asked, moment}
use Rattle.homa_plain.specs.OldPackets.{is_stale}
use Rattle.homa_plain.specs.CutoffsPackets.{notes, tells_cutoffs}
use Rattle.quiet_laws.specs.Hosts.{one_row, the_call, server_id, client_id, Bits, client_host, asking, ours, at_tick, HasFront, AreAside}
use Rattle.quiet_laws.proofs.Fronts.{front_more, front_gaps, front_whole}
use Rattle.quiet_laws.proofs.Comes.{fresh_taken, SeenSoFar, Never, Once}
use Rattle.quiet_laws.proofs.Asides.{beside}

reply_put : (m : Moment) (n here given : ℕ) (part : Incoming) (r : ClientRow) (version : ℕ) (payload : List ℕ) (d : Did ClientRow)
    → HasFront n here given part
    → piece_comes the_call r part (piece_of n here version 0 payload) d
    ≡ piece_added the_call r (with_bytes part here payload) (record d { version = version_of (piece_of n here version 0 payload) })
reply_put m n here given part r version payload d f =
    let full : Did ClientRow = piece_added the_call r (with_bytes part here payload) (record d { version = version_of (piece_of n here version 0 payload) }) in
    let gaps : Did ClientRow =
    record d { row = Some (with_part r part); version = version_of (piece_of n here version 0 payload); says = Tells (PlainGaps client_id the_call) ∷ [] } in
    ap (λ t. cond (not t) (record d { row = Some (with_part r part) }) (cond (leaves_too_many_gaps part here payload) gaps full))
    (eq-eqb part.length n f.length)
    ∙ ap (λ t. cond t gaps full) (front_gaps n here given part f payload)

-- a rule of the client that leaves the row, may have opened the response, and may be answered by CUTOFFS
pub record Asked (s : Settings) (b : Bits) (credit : ℕ) (row : ClientRow) (order : ℕ) (w : Work) : Type 0 where
  pub bits : Bits
  pub aside : List Told
  pub is : w ≡ record { host = client_host bits credit row; told = aside }
  pub order_is : bits.order ≡ order
  pub last : bits.last ≡ b.last
  pub refilled : bits.refilled ≡ b.refilled
  pub few : AreAside Client s b.last aside

set_one : (old row : ClientRow) → set_row (one_row old) the_call (Some row) ≡ one_row row
unfolding insert empty maps.checked
set_one old row = refl

pub client_does : (s : Settings) (b : Bits) (credit : ℕ) (old : ClientRow) (order : ℕ) (opened version : Option ℕ) (row : ClientRow)
    → Asked s b credit row order
    (asked s the_call server_id (record { row = Some row; order = order; opened = opened; version = version; says = []; finished = false })
    (record { host = client_host b credit old; told = [] }))
unfolding asked
client_does s b credit old order opened version row =
    let h : Host = client_host (record b { order = order }) credit row in
    let a = beside s Client opened version h [] refl in
    record {
      bits = record b { order = order; tuning = a.tuning };
      aside = a.more;
      is = ap (λ rows. tells []
          (tells_cutoffs s Client the_call server_id version
          (notes s opened (record { host = record (client_host b credit old) { order = order; clients = rows }; told = [] })))) (set_one old row)
          ∙ ap (tells []) a.is ∙ ap (λ t. record { host = client_host (record b { order = order; tuning = a.tuning }) credit row; told = t })
          (append-nil a.more);
      order_is = refl;
      last = refl;
      refilled = refl;
      few = a.few;
    }

-- a piece of the response
abbrev pub response_piece_of : ℕ → ℕ → ℕ → ℕ → ℕ → List ℕ → Packet
response_piece_of at level n here version payload = ours Server at level (body.Data n here version 0 None) payload

module _ (s : Settings) (b : Bits) (credit now : ℕ) (answer : Answer) (at level n here given version : ℕ) (payload : List ℕ)
    (request : List ℕ) (order : ℕ) (out : Outgoing) (heard base count : ℕ)
    (fresh : is_stale s now (response_piece_of at level n here version payload) ≡ false) where
  abbrev the_piece : Packet
  the_piece = response_piece_of at level n here version payload

  abbrev r0 : ℕ → Option Incoming → ClientRow
  r0 seen part = asking request order out heard base count seen part

  -- the row when the server was heard of
  abbrev r1 : Option Incoming → ClientRow
  r1 part = asking request order out now now 0 1 part

  abbrev c0 : ℕ → Option Incoming → Work
  c0 seen part = begun (client_host b credit (r0 seen part)) now

  abbrev n0 : ℕ → Option Incoming → Moment
  n0 seen part = moment s the_call (c0 seen part)

  abbrev put : Option Incoming → Incoming → Did ClientRow → Did ClientRow
  put old part d = piece_added the_call (r1 old) (with_bytes part here payload) (record d { version = version_of (piece_of n here version 0 payload) })

  pub to_part : (part : Incoming) → HasFront n here given part
      → comes s (Some the_piece) answer (c0 1 (Some part)) ≡ asked s the_call server_id
      (put (Some part) part (keeps (n0 1 (Some part)) (r1 (Some part)))) (c0 1 (Some part))
  unfolding takes client_gets get insert empty maps.checked
  to_part part f =
      fresh_taken s the_piece answer (c0 1 (Some part)) fresh
      ∙ ap (λ d. asked s the_call server_id d (c0 1 (Some part)))
      (reply_put (n0 1 (Some part)) n here given part (r1 (Some part)) version payload (keeps (n0 1 (Some part)) (r1 (Some part))) f)

  pub to_none : (seen : ℕ) → SeenSoFar seen None → pages_for n ≤ s.pages → HasFront n here given (incoming.opened server_id n b.order s.unsched)
      → comes s (Some the_piece) answer (c0 seen None) ≡ asked s the_call server_id
      (put None (incoming.opened server_id n b.order s.unsched) (opening n (keeps (n0 seen None) (r1 None)))) (c0 seen None)
  unfolding takes client_gets get insert empty maps.checked maps.values maps.remove maps.retain maps.len
  to_none seen known pages f = fresh_taken s the_piece answer (c0 seen None) fresh ∙ by seen known where
    full : (seen : ℕ) → Did ClientRow
    full seen = says (n0 seen None) (Some (r1 None)) (Tells (PlainFullPages client_id the_call (pages_for n) (n0 seen None).free) ∷ [])

    opens : (seen : ℕ) → Did ClientRow
    opens seen = piece_comes the_call (r1 None) (incoming.opened server_id n b.order s.unsched) (piece_of n here version 0 payload)
        (opening n (keeps (n0 seen None) (r1 None)))

    rest : (seen : ℕ) → asked s the_call server_id (cond (nat_lt (n0 seen None).free (pages_for n)) (full seen) (opens seen)) (c0 seen None)
        ≡ asked s the_call server_id (put None (incoming.opened server_id n b.order s.unsched) (opening n (keeps (n0 seen None) (r1 None)))) (c0 seen None)
    rest seen =
        ap (λ t. asked s the_call server_id (cond t (full seen) (opens seen)) (c0 seen None)) (le-ltb (n0 seen None).free (pages_for n) (omega (arith, pages)))
        ∙ ap (λ d. asked s the_call server_id d (c0 seen None))
        (reply_put (n0 seen None) n here given (incoming.opened server_id n b.order s.unsched) (r1 None) version payload
        (opening n (keeps (n0 seen None) (r1 None))) f)

    by : (seen : ℕ) → SeenSoFar seen None
        → takes s the_piece answer (c0 seen None) ≡ asked s the_call server_id
        (put None (incoming.opened server_id n b.order s.unsched) (opening n (keeps (n0 seen None) (r1 None)))) (c0 seen None)
    by zero Never = rest 0
    by (suc zero) Once = rest 1
    by (suc (suc _)) x = elim x [ ]

  module _ (seen : ℕ) (old : Option Incoming) (part : Incoming) (opened : Option ℕ) (next : ℕ) (f : HasFront n here given part)
      (e : comes s (Some the_piece) answer (c0 seen old) ≡ asked s the_call server_id
      (put old part (record { row = Some (r1 old); order = next; opened = opened; version = None; says = []; finished = false })) (c0 seen old)) where
    abbrev version_is : Option ℕ
    version_is = version_of (piece_of n here version 0 payload)

    abbrev row_more : ClientRow
    row_more = with_part (r1 old) (with_bytes part here payload)

    abbrev did_more : Did ClientRow
    did_more = record { row = Some row_more; order = next; opened = opened; version = version_is; says = []; finished = false }

    abbrev did_last : Did ClientRow
    did_last = record {
      row = None;
      order = next;
      opened = opened;
      version = version_is;
      says = Tells (PlainDone the_call (message (with_bytes part here payload))) ∷ [];
      finished = true;
    }

    -- not whole with it
    pub more_comes : here + length payload < n → Asked s (at_tick now b) credit row_more next (comes s (Some the_piece) answer (c0 seen old))
    more_comes more =
        subst (λ w. Asked s (at_tick now b) credit row_more next w) {x = asked s the_call server_id did_more (c0 seen old)}
        (sym (e ∙ ap (λ t. asked s the_call server_id (cond t did_last did_more) (c0 seen old))
        (front_whole n (here + length payload) given (with_bytes part here payload) (front_more n here given part f payload)
        ∙ ne_eqb _ _ (λ x. absurd (omega (arith, x, more))))))
        (client_does s (at_tick now b) credit (r0 seen old) next opened version_is row_more)

    -- whole with it
    pub last_comes : here + length payload ≡ n → comes s (Some the_piece) answer (c0 seen old) ≡ asked s the_call server_id did_last (c0 seen old)
    last_comes whole =
        e ∙ ap (λ t. asked s the_call server_id (cond t did_last did_more) (c0 seen old))
        (front_whole n (here + length payload) given (with_bytes part here payload) (front_more n here given part f payload) ∙ eq-eqb _ _ whole)
