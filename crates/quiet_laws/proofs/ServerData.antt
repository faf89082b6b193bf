-- A piece of the request comes to the server.
use Rattle.std.proofs.Common.{◌≡◌, ℕ, ◌+◌, ◌<◌, ◌≤◌, true, false, Option, Some, None, List, [], ◌∷◌, ◌++◌, length, refl, sym, ap, subst, ◌∙◌, arith, cond}
use Rattle.std.specs.Prelude.{nat_lt, ◌==◌, not, ◌||◌}
use Rattle.std.proofs.lemmas.Bool.{le-ltb, lt-leb, eq-eqb, ne_eqb}
use Rattle.plain_sets.specs.Maps as maps
use Rattle.plain_sets.specs.Maps.{empty, insert, get, entries}
use Rattle.homa_plain.specs.declared.packet.Role.TheVariants.{Client, Server}
use Rattle.homa_plain.specs.declared.packet.Body.TheVariants as body
use Rattle.homa_plain.specs.declared.settings.Settings.{Settings}
use Rattle.homa_plain.specs.Entries.{PlainRun, PlainGaps, PlainFullRows, PlainFullPages}
use Rattle.homa_plain.specs.Incoming.{Incoming, with_bytes, leaves_too_many_gaps, is_whole, message}
use Rattle.homa_plain.specs.Incoming as incoming
use Rattle.homa_plain.specs.Packets.{Packet}
use Rattle.homa_plain.specs.Outgoing as outgoing
use Rattle.homa_plain.specs.Rows.{ServerRow, Receiving, Held, Replying, set_row}
use Rattle.homa_plain.specs.Host.{Host, Told, Says, pages_for}
use Rattle.homa_plain.specs.Rules.{Answer, Moment, Did, leaves, says, version_of, opening, Tells}
use Rattle.homa_plain.specs.AtServer.{server_gets, piece_comes, piece_added, with_state, runs, replying, piece_of}
use Rattle.homa_plain.specs.Work.{Work, begun, said, tells}
use Rattle.homa_plain.specs.Steps.{comes, takes, served, moment}
use Rattle.homa_plain.specs.OldPackets.{is_stale}
use Rattle.homa_plain.specs.CutoffsPackets.{notes, tells_cutoffs}
use Rattle.quiet_laws.specs.Hosts.{rows_of, one_row, the_call, server_id, client_id, Bits, server_host, ours, at_tick, HasFront, AreAside}
use Rattle.quiet_laws.proofs.Fronts.{front_more, front_gaps, front_whole}
use Rattle.quiet_laws.proofs.Comes.{fresh_taken}
use Rattle.quiet_laws.proofs.Asides.{beside}

-- a piece that goes on from what has arrived is put in
pub piece_put : (s : Settings) (m : Moment) (n here given : ℕ) (part : Incoming) (row : ServerRow) (version : ℕ) (payload : List ℕ) (answer : Answer)
    (d : Did ServerRow)
    → HasFront n here given part
    → piece_comes s m the_call 0 part row (piece_of n here version 0 payload) answer d
    ≡ piece_added s m the_call 0 answer row (with_bytes part here payload) (record d { version = version_of (piece_of n here version 0 payload) })
piece_put s m n here given part row version payload answer d f =
    let full : Did ServerRow =
    piece_added s m the_call 0 answer row (with_bytes part here payload) (record d { version = version_of (piece_of n here version 0 payload) }) in
    ap (λ t. cond (not t || not (0 == 0)) (record d { row = Some row })
    (cond (leaves_too_many_gaps part here payload)
    (record d {
      row = Some (with_state row (Receiving 0 part m.now 0));
      version = version_of (piece_of n here version 0 payload);
      says = Tells (PlainGaps m.host the_call) ∷ [];
    }) full)) (eq-eqb part.length n f.length)
    ∙ ap (λ t. cond t
    (record d {
      row = Some (with_state row (Receiving 0 part m.now 0));
      version = version_of (piece_of n here version 0 payload);
      says = Tells (PlainGaps m.host the_call) ∷ [];
    }) full) (front_gaps n here given part f payload)

-- a rule of the server that may have opened a message, and may be answered by CUTOFFS
pub record Served (s : Settings) (b : Bits) (credit : ℕ) (row : Option ServerRow) (order : ℕ) (says : List Told) (w : Work) : Type 0 where
  pub bits : Bits
  pub aside : List Told
  pub is : w ≡ record { host = server_host bits credit row; told = aside ++ says }
  pub order_is : bits.order ≡ order
  pub last : bits.last ≡ b.last
  pub refilled : bits.refilled ≡ b.refilled
  pub few : AreAside Server s b.last aside

set_one : (old : Option ServerRow) (row : ServerRow) → set_row (rows_of old) the_call (Some row) ≡ one_row row
unfolding insert empty maps.checked
set_one None row = refl
set_one (Some x) row = refl

module _ (s : Settings) (b : Bits) (credit : ℕ) (old : Option ServerRow) where
  pub server_does : (did : Did ServerRow) (row : ServerRow) → did.row ≡ Some row
      → Served s b credit (Some row) did.order (said s (server_host b credit old) Server the_call server_id did.says)
      (served s the_call did (record { host = server_host b credit old; told = [] }))
  unfolding served
  server_does did row e =
      let h : Host = server_host (record b { order = did.order }) credit (Some row) in
      let a = beside s Server did.opened did.version h [] refl in
      let says : List Told = said s (server_host b credit old) Server the_call server_id did.says in
      record {
        bits = record b { order = did.order; tuning = a.tuning };
        aside = a.more;
        is = ap (λ rows. tells says
            (tells_cutoffs s Server the_call server_id did.version
            (notes s did.opened (record { host = record (server_host b credit old) { order = did.order; servers = rows }; told = [] }))))
            (ap (λ r. set_row (rows_of old) the_call r) e ∙ set_one old row)
            ∙ ap (tells says) a.is;
        order_is = refl;
        last = refl;
        refilled = refl;
        few = a.few;
      }

-- a piece of the request
abbrev pub request_piece : ℕ → ℕ → ℕ → ℕ → ℕ → List ℕ → Packet
request_piece at level n here version payload = ours Client at level (body.Data n here version 0 None) payload

module _ (s : Settings) (b : Bits) (credit now : ℕ) (answer : Answer) (at level n here given version : ℕ) (payload : List ℕ)
    (fresh : is_stale s now (request_piece at level n here version payload) ≡ false) where
  abbrev the_piece : Packet
  the_piece = request_piece at level n here version payload

  abbrev pub receives_at : ℕ → Incoming → ℕ → ℕ → ServerRow
  receives_at row_order part base count = record { order = row_order; state = Receiving 0 part base count }

  abbrev w0 : Option ServerRow → Work
  w0 row = begun (server_host b credit row) now

  abbrev m0 : Option ServerRow → Moment
  m0 row = moment s the_call (w0 row)

  abbrev done_piece : Option ServerRow → ServerRow → Incoming → Did ServerRow → Did ServerRow
  done_piece old row part d =
      piece_added s (m0 old) the_call 0 answer row (with_bytes part here payload) (record d { version = version_of (piece_of n here version 0 payload) })

  -- the piece comes to a row that receives
  to_row : (row_order base count : ℕ) (part : Incoming) → HasFront n here given part
      → let old : Option ServerRow = Some (receives_at row_order part base count) in
      comes s (Some the_piece) answer (w0 old) ≡ served s the_call (done_piece old (receives_at row_order part base count) part (leaves (m0 old) None)) (w0 old)
  unfolding takes server_gets get insert empty maps.checked
  to_row row_order base count part f =
      let row : ServerRow = receives_at row_order part base count in
      fresh_taken s the_piece answer (w0 (Some row)) fresh
      ∙ ap (λ d. served s the_call d (w0 (Some row))) (piece_put s (m0 (Some row)) n here given part row version payload answer (leaves (m0 (Some row)) None) f)

  -- the piece comes where there is no row
  to_none : here ≡ 0 → 1 ≤ s.served → pages_for n ≤ s.pages → HasFront n here given (incoming.opened client_id n b.order s.unsched)
      → comes s (Some the_piece) answer (w0 None) ≡ served s the_call
      (done_piece None (receives_at b.order (incoming.opened client_id n b.order s.unsched) now 0) (incoming.opened client_id n b.order s.unsched)
      (opening n (leaves (m0 None) None))) (w0 None)
  unfolding takes server_gets get insert empty maps.checked maps.values maps.remove maps.retain maps.len
  to_none first rows pages f =
      let part : Incoming = incoming.opened client_id n b.order s.unsched in
      let row : ServerRow = receives_at b.order part now 0 in
      let comes_there : Did ServerRow =
      piece_comes s (m0 None) the_call 0 part row (piece_of n here version 0 payload) answer (opening n (leaves (m0 None) None)) in
      let full : Did ServerRow = says (m0 None) None (Tells (PlainFullPages server_id the_call (pages_for n) (m0 None).free) ∷ []) in
      let none_left : Did ServerRow = says (m0 None) None (Tells (PlainFullRows server_id the_call (m0 None).rows s.served) ∷ []) in
      fresh_taken s the_piece answer (w0 None) fresh
      ∙ ap (λ t. served s the_call (cond t none_left (cond (nat_lt (m0 None).free (pages_for n)) full comes_there)) (w0 None)) (lt-leb s.served 0 rows)
      ∙ ap (λ t. served s the_call (cond t full comes_there) (w0 None)) (le-ltb (m0 None).free (pages_for n) (omega (arith, pages)))
      ∙ ap (λ d. served s the_call d (w0 None)) (piece_put s (m0 None) n here given part row version payload answer (opening n (leaves (m0 None) None)) f)

  module _ (old : Option ServerRow) (row_order base count : ℕ) (part : Incoming) (before : Did ServerRow) (f : HasFront n here given part)
      (e : comes s (Some the_piece) answer (w0 old) ≡ served s the_call (done_piece old (receives_at row_order part base count) part before) (w0 old))
      (says_none : before.says ≡ []) where
    -- not whole with it
    more_comes : here + length payload < n
        → Served s (at_tick now b) credit (Some (receives_at row_order (with_bytes part here payload) now 0)) before.order []
        (comes s (Some the_piece) answer (w0 old))
    more_comes more =
        let row : ServerRow = receives_at row_order (with_bytes part here payload) now 0 in
        let left : Did ServerRow = record before { version = version_of (piece_of n here version 0 payload) } in
        let after : Did ServerRow = record left { row = Some row } in
        let told : is_whole (with_bytes part here payload) ≡ false = front_whole n (here + length payload) given (with_bytes part here payload)
        (front_more n here given part f payload) ∙ ne_eqb _ _ (λ x. absurd (omega (arith, x, more))) in
        subst (λ w. Served s (at_tick now b) credit (Some row) before.order [] w) {x = served s the_call after (w0 old)}
        (sym (e ∙ ap (λ t. served s the_call
        (cond t (runs s (m0 old) the_call 0 (message (with_bytes part here payload)) answer (receives_at row_order part base count) left) after)
        (w0 old)) told))
        (subst (λ x. Served s (at_tick now b) credit (Some row) before.order
        (said s (server_host (at_tick now b) credit old) Server the_call server_id x) (served s the_call after (w0 old))) says_none
        (server_does s (at_tick now b) credit old after row refl))

    abbrev pub replies_at : ServerRow
    replies_at = record { order = row_order; state = Replying answer.bytes (outgoing.opened (length answer.bytes) s.unsched) before.order now 0 }

    -- whole with it: the service runs
    last_comes : here + length payload ≡ n → answer.hold ≡ 0
        → Served s (at_tick now b) credit (Some replies_at) (before.order + 1)
        (Says (PlainRun server_id the_call 0 (message (with_bytes part here payload)) answer.bytes answer.hold) ∷ [])
        (comes s (Some the_piece) answer (w0 old))
    last_comes whole at_once =
        let left : Did ServerRow = record before { version = version_of (piece_of n here version 0 payload) } in
        let more : Did ServerRow = record left { row = Some (receives_at row_order (with_bytes part here payload) now 0) } in
        let told : Did ServerRow =
        record left { says = Tells (PlainRun server_id the_call 0 (message (with_bytes part here payload)) answer.bytes answer.hold) ∷ [] } in
        let row : ServerRow = receives_at row_order part base count in
        let after : Did ServerRow = replying s now answer.bytes row told in
        let held : Did ServerRow = record told { row = Some (with_state row (Held answer.bytes (now + answer.hold))) } in
        let all : is_whole (with_bytes part here payload) ≡ true =
        front_whole n (here + length payload) given (with_bytes part here payload) (front_more n here given part f payload) ∙ eq-eqb _ _ whole in
        let now_runs : (answer.hold == 0) ≡ true = eq-eqb answer.hold 0 at_once in
        subst (λ w. Served s (at_tick now b) credit (Some replies_at) (before.order + 1)
        (Says (PlainRun server_id the_call 0 (message (with_bytes part here payload)) answer.bytes answer.hold) ∷ []) w) {x =
        served s the_call after (w0 old)}
        (sym (e ∙ ap (λ t. served s the_call (cond t (runs s (m0 old) the_call 0 (message (with_bytes part here payload)) answer row left) more) (w0 old)) all
        ∙ ap (λ t. served s the_call (cond t after held) (w0 old)) now_runs))
        (server_does s (at_tick now b) credit old after replies_at refl)

  -- to a row that receives
  module _ (row_order base count : ℕ) (part : Incoming) (f : HasFront n here given part) where
    abbrev pub had : Option ServerRow
    had = Some (receives_at row_order part base count)

    pub next_more : here + length payload < n
        → Served s (at_tick now b) credit (Some (receives_at row_order (with_bytes part here payload) now 0)) b.order []
        (comes s (Some the_piece) answer (w0 had))
    next_more = more_comes had row_order base count part (leaves (m0 had) None) f (to_row row_order base count part f) refl

    pub next_last : here + length payload ≡ n → answer.hold ≡ 0
        → Served s (at_tick now b) credit
        (Some (record { order = row_order; state = Replying answer.bytes (outgoing.opened (length answer.bytes) s.unsched) b.order now 0 }))
        (b.order + 1) (Says (PlainRun server_id the_call 0 (message (with_bytes part here payload)) answer.bytes answer.hold) ∷ [])
        (comes s (Some the_piece) answer (w0 had))
    next_last = last_comes had row_order base count part (leaves (m0 had) None) f (to_row row_order base count part f) refl

  -- to none
  module _ (first : here ≡ 0) (rows : 1 ≤ s.served) (pages : pages_for n ≤ s.pages)
      (f : HasFront n here given (incoming.opened client_id n b.order s.unsched)) where
    abbrev pub new_part : Incoming
    new_part = incoming.opened client_id n b.order s.unsched

    pub first_more : here + length payload < n → Served s (at_tick now b) credit (Some (receives_at b.order (with_bytes new_part here payload) now 0))
        (b.order + 1) [] (comes s (Some the_piece) answer (w0 None))
    first_more = more_comes None b.order now 0 new_part (opening n (leaves (m0 None) None)) f (to_none first rows pages f) refl

    pub first_last : here + length payload ≡ n → answer.hold ≡ 0
        → Served s (at_tick now b) credit
        (Some (record { order = b.order; state = Replying answer.bytes (outgoing.opened (length answer.bytes) s.unsched) (b.order + 1) now 0 }))
        (b.order + 1 + 1) (Says (PlainRun server_id the_call 0 (message (with_bytes new_part here payload)) answer.bytes answer.hold) ∷ [])
        (comes s (Some the_piece) answer (w0 None))
    first_last = last_comes None b.order now 0 new_part (opening n (leaves (m0 None) None)) f (to_none first rows pages f) refl
