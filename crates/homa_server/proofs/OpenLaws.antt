-- The first piece of a request, as the plain rule takes it.
use Rattle.std.proofs.Common.{◌≡◌, ◌<◌, ◌≤◌, ◌+◌, ℕ, Bool, true, false, eqb, cond, List, [], ◌∷◌, length, Option, Some, None, Result, Ok, Err, refl, sym, ap}
use Rattle.std.proofs.Common.{subst, ◌∙◌}
use Rattle.std.specs.Result.{OnErr}
use Rattle.std.proofs.lemmas.Bool.{eq-eqb, le-ltb, lt-leb}
use Rattle.homa_plain.specs.declared.id.CallId.{CallId}
use Rattle.homa_plain.specs.declared.id.HostId.{HostId}
use Rattle.homa_plain.specs.declared.settings.Settings.{Settings}
use Rattle.homa_plain.specs.Incoming.{Incoming, opened, with_bytes, is_whole, message}
use Rattle.homa_plain.specs.Outgoing as outgoing
use Rattle.homa_plain.specs.Host.{pages_for}
use Rattle.homa_plain.specs.Entries.{PlainRun}
use Rattle.homa_plain.specs.Rows.{ServerRow, Receiving, Held}
use Rattle.homa_plain.specs.Rules.{Moment, Answer, Piece, Did, Tells, leaves, opening, version_of}
use Rattle.homa_plain.specs.AtServer.{piece_of, piece_added, opens, replying, with_state}
use Rattle.homa_plain.proofs.ArrivalLaws.{first_taken}
use Rattle.msg_pool.specs.Pool.{Pool, free_pages}
use Rattle.homa_in.specs.Part.{Part}
use Rattle.homa_in.specs.Putting.{IsWholeAtOnce, IsBegun}
use Rattle.homa_server.specs.Held.{HeldServer, Arriving, Keeping, Answering, seen_server, response_in}
use Rattle.homa_in.specs.Pieces.{moment_with}
use Rattle.homa_server.specs.Answers.{IsAsked}

pub on_err : {T E : Type 0} (r : Result T E) (P : Type 0) → P → OnErr r P
on_err (Ok t) P h = tt
on_err (Err e) P h = h

module _ (s : Settings) (m : Moment) (id : CallId) (p : Piece) (a : Answer) where
  abbrev pub with_first : Incoming
  with_first = with_bytes (opened id.client p.size m.order s.unsched) p.offset p.payload

  abbrev pub new_row : ServerRow
  new_row = record { order = m.order; state = Receiving p.service (opened id.client p.size m.order s.unsched) m.now 0 }

  abbrev pub taken : Did ServerRow
  taken = record (opening p.size (leaves m None)) { version = version_of p }

  abbrev told : Did ServerRow
  told = record taken { says = Tells (PlainRun m.host id p.service (message with_first) a.bytes a.hold) ∷ [] }

  -- where there are a row and pages, the piece is added
  pub opens-first : m.rows < s.served → pages_for p.size ≤ m.free → opens s m id p a ≡ piece_added s m id p.service a new_row with_first taken
  opens-first room enough =
      rw (
        lt-leb s.served m.rows room,
        le-ltb m.free (pages_for p.size) enough,
        eq-eqb p.size p.size refl,
        eq-eqb p.service p.service refl,
        first_taken id.client p.size m.order s.unsched p.offset p.payload,
      ) refl

  -- the service is asked where it is the whole request
  pub opens-asks : m.rows < s.served → pages_for p.size ≤ m.free → is_whole with_first ≡ true → IsAsked id p.service (message with_first) (opens s m id p a)
  opens-asks room enough whole =
      rw (opens-first room enough, whole)
      (elim (eqb a.hold 0) as
      (λ b. IsAsked id p.service (message with_first)
      (cond b (replying s m.now a.bytes new_row told) (record told { row = Some (with_state new_row (Held a.bytes (m.now + a.hold))) })))
      [ true ↦ refl | false ↦ refl ])

module _ (s : Settings) (id : CallId) (host : HostId) (now order rows version number size offset : ℕ) (xs : List ℕ) (old new : Pool) (client : HostId)
    (same : id.client ≡ client) (room : rows < s.served) where
  abbrev pub m : Moment
  m = moment_with host now order (free_pages old) rows

  abbrev pub piece : Piece
  piece = piece_of size offset version number xs

  here : (P : HostId → Type 0) → P client → P id.client
  here P h = subst P (sym same) h

  pub begun_did : (part : Part) (row : HeldServer) → IsBegun size (opened client size order s.unsched) offset xs old new part
      → row ≡ record { order = order; state = Arriving number part now 0 }
      → (a : Answer) → opens s m id piece a ≡ record (opening size (leaves m (Some (seen_server new row)))) { version = version_of piece }
  begun_did part row begun is a =
      let first = here (λ (h : HostId). IsBegun size (opened h size order s.unsched) offset xs old new part) begun in
      opens-first s m id piece a room first.enough
      ∙ rw first.missing
      (ap (λ (q : Incoming). record (taken s m id piece a) { row = Some (record { order = order; state = Receiving number q now 0 }) }) (sym first.seen))
      ∙ ap (λ (r : HeldServer). record (taken s m id piece a) { row = Some (seen_server new r) }) (sym is)

  abbrev said : List ℕ → List ℕ → ℕ → Did ServerRow
  said told bytes hold = record (taken s m id piece (record { bytes = bytes; hold = hold })) { says = Tells (PlainRun host id number told bytes hold) ∷ [] }

  abbrev row0 : List ℕ → ℕ → ServerRow
  row0 bytes hold = new_row s m id piece (record { bytes = bytes; hold = hold })

  pub whole_did : (told bytes : List ℕ) (hold : ℕ) (row : HeldServer) (part : Option Part)
      → IsWholeAtOnce size (opened client size order s.unsched) offset xs told old new part
      → row ≡ record {
        order = order;
        state = cond (eqb hold 0) (Answering bytes (outgoing.opened (length bytes) s.unsched) (order + 1) now 0)
            (Keeping bytes (now + hold));
      }
      → (a : Answer) → a ≡ record { bytes = response_in row.state; hold = hold }
      → opens s m id piece a ≡ record (opening size (leaves m (Some (seen_server new row))))
      { order = cond (eqb hold 0) (order + 1 + 1) (order + 1); version = version_of piece; says = Tells (PlainRun host id number told a.bytes hold) ∷ [] }
  whole_did told bytes hold row part whole is a answer =
      let first = here (λ (h : HostId). IsWholeAtOnce size (opened h size order s.unsched) offset xs told old new part) whole in
      let kept : response_in row.state ≡ bytes = ap (λ (r : HeldServer). response_in r.state) is ∙ in_both (eqb hold 0) in
      let answered : a ≡ record { bytes = bytes; hold = hold } = answer ∙ ap (λ (b : List ℕ). record { bytes = b; hold = hold }) kept in
      opens-first s m id piece a room first.enough
      ∙ rw (first.whole, ← first.message, answered, is) (split (eqb hold 0)) where
        in_both : (b : Bool)
            → response_in (cond b (Answering bytes (outgoing.opened (length bytes) s.unsched) (order + 1) now 0) (Keeping bytes (now + hold))) ≡ bytes
        in_both true = refl
        in_both false = refl

        split : (b : Bool)
            → ◌≡◌ {A = Did ServerRow}
            (cond b (replying s now bytes (row0 bytes hold) (said told bytes hold))
            (record (said told bytes hold) { row = Some (with_state (row0 bytes hold) (Held bytes (now + hold))) }))
            (record (opening size
            (leaves m (Some
            (seen_server new
            (record {
              order = order;
              state = cond b (Answering bytes (outgoing.opened (length bytes) s.unsched) (order + 1) now 0)
                  (Keeping bytes (now + hold));
            })))))
            { order = cond b (order + 1 + 1) (order + 1); version = version_of piece; says = Tells (PlainRun host id number told bytes hold) ∷ [] })
        split true = refl
        split false = refl
