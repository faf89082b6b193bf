-- The first piece of a response, as the plain rule takes it.
use Rattle.std.proofs.Common.{◌≡◌, ℕ, ◌<◌, ◌≤◌, true, List, Some, None, Option, refl, sym, ap, subst, ◌∙◌, arith}
use Rattle.std.specs.Option.{IsSomeAnd}
use Rattle.std.proofs.lemmas.Bool.{eq-eqb, le-ltb, lt-ltb}
use Rattle.homa_plain.specs.declared.id.CallId.{CallId}
use Rattle.homa_plain.specs.declared.id.HostId.{HostId}
use Rattle.homa_plain.specs.declared.settings.Settings.{Settings}
use Rattle.homa_plain.specs.Incoming.{Incoming, opened, with_bytes}
use Rattle.homa_plain.specs.Host.{pages_for}
use Rattle.homa_plain.specs.Rows.{ClientRow}
use Rattle.homa_plain.specs.Rules.{Moment, Piece, Did, keeps, opening, version_of}
use Rattle.homa_plain.specs.AtClient.{piece_added, response_piece, with_part}
use Rattle.homa_plain.specs.AtServer.{piece_of}
use Rattle.homa_plain.proofs.ArrivalLaws.{first_taken}
use Rattle.msg_pool.specs.Pool.{Pool, free_pages}
use Rattle.homa_in.specs.Part.{Part}
use Rattle.homa_in.specs.Pooled.{Moves, pages_of}
use Rattle.homa_in.specs.Putting.{HasNoPages, IsWholeAtOnce, IsBegun, WasOpened}
use Rattle.homa_in.specs.declared.putting.Opening.{Opening}
use Rattle.homa_in.specs.declared.putting.Opening.TheVariants as opening
use Rattle.homa_in.proofs.MoveLaws.{still}
use Rattle.homa_client.specs.Held.{HeldRow, seen_row}
use Rattle.homa_client.specs.Gives.{Gave, moment_of}
use Rattle.homa_client.specs.declared.answers.RowDid.{RowDid}
use Rattle.homa_client.specs.declared.answers.RowDid.TheVariants.{Opened, Done, Full}

-- what a row answers to an opening of its part
abbrev pub answer_to : Opening → RowDid
answer_to (opening.Full need free) = Full need free
answer_to opening.Whole = Done true
answer_to opening.Begun = Opened

-- where there are pages, the piece is added
pub piece-first : (s : Settings) (m : Moment) (id : CallId) (r : ClientRow) (p : Piece) → pages_for p.size ≤ m.free
    → response_piece s m id r None p ≡ piece_added id r (with_bytes (opened r.server p.size m.order s.unsched) p.offset p.payload)
    (record (opening p.size (keeps m r)) { version = version_of p })
piece-first s m id r p enough =
    rw (le-ltb m.free (pages_for p.size) enough, eq-eqb p.size p.size refl, first_taken r.server p.size m.order s.unsched p.offset p.payload) refl

module _ (s : Settings) (id : CallId) (host : HostId) (now order rows version service size offset u : ℕ) (xs : List ℕ) (old new : Pool)
    (server : HostId) (r : HeldRow)
    (none : r.part ≡ None) (same : s.unsched ≡ u) (here : server ≡ r.server) where
  abbrev m : Moment
  m = moment_of host now order old r.part rows

  abbrev piece : Piece
  piece = piece_of size offset version service xs

  free : pages_for size ≤ free_pages old → pages_for size ≤ m.free
  free enough = omega (arith, ap pages_of none)

  abbrev p : Incoming
  p = opened server size order u

  abbrev d : Did ClientRow
  d = record (opening size (keeps m (seen_row old r))) { version = version_of piece }

  is_p : opened r.server size order s.unsched ≡ p
  is_p = ap (λ (h : HostId). opened h size order s.unsched) (sym here) ∙ ap (opened server size order) same

  -- what the plain rule does to the row
  abbrev plain : Did ClientRow
  plain = response_piece s m id (seen_row old r) None piece

  -- without a part it is the row that it was
  same_row : (part : Option Part) → part ≡ None → record r { part = part } ≡ r
  same_row part gone = ap (λ (o : Option Part). record r { part = o }) (gone ∙ sym none)

  -- the row and the pool as they were
  unmoved : Moves old r.part old r.part
  unmoved = subst (λ (o : Option Part). Moves old o old o) (sym none) (still old None tt)

  -- where there are too few pages, the row is told so
  full_gave : (told : List ℕ) (part : Option Part) (need left : ℕ) → HasNoPages size need left old new part
      → Gave m id (Some piece) plain old r new (record r { part = part }) told (Full need left)
  full_gave told part need left is =
      let few : m.free < pages_for size = omega (arith, ap pages_of none, is.few) in
      let all : left ≡ m.free = omega (arith, ap pages_of none, is.free) in
      let here : Gave m id (Some piece) plain old r old r told (Full need left) = record {
        did = rw (lt-ltb m.free (pages_for size) few, is.need, all) refl;
        moves = unmoved;
        gone = tt;
      } in
      subst (λ (q : Pool). Gave m id (Some piece) plain old r q (record r { part = part }) told (Full need left)) (sym is.same_pool)
      (subst (λ (x : HeldRow). Gave m id (Some piece) plain old r old x told (Full need left)) (sym (same_row part is.no_part)) here)

  -- where the piece is the whole response, the row goes
  whole_gave : (told : List ℕ) (part : Option Part) → IsWholeAtOnce size p offset xs told old new part
      → Gave m id (Some piece) plain old r new (record r { part = part }) told (Done true)
  whole_gave told part is = record {
    did = piece-first s m id (seen_row old r) piece (free is.enough)
        ∙ ap (λ (q : Incoming). piece_added id (seen_row old r) (with_bytes q offset xs) d) is_p ∙ rw (is.whole, is.message) refl;
    moves = subst (λ (o : Option Part). Moves old r.part new o) (none ∙ sym is.no_part)
        (subst (λ (q : Pool). Moves old r.part q r.part) (sym is.same_pool) unmoved);
    gone = is.no_part;
  }

  -- where bytes are still missing, the row has the part
  begun_gave : (told : List ℕ) (part : Option Part) → IsSomeAnd part (λ q. IsBegun size p offset xs old new q)
      → Gave m id (Some piece) plain old r new (record r { part = part }) told Opened
  begun_gave told None is = absurd is
  begun_gave told (Some part) is = record {
    did = piece-first s m id (seen_row old r) piece (free is.enough)
        ∙ ap (λ (q : Incoming). piece_added id (seen_row old r) (with_bytes q offset xs) d) is_p
        ∙ rw is.missing (ap (λ (q : Incoming). record d { row = Some (with_part (seen_row old r) q) }) (sym is.seen));
    moves = subst (λ (o : Option Part). Moves old o new (Some part)) (sym none) is.moves;
    gone = tt;
  }

  -- the plain rule does what is answered to the opening
  pub opened_gave : (told : List ℕ) (part : Option Part) (o : Opening) → WasOpened old server size order u offset xs new part told o
      → Gave m id (Some piece) plain old r new (record r { part = part }) told (answer_to o)
  opened_gave told part (opening.Full need left) is = full_gave told part need left is
  opened_gave told part opening.Whole is = whole_gave told part is
  opened_gave told part opening.Begun is = begun_gave told part is
