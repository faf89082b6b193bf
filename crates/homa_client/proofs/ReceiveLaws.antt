-- A packet's rule, put together from its parts.
use Rattle.std.proofs.Common.{◌≡◌, ℕ, true, false, List, Some, None, Option, refl, sym, ap, subst, ◌∙◌}
use Rattle.std.proofs.lemmas.Bool.{true≢false}
use Rattle.std.specs.Option.{is_some, IsSome, IfSome}
use Rattle.homa_plain.specs.declared.id.CallId.{CallId}
use Rattle.homa_plain.specs.declared.id.HostId.{HostId}
use Rattle.homa_plain.specs.declared.packet.Body.{Body}
use Rattle.homa_plain.specs.declared.settings.Settings.{Settings}
use Rattle.homa_plain.specs.Incoming.{Incoming}
use Rattle.homa_plain.specs.Rows.{ClientRow}
use Rattle.homa_plain.specs.Rules.{Moment, Piece, Did, keeps}
use Rattle.homa_plain.specs.AtClient.{piece_comes, response_piece, answered}
use Rattle.msg_pool.specs.Pool.{Pool}
use Rattle.homa_in.specs.Part.{Part}
use Rattle.homa_in.specs.Pooled.{Moves, seen_part}
use Rattle.homa_in.proofs.MoveLaws.{then}
use Rattle.homa_client.specs.Held.{HeldRow, seen_row}
use Rattle.homa_client.specs.Gives.{Gave, moment_of, did_of}
use Rattle.homa_client.specs.declared.answers.RowDid.{RowDid}

pub part_there : (pool : Pool) (part : Option Part) → is_some part ≡ true → IsSome (seen_part pool part)
part_there pool None e = cc
part_there pool (Some p) e = refl

pub part_gone : (pool : Pool) (part : Option Part) → is_some part ≡ false → seen_part pool part ≡ None
part_gone pool None e = refl
part_gone pool (Some p) e = cc

pub put_case : (P : Did ClientRow → Type 0) (s : Settings) (m : Moment) (id : CallId) (r : ClientRow) (piece : Piece) (part : Option Incoming) → IsSome part
    → IfSome part (λ q. P (piece_comes id r q piece (keeps m r))) → P (response_piece s m id r part piece)
put_case P s m id r piece None is h = absurd (true≢false (sym is))
put_case P s m id r piece (Some q) is h = h

pub gave_after : (s : Settings) (id : CallId) (body : Body) (payload : List ℕ) (piece : Option Piece) (host : HostId) (now order rows : ℕ)
    (old mid new : Pool) (before between after : HeldRow) (told : List ℕ) (did : RowDid) (y : ClientRow)
    → Moves old before.part mid between.part → seen_row mid between ≡ y
    → Gave (moment_of host now order mid between.part rows) id piece
    (answered s (moment_of host now order mid between.part rows) id body payload (seen_row mid between)) mid between new after told did
    → Gave (moment_of host now order old before.part rows) id piece (answered s (moment_of host now order old before.part rows) id body payload y) old
    before new after told did
gave_after s id body payload piece host now order rows old mid new before between after told did y moves e gave =
    let m : moment_of host now order mid between.part rows ≡ moment_of host now order old before.part rows =
    ap (λ f. record { host = host; now = now; order = order; free = f; rows = rows }) moves.free in
    record {
      did = subst (λ (m : Moment). answered s m id body payload y ≡ did_of m id piece (seen_row new after) told did) m
          (ap (answered s (moment_of host now order mid between.part rows) id body payload) (sym e) ∙ gave.did);
      moves = then old mid new before.part between.part after.part moves gave.moves;
      gone = gave.gone;
    }
