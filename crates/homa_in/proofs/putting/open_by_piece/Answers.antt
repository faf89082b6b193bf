-- A lease is taken, and the first piece put under it.
use Rattle.std.proofs.Common.{◌≡◌, sym, ap, subst, ◌∙◌, arith}
use Rattle.std.proofs.lemmas.Bool.{true≢false}
use Rattle.homa_plain.specs.Incoming.{Incoming, is_whole, with_bytes, leaves_too_many_gaps, message}
use Rattle.homa_plain.proofs.ArrivalLaws.{first_taken}
use Rattle.msg_pool.specs.Pool.{Pool, IsLeaseOf, free_pages, without}
use Rattle.homa_plain.specs.Host.{pages_for}
use Rattle.msg_pool.proofs.Leases.{lease-taken}
use Rattle.homa_in.specs.Part.{Part}
use Rattle.homa_in.proofs.MoveLaws.{begun, back}
use Rattle.homa_in.proofs.PutLaws.{enough_if, begun_in, begun_seen, begun_short, begun_lease}
use Rattle.homa_in.proofs.putting.open_by_piece.Goals as goal

pub put_piece-requires-clause-pool : goal.put_piece-requires-clause-pool
put_piece-requires-clause-pool c =
    let leased = lease-taken c.args.pool.now c.take.new.self c.in-Ok.lease c.args.piece.size c.in-Ok.ensures.len c.in-Ok.ensures.zeros in
    begun_in c.take.new.self c.open-begun.result c.args.peer c.args.piece.size c.args.order 0 c.min.result c.in-Ok.lease c.open-begun.ensures.part leased
    c.in-Ok.ensures.len

pub put_piece-requires-clause-short : goal.put_piece-requires-clause-short
put_piece-requires-clause-short c =
    begun_short c.take.new.self c.open-begun.result c.args.peer c.args.piece.size c.args.order 0 c.min.result c.in-Ok.lease c.open-begun.ensures.part
    (omega (arith, c.requires.some, c.requires.fits))

pub give-requires : goal.give-requires
give-requires c =
    let leased = lease-taken c.args.pool.now c.take.new.self c.in-Ok.lease c.args.piece.size c.in-Ok.ensures.len c.in-Ok.ensures.zeros in
    let lease =
    begun_lease c.take.new.self c.open-begun.result c.args.peer c.args.piece.size c.args.order 0 c.min.result c.in-Ok.lease c.open-begun.ensures.part in
    let same : c.close.result ≡ c.in-Ok.lease = c.close.ensures ∙ ap (λ (x : Part). x.lease) c.in-Last.ensures.same_part ∙ lease in
    subst (λ (p : Pool). IsLeaseOf p c.close.result) (sym c.in-Last.ensures.same_pool) (subst (IsLeaseOf c.take.new.self) (sym same) leased)

pub returns-in-Last : goal.returns-in-Last
returns-in-Last c =
    let leased = lease-taken c.args.pool.now c.take.new.self c.in-Ok.lease c.args.piece.size c.in-Ok.ensures.len c.in-Ok.ensures.zeros in
    let lease =
    begun_lease c.take.new.self c.open-begun.result c.args.peer c.args.piece.size c.args.order 0 c.min.result c.in-Ok.lease c.open-begun.ensures.part in
    let same : c.close.result ≡ c.in-Ok.lease = c.close.ensures ∙ ap (λ (x : Part). x.lease) c.in-Last.ensures.same_part ∙ lease in
    let p = begun_seen c.take.new.self c.open-begun.result c.args.peer c.args.piece.size c.args.order c.args.unsched c.min.result c.in-Ok.lease
    c.open-begun.ensures.part (c.open-begun.ensures.seen c.take.new.self leased) c.min.ensures in
    record {
      enough = enough_if (pages_for c.args.piece.size) (free_pages c.args.pool.now) c.in-Ok.ensures.full.1;
      whole = ap (λ (p : Incoming). is_whole (with_bytes p c.args.piece.offset c.args.piece.bytes.now)) (sym p) ∙ c.in-Last.ensures.whole;
      message = c.in-Last.ensures.message ∙ ap (λ (p : Incoming). message (with_bytes p c.args.piece.offset c.args.piece.bytes.now)) p;
      same_pool = back c.args.pool.now c.take.new.self c.give.new.self c.in-Ok.lease _ c.in-Ok.ensures.fresh c.in-Ok.ensures.zeros
          (c.give.ensures.given ∙ ap (λ (q : Pool). without q c.close.result) c.in-Last.ensures.same_pool ∙ ap (without c.take.new.self) same);
      no_part = c.requires.none;
    }

pub returns-in-Taken : goal.returns-in-Taken
returns-in-Taken c =
    let leased = lease-taken c.args.pool.now c.take.new.self c.in-Ok.lease c.args.piece.size c.in-Ok.ensures.len c.in-Ok.ensures.zeros in
    let lease =
    begun_lease c.take.new.self c.open-begun.result c.args.peer c.args.piece.size c.args.order 0 c.min.result c.in-Ok.lease c.open-begun.ensures.part in
    let p = begun_seen c.take.new.self c.open-begun.result c.args.peer c.args.piece.size c.args.order c.args.unsched c.min.result c.in-Ok.lease
    c.open-begun.ensures.part (c.open-begun.ensures.seen c.take.new.self leased) c.min.ensures in
    record {
      enough = enough_if (pages_for c.args.piece.size) (free_pages c.args.pool.now) c.in-Ok.ensures.full.1;
      missing = ap (λ (p : Incoming). is_whole (with_bytes p c.args.piece.offset c.args.piece.bytes.now)) (sym p) ∙ c.in-Taken.ensures.missing;
      seen = c.in-Taken.ensures.seen ∙ ap (λ (p : Incoming). with_bytes p c.args.piece.offset c.args.piece.bytes.now) p;
      short = c.in-Taken.ensures.short;
      length = c.in-Taken.ensures.length ∙ ap (λ (x : Part). x.length) c.open-begun.ensures.part;
      moves = begun c.args.pool.now c.take.new.self c.put_piece.new.pool c.open-begun.result c.put_piece.new.part c.in-Ok.lease _
          lease c.in-Taken.ensures.lease c.in-Ok.ensures.fresh c.in-Ok.ensures.zeros c.take.ensures.within c.in-Taken.ensures.moves
          (sym c.in-Taken.ensures.length) c.in-Taken.ensures.written c.in-Taken.ensures.moves.within;
    }

pub unreachable-requires : goal.unreachable-requires
unreachable-requires c =
    let leased = lease-taken c.args.pool.now c.take.new.self c.in-Ok.lease c.args.piece.size c.in-Ok.ensures.len c.in-Ok.ensures.zeros in
    let p = begun_seen c.take.new.self c.open-begun.result c.args.peer c.args.piece.size c.args.order c.args.unsched c.min.result c.in-Ok.lease
    c.open-begun.ensures.part (c.open-begun.ensures.seen c.take.new.self leased) c.min.ensures in
    true≢false (sym c.in-TooMany.ensures.many ∙ ap (λ (p : Incoming). leaves_too_many_gaps p c.args.piece.offset c.args.piece.bytes.now) p
    ∙ first_taken c.args.peer c.args.piece.size c.args.order c.args.unsched c.args.piece.offset c.args.piece.bytes.now)
