use Rattle.std.proofs.Common.{◌<◌, ℕ, true, refl, ap, subst, None, []}
use Rattle.plain_sets.specs.Maps.{len}
use Rattle.homa_plain.specs.declared.packet.Body.TheVariants as body
use Rattle.msg_pool.specs.Pool.{free_pages}
use Rattle.homa_in.specs.Pieces.{moment_with}
use Rattle.homa_in.proofs.MoveLaws.{still}
use Rattle.host_places.specs.Placed.{Table}
use Rattle.homa_server.specs.Held.{HeldServer}
use Rattle.homa_server.specs.contracts.table.ServerTable.{the_view}
use Rattle.homa_server.specs.declared.answers.ServerDid.TheVariants.{Opened, Ran, FullRows, FullPages}
use Rattle.homa_server.proofs.OpenLaws.{on_err}
use Rattle.homa_server.proofs.NewLaws.{slot_named, full_said, served_none, seen_none, seen_new, seen_asked, seen_still}
use Rattle.homa_server.proofs.table.ServerTable.unknown_gets.Goals as goal

pub returns-in_default : goal.returns-in_default
returns-in_default g c = record {
  taken = record {
    received = λ role server inc at level.
        served_none c.args.self.now c.args.id c.requires.absent c.args.at.now c.args.at.order c.args.lent.now.pool.now c.args.body.now
        c.args.payload.now role server
        inc at level c.args.lent.now.pool.now c.args.lent.now.scratch.now _ c.no_record.result c.requires.pool
        (still c.args.lent.now.pool.now None tt)
        (c.no_record.ensures.did c.args.self.now.settings _ c.args.id c.args.payload.now [] c.args.lent.now.scratch.now)
        c.no_record.ensures.slot c.no_record.ensures.not_run refl;
    counted = rw c.no_record.ensures.not_run refl;
  };
  asked = tt;
  pool = c.requires.pool;
  lent = record { pool = refl; service = refl; scratch = refl; before = λ count n hold q r h. h };
}

pub returns-then-rows-self-clause-taken : goal.returns-then-rows-self-clause-taken
returns-then-rows-self-clause-taken g c =
    let t = the_view c.self.inside in
    rw c.in-Data.is (record {
      received =
          (seen_none t _ c.self.view_is c.args.id c.requires.absent c.args.at.now c.args.at.order c.args.lent.now.pool.now c.requires.pool
          (body.Data c.in-Data.length c.in-Data.offset c.in-Data.version c.in-Data.number c.in-Data.ack) c.args.payload.now c.args.lent.now.pool.now
          c.args.lent.now.scratch.now _ (FullRows c.len-rows.result)
          (still c.args.lent.now.pool.now None tt)
          (full_said t c.args.id c.args.at.now c.args.at.order c.args.lent.now.pool.now c.in-Data.length c.in-Data.offset c.in-Data.version c.in-Data.number
          c.args.payload.now c.in-Data.ack c.args.lent.now.scratch.now c.len-rows.result c.len-rows.ensures.len c.if-rows-self.true)
          tt refl refl);
      counted = refl;
    })

pub returns-in_err-need-clause-asked : goal.returns-in_err-need-clause-asked
returns-in_err-need-clause-asked g c =
    let t = the_view c.self.inside in
    on_err c.from_residual.result _ (rw c.in-Data.is (record {
      asks = λ role server inc sent level a.
          seen_asked t _ c.self.view_is c.args.id c.requires.absent c.args.at.now c.args.at.order c.args.lent.now.pool.now
          (body.Data c.in-Data.length c.in-Data.offset c.in-Data.version c.in-Data.number c.in-Data.ack) c.args.payload.now c.in-Data.number
          c.open_row.new.lent.scratch.now a
          (c.in_err-need.ensures.asks c.args.id (moment_with t.host c.args.at.now c.args.at.order (free_pages c.args.lent.now.pool.now) (len t.rows))
          c.in-Data.version a
          (subst (λ (n : ℕ). n < t.settings.served) c.len-rows.ensures.len c.if-rows-self.false) refl)
          role server inc sent level;
      same = refl;
      refused = c.in_err-need.ensures.refused;
    }))

pub returns-in-FullPages-clause-taken : goal.returns-in-FullPages-clause-taken
returns-in-FullPages-clause-taken g c =
    let t = the_view c.self.inside in
    rw c.in-Data.is (record {
      received =
          (seen_none t _ c.self.view_is c.args.id c.requires.absent c.args.at.now c.args.at.order c.args.lent.now.pool.now c.requires.pool
          (body.Data c.in-Data.length c.in-Data.offset c.in-Data.version c.in-Data.number c.in-Data.ack) c.args.payload.now c.open_row.new.lent.pool.now
          c.open_row.new.lent.scratch.now _ (FullPages c.in-FullPages.need c.in-FullPages.free)
          (rw c.in-FullPages.is at c.in_ok-need.ensures.moves)
          ((rw c.in-FullPages.is at c.in_ok-need.ensures.did) c.args.id t.host (len t.rows) c.in-Data.version 0 refl
          (subst (λ (n : ℕ). n < t.settings.served) c.len-rows.ensures.len c.if-rows-self.false))
          tt refl ((rw c.in-FullPages.is at c.in_ok-need.ensures.idle) refl));
      counted = (rw c.in-FullPages.is at c.in_ok-need.ensures.served).counted;
    })

pub returns-in-Begun-clause-taken : goal.returns-in-Begun-clause-taken
returns-in-Begun-clause-taken g c =
    let t = the_view c.self.inside in
    rw c.in-Data.is (record {
      received =
          (seen_new t _ c.self.view_is c.args.id c.requires.absent c.args.at.now c.args.at.order c.args.lent.now.pool.now c.requires.pool
          (body.Data c.in-Data.length c.in-Data.offset c.in-Data.version c.in-Data.number c.in-Data.ack) c.args.payload.now c.open_row.new.lent.pool.now
          c.open_row.new.lent.scratch.now _ (Opened c.insert.result)
          c.insert.result c.in-Begun.row c.insert.new.self.rows (ap (λ (x : Table HeldServer). x.rows) c.insert.ensures.inserted)
          (rw c.in-Begun.is at c.in_ok-need.ensures.moves)
          ((rw c.in-Begun.is at c.in_ok-need.ensures.did) c.args.id t.host (len t.rows) c.in-Data.version c.insert.result refl
          (subst (λ (n : ℕ). n < t.settings.served) c.len-rows.ensures.len c.if-rows-self.false))
          refl (slot_named c.insert.result) tt);
      counted = (rw c.in-Begun.is at c.in_ok-need.ensures.served).counted;
    })

pub returns-in-Begun-clause-pool : goal.returns-in-Begun-clause-pool
returns-in-Begun-clause-pool g c =
    let t = the_view c.self.inside in
    seen_still t _ c.self.view_is c.args.id c.requires.absent c.args.at.now c.args.at.order c.args.lent.now.pool.now c.requires.pool
    (body.Data c.in-Data.length c.in-Data.offset c.in-Data.version c.in-Data.number c.in-Data.ack) c.args.payload.now c.open_row.new.lent.pool.now []
    (λ request response hold. Unit {0}) (Opened c.insert.result)
    c.insert.result c.in-Begun.row c.insert.new.self.rows (ap (λ (x : Table HeldServer). x.rows) c.insert.ensures.inserted)
    (rw c.in-Begun.is at c.in_ok-need.ensures.moves)

pub returns-in-Ran-clause-taken : goal.returns-in-Ran-clause-taken
returns-in-Ran-clause-taken g c =
    let t = the_view c.self.inside in
    rw c.in-Data.is (record {
      received =
          (seen_new t _ c.self.view_is c.args.id c.requires.absent c.args.at.now c.args.at.order c.args.lent.now.pool.now c.requires.pool
          (body.Data c.in-Data.length c.in-Data.offset c.in-Data.version c.in-Data.number c.in-Data.ack) c.args.payload.now c.open_row.new.lent.pool.now
          c.open_row.new.lent.scratch.now _ (Ran c.insert-in-Ran.result true c.in-Ran.hold)
          c.insert-in-Ran.result c.in-Ran.row c.insert-in-Ran.new.self.rows (ap (λ (x : Table HeldServer). x.rows) c.insert-in-Ran.ensures.inserted)
          (rw c.in-Ran.is at c.in_ok-need.ensures.moves)
          ((rw c.in-Ran.is at c.in_ok-need.ensures.did) c.args.id t.host (len t.rows) c.in-Data.version c.insert-in-Ran.result refl
          (subst (λ (n : ℕ). n < t.settings.served) c.len-rows.ensures.len c.if-rows-self.false))
          refl (slot_named c.insert-in-Ran.result) (rw c.in-Ran.is at c.in_ok-need.ensures.served).allowed);
      counted = (rw c.in-Ran.is at c.in_ok-need.ensures.served).counted;
    })

pub returns-in-Ran-clause-pool : goal.returns-in-Ran-clause-pool
returns-in-Ran-clause-pool g c =
    let t = the_view c.self.inside in
    seen_still t _ c.self.view_is c.args.id c.requires.absent c.args.at.now c.args.at.order c.args.lent.now.pool.now c.requires.pool
    (body.Data c.in-Data.length c.in-Data.offset c.in-Data.version c.in-Data.number c.in-Data.ack) c.args.payload.now c.open_row.new.lent.pool.now []
    (λ request response hold. Unit {0}) (Ran c.insert-in-Ran.result true c.in-Ran.hold)
    c.insert-in-Ran.result c.in-Ran.row c.insert-in-Ran.new.self.rows (ap (λ (x : Table HeldServer). x.rows) c.insert-in-Ran.ensures.inserted)
    (rw c.in-Ran.is at c.in_ok-need.ensures.moves)
