use Rattle.std.proofs.Common.{◌≡◌, ℕ, Some, None, Option, IfNone, sym, subst, ap, ◌∙◌}
use Rattle.homa_plain.specs.Tombstones.{server_acked}
use Rattle.msg_pool.specs.Pool.{Pool}
use Rattle.homa_in.specs.Pooled.{AreIn}
use Rattle.host_places.specs.Placed.{ArePlaced, set_at}
use Rattle.homa_server.specs.Answers.{acked_of}
use Rattle.homa_server.specs.Table.{Servers, ServerMoved, request_at, server_at, server_moment, slot_at}
use Rattle.homa_server.proofs.StandLaws.{acked_at, moved_new, slot_new}
use Rattle.homa_server.proofs.KnownLaws.{known_there, known_stands, known_still}
use Rattle.homa_server.specs.Held.{HeldServer}
use Rattle.homa_server.specs.Table.{ServerRows}
use Rattle.homa_server.proofs.ServedLaws.{new-same}
use Rattle.homa_server.proofs.table.ServerTable.known_acked.Goals as goal

pub row_mut-requires : goal.row_mut-requires
row_mut-requires c =
    let t = c.self.inside in
    known_there t.settings.served t.rows.rows c.args.id c.args.slot
    (subst (λ (v : Servers). ArePlaced v.settings.served v.rows) (sym c.self.view_is) c.requires.placed)
    (subst (λ (v : Servers). Some c.args.slot ≡ slot_at v.rows c.args.id) (sym c.self.view_is) c.requires.stands)

pub returns-clause-acked : goal.returns-clause-acked
returns-clause-acked c =
    let t = c.self.inside in
    let rows = t.rows.rows in
    let row = c.row_mut.result.now in
    let after = c.bury_at_ack.new.self in
    let placed = subst (λ (v : Servers). ArePlaced v.settings.served v.rows) (sym c.self.view_is) c.requires.placed in
    let here = subst (λ (v : Servers). Some c.args.slot ≡ slot_at v.rows c.args.id) (sym c.self.view_is) c.requires.stands in
    let stands = known_stands t.settings.served rows c.args.id c.args.slot placed here row c.row_mut.ensures.row in
    subst (λ (v : Servers). (pool : Pool) (order : ℕ) → AreIn pool (request_at v.rows)
    → server_acked v.settings (server_moment v c.args.now order pool c.args.id) c.args.id (server_at pool v.rows c.args.id)
    ≡ acked_of (server_moment v c.args.now order pool c.args.id) c.args.id (server_at pool (set_at rows c.args.slot after) c.args.id)
    c.bury_at_ack.result) c.self.view_is
    (λ pool order are.
    let v : Servers = record { host = t.host; settings = t.settings; rows = rows } in
    let m = server_moment v c.args.now order pool c.args.id in
    acked_at t.settings.served rows c.args.slot placed t.host t.settings c.args.id row stands pool pool after are
    (known_still t.settings.served rows c.args.id c.args.slot placed here row c.row_mut.ensures.row after pool c.bury_at_ack.ensures.part are) m
    c.bury_at_ack.result
    (c.bury_at_ack.ensures.did c.args.id t.host order m.free m.rows pool))

pub returns-clause-slot : goal.returns-clause-slot
returns-clause-slot c =
    let t = c.self.inside in
    let rows = t.rows.rows in
    let placed = subst (λ (v : Servers). ArePlaced v.settings.served v.rows) (sym c.self.view_is) c.requires.placed in
    let here = subst (λ (v : Servers). Some c.args.slot ≡ slot_at v.rows c.args.id) (sym c.self.view_is) c.requires.stands in
    slot_new t.settings.served rows c.args.slot placed t.host t.settings c.args.id c.row_mut.result.now
    (known_stands t.settings.served rows c.args.id c.args.slot placed here c.row_mut.result.now c.row_mut.ensures.row) c.bury_at_ack.new.self

pub returns-clause-moved : goal.returns-clause-moved
returns-clause-moved c =
    let t = c.self.inside in
    let rows = t.rows.rows in
    let row = c.row_mut.result.now in
    let after = c.bury_at_ack.new.self in
    let placed = subst (λ (v : Servers). ArePlaced v.settings.served v.rows) (sym c.self.view_is) c.requires.placed in
    let here = subst (λ (v : Servers). Some c.args.slot ≡ slot_at v.rows c.args.id) (sym c.self.view_is) c.requires.stands in
    let stands = known_stands t.settings.served rows c.args.id c.args.slot placed here row c.row_mut.ensures.row in
    subst (λ (v : Servers). (pool : Pool) → AreIn pool (request_at v.rows)
    → ServerMoved c.args.id v pool (record { host = t.host; settings = t.settings; rows = set_at rows c.args.slot after }) pool
    (server_at pool (set_at rows c.args.slot after) c.args.id)) c.self.view_is
    (λ pool are.
    let moves = known_still t.settings.served rows c.args.id c.args.slot placed here row c.row_mut.ensures.row after pool c.bury_at_ack.ensures.part are in
    moved_new t.settings.served rows c.args.slot placed t.host t.settings c.args.id row stands pool pool after are moves)

none_so : (o : Option ℕ) (P Q : Type 0) → (P → Q) → IfNone o P → IfNone o Q
none_so None P Q f p = f p
none_so (Some n) P Q f p = tt

pub returns-clause-same : goal.returns-clause-same
returns-clause-same c =
    let t = c.self.inside in
    let rows = t.rows.rows in
    let row = c.row_mut.result.now in
    let after = c.bury_at_ack.new.self in
    let placed = subst (λ (v : Servers). ArePlaced v.settings.served v.rows) (sym c.self.view_is) c.requires.placed in
    let here = subst (λ (v : Servers). Some c.args.slot ≡ slot_at v.rows c.args.id) (sym c.self.view_is) c.requires.stands in
    let stands = known_stands t.settings.served rows c.args.id c.args.slot placed here row c.row_mut.ensures.row in
    subst (λ (v : Servers). IfNone c.bury_at_ack.result (record { host = t.host; settings = t.settings; rows = set_at rows c.args.slot after } ≡ v))
    c.self.view_is
    (none_so c.bury_at_ack.result (after ≡ row) _ (λ same.
    ap (λ (r : HeldServer). record { host = t.host; settings = t.settings; rows = set_at rows c.args.slot r }) same
    ∙ ap (λ (m : ServerRows). record { host = t.host; settings = t.settings; rows = m })
    (new-same t.settings.served rows c.args.slot placed t.host t.settings c.args.id row stands)) c.bury_at_ack.ensures.same)
