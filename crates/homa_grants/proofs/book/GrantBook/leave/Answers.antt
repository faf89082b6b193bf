-- The table says whether there is a message of the slot, and of which peer it is.
use Rattle.std.proofs.Common.{ap, sym}
use Rattle.homa_grants.specs.Books.{Book}
use Rattle.homa_grants.proofs.EntryLaws.{without-absent}
use Rattle.homa_grants.proofs.KeptLaws.{kept_as, in_table, not_in_table}
use Rattle.homa_grants.proofs.book.GrantBook.leave.Goals as goal

pub put-requires-clause-peer : goal.put-requires-clause-peer
put-requires-clause-peer c =
    (in_table (kept_as c.self.view_is c.self.invariant) c.args.slot c.index.result.now c.in-Some.peer c.requires c.index.ensures c.in-Some.is).peer_in

pub returns-in_default-clause-left : goal.returns-in_default-clause-left
returns-in_default-clause-left c =
    let b : Book = c.args.self.now in
    let none = not_in_table (kept_as c.self.view_is c.self.invariant) c.args.slot c.index.result.now c.requires c.index.ensures c.in_default.is in
    ap (λ es. record b { entries = es }) (sym (without-absent c.args.slot b.entries none))
