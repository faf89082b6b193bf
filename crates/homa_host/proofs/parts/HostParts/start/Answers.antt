use Rattle.std.proofs.Common.{sym, ap, subst, ◌∙◌, rules}
use Rattle.host_books.specs.declared.books.Books.{Books}
use Rattle.homa_host.specs.Parts.{IsKept}
use Rattle.homa_host.proofs.Starts.{fault-same, can-follow, followed-there, kept-there}
use Rattle.homa_host.proofs.parts.HostParts.start.Goals as goal

pub returns-in-Err-clause-fault : goal.returns-in-Err-clause-fault
returns-in-Err-clause-fault c =
    fault-same c.args.self.now c.args.server c.args.request.items c.requires.kept.one.client c.requires.kept.one.client_settings ∙ c.in-Err.ensures.fault

pub returns-in-Err-clause-kept : goal.returns-in-Err-clause-kept
returns-in-Err-clause-kept c = subst IsKept (ap (λ t. record (c.args.self.now) { clients = t }) (sym c.in-Err.ensures.same)) c.requires.kept

pub follow_client-requires : goal.follow_client-requires
follow_client-requires c =
    can-follow c.args.self.now c.requires.kept c.args.server c.args.number c.args.request.items c.args.now c.start.new.self c.in-Ok.started.0
    c.in-Ok.started.1 c.in-Ok.ensures.started c.requires.now c.requires.later

pub returns-clause-no_fault : goal.returns-clause-no_fault
returns-clause-no_fault c =
    fault-same c.args.self.now c.args.server c.args.request.items c.requires.kept.one.client c.requires.kept.one.client_settings ∙ c.in-Ok.ensures.no_fault

pub returns-clause-kept : goal.returns-clause-kept
returns-clause-kept c =
    let books = followed-there c.args.self.now c.requires.kept c.args.server c.args.number c.args.request.items c.args.now c.start.new.self c.in-Ok.started.0
    c.in-Ok.started.1 c.in-Ok.ensures.started c.requires.now c.requires.later
    c.follow_client.new.books c.follow_client.ensures in
    kept-there c.args.self.now c.requires.kept c.args.server c.args.number c.args.request.items c.args.now c.start.new.self c.in-Ok.started.0
    c.in-Ok.started.1 c.in-Ok.ensures.started c.requires.now c.requires.later
    c.tell.new.self c.follow_client.new.books (search rules) (search rules) books c.requires.server

pub returns-clause-step : goal.returns-clause-step
returns-clause-step c =
    let books = followed-there c.args.self.now c.requires.kept c.args.server c.args.number c.args.request.items c.args.now c.start.new.self c.in-Ok.started.0
    c.in-Ok.started.1 c.in-Ok.ensures.started c.requires.now c.requires.later
    c.follow_client.new.books c.follow_client.ensures in
    let credit = ap (λ (b : Books). b.pacer.credit) books in
    let refilled = ap (λ (b : Books). b.pacer.refilled) books in
    search (rules, credit, refilled)
