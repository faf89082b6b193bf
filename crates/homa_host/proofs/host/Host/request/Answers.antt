use Rattle.std.proofs.Common.{sym, ap, ◌∙◌}
use Rattle.host_view.specs.Seen.{Seen}
use Rattle.host_view.specs.Marks.{request_of}
use Rattle.homa_host.proofs.ShownBytes.{request-there, request-none}
use Rattle.homa_host.proofs.host.Host.request.Goals as goal

pub returns-in-Some : goal.returns-in-Some
returns-in-Some c =
    request-there c.self.inside.parts c.args.id c.in-Some.slot c.request.result.now (sym c.find.ensures.place ∙ c.in-Some.is)
    (λ row at. c.request.ensures c.args.id row at) ∙ ap (λ (h : Seen). request_of h.host c.args.id) c.self.view_is

pub returns-in-None : goal.returns-in-None
returns-in-None c =
    request-none c.self.inside.parts c.args.id (sym c.find.ensures.place ∙ c.in-None.is) ∙ ap (λ (h : Seen). request_of h.host c.args.id) c.self.view_is
