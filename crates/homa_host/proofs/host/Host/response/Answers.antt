use Rattle.std.proofs.Common.{◌≡◌, [], subst, ap, ◌∙◌}
use Rattle.std.specs.Prelude.{option_copied, unwrap_or}
use Rattle.host_view.specs.Seen.{Seen}
use Rattle.host_view.specs.Marks.{response_of}
use Rattle.homa_host.specs.Parts.{host_of}
use Rattle.homa_host.proofs.ShownBytes.{response-there}
use Rattle.homa_host.proofs.host.Host.response.Goals as goal

pub returns-in-Some : goal.returns-in-Some
returns-in-Some c =
    subst (λ r. unwrap_or (option_copied r) [] ≡ response_of (host_of c.self.inside.parts) c.args.id) c.in-Some.is
    (response-there c.self.inside.parts c.args.id (option_copied c.response.result) c.response.ensures)
    ∙ ap (λ (h : Seen). response_of h.host c.args.id) c.self.view_is

pub returns-in-None : goal.returns-in-None
returns-in-None c =
    subst (λ r. unwrap_or (option_copied r) [] ≡ response_of (host_of c.self.inside.parts) c.args.id) c.in-None.is
    (response-there c.self.inside.parts c.args.id (option_copied c.response.result) c.response.ensures)
    ∙ ap (λ (h : Seen). response_of h.host c.args.id) c.self.view_is
