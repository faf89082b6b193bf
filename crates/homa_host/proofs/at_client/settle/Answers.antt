use Rattle.std.proofs.Common.{◌≡◌, refl, sym, subst, ◌∙◌, None}
use Rattle.homa_plain.specs.Steps.{asked}
use Rattle.homa_in.specs.Pieces.{piece_in}
use Rattle.homa_client.specs.AtTable.{version_at, answer_of}
use Rattle.homa_client.specs.declared.answers.ClientDid.{ClientDid}
use Rattle.host_state.specs.Control.{IsAt}
use Rattle.homa_host.specs.Outcomes.{IfTouched}
use Rattle.homa_host.proofs.Quiet.{none_there, asked_quiet}
use Rattle.homa_host.proofs.at_client.settle.Goals as goal

pub returns-in-Touched-clause-step : goal.returns-in-Touched-clause-step
returns-in-Touched-clause-step c m p row told w head touched at =
    let control = c.args.control.now in
    let version = version_at (piece_in p.body p.payload) row in
    let is : c.args.touched ≡ version = subst (λ (d : ClientDid). IfTouched d (λ _. c.args.touched ≡ version)) c.in-Touched.is touched in
    subst (λ (d : ClientDid). IsAt (asked control.settings c.args.id c.args.from (answer_of m p row told d) w) control c.args.out.now)
    (sym c.in-Touched.is)
    (asked_quiet control.settings c.args.id w control c.args.out.now at c.args.from m row version (sym is ∙ none_there c.args.touched c.if-is_none.ensures))

pub returns-in-Nothing-clause-step : goal.returns-in-Nothing-clause-step
returns-in-Nothing-clause-step c m p row told w head touched at =
    let control = c.args.control.now in
    subst (λ (d : ClientDid). IsAt (asked control.settings c.args.id c.args.from (answer_of m p row told d) w) control c.args.out.now)
    (sym c.in-Nothing.is) (asked_quiet control.settings c.args.id w control c.args.out.now at c.args.from m row None refl)
