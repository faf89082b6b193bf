use Rattle.std.proofs.Common.{◌∙◌, ℕ, refl, sym, subst, Option, None}
use Rattle.std.specs.Option.{option_map}
use Rattle.homa_plain.specs.Entries.{PlainBury}
use Rattle.homa_plain.specs.Rules.{leaves}
use Rattle.homa_plain.specs.Steps.{served}
use Rattle.homa_server.specs.Answers.{acked_of}
use Rattle.host_state.specs.Control.{Control, IsAt}
use Rattle.homa_host.proofs.Quiet.{served_quiet, served_told}
use Rattle.homa_host.proofs.at_server.tell_buried.Goals as goal
use Rattle.homa_host.proofs.at_server.tell_buried.Goals.{in-Some, in_default}

pub returns-clause-step : goal.returns-clause-step
returns-clause-step c m row w frames at =
    let old = c.args.control.now in
    let new = c.match-acked.control in
    elim c.match-acked.branch [
      | in-Some b ↦
          subst (λ (o : Option (ℕ × ℕ)). IsAt (served old.settings c.args.id (acked_of m c.args.id row (option_map (λ (x : ℕ × ℕ). x.1) o)) w) new frames)
          (sym b.in-Some.is)
          (served_told old.settings c.args.id w old frames at m row (PlainBury m.host c.args.id b.in-Some.until) new (b.control-is ∙ b.tell.ensures))
      | in_default b ↦
          subst (λ (o : Option (ℕ × ℕ)). IsAt (served old.settings c.args.id (acked_of m c.args.id row (option_map (λ (x : ℕ × ℕ). x.1) o)) w) new frames)
          (sym b.in_default.is)
          (subst (λ (k : Control). IsAt (served old.settings c.args.id (leaves m row) w) k frames) (sym b.control-is)
          (served_quiet old.settings c.args.id w old frames at m row None refl))
    ]
