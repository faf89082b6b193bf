use Rattle.std.proofs.Common.{◌∙◌, ap, List, length, take}
use Rattle.plain_sets.specs.Ordered.{ordered, firsts}
use Rattle.check_call.specs.declared.choice.Message.{Message}
use Rattle.check_call.specs.Choices.{sender_of, key_of}
use Rattle.homa_check.specs.Grants.{is_grant_among}
use Rattle.homa_check.proofs.GrantLaws.{granted_is}
use Rattle.homa_check.proofs.judge.has_grant.Goals as goal

pub returns : goal.returns
returns c v f =
    let t = c.args.trace.now in
    let g = c.args.grant.now in
    let chosen = c.deref-2.ensures.value
    ∙ (c.in_ok-chosen.ensures ∙ ap (λ (l : List Message). take t.settings.overcommit (firsts sender_of (ordered key_of l))) c.deref.ensures.value) in
    c.is_granted.ensures
    ∙ (ap (λ (l : List Message). is_grant_among t.settings.window (length l) 0 g l) chosen
    ∙ granted_is v c.args.host g t.settings.overcommit t.settings.window c.in_ok-messages.messages.items (ap (λ s. s.overcommit) f.kept.settings)
    (ap (λ s. s.window) f.kept.settings) (c.in_ok-messages.ensures v f))
