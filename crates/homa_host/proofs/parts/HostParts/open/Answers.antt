use Rattle.std.proofs.Common.{sym, ap, subst, ◌∙◌}
use Rattle.homa_host.specs.Parts.{seen_of, IsKept}
use Rattle.homa_host.proofs.Opened.{new-kept, new-seen, opened-is}
use Rattle.homa_host.proofs.parts.HostParts.open.Goals as goal

pub returns-in-Ok-Ok-Ok-Ok-Ok-clause-kept : goal.returns-in-Ok-Ok-Ok-Ok-Ok-clause-kept
returns-in-Ok-Ok-Ok-Ok-Ok-clause-kept c =
    let x = c.in-Ok-Ok-Ok-Ok-Ok in
    let b = x.ensures'''' in
    let is = opened-is c.args.settings.now c.args.id c.args.inc c.args.last x.books b.credit b.refilled x.control x.clients x.servers x.pool x.ensures
    x.ensures' x.ensures'' x.ensures'''.pages x.ensures'''.no_lease in
    subst IsKept is
    (new-kept c.args.settings.now c.args.id c.args.inc c.args.last x.books b.credit b.refilled c.requires.valid c.requires.id c.requires.inc
    c.requires.last b.room b.timers b.grants b.pacer b.changed)

pub returns-in-Ok-Ok-Ok-Ok-Ok-clause-seen : goal.returns-in-Ok-Ok-Ok-Ok-Ok-clause-seen
returns-in-Ok-Ok-Ok-Ok-Ok-clause-seen c =
    let x = c.in-Ok-Ok-Ok-Ok-Ok in
    let b = x.ensures'''' in
    let is = opened-is c.args.settings.now c.args.id c.args.inc c.args.last x.books b.credit b.refilled x.control x.clients x.servers x.pool x.ensures
    x.ensures' x.ensures'' x.ensures'''.pages x.ensures'''.no_lease in
    ap seen_of (sym is) ∙ new-seen c.args.settings.now c.args.id c.args.inc c.args.last x.books b.credit b.refilled
