use Rattle.std.proofs.Common.{◌-◌, ◌∙◌, arith, sym, ap, take, length}
use Rattle.plain_sets.specs.Ordered.{ordered, firsts}
use Rattle.check_call.specs.Choices.{sender_of, key_of}
use Rattle.check_call.proofs.ChoiceLaws.{none_chosen, drop_all, one_chosen}
use Rattle.check_call.proofs.choice.choose.Goals as goal

pub loop-i-init : goal.loop-i-init
loop-i-init c =
    let ms = c.args.messages.now in
    c.new-chosen.ensures.items
    ∙ (none_chosen c.args.k ∙ ap (λ l. take c.args.k (firsts sender_of (ordered key_of l))) (sym (drop_all ms (length ms - 0) (omega arith))))

pub loop-i-preserved : goal.loop-i-preserved
loop-i-preserved c =
    c.truncate.ensures.items
    ∙ one_chosen c.args.k c.loop-i.i c.args.messages.now c.loop-i.chosen.items c.enter.new.chosen.items _ c.loop-i-test.true c.loop-i.invariant
    c.in_ok-enter.ensures
