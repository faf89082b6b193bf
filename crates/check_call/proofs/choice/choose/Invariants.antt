use Rattle.std.proofs.Common.{◌≡◌, ◌-◌, take, drop, length}
use Rattle.plain_sets.specs.Ordered.{ordered, firsts}
use Rattle.check_call.specs.Choices.{sender_of, key_of}
use Rattle.check_call.proofs.choice.choose.Given as goal

-- of the last i messages, the first k with different senders
abbrev pub invariant-loop-i : goal.invariant-loop-i
invariant-loop-i l = l.chosen.items ≡ take l.k (firsts sender_of (ordered key_of (drop (length l.messages - l.i) l.messages)))
