use Rattle.std.proofs.Common.{arith, ap, ◌∙◌, map}
use Rattle.node_script.specs.Setup.{naming_seen}
use Rattle.node_script.proofs.Heads.{named_on, named_full}
use Rattle.node_script.proofs.head.Head.says.Goals as goal

pub returns-in_ok-push-in-Names-clause-head : goal.returns-in_ok-push-in-Names-clause-head
returns-in_ok-push-in-Names-clause-head c =
    λ head is. rw c.in-Names.is (record {
      settings = is.settings;
      named = ap (map naming_seen) c.in_ok-push-in-Names.ensures.items
          ∙ named_on c.args.self.now.named.items head.named c.in-Names.naming is.named (omega (arith, c.len.ensures, c.if-len-lt-MOST_NAMED.true));
      end = is.end;
      turns = is.turns;
    })

pub returns-else-len-lt-MOST_NAMED-clause-head : goal.returns-else-len-lt-MOST_NAMED-clause-head
returns-else-len-lt-MOST_NAMED-clause-head c =
    λ head is. rw c.in-Names.is (record {
      settings = is.settings;
      named = named_full c.args.self.now.named.items head.named (naming_seen c.in-Names.naming) is.named
          (omega (arith, c.len.ensures, c.if-len-lt-MOST_NAMED.false));
      end = is.end;
      turns = is.turns;
    })
