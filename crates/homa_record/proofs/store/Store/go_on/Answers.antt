use Rattle.std.proofs.Common.{arith}
use Rattle.homa_record.proofs.Rising.{rising_to}
use Rattle.homa_record.proofs.store.Store.go_on.Goals as goal

pub invariant_of-self : goal.invariant_of-self
invariant_of-self c =
    record {
      fits = c.args.self.now.fits;
      indexed = c.args.self.now.indexed;
      rising = rising_to 0 c.args.self.now.tick c.max-self.result c.args.self.now.ring.items (omega arith) c.args.self.now.rising;
    }
