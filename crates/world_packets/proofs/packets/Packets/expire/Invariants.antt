use Rattle.std.proofs.Common.{◌≡◌, false, length}
use Rattle.world_packets.specs.Kept.{AllAged}
use Rattle.world_packets.specs.All.{kept_all, settings_of}
use Rattle.world_packets.proofs.packets.Packets.expire.Given as goal

-- packets of ticks that were given up became too old
abbrev pub invariant-loop-self : goal.invariant-loop-self
invariant-loop-self l = record {
  aged : AllAged (settings_of l.fn.self) l.now (kept_all l.fn.self) (kept_all l.self);
  settings : settings_of l.self ≡ settings_of l.fn.self;
  front : l.self.front ≡ l.fn.self.front;
  tick : l.self.tick ≡ l.fn.self.tick;
  swept : l.self.swept ≡ false;
}

abbrev pub decreases-loop-self : goal.decreases-loop-self
decreases-loop-self l = length l.self.ticks.items
