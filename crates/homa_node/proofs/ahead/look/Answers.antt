use Rattle.std.proofs.Common.{refl, sym, subst}
use Rattle.script_lines.proofs.ReadParts.{read_start}
use Rattle.node_script.specs.Heads.{setup_seen}
use Rattle.homa_node.specs.Coming.{IsAllRead}
use Rattle.homa_node.proofs.Coming.{looked_of}
use Rattle.homa_node.proofs.Refusals.{looked_err}
use Rattle.homa_node.proofs.ahead.look.Goals as goal

pub returns-in_default : goal.returns-in_default
returns-in_default g c = record {
  looked = λ bytes k. (read_start bytes _ _ k, λ a. subst (IsAllRead c.args.ahead.now) (sym k) a);
  stops = tt;
  known = looked_of c.args.ahead.now c.in_default.not-Unread;
  counted = c.requires.counted;
  limit = refl;
  room = λ most steps h. h;
  on = λ e. absurd (c.in_default.not-Unread e);
  faults = refl;
  same = g.met.S.Source.same_self _;
}

pub returns-in-Err-clause-looked : goal.returns-in-Err-clause-looked
returns-in-Err-clause-looked g c =
    λ bytes k. looked_err (setup_seen c.args.setup.now) c.args.ahead.now c.args.ahead.now c.args.reader.now c.next_call.new.self bytes _ c.in-Err.stop
    c.stop_at.result c.line.result c.in-Unread.is c.line.ensures c.stop_at.ensures (c.in-Err.ensures.call bytes k)
