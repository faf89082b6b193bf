use Rattle.std.proofs.Common.{[], sym, ◌∙◌, rules}
use Rattle.std.proofs.lemmas.List.{nil_from_length}
use Rattle.homa_io.specs.Held.{text_bytes}
use Rattle.homa_io.proofs.Holding.{part_went_out, grew, all_went_out}
use Rattle.homa_io.proofs.held.HeldSink.flush.Goals as goal

pub loop-self-preserved : goal.loop-self-preserved
loop-self-preserved g c =
    let l = c.loop-self.invariant in
    let e = c.in_ok-n.ensures in
    record {
      whole = part_went_out _ _ _ _ _ _ _ _ c.rest-in-loop-self.ensures.rest c.went_out.ensures l.whole e.taken;
      grows = grew _ _ _ [] [] _ [] _ l.grows e.taken;
      direct = l.direct;
      quiet = e.quiet ∙ l.quiet;
      same = g.met.K.Sink.same_on _ _ _ l.same e.same;
    }

pub returns-clause-ok : goal.returns-clause-ok
returns-clause-ok g c =
    all_went_out _ _ _ (text_bytes c.loop-self.self.text) (sym c.rest.ensures.rest ∙ nil_from_length _ (search rules)) c.loop-self.invariant.whole
