-- One mark more, up to the last.
use Rattle.std.proofs.Common.{◌≤◌, ◌≡◌, length, subst, arith}
use Rattle.std.proofs.lemmas.List.{take_all, get_or_default}
use Rattle.std.proofs.lemmas.List.Elements.{Contains-get_or}
use Rattle.homa_world.specs.Standing.{told_by}
use Rattle.homa_world.specs.Counting.{unmarked_kind}
use Rattle.homa_generate.specs.Counts.{one_more}
use Rattle.homa_generate.proofs.CountLaws.{CountedTo, none_counted, mark_counted, all_counted}
use Rattle.homa_generate.proofs.worlds.WorldGenerateWorld.count_lines.Goals as goal

pub loop-mark-init : goal.loop-mark-init
loop-mark-init g c = λ a.
    let first : c.note_kind.new.self ≡ one_more c.args.counts.now (unmarked_kind c.args.self.now.last) =
    subst (λ o. c.note_kind.new.self ≡ one_more c.args.counts.now o) c.unmarked_kind.ensures c.in_ok-note_kind.ensures.ok in
    none_counted c.args.counts.now c.note_kind.new.self (unmarked_kind c.args.self.now.last) a.kind c.marks-marks.result.now first

pub mark_kind-requires : goal.mark_kind-requires
mark_kind-requires g c = record {
  stands = c.marks-marks.ensures.stand _ (Contains-get_or c.marks-marks.result.now c.loop-mark.mark-index _ c.loop-mark-test.true);
}

pub loop-mark-preserved : goal.loop-mark-preserved
loop-mark-preserved g c = λ a.
    let marks = c.marks-marks.result.now in
    let i = c.loop-mark.mark-index in
    mark_counted c.args.counts.now c.loop-mark.counts c.note_kind-in-loop-mark.new.self (unmarked_kind c.args.self.now.last) a.kind marks i _
    c.mark_kind.result c.loop-mark-test.true
    (get_or_default marks i _ _ c.loop-mark-test.true) (a.kinds _ c.mark_kind.result (Contains-get_or marks i _ c.loop-mark-test.true) c.mark_kind.ensures)
    (c.loop-mark.invariant a) c.in_ok-note_kind-2.ensures.ok

pub returns : goal.returns
returns g c =
    let w = c.args.self.now in
    let a = c.marks-marks.ensures in
    let marks = c.marks-marks.result.now in
    let past : length marks ≤ c.loop-mark.mark-index = omega (arith, c.loop-mark-test.false) in
    all_counted c.args.counts.now c.loop-mark.counts (unmarked_kind w.last) a.kind marks (told_by w w.last)
    (subst (λ ms. CountedTo c.args.counts.now (unmarked_kind w.last) a.kind ms c.loop-mark.counts) (take_all c.loop-mark.mark-index marks past)
    (c.loop-mark.invariant a)) a.counted
