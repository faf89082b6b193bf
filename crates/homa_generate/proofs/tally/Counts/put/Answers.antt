-- One line more, up to the last.
use Rattle.std.proofs.Common.{◌<◌, ap, List, ℕ, slice_index, arith}
use Rattle.std.proofs.lemmas.Option.{get_or_from_slice_get}
use Rattle.homa_io.proofs.Writing.{handed_on, ends_on, went_on, none_written}
use Rattle.homa_replay.proofs.Fronts.{wrote_entry, took_entry}
use Rattle.homa_generate.specs.Counts.{kinds, count_line}
use Rattle.homa_generate.proofs.CountLaws.{line_is}
use Rattle.homa_generate.proofs.tally.Counts.put.Goals as goal

pub loop-place-init : goal.loop-place-init
loop-place-init g c = record { so_far = none_written (g.met.K.Sink.same_self _) }

pub returns-in_err-put_line : goal.returns-in_err-put_line
returns-in_err-put_line g c =
    let i = c.loop-place.place in
    let inside : i < 15 = omega (arith, c.loop-place-test.true) in
    let k = c.kind_at-kind.result in
    let n = slice_index c.self.inside.numbers c.place_of.result in
    let read = ap (λ (l : List ℕ). slice_index l c.place_of.result) c.self.view_is in
    let line = line_is c.args.self.now k c.name_of.result.now c.place_of.result n c.name_of.ensures c.place_of.ensures.place read in
    let so_far = c.loop-place.invariant.so_far in
    handed_on _ c.from_residual.ensures.0
    (ends_on g.met.K.Sink.same_on so_far c.in_err-put_line.ensures (λ done. done)
    (λ front. took_entry (count_line c.args.self.now) kinds i k _ _ _ _ inside (get_or_from_slice_get kinds i k k c.kind_at-kind.ensures) line so_far.ok front))
    (λ front. front)

pub loop-place-preserved : goal.loop-place-preserved
loop-place-preserved g c =
    let i = c.loop-place.place in
    let inside : i < 15 = omega (arith, c.loop-place-test.true) in
    let k = c.kind_at-kind.result in
    let n = slice_index c.self.inside.numbers c.place_of.result in
    let read = ap (λ (l : List ℕ). slice_index l c.place_of.result) c.self.view_is in
    let line = line_is c.args.self.now k c.name_of.result.now c.place_of.result n c.name_of.ensures c.place_of.ensures.place read in
    let so_far = c.loop-place.invariant.so_far in
    record {
      so_far = went_on g.met.K.Sink.same_on so_far c.in_ok-put_line.ensures
          (wrote_entry (count_line c.args.self.now) kinds i k _ _ _ _ inside (get_or_from_slice_get kinds i k k c.kind_at-kind.ensures) line so_far.ok
          c.in_ok-put_line.ensures.ok);
    }
