-- The lines of the entries, one after another.
use Rattle.std.proofs.Common.{◌<◌, arith, ap, map, length}
use Rattle.std.specs.Prelude.{slice_get}
use Rattle.std.proofs.lemmas.List.{length-map}
use Rattle.std.proofs.lemmas.Option.{get_or_from_slice_get}
use Rattle.homa_io.proofs.Writing.{handed_on, ends_on, went_on, none_written}
use Rattle.homa_plain.specs.Entries.{plain}
use Rattle.homa_plain.specs.Text.{line_text}
use Rattle.homa_replay.proofs.Fronts.{wrote_entry, took_entry}
use Rattle.event_laws.specs.Named.{numbered}
use Rattle.host_table.specs.Left.{entries_of}
use Rattle.host_table.specs.Staged.{hosts_of}
use Rattle.host_table.proofs.StageLaws.{map_at}
use Rattle.homa_world.proofs.parts.WorldParts.put_step.Goals as goal

pub loop-i-init : goal.loop-i-init
loop-i-init g c = record { so_far = none_written (g.met.K.Sink.same_self _) }

pub returns-in_err-put : goal.returns-in_err-put
returns-in_err-put g c =
    let told = entries_of c.args.self.now.stage (slice_get (hosts_of c.args.self.now.stage) c.args.host.0) in
    let shown = map (numbered c.args.base) told in
    let e = numbered c.args.base (plain c.entry-entry.result) in
    let inside : c.loop-i.i < length shown = omega (arith, c.entries-count.ensures.told, c.loop-i-test.true, length-map told (numbered c.args.base)) in
    let at = get_or_from_slice_get shown c.loop-i.i e e
    (map_at (numbered c.args.base) told c.loop-i.i (plain c.entry-entry.result) c.entry-entry.ensures.entry) in
    handed_on _ c.from_residual.ensures.0
    (ends_on g.met.K.Sink.same_on c.loop-i.invariant.so_far c.in_err-put.ensures (λ line. line)
    (λ front. took_entry line_text shown c.loop-i.i e _ _ _ _ inside at (ap line_text c.number_on.ensures.entry) c.loop-i.invariant.so_far.ok front))
    (λ front. front)

pub loop-i-preserved : goal.loop-i-preserved
loop-i-preserved g c =
    let told = entries_of c.args.self.now.stage (slice_get (hosts_of c.args.self.now.stage) c.args.host.0) in
    let shown = map (numbered c.args.base) told in
    let e = numbered c.args.base (plain c.entry-entry.result) in
    let inside : c.loop-i.i < length shown = omega (arith, c.entries-count.ensures.told, c.loop-i-test.true, length-map told (numbered c.args.base)) in
    let at = get_or_from_slice_get shown c.loop-i.i e e
    (map_at (numbered c.args.base) told c.loop-i.i (plain c.entry-entry.result) c.entry-entry.ensures.entry) in
    record {
      so_far = went_on g.met.K.Sink.same_on c.loop-i.invariant.so_far c.in_ok-put.ensures
          (wrote_entry line_text shown c.loop-i.i e _ _ _ _ inside at (ap line_text c.number_on.ensures.entry) c.loop-i.invariant.so_far.ok
          c.in_ok-put.ensures.ok);
    }
