-- What stands before a step's entries, and then these.
use Rattle.std.proofs.Common.{◌≡◌, ◌++◌, ap, sym, ◌∙◌, map}
use Rattle.std.specs.Prelude.{slice_get}
use Rattle.std.specs.List.{flat_map}
use Rattle.std.proofs.lemmas.Grind.{flat_map-append}
use Rattle.homa_io.proofs.Writing.{handed_on, written_on}
use Rattle.homa_plain.specs.Text.{line_text}
use Rattle.homa_replay.proofs.Fronts.{front_wide, front_same}
use Rattle.event_laws.specs.Named.{numbered}
use Rattle.host_table.specs.Left.{entries_of}
use Rattle.host_table.specs.Staged.{hosts_of}
use Rattle.homa_world.specs.Standing.{first_told, told_of, told_by}
use Rattle.homa_world.proofs.parts.WorldParts.put_entries.Goals as goal

pub returns-in_err-put_first-in-Stepped : goal.returns-in_err-put_first-in-Stepped
returns-in_err-put_first-in-Stepped g c =
    let w = c.args.self.now in
    let at = c.in-Stepped in
    let before = first_told at.host at.first w.injected.items in
    let behind = map (numbered at.base) (entries_of w.stage (slice_get (hosts_of w.stage) at.host.0)) in
    let all : flat_map line_text before ++ flat_map line_text behind ≡ flat_map line_text (told_of w) =
    sym (flat_map-append line_text before behind) ∙ ap (λ l. flat_map line_text (told_by w l)) (sym at.is) in
    handed_on _ c.from_residual.ensures.0 c.in_err-put_first-in-Stepped.ensures
    (λ front. front_same _ _ _ _ all (front_wide _ _ (flat_map line_text before) (flat_map line_text behind) front))

pub returns-in_ok-put_first-in-Stepped : goal.returns-in_ok-put_first-in-Stepped
returns-in_ok-put_first-in-Stepped g c =
    let w = c.args.self.now in
    let at = c.in-Stepped in
    let before = first_told at.host at.first w.injected.items in
    let behind = map (numbered at.base) (entries_of w.stage (slice_get (hosts_of w.stage) at.host.0)) in
    written_on g.met.K.Sink.same_on (flat_map line_text before) (flat_map line_text behind) c.in_ok-put_first-in-Stepped.ensures c.put_step.ensures
    (sym (flat_map-append line_text before behind) ∙ ap (λ l. flat_map line_text (told_by w l)) (sym at.is))
