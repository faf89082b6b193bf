use Rattle.std.proofs.Common.{◌≡◌, ◌≢◌, Bool, Some, List, ℕ, length, sym, ap, subst, ◌∙◌, refl}
use Rattle.std.specs.Prelude.{if◌then◌else◌}
use Rattle.driven_host.specs.declared.faults.StepFault.TheVariants.{Empty}
use Rattle.driven_host.specs.Faults.{delivery_fault}
use Rattle.late_host.specs.declared.outcomes.Answered.TheVariants as answered
use Rattle.late_host.specs.Kept.{changed}
use Rattle.late_host.specs.Late.{Late, HasArrived, with_answer}
use Rattle.late_host.proofs.HeardLaws.{no_bytes, given_step, settled}
use Rattle.late_host.proofs.late.LateHost.answer.Goals as goal

pub returns-in-Taken-clause-settled : goal.returns-in-Taken-clause-settled
returns-in-Taken-clause-settled c =
    let d = c.self.inside.asking in
    let call = c.in-Some.call.now in
    let answer = c.args.answer.now in
    let mid = c.deliver.new.self in
    let new = c.settles.new.self in
    let e = c.in-Taken.ensures in
    let s = c.settles.ensures in
    let before : Late = record { driven = d; calls = c.self.inside.kept.calls; room = c.self.inside.kept.room; keep = c.self.inside.keep } in
    let sound =
    ap (λ (b : Bool). if b then Some Empty else delivery_fault d.host d.steps call.from (length answer) c.args.now) (sym c.if-is_empty.ensures)
    ∙ sym c.in_default-delivery_fault.ensures.fault in
    let step = subst (λ (frame : List ℕ). HasArrived c.args.now call.from frame d mid) c.as_slice.ensures (e.step refl) in
    let held =
    subst (λ (bytes : List ℕ). c.settles.result ≢ answered.Ran
    → new ≡ record before { driven = mid; calls = changed c.args.id (with_answer bytes) before.calls }) c.in-Ok.ensures s.held in
    rw (← c.self.view_is)
    (settled c.args.id answer c.args.now before call mid new c.settles.result
    (λ same. given_step c.args.id answer c.args.now before call mid new c.in-Some.ensures (no_bytes call.answer c.if-not-is_empty.ensures) sound
    (c.if-not-is_fresh.ensures.0 refl) step (e.given refl) same) s.ran s.out s.unrun held s.or_held)
