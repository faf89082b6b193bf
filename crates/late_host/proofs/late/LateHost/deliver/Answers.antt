use Rattle.std.proofs.Common.{◌≡◌, Option, List, ℕ, length, refl, sym, ap, subst, ◌∙◌, inl, inr}
use Rattle.std.specs.Prelude.{IsSome, IfSome, IsSomeAnd}
use Rattle.driven_host.specs.declared.faults.StepFault.{StepFault}
use Rattle.driven_host.specs.Driven.{Driven, ShowsNothing}
use Rattle.driven_host.specs.Faults.{delivery_fault}
use Rattle.late_host.specs.declared.kept.KeptCall.{KeptCall}
use Rattle.late_host.specs.Late.{arrives, WasGiven, LeavesHost}
use Rattle.late_host.specs.Kept.{Keeping}
use Rattle.late_host.proofs.HeardLaws.{no_bytes, CannotGive, unstored, renewed}
use Rattle.late_host.proofs.RanLaws.{none_ran, ran_as_told, asked_serves}
use Rattle.late_host.proofs.SameSteps.{same_step, still_twice}
use Rattle.late_host.proofs.late.LateHost.deliver.Goals as goal

pub returns-in-Taken-clause-came : goal.returns-in-Taken-clause-came
returns-in-Taken-clause-came c =
    let e = c.in-Taken.ensures in
    let d = c.deliver.new.self in
    rw (← c.self.view_is) (record { step = e.step refl; unrun = none_ran d.host.host d.whole d.host.marks (e.given refl); calls = refl })

pub returns-in-Err-clause-came : goal.returns-in-Err-clause-came
returns-in-Err-clause-came c =
    let e = c.in-Asks.ensures in
    let mid = c.deliver.new.self in
    let leaves : LeavesHost c.self.inside.asking mid = record { same = e.same (λ p. cc); shows = e.shows (λ p. cc) refl } in
    rw (← c.self.view_is)
    (unstored c.args.now c.args.from c.args.frame.now _ mid c.keeps.new.self c.in-Asks.asked mid.whole (e.asks c.in-Asks.asked refl) leaves
    (c.in-Err.ensures.same (λ p. cc)))

pub returns-then-is_empty-clause-came : goal.returns-then-is_empty-clause-came
returns-then-is_empty-clause-came c =
    let e = c.in-Asks.ensures in
    let asked = c.in-Asks.asked in
    let mid = c.deliver.new.self in
    let call = c.in-Some.call.now in
    let leaves : LeavesHost c.self.inside.asking mid = record { same = e.same (λ p. cc); shows = e.shows (λ p. cc) refl } in
    let cannot : CannotGive c.args.from c.args.now mid call = inl (no_bytes call.answer c.if-is_empty.ensures) in
    rw (← c.self.view_is)
    (renewed c.args.now c.args.from c.args.frame.now _ mid c.renews.new.self asked mid.whole c.renews.result (e.asks asked refl) leaves
    (subst (λ (o : Option KeptCall). IsSome o) c.in-Some.ensures refl)
    (subst (λ (o : Option KeptCall). IfSome o (CannotGive c.args.from c.args.now mid)) c.in-Some.ensures cannot) c.renews.ensures.renewed
    c.renews.ensures.no_memory c.renews.ensures.or)

pub returns-in-Taken-deliver-clause-came : goal.returns-in-Taken-deliver-clause-came
returns-in-Taken-deliver-clause-came c =
    let e = c.in-Asks.ensures in
    let asked = c.in-Asks.asked in
    let old = c.self.inside.asking in
    let mid = c.deliver.new.self in
    let new = c.deliver-2.new.self in
    let then = c.in-Taken-deliver.ensures in
    let arrived = same_step c.args.now c.args.from c.args.frame.now old mid new (e.same (λ p. cc)) (then.step refl) in
    let work = arrives old c.args.now c.args.from c.args.frame.now arrived.0 in
    let given = subst (λ (bytes : List ℕ). WasGiven bytes new) c.as_slice.ensures (then.given refl) in
    rw (← c.self.view_is) (record {
      step = arrived;
      ran =
          ran_as_told old.host work new.host new.out new.whole arrived.1 ∙ asked_serves asked.id asked.number mid.whole work.told (e.asks asked refl arrived.0);
      given = subst (λ (o : Option KeptCall). IsSomeAnd o (λ (call : KeptCall). WasGiven call.answer new)) c.in-Some.ensures given;
      calls = ap (λ (k : Keeping). k.calls) c.take_out.ensures;
    })

pub returns-in-Asks-deliver-clause-came : goal.returns-in-Asks-deliver-clause-came
returns-in-Asks-deliver-clause-came c =
    let e = c.in-Asks.ensures in
    let asked = c.in-Asks.asked in
    let old = c.self.inside.asking in
    let mid = c.deliver.new.self in
    let new = c.deliver-2.new.self in
    let call = c.in-Some.call.now in
    let then = c.in-Asks-deliver.ensures in
    let still = still_twice old mid new (e.same (λ p. cc)) (then.same (λ p. cc)) in
    let leaves : LeavesHost old new = record { same = still; shows = then.shows (λ p. cc) refl } in
    let cannot : CannotGive c.args.from c.args.now new call = inl (sym c.as_slice.ensures ∙ then.unanswered _ refl) in
    rw (← c.self.view_is)
    (renewed c.args.now c.args.from c.args.frame.now _ new c.renews-in-Asks-deliver.new.self asked mid.whole c.renews-in-Asks-deliver.result
    (e.asks asked refl) leaves (subst (λ (o : Option KeptCall). IsSome o) c.in-Some.ensures refl)
    (subst (λ (o : Option KeptCall). IfSome o (CannotGive c.args.from c.args.now new)) c.in-Some.ensures cannot)
    c.renews-in-Asks-deliver.ensures.renewed c.renews-in-Asks-deliver.ensures.no_memory c.renews-in-Asks-deliver.ensures.or)

pub returns-in-Refused-deliver-clause-came : goal.returns-in-Refused-deliver-clause-came
returns-in-Refused-deliver-clause-came c =
    let e = c.in-Asks.ensures in
    let asked = c.in-Asks.asked in
    let old = c.self.inside.asking in
    let mid = c.deliver.new.self in
    let new = c.deliver-2.new.self in
    let call = c.in-Some.call.now in
    let then = c.in-Refused-deliver.ensures in
    let same : new ≡ mid = then.unbegun _ refl in
    let leaves : LeavesHost old new = record {
      same = still_twice old mid new (e.same (λ p. cc)) (then.same (λ p. cc));
      shows = subst (λ (d : Driven). ShowsNothing d) (sym same) (e.shows (λ p. cc) refl);
    } in
    let refused = subst (λ (o : Option StepFault). IsSome o) then.fault refl in
    let cannot : CannotGive c.args.from c.args.now new call =
    inr (subst (λ (d : Driven). IsSome (delivery_fault d.host d.steps c.args.from (length call.answer) c.args.now)) (sym same)
    (subst (λ (bytes : List ℕ). IsSome (delivery_fault mid.host mid.steps c.args.from (length bytes) c.args.now)) c.as_slice.ensures refused))
    in
    rw (← c.self.view_is)
    (renewed c.args.now c.args.from c.args.frame.now _ new c.renews-in-Refused-deliver.new.self asked mid.whole c.renews-in-Refused-deliver.result
    (e.asks asked refl) leaves (subst (λ (o : Option KeptCall). IsSome o) c.in-Some.ensures refl)
    (subst (λ (o : Option KeptCall). IfSome o (CannotGive c.args.from c.args.now new)) c.in-Some.ensures cannot)
    c.renews-in-Refused-deliver.ensures.renewed c.renews-in-Refused-deliver.ensures.no_memory c.renews-in-Refused-deliver.ensures.or)
