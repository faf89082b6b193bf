use Rattle.std.proofs.Common.{◌∙◌, arith, refl, subst}
use Rattle.homa_host.specs.Amid.{IsPumped, WasShort}
use Rattle.homa_host.proofs.EndFolds.{none_pumped, pumping_on, pumped_end, pumped_short, pumped_full}
use Rattle.homa_host.proofs.parts.HostParts.pump.Goals as goal

pub returns-in_default-clause-step : goal.returns-in_default-clause-step
returns-in_default-clause-step c =
    let inv = c.pieces.invariant in
    let none = c.pick.ensures.none.0 (rw c.in_default.is refl) in
    pumped_end c.args.self.now c.args.out.now c.pieces.self c.pieces.out inv.settings inv.step (λ w a. none_pumped w c.pieces.self c.pieces.out inv.kept a none)

pub returns-in-Short-clause-step : goal.returns-in-Short-clause-step
returns-in-Short-clause-step c =
    let inv = c.pieces.invariant in
    let short : WasShort c.pieces.self c.pieces.out c.leave.new.self c.leave.new.out =
    subst (λ r. IsPumped c.pieces.self c.pieces.out c.leave.new.self c.leave.new.out r) c.in-Short.is c.leave.ensures.pumped in
    pumped_short c.args.self.now c.args.out.now c.pieces.self c.leave.new.self c.pieces.out c.leave.new.out inv.settings inv.step short

pub pieces-preserved : goal.pieces-preserved
pieces-preserved c =
    let inv = c.pieces.invariant in
    let on = pumping_on c.args.self.now c.args.out.now c.pieces.self c.leave.new.self c.pieces.out c.leave.new.out c.leave.result
    c.in_default-leave.not-Short c.leave.ensures.pumped inv.settings (omega (arith, c.len.ensures.len)) inv.told inv.step in
    record { kept = c.leave.ensures.kept; settings = c.leave.ensures.steady.settings ∙ inv.settings; told = on.told; step = on.step }

pub returns-clause-step : goal.returns-clause-step
returns-clause-step c = pumped_full c.args.self.now c.args.out.now c.pieces.self c.pieces.out (omega (arith, c.len.ensures.len)) c.pieces.invariant.step
