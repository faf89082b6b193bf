use Rattle.check_call.proofs.Lean.{lean_delivered, lean_due, run_here, answers_of, none_sent}
use Rattle.check_call.proofs.laws.little_is_kept.Goals as goal

pub returns : goal.returns
returns c = record { delivered = lean_delivered; due = lean_due; ran = run_here; answers = answers_of; sent = λ v id n. none_sent id n v }
