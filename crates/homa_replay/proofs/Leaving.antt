-- How a call leaves its source and its sink, put together of how two calls do.
use Rattle.std.proofs.Common.{ℕ, Result, Ok, List, ◌∙◌}
use Rattle.std.proofs.lemmas.Result.{on_ok_weaker}
use Rattle.homa_io.proofs.Counts.{risen_behind}
use Rattle.homa_replay.specs.declared.stop.Stop.{Stop}
use Rattle.homa_replay.specs.Faults.{LeavesBoth}

module _ {S K A B : Type 0} {faults_in : S → ℕ} {same_in : S → S → Type 0} {faults_out : K → ℕ} {same_out : K → K → Type 0} {held : K → List ℕ} where
  -- a call went well, and then the next ended
  pub leaves_on : {u : A} {a b c : S} {x y z : K} {r : Result B Stop}
      → ((a b c : S) → same_in a b → same_in b c → same_in a c)
      → ((x y z : K) → same_out x y → same_out y z → same_out x z)
      → LeavesBoth {A = A} faults_in same_in faults_out same_out held a b x y (Ok u)
      → LeavesBoth faults_in same_in faults_out same_out held b c y z r
      → LeavesBoth faults_in same_in faults_out same_out held a c x z r
  leaves_on {a} {b} {c} {x} {y} {z} {r} source_on sink_on first second =
      let f = first.faults in
      let s = second.faults in
      record {
        faults = record {
          quiet_source = on_ok_weaker r (λ same. same ∙ f.quiet_source) s.quiet_source;
          quiet_sink = on_ok_weaker r (λ same. same ∙ f.quiet_sink) s.quiet_sink;
          read_risen = λ k. risen_behind (faults_in a) (faults_in b) (faults_in c) f.quiet_source (s.read_risen k);
          read_quiet = λ k. s.read_quiet k ∙ f.quiet_sink;
          write_risen = λ k. risen_behind (faults_out x) (faults_out y) (faults_out z) f.quiet_sink (s.write_risen k);
          write_quiet = λ k. s.write_quiet k ∙ f.quiet_source;
          memory_source = λ k. s.memory_source k ∙ f.quiet_source;
          memory_sink = λ k. s.memory_sink k ∙ f.quiet_sink;
        };
        read_none = second.read_none;
        same_source = source_on a b c first.same_source second.same_source;
        same_sink = sink_on x y z first.same_sink second.same_sink;
      }
