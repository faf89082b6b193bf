use Rattle.std.proofs.Common.{arith, ap}
use Rattle.text_lines.specs.Lines.{Reading}
use Rattle.homa_script.proofs.reader.Reader.open.Goals as goal

pub invariant_of-result : goal.invariant_of-result
invariant_of-result c =
    let read = ap (λ (r : Reading). r.read) c.in_ok-open.ensures in
    let number = ap (λ (r : Reading). r.number) c.in_ok-open.ensures in
    let limit = ap (λ (r : Reading). r.limit) c.in_ok-open.ensures in
    record {
      room = c.in_ok-with_capacity.ensures.capacity;
      fits = omega arith;
      most = omega arith;
      longest = ap (λ (r : Reading). r.longest) c.in_ok-open.ensures;
      opening = λ k. record { counted = omega (arith, read, number); within = omega (arith, read); countable = omega (arith, limit, c.requires.limit) };
      going = λ k. absurd cc;
    }
