-- Each packet that is lost leaves one less on its way; the last one, or the end, is the answer.
use Rattle.std.proofs.Common.{◌≡◌, refl, sym, ap, ◌∙◌, Some, None, arith}
use Rattle.generated_runs.specs.Fabric.{Handed, next_of}
use Rattle.homa_fabric.proofs.HandedLaws.{next_ends, next_hands, next_loses, loses_less}
use Rattle.homa_fabric.proofs.inbound.Destination.next.Goals as goal

pub loop-number-init : goal.loop-number-init
loop-number-init c = refl

ended : (c : goal.In-Ends)
    → next_of c.args.life c.args.now c.args.self.now c.args.random.now ≡ record { number = None; to = c.loop-number.self; random = c.loop-number.random }
ended c = c.loop-number.invariant ∙ next_ends c.args.life c.args.now c.loop-number.self c.loop-number.random c.in-Ends.ensures.hop

pub returns-in-Ends-clause-number : goal.returns-in-Ends-clause-number
returns-in-Ends-clause-number c = sym (ap (λ (h : Handed). h.number) (ended c))

pub returns-in-Ends-clause-destination : goal.returns-in-Ends-clause-destination
returns-in-Ends-clause-destination c = (c.in-Ends.ensures.same refl).0 ∙ sym (ap (λ (h : Handed). h.to) (ended c))

pub returns-in-Ends-clause-random : goal.returns-in-Ends-clause-random
returns-in-Ends-clause-random c = (c.in-Ends.ensures.same refl).1 ∙ sym (ap (λ (h : Handed). h.random) (ended c))

pub loop-number-smaller : goal.loop-number-smaller
loop-number-smaller c = let less =
    loses_less c.args.life c.args.now c.loop-number.self c.hop.new.self c.loop-number.random c.hop.new.random c.in-Loses.ensures.hop in omega (arith, less)

pub loop-number-preserved : goal.loop-number-preserved
loop-number-preserved c =
    c.loop-number.invariant ∙ next_loses c.args.life c.args.now c.loop-number.self c.hop.new.self c.loop-number.random c.hop.new.random c.in-Loses.ensures.hop

handed_over : (c : goal.In-Hands)
    → next_of c.args.life c.args.now c.args.self.now c.args.random.now
    ≡ record { number = Some c.in-Hands.number; to = c.hop.new.self; random = c.hop.new.random }
handed_over c = c.loop-number.invariant ∙ next_hands c.args.life c.args.now c.loop-number.self c.hop.new.self c.loop-number.random c.hop.new.random
    c.in-Hands.number c.in-Hands.ensures.hop

pub returns-in-Hands-clause-number : goal.returns-in-Hands-clause-number
returns-in-Hands-clause-number c = sym (ap (λ (h : Handed). h.number) (handed_over c))

pub returns-in-Hands-clause-destination : goal.returns-in-Hands-clause-destination
returns-in-Hands-clause-destination c = sym (ap (λ (h : Handed). h.to) (handed_over c))

pub returns-in-Hands-clause-random : goal.returns-in-Hands-clause-random
returns-in-Hands-clause-random c = sym (ap (λ (h : Handed). h.random) (handed_over c))
