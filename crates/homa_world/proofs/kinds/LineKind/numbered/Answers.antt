-- The kinds stand in the order of their numbers.
use Rattle.std.proofs.Common.{◌≡◌, ◌≢◌, ℕ, zero, suc, ◌-◌, Some, slice_get, option_map, refl, sym, ap, ◌∙◌, arith}
use Rattle.std.proofs.lemmas.Option.{slice_get_read}
use Rattle.homa_plain.specs.declared.packet.Kind.{Kind}
use Rattle.homa_plain.specs.Kinds.{kinds}
use Rattle.homa_world.specs.declared.kinds.LineKind.TheVariants as line
use Rattle.homa_world.specs.Kinds.{kind_numbered}
use Rattle.homa_world.proofs.kinds.LineKind.numbered.Goals as goal

numbered_is : (n place : ℕ) (kind : Kind) → n ≢ 0 → place ≡ n - 1 → slice_get kinds place ≡ Some kind → Some (line.Sent kind) ≡ kind_numbered n
numbered_is zero place kind some is at = absurd (some refl)
numbered_is (suc n) place kind some is at =
    let same : n ≡ place = omega (arith, is) in sym (ap (option_map line.Sent) (ap (slice_get kinds) same ∙ at))

pub returns : goal.returns
returns c =
    let found = c.in_ok-kind.ensures.lookup in
    let at = slice_get_read kinds 8 (c.from.result - 1) c.in_ok-kind.kind.now refl found.3.0 found.1 in
    numbered_is c.args.number (c.from.result - 1) c.in_ok-kind.kind.now c.if-number-eq0.false (ap (λ n. n - 1) c.from.ensures) at
