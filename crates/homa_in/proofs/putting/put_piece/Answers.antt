-- The answers of the part, as those of the plain message.
use Rattle.std.proofs.Common.{◌≡◌, ◌↔◌, ◌<◌, ◌-◌, Bool, true, false, sym, ap, ◌∙◌, arith}
use Rattle.homa_plain.specs.Incoming.{is_whole, leaves_too_many_gaps}
use Rattle.plain_sets.specs.Maps.{len}
use Rattle.homa_in.specs.Part.{seen, Part}
use Rattle.homa_in.specs.declared.arriving.Accepted.{Accepted}
use Rattle.homa_in.specs.declared.arriving.Accepted.TheVariants.{TooManyGaps}
use Rattle.homa_in.proofs.MoveLaws.{written}
use Rattle.homa_in.proofs.PutLaws.{whole-few, completes-whole, not_complete, open-missing}
use Rattle.homa_in.proofs.putting.put_piece.Goals as goal

few_if : (r : Accepted) (b : Bool) → (r ≡ TooManyGaps) ↔ (b ≡ true) → (r ≡ TooManyGaps → ⊥) → b ≡ false
few_if r true both not = absurd (not (both.1 (λ _. true)))
few_if r false both not = λ _. false

pub returns-then-whole_with : goal.returns-then-whole_with
returns-then-whole_with c =
    let p = seen c.args.pool.now c.args.part.now in
    let sound = c.whole_with.ensures.sound in
    let whole = completes-whole p c.args.offset c.args.bytes.now (sym c.whole_with.ensures.completes ∙ c.if-whole_with.true) in
    record {
      few = whole-few p c.args.offset c.args.bytes.now sound.below c.requires.fits whole;
      whole = whole;
      message = c.if-whole_with.ensures.message;
      same_part = λ _. c.args.part.now;
      same_pool = λ _. c.args.pool.now;
    }

pub returns-in_default : goal.returns-in_default
returns-in_default c =
    let old = c.args.pool.now in
    let new = c.accept.new.pool in
    let part = c.args.part.now in
    let after = c.accept.new.self in
    let p = seen old part in
    let sound = c.whole_with.ensures.sound in
    let later = c.accept.ensures.sound in
    let few = few_if c.accept.result (leaves_too_many_gaps p c.args.offset c.args.bytes.now) c.accept.ensures.too_many c.in_default.not-TooManyGaps in
    let some : 0 < p.length - len p.bytes = omega (arith, c.whole_with.ensures.missing, c.requires.short) in
    let unfinished =
    not_complete p c.args.offset c.args.bytes.now sound.below c.requires.fits some (sym c.whole_with.ensures.completes ∙ c.if-whole_with.false) in
    let seen_now = c.accept.ensures.taken few in
    let left = open-missing (seen new after) later.below (ap is_whole seen_now ∙ unfinished) in
    record {
      few = few;
      missing = unfinished;
      seen = seen_now;
      short = omega (arith, left, c.accept.ensures.missing);
      length = ap (λ (x : Part). x.length) c.accept.ensures.part;
      lease = ap (λ (x : Part). x.lease) c.accept.ensures.part;
      written = c.accept.ensures.others;
      moves = written old new part after c.requires.pool c.accept.ensures.pool (ap (λ (x : Part). x.lease) c.accept.ensures.part)
          (ap (λ (x : Part). x.length) c.accept.ensures.part) c.accept.ensures.others;
    }
