-- The piece brings the last missing bytes, and the scratch has those that had arrived.
use Rattle.std.proofs.Common.{◌≡◌, ◌≢◌, ◌+◌, ℕ, List, Bool, true, false, length, sym, subst, ◌∙◌}
use Rattle.std.proofs.lemmas.Bool.{true≢false}
use Rattle.plain_sets.specs.Maps.{empty}
use Rattle.plain_sets.specs.Numbers.{without_range}
use Rattle.msg_pool.specs.Pool.{bytes_of}
use Rattle.homa_in.specs.Part.{Part}
use Rattle.homa_in.specs.Filled.{IsFilled}
use Rattle.homa_in.proofs.TakenLaws.{is_seen, remaining-seen, sound-seen}
use Rattle.homa_in.proofs.AnswerLaws.{completes_true, completes_false, message-filled}
use Rattle.homa_in.proofs.arriving.Incoming.whole_with.Goals as goal

-- a test that fails doesn't hold
not_both : {b : Bool} → b ≡ false → b ≡ true → ⊥
not_both e f = true≢false (sym f ∙ e)

-- what is missing is in the range from a to b - 1
abbrev IsLast : ℕ → ℕ → Part → Type 0
IsLast a b part = (part.missing ≢ empty) × (without_range part.missing a b ≡ empty)

pub returns-then-not-has_the_last-clause-completes : goal.returns-then-not-has_the_last-clause-completes
returns-then-not-has_the_last-clause-completes c =
    let is = is_seen c.args.pool.now _ c.args.self.now c.self.view_is c.requires.pool c.self.invariant in
    completes_false c.args.pool.now c.args.self.now is c.args.offset c.args.bytes.now c.requires.fits
    (λ h. not_both c.if-not-has_the_last.true
    (c.has_the_last.ensures.1 (subst (IsLast c.args.offset (c.args.offset + length c.args.bytes.now)) (sym c.self.view_is) h)))

pub returns-clause-completes : goal.returns-clause-completes
returns-clause-completes c =
    let is = is_seen c.args.pool.now _ c.args.self.now c.self.view_is c.requires.pool c.self.invariant in
    let last : IsLast c.args.offset (c.args.offset + length c.args.bytes.now) c.args.self.now =
    subst (IsLast c.args.offset (c.args.offset + length c.args.bytes.now)) c.self.view_is (c.has_the_last.ensures.0 c.if-not-has_the_last.false) in
    completes_true c.args.pool.now c.args.self.now is c.args.offset c.args.bytes.now c.requires.fits last.0 last.1

pub returns-clause-message : goal.returns-clause-message
returns-clause-message c =
    let is = is_seen c.args.pool.now _ c.args.self.now c.self.view_is c.requires.pool c.self.invariant in
    let last : IsLast c.args.offset (c.args.offset + length c.args.bytes.now) c.args.self.now =
    subst (IsLast c.args.offset (c.args.offset + length c.args.bytes.now)) c.self.view_is (c.has_the_last.ensures.0 c.if-not-has_the_last.false) in
    let fill = subst (λ (xs : List ℕ). IsFilled c.self.inside.missing c.args.offset (c.args.offset + length c.args.bytes.now) c.args.bytes.now xs
    c.put_missing.new.scratch) c.fill.ensures c.put_missing.ensures in
    let fill' = subst (λ (p : Part). IsFilled p.missing c.args.offset (c.args.offset + length c.args.bytes.now) c.args.bytes.now
    (bytes_of c.args.pool.now p.lease) c.put_missing.new.scratch) c.self.view_is fill in
    message-filled c.args.pool.now c.args.self.now is c.args.offset c.args.bytes.now c.requires.fits c.put_missing.new.scratch last.1 fill'

pub returns-then-not-has_the_last-clause-missing : goal.returns-then-not-has_the_last-clause-missing
returns-then-not-has_the_last-clause-missing c =
    remaining-seen c.args.pool.now c.args.self.now (is_seen c.args.pool.now _ c.args.self.now c.self.view_is c.requires.pool c.self.invariant)

pub returns-then-not-has_the_last-clause-sound : goal.returns-then-not-has_the_last-clause-sound
returns-then-not-has_the_last-clause-sound c =
    sound-seen c.args.pool.now c.args.self.now (is_seen c.args.pool.now _ c.args.self.now c.self.view_is c.requires.pool c.self.invariant)

pub returns-clause-missing : goal.returns-clause-missing
returns-clause-missing c =
    remaining-seen c.args.pool.now c.args.self.now (is_seen c.args.pool.now _ c.args.self.now c.self.view_is c.requires.pool c.self.invariant)

pub returns-clause-sound : goal.returns-clause-sound
returns-clause-sound c = sound-seen c.args.pool.now c.args.self.now (is_seen c.args.pool.now _ c.args.self.now c.self.view_is c.requires.pool c.self.invariant)
