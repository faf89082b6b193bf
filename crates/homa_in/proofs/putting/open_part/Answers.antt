-- A first piece of as many bytes as the message has begins at its first byte.
use Rattle.std.proofs.Common.{◌≡◌, ℕ, Option, None, length, sym, subst, arith}
use Rattle.homa_in.specs.Part.{Part}
use Rattle.homa_in.specs.Putting.{WasOpened}
use Rattle.homa_in.proofs.putting.open_part.Goals as goal

pub returns-then-piece : goal.returns-then-piece
returns-then-piece c =
    let n = length c.args.piece.bytes.now in
    let all : n ≡ c.args.piece.size = omega (arith, c.if-piece.true) in
    let first : 0 ≡ c.args.piece.offset = omega (arith, c.requires.fits, all) in
    let opened : ℕ → ℕ → Option Part → Type 0 = λ size offset part. WasOpened c.args.pool.now c.args.peer size c.args.order c.args.unsched offset
    c.args.piece.bytes.now c.args.pool.now part c.open_whole.new.scratch c.open_whole.result in
    subst (opened c.args.piece.size c.args.piece.offset) (sym c.requires.none)
    (subst (λ size. opened size c.args.piece.offset None) all
    (subst (λ offset. opened n offset None) first (c.open_whole.ensures c.args.peer c.args.order c.args.unsched)))
