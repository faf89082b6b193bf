use Rattle.std.proofs.Common.{arith, refl}
use Rattle.std.proofs.lemmas.Result.{MatchResult-from_err, IfOk-from_err}
use Rattle.text_lines.proofs.NextLine.{is_line, is_long, is_over, is_end, end_stays, stops_came, stops_unended, pending_short}
use Rattle.text_lines.proofs.lines.Lines.next.Goals as goal

pub returns-in-Over-clause-next : goal.returns-in-Over-clause-next
returns-in-Over-clause-next g c =
    let found = rw c.in-Over.is at c.in_ok-found.ensures.found in
    is_over _ _ _ _ _ _ _ _ found.1 (omega (arith, c.args.self.now.within))

pub returns-then-len-self-clause-next : goal.returns-then-len-self-clause-next
returns-then-len-self-clause-next g c =
    let found = rw c.in-Line.is at c.in_ok-found.ensures.found in
    is_long _ _ _ _ _ _ _ _ found.0 (omega arith) refl (omega (arith, found.1, c.args.self.now.within)) c.if-len-self.true

pub returns-else-len-self-clause-next : goal.returns-else-len-self-clause-next
returns-else-len-self-clause-next g c =
    let found = rw (c.in-Line.is, c.find_feed.ensures.room, c.args.self.now.sized) at c.in_ok-found.ensures.found in
    is_line _ _ _ _ _ _ found.0 (omega (arith, c.if-size-eq0.false)) refl (omega (arith, found.1, c.args.self.now.within)) c.if-len-self.false

pub returns-in_err-found-clause-next : goal.returns-in_err-found-clause-next
returns-in_err-found-clause-next g c = IfOk-from_err _ _ c.from_residual.ensures.0

pub returns-in_err-found-clause-number : goal.returns-in_err-found-clause-number
returns-in_err-found-clause-number g c = IfOk-from_err _ _ c.from_residual.ensures.0

pub returns-in_err-found-clause-limit : goal.returns-in_err-found-clause-limit
returns-in_err-found-clause-limit g c = refl

pub returns-in_err-found-clause-longest : goal.returns-in_err-found-clause-longest
returns-in_err-found-clause-longest g c = refl

pub returns-in_err-found-clause-read : goal.returns-in_err-found-clause-read
returns-in_err-found-clause-read g c = MatchResult-from_err _ _ _ c.from_residual.ensures.0 (λ _. refl)

pub returns-in_err-found-clause-uncounted : goal.returns-in_err-found-clause-uncounted
returns-in_err-found-clause-uncounted g c = MatchResult-from_err _ _ _ c.from_residual.ensures.0 (λ _. refl)

pub returns-in_err-found-clause-err : goal.returns-in_err-found-clause-err
returns-in_err-found-clause-err g c = MatchResult-from_err _ _ _ c.from_residual.ensures.0 (λ _. stops_came _ _ c.in_err-found.ensures.err)

pub returns-in_err-found-clause-stays : goal.returns-in_err-found-clause-stays
returns-in_err-found-clause-stays g c = c.find_feed.ensures.stays

pub returns-in_err-found-clause-unended : goal.returns-in_err-found-clause-unended
returns-in_err-found-clause-unended g c = MatchResult-from_err _ _ _ c.from_residual.ensures.0 (λ _. stops_unended _ _ c.in_err-found.ensures.err)

pub returns-in_err-found-clause-ends : goal.returns-in_err-found-clause-ends
returns-in_err-found-clause-ends g c = IfOk-from_err _ _ c.from_residual.ensures.0

pub returns-in_err-found-clause-ahead : goal.returns-in_err-found-clause-ahead
returns-in_err-found-clause-ahead g c = pending_short c.find_feed.new.input

pub returns-in_err-found-clause-risen : goal.returns-in_err-found-clause-risen
returns-in_err-found-clause-risen g c = MatchResult-from_err _ _ _ c.from_residual.ensures.0 (λ _. c.in_err-found.ensures.risen)

pub returns-in_err-found-clause-quiet : goal.returns-in_err-found-clause-quiet
returns-in_err-found-clause-quiet g c = IfOk-from_err _ _ c.from_residual.ensures.0

pub returns-in_err-found-clause-never_falls : goal.returns-in_err-found-clause-never_falls
returns-in_err-found-clause-never_falls g c = c.find_feed.ensures.never_falls

pub returns-in_err-found-clause-same : goal.returns-in_err-found-clause-same
returns-in_err-found-clause-same g c = c.find_feed.ensures.same

pub returns-then-size-eq0-clause-next : goal.returns-then-size-eq0-clause-next
returns-then-size-eq0-clause-next g c =
    let found = rw c.in-Line.is at c.in_ok-found.ensures.found in
    is_end _ _ _ _ _ _ _ _ found.0 c.if-size-eq0.true refl

pub returns-then-size-eq0-clause-ends : goal.returns-then-size-eq0-clause-ends
returns-then-size-eq0-clause-ends g c =
    let found = rw c.in-Line.is at c.in_ok-found.ensures.found in
    λ _. end_stays _ _ _ _ _ _ found.0 c.if-size-eq0.true

pub returns-then-size-eq0-clause-limit : goal.returns-then-size-eq0-clause-limit
returns-then-size-eq0-clause-limit g c = refl

pub returns-then-size-eq0-clause-longest : goal.returns-then-size-eq0-clause-longest
returns-then-size-eq0-clause-longest g c = refl

pub returns-then-size-eq0-clause-read : goal.returns-then-size-eq0-clause-read
returns-then-size-eq0-clause-read g c = tt

pub returns-then-size-eq0-clause-uncounted : goal.returns-then-size-eq0-clause-uncounted
returns-then-size-eq0-clause-uncounted g c = tt

pub returns-then-size-eq0-clause-err : goal.returns-then-size-eq0-clause-err
returns-then-size-eq0-clause-err g c = tt

pub returns-then-size-eq0-clause-stays : goal.returns-then-size-eq0-clause-stays
returns-then-size-eq0-clause-stays g c = c.find_feed.ensures.stays

pub returns-then-size-eq0-clause-unended : goal.returns-then-size-eq0-clause-unended
returns-then-size-eq0-clause-unended g c = tt

pub returns-then-size-eq0-clause-ahead : goal.returns-then-size-eq0-clause-ahead
returns-then-size-eq0-clause-ahead g c = pending_short c.find_feed.new.input

pub returns-then-size-eq0-clause-risen : goal.returns-then-size-eq0-clause-risen
returns-then-size-eq0-clause-risen g c = tt

pub returns-then-size-eq0-clause-quiet : goal.returns-then-size-eq0-clause-quiet
returns-then-size-eq0-clause-quiet g c = c.in_ok-found.ensures.quiet

pub returns-then-size-eq0-clause-never_falls : goal.returns-then-size-eq0-clause-never_falls
returns-then-size-eq0-clause-never_falls g c = c.find_feed.ensures.never_falls

pub returns-then-size-eq0-clause-same : goal.returns-then-size-eq0-clause-same
returns-then-size-eq0-clause-same g c = c.find_feed.ensures.same

pub returns-then-len-self-clause-limit : goal.returns-then-len-self-clause-limit
returns-then-len-self-clause-limit g c = refl

pub returns-then-len-self-clause-longest : goal.returns-then-len-self-clause-longest
returns-then-len-self-clause-longest g c = refl

pub returns-then-len-self-clause-read : goal.returns-then-len-self-clause-read
returns-then-len-self-clause-read g c = tt

pub returns-then-len-self-clause-uncounted : goal.returns-then-len-self-clause-uncounted
returns-then-len-self-clause-uncounted g c = tt

pub returns-then-len-self-clause-err : goal.returns-then-len-self-clause-err
returns-then-len-self-clause-err g c = tt

pub returns-then-len-self-clause-stays : goal.returns-then-len-self-clause-stays
returns-then-len-self-clause-stays g c = c.find_feed.ensures.stays

pub returns-then-len-self-clause-unended : goal.returns-then-len-self-clause-unended
returns-then-len-self-clause-unended g c = tt

pub returns-then-len-self-clause-ahead : goal.returns-then-len-self-clause-ahead
returns-then-len-self-clause-ahead g c = pending_short c.find_feed.new.input

pub returns-then-len-self-clause-risen : goal.returns-then-len-self-clause-risen
returns-then-len-self-clause-risen g c = tt

pub returns-then-len-self-clause-quiet : goal.returns-then-len-self-clause-quiet
returns-then-len-self-clause-quiet g c = c.in_ok-found.ensures.quiet

pub returns-then-len-self-clause-never_falls : goal.returns-then-len-self-clause-never_falls
returns-then-len-self-clause-never_falls g c = c.find_feed.ensures.never_falls

pub returns-then-len-self-clause-same : goal.returns-then-len-self-clause-same
returns-then-len-self-clause-same g c = c.find_feed.ensures.same

pub returns-then-len-self-clause-ends : goal.returns-then-len-self-clause-ends
returns-then-len-self-clause-ends g c = λ e. absurd cc

pub returns-in-Over-clause-limit : goal.returns-in-Over-clause-limit
returns-in-Over-clause-limit g c = refl

pub returns-in-Over-clause-longest : goal.returns-in-Over-clause-longest
returns-in-Over-clause-longest g c = refl

pub returns-in-Over-clause-read : goal.returns-in-Over-clause-read
returns-in-Over-clause-read g c = tt

pub returns-in-Over-clause-uncounted : goal.returns-in-Over-clause-uncounted
returns-in-Over-clause-uncounted g c = tt

pub returns-in-Over-clause-err : goal.returns-in-Over-clause-err
returns-in-Over-clause-err g c = tt

pub returns-in-Over-clause-stays : goal.returns-in-Over-clause-stays
returns-in-Over-clause-stays g c = c.find_feed.ensures.stays

pub returns-in-Over-clause-unended : goal.returns-in-Over-clause-unended
returns-in-Over-clause-unended g c = tt

pub returns-in-Over-clause-ahead : goal.returns-in-Over-clause-ahead
returns-in-Over-clause-ahead g c = pending_short c.find_feed.new.input

pub returns-in-Over-clause-risen : goal.returns-in-Over-clause-risen
returns-in-Over-clause-risen g c = tt

pub returns-in-Over-clause-quiet : goal.returns-in-Over-clause-quiet
returns-in-Over-clause-quiet g c = c.in_ok-found.ensures.quiet

pub returns-in-Over-clause-never_falls : goal.returns-in-Over-clause-never_falls
returns-in-Over-clause-never_falls g c = c.find_feed.ensures.never_falls

pub returns-in-Over-clause-same : goal.returns-in-Over-clause-same
returns-in-Over-clause-same g c = c.find_feed.ensures.same

pub returns-in-Over-clause-ends : goal.returns-in-Over-clause-ends
returns-in-Over-clause-ends g c = λ e. absurd cc

pub returns-else-len-self-clause-limit : goal.returns-else-len-self-clause-limit
returns-else-len-self-clause-limit g c = refl

pub returns-else-len-self-clause-longest : goal.returns-else-len-self-clause-longest
returns-else-len-self-clause-longest g c = refl

pub returns-else-len-self-clause-read : goal.returns-else-len-self-clause-read
returns-else-len-self-clause-read g c = tt

pub returns-else-len-self-clause-uncounted : goal.returns-else-len-self-clause-uncounted
returns-else-len-self-clause-uncounted g c = tt

pub returns-else-len-self-clause-err : goal.returns-else-len-self-clause-err
returns-else-len-self-clause-err g c = tt

pub returns-else-len-self-clause-stays : goal.returns-else-len-self-clause-stays
returns-else-len-self-clause-stays g c = c.find_feed.ensures.stays

pub returns-else-len-self-clause-unended : goal.returns-else-len-self-clause-unended
returns-else-len-self-clause-unended g c = tt

pub returns-else-len-self-clause-ahead : goal.returns-else-len-self-clause-ahead
returns-else-len-self-clause-ahead g c = pending_short c.find_feed.new.input

pub returns-else-len-self-clause-risen : goal.returns-else-len-self-clause-risen
returns-else-len-self-clause-risen g c = tt

pub returns-else-len-self-clause-quiet : goal.returns-else-len-self-clause-quiet
returns-else-len-self-clause-quiet g c = c.in_ok-found.ensures.quiet

pub returns-else-len-self-clause-never_falls : goal.returns-else-len-self-clause-never_falls
returns-else-len-self-clause-never_falls g c = c.find_feed.ensures.never_falls

pub returns-else-len-self-clause-same : goal.returns-else-len-self-clause-same
returns-else-len-self-clause-same g c = c.find_feed.ensures.same

pub returns-else-len-self-clause-ends : goal.returns-else-len-self-clause-ends
returns-else-len-self-clause-ends g c = λ e. absurd cc
