-- Its line, the plain world's outcome, and each entry that was told.
use Rattle.std.proofs.Common.{◌≡◌, ◌≤◌, ◌∙◌, ◌%◌, ℕ, zero, suc, List, ◌∷◌, length, take, refl, ap, subst, arith}
use Rattle.std.proofs.lemmas.Result.{MatchResult-from_err}
use Rattle.homa_plain.specs.declared.settings.Settings.{Settings}
use Rattle.homa_plain.specs.Script.{counting}
use Rattle.homa_plain.specs.Answers.{shown}
use Rattle.homa_replay.specs.Stream.{IsDone}
use Rattle.homa_replay.proofs.Fronts.{front_whole}
use Rattle.simulation.specs.Turns.{AreHeeded}
use Rattle.simulation.proofs.events.happen.Goals as goal

-- a front of counting bytes
take_counting : (i n m : ℕ) → n ≤ m → take n (counting i m) ≡ counting i n
take_counting i zero m few = refl
take_counting i (suc n) zero few = absurd (omega arith)
take_counting i (suc n) (suc m) few = ap (λ (l : List ℕ). i % 256 ∷ l) (take_counting (suc i) n m (omega arith))

-- a front of the run's bytes
front_of : (bytes lent : List ℕ) (n : ℕ) → lent ≡ bytes → bytes ≡ counting 0 (length bytes) → n ≤ length bytes → take n lent ≡ counting 0 n
front_of bytes lent n is counts short = ap (take n) (is ∙ counts) ∙ take_counting 0 n (length bytes) short

pub returns-in_err-show-clause-part : goal.returns-in_err-show-clause-part
returns-in_err-show-clause-part g c =
    let setup = c.args.setup.now in
    let short : c.args.bytes ≤ length setup.bytes.items = omega (arith, c.len.ensures, c.if-len-bytes.false, setup.bytes.ok.0) in
    let bytes : take c.args.bytes c.deref.result.now ≡ counting 0 c.args.bytes =
    front_of setup.bytes.items c.deref.result.now c.args.bytes c.deref.ensures.value setup.counting short in
    MatchResult-from_err _ _ _ c.from_residual.ensures.0 (λ _. rw bytes at c.in_err-show.ensures.err)

pub returns-in-Err-clause-part : goal.returns-in-Err-clause-part
returns-in-Err-clause-part g c =
    let setup = c.args.setup.now in
    let short : c.args.bytes ≤ length setup.bytes.items = omega (arith, c.len.ensures, c.if-len-bytes.false, setup.bytes.ok.0) in
    let bytes : take c.args.bytes c.deref.result.now ≡ counting 0 c.args.bytes =
    front_of setup.bytes.items c.deref.result.now c.args.bytes c.deref.ensures.value setup.counting short in
    front_whole _ _ _ (rw bytes at c.in_ok-show.ensures.ok)

pub returns-in_err-heed_all-clause-part : goal.returns-in_err-heed_all-clause-part
returns-in_err-heed_all-clause-part g c =
    let setup = c.args.setup.now in
    let short : c.args.bytes ≤ length setup.bytes.items = omega (arith, c.len.ensures, c.if-len-bytes.false, setup.bytes.ok.0) in
    let bytes : take c.args.bytes c.deref.result.now ≡ counting 0 c.args.bytes =
    front_of setup.bytes.items c.deref.result.now c.args.bytes c.deref.ensures.value setup.counting short in
    MatchResult-from_err _ _ _ c.from_residual-in_err-heed_all.ensures.0 (λ _. front_whole _ _ _ (rw bytes at c.in_ok-show.ensures.ok))

pub returns-clause-happened : goal.returns-clause-happened
returns-clause-happened g c = λ w h.
    let p = g.P.ReplayWorld in
    let setup = c.args.setup.now in
    let short : c.args.bytes ≤ length setup.bytes.items = omega (arith, c.len.ensures, c.if-len-bytes.false, setup.bytes.ok.0) in
    let bytes : take c.args.bytes c.deref.result.now ≡ counting 0 c.args.bytes =
    front_of setup.bytes.items c.deref.result.now c.args.bytes c.deref.ensures.value setup.counting short in
    let a = c.in-Ok.ensures.done w h in
    let told = p.told c.apply.new.self in
    record {
      told = told;
      next = a.next;
      stood = a.stood;
      done = subst (λ (b : List ℕ). IsDone (p.settings c.args.world.now) w (record { event = c.args.event.now; bytes = b }) (shown told) a.next told) bytes
          a.done;
      heard = subst (λ (s : Settings). AreHeeded g.N.HostNetwork.heeds s a.next told c.args.network.now c.heed_all.new.network) c.in-Ok.ensures.settings
          (c.in_ok-heed_all.ensures a.next a.stood);
      allowed = a.allowed;
    }

pub returns-clause-printed : goal.returns-clause-printed
returns-clause-printed g c =
    let setup = c.args.setup.now in
    let short : c.args.bytes ≤ length setup.bytes.items = omega (arith, c.len.ensures, c.if-len-bytes.false, setup.bytes.ok.0) in
    let bytes : take c.args.bytes c.deref.result.now ≡ counting 0 c.args.bytes =
    front_of setup.bytes.items c.deref.result.now c.args.bytes c.deref.ensures.value setup.counting short in
    rw bytes at c.in_ok-show.ensures.ok
