-- A client's row and the ticks of its RESENDs since the last renewal: what each change of the row keeps.
use Rattle.std.proofs.Common.{◌≡◌, ℕ, ◌+◌, ◌≤◌, ◌<◌, Bool, true, false, ◌||◌, Option, Some, None, List, [], ◌∷◌, length, cond, refl, sym, ◌∙◌, arith}
use Rattle.std.specs.Prelude.{nat_lt, is_none}
use Rattle.std.proofs.lemmas.Bool.{cond_both, ltb-false, false≢true, true≢false}
use Rattle.plain_sets.specs.Ranges.{Range}
use Rattle.homa_plain.specs.declared.packet.Body.{Body}
use Rattle.homa_plain.specs.declared.packet.Body.TheVariants as body
use Rattle.homa_plain.specs.declared.settings.Settings.{Settings}
use Rattle.homa_plain.specs.Incoming.{Incoming, first_gap}
use Rattle.homa_plain.specs.Rows.{ClientRow}
use Rattle.homa_plain.specs.AtClient.{renewed, refreshed}
use Rattle.trace_rules.specs.Seen.{is_unknown}
use Rattle.homa_plain.specs.Timers.{wanted, unless, is_client_at_rest, is_response_at_rest, client_deadline}
use Rattle.homa_plain.specs.Sending.{client_granted}
use Rattle.trace_rules.specs.Laws.{AreSpaced}
use Rattle.step_moves.proofs.Hosts.{none_some, some_is}
use Rattle.trace_fails.specs.Timeouts.{IsFairRow}

-- the same timer, and as much sent
pub record SameTimer (r x : ClientRow) : Type 0 where
  pub top : x.out.top ≡ r.out.top
  pub long : x.out.length ≡ r.out.length
  pub count : x.count ≡ r.count
  pub base : x.base ≡ r.base

module _ (s : Settings) where
  pub fair_same : (last now : ℕ) (r x : ClientRow) (ticks : List ℕ) (all : Bool) → last ≤ now → SameTimer r x → IsFairRow s last r ticks all
      → IsFairRow s now x ticks all
  fair_same last now r x ticks all le same f = record {
    sent = (λ e. same.top ∙ f.sent.0 e ∙ sym same.long, λ e. f.sent.1 (sym same.top ∙ e ∙ same.long));
    each = f.each ∙ sym same.count;
    most = omega (arith, f.most, same.count);
    spaced = f.spaced;
    after = λ t rest e. omega (arith, f.after t rest e, same.base);
    base = omega (arith, f.base, same.base, le);
  }

  -- the call is renewed
  pub fair_renewed : (last now : ℕ) (r x : ClientRow) (ticks : List ℕ) (all : Bool) → x.out.top ≡ r.out.top → x.out.length ≡ r.out.length
      → x.count ≡ 0 → x.base ≤ now → IsFairRow s last r ticks all → IsFairRow s now x [] all
  fair_renewed last now r x ticks all top long count base f = record {
    sent = (λ e. top ∙ f.sent.0 e ∙ sym long, λ e. f.sent.1 (sym top ∙ e ∙ long));
    each = sym count;
    most = omega (arith, count);
    spaced = tt;
    after = λ t rest e. absurd (nil_cons t rest e);
    base = base;
  } where
    nil_cons : (t : ℕ) (rest : List ℕ) → [] ≡ t ∷ rest → ⊥
    nil_cons t rest e = cc

  pub renewed_same : (inc : ℕ) (r : ClientRow) → SameTimer r (renewed inc r)
  renewed_same inc r = cond_both (nat_lt r.seen inc) _ _ (SameTimer r) (λ _. record { top = refl; long = refl; count = refl; base = refl })
      (λ _. record { top = refl; long = refl; count = refl; base = refl })

  -- a packet that counts comes: all but UNKNOWN renews the call
  pub fair_heard : (last now inc : ℕ) (what : Body) (r : ClientRow) (ticks : List ℕ) (all : Bool) → last ≤ now → IsFairRow s last r ticks all
      → IsFairRow s now (refreshed now what (renewed inc r)) (cond (is_unknown what) ticks []) all
  fair_heard last now inc what r ticks all le f = by_body what where
    x : ClientRow
    x = renewed inc r

    same : SameTimer r x
    same = renewed_same inc r

    before : x.base ≤ now
    before = omega (arith, same.base, f.base, le)

    by_body : (what : Body) → IsFairRow s now (refreshed now what x) (cond (is_unknown what) ticks []) all
    by_body (body.Unknown reason) = fair_same last now r x ticks all le same f
    by_body body.NeedAck = fair_renewed last now r (refreshed now body.NeedAck x) ticks all same.top same.long refl before f
    by_body (body.Cutoffs cutoffs) = fair_renewed last now r (refreshed now (body.Cutoffs cutoffs) x) ticks all same.top same.long refl before f
    by_body (body.Data size offset version service ack) =
        fair_renewed last now r (refreshed now (body.Data size offset version service ack) x) ticks all same.top same.long refl (omega arith) f
    by_body (body.Grant offset prio) = fair_renewed last now r (refreshed now (body.Grant offset prio) x) ticks all same.top same.long refl (omega arith) f
    by_body (body.Resend from to prio) = fair_renewed last now r (refreshed now (body.Resend from to prio) x) ticks all same.top same.long refl (omega arith) f
    by_body body.Busy = fair_renewed last now r (refreshed now body.Busy x) ticks all same.top same.long refl (omega arith) f
    by_body (body.Ack more) = fair_renewed last now r (refreshed now (body.Ack more) x) ticks all same.top same.long refl (omega arith) f

  -- each RESEND comes with enough time after the one before
  pub spaced_more : (r : ClientRow) (ticks : List ℕ) (last now : ℕ) (all : Bool) → IsFairRow s last r ticks all → r.base + s.resend ≤ now
      → AreSpaced s.resend (now ∷ ticks)
  spaced_more r [] last now all f due = tt
  spaced_more r (t ∷ ticks) last now all f due = (omega (arith, due, f.after t ticks refl), f.spaced)

  -- a client whose deadline has come asks for something
  pub asks_one : (r : ClientRow) (at : ℕ) → client_deadline s r ≡ Some at → (x : Range) × (wanted s r.part ≡ Some x) × (r.base + s.resend ≡ at)
  unfolding client_deadline
  asks_one r at e = by_rest (is_client_at_rest r) refl e where
    by_part : (o : Option Incoming) → is_response_at_rest o ≡ false → (x : Range) × (wanted s o ≡ Some x)
    by_part None f = (_, refl)
    by_part (Some part) f = by_gap (first_gap part) f where
      by_gap : (g : Option Range) → is_none g ≡ false → (x : Range) × (g ≡ Some x)
      by_gap None f = absurd (false≢true (sym f))
      by_gap (Some x) f = (x, refl)

    or_second : (a b : Bool) → (a || b) ≡ false → b ≡ false
    or_second true b e = absurd (true≢false e)
    or_second false b e = e

    by_rest : (b : Bool) → is_client_at_rest r ≡ b → unless b (r.base + s.resend) ≡ Some at
        → (x : Range) × (wanted s r.part ≡ Some x) × (r.base + s.resend ≡ at)
    by_rest true rest e = absurd (none_some at e)
    by_rest false rest e = let p = by_part r.part (or_second _ (is_response_at_rest r.part) rest) in (p.0, p.1, some_is (r.base + s.resend) at e)

  -- it asks again
  pub fair_asks : (last now at : ℕ) (r : ClientRow) (ticks : List ℕ) (all : Bool) → IsFairRow s last r ticks all → client_deadline s r ≡ Some at
      → at ≤ now → r.count < s.tries
      → IsFairRow s now (record r { count = r.count + 1; base = now }) (now ∷ ticks) all
  fair_asks last now at r ticks all f deadline over few =
      let due : r.base + s.resend ≡ at = (asks_one r at deadline).2 in
      record {
        sent = f.sent;
        each = omega (arith, f.each);
        most = omega (arith, few);
        spaced = spaced_more r ticks last now all f (omega (arith, due, over));
        after = λ t rest e. omega (arith, heads t rest e);
        base = omega arith;
      } where
        heads : (t : ℕ) (rest : List ℕ) → now ∷ ticks ≡ t ∷ rest → now ≡ t
        heads t rest e = cc

  -- or the call times out, unanswered
  pub fair_fails : (last now at : ℕ) (r : ClientRow) (ticks : List ℕ) (all : Bool) → IsFairRow s last r ticks all → client_deadline s r ≡ Some at
      → at ≤ now → nat_lt r.count s.tries ≡ false
      → (length ticks ≡ s.tries) × AreSpaced s.resend (now ∷ ticks)
  fair_fails last now at r ticks all f deadline over many =
      let due : r.base + s.resend ≡ at = (asks_one r at deadline).2 in
      let enough : s.tries ≤ r.count = ltb-false r.count s.tries many in
      (omega (arith, f.each, f.most, enough), spaced_more r ticks last now all f (omega (arith, due, over)))

  -- its GRANT begins the timer anew
  pub fair_granted : (last now offset : ℕ) (r : ClientRow) (ticks : List ℕ) (all : Bool) → last ≤ now → IsFairRow s last r ticks all
      → IsFairRow s now (client_granted now offset r) ticks all
  fair_granted last now offset r ticks all le f =
      record {
        sent = f.sent;
        each = f.each;
        most = f.most;
        spaced = f.spaced;
        after = λ t rest e. omega (arith, f.after t rest e, f.base, le);
        base = omega arith;
      }
