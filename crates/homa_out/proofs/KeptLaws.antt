-- What the calls keep of a message, and how a RESEND is answered.
use Rattle.std.proofs.Common.{◌≡◌, ℕ, ◌+◌, ◌<◌, ◌≤◌, ◌↔◌, Bool, true, false, not, ltb, min, max, List, [], ◌∷◌, length, refl, sym, ap, ◌∙◌, arith}
use Rattle.std.proofs.Common.{inl, inr, Option, Some}
use Rattle.std.specs.Prelude.{IsTrue}
use Rattle.std.specs.Option.{option_map}
use Rattle.std.proofs.lemmas.Bool.{cond-true, lt-ltb, cases_lt, false≢true}
use Rattle.plain_sets.specs.Maps.{empty, len}
use Rattle.plain_sets.specs.Ranges.{Range}
use Rattle.plain_sets.specs.Numbers.{Numbers, with_range, without_range, ranges}
use Rattle.plain_sets.specs.Ordered.{first_of}
use Rattle.plain_sets.proofs.MapLaws.{empty_of_len, len-empty}
use Rattle.range_set.specs.Fits.{bounds, front}
use Rattle.homa_plain.specs.Outgoing.{Outgoing, opened, restart, grant, front_of, sent, IsSound, AllWait}
use Rattle.homa_plain.specs.Busy.{resend, Answer, Busy, Queued}
use Rattle.homa_plain.proofs.OutgoingLaws.{sound-opened, sound-restart, sound-grant, sound-resend, sound-next, busy-cases, cases-busy, part-queued}
use Rattle.range_set.specs.Changed.{AddsRange}
use Rattle.homa_out.specs.declared.busy.Resent.TheVariants.{Queued as ToldQueued, Busy as ToldBusy}
use Rattle.homa_out.specs.Answers.{answered}
use Rattle.homa_out.specs.Kept.{IsKept}

-- a message is kept when it is opened
pub kept-opened : (n unsched : ℕ) → n ≤ 1000000 → 1 ≤ unsched → IsKept (opened n unsched)
kept-opened n unsched h k = record { sound = sound-opened n unsched; small = h; free = k }

-- and when it starts over
pub kept-restart : (p : Outgoing) → IsKept p → IsKept (restart p)
kept-restart p kept = record { sound = sound-restart p kept.sound; small = kept.small; free = kept.free }

-- and after a grant of more than before
pub kept-granted : (p : Outgoing) (offset prio : ℕ) → IsKept p → p.granted < min offset p.length
    → IsKept (record p { waiting = with_range p.waiting p.granted (min offset p.length); granted = min offset p.length; prio = prio })
kept-granted p offset prio kept h =
    let end : ℕ = min offset p.length in
    let is : grant p offset prio ≡ record p { waiting = with_range p.waiting p.granted end; granted = end; prio = prio } =
    cond-true (ltb p.granted end) _ _ (lt-ltb _ _ h) in
    record { sound = rw is at (sound-grant p offset prio kept.sound); small = kept.small; free = kept.free }

-- and after a RESEND that is queued
pub kept-queued : (p : Outgoing) (a b prio : ℕ) → IsKept p → (resend p a b prio).answer ≡ Queued
    → IsKept (record p { waiting = with_range p.waiting a (min b p.length); granted = max p.granted (min b p.length); prio = prio })
kept-queued p a b prio kept e = record { sound = rw (part-queued p a b prio e) at (sound-resend p a b prio kept.sound); small = kept.small; free = kept.free }

-- the ends of a pair
pub pair_ends : (a b f t : ℕ) → ◌≡◌ {A = Option (ℕ × ℕ)} (Some (f, t)) (Some (a, b)) → (f ≡ a) × (t ≡ b)
pair_ends a b f t e = let pairs : ◌≡◌ {A = ℕ × ℕ} (f, t) (a, b) = cc in (ap (λ (q : ℕ × ℕ). q.0) pairs, ap (λ (q : ℕ × ℕ). q.1) pairs)

-- and after its front was sent
pub kept-sent : (p : Outgoing) (seg f t top : ℕ) (w : Numbers) → IsKept p → Some (f, t) ≡ option_map (λ r. bounds (front seg r)) (first_of (ranges p.waiting))
    → w ≡ without_range p.waiting f t → top ≡ max p.top t → IsKept (record p { waiting = w; top = top })
kept-sent p seg f t top w kept e set is = rw (is, set) (choose (ranges p.waiting) (sound-next p seg kept.sound) e) where
  choose : (rs : List Range) → IsSound (sent p (front_of rs seg)) → Some (f, t) ≡ option_map (λ r. bounds (front seg r)) (first_of rs)
      → IsKept (record p { waiting = without_range p.waiting f t; top = max p.top t })
  choose [] sound e = cc
  choose (r ∷ rs) sound e =
      let ends = pair_ends r.from (min r.to (r.from + seg)) f t e in
      rw (ends.0, ends.1) (record { sound = sound; small = kept.small; free = kept.free })

-- a RESEND of bytes that don't all wait, after which at most 63 ranges wait, is queued
pub answer-queued : (p : Outgoing) (a b prio : ℕ) → (AllWait p a (min b p.length) → ⊥) → length (ranges (with_range p.waiting a (min b p.length))) ≤ 63
    → (resend p a b prio).answer ≡ Queued
answer-queued p a b prio some few = by (resend p a b prio).answer refl where
  by : (r : Answer) → (resend p a b prio).answer ≡ r → (resend p a b prio).answer ≡ Queued
  by Queued e = e
  by Busy e = absurd (elim (busy-cases p a b prio e) [
    | inl none ↦ some (λ x h k. absurd (omega arith))
    | inr (inl all) ↦ some all
    | inr (inr many) ↦ omega arith
  ])

-- a RESEND of bytes that all wait changes nothing
pub busy-part : (p : Outgoing) (a b prio end : ℕ) (t : Bool) → end ≡ min b p.length → IsTrue t ↔ AllWait p a end → t ≡ true → p ≡ (resend p a b prio).part
busy-part p a b prio end t e all is =
    let wait : AllWait p a (min b p.length) = rw e at (all.0 is) in
    let busy : resend p a b prio ≡ record { answer = Busy; part = p } = cases-busy p a b prio (inr (inl wait)) in
    rw busy refl

-- and is answered Busy
pub busy-told : (p : Outgoing) (a b prio end : ℕ) (t : Bool) → end ≡ min b p.length → IsTrue t ↔ AllWait p a end → t ≡ true
    → ToldBusy ≡ answered (resend p a b prio).answer
busy-told p a b prio end t e all is =
    let wait : AllWait p a (min b p.length) = rw e at (all.0 is) in
    let busy : resend p a b prio ≡ record { answer = Busy; part = p } = cases-busy p a b prio (inr (inl wait)) in
    rw busy refl

-- a RESEND that is queued: its answer, and the message q after it, which is kept
pub record IsQueued (p : Outgoing) (a b prio : ℕ) (q : Outgoing) : Type 0 where
  pub told : ToldQueued ≡ answered (resend p a b prio).answer
  pub part : q ≡ (resend p a b prio).part
  pub kept : IsKept q

-- a RESEND is queued where not all of its bytes waited, and they came to the set
pub queued : (p : Outgoing) (a b prio end granted n : ℕ) (w : Numbers) (t : Bool) → IsKept p → end ≡ min b p.length → granted ≡ max p.granted end
    → AddsRange p.waiting w a end 63 n → IsTrue t ↔ AllWait p a end → t ≡ false → IsQueued p a b prio (record p { waiting = w; granted = granted; prio = prio })
queued p a b prio end granted n w t kept e is added all differ =
    let set : w ≡ with_range p.waiting a (min b p.length) = added.set ∙ ap (with_range p.waiting a) e in
    let up : granted ≡ max p.granted (min b p.length) = is ∙ ap (max p.granted) e in
    let few : length (ranges (with_range p.waiting a (min b p.length))) ≤ 63 = rw set at added.few in
    let some : AllWait p a (min b p.length) → ⊥ = λ every. false≢true (sym differ ∙ all.1 (λ x h k. every x h (omega arith))) in
    let answer : (resend p a b prio).answer ≡ Queued = answer-queued p a b prio some few in
    record {
      told = sym (ap answered answer);
      part = rw (up, set) (sym (part-queued p a b prio answer));
      kept = rw (up, set) (kept-queued p a b prio kept answer);
    }

-- bytes wait exactly where the set of them isn't empty
pub waits : (s : Numbers) (t : Bool) → IsTrue t ↔ (s ≡ empty) → not t ≡ ltb 0 (len s)
waits s true h = rw (h.0 refl, len-empty) refl
waits s false h =
    elim (cases_lt 0 (len s)) [ inl some ↦ sym (lt-ltb 0 (len s) some) | inr none ↦ absurd (false≢true (h.1 (empty_of_len s (omega arith)))) ]
