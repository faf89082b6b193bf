-- What the changes of an outgoing message keep.
use Rattle.std.proofs.Common.{◌≡◌, ℕ, ◌+◌, ◌-◌, ◌<◌, ◌≤◌, Bool, true, false, ◌||◌, cond, ltb, leb, eqb, min, max, List, [], ◌∷◌, length, refl, sym}
use Rattle.std.proofs.Common.{ap, ◌∙◌, arith, ◌⊎◌, inl, inr, Option, Some, None}
use Rattle.std.specs.Option.{MatchOption, IfSome}
use Rattle.std.proofs.lemmas.Bool.{cond_both, ltb-true, ltb-false, lt-ltb, leb-true, le-leb, eqb-true, eq-eqb, or_cases, or_parts, or_left, or_right}
use Rattle.std.proofs.lemmas.Bool.{cond-true, cases_lt}
use Rattle.plain_sets.specs.Maps.{len}
use Rattle.plain_sets.specs.Ranges.{Range, is_between, in_ranges, AreApart}
use Rattle.plain_sets.specs.Numbers.{has, with_range, without_range, within, ranges}
use Rattle.plain_sets.specs.Ordered.{first_of}
use Rattle.plain_sets.proofs.NumberLaws.{has-empty, has-with_range, no_number, with_range-again}
use Rattle.plain_sets.proofs.RangeLaws.{apart-ranges, in_ranges-ranges, inside, at_to}
use Rattle.plain_sets.proofs.RangeChanges.{ranges-one_more}
use Rattle.plain_sets.proofs.CutLaws.{least}
use Rattle.plain_sets.proofs.MapLaws.{empty_of_len}
use Rattle.plain_sets.proofs.CountLaws.{none_left}
use Rattle.homa_plain.specs.Outgoing.{Outgoing, restart, opened, grant_up_to, grant, has_waiting}
use Rattle.homa_plain.specs.Busy.{Busy, Queued, Resent, is_busy, resend_up_to, resend}
use Rattle.homa_plain.specs.Outgoing.{front_of, next_range, sent, next, IsSound, IsFront}
use Rattle.homa_plain.specs.OutgoingChanges.{Change, Grant, Resend, Restart, Send, changed, changed_by}
use Rattle.homa_plain.specs.Outgoing.{IsIdle, AllWait}
use Rattle.homa_plain.proofs.PartSets.{member_cases, below-with_range, below-set_of_range, below-without_range, one_range, one_longer}
use Rattle.homa_plain.proofs.PartSets.{ranges-front_less, with_without, full_range, range_full}

-- a message of which only the front waits is sound
sound_from : (p : Outgoing) → p.top ≤ p.length → IsSound (restart p)
sound_from p h =
    let end : ℕ = min p.length p.unsched in
    record {
      below = below-set_of_range 0 end;
      within = omega arith;
      top = h;
      few = omega (arith, one_range 0 end);
      room = λ g k. omega (arith, one_longer 0 end g (omega arith) (omega arith));
    }

-- a message is sound when it is opened
pub sound-opened : (n unsched : ℕ) → IsSound (opened n unsched)
sound-opened n unsched = sound_from (opened n unsched) (omega arith)

-- and after a restart
pub sound-restart : (p : Outgoing) → IsSound p → IsSound (restart p)
sound-restart p sound = sound_from p sound.top

-- and after a grant up to a number that is at most the length
sound-grant_up_to : (p : Outgoing) (end prio : ℕ) → end ≤ p.length → IsSound p → IsSound (grant_up_to p end prio)
sound-grant_up_to p end prio h sound =
    cond_both (ltb p.granted end) _ _ IsSound
    (λ e. let more : p.granted < end = ltb-true _ _ e in
    record {
      below = below-with_range p.waiting p.granted end end (λ x k. omega (arith, sound.below x k)) (omega arith);
      within = h;
      top = sound.top;
      few = sound.room end more;
      room =
          λ g k. omega (
            arith,
            ap (λ s. length (ranges s)) (with_range-again p.waiting p.granted end g (omega arith) (omega arith)),
            sound.room g (omega arith),
          );
    })
    (λ _. sound)

-- and after a grant
pub sound-grant : (p : Outgoing) (offset prio : ℕ) → IsSound p → IsSound (grant p offset prio)
sound-grant p offset prio sound = sound-grant_up_to p (min offset p.length) prio (omega arith) sound

-- where a RESEND is queued there are at most 63 ranges
few_queued : (p : Outgoing) (a b : ℕ) → is_busy p a b ≡ false → length (ranges (with_range p.waiting a b)) ≤ 63
few_queued p a b e = ltb-false 63 _ (or_parts (leb b a || eqb (len (within p.waiting a b)) (b - a)) _ e).1

-- and after a RESEND of bytes of the message
sound-resend_up_to : (p : Outgoing) (a b prio : ℕ) → b ≤ p.length → IsSound p → IsSound (resend_up_to p a b prio).part
sound-resend_up_to p a b prio h sound =
    cond_both (is_busy p a b) _ _ (λ (r : Resent). IsSound r.part)
    (λ _. sound)
    (λ e. record {
      below = below-with_range p.waiting a b (max p.granted b) (λ x k. omega (arith, sound.below x k)) (omega arith);
      within = omega (arith, sound.within);
      top = sound.top;
      few = omega (arith, few_queued p a b e);
      room = λ g k. omega (arith, few_queued p a b e, ranges-one_more (with_range p.waiting a b) (max p.granted b) g);
    })

-- and after a RESEND
pub sound-resend : (p : Outgoing) (a b prio : ℕ) → IsSound p → IsSound (resend p a b prio).part
sound-resend p a b prio sound = sound-resend_up_to p a (min b p.length) prio (omega arith) sound

-- the first range ends at the granted end or below
first_granted : (p : Outgoing) (r : Range) (rs : List Range) → IsSound p → ranges p.waiting ≡ r ∷ rs → (r.from < r.to) × (r.to ≤ p.granted)
first_granted p r rs sound e =
    let apart : AreApart 0 (r ∷ rs) = rw e at (apart-ranges p.waiting) in
    let last : r.to - 1 < p.granted =
    sound.below (r.to - 1)
    (sym (in_ranges-ranges p.waiting (r.to - 1)) ∙ ap (λ ss. in_ranges ss (r.to - 1)) e ∙ inside r rs (r.to - 1) (omega (arith, apart.1))
    (omega (arith, apart.1))) in
    (apart.1, omega (arith, apart.1))

-- nothing waits below the first range
first_lowest : (p : Outgoing) (r : Range) (rs : List Range) → ranges p.waiting ≡ r ∷ rs → (x : ℕ) → has p.waiting x ≡ true → r.from ≤ x
first_lowest p r rs e = let l : IfSome (first_of (r ∷ rs)) (λ s. (x : ℕ) → has p.waiting x ≡ true → s.from ≤ x) = rw e at (least p.waiting) in l

-- a message stays sound where its front is sent
sound-sent : (p : Outgoing) (f t : ℕ) → f ≤ t → t ≤ p.granted → ((x : ℕ) → has p.waiting x ≡ true → f ≤ x) → IsSound p
    → IsSound (sent p (Some (record { from = f; to = t })))
sound-sent p f t h k lowest sound = record {
  below = below-without_range p.waiting f t p.granted sound.below;
  within = sound.within;
  top = omega (arith, sound.top, sound.within);
  few = omega (arith, sound.few, ranges-front_less p.waiting f t lowest);
  room = λ g l. omega (
    arith,
    ap (λ s. length (ranges s)) (with_without p.waiting f t p.granted g k),
    ranges-front_less (with_range p.waiting p.granted g) f t
        (λ x e. elim (member_cases p.waiting p.granted g x e) [ inl m ↦ omega (arith, m.0) | inr m ↦ lowest x m ]),
    sound.room g l,
  );
}

-- and after its next bytes were sent
pub sound-next : (p : Outgoing) (seg : ℕ) → IsSound p → IsSound (sent p (next_range p seg))
sound-next p seg sound = choose (ranges p.waiting) refl where
  choose : (rs : List Range) → ranges p.waiting ≡ rs → IsSound (sent p (front_of rs seg))
  choose [] e = sound
  choose (r ∷ rs) e =
      let first = first_granted p r rs sound e in
      sound-sent p r.from (min r.to (r.from + seg)) (omega (arith, first.0)) (omega (arith, first.1)) (first_lowest p r rs e) sound

-- a sound message is sound after each change
pub sound-changed : (p : Outgoing) (c : Change) → IsSound p → IsSound (changed p c)
sound-changed p (Grant offset prio) sound = sound-grant p offset prio sound
sound-changed p (Resend a b prio) sound = sound-resend p a b prio sound
sound-changed p Restart sound = sound-restart p sound
sound-changed p (Send seg) sound = sound-next p seg sound

-- and after all changes
pub sound-changed_by : (p : Outgoing) (cs : List Change) → IsSound p → IsSound (changed_by p cs)
sound-changed_by p [] sound = sound
sound-changed_by p (c ∷ cs) sound = sound-changed_by (changed p c) cs (sound-changed p c sound)

-- also from the opening on
pub sound-opened_by : (n unsched : ℕ) (cs : List Change) → IsSound (changed_by (opened n unsched) cs)
sound-opened_by n unsched cs = sound-changed_by (opened n unsched) cs (sound-opened n unsched)

-- so there are never more than 64 ranges
pub few-opened_by : (n unsched : ℕ) (cs : List Change) → length (ranges (changed_by (opened n unsched) cs).waiting) ≤ 64
few-opened_by n unsched cs = (sound-opened_by n unsched cs).few

-- what is sent next is the front of the first waiting range; nothing exactly where nothing waits
pub front-next_range : (p : Outgoing) (seg : ℕ) → 0 < seg → IsSound p → MatchOption (next_range p seg) (IsIdle p) (IsFront p seg)
front-next_range p seg some sound = choose (ranges p.waiting) refl where
  at : (rs : List Range) → ranges p.waiting ≡ rs → (x : ℕ) → has p.waiting x ≡ in_ranges rs x
  at rs e x = sym (in_ranges-ranges p.waiting x) ∙ ap (λ ss. in_ranges ss x) e

  choose : (rs : List Range) → ranges p.waiting ≡ rs → MatchOption (front_of rs seg) (IsIdle p) (IsFront p seg)
  choose [] e = λ x. at [] e x
  choose (r ∷ rs) e =
      let apart : AreApart 0 (r ∷ rs) = rw e at (apart-ranges p.waiting) in
      let first = first_granted p r rs sound e in
      record {
        some = omega (arith, first.0);
        few = omega arith;
        granted = omega (arith, first.1);
        lowest = first_lowest p r rs e;
        wait = λ x h k. at (r ∷ rs) e x ∙ inside r rs x h (omega arith);
        ends = elim (cases_lt r.to (r.from + seg)) [
          | inl h ↦ inr (let is : min r.to (r.from + seg) ≡ r.to = omega arith in ap (has p.waiting) is ∙ at (r ∷ rs) e r.to ∙ at_to 0 r rs apart)
          | inr h ↦ inl (omega arith)
        ];
      }

-- a grant doesn't lower the granted end
pub granted-grant : (p : Outgoing) (offset prio : ℕ) → p.granted ≤ (grant p offset prio).granted
granted-grant p offset prio =
    cond_both (ltb p.granted (min offset p.length)) _ _ (λ (q : Outgoing). p.granted ≤ q.granted)
    (λ e. omega (arith, ltb-true p.granted (min offset p.length) e)) (λ _. omega arith)

-- after it the bytes below the offset that weren't granted wait, and those that waited
pub waiting-grant : (p : Outgoing) (offset prio x : ℕ) → has (grant p offset prio).waiting x ≡ (is_between p.granted (min offset p.length) x || has p.waiting x)
waiting-grant p offset prio x =
    cond_both (ltb p.granted (min offset p.length)) _ _ (λ (q : Outgoing). has q.waiting x ≡ (is_between p.granted (min offset p.length) x || has p.waiting x))
    (λ e. has-with_range p.waiting p.granted (min offset p.length) x)
    (λ e. ap (λ t. t || has p.waiting x) (sym (no_number p.granted (min offset p.length) x (ltb-false _ _ e))))

-- what was sent stays sent
pub top-changed : (p : Outgoing) (c : Change) → p.top ≤ (changed p c).top
top-changed p (Grant offset prio) = cond_both (ltb p.granted (min offset p.length)) _ _ (λ (q : Outgoing). p.top ≤ q.top) (λ _. omega arith) (λ _. omega arith)
top-changed p (Resend a b prio) = cond_both (is_busy p a (min b p.length)) _ _ (λ (r : Resent). p.top ≤ r.part.top) (λ _. omega arith) (λ _. omega arith)
top-changed p Restart = omega arith
top-changed p (Send seg) = by (next_range p seg) where
  by : (o : Option Range) → p.top ≤ (sent p o).top
  by None = omega arith
  by (Some r) = omega arith

-- what a RESEND does where it is queued
abbrev queued : Outgoing → ℕ → ℕ → ℕ → Resent
queued p a b prio = record { answer = Queued; part = record p { waiting = with_range p.waiting a b; granted = max p.granted b; prio = prio } }

-- the answer is Busy only where the test says so
answer_busy : (p : Outgoing) (a b prio : ℕ) → (resend_up_to p a b prio).answer ≡ Busy → is_busy p a b ≡ true
answer_busy p a b prio = by (is_busy p a b) where
  by : (t : Bool) → (cond {A = Resent} t (record { answer = Busy; part = p }) (queued p a b prio)).answer ≡ Busy → t ≡ true
  by true e = refl
  by false e = cc

-- where it is Busy there are no such bytes, or all wait, or there would be more than 63 ranges
pub busy-cases : (p : Outgoing) (a b prio : ℕ) → (resend p a b prio).answer ≡ Busy
    → (min b p.length ≤ a) ⊎ (AllWait p a (min b p.length) ⊎ (63 < length (ranges (with_range p.waiting a (min b p.length)))))
busy-cases p a b prio e = cases (min b p.length) (answer_busy p a (min b p.length) prio e) where
  cases : (c : ℕ) → is_busy p a c ≡ true → (c ≤ a) ⊎ (AllWait p a c ⊎ (63 < length (ranges (with_range p.waiting a c))))
  cases c t = elim (or_cases (leb c a || eqb (len (within p.waiting a c)) (c - a)) _ t) [
    | inr many ↦ inr (inr (ltb-true 63 _ many))
    | inl few ↦ elim (or_cases (leb c a) _ few) [ inl none ↦ inl (leb-true c a none) | inr all ↦ inr (inl (full_range p.waiting a c (eqb-true _ _ all))) ]
  ]

-- where it is queued the bytes wait, and no other field but these changes
pub part-queued : (p : Outgoing) (a b prio : ℕ) → (resend p a b prio).answer ≡ Queued
    → (resend p a b prio).part ≡ record p { waiting = with_range p.waiting a (min b p.length); granted = max p.granted (min b p.length); prio = prio }
part-queued p a b prio = by (is_busy p a (min b p.length)) where
  by : (t : Bool) → (cond {A = Resent} t (record { answer = Busy; part = p }) (queued p a (min b p.length) prio)).answer ≡ Queued
      → (cond {A = Resent} t (record { answer = Busy; part = p }) (queued p a (min b p.length) prio)).part ≡ (queued p a (min b p.length) prio).part
  by true e = cc
  by false e = refl

-- and where there are such bytes the answer is Busy, and nothing changes
pub cases-busy : (p : Outgoing) (a b prio : ℕ)
    → (min b p.length ≤ a) ⊎ (AllWait p a (min b p.length) ⊎ (63 < length (ranges (with_range p.waiting a (min b p.length)))))
    → resend p a b prio ≡ record { answer = Busy; part = p }
cases-busy p a b prio cases = cond-true {A = Resent} (is_busy p a (min b p.length)) (record { answer = Busy; part = p })
    (queued p a (min b p.length) prio) (busy (min b p.length) cases) where
      busy : (c : ℕ) → (c ≤ a) ⊎ (AllWait p a c ⊎ (63 < length (ranges (with_range p.waiting a c)))) → is_busy p a c ≡ true
      busy c (inl none) = or_left (leb c a || eqb (len (within p.waiting a c)) (c - a)) _ (or_left (leb c a) _ (le-leb c a none))
      busy c (inr (inl all)) =
          or_left (leb c a || eqb (len (within p.waiting a c)) (c - a)) _ (or_right (leb c a) _ (eq-eqb _ _ (range_full p.waiting a c all)))
      busy c (inr (inr many)) = or_right (leb c a || eqb (len (within p.waiting a c)) (c - a)) _ (lt-ltb 63 _ many)

-- what is sent waits no more
pub part-next : (p : Outgoing) (seg : ℕ)
    → IfSome (next p seg).range (λ r. (next p seg).part ≡ record p { waiting = without_range p.waiting r.from r.to; top = max p.top r.to })
part-next p seg = by (next_range p seg) where
  by : (o : Option Range) → IfSome o (λ r. sent p o ≡ record p { waiting = without_range p.waiting r.from r.to; top = max p.top r.to })
  by None = tt
  by (Some r) = refl

-- and where nothing is sent nothing changes
pub idle-next : (p : Outgoing) (seg : ℕ) → (next p seg).range ≡ None → (next p seg).part ≡ p
idle-next p seg e = ap (sent p) e

-- bytes wait exactly where the set of waiting bytes isn't empty
pub idle-waiting : (p : Outgoing) → has_waiting p ≡ false → IsIdle p
idle-waiting p e x = ap (λ s. has s x) (empty_of_len p.waiting (omega (arith, ltb-false 0 (len p.waiting) e))) ∙ has-empty x

pub waiting-idle : (p : Outgoing) → IsIdle p → has_waiting p ≡ false
waiting-idle p none = ap (ltb 0) (none_left p.waiting none)
