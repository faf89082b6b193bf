use Rattle.std.proofs.Common.{◌≡◌, ◌<◌, ℕ, zero, suc, true, false, deque_len, length, map, ap, sym, ◌∙◌, arith}
use Rattle.std.specs.Prelude.{◌==◌, filter}
use Rattle.homa_record.specs.Stored.{kept_of, is_in_life}
use Rattle.homa_record.proofs.Chains.{popped_by}
use Rattle.homa_record.proofs.Rising.{first_tick_by, rest_rising_by, all_live_by}
use Rattle.homa_record.proofs.store.Store.give_up.Goals as goal

not_none : (n : ℕ) → false ≡ (n == 0) → 0 < n
not_none zero e = absurd (let z : false ≡ true = e in cc)
not_none (suc n) e = omega arith

pub overflow_sub-self : goal.overflow_sub-self
overflow_sub-self c = let s = c.loop-self.self in
    first_tick_by s.tick s.ring.items c.index.result.now (omega (arith, not_none (deque_len s.ring) c.loop-self-test.ensures)) c.index.ensures s.rising

pub invariant_of-self : goal.invariant_of-self
invariant_of-self c =
    let s = c.loop-self.self in
    let some : 0 < length s.ring.items = omega (arith, not_none (deque_len s.ring) c.loop-self-test.ensures) in
    record {
      fits = c.after-self.type_inv;
      indexed = popped_by s.first s.heads.items s.ring.items c.after-self.result c.pop_front.new.self.items some s.indexed s.fits c.after-self.ensures
          c.pop_front.ensures.rest;
      rising = rest_rising_by s.tick s.ring.items c.pop_front.new.self.items some c.pop_front.ensures.rest s.rising;
    }

pub returns-else-self-index-clause-stored : goal.returns-else-self-index-clause-stored
returns-else-self-index-clause-stored c =
    let s = c.loop-self.self in
    let l = c.loop-self.invariant in
    let live = all_live_by c.args.life s.tick s.tick s.ring.items c.index.result.now
    (omega (arith, not_none (deque_len s.ring) c.loop-self-test.ensures)) c.index.ensures (omega (arith, c.if-self-index.false, c.from.ensures)) s.rising in
    sym live ∙ (ap (λ (now : ℕ). filter (is_in_life c.args.life now) (map kept_of s.ring.items)) l.tick ∙ l.live)
