use Rattle.std.proofs.Common.{◌≡◌, ◌+◌, ◌-◌, length, drop, get_or, ap, subst, ◌∙◌, refl, arith}
use Rattle.homa_plain.specs.Sending.{Arriving}
use Rattle.host_view.specs.Seen.{slot_of}
use Rattle.homa_host.specs.Parts.{seen_of}
use Rattle.homa_host.proofs.GrantFolds.{chosen_now, IsGranting, chosen_slots, granting_first, granting_on, granting_done, next_grant, none_left, left_of}
use Rattle.homa_host.proofs.parts.HostParts.give_grants.Goals as goal

pub ranks-init : goal.ranks-init
ranks-init c =
    let kept = c.requires.kept in
    let items = c.as_slice-slot-items.ensures.value in
    record {
      kept = kept;
      steady = record { settings = refl; id = refl; last = refl; marks_told = omega arith; frames_sent = omega arith; order = omega arith };
      rank = omega (arith, c.len-rank.ensures.value, ap length items);
      few = omega (arith, ap length items, c.choose.ensures.few, kept.room.most, kept.control.valid.in_range.2.2.2.2.1);
      slots = chosen_slots c.args.self.now c.as_slice-slot-items.result.now kept (items ∙ c.choose.ensures.chosen);
      rest = granting_first c.args.self.now c.args.out.now;
    }

pub grant-requires-clause-arrives : goal.grant-requires-clause-arrives
grant-requires-clause-arrives c =
    let inv = c.ranks.invariant in
    let next = next_grant c.args.self.now c.args.out.now c.ranks.self c.ranks.out c.as_slice-slot-items.result.now c.ranks.slot-index inv.slots
    c.ranks-test.true inv.rest in
    (next.a, next.arrives)

pub ranks-preserved : goal.ranks-preserved
ranks-preserved c =
    let inv = c.ranks.invariant in
    let slots = c.as_slice-slot-items.result.now in
    let i = c.ranks.slot-index in
    let f = λ (a : Arriving). slot_of (seen_of c.args.self.now) a.place in
    let next = next_grant c.args.self.now c.args.out.now c.ranks.self c.ranks.out slots i inv.slots c.ranks-test.true inv.rest in
    let s = c.grant.ensures.steady in
    let rank : (c.ranks.rank - 1) + (i + 1) ≡ length slots = omega (arith, inv.rank, c.ranks-test.true) in
    record {
      kept = c.grant.ensures.kept;
      steady = record {
        settings = s.settings ∙ inv.steady.settings;
        id = s.id ∙ inv.steady.id;
        last = s.last ∙ inv.steady.last;
        marks_told = omega (arith, s.marks_told, inv.steady.marks_told);
        frames_sent = omega (arith, s.frames_sent, inv.steady.frames_sent);
        order = omega (arith, s.order, inv.steady.order);
      };
      rank = rank;
      few = inv.few;
      slots = inv.slots;
      rest =
          granting_on c.args.self.now c.args.out.now c.ranks.self c.grant.new.self c.ranks.out c.grant.new.out next.a
          (drop (i + 1) (chosen_now c.args.self.now))
          (get_or slots i 0) (c.ranks.rank - 1) inv.steady.settings
          (left_of f (chosen_now c.args.self.now) slots (i + 1) (c.ranks.rank - 1) inv.slots rank) next.granting
          (λ w. c.grant.ensures.step next.a w next.arrives) (c.grant.ensures.changes next.a next.arrives);
    }

pub returns-clause-step : goal.returns-clause-step
returns-clause-step c =
    let inv = c.ranks.invariant in
    let f = λ (a : Arriving). slot_of (seen_of c.args.self.now) a.place in
    let end = none_left f (chosen_now c.args.self.now) c.ranks.slot-index (omega (arith, ap length inv.slots, c.ranks.auto.slot-index-end)) in
    granting_done c.args.self.now c.args.out.now c.ranks.self c.ranks.out
    (subst (IsGranting c.args.self.now c.args.out.now c.ranks.self c.ranks.out) end inv.rest)
