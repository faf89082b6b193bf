-- A piece is placed, and the answer is the plain message's.
use Rattle.std.proofs.Common.{◌≡◌, ◌↔◌, ◌∙◌, refl, sym, ap, subst}
use Rattle.plain_sets.specs.Maps.{len}
use Rattle.homa_plain.specs.Incoming.{remaining, IsSound}
use Rattle.homa_in.specs.declared.arriving.Accepted.{Accepted}
use Rattle.homa_in.specs.Accepts.{answer}
use Rattle.homa_in.specs.Part.{Part, seen, IsIn}
use Rattle.homa_in.proofs.TakenLaws.{Holds, is_seen, remaining-seen, sound-seen}
use Rattle.homa_in.proofs.AnswerLaws.{answer-many, answer-repeat, answer-whole}
use Rattle.homa_in.proofs.PlacedLaws.{IsPlaced, holds_placed, many_placed, count_placed, taken_placed, others_placed, in_placed, refused_placed, same_placed}
use Rattle.homa_in.proofs.arriving.Incoming.accept.Goals as goal
use Rattle.homa_in.proofs.arriving.Incoming.accept.Goals.{in-TooMany, in-Count}

-- an equation for an answer gives when it comes
comes : (r s t : Accepted) (P : Type 0) → r ≡ s → (s ≡ t) ↔ P → (r ≡ t) ↔ P
comes r s t P e both = (λ f. both.0 (sym e ∙ f), λ p. e ∙ both.1 p)

pub invariant_of-self : goal.invariant_of-self
invariant_of-self c =
    let fields : Part =
    record {
      peer = c.self.inside.peer;
      length = c.self.inside.len;
      order = c.self.inside.order;
      granted = c.self.inside.granted;
      missing = c.self.inside.missing;
      lease = c.self.inside.lease;
    } in
    let did = c.place.ensures in
    let here : IsPlaced c.args.pool.now c.place.new.pool fields c.place.new.missing c.args.offset c.args.bytes.now c.place.result =
    record {
      too_many = did.too_many;
      unchanged = did.unchanged;
      same_pool = did.same_pool;
      removed = did.removed;
      bytes = did.bytes;
      pool = did.pool;
      fits = did.fits;
    } in
    holds_placed c.args.pool.now c.place.new.pool fields c.place.new.missing c.args.offset c.args.bytes.now c.place.result here c.self.invariant

pub returns : goal.returns
returns c =
    let old = c.args.pool.now in
    let new = c.place.new.pool in
    let part = c.args.self.now in
    let missing = c.place.new.missing in
    let a = c.args.offset in
    let piece = c.args.bytes.now in
    let fits = c.requires.fits in
    let changed = c.place.result in
    let fields : Part =
    record {
      peer = c.self.inside.peer;
      length = c.self.inside.len;
      order = c.self.inside.order;
      granted = c.self.inside.granted;
      missing = c.self.inside.missing;
      lease = c.self.inside.lease;
    } in
    let did = c.place.ensures in
    let here : IsPlaced old new fields missing a piece changed =
    record {
      too_many = did.too_many;
      unchanged = did.unchanged;
      same_pool = did.same_pool;
      removed = did.removed;
      bytes = did.bytes;
      pool = did.pool;
      fits = did.fits;
    } in
    let is = is_seen old fields part c.self.view_is c.requires.pool c.self.invariant in
    let placed = subst (λ (p : Part). IsPlaced old new p missing a piece changed) c.self.view_is here in
    let answered : c.match-place.result ≡ answer (seen old part) a piece = elim c.match-place.branch [
      | in-TooMany w ↦ w.result-is ∙ many_placed old new part is c.requires.pool a piece fits missing changed placed w.in-TooMany.is
      | in-Count w ↦ w.result-is ∙ w.taken.ensures ∙ count_placed old new part is c.requires.pool a piece fits missing changed w.in-Count.count placed
          w.in-Count.is
    ] in
    let many = comes c.match-place.result _ _ _ answered (answer-many old part is a piece fits) in
    let repeats = comes c.match-place.result _ _ _ answered (answer-repeat old part is a piece fits) in
    let after = ap (λ (p : Part). record p { missing = missing }) c.self.view_is in
    let inside = in_placed old new part is c.requires.pool a piece fits missing changed placed in
    let now = is_seen new (record part { missing = missing }) (record part { missing = missing }) refl inside
    (holds_placed old new part missing a piece changed placed (subst Holds c.self.view_is c.self.invariant)) in
    record {
      answer = answered;
      too_many = many;
      repeat = repeats;
      whole = comes c.match-place.result _ _ _ answered (answer-whole old part is a piece fits);
      taken = λ e. ap (seen new) after ∙ taken_placed old new part is c.requires.pool a piece fits missing changed placed e;
      part = after;
      others = others_placed old new part is c.requires.pool a piece fits missing changed placed;
      pool = subst (IsIn new) (sym after) inside;
      missing = ap (λ (p : Part). len p.missing) after ∙ remaining-seen new (record part { missing = missing }) now
          ∙ ap (λ (p : Part). remaining (seen new p)) (sym after);
      sound = subst (λ (p : Part). IsSound (seen new p)) (sym after) (sound-seen new (record part { missing = missing }) now);
      refused = λ r.
          let both = refused_placed old new part is c.requires.pool a piece fits missing changed placed (many.0 r) in
          (after ∙ ap (λ m. record part { missing = m }) both.0, both.1);
      repeated = λ r.
          let both = same_placed old new part is c.requires.pool a piece fits missing changed placed (repeats.0 r) in
          (after ∙ ap (λ m. record part { missing = m }) both.0, both.1);
    }
