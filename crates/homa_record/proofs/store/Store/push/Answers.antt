use Rattle.std.proofs.Common.{◌≡◌, ◌++◌, List, [], ◌∷◌, ◌-◌, length, get_or, sym, ap, ◌∙◌, subst, arith, rules}
use Rattle.std.proofs.lemmas.List.{get_or_default}
use Rattle.homa_record.specs.declared.store.Rec.{Rec}
use Rattle.homa_record.specs.Places.{bucket_of, place_of}
use Rattle.homa_record.specs.Stored.{are_rising, IsIndexed}
use Rattle.homa_record.proofs.Chains.{same_heads, pushed_by}
use Rattle.homa_record.proofs.Rising.{rising_more}
use Rattle.homa_record.proofs.store.Store.push.Goals as goal

pub invariant_of-self-in-Break-branch-2 : goal.invariant_of-self-in-Break-branch-2
invariant_of-self-in-Break-branch-2 c =
    let s = c.args.self.now in
    let items : c.push_back.new.self.items ≡ s.ring.items = search rules in
    record {
      fits = s.fits;
      indexed = subst (IsIndexed s.first c.grow.new.heads.items) (sym items)
          (same_heads s.first s.heads.items c.grow.new.heads.items s.ring.items c.grow.ensures.same s.indexed);
      rising = ap (λ (xs : List Rec). are_rising 0 xs s.tick) items ∙ s.rising;
    }

pub invariant_of-self-2 : goal.invariant_of-self-2
invariant_of-self-2 c =
    let s = c.args.self.now in
    let heads = c.grow.new.heads.items in
    let r : Rec =
    record { number = c.args.number; from = c.args.from; to = c.args.to; tick = s.tick; bytes = c.args.bytes; back = c.saturating_sub-back.result } in
    let items : c.push_back.new.self.items ≡ s.ring.items ++ r ∷ [] = c.in_ok-push_back.ensures.items in
    let bucket : c.bucket-bucket.result ≡ bucket_of r.from r.to r.bytes.items =
    c.bucket-bucket.ensures.bucket ∙ ap (bucket_of r.from r.to) c.deref.ensures.value in
    let len : c.len-at.result ≡ length s.ring.items = c.len-at.ensures ∙ s.ring.ok.0 in
    let head : c.index.result.now ≡ get_or heads c.bucket-bucket.result 0 =
    c.index.ensures ∙ get_or_default heads c.bucket-bucket.result c.index.result.now 0
    (omega (arith, c.in_ok-grow.ensures.ok, c.bucket-bucket.ensures.within)) in
    let last : c.place-last.result ≡ place_of s.first (get_or heads c.bucket-bucket.result 0) = c.place-last.ensures ∙ ap (place_of s.first) head in
    let back : c.saturating_sub-back.result ≡ c.len-at.result - place_of s.first (get_or heads c.bucket-bucket.result 0) =
    omega (arith, c.saturating_sub-back.ensures, last) in
    let indexed = same_heads s.first s.heads.items heads s.ring.items c.grow.ensures.same s.indexed in
    record {
      fits = s.fits;
      indexed = pushed_by s.first heads s.ring.items r c.bucket-bucket.result c.len-at.result c.after.result c.push_back.new.self.items indexed s.fits
          c.len-at.type_inv len bucket (omega (arith, c.in_ok-grow.ensures.ok, c.bucket-bucket.ensures.within)) back c.after.ensures items;
      rising = ap (λ (xs : List Rec). are_rising 0 xs s.tick) items ∙ rising_more 0 s.tick s.ring.items r (search rules) s.rising;
    }
