use Rattle.std.proofs.Common.{◌≡◌, ◌<◌, ◌≤◌, ◌⊎◌, inl, inr, true, false, ℕ, List, length, get_or, ap, ◌∙◌, arith}
use Rattle.std.specs.Prelude.{if◌then◌else◌}
use Rattle.node_runs.specs.Recorder.{is_same}
use Rattle.homa_record.specs.Places.{bucket_of, place_of}
use Rattle.homa_record.specs.Stored.{kept_of, greater_of}
use Rattle.homa_record.proofs.Found.{chosen, led_first, found_first, found_all, found_next, led_next, found_none}
use Rattle.homa_record.proofs.store.Store.find.Goals as goal
use Rattle.homa_record.proofs.store.Store.find.Goals.{then-is_same, else-is_same, then-rec-eq0-via-then-rec-eq0, then-rec-eq0-via-else-rec-eq0+then-at-rec}

pub loop-at-init : goal.loop-at-init
loop-at-init c =
    let s = c.args.self.now in
    let head : c.head.result ≡ get_or s.heads.items (bucket_of c.args.from c.args.host c.args.bytes.now) 0 =
    c.head.ensures ∙ (ap (λ (xs : List ℕ). get_or xs c.bucket.result 0) c.deref.ensures.value
    ∙ ap (λ (b : ℕ). get_or s.heads.items b 0) c.bucket.ensures.bucket) in
    let at : c.place-at.result ≡ place_of s.first (get_or s.heads.items (bucket_of c.args.from c.args.host c.args.bytes.now) 0) =
    c.place-at.ensures ∙ ap (place_of s.first) head in
    record {
      best = found_first c.args.host c.args.from c.args.bytes.now s.first s.heads.items s.ring.items s.indexed c.place-at.result at;
      led = led_first c.args.host c.args.from c.args.bytes.now s.first s.heads.items s.ring.items s.indexed c.place-at.result at;
    }

pub returns-then-rec-eq0 : goal.returns-then-rec-eq0
returns-then-rec-eq0 c =
    let s = c.args.self.now in
    let r = c.index-rec.result.now in
    let best : c.if-is_same.best ≡ (if is_same c.args.host c.args.from c.args.bytes.now (kept_of r) then greater_of r.number c.loop-at.best
    else c.loop-at.best) =
    elim c.if-is_same.branch [
      | then-is_same w ↦ chosen true (is_same c.args.host c.args.from c.args.bytes.now (kept_of r)) r.number c.loop-at.best c.if-is_same.best
          w.if-is_same.ensures (w.best-is ∙ w.greater-best.ensures)
      | else-is_same w ↦ chosen false (is_same c.args.host c.args.from c.args.bytes.now (kept_of r)) r.number c.loop-at.best c.if-is_same.best
          w.if-is_same.ensures w.best-is
    ] in
    let last : (r.back ≡ 0) ⊎ (c.loop-at.at < r.back) =
    elim c.then-rec-eq0.branch [
      | then-rec-eq0-via-then-rec-eq0 w ↦ inl w.if-rec-eq0.true
      | then-rec-eq0-via-else-rec-eq0+then-at-rec w ↦
          inr w.if-at-rec.true
    ] in
    best ∙ found_all c.args.host c.args.from c.args.bytes.now s.first s.heads.items s.ring.items s.indexed c.loop-at.at r c.loop-at.best
    (omega (arith, c.len.ensures, c.loop-at-test.true)) c.index-rec.ensures c.loop-at.invariant.best c.loop-at.invariant.led last

pub loop-at-preserved : goal.loop-at-preserved
loop-at-preserved c =
    let s = c.args.self.now in
    let r = c.index-rec.result.now in
    let best : c.if-is_same.best ≡ (if is_same c.args.host c.args.from c.args.bytes.now (kept_of r) then greater_of r.number c.loop-at.best
    else c.loop-at.best) =
    elim c.if-is_same.branch [
      | then-is_same w ↦ chosen true (is_same c.args.host c.args.from c.args.bytes.now (kept_of r)) r.number c.loop-at.best c.if-is_same.best
          w.if-is_same.ensures (w.best-is ∙ w.greater-best.ensures)
      | else-is_same w ↦ chosen false (is_same c.args.host c.args.from c.args.bytes.now (kept_of r)) r.number c.loop-at.best c.if-is_same.best
          w.if-is_same.ensures w.best-is
    ] in
    let within : c.loop-at.at < length s.ring.items = omega (arith, c.len.ensures, c.loop-at-test.true) in
    let some : 0 < r.back = omega (arith, c.if-rec-eq0.false) in
    let back : r.back ≤ c.loop-at.at = omega (arith, c.if-at-rec.false) in
    record {
      best = best ∙ found_next c.args.host c.args.from c.args.bytes.now s.first s.heads.items s.ring.items s.indexed c.loop-at.at r c.loop-at.best
          within c.index-rec.ensures c.loop-at.invariant.best c.loop-at.invariant.led some back;
      led = led_next c.args.host c.args.from c.args.bytes.now s.first s.heads.items s.ring.items s.indexed c.loop-at.at r within c.index-rec.ensures
          c.loop-at.invariant.led some back;
    }

pub returns : goal.returns
returns c =
    let s = c.args.self.now in
    found_none c.args.host c.args.from c.args.bytes.now s.first s.heads.items s.ring.items s.indexed c.loop-at.at c.loop-at.best
    (omega (arith, c.len.ensures, c.loop-at-test.false)) c.loop-at.invariant.best c.loop-at.invariant.led
