use Rattle.std.proofs.Common.{◌≡◌, ◌+◌, ◌-◌, ◌*◌, ◌++◌, ◌∙◌, ◌&&◌, None, Some, List, ℕ, ap, arith, drop, length, length-drop, rules, sym, take}
use Rattle.std.specs.Prelude.{if◌then◌else◌, is_some}
use Rattle.std.specs.List.{list_all}
use Rattle.std.proofs.lemmas.List.{append-nil, drop_all, length-take-le, take_rest}
use Rattle.std.proofs.lemmas.Slice.{take-put_mid}
use Rattle.check_words.specs.Digits.{is_value, lower_pairs, spelled}
use Rattle.check_words.proofs.DigitLaws.{if_some, none_greater, nothing_read, part_length, spelled_last, spelled_more}
use Rattle.check_words.proofs.digits.read_pairs.Goals as goal

pub loop-out-init : goal.loop-out-init
loop-out-init c = record {
  so_far = nothing_read c.args.word.now _ (none_greater 32);
  within = omega arith;
  places = search rules;
}

pub loop-out-preserved : goal.loop-out-preserved
loop-out-preserved c =
    let word = c.args.word.now in
    let out = c.loop-out.out in
    let done = c.loop-out.done in
    let bytes = c.read_whole.new.out in
    let even = length-take-le 32 (drop (2 * done) word) (omega (arith, length-drop (2 * done) word)) in
    let two : 2 * done + 2 * 16 ≡ 2 * (done + 16) = omega arith in
    let front = take-put_mid done (done + 16 - done) out bytes (done + 16) (omega arith) (omega arith) in
    let all = rw part_length at c.read_whole.ensures.all in
    let read = rw part_length at c.read_whole.ensures.bytes in
    record {
      so_far =
          spelled_more word bytes (take done out) (list_all is_value c.loop-out.most) (is_some (lower_pairs (take 32 (drop (2 * done) word)))) (2 * done) 16
          even (if_some bytes (lower_pairs (take 32 (drop (2 * done) word))) read) c.loop-out.invariant.so_far
          ∙ (λ j. spelled (sym all j) (sym front j) (lower_pairs (drop (two j) word)));
      within = omega arith;
      places = c.read_whole.ensures.len;
    }

pub returns : goal.returns
returns c =
    let word = c.args.word.now in
    let out = c.loop-out.out in
    let done = c.loop-out.done in
    let bytes = c.read_part-last.new.out in
    let whole : take done out ++ (bytes ++ drop (length out - done) (drop done out)) ≡ take done out ++ bytes =
    ap (λ (xs : List ℕ). take done out ++ (bytes ++ xs)) (drop_all (length out - done) (drop done out) (omega (arith, length-drop done out))) ∙ ap
    (λ (xs : List ℕ). take done out ++ xs) (append-nil bytes) in
    (λ j. if c.both.ensures j then Some (whole j) else None)
    ∙ ((λ j. if c.read_part-last.result && c.are_values.ensures j then Some (take done out ++ bytes) else None)
    ∙ spelled_last word bytes (take done out) (list_all is_value c.loop-out.most) c.read_part-last.result (2 * done)
    (c.read_part-last.ensures ∙ ap lower_pairs (take_rest word (2 * done))) c.loop-out.invariant.so_far)
