use Rattle.std.proofs.Common.{◌≡◌, ◌<◌, ◌+◌, ℕ, List, length, take, get_or, fold, sym, ap, ◌∙◌, arith, rules}
use Rattle.std.specs.List.{zip}
use Rattle.std.proofs.lemmas.List.{take_all, length_push}
use Rattle.std.proofs.lemmas.List.Sums.{fold_more}
use Rattle.std.proofs.lemmas.Slice.Zip.{zip_turn, zip_end, length-zip, get_or-zip}
use Rattle.homa_plain.specs.declared.settings.Name.{Name}
use Rattle.homa_plain.specs.declared.settings.Name.TheVariants.{Hosts}
use Rattle.homa_plain.specs.declared.settings.Settings.{Settings}
use Rattle.homa_plain.specs.Settings.{usual}
use Rattle.homa_plain.specs.Script.{names, with_setting}
use Rattle.check_reader.proofs.entries.with_numbers.Goals as goal

abbrev give : Settings → Name × ℕ → Settings
give s named = with_setting s named.0 named.1

-- one number more is given
more_given : (ns : List ℕ) (k : ℕ) (s : Settings) (name : Name) (n : ℕ) → k < length names → k < length ns → name ≡ get_or names k Hosts
    → n ≡ get_or ns k 0 → s ≡ fold give usual (take k (zip names ns)) → with_setting s name n ≡ fold give usual (take (k + 1) (zip names ns))
more_given ns k s name n within inside is_name is_number e =
    rw (e, is_name, is_number) (sym (fold_more give usual (zip names ns) k (Hosts, 0) (omega (arith, length-zip names ns, within, inside))
    ∙ ap (give (fold give usual (take k (zip names ns)))) (get_or-zip names ns k (Hosts, 0) within inside)))

pub loop-name-preserved : goal.loop-name-preserved
loop-name-preserved c =
    let ns = c.args.numbers.now in
    let so_far = c.loop-name.yielded in
    let at = zip_turn names ns so_far c.into_iter-name-iterator.result c.loop-name.name-iterator c.next.new.self _ (search rules) (search rules)
    c.loop-name.yielded_by (c.in-Some.name, c.in-Some.n) c.in-Some.is c.next.ensures.steps in
    c.set.ensures
    ∙ more_given ns (length so_far) c.loop-name.settings c.in-Some.name.now c.in-Some.n.now at.0 at.1 (at.2 Hosts) (at.3 0) c.loop-name.invariant
    ∙ ap (λ (k : ℕ). fold give usual (take k (zip names ns))) (sym (length_push so_far (c.in-Some.name, c.in-Some.n)))

pub returns : goal.returns
returns c =
    let ns = c.args.numbers.now in
    let so_far = c.loop-name.yielded in
    let all = zip_end names ns so_far c.into_iter-name-iterator.result c.loop-name.name-iterator c.next.new.self _ (search rules) (search rules)
    c.loop-name.yielded_by c.in-None.is c.next.ensures.steps in
    ap (λ (s : Settings). record s { skew = c.args.skew; wire = c.args.wire })
    (c.loop-name.invariant ∙ ap (fold give usual) (take_all (length so_far) (zip names ns) (omega (arith, length-zip names ns, all))))
