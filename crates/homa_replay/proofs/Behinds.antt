-- What is read where a line of a schedule is refused.
use Rattle.std.proofs.Common.{◌≡◌, ℕ, ◌≤◌, arith, Option, Some, List, [], ◌∷◌, ◌++◌, length, sym, ap, ◌∙◌, subst, append_assoc}
use Rattle.std.specs.List.{flat_map}
use Rattle.homa_io.specs.Outside.{appended}
use Rattle.homa_plain.specs.declared.fault.LineFault.{LineFault}
use Rattle.homa_plain.specs.declared.settings.Settings.{Settings}
use Rattle.homa_plain.specs.Entries.{PlainEntry, PlainRefused, PlainSettings}
use Rattle.homa_plain.specs.Text.{line_text}
use Rattle.script_lines.specs.Place.{Place, first_place}
use Rattle.script_lines.specs.Taking.{TakesLines}
use Rattle.script_lines.proofs.ReadParts.{some_left}
use Rattle.script_lines.proofs.Takings.{lines_on}
use Rattle.homa_replay.specs.Progress.{Whole, AreFar}
use Rattle.homa_replay.specs.RefusedReads.{RefusesLast, IsReadUpTo}
use Rattle.homa_replay.proofs.Fronts.{nothing_appended, wrote_more}

module _ (a b : Place) (left left2 old mid new : Option (List ℕ)) (line : ℕ) (fault : LineFault)
    (put : new ≡ appended mid (line_text (PlainRefused line fault))) (number : line ≡ b.number) (took : TakesLines a b left left2)
    (ahead : length b.pending ≤ 65536) where
  -- the refusal was printed behind what was told
  pub refuses_told : (told : List PlainEntry) → mid ≡ appended old (flat_map line_text told) → RefusesLast a b left left2 old new
  refuses_told told e = record {
    told = told;
    fault = fault;
    printed = subst (λ (n : ℕ). new ≡ appended old (flat_map line_text told ++ line_text (PlainRefused n fault))) number
        (wrote_more old mid new (flat_map line_text told) (line_text (PlainRefused line fault)) e put);
    took = took;
    ahead = ahead;
  }

  -- where a replay had come so far
  pub refuses_far : (whole due : Whole) (left3 : Option (List ℕ)) (p q : List PlainEntry → Type 0) → AreFar whole left left3 old mid p q due
      → (bytes : List ℕ) → left ≡ Some bytes → RefusesLast a b left left2 old new
  refuses_far whole due left3 p q d bytes h = let far = d bytes h in refuses_told far.told far.printed

-- nothing was printed before it
pub refuses_first : (a b : Place) (left left2 old mid new : Option (List ℕ)) (line : ℕ) (fault : LineFault) → mid ≡ old
    → new ≡ appended mid (line_text (PlainRefused line fault)) → line ≡ b.number → TakesLines a b left left2 → length b.pending ≤ 65536
    → RefusesLast a b left left2 old new
refuses_first a b left left2 old mid new line fault e put number took ahead = record {
  told = [];
  fault = fault;
  printed = put ∙ (ap (λ (o : Option (List ℕ)). appended o (line_text (PlainRefused line fault))) e
      ∙ ap (λ (n : ℕ). appended old (line_text (PlainRefused n fault))) number);
  took = took;
  ahead = ahead;
}

-- behind the line of the settings
pub refuses_behind : (a b c : Place) (left left2 left3 old mid new : Option (List ℕ)) (s : Settings) → TakesLines a b left left2
    → mid ≡ appended old (line_text (PlainSettings s)) → RefusesLast b c left2 left3 mid new → RefusesLast a c left left3 old new
refuses_behind a b c left left2 left3 old mid new s took line r = record {
  told = PlainSettings s ∷ r.told;
  fault = r.fault;
  printed = wrote_more old mid new (line_text (PlainSettings s)) (flat_map line_text r.told ++ line_text (PlainRefused c.number r.fault)) line r.printed
      ∙ ap (λ (l : List ℕ). appended old l)
      (sym (append_assoc (line_text (PlainSettings s)) (flat_map line_text r.told) (line_text (PlainRefused c.number r.fault))));
  took = lines_on a b c left left2 left3 took r.took;
  ahead = r.ahead;
}

-- of all that the source had at first
pub read_up_to : (a b : Place) (limit : ℕ) (left left2 old new : Option (List ℕ)) → a ≡ first_place limit → RefusesLast a b left left2 old new
    → (bytes : List ℕ) → left ≡ Some bytes → IsReadUpTo bytes left2 old new
read_up_to a b limit left left2 old new first r bytes h =
    let t = r.took.takes in
    let cut = some_left bytes t.came left left2 h t.source in
    let came : t.came ≡ r.took.taken ++ b.pending = sym (ap (λ (x : Place). x.pending ++ t.came) first) ∙ t.bytes in
    let none : a.number ≡ 0 = ap (λ (x : Place). x.number) first in
    record {
      told = r.told;
      line = b.number;
      fault = r.fault;
      printed = r.printed;
      lines = r.took.taken;
      ahead = b.pending;
      rest = cut.0;
      split = cut.1 ∙ ap (λ (l : List ℕ). l ++ cut.0) came;
      has_left = cut.2;
      within = omega (arith, r.took.lines, none);
      part = r.ahead;
    }

-- what was held went out
pub up_to_below : (bytes : List ℕ) (left old below new : Option (List ℕ)) (before held last : List ℕ) → before ≡ [] → last ≡ []
    → appended new last ≡ appended below held → IsReadUpTo bytes left (appended old before) (appended below held) → IsReadUpTo bytes left old new
up_to_below bytes left old below new before held last none out e r =
    let whole : appended below held ≡ new = sym e ∙ (ap (λ (l : List ℕ). appended new l) out ∙ sym (nothing_appended new)) in
    let first : appended old before ≡ old = ap (λ (l : List ℕ). appended old l) none ∙ sym (nothing_appended old) in
    subst (λ (o : Option (List ℕ)). IsReadUpTo bytes left o new) first
    (subst (λ (o : Option (List ℕ)). IsReadUpTo bytes left (appended old before) o) whole r)
