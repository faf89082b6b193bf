-- Counts of entries, one after the other.
use Rattle.std.proofs.Common.{◌≡◌, ◌<◌, ℕ, ◌+◌, Option, None, Some, refl, sym, ap, ◌∙◌, List, [], ◌∷◌, ◌++◌, length, take, get_or}
use Rattle.std.specs.Prelude.{map}
use Rattle.std.proofs.lemmas.List.{take_more, map-append}
use Rattle.std.specs.Fmt.{decimal}
use Rattle.homa_plain.specs.Entries.{PlainEntry}
use Rattle.homa_plain.specs.Text.{line_of_words}
use Rattle.homa_world.specs.declared.kinds.LineKind.{LineKind}
use Rattle.homa_world.specs.Kinds.{kind_of}
use Rattle.homa_world.specs.Counting.{counted_kinds}
use Rattle.homa_generate.specs.Counts.{place, name, one_more, counted, count_line}

pub counted-append : (counts : List ℕ) (a b : List PlainEntry) → counted counts (a ++ b) ≡ counted (counted counts a) b
counted-append counts [] b = refl
counted-append counts (e ∷ a) b = counted-append (one_more counts (kind_of e)) a b

-- with these kinds
abbrev pub counted_all : List ℕ → List LineKind → List ℕ
counted_all counts [] = counts
counted_all counts (k ∷ ks) = counted_all (one_more counts (Some k)) ks

-- the first of them
counted_first : (counts : List ℕ) (o : Option LineKind) (ks : List (Option LineKind))
    → counted_all counts (counted_kinds (o ∷ ks)) ≡ counted_all (one_more counts o) (counted_kinds ks)
counted_first counts None ks = refl
counted_first counts (Some k) ks = refl

-- the last of them
counted_last : (counts : List ℕ) (ks : List (Option LineKind)) (o : Option LineKind)
    → counted_all counts (counted_kinds (ks ++ o ∷ [])) ≡ one_more (counted_all counts (counted_kinds ks)) o
counted_last counts [] o = counted_first counts o []
counted_last counts (k ∷ ks) o =
    counted_first counts k (ks ++ o ∷ []) ∙ counted_last (one_more counts k) ks o
    ∙ ap (λ (c : List ℕ). one_more c o) (sym (counted_first counts k ks))

-- entries are counted by their kinds
counted_by : (counts : List ℕ) (es : List PlainEntry) → counted counts es ≡ counted_all counts (counted_kinds (map kind_of es))
counted_by counts [] = refl
counted_by counts (e ∷ es) = counted_by (one_more counts (kind_of e)) es ∙ sym (counted_first counts (kind_of e) (map kind_of es))

module _ {Mark : Type 0} where
  -- the entries of marks were counted, up to this one
  abbrev pub CountedTo : List ℕ → Option LineKind → (Mark → Option LineKind) → List Mark → List ℕ → Type 0
  CountedTo old first kind marks new = new ≡ counted_all old (counted_kinds (first ∷ map kind marks))

  -- none of them
  pub none_counted : (old new : List ℕ) (first : Option LineKind) (kind : Mark → Option LineKind) (marks : List Mark) → new ≡ one_more old first
      → CountedTo old first kind (take 0 marks) new
  none_counted old new first kind marks is = is ∙ sym (counted_first old first [])

  -- one more
  pub mark_counted : (old mid new : List ℕ) (first : Option LineKind) (kind : Mark → Option LineKind) (marks : List Mark) (i : ℕ) (m : Mark)
      (k : Option LineKind) → i < length marks → m ≡ get_or marks i m → k ≡ kind m → CountedTo old first kind (take i marks) mid → new ≡ one_more mid k
      → CountedTo old first kind (take (i + 1) marks) new
  mark_counted old mid new first kind marks i m k inside is of so_far one =
      let more = map-append kind (take i marks) (m ∷ []) in
      let last = take_more marks i m inside ∙ ap (λ (x : Mark). take i marks ++ x ∷ []) (sym is) in
      one ∙ ap (one_more mid) of ∙ ap (λ (c : List ℕ). one_more c (kind m)) so_far
      ∙ sym (counted_last old (first ∷ map kind (take i marks)) (kind m))
      ∙ ap (λ (ks : List (Option LineKind)). counted_all old (counted_kinds (first ∷ ks))) (sym (ap (map kind) last ∙ more))

  -- all
  pub all_counted : (old new : List ℕ) (first : Option LineKind) (kind : Mark → Option LineKind) (marks : List Mark) (es : List PlainEntry)
      → CountedTo old first kind marks new → counted_kinds (first ∷ map kind marks) ≡ counted_kinds (map kind_of es) → new ≡ counted old es
  all_counted old new first kind marks es is same = is ∙ ap (counted_all old) same ∙ sym (counted_by old es)

-- the line of a kind, as `put` writes it
pub line_is : (counts : List ℕ) (k : LineKind) (word : List ℕ) (at n : ℕ) → word ≡ name k → at ≡ place k → n ≡ get_or counts at 0
    → line_of_words (word ∷ decimal n ∷ []) ≡ count_line counts k
line_is counts k word at n named placed is = rw (named, is, placed) refl
