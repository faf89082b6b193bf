-- What was served, with what the net did before.
use Rattle.std.proofs.Common.{◌≡◌, ◌⊎◌, inl, inr, ℕ, Bool, suc, Option, None, Some, Result, Err, List, [], ◌∷◌, ◌++◌, append_assoc, refl, sym, ap}
use Rattle.std.proofs.Common.{◌∙◌, subst}
use Rattle.std.proofs.lemmas.List.{append-nil}
use Rattle.homa_plain.specs.Entries.{PlainEntry}
use Rattle.homa_plain.specs.Script.{most_bytes}
use Rattle.node_runs.specs.Script as script
use Rattle.node_runs.specs.Script.{opening, unopened}
use Rattle.node_io.specs.Net.{sent_in}
use Rattle.node_runs.specs.Course.{Report, Datagram, Run}
use Rattle.node_runs.specs.Acts.{Act, sents, binds, routes, opened_acts, acts_by, node_acts}
use Rattle.node_runs.specs.Recorder.{Notes}
use Rattle.node_turns.specs.Told.{listed, Hears, HasDone}
use Rattle.node_turns.specs.declared.stop.NodeStop.{NodeStop}
use Rattle.node_turns.specs.declared.stop.NodeStop.TheVariants.{Script, Start, Host, Read, Net, Seen, Stalled, NoMemory}
use Rattle.node_turns.proofs.Lists.{listed_none}
use Rattle.node_turns.proofs.Done.{sents_parts}
use Rattle.script_lines.specs.Place.{Place}
use Rattle.script_lines.proofs.ReadParts.{read_whole}
use Rattle.homa_node.specs.Opened.{HasOpened}
use Rattle.homa_node.specs.Served.{Outside, Whole, IsAnswered, IsBrokenOff, HasServed}

module _ (whole : Whole) (told : Notes → Report → List ℕ) (kept : Notes → Report → Notes) (strange : Notes → Report → Bool)
    (may_tell : List PlainEntry → Type 0) (bytes : List ℕ) (left : Option (List ℕ)) (old new : Outside) where
  -- all hosts were bound or routed
  pub all_served : (first : List Act) (answer : Result ℕ NodeStop) → opened_acts (opening most_bytes bytes) ≡ first
      → IsAnswered whole told kept strange may_tell bytes left (record old { acts = listed old.acts first }) new answer
      → HasServed whole told kept strange may_tell bytes left old new answer
  all_served first answer e a = record { first = first; rest = []; connected = e ∙ sym (append-nil first); all_first = inl refl; answered = a }

  -- the first of them were, and nothing was told
  pub none_served : (first rest : List Act) (answer : Result ℕ NodeStop) → opened_acts (opening most_bytes bytes) ≡ first ++ rest
      → IsBrokenOff whole told kept strange may_tell answer → new.taken ≡ old.taken
      → IsAnswered whole told kept strange may_tell bytes left (record old { acts = listed old.acts first }) new answer
      → HasServed whole told kept strange may_tell bytes left old new answer
  none_served first rest answer e off same a = record { first = first; rest = rest; connected = e; all_first = inr (off, same); answered = a }

-- nothing was done
pub untouched : (whole : Whole) (told : Notes → Report → List ℕ) (kept : Notes → Report → Notes) (strange : Notes → Report → Bool)
    (may_tell : List PlainEntry → Type 0) (bytes : List ℕ) (left : Option (List ℕ)) (old : Outside) (answer : Result ℕ NodeStop)
    → (opened_acts (opening most_bytes bytes) ≡ []) ⊎ IsBrokenOff whole told kept strange may_tell answer
    → IsAnswered whole told kept strange may_tell bytes left (record old { acts = listed old.acts [] }) (record old { acts = listed old.acts [] }) answer
    → HasServed whole told kept strange may_tell bytes left old old answer
untouched whole told kept strange may_tell bytes left old answer off a =
    let same : record old { acts = listed old.acts [] } ≡ old = ap (λ x. record old { acts = x }) (sym (listed_none old.acts)) in
    let b = subst (λ o. IsAnswered whole told kept strange may_tell bytes left (record old { acts = listed old.acts [] }) o answer) same a in
    elim off [
      | inl e ↦ all_served whole told kept strange may_tell bytes left old old [] answer e b
      | inr k ↦ none_served whole told kept strange may_tell bytes left old old [] (opened_acts (opening most_bytes bytes)) answer refl k refl b
    ]

-- why the script wasn't opened: no host is bound or routed
pub unopened_first : (whole : Whole) (told : Notes → Report → List ℕ) (kept : Notes → Report → Notes) (strange : Notes → Report → Bool)
    (may_tell : List PlainEntry → Type 0) (bytes : List ℕ) (place : Place) (left : Option (List ℕ)) (stop : NodeStop)
    → HasOpened most_bytes place bytes left (Err stop)
    → (opened_acts (opening most_bytes bytes) ≡ []) ⊎ IsBrokenOff whole told kept strange may_tell (Err stop)
unopened_first whole told kept strange may_tell bytes place left (Script line fault) f =
    inl (ap opened_acts (read_whole bytes left (opening most_bytes) (λ more. unopened line fault) f))
unopened_first whole told kept strange may_tell bytes place left Read f = inr tt
unopened_first whole told kept strange may_tell bytes place left NoMemory f = inr tt
unopened_first whole told kept strange may_tell bytes place left (Start line fault) f = absurd f
unopened_first whole told kept strange may_tell bytes place left (Host line) f = absurd f
unopened_first whole told kept strange may_tell bytes place left Net f = absurd f
unopened_first whole told kept strange may_tell bytes place left (Seen fault) f = absurd f
unopened_first whole told kept strange may_tell bytes place left (Stalled turns now) f = absurd f

-- ---- what a net did in a run that came to its end

cancelled : {A : Type 0} (xs a b : List A) → xs ++ a ≡ xs ++ b → a ≡ b
cancelled [] a b e = e
cancelled (x ∷ xs) a b e = let tail : xs ++ a ≡ xs ++ b = cc in cancelled xs a b tail

some_same : {A : Type 0} (x y : A) → Some x ≡ Some y → x ≡ y
some_same x y e = cc

-- no datagram is sent while hosts are bound and routed
binds_none : (n : ℕ) (places : List script.Place) → sents (binds n places) ≡ []
binds_none n [] = refl
binds_none n (script.Local inc port ∷ places) = binds_none (suc n) places
binds_none n (script.Remote port ∷ places) = binds_none (suc n) places

routes_none : (n : ℕ) (places : List script.Place) → sents (routes n places) ≡ []
routes_none n [] = refl
routes_none n (script.Local inc port ∷ places) = routes_none (suc n) places
routes_none n (script.Remote port ∷ places) = routes_none (suc n) places

opened_none : (o : script.Opening) → sents (opened_acts o) ≡ []
opened_none (script.Unopened refusal) = refl
opened_none (script.Opened setup calls) =
    sents_parts (binds 0 setup.places) (routes 0 setup.places) ∙ ap (λ xs. xs ++ sents (routes 0 setup.places)) (binds_none 0 setup.places)
    ∙ routes_none 0 setup.places

-- they are those of the run, in order, with its datagrams
pub acts_are : (d0 d1 : Option (List Act)) (s0 s1 : Option (List Datagram)) (bytes : List ℕ) (run : Run) (first : List Act)
    → s0 ≡ sent_in d0 → s1 ≡ sent_in d1 → opened_acts (opening most_bytes bytes) ≡ first
    → HasDone (listed d0 first) d1 (Hears 64) (Hears 64) run.reports → s1 ≡ listed s0 run.sent → d1 ≡ listed d0 (node_acts bytes run)
unfolding node_acts
acts_are None d1 s0 s1 bytes run first l0 l1 opened h took = h.is
acts_are (Some x) d1 s0 s1 bytes run first l0 l1 opened h took =
    let sent_of : sents ((x ++ first) ++ h.acts) ≡ sents x ++ run.sent =
    some_same (sents ((x ++ first) ++ h.acts)) (sents x ++ run.sent)
    (sym (ap sent_in h.is) ∙ sym l1 ∙ took ∙ ap (λ o. listed o run.sent) l0) in
    let none : sents first ≡ [] = ap sents (sym opened) ∙ opened_none (opening most_bytes bytes) in
    let parts : sents ((x ++ first) ++ h.acts) ≡ sents x ++ sents h.acts =
    sents_parts (x ++ first) h.acts ∙ ap (λ ds. ds ++ sents h.acts) (sents_parts x first ∙ ap (λ ds. sents x ++ ds) none ∙ append-nil (sents x)) in
    let same : sents h.acts ≡ run.sent = cancelled (sents x) (sents h.acts) run.sent (sym parts ∙ sent_of) in
    let did : acts_by 64 run.reports run.sent ≡ h.acts =
    ap (λ ds. acts_by 64 run.reports ds) (sym same) ∙ ap (λ rs. acts_by 64 rs (sents h.acts)) (sym (append-nil run.reports))
    ∙ ap (λ ds. acts_by 64 (run.reports ++ []) ds) (sym (append-nil (sents h.acts))) ∙ h.order [] [] tt ∙ append-nil h.acts in
    h.is ∙ ap Some (append_assoc x first h.acts ∙ ap (λ xs. x ++ xs) (ap (λ xs. xs ++ h.acts) (sym opened)
    ∙ ap (λ xs. opened_acts (opening most_bytes bytes) ++ xs) (sym did)))

none_first : (xs ys : List Datagram) → xs ++ ys ≡ [] → xs ≡ []
none_first [] ys e = refl
none_first (x ∷ xs) ys e = absurd cc

-- nor while the first of them are
pub first_none : (bytes : List ℕ) (first rest : List Act) → opened_acts (opening most_bytes bytes) ≡ first ++ rest → sents first ≡ []
first_none bytes first rest e =
    none_first (sents first) (sents rest) (sym (sents_parts first rest) ∙ ap sents (sym e) ∙ opened_none (opening most_bytes bytes))
