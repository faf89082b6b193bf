-- What was told of reports, one after another.
use Rattle.std.proofs.Common.{◌≡◌, ℕ, Bool, true, false, Option, List, [], ◌∷◌, ◌++◌, refl, sym, ap, ◌∙◌, subst, append_assoc}
use Rattle.std.proofs.lemmas.List.{append-nil}
use Rattle.homa_io.specs.Outside.{appended, TookFront}
use Rattle.homa_io.specs.Growing.{appended-nil}
use Rattle.homa_io.proofs.Fronts.{two_put}
use Rattle.std.specs.Prelude.{Err}
use Rattle.node_io.specs.declared.observer.SeenFault.{SeenFault}
use Rattle.node_io.specs.declared.observer.SeenFault.TheVariants.{Write, Stranger, NoMemory}
use Rattle.node_io.specs.Observer.{IsComing, OnStranger}
use Rattle.homa_plain.specs.declared.id.HostId.{HostId}
use Rattle.homa_plain.specs.Entries.{PlainEntry, PlainRecv}
use Rattle.node_runs.specs.Course.{Report, Tells, Turning}
use Rattle.node_runs.specs.Recorder.{Notes}
use Rattle.node_turns.specs.declared.stop.NodeStop.{NodeStop}
use Rattle.node_turns.specs.declared.stop.NodeStop.TheVariants as stop
use Rattle.node_turns.specs.declared.stop.NodeStop.TheVariants.{Seen}
use Rattle.node_turns.specs.Seen.{seen_stop}
use Rattle.node_turns.specs.Acting.{OnStrange, IsMidst, IsHeardStop, IsOwn}
use Rattle.node_turns.specs.Told.{text_by, notes_by, AreUsual, AreTold, BeginsNext, AreFront, AreStrange}

module _ (told : Notes → Report → List ℕ) (kept : Notes → Report → Notes) (strange : Notes → Report → Bool) where
  pub text_parts : (n : Notes) (a b : List Report)
      → text_by told kept strange n (a ++ b) ≡ text_by told kept strange n a ++ text_by told kept strange (notes_by told kept strange n a) b
  text_parts n [] b = refl
  text_parts n (r ∷ a) b = ap (λ t. told n r ++ t) (text_parts (kept n r) a b)
      ∙ sym (append_assoc (told n r) (text_by told kept strange (kept n r) a) (text_by told kept strange (notes_by told kept strange (kept n r) a) b))

  pub notes_parts : (n : Notes) (a b : List Report) → notes_by told kept strange n (a ++ b) ≡ notes_by told kept strange (notes_by told kept strange n a) b
  notes_parts n [] b = refl
  notes_parts n (r ∷ a) b = notes_parts (kept n r) a b

  pub usual_parts : (n : Notes) (a b : List Report) → AreUsual told kept strange n a → AreUsual told kept strange (notes_by told kept strange n a) b
      → AreUsual told kept strange n (a ++ b)
  usual_parts n [] b u v = v
  usual_parts n (r ∷ a) b u v = (u.0, usual_parts (kept n r) a b u.1 v)

  pub told_none : (old : Option (List ℕ)) (n : Notes) → AreTold told kept strange old n old n []
  told_none old n = record { text = sym (appended-nil old); noted = refl; usual = tt }

  pub told_one : (old new : Option (List ℕ)) (n m : Notes) (r : Report) → new ≡ appended old (told n r) → m ≡ kept n r → strange n r ≡ false
      → AreTold told kept strange old n new m (r ∷ [])
  told_one old new n m r t k u = record { text = t ∙ ap (appended old) (sym (append-nil (told n r))); noted = k; usual = (u, tt) }

  pub told_more : (old mid new : Option (List ℕ)) (n m l : Notes) (a b : List Report) → AreTold told kept strange old n mid m a
      → AreTold told kept strange mid m new l b → AreTold told kept strange old n new l (a ++ b)
  told_more old mid new n m l a b s t = record {
    text = two_put old mid new (text_by told kept strange n a) (text_by told kept strange m b) s.text t.text
        ∙ ap (λ k. appended old (text_by told kept strange n a ++ text_by told kept strange k b)) s.noted ∙ ap (appended old) (sym (text_parts n a b));
    noted = t.noted ∙ ap (λ k. notes_by told kept strange k b) s.noted ∙ sym (notes_parts n a b);
    usual = usual_parts n a b s.usual (subst (λ k. AreUsual told kept strange k b) s.noted t.usual);
  }

  -- a front of the first report
  abbrev pub front_first : (old new : Option (List ℕ)) (n : Notes) (r : Report) (rs : List Report) → TookFront old new (told n r)
      → AreFront told kept strange old n new (r ∷ rs)
  front_first old new n r rs f = record
      { before = []; after = r ∷ rs; split = refl; usual = tt; next = subst (λ o. TookFront o new (told n r)) (sym (appended-nil old)) f }

  -- nothing was told
  abbrev pub front_rest : (old : Option (List ℕ)) (n : Notes) (rs : List Report) → AreFront told kept strange old n old rs
  front_rest old n [] = record { before = []; after = []; split = refl; usual = tt; next = sym (appended-nil old) }
  front_rest old n (r ∷ rs) = front_first old old n r rs ([], told n r, refl, sym (appended-nil old))

  -- a front of further reports
  abbrev pub front_more : (old mid new : Option (List ℕ)) (n m : Notes) (a b : List Report) → AreTold told kept strange old n mid m a
      → AreFront told kept strange mid m new b → AreFront told kept strange old n new (a ++ b)
  front_more old mid new n m a b s f = record {
    before = a ++ f.before;
    after = f.after;
    split = ap (λ xs. a ++ xs) f.split ∙ sym (append_assoc a f.before f.after);
    usual = usual_parts n a f.before s.usual (subst (λ k. AreUsual told kept strange k f.before) s.noted f.usual);
    next = subst (λ k. BeginsNext told kept strange (appended old (text_by told kept strange n (a ++ f.before))) k new f.after)
        (ap (λ k. notes_by told kept strange k f.before) s.noted ∙ sym (notes_parts n a f.before))
        (subst (λ o. BeginsNext told kept strange o (notes_by told kept strange m f.before) new f.after)
        (two_put old mid (appended mid (text_by told kept strange m f.before)) (text_by told kept strange n a)
        (text_by told kept strange m f.before) s.text refl
        ∙ ap (λ k. appended old (text_by told kept strange n a ++ text_by told kept strange k f.before)) s.noted
        ∙ ap (appended old) (sym (text_parts n a f.before))) f.next);
  }

  -- the last of further reports is strange
  pub strange_more : (old mid new : Option (List ℕ)) (n m : Notes) (a b : List Report) → AreTold told kept strange old n mid m a
      → AreStrange told kept strange mid m new b → AreStrange told kept strange old n new (a ++ b)
  strange_more old mid new n m a b s t = record {
    before = a ++ t.before;
    last = t.last;
    split = ap (λ xs. a ++ xs) t.split ∙ sym (append_assoc a t.before (t.last ∷ []));
    usual = usual_parts n a t.before s.usual (subst (λ k. AreUsual told kept strange k t.before) s.noted t.usual);
    unusual = ap (λ k. strange k t.last) (notes_parts n a t.before ∙ ap (λ k. notes_by told kept strange k t.before) (sym s.noted)) ∙ t.unusual;
    text = two_put old mid new (text_by told kept strange n a)
        (text_by told kept strange m t.before ++ told (notes_by told kept strange m t.before) t.last) s.text t.text
        ∙ ap (λ k. appended old (text_by told kept strange n a
        ++ (text_by told kept strange k t.before ++ told (notes_by told kept strange k t.before) t.last))) s.noted
        ∙ ap (appended old) (sym (append_assoc (text_by told kept strange n a) (text_by told kept strange (notes_by told kept strange n a) t.before)
        (told (notes_by told kept strange (notes_by told kept strange n a) t.before) t.last)))
        ∙ ap (λ x. appended old (x ++ told (notes_by told kept strange (notes_by told kept strange n a) t.before) t.last)) (sym (text_parts n a t.before))
        ∙ ap (λ k. appended old (text_by told kept strange n (a ++ t.before) ++ told k t.last)) (sym (notes_parts n a t.before));
  }

-- a stop that the observer made
pub on_seen : (f : SeenFault) (A X : Type 0) → (A → X) → OnStranger (Err f) A → OnStrange {A = Unit {0}} (Err (seen_stop f)) X
on_seen (Write failed) A X f a = tt
on_seen Stranger A X f a = f a
on_seen NoMemory A X f a = tt

pub on_seen_both : (f : SeenFault) (A B X : Type 0) → (A → B → X) → OnStranger (Err f) A → OnStranger (Err f) B → OnStrange {A = Unit {0}} (Err (seen_stop f)) X
on_seen_both (Write failed) A B X f a b = tt
on_seen_both Stranger A B X f a b = f a b
on_seen_both NoMemory A B X f a b = tt

-- no report of that kind is strange
pub on_seen_never : (f : SeenFault) (X : Type 0) → OnStranger (Err f) ⊥ → OnStrange {A = Unit {0}} (Err (seen_stop f)) X
on_seen_never (Write failed) X a = tt
on_seen_never Stranger X a = absurd a
on_seen_never NoMemory X a = tt

-- a stop that is handed on
pub on_stop : (R Q : Type 0) (n : NodeStop) (A X : Type 0) → (A → X) → OnStrange {A = R} (Err n) A → OnStrange {A = Q} (Err n) X
on_stop R Q (Seen Stranger) A X f a = f a
on_stop R Q (Seen (Write failed)) A X f a = tt
on_stop R Q (Seen NoMemory) A X f a = tt
on_stop R Q (stop.Script line fault) A X f a = tt
on_stop R Q (stop.Start line fault) A X f a = tt
on_stop R Q (stop.Host line) A X f a = tt
on_stop R Q stop.Read A X f a = tt
on_stop R Q stop.Net A X f a = tt
on_stop R Q (stop.Stalled n now) A X f a = tt
on_stop R Q stop.NoMemory A X f a = tt

-- no entry of a host's own step is strange
own_none : (e : PlainEntry) → IsComing (Tells e) → IsOwn e → ⊥
own_none (PlainRecv host from bytes) c o = o
own_none e c o = c

pub never_own : (strange : Notes → Report → Bool) → ((n : Notes) (r : Report) → strange n r ≡ true → IsComing r) → (f : SeenFault) (n : Notes) (e : PlainEntry)
    → IsOwn e → OnStranger (Err f) (strange n (Tells e) ≡ true) → OnStranger (Err f) ⊥
never_own strange comes (Write failed) n e own is = tt
never_own strange comes Stranger n e own is = own_none e (comes n (Tells e) is) own
never_own strange comes NoMemory n e own is = tt

-- nor is a turning
by_turning : (strange : Notes → Report → Bool) (n : Notes) (host : HostId) (t : Bool) → strange n (Turning host) ≡ t → (t ≡ true → ⊥) → t ≡ false
by_turning strange n host true e never = absurd (never refl)
by_turning strange n host false e never = refl

pub turning_usual : (strange : Notes → Report → Bool) → ((n : Notes) (r : Report) → strange n r ≡ true → IsComing r) → (n : Notes) (host : HostId)
    → strange n (Turning host) ≡ false
turning_usual strange comes n host = by_turning strange n host (strange n (Turning host)) refl (comes n (Turning host))

-- a stop that the observer made, where nothing was strange, and where something may be
pub seen_midst : (f : SeenFault) → OnStranger (Err f) ⊥ → IsMidst (seen_stop f)
seen_midst (Write failed) a = tt
seen_midst Stranger a = a
seen_midst NoMemory a = tt

pub seen_never : (R : Type 0) (f : SeenFault) → OnStranger (Err f) ⊥ → OnStrange {A = R} (Err (seen_stop f)) ⊥
seen_never R (Write failed) a = tt
seen_never R Stranger a = a
seen_never R NoMemory a = tt

pub seen_heard : (f : SeenFault) → IsHeardStop (seen_stop f)
seen_heard (Write failed) = tt
seen_heard Stranger = tt
seen_heard NoMemory = tt

-- a stop in the midst of what the hosts do is at no strange report
pub midst_heard : (n : NodeStop) → IsMidst n → IsHeardStop n
midst_heard (Seen Stranger) m = tt
midst_heard (Seen (Write failed)) m = m
midst_heard (Seen NoMemory) m = m
midst_heard (stop.Script line fault) m = m
midst_heard (stop.Start line fault) m = m
midst_heard (stop.Host line) m = m
midst_heard stop.Read m = m
midst_heard stop.Net m = m
midst_heard (stop.Stalled n now) m = m
midst_heard stop.NoMemory m = m

pub midst_never : (R : Type 0) (n : NodeStop) (X : Type 0) → IsMidst n → OnStrange {A = R} (Err n) X
midst_never R (Seen Stranger) X m = absurd m
midst_never R (Seen (Write failed)) X m = tt
midst_never R (Seen NoMemory) X m = tt
midst_never R (stop.Script line fault) X m = tt
midst_never R (stop.Start line fault) X m = tt
midst_never R (stop.Host line) X m = tt
midst_never R stop.Read X m = tt
midst_never R stop.Net X m = tt
midst_never R (stop.Stalled n now) X m = tt
midst_never R stop.NoMemory X m = tt
