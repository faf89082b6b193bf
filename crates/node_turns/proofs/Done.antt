-- What a net did while reports were told, one part after another.
use Rattle.std.proofs.Common.{◌≡◌, ◌≢◌, ◌≤◌, ◌+◌, inl, inr, ℕ, suc, arith, Bool, true, false, Option, None, Some, List, [], ◌∷◌, ◌++◌, length}
use Rattle.std.proofs.Common.{take, refl, sym, ap, ◌∙◌, subst, append_assoc}
use Rattle.std.specs.Prelude.{map, if◌then◌else◌}
use Rattle.std.specs.List.{AllByRecursion}
use Rattle.std.proofs.lemmas.List.{length-append}
use Rattle.homa_io.specs.Outside.{appended, TookFront}
use Rattle.homa_io.specs.Growing.{appended-nil}
use Rattle.homa_io.proofs.Fronts.{two_put}
use Rattle.homa_plain.specs.declared.id.HostId.{HostId}
use Rattle.homa_plain.specs.Entries.{PlainEntry, PlainRecv, PlainSend, PlainClock}
use Rattle.node_runs.specs.Course.{Report, Tells, Turning, Datagram, Arrival}
use Rattle.node_runs.specs.Acts.{Act, Sent, Received, sents, acts_by}
use Rattle.node_runs.specs.Recorder.{Notes}
use Rattle.node_io.specs.declared.net.Got.{Got}
use Rattle.node_io.specs.declared.net.Got.TheVariants as got
use Rattle.node_io.specs.Net.{receive_of, added}
use Rattle.node_turns.specs.Told.{listed, ListedFront, numbers_of, Stage, Hears, Turns, left_of, IsNext, HasDone, HasDoneFront, BeginsWith, IsWithin}
use Rattle.node_turns.specs.Told.{AreOfOneStep, IsHeld}
use Rattle.node_turns.specs.Told.{text_by, AreTold, AreFront, AreStrange, AreDone, AreBroken, AreHalted}
use Rattle.node_turns.specs.Acting.{IsOwn}
use Rattle.node_turns.proofs.Lists.{listed_none, listed_more, added_is, numbers_parts}
use Rattle.node_turns.proofs.Tellings.{text_parts, told_none, told_more, front_first, front_rest, front_more, strange_more}
use Rattle.node_turns.proofs.Hearing.{nothing_of}

pub sents_parts : (a b : List Act) → sents (a ++ b) ≡ sents a ++ sents b
sents_parts [] b = refl
sents_parts (Sent d ∷ a) b = ap (λ ds. d ∷ ds) (sents_parts a b)
sents_parts (act ∷ a) b = sents_parts a b

pub sents_map : (ds : List Datagram) → sents (map Sent ds) ≡ ds
sents_map [] = refl
sents_map (d ∷ ds) = ap (λ xs. d ∷ xs) (sents_map ds)

-- ---- a step's own entries

one_sent : (n : ℕ) (e : PlainEntry) (told : List PlainEntry) (ds : List Datagram) (more : List Report) (later : List Datagram) → IsOwn e
    → length ds ≡ length (numbers_of (Tells e ∷ map Tells told))
    → ((xs : List Datagram) → length xs ≡ length (numbers_of (map Tells told))
    → acts_by n (map Tells told ++ more) (xs ++ later) ≡ map Sent xs ++ acts_by n more later)
    → acts_by n (Tells e ∷ (map Tells told ++ more)) (ds ++ later) ≡ map Sent ds ++ acts_by n more later
one_sent n (PlainRecv host from bytes) told ds more later own e rest = absurd own
one_sent n (PlainSend number from to inc role id level body payload) told [] more later own e rest = absurd (omega (arith, e))
one_sent n (PlainSend number from to inc role id level body payload) told (d ∷ ds) more later own e rest = ap (λ xs. Sent d ∷ xs) (rest ds (omega (arith, e)))
one_sent n e told ds more later own same rest = rest ds same

-- the frames of a step go where its entries are told
pub own_sent : (n : ℕ) (told : List PlainEntry) (ds : List Datagram) → AllByRecursion IsOwn told → length ds ≡ length (numbers_of (map Tells told))
    → (more : List Report) (later : List Datagram) → acts_by n (map Tells told ++ more) (ds ++ later) ≡ map Sent ds ++ acts_by n more later
own_sent n [] [] own e more later = refl
own_sent n [] (d ∷ ds) own e more later = absurd (omega (arith, e))
own_sent n (e ∷ told) ds own same more later = one_sent n e told ds more later own.0 same (λ xs k. own_sent n told xs own.1 k more later)

one_front : (n : ℕ) (e : PlainEntry) (told : List PlainEntry) (ds : List Datagram) (more : List Report) (later : List Datagram) → IsOwn e
    → length ds ≤ length (numbers_of (Tells e ∷ map Tells told))
    → ((xs : List Datagram) → length xs ≤ length (numbers_of (map Tells told))
    → BeginsWith (acts_by n (map Tells told ++ more) (xs ++ later)) (map Sent xs))
    → BeginsWith (acts_by n (Tells e ∷ (map Tells told ++ more)) (ds ++ later)) (map Sent ds)
one_front n (PlainRecv host from bytes) told ds more later own e rest = absurd own
one_front n (PlainSend number from to inc role id level body payload) told [] more later own e rest =
    record { rest = acts_by n (Tells (PlainSend number from to inc role id level body payload) ∷ (map Tells told ++ more)) later; split = refl }
one_front n (PlainSend number from to inc role id level body payload) told (d ∷ ds) more later own e rest =
    let k = rest ds (omega (arith, e)) in
    record { rest = k.rest; split = ap (λ xs. Sent d ∷ xs) k.split }
one_front n e told ds more later own few rest = rest ds few

-- and a front of them, where a front was sent
pub own_front : (n : ℕ) (told : List PlainEntry) (ds : List Datagram) → AllByRecursion IsOwn told → length ds ≤ length (numbers_of (map Tells told))
    → (more : List Report) (later : List Datagram) → BeginsWith (acts_by n (map Tells told ++ more) (ds ++ later)) (map Sent ds)
own_front n [] [] own e more later = record { rest = acts_by n more later; split = refl }
own_front n [] (d ∷ ds) own e more later = absurd (omega (arith, e))
own_front n (e ∷ told) ds own few more later = one_front n e told ds more later own.0 few (λ xs k. own_front n told xs own.1 k more later)

-- ---- parts

-- nothing was done
abbrev pub done_none : (old : Option (List Act)) (st : Stage) → HasDone old old st st []
done_none old st = record { acts = []; is = listed_none old; numbers = refl; next = λ more n. n; order = λ more later n. refl }

-- one part after another
abbrev pub done_more : (d0 d1 d2 : Option (List Act)) (s t u : Stage) (a b : List Report) → HasDone d0 d1 s t a → HasDone d1 d2 t u b
    → HasDone d0 d2 s u (a ++ b)
done_more d0 d1 d2 s t u a b h k = record {
  acts = h.acts ++ k.acts;
  is = listed_more d0 d1 d2 h.acts k.acts h.is k.is;
  numbers = ap length (sents_parts h.acts k.acts) ∙ length-append (sents h.acts) (sents k.acts) ∙ ap (λ m. m + length (sents k.acts)) h.numbers
      ∙ ap (λ m. length (numbers_of a) + m) k.numbers ∙ sym (ap length (numbers_parts a b) ∙ length-append (numbers_of a) (numbers_of b));
  next = λ more n. subst (IsNext s) (sym (append_assoc a b more)) (h.next (b ++ more) (k.next more n));
  order = λ more later n.
      ap (λ rs. acts_by (left_of s) rs (sents (h.acts ++ k.acts) ++ later)) (append_assoc a b more)
      ∙ ap (λ ds. acts_by (left_of s) (a ++ (b ++ more)) ds)
      (ap (λ ds. ds ++ later) (sents_parts h.acts k.acts) ∙ append_assoc (sents h.acts) (sents k.acts) later)
      ∙ h.order (b ++ more) (sents k.acts ++ later) (k.next more n)
      ∙ ap (λ xs. h.acts ++ xs) (k.order more later n)
      ∙ sym (append_assoc h.acts k.acts (acts_by (left_of u) more later));
}

-- and then the first of another one
abbrev pub done_front : (d0 d1 d2 : Option (List Act)) (s t : Stage) (a b : List Report) → HasDone d0 d1 s t a → HasDoneFront d1 d2 t b
    → HasDoneFront d0 d2 s (a ++ b)
done_front d0 d1 d2 s t a b h k = record {
  acts = h.acts ++ k.acts;
  is = listed_more d0 d1 d2 h.acts k.acts h.is k.is;
  next = λ more. subst (IsNext s) (sym (append_assoc a b more)) (h.next (b ++ more) (k.next more));
  order = λ more later.
      let q = k.order more later in
      record {
        rest = q.rest;
        split = ap (λ rs. acts_by (left_of s) rs (sents (h.acts ++ k.acts) ++ later)) (append_assoc a b more)
            ∙ ap (λ ds. acts_by (left_of s) (a ++ (b ++ more)) ds)
            (ap (λ ds. ds ++ later) (sents_parts h.acts k.acts) ∙ append_assoc (sents h.acts) (sents k.acts) later)
            ∙ h.order (b ++ more) (sents k.acts ++ later) (k.next more)
            ∙ ap (λ xs. h.acts ++ xs) q.split
            ∙ sym (append_assoc h.acts k.acts q.rest);
      };
}

-- ---- steps

-- a host had its turn
abbrev pub done_turn : (host : HostId) (told : List PlainEntry) (ds : List Datagram) (d0 d1 : Option (List Act)) → AllByRecursion IsOwn told
    → length ds ≡ length (numbers_of (map Tells told)) → d1 ≡ listed d0 (map Sent ds) → HasDone d0 d1 (Turns host) (Hears 64) (Turning host ∷ map Tells told)
done_turn host told ds d0 d1 own same is = record {
  acts = map Sent ds;
  is = is;
  numbers = ap length (sents_map ds) ∙ same;
  next = λ more n. refl;
  order = λ more later n. ap (λ xs. acts_by 64 (map Tells told ++ more) (xs ++ later)) (sents_map ds) ∙ own_sent 64 told ds own same more later;
}

-- a datagram came, and what it did went
abbrev pub done_came : (host : HostId) (a : Arrival) (n : ℕ) (told : List PlainEntry) (ds : List Datagram) (d0 d1 d2 : Option (List Act))
    → AllByRecursion IsOwn told
    → length ds ≡ length (numbers_of (map Tells told)) → d1 ≡ listed d0 (Received (record { host = host; got = Some a }) ∷ []) → d2 ≡ listed d1 (map Sent ds)
    → HasDone d0 d2 (Hears (suc n)) (Hears n) (Tells (PlainRecv host a.from a.bytes) ∷ map Tells told)
done_came host a n told ds d0 d1 d2 own same came is = record {
  acts = Received (record { host = host; got = Some a }) ∷ map Sent ds;
  is = listed_more d0 d1 d2 (Received (record { host = host; got = Some a }) ∷ []) (map Sent ds) came is;
  numbers = ap length (sents_map ds) ∙ same;
  next = λ more k. tt;
  order = λ more later k. ap (λ xs. Received (record { host = host; got = Some a }) ∷ xs)
      (ap (λ xs. acts_by n (map Tells told ++ more) (xs ++ later)) (sents_map ds) ∙ own_sent n told ds own same more later);
}

pub turn_next : (host : HostId) (n : ℕ) (more : List Report) (later : List Datagram) → IsNext (Turns host) more
    → acts_by (suc n) more later ≡ Received (record { host = host; got = None }) ∷ acts_by 0 more later
turn_next host n [] later k = absurd k
turn_next host n (Turning other ∷ more) later k = ap (λ h. Received (record { host = h; got = None }) ∷ acts_by 64 more later) (sym k)
turn_next host n (Tells entry ∷ more) later k = absurd k

-- nothing came: its turn is next
abbrev pub done_nothing : (host : HostId) (n : ℕ) (d0 d1 : Option (List Act)) → d1 ≡ listed d0 (Received (record { host = host; got = None }) ∷ [])
    → HasDone d0 d1 (Hears (suc n)) (Turns host) []
done_nothing host n d0 d1 is = record {
  acts = Received (record { host = host; got = None }) ∷ [];
  is = is;
  numbers = refl;
  next = λ more k. tt;
  order = λ more later k. turn_next host n more later k;
}

-- nothing more may come: its turn is next
pub done_all : (host : HostId) (d0 d1 : Option (List Act)) (s : Stage) (a : List Report) → HasDone d0 d1 s (Hears 0) a → HasDone d0 d1 s (Turns host) a
done_all host d0 d1 s a h = record {
  acts = h.acts;
  is = h.is;
  numbers = h.numbers;
  next = λ more k. h.next more tt;
  order = λ more later k. h.order more later tt;
}

-- a call was started
abbrev pub done_own : (n : ℕ) (told : List PlainEntry) (ds : List Datagram) (d0 d1 : Option (List Act)) → AllByRecursion IsOwn told
    → length ds ≡ length (numbers_of (map Tells told)) → d1 ≡ listed d0 (map Sent ds) → HasDone d0 d1 (Hears n) (Hears n) (map Tells told)
done_own n told ds d0 d1 own same is = record {
  acts = map Sent ds;
  is = is;
  numbers = ap length (sents_map ds) ∙ same;
  next = λ more k. tt;
  order = λ more later k. ap (λ xs. acts_by n (map Tells told ++ more) (xs ++ later)) (sents_map ds) ∙ own_sent n told ds own same more later;
}

-- ---- the first of a step

-- nothing of it was done
abbrev pub front_nothing : (n : ℕ) (a : List Report) (d0 d1 : Option (List Act)) → d1 ≡ d0 → HasDoneFront d0 d1 (Hears n) a
front_nothing n a d0 d1 is = record {
  acts = [];
  is = is ∙ listed_none d0;
  next = λ more. tt;
  order = λ more later. record { rest = acts_by n (a ++ more) later; split = refl };
}

-- a turn of which a front was sent
abbrev pub front_turn : (host : HostId) (told : List PlainEntry) (ds : List Datagram) (d0 d1 : Option (List Act)) → AllByRecursion IsOwn told
    → length ds ≤ length (numbers_of (map Tells told)) → d1 ≡ listed d0 (map Sent ds) → HasDoneFront d0 d1 (Turns host) (Turning host ∷ map Tells told)
front_turn host told ds d0 d1 own few is = record {
  acts = map Sent ds;
  is = is;
  next = λ more. refl;
  order = λ more later.
      subst (λ xs. BeginsWith (acts_by 64 (map Tells told ++ more) (xs ++ later)) (map Sent ds)) (sym (sents_map ds)) (own_front 64 told ds own few more later);
}

-- a datagram came, and a front was sent of what it did
abbrev pub front_came : (host : HostId) (a : Arrival) (n : ℕ) (told : List PlainEntry) (ds : List Datagram) (d0 d1 d2 : Option (List Act))
    → AllByRecursion IsOwn told
    → length ds ≤ length (numbers_of (map Tells told)) → d1 ≡ listed d0 (Received (record { host = host; got = Some a }) ∷ []) → d2 ≡ listed d1 (map Sent ds)
    → HasDoneFront d0 d2 (Hears (suc n)) (Tells (PlainRecv host a.from a.bytes) ∷ map Tells told)
front_came host a n told ds d0 d1 d2 own few came is = record {
  acts = Received (record { host = host; got = Some a }) ∷ map Sent ds;
  is = listed_more d0 d1 d2 (Received (record { host = host; got = Some a }) ∷ []) (map Sent ds) came is;
  next = λ more. tt;
  order = λ more later.
      let q = own_front n told ds own few more later in
      record {
        rest = q.rest;
        split = ap (λ xs. Received (record { host = host; got = Some a }) ∷ xs)
            (ap (λ xs. acts_by n (map Tells told ++ more) (xs ++ later)) (sents_map ds) ∙ q.split);
      };
}

-- a call of which a front was sent
abbrev pub front_own : (n : ℕ) (told : List PlainEntry) (ds : List Datagram) (d0 d1 : Option (List Act)) → AllByRecursion IsOwn told
    → length ds ≤ length (numbers_of (map Tells told)) → d1 ≡ listed d0 (map Sent ds) → HasDoneFront d0 d1 (Hears n) (map Tells told)
front_own n told ds d0 d1 own few is = record {
  acts = map Sent ds;
  is = is;
  next = λ more. tt;
  order = λ more later.
      subst (λ xs. BeginsWith (acts_by n (map Tells told ++ more) (xs ++ later)) (map Sent ds)) (sym (sents_map ds)) (own_front n told ds own few more later);
}

-- a front of what was sent is what was sent first
sent_front : (front rest : List Act) (ds : List Datagram) → front ++ rest ≡ map Sent ds → (front ≡ map Sent (sents front)) × (length (sents front) ≤ length ds)
sent_front [] rest ds e = (refl, omega (arith))
sent_front (x ∷ front) rest [] e = absurd cc
sent_front (x ∷ front) rest (d ∷ ds) e =
    let head : x ≡ Sent d = cc in
    let tail : front ++ rest ≡ map Sent ds = cc in
    let k = sent_front front rest ds tail in
    subst (λ y. (y ∷ front ≡ map Sent (sents (y ∷ front))) × (length (sents (y ∷ front)) ≤ length (d ∷ ds))) (sym head)
    (ap (λ xs. Sent d ∷ xs) k.0, omega (arith, k.1))

-- ---- what was told, and what was done meanwhile

-- within a step no datagram comes, and no turn begins
own_within : (e : PlainEntry) → IsOwn e → IsWithin (Tells e)
own_within (PlainRecv host from bytes) own = own
own_within e own = tt

all_within : (told : List PlainEntry) → AllByRecursion IsOwn told → AllByRecursion IsWithin (map Tells told)
all_within [] own = tt
all_within (e ∷ told) own = (own_within e own.0, all_within told own.1)

behind_all : (a b : List Report) → AllByRecursion IsWithin (a ++ b) → AllByRecursion IsWithin b
behind_all [] b all = all
behind_all (r ∷ a) b all = behind_all a b all.1

tail_within : (rs : List Report) → AllByRecursion IsWithin rs → AreOfOneStep rs
tail_within [] all = tt
tail_within (r ∷ rs) all = all.1

-- no datagram comes where what isn't told begins
within_held : (rs : List Report) (x y : ℕ) → AllByRecursion IsWithin rs → IsHeld rs x y
within_held [] x y all = tt
within_held (Turning host ∷ rs) x y all = absurd all.0
within_held (Tells e ∷ rs) x y all = by_entry e all.0
  where
    by_entry : (e : PlainEntry) → IsWithin (Tells e) → IsHeld (Tells e ∷ rs) x y
    by_entry (PlainRecv host from bytes) k = absurd k
    by_entry e k = tt

held_as : (rs : List Report) (x y x2 y2 : ℕ) → (y ≡ x → y2 ≡ x2) → IsHeld rs x y → IsHeld rs x2 y2
held_as [] x y x2 y2 f h = tt
held_as (Turning host ∷ rs) x y x2 y2 f h = tt
held_as (Tells e ∷ rs) x y x2 y2 f h = by_entry e h
  where
    by_entry : (e : PlainEntry) → IsHeld (Tells e ∷ rs) x y → IsHeld (Tells e ∷ rs) x2 y2
    by_entry (PlainRecv host from bytes) k = f k
    by_entry e k = tt

some_numbers : (a b : List Report) → length (numbers_of (a ++ take 1 b)) ≤ length (numbers_of (a ++ b))
some_numbers a b =
    let first : length (numbers_of (take 1 b)) ≤ length (numbers_of b) = firsts b in
    omega (
      arith,
      ap length (numbers_parts a (take 1 b)) ∙ length-append (numbers_of a) (numbers_of (take 1 b)),
      ap length (numbers_parts a b)
          ∙ length-append (numbers_of a) (numbers_of b),
      first,
    )
  where
    firsts : (b : List Report) → length (numbers_of (take 1 b)) ≤ length (numbers_of b)
    firsts [] = omega (arith)
    firsts (r ∷ rs) = omega (arith, ap length (numbers_parts (r ∷ []) rs) ∙ length-append (numbers_of (r ∷ [])) (numbers_of rs))

module _ (told : Notes → Report → List ℕ) (kept : Notes → Report → Notes) (strange : Notes → Report → Bool) where
  pub gone_none : (old : Option (List ℕ)) (n : Notes) (did : Option (List Act)) (st : Stage) → AreDone told kept strange old n old n did did st st []
  gone_none old n did st = record { told_all = told_none told kept strange old n; done = done_none did st }

  pub gone_more : (old mid new : Option (List ℕ)) (n m l : Notes) (d0 d1 d2 : Option (List Act)) (s t u : Stage) (a b : List Report)
      → AreDone told kept strange old n mid m d0 d1 s t a → AreDone told kept strange mid m new l d1 d2 t u b
      → AreDone told kept strange old n new l d0 d2 s u (a ++ b)
  gone_more old mid new n m l d0 d1 d2 s t u a b p q = record {
    told_all = told_more told kept strange old mid new n m l a b p.told_all q.told_all;
    done = done_more d0 d1 d2 s t u a b p.done q.done;
  }

  -- behind what was done, the first of further reports
  pub broken_more : (old mid new : Option (List ℕ)) (n m : Notes) (d0 d1 d2 : Option (List Act)) (s t : Stage) (a b : List Report)
      → AreDone told kept strange old n mid m d0 d1 s t a → AreBroken told kept strange mid m new d1 d2 t b
      → AreBroken told kept strange old n new d0 d2 s (a ++ b)
  broken_more old mid new n m d0 d1 d2 s t a b p q = record {
    front = front_more told kept strange old mid new n m a b p.told_all q.front;
    done = done_front d0 d1 d2 s t a b p.done q.done;
    one = q.one;
    held = held_as q.front.after (length (numbers_of q.front.before)) (length (sents q.done.acts)) (length (numbers_of (a ++ q.front.before)))
        (length (sents (p.done.acts ++ q.done.acts)))
        (λ e. both ∙ ap (λ k. k + length (sents q.done.acts)) p.done.numbers ∙ ap (λ k. length (numbers_of a) + k) e
        ∙ sym (ap length (numbers_parts a q.front.before) ∙ length-append (numbers_of a) (numbers_of q.front.before))) q.held;
    ahead = elim (q.ahead) [
      | inl l ↦ inl (omega (
        arith,
        both,
        p.done.numbers,
        l,
        ap length (append_assoc a q.front.before (take 1 q.front.after)
            ),
        ap length (ap numbers_of (append_assoc a q.front.before (take 1 q.front.after))),
        ap length (numbers_parts a (q.front.before ++ take 1 q.front.after)),
        length-append (numbers_of a) (numbers_of (q.front.before ++ take 1 q.front.after)),
      ))
      | inr l ↦ inr (
        omega (arith, both, p.done.numbers, l.0, ap length (numbers_parts a q.front.before), length-append (numbers_of a) (numbers_of q.front.before)),
        l.1 ∙ two_put old mid (appended mid (text_by told kept strange m q.front.before)) (text_by told kept strange n a)
            (text_by told kept strange m q.front.before) p.told_all.text refl
            ∙ ap (λ k. appended old (text_by told kept strange n a ++ text_by told kept strange k q.front.before)) p.told_all.noted
            ∙ ap (appended old) (sym (text_parts told kept strange n a q.front.before)),
      )
    ];
  } where
    both : length (sents (p.done.acts ++ q.done.acts)) ≡ length (sents p.done.acts) + length (sents q.done.acts)
    both = ap length (sents_parts p.done.acts q.done.acts) ∙ length-append (sents p.done.acts) (sents q.done.acts)

  -- a report that is strange
  pub halted_more : (old mid new : Option (List ℕ)) (n m : Notes) (d0 d1 d2 : Option (List Act)) (s t : Stage) (a b : List Report)
      → AreDone told kept strange old n mid m d0 d1 s t a → AreHalted told kept strange mid m new d1 d2 t b
      → AreHalted told kept strange old n new d0 d2 s (a ++ b)
  halted_more old mid new n m d0 d1 d2 s t a b p q = record {
    strange_one = strange_more told kept strange old mid new n m a b p.told_all q.strange_one;
    done = done_front d0 d1 d2 s t a b p.done q.done;
    numbers = ap length (sents_parts p.done.acts q.done.acts) ∙ length-append (sents p.done.acts) (sents q.done.acts)
        ∙ ap (λ k. k + length (sents q.done.acts)) p.done.numbers ∙ ap (λ k. length (numbers_of a) + k) q.numbers
        ∙ sym (ap length (numbers_parts a b) ∙ length-append (numbers_of a) (numbers_of b));
  }

  -- of these nothing was told
  pub rest_broken : (old : Option (List ℕ)) (n : Notes) (d0 d1 : Option (List Act)) (st : Stage) (rs : List Report) → AllByRecursion IsWithin rs
      → HasDoneFront d0 d1 st rs → AreBroken told kept strange old n old d0 d1 st rs
  rest_broken old n d0 d1 st [] all k = record
      { front = front_rest told kept strange old n []; done = k; one = tt; held = tt; ahead = inr (omega (arith), sym (appended-nil old)) }
  rest_broken old n d0 d1 st (r ∷ rs) all k = record {
    front = front_rest told kept strange old n (r ∷ rs);
    done = k;
    one = all.1;
    held = within_held (r ∷ rs) 0 (length (sents k.acts)) all;
    ahead = inr (omega (arith), sym (appended-nil old));
  }

  pub broken_none : (old : Option (List ℕ)) (n : Notes) (d0 d1 : Option (List Act)) (k : ℕ) → d1 ≡ d0 → AreBroken told kept strange old n old d0 d1 (Hears k) []
  broken_none old n d0 d1 k is = rest_broken old n d0 d1 (Hears k) [] tt (front_nothing k [] d0 d1 is)

  -- a step's entries, of which none was told, since a send failed
  pub broken_unsent : (old : Option (List ℕ)) (n : Notes) (d0 d1 : Option (List Act)) (k : ℕ) (own : List PlainEntry) (ds : List Datagram)
      → AllByRecursion IsOwn own → length ds ≡ length (numbers_of (map Tells own)) → ListedFront d0 d1 (map Sent ds)
      → AreBroken told kept strange old n old d0 d1 (Hears k) (map Tells own)
  broken_unsent old n d0 d1 k own ds all same f =
      let q = sent_front f.front f.rest ds f.split in
      rest_broken old n d0 d1 (Hears k) (map Tells own) (all_within own all)
      (front_own k own (sents f.front) d0 d1 all (omega (arith, q.1, same)) (f.is ∙ ap (listed d0) q.0))

  -- its frames were sent, and a front of its entries was told
  pub broken_untold : (old new : Option (List ℕ)) (n : Notes) (d0 d1 : Option (List Act)) (k : ℕ) (own : List PlainEntry) (ds : List Datagram)
      → AllByRecursion IsOwn own → length ds ≡ length (numbers_of (map Tells own)) → d1 ≡ listed d0 (map Sent ds)
      → AreFront told kept strange old n new (map Tells own) → AreBroken told kept strange old n new d0 d1 (Hears k) (map Tells own)
  broken_untold old new n d0 d1 k own ds all same is f = record {
    front = f;
    done = front_own k own ds d0 d1 all (omega (arith, same)) is;
    one = tail_within f.after (behind_all f.before f.after (subst (λ rs. AllByRecursion IsWithin rs) f.split (all_within own all)));
    held = within_held f.after (length (numbers_of f.before)) (length (sents (map Sent ds)))
        (behind_all f.before f.after (subst (λ rs. AllByRecursion IsWithin rs) f.split (all_within own all)));
    ahead = inl (omega (arith, some_numbers f.before f.after, ap length (ap numbers_of f.split), same, ap length (sents_map ds)));
  }

  -- they were sent and told
  pub gone_step : (old new : Option (List ℕ)) (n m : Notes) (d0 d1 : Option (List Act)) (k : ℕ) (own : List PlainEntry) (ds : List Datagram)
      → AllByRecursion IsOwn own → length ds ≡ length (numbers_of (map Tells own)) → d1 ≡ listed d0 (map Sent ds)
      → AreTold told kept strange old n new m (map Tells own) → AreDone told kept strange old n new m d0 d1 (Hears k) (Hears k) (map Tells own)
  gone_step old new n m d0 d1 k own ds all same is t = record { told_all = t; done = done_own k own ds d0 d1 all same is }

  -- ---- the clock stands

  pub gone_clock : (old new : Option (List ℕ)) (n m : Notes) (d0 d1 : Option (List Act)) (now : ℕ) (t : Bool) → d1 ≡ d0
      → AreTold told kept strange old n new m (if t then Tells (PlainClock now) ∷ [] else [])
      → AreDone told kept strange old n new m d0 d1 (Hears 64) (Hears 64) (if t then Tells (PlainClock now) ∷ [] else [])
  gone_clock old new n m d0 d1 now true same h = gone_step old new n m d0 d1 64 (PlainClock now ∷ []) [] (tt, tt) refl (same ∙ listed_none d0) h
  gone_clock old new n m d0 d1 now false same h = gone_step old new n m d0 d1 64 [] [] tt refl (same ∙ listed_none d0) h

  pub broken_clock : (old new : Option (List ℕ)) (n : Notes) (d0 d1 : Option (List Act)) (now : ℕ) (t : Bool) → d1 ≡ d0
      → AreFront told kept strange old n new (if t then Tells (PlainClock now) ∷ [] else [])
      → AreBroken told kept strange old n new d0 d1 (Hears 64) (if t then Tells (PlainClock now) ∷ [] else [])
  broken_clock old new n d0 d1 now true same f = broken_untold old new n d0 d1 64 (PlainClock now ∷ []) [] (tt, tt) refl (same ∙ listed_none d0) f
  broken_clock old new n d0 d1 now false same f = broken_untold old new n d0 d1 64 [] [] tt refl (same ∙ listed_none d0) f

  -- ---- a turn begins

  pub gone_turning : (old new : Option (List ℕ)) (n m : Notes) (did : Option (List Act)) (host : HostId)
      → AreTold told kept strange old n new m (Turning host ∷ []) → AreDone told kept strange old n new m did did (Turns host) (Hears 64) (Turning host ∷ [])
  gone_turning old new n m did host t = record { told_all = t; done = done_turn host [] [] did did tt refl (listed_none did) }

  pub broken_turning : (old new : Option (List ℕ)) (n : Notes) (did : Option (List Act)) (host : HostId) → TookFront old new (told n (Turning host))
      → AreBroken told kept strange old n new did did (Turns host) (Turning host ∷ [])
  broken_turning old new n did host f = record {
    front = front_first told kept strange old new n (Turning host) [] f;
    done = front_turn host [] [] did did tt (omega (arith)) (listed_none did);
    one = tt;
    held = tt;
    ahead = inl (omega (arith));
  }

  -- ---- a datagram comes

  pub gone_coming : (old new : Option (List ℕ)) (n m : Notes) (d0 d1 : Option (List Act)) (host : HostId) (a : Arrival) (m' k : ℕ) → m' ≡ suc k
      → d1 ≡ listed d0 (Received (record { host = host; got = Some a }) ∷ [])
      → AreTold told kept strange old n new m (Tells (PlainRecv host a.from a.bytes) ∷ [])
      → AreDone told kept strange old n new m d0 d1 (Hears m') (Hears k) (Tells (PlainRecv host a.from a.bytes) ∷ [])
  gone_coming old new n m d0 d1 host a m' k e came t =
      subst (λ j. AreDone told kept strange old n new m d0 d1 (Hears j) (Hears k) (Tells (PlainRecv host a.from a.bytes) ∷ [])) (sym e)
      (record { told_all = t; done = done_came host a k [] [] d0 d1 d1 tt refl came (listed_none d1) })

  pub broken_coming : (old new : Option (List ℕ)) (n : Notes) (d0 d1 : Option (List Act)) (host : HostId) (a : Arrival) (m' k : ℕ) → m' ≡ suc k
      → d1 ≡ listed d0 (Received (record { host = host; got = Some a }) ∷ []) → TookFront old new (told n (Tells (PlainRecv host a.from a.bytes)))
      → AreBroken told kept strange old n new d0 d1 (Hears m') (Tells (PlainRecv host a.from a.bytes) ∷ [])
  broken_coming old new n d0 d1 host a m' k e came f =
      subst (λ j. AreBroken told kept strange old n new d0 d1 (Hears j) (Tells (PlainRecv host a.from a.bytes) ∷ [])) (sym e) (record {
        front = front_first told kept strange old new n (Tells (PlainRecv host a.from a.bytes)) [] f;
        done = front_came host a k [] [] d0 d1 d1 tt (omega (arith)) came (listed_none d1);
        one = tt;
        held = refl;
        ahead = inl (omega (arith));
      })

  pub halted_coming : (old new : Option (List ℕ)) (n : Notes) (d0 d1 : Option (List Act)) (host : HostId) (a : Arrival) (m' k : ℕ) → m' ≡ suc k
      → d1 ≡ listed d0 (Received (record { host = host; got = Some a }) ∷ [])
      → AreStrange told kept strange old n new (Tells (PlainRecv host a.from a.bytes) ∷ [])
      → AreHalted told kept strange old n new d0 d1 (Hears m') (Tells (PlainRecv host a.from a.bytes) ∷ [])
  halted_coming old new n d0 d1 host a m' k e came h =
      subst (λ j. AreHalted told kept strange old n new d0 d1 (Hears j) (Tells (PlainRecv host a.from a.bytes) ∷ [])) (sym e) (record {
        strange_one = h;
        done = front_came host a k [] [] d0 d1 d1 tt (omega (arith)) came (listed_none d1);
        numbers = refl;
      })

  -- nothing comes
  pub gone_nothing : (old : Option (List ℕ)) (n : Notes) (d0 d1 : Option (List Act)) (host : HostId) (m k : ℕ) → m ≡ suc k
      → d1 ≡ listed d0 (Received (record { host = host; got = None }) ∷ []) → AreDone told kept strange old n old n d0 d1 (Hears m) (Turns host) []
  gone_nothing old n d0 d1 host m k e is =
      subst (λ j. AreDone told kept strange old n old n d0 d1 (Hears j) (Turns host) []) (sym e)
      (record { told_all = told_none told kept strange old n; done = done_nothing host k d0 d1 is })

  -- nothing more may come
  pub gone_all : (old new : Option (List ℕ)) (n m : Notes) (d0 d1 : Option (List Act)) (st : Stage) (host : HostId) (k : ℕ) (rs : List Report) → k ≡ 0
      → AreDone told kept strange old n new m d0 d1 st (Hears k) rs → AreDone told kept strange old n new m d0 d1 st (Turns host) rs
  gone_all old new n m d0 d1 st host k rs e h =
      let q = subst (λ j. AreDone told kept strange old n new m d0 d1 st (Hears j) rs) e h in
      record { told_all = q.told_all; done = done_all host d0 d1 st rs q.done }

-- what a receive gave, in other words
pub came_is : (d0 d1 : Option (List Act)) (host from : HostId) (g : Got) (y z : List ℕ) → g ≡ got.Frame from → y ≡ z
    → d1 ≡ added d0 (Received (receive_of host g z))
    → d1 ≡ listed d0 (Received (record { host = host; got = Some (record { from = from; bytes = y }) }) ∷ [])
came_is d0 d1 host from g y z is ey h =
    h ∙ ap (λ o. added d0 (Received (receive_of host o z))) is ∙ ap (λ q. added d0 (Received (receive_of host (got.Frame from) q))) (sym ey)
    ∙ added_is d0 (Received (record { host = host; got = Some (record { from = from; bytes = y }) }))

pub nothing_is : (d0 d1 : Option (List Act)) (host : HostId) (g : Got) (z : List ℕ) → ((from : HostId) → g ≢ got.Frame from)
    → d1 ≡ added d0 (Received (receive_of host g z)) → d1 ≡ listed d0 (Received (record { host = host; got = None }) ∷ [])
nothing_is d0 d1 host g z never h =
    h ∙ ap (λ r. added d0 (Received r)) (nothing_of host g z never) ∙ added_is d0 (Received (record { host = host; got = None }))
