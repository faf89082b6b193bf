-- What stays the same of a node's source, net and observer over the parts of its run.
use Rattle.std.proofs.Common.{◌≡◌, ℕ, Bool, Result, Ok, Err, refl, ap, ◌∙◌, subst, arith}
use Rattle.homa_io.specs.Outside.{HasRisen}
use Rattle.homa_plain.specs.declared.id.HostId.{HostId}
use Rattle.node_io.specs.declared.observer.SeenFault.{SeenFault}
use Rattle.node_io.specs.declared.observer.SeenFault.TheVariants.{Write, Stranger, NoMemory as NoRoom}
use Rattle.node_io.specs.Observer.{OnWrite, UnlessWrite}
use Rattle.node_turns.specs.declared.stop.NodeStop.{NodeStop}
use Rattle.node_turns.specs.declared.stop.NodeStop.TheVariants.{Script, Start, Host, Read, Net, Seen, Stalled, NoMemory}
use Rattle.node_turns.specs.Seen.{seen_stop}
use Rattle.node_turns.specs.Faults.{Counts, counts, AreFaults}
use Rattle.node_turns.specs.Same.{IsSameOutside}
use Rattle.homa_node.specs.Ends.{AreSameEnds}

-- counts are the same where each is
same_counts : (a b : Counts) → a.source ≡ b.source → a.net ≡ b.net → a.sink ≡ b.sink → a ≡ b
same_counts a b p q r = ap (λ x. counts x a.net a.sink) p ∙ ap (λ x. counts b.source x a.sink) q ∙ ap (λ x. counts b.source b.net x) r

-- a count rose in other counts, or it stayed the same in them, where it did so in these
record IsShown (a b c d : ℕ) : Type 0 where
  rises : HasRisen a b → HasRisen c d
  stays : b ≡ a → d ≡ c

itself : (a b : ℕ) → IsShown a b a b
itself a b = record { rises = λ h. h; stays = λ h. h }

-- no count rises from 0 to 0
untouched : (a : ℕ) → IsShown 0 0 a a
untouched a = record { rises = λ h. absurd (omega (arith, h)); stays = λ _. refl }

-- why a node stopped, told of other counts
stop_faults : (A B : Type 0) (a b c d : Counts) (stop : NodeStop) → IsShown a.source b.source c.source d.source → IsShown a.net b.net c.net d.net
    → IsShown a.sink b.sink c.sink d.sink → AreFaults {A = A} a b (Err stop) → AreFaults {A = B} c d (Err stop)
stop_faults A B a b c d Read p q r h = (p.rises h.0, q.stays h.1, r.stays h.2)
stop_faults A B a b c d Net p q r h = (q.rises h.0, p.stays h.1, r.stays h.2)
stop_faults A B a b c d (Seen (Write why)) p q r h = (r.rises h.0, p.stays h.1, q.stays h.2)
stop_faults A B a b c d (Seen Stranger) p q r h = same_counts d c (p.stays (ap (λ k. k.source) h)) (q.stays (ap (λ k. k.net) h)) (r.stays (ap (λ k. k.sink) h))
stop_faults A B a b c d (Seen NoRoom) p q r h = same_counts d c (p.stays (ap (λ k. k.source) h)) (q.stays (ap (λ k. k.net) h)) (r.stays (ap (λ k. k.sink) h))
stop_faults A B a b c d (Script line why) p q r h =
    same_counts d c (p.stays (ap (λ k. k.source) h)) (q.stays (ap (λ k. k.net) h)) (r.stays (ap (λ k. k.sink) h))
stop_faults A B a b c d (Start line why) p q r h = same_counts d c (p.stays (ap (λ k. k.source) h)) (q.stays (ap (λ k. k.net) h)) (r.stays (ap (λ k. k.sink) h))
stop_faults A B a b c d (Host line) p q r h = same_counts d c (p.stays (ap (λ k. k.source) h)) (q.stays (ap (λ k. k.net) h)) (r.stays (ap (λ k. k.sink) h))
stop_faults A B a b c d (Stalled n now) p q r h = same_counts d c (p.stays (ap (λ k. k.source) h)) (q.stays (ap (λ k. k.net) h)) (r.stays (ap (λ k. k.sink) h))
stop_faults A B a b c d NoMemory p q r h = same_counts d c (p.stays (ap (λ k. k.source) h)) (q.stays (ap (λ k. k.net) h)) (r.stays (ap (λ k. k.sink) h))

module _ {S N O : Type 0} (unread : S → ℕ) (lost : N → ℕ) (failed : O → ℕ) (is_source : S → S → Type 0) (is_observer : O → O → Type 0) where
  -- a stop that is handed on
  pub ends_as : {A B : Type 0} (s0 s1 : S) (n0 n1 : N) (o0 o1 : O) (stop : NodeStop)
      → AreSameEnds {A = A} unread lost failed is_source is_observer s0 s1 n0 n1 o0 o1 (Err stop)
      → AreSameEnds {A = B} unread lost failed is_source is_observer s0 s1 n0 n1 o0 o1 (Err stop)
  ends_as {A = A} {B = B} s0 s1 n0 n1 o0 o1 stop h = record {
    faults = stop_faults A B (counts (unread s0) (lost n0) (failed o0)) (counts (unread s1) (lost n1) (failed o1))
        (counts (unread s0) (lost n0) (failed o0)) (counts (unread s1) (lost n1) (failed o1)) stop
        (itself (unread s0) (unread s1)) (itself (lost n0) (lost n1)) (itself (failed o0) (failed o1)) h.faults;
    same_source = h.same_source;
    same_observer = h.same_observer;
  }

  -- all loop turns were done
  pub ends_stalled : {A : Type 0} (s0 s1 : S) (n0 n1 : N) (o0 o1 : O) (turns now : ℕ)
      → AreSameEnds {A = Unit {0}} unread lost failed is_source is_observer s0 s1 n0 n1 o0 o1 (Ok tt)
      → AreSameEnds {A = A} unread lost failed is_source is_observer s0 s1 n0 n1 o0 o1 (Err (Stalled turns now))
  ends_stalled s0 s1 n0 n1 o0 o1 turns now h = record { faults = h.faults; same_source = h.same_source; same_observer = h.same_observer }

  -- it went well, with another answer
  pub ends_ok : {A B : Type 0} (s0 s1 : S) (n0 n1 : N) (o0 o1 : O) (x : A) (y : B)
      → AreSameEnds {A = A} unread lost failed is_source is_observer s0 s1 n0 n1 o0 o1 (Ok x)
      → AreSameEnds {A = B} unread lost failed is_source is_observer s0 s1 n0 n1 o0 o1 (Ok y)
  ends_ok s0 s1 n0 n1 o0 o1 x y h = record { faults = h.faults; same_source = h.same_source; same_observer = h.same_observer }

  module _ (self_source : (s : S) → is_source s s) (on_source : (a b c : S) → is_source a b → is_source b c → is_source a c)
      (self_observer : (o : O) → is_observer o o) (on_observer : (a b c : O) → is_observer a b → is_observer b c → is_observer a c) where
    -- there was no memory
    pub ends_memory : {A : Type 0} (s : S) (n : N) (o : O) → AreSameEnds {A = A} unread lost failed is_source is_observer s s n n o o (Err NoMemory)
    ends_memory s n o = record { faults = refl; same_source = self_source s; same_observer = self_observer o }

    -- the net did something, and the observer took reports
    pub ends_went : {A : Type 0} (s : S) (n m : N) (o p : O) (x : A) → lost m ≡ lost n → failed p ≡ failed o → is_observer o p
        → AreSameEnds {A = A} unread lost failed is_source is_observer s s n m o p (Ok x)
    ends_went s n m o p x q r same = record { faults = same_counts _ _ refl q r; same_source = self_source s; same_observer = same }

    -- the net failed
    pub ends_lost : {A : Type 0} (s : S) (n m : N) (o : O) → HasRisen (lost n) (lost m)
        → AreSameEnds {A = A} unread lost failed is_source is_observer s s n m o o (Err Net)
    ends_lost s n m o risen = record { faults = (risen, refl, refl); same_source = self_source s; same_observer = self_observer o }

    -- the net did something, and the observer didn't take a report
    pub ends_untold : {A : Type 0} (s : S) (n m : N) (o p : O) (f : SeenFault) → lost m ≡ lost n → OnWrite (Err f) (HasRisen (failed o) (failed p))
        → UnlessWrite (Err f) (failed p ≡ failed o) → is_observer o p
        → AreSameEnds {A = A} unread lost failed is_source is_observer s s n m o p (Err (seen_stop f))
    ends_untold s n m o p (Write why) q risen quiet same = record { faults = (risen, refl, q); same_source = self_source s; same_observer = same }
    ends_untold s n m o p Stranger q risen quiet same = record
        { faults = same_counts _ _ refl q quiet; same_source = self_source s; same_observer = same }
    ends_untold s n m o p NoRoom q risen quiet same = record
        { faults = same_counts _ _ refl q quiet; same_source = self_source s; same_observer = same }

    -- the source was read
    pub ends_read : {A : Type 0} (s0 s1 : S) (n : N) (o : O) (x : A) → counts (unread s1) 0 0 ≡ counts (unread s0) 0 0 → is_source s0 s1
        → AreSameEnds {A = A} unread lost failed is_source is_observer s0 s1 n n o o (Ok x)
    ends_read s0 s1 n o x h same = record
        { faults = ap (λ k. counts k.source (lost n) (failed o)) h; same_source = same; same_observer = self_observer o }

    pub ends_unread : (A : Type 0) {B : Type 0} (s0 s1 : S) (n : N) (o : O) (stop : NodeStop)
        → AreFaults {A = A} (counts (unread s0) 0 0) (counts (unread s1) 0 0) (Err stop) → is_source s0 s1
        → AreSameEnds {A = B} unread lost failed is_source is_observer s0 s1 n n o o (Err stop)
    ends_unread A {B = B} s0 s1 n o stop h same = record {
      faults =
          stop_faults A B (counts (unread s0) 0 0) (counts (unread s1) 0 0) (counts (unread s0) (lost n) (failed o)) (counts (unread s1) (lost n) (failed o))
          stop (itself (unread s0) (unread s1)) (untouched (lost n)) (untouched (failed o)) h;
      same_source = same;
      same_observer = self_observer o;
    }

    -- the clock was told, or it wasn't
    pub ends_clock : {A : Type 0} (s : S) (n : N) (o p : O) (x : A) → counts 0 0 (failed p) ≡ counts 0 0 (failed o) → is_observer o p
        → AreSameEnds {A = A} unread lost failed is_source is_observer s s n n o p (Ok x)
    ends_clock s n o p x h same = record
        { faults = ap (λ k. counts (unread s) (lost n) k.sink) h; same_source = self_source s; same_observer = same }

    pub ends_no_clock : (A : Type 0) {B : Type 0} (s : S) (n : N) (o p : O) (stop : NodeStop)
        → AreFaults {A = A} (counts 0 0 (failed o)) (counts 0 0 (failed p)) (Err stop) → is_observer o p
        → AreSameEnds {A = B} unread lost failed is_source is_observer s s n n o p (Err stop)
    ends_no_clock A {B = B} s n o p stop h same = record {
      faults = stop_faults A B (counts 0 0 (failed o)) (counts 0 0 (failed p)) (counts (unread s) (lost n) (failed o)) (counts (unread s) (lost n) (failed p))
          stop (untouched (unread s)) (untouched (lost n)) (itself (failed o) (failed p)) h;
      same_source = self_source s;
      same_observer = same;
    }

    -- hosts acted, or they stopped
    pub ends_acted : {A : Type 0} (knows : N → HostId → Bool) (s : S) (n m : N) (o p : O) (x : A)
        → IsSameOutside {A = Unit {0}} knows lost failed is_observer n m o p (Ok tt)
        → AreSameEnds {A = A} unread lost failed is_source is_observer s s n m o p (Ok x)
    ends_acted knows s n m o p x h = record
        { faults = ap (λ k. counts (unread s) k.net k.sink) h.faults; same_source = self_source s; same_observer = h.same }

    pub ends_unacted : {A B : Type 0} (knows : N → HostId → Bool) (s : S) (n m : N) (o p : O) (stop : NodeStop)
        → IsSameOutside {A = A} knows lost failed is_observer n m o p (Err stop)
        → AreSameEnds {A = B} unread lost failed is_source is_observer s s n m o p (Err stop)
    ends_unacted {A = A} {B = B} knows s n m o p stop h = record {
      faults = stop_faults A B (counts 0 (lost n) (failed o)) (counts 0 (lost m) (failed p))
          (counts (unread s) (lost n) (failed o)) (counts (unread s) (lost m) (failed p)) stop
          (untouched (unread s)) (itself (lost n) (lost m)) (itself (failed o) (failed p)) h.faults;
      same_source = self_source s;
      same_observer = h.same;
    }

    -- one part went well, and then came another one
    pub ends_on : {A : Type 0} (s0 s1 s2 : S) (n0 n1 n2 : N) (o0 o1 o2 : O) (r : Result A NodeStop)
        → AreSameEnds {A = Unit {0}} unread lost failed is_source is_observer s0 s1 n0 n1 o0 o1 (Ok tt)
        → AreSameEnds unread lost failed is_source is_observer s1 s2 n1 n2 o1 o2 r
        → AreSameEnds unread lost failed is_source is_observer s0 s2 n0 n2 o0 o2 r
    ends_on s0 s1 s2 n0 n1 n2 o0 o1 o2 r h k = record {
      faults = subst (λ c. AreFaults c (counts (unread s2) (lost n2) (failed o2)) r) h.faults k.faults;
      same_source = on_source s0 s1 s2 h.same_source k.same_source;
      same_observer = on_observer o0 o1 o2 h.same_observer k.same_observer;
    }
