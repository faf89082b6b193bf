-- Calls are read and started, one after the other.
use Rattle.std.proofs.Common.{◌≡◌, ◌≤◌, ℕ, true, Option, Some, List, [], ◌∷◌, ◌++◌, refl, sym, ap, ◌∙◌, subst, append_assoc}
use Rattle.std.proofs.lemmas.List.{append-nil}
use Rattle.homa_plain.specs.declared.settings.Settings.{Settings}
use Rattle.homa_plain.specs.declared.event.Event.TheVariants as event
use Rattle.homa_plain.specs.declared.fault.StartFault.{StartFault}
use Rattle.homa_plain.specs.declared.fault.LineFault.TheVariants.{World as ByWorld}
use Rattle.homa_plain.specs.declared.fault.WorldFault.TheVariants.{Start as CantStart}
use Rattle.homa_plain.specs.Entries.{PlainEntry}
use Rattle.homa_plain.specs.World.{World}
use Rattle.homa_plain.specs.Answers.{answering}
use Rattle.node_runs.specs.Script.{TimedCall, Calls, with_call}
use Rattle.node_runs.specs.Course.{Report, Datagram, Receive, End, RefusedAt, datagrams}
use Rattle.node_turns.specs.Acting.{node_at, IsRefused, HasActed, IsCut}
use Rattle.node_turns.specs.Told.{ListedFront}
use Rattle.node_turns.proofs.Lists.{listed_none, front_none, front_listed}
use Rattle.node_turns.proofs.Acted.{acted_none, acted_on}
use Rattle.node_turns.proofs.Cuts.{cut_on}
use Rattle.script_lines.specs.Read.{IsRead, IsCut as IsReadCut}
use Rattle.script_lines.proofs.ReadParts.{none_left, read_to, read_on, read_map}
use Rattle.homa_node.specs.Starting.{with_calls, starting}
use Rattle.homa_node.specs.Started.{stopping, HasStarted, HasEnded, HasCut}
use Rattle.homa_node.proofs.Starting.{acted_front, stops_at}
use Rattle.homa_node.proofs.CallCuts.{cut_uncalled}

-- some bytes more came, and then reading failed
pub read_cut : {A : Type 0} (bytes : List ℕ) (left left2 : Option (List ℕ)) (due now : List ℕ → A) → IsRead bytes left due now
    → ((rest : List ℕ) → left ≡ Some rest → IsReadCut rest left2)
    → (came : List ℕ) × IsRead bytes left2 due (λ more. now (came ++ more))
read_cut bytes left left2 due now d f =
    let e = f d.rest d.has_left in
    let none = λ (k : d.ended ≡ true). none_left e.came e.rest (sym e.split ∙ d.nothing k) in (
      e.came,
      record {
        came = d.came ++ e.came;
        rest = e.rest;
        split = d.split ∙ (ap (λ (xs : List ℕ). d.came ++ xs) e.split ∙ sym (append_assoc d.came e.came e.rest));
        has_left = e.has_left;
        ended = d.ended;
        nothing = λ k. (none k).1;
        same = λ more k. ap due (append_assoc d.came e.came more) ∙ d.same (e.came ++ more) (λ h. ap (λ (xs : List ℕ). xs ++ more) (none h).0 ∙ k h);
      },
    )

module _ (s : Settings) (stands : World → Type 0) (before : List PlainEntry → Type 0) (sent0 : Option (List Datagram))
    (gave0 : Option (List Receive)) (left0 : Option (List ℕ)) (due : List ℕ → Calls) where
  -- the next line was read
  pub started_none : (left1 : Option (List ℕ)) (tell : List Report → Type 0) (now : List ℕ → Calls) → tell []
      → ((bytes : List ℕ) → left0 ≡ Some bytes → IsRead bytes left1 due now)
      → HasStarted s stands before sent0 sent0 gave0 gave0 left0 left1 due stands before tell now
  started_none left1 tell now none read = record {
    done = [];
    acted = λ w st held. acted_none s (starting s held []) w stands before tell sent0 gave0 st none;
    read = read;
  }

  module _ (sent1 : Option (List Datagram)) (gave1 : Option (List Receive)) (left1 : Option (List ℕ)) (next1 : World → Type 0)
      (after1 : List PlainEntry → Type 0) (tell1 : List Report → Type 0) where
    -- nothing was known of the calls, or was known in other words
    pub started_as : (a b : List ℕ → Calls) → ((more : List ℕ) → a more ≡ b more)
        → HasStarted s stands before sent0 sent1 gave0 gave1 left0 left1 due next1 after1 tell1 a
        → HasStarted s stands before sent0 sent1 gave0 gave1 left0 left1 due next1 after1 tell1 b
    started_as a b e h = record {
      done = h.done;
      acted = h.acted;
      read = λ bytes k. read_to bytes left1 due (λ more. with_calls h.done (a more)) (λ more. with_calls h.done (b more)) (h.read bytes k)
          (λ more. ap (with_calls h.done) (e more));
    }

    -- and then a line was read
    pub started_looked : (left2 : Option (List ℕ)) (mid now : List ℕ → Calls)
        → HasStarted s stands before sent0 sent1 gave0 gave1 left0 left1 due next1 after1 tell1 mid
        → ((bytes : List ℕ) → left1 ≡ Some bytes → IsRead bytes left2 mid now)
        → HasStarted s stands before sent0 sent1 gave0 gave1 left0 left2 due next1 after1 tell1 now
    started_looked left2 mid now h f = record {
      done = h.done;
      acted = h.acted;
      read = λ bytes k. read_on bytes left1 left2 due (λ more. with_calls h.done (mid more)) (λ more. with_calls h.done (now more)) (h.read bytes k)
          (λ rest e. read_map rest left2 mid now (with_calls h.done) (f rest e));
    }

    -- the read failed
    pub started_cut : (left2 : Option (List ℕ)) (tell2 tell : List Report → Type 0) (mid : List ℕ → Calls)
        → HasStarted s stands before sent0 sent1 gave0 gave1 left0 left1 due next1 after1 tell1 mid
        → ((bytes : List ℕ) → left1 ≡ Some bytes → IsReadCut bytes left2) → tell2 [] → after1 [] → ((x y : List Report) → tell1 x → tell2 y → tell (x ++ y))
        → HasCut s stands before sent0 sent1 gave0 gave1 left0 left2 due tell
    started_cut left2 tell2 tell mid h f none allowed tells = record {
      done = h.done;
      cut = λ w st held.
          cut_on s (starting s held h.done) (starting s held []) w next1 before after1 tell1 tell2 tell (ListedFront sent1 sent1)
          (ListedFront sent0 sent1) sent0 sent1 gave0 gave1 gave1 (h.acted w st held)
          (λ v sv. cut_uncalled s held [] v after1 tell2 (ListedFront sent1 sent1) gave1 gave1 none (front_none sent1 sent1 refl) refl allowed) tells
          (λ x y p q. front_listed sent0 sent1 sent1 x y p q);
      read = λ bytes k.
          let r = read_cut bytes left1 left2 due (λ more. with_calls h.done (mid more)) (h.read bytes k) f in
          (λ more. mid (r.0 ++ more), r.1);
    }

    module _ (c : TimedCall) (now : List ℕ → Calls)
        (h : HasStarted s stands before sent0 sent1 gave0 gave1 left0 left1 due next1 after1 tell1 (λ more. with_call c (now more))) where
      -- the calls so far and this one
      pub read_one : (bytes : List ℕ) → left0 ≡ Some bytes → IsRead bytes left1 due (λ more. with_calls (h.done ++ c ∷ []) (now more))
      read_one bytes k =
          read_to bytes left1 due (λ more. with_calls h.done (with_call c (now more))) (λ more. with_calls (h.done ++ c ∷ []) (now more)) (h.read bytes k)
          (λ more. ap (λ cs. record (now more) { calls = cs }) (sym (append_assoc h.done (c ∷ []) (now more).calls)))

      -- the next call was started
      pub started_call : (t : Settings) → t ≡ s
          → (sent2 : Option (List Datagram)) (gave2 : Option (List Receive)) (next2 : World → Type 0) (after2 : List PlainEntry → Type 0)
          (tell2 tell : List Report → Type 0)
          → ((w : World) → next1 w → (held : Calls)
          → HasActed (starting t held (c ∷ [])) (starting t held []) t w next2 after1 after2 tell2 sent1 sent2 gave1 gave2)
          → ((x y : List Report) → tell1 x → tell2 y → tell (x ++ y)) → HasStarted s stands before sent0 sent2 gave0 gave2 left0 left1 due next2 after2 tell now
      started_call t e sent2 gave2 next2 after2 tell2 tell f tells = record {
        done = h.done ++ c ∷ [];
        acted = λ w st held.
            acted_on s (starting s held (h.done ++ c ∷ [])) (starting s held (c ∷ []))
            (starting s held []) w next1 next2 before after1 after2 tell1 tell2 tell sent0 sent1 sent2 gave0 gave1 gave2
            (acted_front s held h.done (c ∷ []) w next1 before after1 tell1 sent0 sent1 gave0 gave1 (h.acted w st held))
            (λ v sv. subst (λ q. HasActed (starting q held (c ∷ [])) (starting q held []) q v next2 after1 after2 tell2 sent1 sent2 gave1 gave2) e
            (f v sv held)) tells;
        read = read_one;
      }

      -- the hosts stopped at it
      pub call_cut : (t : Settings) → t ≡ s → (sent2 : Option (List Datagram)) (gave2 : Option (List Receive)) (tell2 tell : List Report → Type 0)
          → ((w : World) → next1 w → (held : Calls) → IsCut (starting t held (c ∷ [])) t w after1 tell2 (ListedFront sent1 sent2) gave1 gave2)
          → ((x y : List Report) → tell1 x → tell2 y → tell (x ++ y)) → HasCut s stands before sent0 sent2 gave0 gave2 left0 left1 due tell
      call_cut t e sent2 gave2 tell2 tell f tells = record {
        done = h.done ++ c ∷ [];
        cut = λ w st held.
            cut_on s (starting s held (h.done ++ c ∷ [])) (starting s held (c ∷ [])) w next1 before after1 tell1 tell2 tell (ListedFront sent1 sent2)
            (ListedFront sent0 sent2) sent0 sent1 gave0 gave1 gave2
            (acted_front s held h.done (c ∷ []) w next1 before after1 tell1 sent0 sent1 gave0 gave1 (h.acted w st held))
            (λ v sv. subst (λ q. IsCut (starting q held (c ∷ [])) q v after1 tell2 (ListedFront sent1 sent2) gave1 gave2) e (f v sv held)) tells
            (λ x y p q. front_listed sent0 sent1 sent2 x y p q);
        read = λ bytes k. (now, read_one bytes k);
      }

      -- it can't start
      pub call_ended : (t : Settings) → t ≡ s
          → (sent2 : Option (List Datagram)) (gave2 : Option (List Receive)) (tell2 tell : List Report → Type 0) (end : End)
          → ((w : World) → next1 w → (held : Calls)
          → HasActed (starting t held (c ∷ [])) (stopping held end) t w (λ v. Unit {0}) after1 (λ told. told ≡ []) tell2 sent1 sent2 gave1 gave2)
          → ((x y : List Report) → tell1 x → tell2 y → tell (x ++ y)) → HasEnded s stands before sent0 sent2 gave0 gave2 left0 left1 due tell end
      call_ended t e sent2 gave2 tell2 tell end f tells = record {
        done = h.done ++ c ∷ [];
        acted = λ w st held.
            acted_on s (starting s held (h.done ++ c ∷ [])) (starting s held (c ∷ [])) (stopping held end) w next1 (λ v. Unit {0}) before after1
            (λ told. told ≡ []) tell1 tell2 tell sent0 sent1 sent2 gave0 gave1 gave2
            (acted_front s held h.done (c ∷ []) w next1 before after1 tell1 sent0 sent1 gave0 gave1 (h.acted w st held))
            (λ v sv. subst (λ q. HasActed (starting q held (c ∷ [])) (stopping held end) q v (λ v. Unit {0}) after1
            (λ told. told ≡ []) tell2 sent1 sent2 gave1 gave2) e (f v sv held)) tells;
        read = λ bytes k. (now, read_one bytes k);
      }

module _ (s : Settings) where
  -- a call can't start
  pub ended_one : (held : Calls) (c : TimedCall) (w : World) (b : List PlainEntry → Type 0) (tell : List Report → Type 0) (sent : Option (List Datagram))
      (gave : Option (List Receive)) (fault : StartFault)
      → c.tick ≤ w.clock → IsRefused s w (event.Call c.client c.server c.service) c.bytes (CantStart fault) → tell [] → b []
      → HasActed (starting s held (c ∷ [])) (stopping held (RefusedAt c.line (ByWorld (CantStart fault)))) s w (λ v. Unit {0}) b
      (λ told. told ≡ []) tell sent sent gave gave
  ended_one held c w b tell sent gave fault due is none allowed = record {
    next = w;
    stood = tt;
    reports = [];
    sent = [];
    gave = [];
    told = none;
    took = listed_none sent;
    given = listed_none gave;
    received = tt;
    grown = sym (append-nil (datagrams s w));
    numbers = refl;
    allowed = λ more e. subst b (sym e) allowed;
    same = λ first later calls left held2.
        stops_at s held c w fault due is first later calls left held2
        ∙ ap (λ rs. stopping held (RefusedAt c.line (ByWorld (CantStart fault))) left (node_at (answering later w) rs calls held2)) (sym (append-nil first));
  }
