-- A generated run: there is a list of answers that the run itself shows and its boxes may give.
use Rattle.std.proofs.Common.{◌≡◌, ℕ, zero, suc, ◌+◌, ◌-◌, ◌≤◌, Bool, true, false, if◌then◌else◌, Option, Some, None, List, [], ◌∷◌, ◌++◌, length}
use Rattle.std.proofs.Common.{refl, sym, ap, subst, ◌∙◌, arith, append_assoc}
use Rattle.std.proofs.lemmas.List.{append-nil}
use Rattle.std.specs.Prelude.{◌==◌, nat_le, drop}
use Rattle.rand_pcg.specs.Lcg.{Lcg}
use Rattle.homa_plain.specs.declared.settings.Settings.{Settings}
use Rattle.homa_plain.specs.declared.event.Event.TheVariants as event
use Rattle.homa_plain.specs.Entries.{PlainEntry, PlainSettings}
use Rattle.homa_plain.specs.Rules.{Answer}
use Rattle.homa_plain.specs.Script.{Given, GivenEvent, GivenTicks, counting}
use Rattle.homa_plain.specs.World.{World, host_at}
use Rattle.homa_plain.specs.Replay.{carried, events_of}
use Rattle.homa_plain.specs.Answers.{answering, shown}
use Rattle.generated_runs.specs.Draws.{Traffic, next_traffic}
use Rattle.generated_runs.specs.Fabric.{Handed}
use Rattle.generated_runs.specs.Rounds.{Generated, first_generated, all_sent, with_line, host_round, hosts_round, most_handed, live_at, with_call}
use Rattle.generated_runs.specs.Rounds.{calls_round, calls_a_round, round_begun, next_round, is_over, rounds}
use Rattle.generated_runs.specs.Generated.{generated_settings, most_rounds, generated}
use Rattle.generated_runs.proofs.Going.{handed_to, behind_handed, by_number, host_step, host_none, hosts_step, hosts_none}
use Rattle.generated_runs.proofs.Going.{by_left, calls_step, calls_none, round_is, by_end, rounds_step, rounds_none}
use Rattle.box_laws.specs.Boxes.{Allows}
use Rattle.box_laws.specs.First.{AreAllowed}
use Rattle.answer_laws.specs.Exactly.{SomeGenerated}
use Rattle.answer_laws.proofs.Cases.{Stands}
use Rattle.answer_laws.proofs.Answering.{AnswersAlways}
use Rattle.answer_laws.proofs.Runs.{Rest, Goes, first_seats, first_spares, opened, first_world}
use Rattle.answer_laws.proofs.Existing.{HasSome, some_list}
use Rattle.answer_laws.proofs.Rounds.{answered, behind_line, drawn_call, IsBeside}

module _ {A : Type 0} (allows : Allows A) (always : AnswersAlways allows) (s : Settings) (patient : 1 ≤ s.resend) where
  -- What goes on with a run tells more behind what was told; there is a list of answers that this shows and the boxes allow.
  record Settles (go : Generated → Generated) : Type 0 where
    more : Generated → List PlainEntry
    tells : (g : Generated) → (go g).told ≡ g.told ++ more g
    some : (g : Generated) (seats : List (Option (A × ℕ))) (spares : List (A × ℕ)) → Stands g.world seats spares
        → HasSome allows seats spares (λ cs. more (answered cs g))

  -- the run is over
  settled_end : Settles (λ g. g)
  settled_end = record {
    more = λ g. [];
    tells = λ g. sym (append-nil g.told);
    some = λ g seats spares st. record { answers = []; goes = record { shows = refl; allowed = tt } };
  }

  -- the same under another name
  settled_as : (go other : Generated → Generated) → ((g : Generated) → other g ≡ go g) → Settles go → Settles other
  settled_as go other same k = record { more = k.more; tells = λ g. ap (λ (x : Generated). x.told) (same g) ∙ k.tells g; some = k.some }

  -- a change beside the answers
  settled_beside : (change go : Generated → Generated) → IsBeside change → Settles go → Settles (λ g. go (change g))
  settled_beside change go beside k = record {
    more = λ g. k.more (change g);
    tells = λ g. k.tells (change g) ∙ ap (λ l. l ++ k.more (change g)) (beside.told g);
    some = λ g seats spares st.
        let r = k.some (change g) seats spares (subst (λ (w : World). Stands w seats spares) (sym (beside.world g)) st) in
        record {
          answers = r.answers;
          goes = subst (λ (x : Generated). Goes allows seats spares r.answers (k.more x)) (sym (beside.same r.answers g)) r.goes;
        };
  }

  -- a choice that no answer makes another
  settled_by : {I : Type 0} (of : Generated → I) (go : I → Generated → Generated) → ((answers : List Answer) (g : Generated) → of (answered answers g) ≡ of g)
      → ((i : I) → Settles (go i)) → Settles (λ g. go (of g) g)
  settled_by {I} of go same k = record {
    more = λ g. (k (of g)).more g;
    tells = λ g. (k (of g)).tells g;
    some = λ g seats spares st.
        let r = (k (of g)).some g seats spares st in
        record {
          answers = r.answers;
          goes = subst (λ (i : I). Goes allows seats spares r.answers ((k i).more (answered r.answers g))) (sym (same r.answers g)) r.goes;
        };
  }

  -- a line, whose services answer
  settled_line : (line : Given) (go : Generated → Generated) → Settles go → Settles (λ g. go (with_line s line g))
  settled_line line go k = record {
    more = λ g. (carried s g.world (events_of s.hosts line)).told ++ k.more (with_line s line g);
    tells = λ g. k.tells (with_line s line g)
        ∙ append_assoc g.told (carried s g.world (events_of s.hosts line)).told (k.more (with_line s line g));
    some = λ g.
        let rest : Rest = λ w told. k.more (behind_line s line g w told) in
        some_list allows always s patient (events_of s.hosts line) rest (λ w seats spares told. k.some (behind_line s line g w told) seats spares) g.world;
  }

  -- ---- what a host is handed

  abbrev delivery : ℕ → Given
  delivery number = GivenEvent (event.Deliver number) []

  handed_beside : (to : ℕ) (h : Handed) → IsBeside (behind_handed to h)
  handed_beside to h = record { told = λ g. refl; world = λ g. refl; same = λ answers g. refl }

  abbrev handing : ℕ → ℕ → (Generated → Generated) → Handed → Generated → Generated
  handing n to go h g = go (by_number n s to (behind_handed to h g) h.number)

  settled_host : (n to : ℕ) (go : Generated → Generated) → Settles go → Settles (λ g. go (host_round n s to g))
  settled_host zero to go k = settled_as go (λ g. go (host_round zero s to g)) (λ g. ap go (host_none s to g)) k
  settled_host (suc n) to go k =
      settled_as (λ g. handing n to go (handed_to s to g) g) (λ g. go (host_round (suc n) s to g)) (λ g. ap go (host_step n s to g))
      (settled_by (handed_to s to) (handing n to go) (λ answers g. refl) (λ h. by_handed h h.number (settled_host n to go k))) where
        by_handed : (h : Handed) (o : Option ℕ) → Settles (λ g. go (host_round n s to g)) → Settles (λ g. go (by_number n s to (behind_handed to h g) o))
        by_handed h None rest = settled_beside (behind_handed to h) go (handed_beside to h) k
        by_handed h (Some number) rest =
            settled_beside (behind_handed to h) (λ g. go (host_round n s to (with_line s (delivery number) g))) (handed_beside to h)
            (settled_line (delivery number) (λ g. go (host_round n s to g)) rest)

  settled_hosts : (n to : ℕ) (go : Generated → Generated) → Settles go → Settles (λ g. go (hosts_round s to n g))
  settled_hosts zero to go k = settled_as go (λ g. go (hosts_round s to zero g)) (λ g. ap go (hosts_none s to g)) k
  settled_hosts (suc n) to go k =
      settled_as (λ g. go (hosts_round s (suc to) n (host_round most_handed s to g))) (λ g. go (hosts_round s to (suc n) g)) (λ g. ap go (hosts_step s to n g))
      (settled_host most_handed to (λ g. go (hosts_round s (suc to) n g)) (settled_hosts n (suc to) go k))

  -- ---- the calls that are drawn

  abbrev call_line : Traffic → Given
  call_line t = GivenEvent (event.Call t.client t.server t.service) (counting 0 t.size)

  call_beside : (t : Traffic × Lcg) → IsBeside (drawn_call t)
  call_beside t = record { told = λ g. refl; world = λ g. refl; same = λ answers g. refl }

  abbrev calling : (Generated → Generated) → Traffic × Lcg → Generated → Generated
  calling go t g = go (with_call s t.0 (record g { fabric = record g.fabric { random = t.1 } }))

  abbrev by_full : Traffic × Lcg → (Generated → Generated) → Bool → Generated → Generated
  by_full t go full g = go (if full then drawn_call t g else with_line s (call_line t.0) (drawn_call t g))

  settled_call : (t : Traffic × Lcg) (go : Generated → Generated) → Settles go → Settles (calling go t)
  settled_call t go k = settled_by (λ g. nat_le s.calls (live_at (host_at g.world t.0.client))) (by_full t go) (λ answers g. refl) settled where
    settled : (full : Bool) → Settles (by_full t go full)
    settled true = settled_beside (drawn_call t) go (call_beside t) k
    settled false = settled_beside (drawn_call t) (λ g. go (with_line s (call_line t.0) g)) (call_beside t) (settled_line (call_line t.0) go k)

  settled_calls : (n : ℕ) (go : Generated → Generated) → Settles go → Settles (λ g. go (calls_round n s g))
  settled_calls zero go k = settled_as go (λ g. go (calls_round zero s g)) (λ g. ap go (calls_none s g)) k
  settled_calls (suc n) go k =
      settled_as (λ g. go (by_left n s g (g.left == 0))) (λ g. go (calls_round (suc n) s g)) (λ g. ap go (calls_step n s g))
      (settled_by (λ g. g.left == 0) (λ none g. go (by_left n s g none)) (λ answers g. refl) (by_none (settled_calls n go k))) where
        by_none : Settles (λ g. go (calls_round n s g)) → (none : Bool) → Settles (λ g. go (by_left n s g none))
        by_none rest true = k
        by_none rest false =
            settled_by (λ g. next_traffic s.hosts g.fabric.random) (calling (λ g. go (calls_round n s g))) (λ answers g. refl)
            (λ t. settled_call t (λ g. go (calls_round n s g)) rest)

  -- ---- rounds

  begun_beside : IsBeside round_begun
  begun_beside = record { told = λ g. refl; world = λ g. refl; same = λ answers g. refl }

  settled_round : (go : Generated → Generated) → Settles go → Settles (λ g. go (next_round s g))
  settled_round go k =
      let calls : Generated → Generated = λ g. go (calls_round calls_a_round s g) in
      let hosts : Generated → Generated = λ g. calls (hosts_round s 0 s.hosts g) in
      settled_as (λ g. hosts (round_begun (with_line s (GivenTicks 1) g))) (λ g. go (next_round s g)) (λ g. ap go (round_is s g))
      (settled_line (GivenTicks 1) (λ g. hosts (round_begun g))
      (settled_beside round_begun hosts begun_beside (settled_hosts s.hosts 0 calls (settled_calls calls_a_round go k))))

  abbrev ending : ℕ → Generated → Generated
  ending n g = by_end n s g (is_over g)

  settled_rounds : (n : ℕ) → Settles (rounds n s)
  settled_rounds zero = settled_as (λ g. g) (rounds zero s) (λ g. rounds_none s g) settled_end
  settled_rounds (suc n) =
      settled_as (λ g. ending n (next_round s g)) (rounds (suc n) s) (λ g. rounds_step n s g)
      (settled_round (ending n) (settled_by is_over (λ over g. by_end n s g over) (λ answers g. refl) (by_over (settled_rounds n)))) where
        by_over : Settles (rounds n s) → (over : Bool) → Settles (λ g. by_end n s g over)
        by_over rest true = settled_end
        by_over rest false = rest

-- ---- a whole run

module _ {A : Type 0} (served : A → ℕ) (allows : Allows A) (always : AnswersAlways allows) (boxes : List A) (enough : 32 ≤ length boxes)
    (seed calls : ℕ) where
  abbrev s : Settings
  s = generated_settings

  abbrev first : Generated
  first = first_generated s seed calls (length boxes) []

  patient : 1 ≤ s.resend
  patient = omega arith

  settled : Settles allows always s patient (rounds most_rounds s)
  settled = settled_rounds allows always s patient most_rounds

  told : (answers : List Answer) → (generated seed calls (length boxes) answers).told ≡ settled.more (answered answers first)
  told answers =
      ap (λ (w : World). (rounds most_rounds s (record first { world = w })).told) (first_world s (length boxes) answers)
      ∙ settled.tells (answered answers first)

  pub some_run : SomeGenerated served allows boxes seed calls
  some_run =
      let r = settled.some first (first_seats served s boxes enough) (first_spares served s boxes enough) (opened served s boxes enough) in
      record {
        answers = r.answers;
        are = (
          ap shown (told r.answers) ∙ r.goes.shows,
          subst (λ (l : List PlainEntry). AreAllowed served allows boxes (PlainSettings s ∷ l)) (sym (told r.answers)) r.goes.allowed,
        );
      }
