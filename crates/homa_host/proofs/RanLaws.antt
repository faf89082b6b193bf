-- What comes of a rule at a call's server asks the service only where the rule says so, and hands up no message but that one.
use Rattle.std.proofs.Common.{◌≡◌, ℕ, suc, ◌==◌, true, false, List, [], ◌∷◌, ◌++◌, refl, sym, subst, ◌∙◌, Option, Some, None}
use Rattle.std.specs.List.{AllByRecursion}
use Rattle.std.proofs.lemmas.Bool.{cond_both}
use Rattle.homa_plain.specs.declared.id.CallId.{CallId}
use Rattle.homa_plain.specs.declared.id.HostId.{HostId}
use Rattle.homa_plain.specs.declared.packet.Role.{Role}
use Rattle.homa_plain.specs.declared.packet.Role.TheVariants.{Server}
use Rattle.homa_plain.specs.declared.packet.Body.{Body}
use Rattle.homa_plain.specs.declared.packet.Body.TheVariants as body
use Rattle.homa_plain.specs.declared.settings.Settings.{Settings}
use Rattle.homa_plain.specs.Host.{Host, Told, Says, Sends, Tuning, Tuned, tuned, counted, rebalanced, is_balance_due, peer_cutoffs}
use Rattle.homa_plain.specs.Entries.{PlainEntry, PlainRun, PlainDone, PlainSettings, PlainCall, PlainDeliver, PlainClock, PlainRestart, PlainInject}
use Rattle.homa_plain.specs.Entries.{PlainShift, PlainJunk, PlainStale, PlainSend, PlainFail, PlainDrop, PlainGaps, PlainBury, PlainFree}
use Rattle.homa_plain.specs.Entries.{PlainFullRows, PlainFullPages, PlainBalance, PlainRecv, PlainFinished, PlainRefused, PlainStalled}
use Rattle.homa_plain.specs.Rows.{ServerRow, set_row}
use Rattle.homa_plain.specs.Rules.{Answer, Say, Tells, Posts, Did}
use Rattle.homa_plain.specs.Work.{Work, posts, said}
use Rattle.homa_plain.specs.CutoffsPackets.{notes, tells_cutoffs, is_newer, hears_cutoffs}
use Rattle.homa_plain.specs.Steps.{served, has_run}
use Rattle.step_laws.proofs.Places.{all-append}
use Rattle.host_view.specs.declared.mark.Mark.{Mark}
use Rattle.host_view.specs.Marks.{mark_of, marks_from, has_ran, response_of, IsReply, IsAllowed, IsWhole}

-- neither a service was asked nor a message was handed up
abbrev pub IsQuietEntry : PlainEntry → Type 0
IsQuietEntry (PlainRun host id service request response hold) = ⊥
IsQuietEntry (PlainDone id bytes) = ⊥
IsQuietEntry entry = Unit {0}

abbrev pub IsQuietTold : Told → Type 0
IsQuietTold (Says entry) = IsQuietEntry entry
IsQuietTold (Sends packet) = Unit {0}

abbrev pub AreQuiet : List Told → Type 0
AreQuiet told = AllByRecursion IsQuietTold told

-- what a rule says is quiet
abbrev pub IsQuiet : List Say → Type 0
IsQuiet [] = Unit {0}
IsQuiet (Tells entry ∷ says) = IsQuietEntry entry × IsQuiet says
IsQuiet (Posts what ∷ says) = IsQuiet says

-- what is so where no service was asked
pub record Quiet (told : List Told) : Type 1 where
  pub ran : has_ran (marks_from 0 told) ≡ false
  pub has : has_run told ≡ false
  pub reply : (a : Answer) (g : Host) → AllByRecursion (IsReply g a) (marks_from 0 told)
  pub allowed : (g : Host) (allows : ℕ → List ℕ → List ℕ → ℕ → Type 0) (whole : List ℕ) → AllByRecursion (IsAllowed g allows whole) (marks_from 0 told)
  pub whole : (scratch : List ℕ) → AllByRecursion (IsWhole scratch) told

-- and where one was, for this call
pub record Ran (id : CallId) (service : ℕ) (request : List ℕ) (hold : ℕ) (told : List Told) : Type 1 where
  pub ran : has_ran (marks_from 0 told) ≡ true
  pub has : has_run told ≡ true
  pub is_reply : (a : Answer) (g : Host) → AllByRecursion (IsReply g a) (marks_from 0 told) → a ≡ record { bytes = response_of g id; hold = hold }
  pub reply : (a : Answer) (g : Host) → a ≡ record { bytes = response_of g id; hold = hold } → AllByRecursion (IsReply g a) (marks_from 0 told)
  pub allowed : (g : Host) (allows : ℕ → List ℕ → List ℕ → ℕ → Type 0) (whole : List ℕ) → allows service whole (response_of g id) hold
      → AllByRecursion (IsAllowed g allows whole) (marks_from 0 told)
  pub whole : (scratch : List ℕ) → request ≡ scratch → AllByRecursion (IsWhole scratch) told

-- ---- one entry

record PlainOne (entry : PlainEntry) : Type 1 where
  ran : (marks : List Mark) → has_ran (mark_of entry ∷ marks) ≡ has_ran marks
  has : (told : List Told) → has_run (Says entry ∷ told) ≡ has_run told
  reply : (a : Answer) (g : Host) → IsReply g a (mark_of entry)
  allowed : (g : Host) (allows : ℕ → List ℕ → List ℕ → ℕ → Type 0) (whole : List ℕ) → IsAllowed g allows whole (mark_of entry)
  whole : (scratch : List ℕ) → IsWhole scratch (Says entry)

plain-entry : (entry : PlainEntry) → IsQuietEntry entry → PlainOne entry
plain-entry (PlainSettings settings) q =
    record { ran = λ marks. refl; has = λ told. refl; reply = λ a g. tt; allowed = λ g allows whole. tt; whole = λ scratch. tt }
plain-entry (PlainCall id server service bytes) q =
    record { ran = λ marks. refl; has = λ told. refl; reply = λ a g. tt; allowed = λ g allows whole. tt; whole = λ scratch. tt }
plain-entry (PlainDeliver packet) q =
    record { ran = λ marks. refl; has = λ told. refl; reply = λ a g. tt; allowed = λ g allows whole. tt; whole = λ scratch. tt }
plain-entry (PlainClock tick) q = record { ran = λ marks. refl; has = λ told. refl; reply = λ a g. tt; allowed = λ g allows whole. tt; whole = λ scratch. tt }
plain-entry (PlainRestart host inc) q =
    record { ran = λ marks. refl; has = λ told. refl; reply = λ a g. tt; allowed = λ g allows whole. tt; whole = λ scratch. tt }
plain-entry (PlainInject host bytes) q =
    record { ran = λ marks. refl; has = λ told. refl; reply = λ a g. tt; allowed = λ g allows whole. tt; whole = λ scratch. tt }
plain-entry (PlainShift host n) q = record { ran = λ marks. refl; has = λ told. refl; reply = λ a g. tt; allowed = λ g allows whole. tt; whole = λ scratch. tt }
plain-entry (PlainJunk host) q = record { ran = λ marks. refl; has = λ told. refl; reply = λ a g. tt; allowed = λ g allows whole. tt; whole = λ scratch. tt }
plain-entry (PlainStale host at now) q =
    record { ran = λ marks. refl; has = λ told. refl; reply = λ a g. tt; allowed = λ g allows whole. tt; whole = λ scratch. tt }
plain-entry (PlainSend number from to inc role id level body payload) q =
    record { ran = λ marks. refl; has = λ told. refl; reply = λ a g. tt; allowed = λ g allows whole. tt; whole = λ scratch. tt }
plain-entry (PlainFail id why) q = record { ran = λ marks. refl; has = λ told. refl; reply = λ a g. tt; allowed = λ g allows whole. tt; whole = λ scratch. tt }
plain-entry (PlainDrop host id) q = record { ran = λ marks. refl; has = λ told. refl; reply = λ a g. tt; allowed = λ g allows whole. tt; whole = λ scratch. tt }
plain-entry (PlainGaps host id) q = record { ran = λ marks. refl; has = λ told. refl; reply = λ a g. tt; allowed = λ g allows whole. tt; whole = λ scratch. tt }
plain-entry (PlainBury host id until) q =
    record { ran = λ marks. refl; has = λ told. refl; reply = λ a g. tt; allowed = λ g allows whole. tt; whole = λ scratch. tt }
plain-entry (PlainFree host id) q = record { ran = λ marks. refl; has = λ told. refl; reply = λ a g. tt; allowed = λ g allows whole. tt; whole = λ scratch. tt }
plain-entry (PlainFullRows host id rows limit) q =
    record { ran = λ marks. refl; has = λ told. refl; reply = λ a g. tt; allowed = λ g allows whole. tt; whole = λ scratch. tt }
plain-entry (PlainFullPages host id need free) q =
    record { ran = λ marks. refl; has = λ told. refl; reply = λ a g. tt; allowed = λ g allows whole. tt; whole = λ scratch. tt }
plain-entry (PlainBalance host cutoffs) q =
    record { ran = λ marks. refl; has = λ told. refl; reply = λ a g. tt; allowed = λ g allows whole. tt; whole = λ scratch. tt }
plain-entry (PlainRecv host from bytes) q =
    record { ran = λ marks. refl; has = λ told. refl; reply = λ a g. tt; allowed = λ g allows whole. tt; whole = λ scratch. tt }
plain-entry (PlainFinished n) q = record { ran = λ marks. refl; has = λ told. refl; reply = λ a g. tt; allowed = λ g allows whole. tt; whole = λ scratch. tt }
plain-entry (PlainRefused line fault) q =
    record { ran = λ marks. refl; has = λ told. refl; reply = λ a g. tt; allowed = λ g allows whole. tt; whole = λ scratch. tt }
plain-entry (PlainStalled turns now) q =
    record { ran = λ marks. refl; has = λ told. refl; reply = λ a g. tt; allowed = λ g allows whole. tt; whole = λ scratch. tt }
plain-entry (PlainRun host id service request response hold) q = absurd q
plain-entry (PlainDone id bytes) q = absurd q

-- ---- what was told, and a run behind it

has_none : (n : ℕ) (told : List Told) → AreQuiet told → has_ran (marks_from n told) ≡ false
has_none n [] all = refl
has_none n (Says entry ∷ told) all = (plain-entry entry all.0).ran (marks_from n told) ∙ has_none n told all.1
has_none n (Sends packet ∷ told) all = has_none (suc n) told all.1

runs_none : (told : List Told) → AreQuiet told → has_run told ≡ false
runs_none [] all = refl
runs_none (Says entry ∷ told) all = (plain-entry entry all.0).has told ∙ runs_none told all.1
runs_none (Sends packet ∷ told) all = runs_none told all.1

none-whole : (scratch : List ℕ) (told : List Told) → AreQuiet told → AllByRecursion (IsWhole scratch) told
none-whole scratch [] all = tt
none-whole scratch (Says entry ∷ told) all = ((plain-entry entry all.0).whole scratch, none-whole scratch told all.1)
none-whole scratch (Sends packet ∷ told) all = (tt, none-whole scratch told all.1)

none-reply : (a : Answer) (g : Host) (n : ℕ) (told : List Told) → AreQuiet told → AllByRecursion (IsReply g a) (marks_from n told)
none-reply a g n [] all = tt
none-reply a g n (Says entry ∷ told) all = ((plain-entry entry all.0).reply a g, none-reply a g n told all.1)
none-reply a g n (Sends packet ∷ told) all = (tt, none-reply a g (suc n) told all.1)

none-allowed : (g : Host) (allows : ℕ → List ℕ → List ℕ → ℕ → Type 0) (whole : List ℕ) (n : ℕ) (told : List Told) → AreQuiet told
    → AllByRecursion (IsAllowed g allows whole) (marks_from n told)
none-allowed g allows whole n [] all = tt
none-allowed g allows whole n (Says entry ∷ told) all = ((plain-entry entry all.0).allowed g allows whole, none-allowed g allows whole n told all.1)
none-allowed g allows whole n (Sends packet ∷ told) all = (tt, none-allowed g allows whole (suc n) told all.1)

module _ (host : HostId) (id : CallId) (service : ℕ) (request response : List ℕ) (hold : ℕ) where
  abbrev run : List Told
  run = Says (PlainRun host id service request response hold) ∷ []

  has_one : (n : ℕ) (told : List Told) → AreQuiet told → has_ran (marks_from n (told ++ run)) ≡ true
  has_one n [] all = refl
  has_one n (Says entry ∷ told) all = (plain-entry entry all.0).ran (marks_from n (told ++ run)) ∙ has_one n told all.1
  has_one n (Sends packet ∷ told) all = has_one (suc n) told all.1

  runs_one : (told : List Told) → AreQuiet told → has_run (told ++ run) ≡ true
  runs_one [] all = refl
  runs_one (Says entry ∷ told) all = (plain-entry entry all.0).has (told ++ run) ∙ runs_one told all.1
  runs_one (Sends packet ∷ told) all = runs_one told all.1

  one-whole : (scratch : List ℕ) → request ≡ scratch → (told : List Told) → AreQuiet told → AllByRecursion (IsWhole scratch) (told ++ run)
  one-whole scratch is told all = all-append (IsWhole scratch) told run (none-whole scratch told all) (is, tt)

  one-reply : (a : Answer) (g : Host) (n : ℕ) (told : List Told) → AreQuiet told → a ≡ record { bytes = response_of g id; hold = hold }
      → AllByRecursion (IsReply g a) (marks_from n (told ++ run))
  one-reply a g n [] all is = (is, tt)
  one-reply a g n (Says entry ∷ told) all is = ((plain-entry entry all.0).reply a g, one-reply a g n told all.1 is)
  one-reply a g n (Sends packet ∷ told) all is = (tt, one-reply a g (suc n) told all.1 is)

  one-is : (a : Answer) (g : Host) (n : ℕ) (told : List Told) → AllByRecursion (IsReply g a) (marks_from n (told ++ run))
      → a ≡ record { bytes = response_of g id; hold = hold }
  one-is a g n [] marks = marks.0
  one-is a g n (Says entry ∷ told) marks = one-is a g n told marks.1
  one-is a g n (Sends packet ∷ told) marks = one-is a g (suc n) told marks.1

  one-allowed : (g : Host) (allows : ℕ → List ℕ → List ℕ → ℕ → Type 0) (whole : List ℕ) (n : ℕ) (told : List Told) → AreQuiet told
      → allows service whole (response_of g id) hold → AllByRecursion (IsAllowed g allows whole) (marks_from n (told ++ run))
  one-allowed g allows whole n [] all is = (is, tt)
  one-allowed g allows whole n (Says entry ∷ told) all is = ((plain-entry entry all.0).allowed g allows whole, one-allowed g allows whole n told all.1 is)
  one-allowed g allows whole n (Sends packet ∷ told) all is = (tt, one-allowed g allows whole (suc n) told all.1 is)

-- ---- what comes of a rule

module _ (s : Settings) where
  posts-quiet : (role : Role) (id : CallId) (server : HostId) (what : Body) (w : Work) → AreQuiet w.told → AreQuiet (posts s role id server what w).told
  posts-quiet role id server what w all = all-append IsQuietTold w.told _ all (tt, tt)

  tuned-quiet : (host : HostId) (t : Tuning) (n : ℕ) → AreQuiet (tuned s host t n).told
  unfolding tuned
  tuned-quiet host t n =
      let u = counted t n in
      cond_both (is_balance_due s u) (record { tuning = rebalanced s u; told = Says (PlainBalance host (rebalanced s u).own) ∷ [] })
      (record { tuning = u; told = [] }) (λ (x : Tuned). AreQuiet x.told) (λ _. (tt, tt)) (λ _. tt)

  notes-quiet : (o : Option ℕ) (w : Work) → AreQuiet w.told → AreQuiet (notes s o w).told
  notes-quiet None w all = all
  notes-quiet (Some n) w all = all-append IsQuietTold w.told (tuned s w.host.id w.host.tuning n).told all (tuned-quiet w.host.id w.host.tuning n)

  cutoffs-quiet : (role : Role) (id : CallId) (server : HostId) (o : Option ℕ) (w : Work) → AreQuiet w.told → AreQuiet (tells_cutoffs s role id server o w).told
  cutoffs-quiet role id server None w all = all
  cutoffs-quiet role id server (Some version) w all =
      cond_both (version == w.host.tuning.own.version) w (posts s role id server (body.Cutoffs w.host.tuning.own) w) (λ (x : Work). AreQuiet x.told)
      (λ _. all) (λ _. posts-quiet role id server (body.Cutoffs w.host.tuning.own) w all)

  said-quiet : (h : Host) (role : Role) (id : CallId) (server : HostId) (says : List Say) → IsQuiet says → AreQuiet (said s h role id server says)
  said-quiet h role id server [] all = tt
  said-quiet h role id server (Tells entry ∷ says) all = (all.0, said-quiet h role id server says all.1)
  said-quiet h role id server (Posts what ∷ says) all = (tt, said-quiet h role id server says all)

  -- cutoffs that come tell nothing
  pub heard-quiet : (peer : HostId) (inc : ℕ) (what : Body) (w : Work) → AreQuiet w.told → AreQuiet (hears_cutoffs s peer inc what w).told
  heard-quiet peer inc (body.Cutoffs cutoffs) w all =
      cond_both (is_newer inc cutoffs (peer_cutoffs s w.host peer)) _ _ (λ (v : Work). AreQuiet v.told) (λ _. all) (λ _. all)
  heard-quiet peer inc (body.Data size offset version service ack) w all = all
  heard-quiet peer inc (body.Grant offset prio) w all = all
  heard-quiet peer inc (body.Resend from to prio) w all = all
  heard-quiet peer inc body.Busy w all = all
  heard-quiet peer inc (body.Unknown reason) w all = all
  heard-quiet peer inc body.NeedAck w all = all
  heard-quiet peer inc (body.Ack more) w all = all

  module _ (id : CallId) (did : Did ServerRow) (w : Work) (before : AreQuiet w.told) where
    abbrev reply : Work
    reply = tells_cutoffs s Server id w.host.id did.version
        (notes s did.opened (record w { host = record w.host { order = did.order; servers = set_row w.host.servers id did.row } }))

    reply-quiet : AreQuiet reply.told
    reply-quiet =
        let put : Work = record w { host = record w.host { order = did.order; servers = set_row w.host.servers id did.row } } in
        cutoffs-quiet Server id w.host.id did.version (notes s did.opened put) (notes-quiet did.opened put before)

    -- the rule asks no service
    pub quiet-marks : IsQuiet did.says → Quiet (served s id did w).told
    unfolding served
    quiet-marks quiet =
        let told = reply.told ++ said s w.host Server id w.host.id did.says in
        let all : AreQuiet told =
        all-append IsQuietTold reply.told (said s w.host Server id w.host.id did.says) reply-quiet (said-quiet w.host Server id w.host.id did.says quiet) in
        record {
          ran = has_none 0 told all;
          has = runs_none told all;
          reply = λ a g. none-reply a g 0 told all;
          allowed = λ g allows whole. none-allowed g allows whole 0 told all;
          whole = λ scratch. none-whole scratch told all;
        }

    -- the rule asks it
    pub ran-marks : (host : HostId) (service : ℕ) (request response : List ℕ) (hold : ℕ)
        → did.says ≡ Tells (PlainRun host id service request response hold) ∷ [] → Ran id service request hold (served s id did w).told
    unfolding served
    ran-marks host service request response hold is =
        subst (λ says. Ran id service request hold (reply.told ++ said s w.host Server id w.host.id says)) (sym is) (record {
          ran = has_one host id service request response hold 0 reply.told reply-quiet;
          has = runs_one host id service request response hold reply.told reply-quiet;
          is_reply = λ a g. one-is host id service request response hold a g 0 reply.told;
          reply = λ a g. one-reply host id service request response hold a g 0 reply.told reply-quiet;
          allowed = λ g allows whole. one-allowed host id service request response hold g allows whole 0 reply.told reply-quiet;
          whole = λ scratch e. one-whole host id service request response hold scratch e reply.told reply-quiet;
        })
