-- Lines within a step have the shape, where the calls that they name were made.
use Rattle.std.proofs.Common.{◌≡◌, ℕ, zero, suc, ◌+◌, ◌≤◌, Bool, true, false, ◌||◌, Option, Some, None, List, [], ◌∷◌, ◌++◌, length, cond, refl, sym}
use Rattle.std.proofs.Common.{ap, subst, ◌∙◌, arith}
use Rattle.std.specs.Prelude.{◌==◌, is_some, nat_lt, nat_le}
use Rattle.std.specs.List.{AllByRecursion}
use Rattle.std.proofs.lemmas.Bool.{cond_both, false≢true, ltb-false}
use Rattle.std.proofs.lemmas.List.{length-append}
use Rattle.plain_sets.specs.Maps.{Map, get, contains_key, len}
use Rattle.homa_plain.specs.declared.id.CallId.{CallId}
use Rattle.homa_plain.specs.declared.id.HostId.{HostId}
use Rattle.homa_plain.specs.declared.packet.Role.{Role}
use Rattle.homa_plain.specs.declared.fault.StartFault.{StartFault}
use Rattle.homa_plain.specs.declared.fault.StartFault.TheVariants.{Empty, TooLong, SelfCall, CallsFull, SeqSpent}
use Rattle.homa_plain.specs.declared.settings.Settings.{Settings}
use Rattle.homa_plain.specs.Calls.{is_host, call_cmp}
use Rattle.homa_plain.specs.Entries.{PlainEntry, PlainSettings, PlainCall, PlainDeliver, PlainSend, PlainRefused, PlainFinished, PlainStalled}
use Rattle.homa_plain.specs.Entries.{PlainRun, PlainDone, PlainFail, PlainDrop, PlainGaps, PlainBury, PlainFree, PlainFullRows, PlainFullPages}
use Rattle.trace_rules.specs.Lines.{is_last, named}
use Rattle.homa_plain.specs.Packets.{Packet, send_line}
use Rattle.homa_plain.specs.Host.{Host, Told, Says, Sends, packets_in, entries_from, Tuned, tuned, is_balance_due, counted, finished_at}
use Rattle.homa_plain.specs.Rules.{Say, Tells, Posts}
use Rattle.homa_plain.specs.Work.{Work, said}
use Rattle.homa_plain.specs.Steps.{start_fault}
use Rattle.trace_rules.specs.View.{View, Called}
use Rattle.trace_rules.specs.Seen.{seen, seen_all}
use Rattle.trace_rules.specs.Shape.{IsBehind, IsMade, Shape}
use Rattle.trace_rules.specs.Laws.{Holds}
use Rattle.step_moves.proofs.Hosts.{none_some}
use Rattle.trace_steps.specs.Told.{sent_of}
use Rattle.trace_steps.proofs.Lines.{inner_same, told_packets, said_packets}
use Rattle.step_moves.proofs.Inner.{said_inner, AllInner, IsSaid, IsInner}
use Rattle.step_laws.proofs.Own.{IsOwn, AllOwn}
use Rattle.step_moves.proofs.Moves.{notes_told, reply_told, acknowledged_told, finishes_told}

-- ---- behind a line

pub line_behind : (v : View) (line : PlainEntry) → is_last line ≡ false → IsBehind v → IsBehind (seen v line)
unfolding seen
line_behind v line e b = record { first = omega arith; last = ap (λ t. t || is_last line) b.last ∙ e }

pub inner_open : (line : PlainEntry) → IsInner line → is_last line ≡ false
inner_open (PlainFinished n) inner = absurd inner
inner_open (PlainRefused line fault) inner = absurd inner
inner_open (PlainStalled turns now) inner = absurd inner
inner_open line inner = refl

-- ---- calls that lines name

pub made_get : (v : View) (id : CallId) (c : Called) → get v.calls id ≡ Some c → IsMade v (Some id)
made_get v id c e = ap is_some e

made_later : (v u : View) → u.calls ≡ v.calls → (o : Option CallId) → IsMade v o → IsMade u o
made_later v u e None k = k
made_later v u e (Some id) k = ap (λ (m : Map call_cmp Called). contains_key m id) e ∙ k

abbrev pub AllNamed : View → List Told → Type 0
AllNamed v [] = Unit {0}
AllNamed v (Says entry ∷ told) = IsMade v (named entry) × AllNamed v told
AllNamed v (Sends p ∷ told) = AllNamed v told

named_later : (v u : View) → u.calls ≡ v.calls → (told : List Told) → AllNamed v told → AllNamed u told
named_later v u e [] k = k
named_later v u e (Says entry ∷ told) k = (made_later v u e (named entry) k.0, named_later v u e told k.1)
named_later v u e (Sends p ∷ told) k = named_later v u e told k

sent_later : (v u : View) → u.calls ≡ v.calls → (ps : List Packet) → AllByRecursion (λ (p : Packet). IsMade v (Some p.id)) ps
    → AllByRecursion (λ (p : Packet). IsMade u (Some p.id)) ps
sent_later v u e [] k = k
sent_later v u e (p ∷ ps) k = (made_later v u e (Some p.id) k.0, sent_later v u e ps k.1)

pub named_append : (v : View) (a b : List Told) → AllNamed v a → AllNamed v b → AllNamed v (a ++ b)
named_append v [] b x y = y
named_append v (Says entry ∷ a) b x y = (x.0, named_append v a b x.1 y)
named_append v (Sends p ∷ a) b x y = named_append v a b x y

-- what a rule says names its own call
own_made : (v : View) (h : HostId) (id : CallId) (entry : PlainEntry) → IsMade v (Some id) → IsOwn h id entry → IsMade v (named entry)
own_made v h id (PlainRun host q service request response hold) k own = subst (λ (x : CallId). IsMade v (Some x)) (sym own.1) k
own_made v h id (PlainDone q bytes) k own = subst (λ (x : CallId). IsMade v (Some x)) (sym own) k
own_made v h id (PlainFail q why) k own = subst (λ (x : CallId). IsMade v (Some x)) (sym own) k
own_made v h id (PlainDrop host q) k own = subst (λ (x : CallId). IsMade v (Some x)) (sym own.1) k
own_made v h id (PlainGaps host q) k own = subst (λ (x : CallId). IsMade v (Some x)) (sym own.1) k
own_made v h id (PlainBury host q until) k own = subst (λ (x : CallId). IsMade v (Some x)) (sym own.1) k
own_made v h id (PlainFree host q) k own = subst (λ (x : CallId). IsMade v (Some x)) (sym own.1) k
own_made v h id (PlainFullRows host q rows limit) k own = subst (λ (x : CallId). IsMade v (Some x)) (sym own.1) k
own_made v h id (PlainFullPages host q need free) k own = subst (λ (x : CallId). IsMade v (Some x)) (sym own.1) k
own_made v h id entry k own = absurd own

module _ (s : Settings) (v : View) where
  pub said_named : (h : HostId) (id : CallId) (host : Host) (role : Role) (server : HostId) (says : List Say) → IsMade v (Some id) → AllOwn h id says
      → AllNamed v (said s host role id server says)
  said_named h id host role server [] k own = tt
  said_named h id host role server (Tells entry ∷ says) k own = (own_made v h id entry k own.0, said_named h id host role server says k own.1)
  said_named h id host role server (Posts what ∷ says) k own = said_named h id host role server says k own

  pub notes_named : (o : Option ℕ) (w : Work) → AllNamed v (notes_told s o w)
  unfolding tuned
  notes_named None w = tt
  notes_named (Some n) w = cond_both (is_balance_due s (counted w.host.tuning n)) _ _ (λ (t : Tuned). AllNamed v t.told) (λ _. (tt, tt)) (λ _. tt)

  pub reply_named : (role : Role) (id : CallId) (server : HostId) (o : Option ℕ) (w : Work) → AllNamed v (reply_told s role id server o w)
  reply_named role id server None w = tt
  reply_named role id server (Some version) w = cond_both (version == w.host.tuning.own.version) _ _ (AllNamed v) (λ _. tt) (λ _. tt)

  acknowledged_named : (server : HostId) (calls : List (ℕ × ℕ)) (w : Work) → AllNamed v (acknowledged_told s server calls w)
  acknowledged_named server [] w = tt
  acknowledged_named server (call ∷ calls) w = cond_both (nat_lt (length calls) 4) _ _ (AllNamed v) (λ _. tt) (λ _. tt)

  pub finishes_named : (id : CallId) (server : HostId) (done : Bool) (w : Work) → AllNamed v (finishes_told s id server done w)
  finishes_named id server false w = tt
  finishes_named id server true w = acknowledged_named server (finished_at w.host server ++ (id.inc, id.seq) ∷ []) w

-- ---- the lines

said_shape : (v : View) (entry : PlainEntry) → IsSaid entry → IsBehind v → IsMade v (named entry) → Shape v entry
said_shape v (PlainSettings settings) said b k = absurd said
said_shape v (PlainCall id server service bytes) said b k = absurd said
said_shape v (PlainDeliver packet) said b k = absurd said
said_shape v (PlainSend number from to inc role id level what payload) said b k = absurd said
said_shape v (PlainRefused line fault) said b k = absurd said
said_shape v entry said b k = (b, k)

pub told_shape : (v : View) (n : ℕ) (told : List Told) → IsBehind v → n ≡ length v.packets → AllInner told → AllNamed v told
    → AllByRecursion (λ (p : Packet). IsMade v (Some p.id)) (packets_in told)
    → Holds Shape v (entries_from n told) × IsBehind (seen_all v (entries_from n told))
told_shape v n [] b number inner named sent = (tt, b)
told_shape v n (Says entry ∷ told) b number inner named sent =
    let calls = (inner_same v entry (said_inner entry inner.0)).calls in
    let rest = told_shape (seen v entry) n told (line_behind v entry (inner_open entry (said_inner entry inner.0)) b)
    (number ∙ ap length (sym (said_packets v entry inner.0))) inner.1
    (named_later v (seen v entry) calls told named.1) (sent_later v (seen v entry) calls (packets_in told) sent) in
    ((said_shape v entry inner.0 b named.0, rest.0), rest.1)
told_shape v n (Sends p ∷ told) b number inner named sent =
    let line : PlainEntry = send_line n p in
    let calls = (inner_same v line tt).calls in
    let more : length (seen v line).packets ≡ length v.packets + 1 =
    ap length (told_packets v n (Sends p ∷ []) tt) ∙ length-append v.packets (sent_of p ∷ []) in
    let rest = told_shape (seen v line) (suc n) told (line_behind v line refl b) (omega (arith, number, more)) inner
    (named_later v (seen v line) calls told named) (sent_later v (seen v line) calls (packets_in told) sent.1) in
    (((b, number, sent.0), rest.0), rest.1)

-- ---- when a call may start

some_of : (n : ℕ) → (n == 0) ≡ false → 1 ≤ n
some_of zero f = absurd (false≢true (sym f))
some_of (suc n) f = omega arith

module _ (s : Settings) (h : Host) (server : HostId) (request : List ℕ) where
  some_none : (fault : StartFault) → Some fault ≡ None → ⊥
  some_none fault e = none_some fault (sym e)

  pub may_start : start_fault s h server request ≡ None → (1 ≤ length request) × (length request ≤ 1000000) × (is_host server h.id ≡ false)
  unfolding start_fault
  may_start e = by_empty (length request == 0) refl (nat_lt 1000000 (length request)) refl (is_host server h.id) refl e where
    rest : Option StartFault
    rest = cond (nat_le s.calls (len h.clients)) (Some CallsFull) (cond (nat_le 4294967295 h.seq) (Some SeqSpent) None)

    by_empty : (a : Bool) → (length request == 0) ≡ a → (b : Bool) → nat_lt 1000000 (length request) ≡ b → (c : Bool) → is_host server h.id ≡ c
        → cond a (Some Empty) (cond b (Some TooLong) (cond c (Some SelfCall) rest)) ≡ None
        → (1 ≤ length request) × (length request ≤ 1000000) × (is_host server h.id ≡ false)
    by_empty true f b g c k e = absurd (some_none Empty e)
    by_empty false f true g c k e = absurd (some_none TooLong e)
    by_empty false f false g true k e = absurd (some_none SelfCall e)
    by_empty false f false g false k e = (some_of (length request) f, ltb-false 1000000 (length request) g, k)
