-- Packets at which no service is asked: those of a server, and a client's GRANTs and CUTOFFS.
use Rattle.std.proofs.Common.{◌≡◌, ℕ, false, Option, Some, None, List, [], ◌∷◌, ◌++◌, refl, sym, ap, ◌∙◌, arith}
use Rattle.std.specs.List.{AllByRecursion}
use Rattle.std.proofs.lemmas.Bool.{cond_both}
use Rattle.plain_sets.specs.Maps.{get}
use Rattle.homa_plain.specs.declared.id.CallId.{CallId}
use Rattle.homa_plain.specs.declared.packet.Role.{Role}
use Rattle.homa_plain.specs.declared.packet.Role.TheVariants.{Client, Server}
use Rattle.homa_plain.specs.declared.packet.Body.{Body}
use Rattle.homa_plain.specs.declared.packet.Body.TheVariants as body
use Rattle.homa_plain.specs.declared.settings.Settings.{Settings}
use Rattle.homa_plain.specs.Entries.{PlainRun}
use Rattle.homa_plain.specs.Packets.{Packet, sender, acks}
use Rattle.homa_plain.specs.Rows.{ServerRow, State, Receiving, Held, Replying, Buried}
use Rattle.homa_plain.specs.Host.{Host, Told, Says}
use Rattle.homa_plain.specs.Rules.{Moment, Answer}
use Rattle.homa_plain.specs.AtServer.{unknown_gets, row_gets, server_gets}
use Rattle.homa_plain.specs.Work.{Work, begun, said}
use Rattle.homa_plain.specs.Steps.{moment, comes_to_row, acked, takes, comes, ended, arrival_step, has_run}
use Rattle.homa_plain.specs.OldPackets.{is_stale}
use Rattle.homa_plain.specs.CutoffsPackets.{hears_cutoffs}
use Rattle.homa_plain.specs.World.{SentPacket}
use Rattle.step_laws.specs.StepLaws.{run_count}
use Rattle.step_laws.proofs.ToldBy.{run_count-append, Calm, asks, said-runs, served-carried}
use Rattle.step_laws.proofs.StepEnd.{ended-calm}
use Rattle.step_laws.proofs.OneAnswer.{acked-calm}
use Rattle.homa_host.proofs.Came.{heard_count, client_unrun}
use Rattle.quiet_laws.specs.Flows.{flows, ahead}
use Rattle.quiet_laws.proofs.Amid.{packets_of}

abbrev pub AsksNone : Role → Body → Type 0
AsksNone Server b = Unit {0}
AsksNone Client (body.Grant offset prio) = Unit {0}
AsksNone Client (body.Cutoffs cutoffs) = Unit {0}
AsksNone Client b = ⊥

abbrev pub AskNone : List SentPacket → Type 0
AskNone xs = AllByRecursion (λ (x : SentPacket). AsksNone x.packet.role x.packet.body) xs

-- ---- a rule at the server

module _ (s : Settings) (m : Moment) (id : CallId) (payload : List ℕ) (a : Answer) where
  no_row : (b : Body) → AsksNone Client b → asks (unknown_gets s m id b payload a).says ≡ 0
  no_row (body.Grant offset prio) q = refl
  no_row (body.Cutoffs cutoffs) q = refl
  no_row b q = absurd q

  a_row : (b : Body) → AsksNone Client b → (row : ServerRow) (state : State) → asks (row_gets s m id b payload a row state).says ≡ 0
  a_row (body.Grant offset prio) q row (Receiving service part base count) = refl
  a_row (body.Grant offset prio) q row (Held response release) = refl
  a_row (body.Grant offset prio) q row (Replying response out order base count) = refl
  a_row (body.Grant offset prio) q row (Buried until) = refl
  a_row (body.Cutoffs cutoffs) q row (Receiving service part base count) = refl
  a_row (body.Cutoffs cutoffs) q row (Held response release) = refl
  a_row (body.Cutoffs cutoffs) q row (Replying response out order base count) = refl
  a_row (body.Cutoffs cutoffs) q row (Buried until) = refl
  a_row b q row state = absurd q

rule_asks : (s : Settings) (m : Moment) (p : Packet) (a : Answer) (o : Option ServerRow) → AsksNone Client p.body → asks (server_gets s m p a o).says ≡ 0
unfolding server_gets
rule_asks s m p a None q = no_row s m p.id p.payload a p.body q
rule_asks s m p a (Some row) q = a_row s m p.id p.payload a p.body q row row.state

-- ---- a step

server_unrun : (s : Settings) (p : Packet) (a : Answer) (v : Work) → AsksNone Client p.body → run_count v.told ≡ 0
    → run_count (comes_to_row s p a Client v).told ≡ 0
server_unrun s p a v q none =
    let did = server_gets s (moment s p.id v) p a (get v.host.servers p.id) in
    let says : List Told = said s v.host Server p.id v.host.id did.says in
    let c = served-carried s p.id did v in
    ap run_count c.grown ∙ (let e : run_count (v.told ++ (c.before ++ (says ++ c.after))) ≡ 0 =
    omega (
      arith,
      run_count-append v.told (c.before ++ (says ++ c.after)),
      run_count-append c.before (says ++ c.after),
      run_count-append says c.after,
      c.quiet_before,
      c.quiet_after,
      said-runs s v.host Server p.id v.host.id did.says,
      rule_asks s (moment s p.id v) p a (get v.host.servers p.id) q,
      none,
    ) in e)

row_unrun : (s : Settings) (p : Packet) (a : Answer) (v : Work) (role : Role) → AsksNone role p.body → run_count v.told ≡ 0
    → run_count (comes_to_row s p a role v).told ≡ 0
row_unrun s p a v Client q none = server_unrun s p a v q none
row_unrun s p a v Server q none = client_unrun s p a v none

calm_unrun : (n : ℕ) (w v : Work) → Calm n w v → run_count w.told ≡ 0 → run_count v.told ≡ 0
calm_unrun n w v calm none =
    ap run_count calm.grown ∙ (let e : run_count (w.told ++ calm.told) ≡ 0 = omega (arith, run_count-append w.told calm.told, calm.quiet, none) in e)

unrun : (told : List Told) → run_count told ≡ 0 → has_run told ≡ false
unrun [] e = refl
unrun (Says (PlainRun host id service request response hold) ∷ told) e = absurd (omega arith)
unrun (t ∷ told) e = unrun told e

takes_unrun : (s : Settings) (h : Host) (now : ℕ) (p : Packet) (a : Answer) → AsksNone p.role p.body → run_count (takes s p a (begun h now)).told ≡ 0
unfolding takes
takes_unrun s h now p a q =
    let heard : Work = hears_cutoffs s (sender p) p.inc p.body (begun h now) in
    let row : Work = comes_to_row s p a p.role heard in
    calm_unrun 0 row (acked s (acks p) row) (acked-calm s (acks p) row) (row_unrun s p a heard p.role q (heard_count s (sender p) p.inc p.body h now))

-- no service is asked when it comes
pub unasked : (s : Settings) (h : Host) (now : ℕ) (p : Packet) (a : Answer) → AsksNone p.role p.body → has_run (arrival_step s h now (Some p) a).told ≡ false
unfolding arrival_step
unasked s h now p a q =
    let v : Work = comes s (Some p) a (begun h now) in
    let none : run_count v.told ≡ 0 = cond_both (is_stale s now p) _ _ (λ (w : Work). run_count w.told ≡ 0) (λ _. refl) (λ _. takes_unrun s h now p a q) in
    unrun (ended s v).told (calm_unrun _ v (ended s v) (ended-calm s v) none)

-- ---- while a response is in progress

by_body : (n here may : ℕ) (p : Packet) (b : Body) (rest : ℕ → ℕ → Type 0) → ahead n Server here may p b rest → (role : Role) → p.role ≡ role → AsksNone role b
by_body n here may p b rest f Server e = tt
by_body n here may p (body.Grant offset prio) rest f Client e = tt
by_body n here may p (body.Cutoffs cutoffs) rest f Client e = tt
by_body n here may p (body.Data size offset version service ack) rest f Client e = absurd (not_both (sym e ∙ f.0)) where
  not_both : Client ≡ Server → ⊥
  not_both e = cc
by_body n here may p (body.Resend from to prio) rest f Client e = absurd f
by_body n here may p body.Busy rest f Client e = absurd f
by_body n here may p (body.Unknown reason) rest f Client e = absurd f
by_body n here may p body.NeedAck rest f Client e = absurd f
by_body n here may p (body.Ack more) rest f Client e = absurd f

goes_on : (n here may : ℕ) (p : Packet) (b : Body) (P : ℕ → ℕ → Type 0) → ahead n Server here may p b P → (x : ℕ) × ((y : ℕ) × P x y)
goes_on n here may p (body.Data size offset version service ack) P f = (_, (_, f.6))
goes_on n here may p (body.Grant offset prio) P f = (_, (_, f.3))
goes_on n here may p (body.Cutoffs cutoffs) P f = (_, (_, f.1))
goes_on n here may p (body.Resend from to prio) P f = absurd f
goes_on n here may p body.Busy P f = absurd f
goes_on n here may p (body.Unknown reason) P f = absurd f
goes_on n here may p body.NeedAck P f = absurd f
goes_on n here may p (body.Ack more) P f = absurd f

-- none of the packets of a response asks a service
pub none_asked : (n : ℕ) (xs : List SentPacket) (here may top given : ℕ) → flows n Server here may (packets_of xs) top given → AskNone xs
none_asked n [] here may top given f = tt
none_asked n (x ∷ xs) here may top given f =
    let more = goes_on n here may x.packet x.packet.body (λ u v. flows n Server u v (packets_of xs) top given) f in
    (by_body n here may x.packet x.packet.body _ f x.packet.role refl, none_asked n xs more.0 more.1.0 top given more.1.1)
