use Rattle.std.proofs.Common.{◌≡◌, ℕ, true, false, not, refl, sym, ap, subst, ◌∙◌, List, Option, Some, None}
use Rattle.std.specs.Option.{is_some, option_copied}
use Rattle.std.proofs.lemmas.Bool.{true≢false}
use Rattle.plain_sets.proofs.MapMembers.{same_some}
use Rattle.homa_plain.specs.declared.packet.Body.{Body}
use Rattle.homa_plain.specs.declared.packet.Body.TheVariants as body
use Rattle.homa_plain.specs.Rules.{Piece}
use Rattle.msg_pool.specs.Pool.{Pool}
use Rattle.homa_in.specs.Part.{Part}
use Rattle.homa_in.specs.Pieces.{piece_in, first_version}
use Rattle.homa_server.specs.Held.{HeldState, Arriving, Keeping, Answering, Gone, state_part, seen_state}
use Rattle.homa_server.specs.Answers.{version_in_state}
use Rattle.homa_server.specs.declared.answers.ServerDid.{ServerDid}
use Rattle.homa_server.specs.declared.answers.ServerDid.TheVariants as did
use Rattle.homa_host.specs.declared.outcome.PieceHead.{PieceHead}
use Rattle.homa_host.specs.Outcomes.{head_in, IfServerTouched}
use Rattle.homa_host.proofs.at_server.touched_version.Goals as goal

touched_by : (d : ServerDid) (place : ℕ) (P : ℕ → Type 0) → d ≡ did.Touched place → P place → IfServerTouched d P
touched_by d place P e h = subst (λ (d : ServerDid). IfServerTouched d P) (sym e) h

arrives_in : (piece : Option Piece) (pool : Pool) (state : HeldState) (part : Part) → Some part ≡ state_part state
    → version_in_state piece (seen_state pool state) ≡ first_version piece
arrives_in piece pool (Arriving service held base count) part e = refl
arrives_in piece pool (Keeping response release) part e = cc
arrives_in piece pool (Answering response out order base count) part e = cc
arrives_in piece pool (Gone until) part e = cc

rests_in : (piece : Option Piece) (pool : Pool) (state : HeldState) → None ≡ state_part state → None ≡ version_in_state piece (seen_state pool state)
rests_in piece pool (Arriving service held base count) e = cc
rests_in piece pool (Keeping response release) e = refl
rests_in piece pool (Answering response out order base count) e = refl
rests_in piece pool (Gone until) e = refl

head_version : (b : Body) (payload : List ℕ) (h : PieceHead) → Some h ≡ head_in b → h.version ≡ first_version (piece_in b payload)
head_version (body.Data size offset version service ack) payload h e = ap (λ (x : PieceHead). x.version) (same_some _ _ e)
head_version (body.Grant offset prio) payload h e = cc
head_version (body.Resend from to prio) payload h e = cc
head_version body.Busy payload h e = cc
head_version (body.Cutoffs cutoffs) payload h e = cc
head_version (body.Unknown reason) payload h e = cc
head_version body.NeedAck payload h e = cc
head_version (body.Ack more) payload h e = cc

none_by : {T : Type 0} (o : Option T) → is_some o ≡ false → o ≡ None
none_by None e = refl
none_by (Some x) e = absurd (true≢false e)

some_by : {T : Type 0} (o : Option T) → is_some o ≡ true → (x : T) × (o ≡ Some x)
some_by (Some x) e = (x, refl)
some_by None e = absurd (true≢false (sym e))

pub returns-then-is_none : goal.returns-then-is_none
returns-then-is_none c = λ p pool id r head. touched_by c.args.did.now c.in-Touched.place _ c.in-Touched.is (λ stands.
    let none = none_by c.incoming.result (c.is_none.ensures ∙ ap not c.if-is_none.true) in
    rests_in (piece_in p.body p.payload) pool r.state (sym (ap option_copied none) ∙ c.incoming.ensures id r stands))

pub returns : goal.returns
returns c = λ p pool id r head. touched_by c.args.did.now c.in-Touched.place _ c.in-Touched.is (λ stands.
    let part = some_by c.incoming.result (c.is_none.ensures ∙ ap not c.if-is_none.false) in
    head_version p.body p.payload c.in_ok-head.field-0 (sym c.in_ok-head.was ∙ head)
    ∙ sym (arrives_in (piece_in p.body p.payload) pool r.state part.0.now (sym (ap option_copied part.1) ∙ c.incoming.ensures id r stands)))
