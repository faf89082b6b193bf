-- What a delivery does to a call.
use Rattle.std.proofs.Common.{◌≡◌, ℕ, Bool, true, false, not, ◌&&◌, Option, Some, [], ◌∷◌, refl, sym, ap, ◌∙◌, subst, arith}
use Rattle.std.specs.Prelude.{if◌then◌else◌, nat_le, IfSome}
use Rattle.std.proofs.lemmas.Bool.Decides.{nat_tests}
use Rattle.std.specs.Option.{option_map_or}
use Rattle.plain_sets.specs.Maps.{get}
use Rattle.homa_plain.specs.declared.id.CallId.{CallId}
use Rattle.homa_plain.specs.declared.packet.Body.{Body}
use Rattle.homa_plain.specs.declared.packet.Body.TheVariants as body
use Rattle.homa_plain.specs.declared.packet.Role.{Role}
use Rattle.homa_plain.specs.declared.packet.Role.TheVariants.{Client, Server}
use Rattle.homa_plain.specs.Wire.{is_client, is_server}
use Rattle.homa_plain.specs.Calls.{is_host}
use Rattle.homa_plain.proofs.CallOrder.{hosts_are}
use Rattle.trace_rules.specs.Parts as plain
use Rattle.trace_rules.specs.View.{Called, Sent, Ends, no_ends, View, is_server_of}
use Rattle.trace_rules.specs.Seen as seen
use Rattle.check_call.specs.Spots as spots
use Rattle.check_call.specs.declared.call.Delivered.{Delivered}
use Rattle.check_call.specs.declared.call.Call.{Call}
use Rattle.check_call.specs.declared.call.Lives.{Lives}
use Rattle.check_call.specs.declared.spot.Spot.{Spot}
use Rattle.check_call.specs.declared.packet.Packet.{Packet}
use Rattle.check_call.specs.declared.packet.Piece.TheVariants.{Data}
use Rattle.check_call.specs.Kept.{IsPlain, packet_of, Beside, StandsFor, piece_of, piece_is_unknown, piece_is_forgotten, piece_is_data}
use Rattle.check_call.specs.Calls.{called_of, Leaves, IsDelivery, ends_of, counts_for, spot_in, beside, IsSettled}

pub unknown_piece : (b : Body) (n : ℕ) → piece_is_unknown (piece_of b n) ≡ seen.is_unknown b
unknown_piece (body.Unknown reason) n = refl
unknown_piece (body.Data size offset version service ack) n = refl
unknown_piece other n = refl

pub forgotten_piece : (b : Body) (n : ℕ) → piece_is_forgotten (piece_of b n) ≡ seen.is_forgotten b
forgotten_piece (body.Unknown reason) n = refl
forgotten_piece (body.Data size offset version service ack) n = refl
forgotten_piece other n = refl

-- a part becomes whole
pub whole_then : (id : CallId) (before : Option plain.Part) (after : plain.Part) (w r : Bool) → w ≡ option_map_or plain.is_whole before false
    → w ≡ false → r ≡ plain.is_whole after
    → plain.made_whole id before after ≡ (if r then id ∷ [] else [])
whole_then id before after w r e f g =
    ap (λ b. if not b && plain.is_whole after then id ∷ [] else []) (sym e ∙ f) ∙ ap (λ b. if b then id ∷ [] else []) (sym g)

pub whole_else : (id : CallId) (before : Option plain.Part) (after : plain.Part) (w : Bool) → w ≡ option_map_or plain.is_whole before false → w ≡ true
    → plain.made_whole id before after ≡ (if not w then id ∷ [] else [])
whole_else id before after w e f =
    ap (λ b. if not b && plain.is_whole after then id ∷ [] else []) (sym e ∙ f) ∙ sym (ap (λ b. if not b then id ∷ [] else []) f)

-- ---- a packet that may count

-- whether it counts
pub counts_is : (v : View) (p : Sent) (c : Call) (s : spots.Spot) (live : Option ℕ) → get v.calls p.id ≡ Some (called_of c) → s.live ≡ live
    → counts_for c.server (packet_of p) live ≡ spots.counts_at v p s
counts_is v p c s live called e =
    ap (λ l. counts_for c.server (packet_of p) l) (sym e)
    ∙ sym (ap (λ (o : Option Called). is_server p.role && is_host p.to p.id.client && option_map_or (λ x. is_host x.server p.from) o false &&
    option_map_or (λ latest. nat_le latest p.inc) s.live false) called)

due_by : (id : CallId) (c f : Bool) → (if c then record no_ends { forgotten = if f then id ∷ [] else [] } else no_ends) ≡ ends_of id false false (c && f)
due_by id true true = refl
due_by id true false = refl
due_by id false f = refl

pub heard_leaves : (b : Beside) (v : View) (p : Sent) (s : spots.Spot) (k : Spot) (counts forgotten : Bool) → counts ≡ spots.counts_at v p s
    → StandsFor b k (if counts then spots.heard_spot p s else s) → forgotten ≡ (counts && seen.is_forgotten p.body)
    → Leaves b p.id (record { now = k; refused = k; runs = false; done = false; forgotten = forgotten }) (spots.counted_spot v p s)
    (spots.counted_spot v p s) (spots.due_if_refused v p s) (spots.due_if_refused v p s)
heard_leaves b v p s k counts forgotten e stands f =
    let st : StandsFor b k (spots.counted_spot v p s) = subst (λ (c : Bool). StandsFor b k (if c then spots.heard_spot p s else s)) e stands in
    let due : spots.due_if_refused v p s ≡ ends_of p.id false false forgotten =
    due_by p.id (spots.counts_at v p s) (seen.is_forgotten p.body) ∙ ap (ends_of p.id false false) (sym (f ∙ ap (λ c. c && seen.is_forgotten p.body) e)) in
    record { now = st; refused = st; due = due; due_then = due }

-- it counts as it did before
counts_again : (v : View) (p : Sent) (s : spots.Spot) (x d : Bool) → (x && d) ≡ true → (x && nat_le p.inc p.inc) ≡ true
counts_again v p s true d e = grind (arith, nat_tests)
counts_again v p s false d e = e

pub counts_still : (v : View) (p : Sent) (s : spots.Spot) → spots.counts_at v p (spots.counted_spot v p s) ≡ spots.counts_at v p s
counts_still v p s =
    elim (spots.counts_at v p s) as (λ c. spots.counts_at v p s ≡ c → spots.counts_at v p (if c then spots.heard_spot p s else s) ≡ c) [
      | true ↦ λ e. counts_again v p s (is_server p.role && is_host p.to p.id.client && is_server_of v p.id p.from)
          (option_map_or (λ latest. nat_le latest p.inc) s.live false) e
      | false ↦ λ e. e
    ] refl

-- ---- what a packet says

-- it is DATA
pub record IsData (b : Body) (size offset : ℕ) : Type 0 where
  pub version : ℕ
  pub service : ℕ
  pub ack : Option (ℕ × ℕ)
  pub is : b ≡ body.Data size offset version service ack

same_data : (a b c x y z : ℕ) → Data a b c ≡ Data x y z → (a ≡ x) × (b ≡ y) × (c ≡ z)
same_data a b c x y z h = (cc, cc, cc)

pub data_body : (b : Body) (n size offset len : ℕ) → piece_of b n ≡ Data size offset len → IsData b size offset × (len ≡ n)
data_body (body.Data all from version service ack) n size offset len h =
    let e = same_data all from n size offset len h in
    (record { version = version; service = service; ack = ack; is = λ i. body.Data (e.0 i) (e.1 i) version service ack }, sym e.2)
data_body (body.Unknown reason) n size offset len h = absurd cc
data_body (body.Grant a prio) n size offset len h = absurd cc
data_body (body.Resend a z prio) n size offset len h = absurd cc
data_body body.Busy n size offset len h = absurd cc
data_body (body.Cutoffs cutoffs) n size offset len h = absurd cc
data_body body.NeedAck n size offset len h = absurd cc
data_body (body.Ack more) n size offset len h = absurd cc

-- or it isn't
pub no_data : (v : View) (p : Sent) (b : Body) (n : ℕ) (s : spots.Spot) (due : Ends) → piece_is_data (piece_of b n) ≡ false
    → (spots.admitted_spot v p b s ≡ s) × (spots.due_with v p b due s ≡ due)
no_data v p (body.Data all from version service ack) n s due h = absurd cc
no_data v p (body.Unknown reason) n s due h = (refl, refl)
no_data v p other n s due h = (refl, refl)

-- what is left is told by equal spots
pub leaves_as : (b : Beside) (id : CallId) (d : Delivered) (s x t : spots.Spot) (due ends later : Ends) → s ≡ x → due ≡ ends
    → Leaves b id d s t due later → Leaves b id d x t ends later
leaves_as b id d s x t due ends later e f l = subst (λ (u : Ends). Leaves b id d x t u later) f (subst (λ (y : spots.Spot). Leaves b id d y t due later) e l)

-- bytes of a request
pub data_asks : (v : View) (p : Sent) (s : spots.Spot) (size offset : ℕ) → IsData p.body size offset → is_client p.role ≡ true
    → (spots.request_spot v p offset (get v.calls p.id) (spots.counted_spot v p s) ≡ spots.delivered_spot v p s)
    × (spots.due_request v p offset (get v.calls p.id) (spots.due_if_refused v p s) (spots.counted_spot v p s) ≡ spots.due_spot v p s)
data_asks v p s size offset d r = (
  sym (ap (λ b. spots.admitted_spot v p b (spots.counted_spot v p s)) d.is
      ∙ ap (λ b. if b then spots.request_spot v p offset (get v.calls p.id) (spots.counted_spot v p s) else spots.response_spot v p size offset
      (spots.counted_spot v p s)) r),
  sym (ap (λ b. spots.due_with v p b (spots.due_if_refused v p s) (spots.counted_spot v p s)) d.is
      ∙ ap (λ b. if b then spots.due_request v p offset (get v.calls p.id) (spots.due_if_refused v p s) (spots.counted_spot v p s)
      else spots.due_response v p size offset (spots.due_if_refused v p s) (spots.counted_spot v p s)) r),
)

-- bytes of a response
pub data_answers : (v : View) (p : Sent) (s : spots.Spot) (size offset : ℕ) → IsData p.body size offset → is_client p.role ≡ false
    → (spots.response_spot v p size offset (spots.counted_spot v p s) ≡ spots.delivered_spot v p s)
    × (spots.due_response v p size offset (spots.due_if_refused v p s) (spots.counted_spot v p s) ≡ spots.due_spot v p s)
data_answers v p s size offset d r = (
  sym (ap (λ b. spots.admitted_spot v p b (spots.counted_spot v p s)) d.is
      ∙ ap (λ b. if b then spots.request_spot v p offset (get v.calls p.id) (spots.counted_spot v p s) else spots.response_spot v p size offset
      (spots.counted_spot v p s)) r),
  sym (ap (λ b. spots.due_with v p b (spots.due_if_refused v p s) (spots.counted_spot v p s)) d.is
      ∙ ap (λ b. if b then spots.due_request v p offset (get v.calls p.id) (spots.due_if_refused v p s) (spots.counted_spot v p s)
      else spots.due_response v p size offset (spots.due_if_refused v p s) (spots.counted_spot v p s)) r),
)

-- .. of a packet that doesn't count
pub answers_nothing : (v : View) (p : Sent) (s : spots.Spot) (size offset : ℕ) (due : Ends) → spots.counts_at v p s ≡ false
    → (spots.response_spot v p size offset s ≡ s) × (spots.due_response v p size offset due s ≡ due)
answers_nothing v p s size offset due e = (rw e refl, rw e refl)

-- ---- all of it

-- who sent a packet that counts, and to whom
both_true : (a b : Bool) → (a && b) ≡ true → (a ≡ true) × (b ≡ true)
both_true true b h = (refl, h)
both_true false b h = absurd cc

pub counted_hosts : (v : View) (p : Sent) (c : Call) (s : spots.Spot) → get v.calls p.id ≡ Some (called_of c) → spots.counts_at v p s ≡ true
    → (p.to ≡ p.id.client) × (p.from ≡ c.server)
counted_hosts v p c s called e =
    let first =
    both_true (is_server p.role && is_host p.to p.id.client && is_server_of v p.id p.from) (option_map_or (λ latest. nat_le latest p.inc) s.live false) e in
    let second = both_true (is_server p.role && is_host p.to p.id.client) (is_server_of v p.id p.from) first.0 in
    let third = both_true (is_server p.role) (is_host p.to p.id.client) second.0 in
    let here : is_host c.server p.from ≡ true = sym (ap (λ (o : Option Called). option_map_or (λ x. is_host x.server p.from) o false) called) ∙ second.1 in
    ((hosts_are p.to p.id.client).0 third.1, sym ((hosts_are c.server p.from).0 here))

-- what is known of a delivery before its bytes are admitted
pub known : (v : View) (p : Sent) (s : spots.Spot) (c : Call) (k : Packet) (before : Spot) (at : ℕ) (lives : Lives) (free gap : ℕ) (counts : Bool)
    → IsDelivery v c k p at lives free → before ≡ spot_in c lives
    → StandsFor (beside p.id.client gap c) (spot_in c lives) s → counts ≡ counts_for c.server k before.live
    → (counts ≡ spots.counts_at v p s) × StandsFor (beside p.id.client gap c) before s
known v p s c k before at lives free gap counts d b st e =
    let here : StandsFor (beside p.id.client gap c) before s = subst (λ (x : Spot). StandsFor (beside p.id.client gap c) x s) (sym b) st in
    (e ∙ ap (λ x. counts_for c.server x before.live) d.packet ∙ counts_is v p c s before.live d.called here.live, here)

-- ---- settled parts

pub settled_request : (role : Role) (k : Spot) → is_client role ≡ true → IsSettled role k → IfSome k.request IsPlain
settled_request Client k e settled = settled
settled_request Server k e settled = absurd cc

pub settled_response : (role : Role) (k : Spot) → is_client role ≡ false → IsSettled role k → IfSome k.response IsPlain
settled_response Client k e settled = absurd cc
settled_response Server k e settled = settled
