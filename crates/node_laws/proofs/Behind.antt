-- What a step of a host leaves of a world whose packets are well formed.
use Rattle.std.proofs.Common.{◌≡◌, ℕ, suc, zero, ◌+◌, ◌≤◌, Bool, true, false, Option, None, Some, List, [], ◌∷◌, ◌++◌, length, drop, refl, sym, ap, ◌∙◌}
use Rattle.std.proofs.Common.{subst, arith}
use Rattle.std.specs.Prelude.{if◌then◌else◌, slice_get, slice_set, slice_index_or, ◌==◌}
use Rattle.std.specs.List.{AllByRecursion}
use Rattle.std.specs.Option.{IfSome}
use Rattle.std.proofs.lemmas.Bool.{cond_both}
use Rattle.homa_plain.specs.declared.id.HostId.{HostId}
use Rattle.homa_plain.specs.declared.packet.Packet.{Packet as WirePacket}
use Rattle.homa_plain.specs.declared.packet.Role.{Role}
use Rattle.homa_plain.specs.declared.packet.Role.TheVariants.{Client, Server}
use Rattle.homa_plain.specs.declared.settings.Settings.{Settings}
use Rattle.homa_plain.specs.Bytes.{IsBytes}
use Rattle.homa_plain.specs.Calls.{is_host}
use Rattle.homa_plain.specs.Entries.{PlainEntry}
use Rattle.homa_plain.specs.Host.{Host, packets_in, entries_from}
use Rattle.homa_plain.specs.Packets.{Packet, receiver, receiver_of, call_between, server_between}
use Rattle.homa_plain.specs.Rules.{Answer}
use Rattle.homa_plain.specs.Settings.{IsValid}
use Rattle.homa_plain.specs.Work.{Work}
use Rattle.homa_plain.specs.Steps.{has_run}
use Rattle.homa_plain.specs.World.{World, After, Done, host_at, own_clock, next_answer, answers_left, stamped, stepped, last_tick}
use Rattle.step_laws.proofs.Places.{all-append}
use Rattle.step_moves.proofs.Hosts.{there, elsewhere, within, some_is, number_of, apart}
use Rattle.node_runs.specs.Course.{packet_from}
use Rattle.node_runs.specs.Replayed.{IsAnswer}
use Rattle.node_laws.proofs.OfNode.{IsOfNode}
use Rattle.node_laws.proofs.Good.{IsGoodHost, IsGoodWork, IsSentNow}

pub all_second : {X : Type 0} (P : X → Type 0) (xs ys : List X) → AllByRecursion P (xs ++ ys) → AllByRecursion P ys
all_second P [] ys all = all
all_second P (x ∷ xs) ys all = all_second P xs ys all.1

pub done_is : (a b : After) → Done a ≡ Done b → a ≡ b
done_is a b e = cc

-- a datagram is a packet to its receiver
pub receiver_is : (from to : HostId) (o : Option (WirePacket × List ℕ)) → IfSome (packet_from from to o) (λ p. receiver p ≡ to)
receiver_is from to None = tt
receiver_is from to (Some (p, payload)) = by_role p.role where
  by_role : (role : Role) → receiver_of role (call_between role from to p.inc p.seq) (server_between role from to) ≡ to
  by_role Client = refl
  by_role Server = refl

-- ---- a world whose packets are all well formed

pub record IsGoodWorld (s : Settings) (w : World) : Type 0 where
  pub hosts : (id : HostId) (h : Host) → host_at w id ≡ Some h → IsGoodHost h
  pub leads : (id : HostId) (h : Host) → host_at w id ≡ Some h → slice_index_or w.leads id.0 0 ≡ s.skew
  pub packets : AllByRecursion (IsOfNode s) w.packets
  pub answers : AllByRecursion IsAnswer w.answers
  pub clock : w.clock ≤ last_tick

-- where no answer is left, there is one byte
pub next_is_answer : (answers : List Answer) → AllByRecursion IsAnswer answers → IsAnswer (next_answer answers)
next_is_answer [] all = ((omega arith, omega arith), one_byte, omega arith) where
  one_byte : IsBytes (0 ∷ [])
  one_byte zero = omega arith
  one_byte (suc i) = omega arith
next_is_answer (a ∷ answers) all = all.0

all_but_one : {X : Type 0} (P : X → Type 0) (xs : List X) → AllByRecursion P xs → AllByRecursion P (drop 1 xs)
all_but_one P [] all = tt
all_but_one P (x ∷ xs) all = all.1

-- ---- the world behind a step

module _ (w : World) where
  -- the world behind a step
  abbrev pub behind : HostId → Work → After → Type 0
  behind id step after =
      (after.world.hosts ≡ slice_set w.hosts id.0 step.host) × (after.world.packets ≡ w.packets ++ stamped w.clock (packets_in step.told))
      × (after.world.clock ≡ w.clock) × (after.world.leads ≡ w.leads) × (after.world.answers ≡ answers_left step.told w.answers)

  pub each_behind : (P : HostId → Host → Type 0) → ((q : HostId) (g : Host) → host_at w q ≡ Some g → P q g)
      → (id : HostId) (step : Work) (after : After) (h : Host) → host_at w id ≡ Some h → P id step.host → behind id step after → (q : HostId) (g : Host)
      → host_at after.world q ≡ Some g → P q g
  each_behind P each id step after h at here b q g is = by_host (is_host id q) refl where
    set : slice_get (slice_set w.hosts id.0 step.host) q.0 ≡ Some g
    set = ap (λ (hs : List Host). slice_get hs q.0) (sym b.0) ∙ is

    by_host : (t : Bool) → is_host id q ≡ t → P q g
    by_host true e =
        let same : id.0 ≡ q.0 = number_of id q e in
        let host : id ≡ q = ap (λ (m : ℕ). let i : HostId = record { 0 = m } in i) same in
        let it : step.host ≡ g =
        some_is step.host g (sym (there w.hosts id.0 step.host (within w.hosts id.0 h at)) ∙ ap (slice_get (slice_set w.hosts id.0 step.host)) same
        ∙ set) in
        subst (λ (x : Host). P q x) it (subst (λ (x : HostId). P x step.host) host here)
    by_host false e = each q g (sym (elsewhere w.hosts id.0 q.0 step.host (apart id q e)) ∙ set)

module _ (s : Settings) (w : World) where
  pub stepped_behind : (id : HostId) (first : List PlainEntry) (step : Work) (after : After) → stepped w id first step ≡ Done after
      → behind w id step after × (after.told ≡ first ++ entries_from (length w.packets) step.told)
  stepped_behind id first step after is =
      subst (λ (a : After). behind w id step a × (a.told ≡ first ++ entries_from (length w.packets) step.told)) (done_is _ after is)
      ((refl, refl, refl, refl, refl), refl)

module _ (s : Settings) (w : World) (valid : IsValid s) (good : IsGoodWorld s w) where
  -- the host's own clock is in its range
  pub in_time : (id : HostId) (h : Host) → host_at w id ≡ Some h → own_clock w id ≤ 1000000002000
  in_time id h at = let skew = valid.in_range.2.2.2.2.2.2.2.2.2.2.2.2.2.1 in omega (arith, good.leads id h at, good.clock, skew)

  stamped_good : (id : HostId) (h : Host) (at : host_at w id ≡ Some h) (ps : List Packet)
      → AllByRecursion (IsSentNow s valid (own_clock w id) (in_time id h at)) ps → AllByRecursion (IsOfNode s) (stamped w.clock ps)
  stamped_good id h at [] all = tt
  stamped_good id h at (p ∷ ps) all =
      let clock : own_clock w id ≡ w.clock + s.skew = ap (λ (n : ℕ). w.clock + n) (good.leads id h at) in
      (record { formed = all.0.formed; dated = all.0.dated ∙ ap (λ (t : ℕ). if s.wire == 1 then 0 else t) clock }, stamped_good id h at ps all.1)

  pub good_behind : (id : HostId) (h : Host) (at : host_at w id ≡ Some h) (step : Work) (after : After)
      → IsGoodWork s valid (own_clock w id) (in_time id h at) step → behind w id step after → IsGoodWorld s after.world
  good_behind id h at step after g b = record {
    hosts = each_behind w (λ (q : HostId) (x : Host). IsGoodHost x) good.hosts id step after h at g.host b;
    leads = λ q x is. ap (λ (l : List ℕ). slice_index_or l q.0 0) b.3
        ∙ each_behind w (λ (q : HostId) (x : Host). slice_index_or w.leads q.0 0 ≡ s.skew) good.leads id step after h at (good.leads id h at) b q x is;
    packets = subst (AllByRecursion (IsOfNode s)) (sym b.1)
        (all-append (IsOfNode s) w.packets (stamped w.clock (packets_in step.told)) good.packets (stamped_good id h at (packets_in step.told) g.sent));
    answers = subst (AllByRecursion IsAnswer) (sym b.4)
        (cond_both (has_run step.told) (drop 1 w.answers) w.answers (AllByRecursion IsAnswer) (λ _. all_but_one IsAnswer w.answers good.answers)
        (λ _. good.answers));
    clock = subst (λ (c : ℕ). c ≤ last_tick) (sym b.2) good.clock;
  }
