-- What is so of a world between so many hosts: each is in its place, and rows and packets are among them.
use Rattle.std.proofs.Common.{◌≡◌, ℕ, zero, suc, ◌+◌, ◌<◌, ◌≤◌, Bool, true, false, Some, List, [], ◌∷◌, ◌++◌, length, refl, sym, ap, ◌∙◌, subst, arith}
use Rattle.std.specs.Prelude.{slice_get, slice_set, replicate}
use Rattle.std.specs.List.{AllByRecursion}
use Rattle.homa_plain.specs.declared.id.HostId.{HostId}
use Rattle.homa_plain.specs.declared.settings.Settings.{Settings}
use Rattle.homa_plain.specs.Calls.{is_host}
use Rattle.homa_plain.specs.Packets.{Packet, sender, receiver}
use Rattle.homa_plain.specs.Host.{Host, new_host, packets_in}
use Rattle.homa_plain.specs.Rules.{Answer}
use Rattle.homa_plain.specs.Work.{Work}
use Rattle.homa_plain.specs.World.{World, SentPacket, new_world, new_hosts, host_at, stamped, answers_left}
use Rattle.step_laws.proofs.Places.{all-append}
use Rattle.step_moves.specs.Worlds.{HasOwnName}
use Rattle.step_moves.proofs.Hosts.{there, elsewhere, length-set, within, some_is, apart, number_of}
use Rattle.event_laws.specs.Among.{IsAmong, IsAmongStep, IsBelow}
use Rattle.event_laws.specs.Named.{IsOwnStep}
use Rattle.event_laws.proofs.Among.{new_among}
use Rattle.event_laws.proofs.Names.{new_named}

-- a host in its place, which made so many calls at most
pub record IsPerson (n calls : ℕ) (id : HostId) (h : Host) : Type 0 where
  pub name : HasOwnName id h
  pub among : IsAmong (IsBelow n) h
  pub seq : h.seq ≤ calls

-- a packet between two of them
pub record IsPost (n : ℕ) (x : SentPacket) : Type 0 where
  pub from : (sender x.packet).0 < n
  pub to : (receiver x.packet).0 < n

pub record IsPeopled (n calls : ℕ) (w : World) : Type 0 where
  pub many : length w.hosts ≡ n
  pub hosts : (id : HostId) (h : Host) → host_at w id ≡ Some h → IsPerson n calls id h
  pub packets : AllByRecursion (IsPost n) w.packets

-- ---- a step

posted : (n tick : ℕ) (id : HostId) → id.0 < n → (ps : List Packet) → AllByRecursion (λ (p : Packet). (receiver p).0 < n) ps
    → AllByRecursion (λ (p : Packet). sender p ≡ id) ps → AllByRecursion (IsPost n) (stamped tick ps)
posted n tick id l [] to from = tt
posted n tick id l (p ∷ ps) to from =
    (record { from = subst (λ (h : HostId). h.0 < n) (sym from.0) l; to = to.0 }, posted n tick id l ps to.1 from.1)

more_calls : (n a b : ℕ) (id : HostId) (h : Host) → a ≤ b → IsPerson n a id h → IsPerson n b id h
more_calls n a b id h le p = record { name = p.name; among = p.among; seq = omega (arith, p.seq, le) }

module _ (s : Settings) (n old new seq : ℕ) (w : World) (k : IsPeopled n old w) (id : HostId) (h : Host) (at : host_at w id ≡ Some h) (step : Work)
    (own : IsOwnStep id step) (among : IsAmongStep (IsBelow n) seq step) (grows : old ≤ new) (calls : seq ≤ new) where
  -- the world behind a step of a host
  abbrev pub behind : World
  behind = record w {
    hosts = slice_set w.hosts id.0 step.host;
    packets = w.packets ++ stamped w.clock (packets_in step.told);
    answers = answers_left step.told w.answers;
  }

  pub inside : id.0 < n
  inside = omega (arith, within w.hosts id.0 h at, k.many)

  person : (q : HostId) (g : Host) → (b : Bool) → is_host id q ≡ b → slice_get (slice_set w.hosts id.0 step.host) q.0 ≡ Some g → IsPerson n new q g
  person q g true e is =
      let same : id.0 ≡ q.0 = number_of id q e in
      let host : id ≡ q = ap (λ (m : ℕ). let i : HostId = record { 0 = m } in i) same in
      let it : step.host ≡ g =
      some_is step.host g (sym (there w.hosts id.0 step.host (within w.hosts id.0 h at)) ∙ (ap (slice_get (slice_set w.hosts id.0 step.host)) same ∙ is)) in
      let here : IsPerson n new id step.host = record { name = own.name; among = among.among; seq = omega (arith, among.calls, calls) } in
      subst (λ (x : Host). IsPerson n new q x) it (subst (λ (x : HostId). IsPerson n new x step.host) host here)
  person q g false e is =
      more_calls n old new q g grows (k.hosts q g (sym (elsewhere w.hosts id.0 q.0 step.host (apart id q e)) ∙ is))

  pub behind_peopled : IsPeopled n new behind
  behind_peopled = record {
    many = length-set w.hosts id.0 step.host ∙ k.many;
    hosts = λ q g is. person q g (is_host id q) refl is;
    packets = all-append (IsPost n) w.packets (stamped w.clock (packets_in step.told)) k.packets
        (posted n w.clock id inside (packets_in step.told) among.sent own.by);
  }

pub calls_more : (n a b : ℕ) (w : World) → a ≤ b → IsPeopled n a w → IsPeopled n b w
calls_more n a b w le k = record { many = k.many; hosts = λ id h at. more_calls n a b id h le (k.hosts id h at); packets = k.packets }

-- ---- the first world

-- a host in its first life
record IsFresh (s : Settings) (id : HostId) (h : Host) : Type 0 where
  inc : ℕ
  is : h ≡ new_host s id inc 0

fresh_at : (s : Settings) (incs : List ℕ) (first i : ℕ) (h : Host) → slice_get (new_hosts s first incs) i ≡ Some h → IsFresh s (record { 0 = first + i }) h
fresh_at s [] first i h e = cc
fresh_at s (inc ∷ incs) first zero h e =
    let here : first ≡ first + 0 = omega arith in
    let is : new_host s (record { 0 = first }) inc 0 ≡ h = some_is _ h e in
    record { inc = inc; is = sym is ∙ ap (λ (m : ℕ). new_host s (record { 0 = m }) inc 0) here }
fresh_at s (inc ∷ incs) first (suc i) h e =
    let next : suc first + i ≡ first + suc i = omega arith in
    subst (λ (m : ℕ). IsFresh s (record { 0 = m }) h) next (fresh_at s incs (suc first) i h e)

many_new : (s : Settings) (incs : List ℕ) (first : ℕ) → length (new_hosts s first incs) ≡ length incs
many_new s [] first = refl
many_new s (inc ∷ incs) first = ap suc (many_new s incs (suc first))

pub many_replicated : (k x : ℕ) → length (replicate k x) ≡ k
many_replicated zero x = refl
many_replicated (suc k) x = ap suc (many_replicated k x)

new_person : (s : Settings) (n : ℕ) (id : HostId) (inc : ℕ) → IsPerson n 0 id (new_host s id inc 0)
new_person s n id inc = record { name = new_named s id inc 0; among = new_among s id (IsBelow n) inc 0; seq = omega arith }

pub first_peopled : (s : Settings) (n boxes : ℕ) (answers : List Answer) → s.hosts ≡ n → IsPeopled n 0 (new_world s (replicate s.hosts 1) 0 boxes answers)
unfolding new_world
first_peopled s n boxes answers e = record {
  many = many_new s (replicate s.hosts 1) 0 ∙ (many_replicated s.hosts 1 ∙ e);
  hosts = λ id h at.
      let fresh = fresh_at s (replicate s.hosts 1) 0 id.0 h at in
      let zero_first : 0 + id.0 ≡ id.0 = omega arith in
      let is : h ≡ new_host s id fresh.inc 0 = fresh.is ∙ ap (λ (m : ℕ). new_host s (record { 0 = m }) fresh.inc 0) zero_first in
      subst (λ (x : Host). IsPerson n 0 id x) (sym is) (new_person s n id fresh.inc);
  packets = tt;
}
