-- The GRANTs of a step, one after the other: each is allowed by the lines before it, and each message stays within its window.
use Rattle.std.proofs.Common.{◌≡◌, ℕ, ◌+◌, ◌≤◌, Bool, true, false, ◌&&◌, cond, ◌⊎◌, inl, inr, Option, Some, None, map, refl, sym, ap, subst, ◌∙◌, arith}
use Rattle.std.specs.Prelude.{Contains, max, ◌==◌, not, nat_lt}
use Rattle.std.specs.Option.{option_map}
use Rattle.std.proofs.lemmas.Bool.{cond_both, true≢false, false_from_ne_true}
use Rattle.plain_sets.specs.Maps.{get, len}
use Rattle.homa_plain.specs.declared.id.HostId.{HostId}
use Rattle.homa_plain.specs.declared.packet.Role.TheVariants.{Client, Server}
use Rattle.homa_plain.specs.declared.packet.Body.TheVariants as body
use Rattle.homa_plain.specs.declared.settings.Settings.{Settings}
use Rattle.homa_plain.specs.Calls.{is_host, is_call}
use Rattle.homa_plain.specs.Grants.{Message, Granted, grants}
use Rattle.homa_plain.specs.Packets.{Packet, send_line, sender, receiver}
use Rattle.trace_rules.specs.Parts.{Part, is_message, raised}
use Rattle.homa_plain.specs.Host.{Host}
use Rattle.homa_plain.specs.Timers.{Place, OfClient, OfServer}
use Rattle.homa_plain.specs.Sending.{Arriving}
use Rattle.trace_rules.specs.View.{View, Progress}
use Rattle.trace_rules.specs.Seen.{seen}
use Rattle.trace_rules.specs.Granting.{IsAllowed, IsWithin, Granting, allowed}
use Rattle.trace_rules.specs.Granting as lines
use Rattle.homa_plain.proofs.CallOrder.{calls_are, hosts_are}
use Rattle.trace_steps.proofs.Lines.{inner_same}
use Rattle.trace_steps.proofs.PartLines.{request_granted, response_granted}
use Rattle.step_moves.proofs.Hosts.{some_is, none_some}
use Rattle.step_moves.proofs.Chosen.{IsGrantAt, grants_of, step_grants_stand}
use Rattle.trace_granting.proofs.Messages.{part_in}
use Rattle.trace_granting.proofs.Allowed.{IsSeenAs, IsMatched, role_at, call_at, grant_allowed}
use Rattle.trace_granting.proofs.Window.{IsBoundedAt, NowWithin, parts_within}

-- ---- what a GRANT's line does to the parts

-- what it leaves of a part: all but the granted end
pub record IsRaised (offset : ℕ) (x y : Part) : Type 0 where
  pub host : y.host ≡ x.host
  pub peer : y.peer ≡ x.peer
  pub long : y.length ≡ x.length
  pub arrived : y.arrived ≡ x.arrived
  pub order : y.order ≡ x.order
  pub granted : y.granted ≤ max x.granted offset

pub raised_is : (from to : HostId) (offset : ℕ) (x : Part) → IsRaised offset x (raised from to offset x)
raised_is from to offset x =
    cond_both (is_host x.host from && is_host x.peer to && is_message x) _ _ (IsRaised offset x)
    (λ _. record { host = refl; peer = refl; long = refl; arrived = refl; order = refl; granted = omega arith })
    (λ _. record { host = refl; peer = refl; long = refl; arrived = refl; order = refl; granted = omega arith })

-- where the hosts are the message's, it is raised
raised_here : (from to : HostId) (offset : ℕ) (x : Part) → x.host ≡ from → x.peer ≡ to → is_message x ≡ true
    → (raised from to offset x).granted ≡ max x.granted offset
raised_here from to offset x a b c =
    ap (λ t. (cond (t && is_host x.peer to && is_message x) (record x { granted = max x.granted offset }) x).granted) ((hosts_are x.host from).1 a)
    ∙ ap (λ t. (cond (t && is_message x) (record x { granted = max x.granted offset }) x).granted) ((hosts_are x.peer to).1 b)
    ∙ ap (λ t. (cond t (record x { granted = max x.granted offset }) x).granted) c

-- a line raises the granted end of one place's message, and leaves all other parts
pub record RaisesAt (place : Place) (change : Part → Part) (m n : Progress) : Type 0 where
  pub here : part_in n place ≡ option_map change (part_in m place)
  pub others : (q : Place) → (q ≡ place → ⊥) → part_in n q ≡ part_in m q

pub request_raises : (v : View) (n : ℕ) (p : Packet) (offset prio : ℕ) → p.role ≡ Server → p.body ≡ body.Grant offset prio
    → RaisesAt (OfServer p.id) (raised (sender p) (receiver p) offset) v.now (seen v (send_line n p)).now
request_raises v n p offset prio role what = record {
  here = (request_granted v n p offset prio p.id role what).0
      ∙ ap (λ b. cond b (option_map (raised (sender p) (receiver p) offset) (get v.now.requests p.id)) (get v.now.requests p.id))
      ((calls_are p.id p.id).1 refl);
  others = other;
} where
  other : (q : Place) → (q ≡ OfServer p.id → ⊥) → part_in (seen v (send_line n p)).now q ≡ part_in v.now q
  other (OfClient q) apart = (request_granted v n p offset prio q role what).1
  other (OfServer q) apart =
      (request_granted v n p offset prio q role what).0
      ∙ ap (λ b. cond b (option_map (raised (sender p) (receiver p) offset) (get v.now.requests q)) (get v.now.requests q))
      (false_from_ne_true (is_call q p.id) (λ t. apart (ap OfServer ((calls_are q p.id).0 t))))

pub response_raises : (v : View) (n : ℕ) (p : Packet) (offset prio : ℕ) → p.role ≡ Client → p.body ≡ body.Grant offset prio
    → RaisesAt (OfClient p.id) (raised (sender p) (receiver p) offset) v.now (seen v (send_line n p)).now
response_raises v n p offset prio role what = record {
  here = (response_granted v n p offset prio p.id role what).0
      ∙ ap (λ b. cond b (option_map (raised (sender p) (receiver p) offset) (get v.now.responses p.id)) (get v.now.responses p.id))
      ((calls_are p.id p.id).1 refl);
  others = other;
} where
  other : (q : Place) → (q ≡ OfClient p.id → ⊥) → part_in (seen v (send_line n p)).now q ≡ part_in v.now q
  other (OfServer q) apart = (response_granted v n p offset prio q role what).1
  other (OfClient q) apart =
      (response_granted v n p offset prio q role what).0
      ∙ ap (λ b. cond b (option_map (raised (sender p) (receiver p) offset) (get v.now.responses q)) (get v.now.responses q))
      (false_from_ne_true (is_call q p.id) (λ t. apart (ap OfClient ((calls_are q p.id).0 t))))

-- ---- places, one or another

pub same_place : (p q : Place) → (p ≡ q) ⊎ (p ≡ q → ⊥)
same_place (OfClient a) (OfClient b) = by_test (is_call a b) refl where
  inject : OfClient a ≡ OfClient b → a ≡ b
  inject e = cc

  by_test : (c : Bool) → is_call a b ≡ c → (OfClient a ≡ OfClient b) ⊎ (OfClient a ≡ OfClient b → ⊥)
  by_test true e = inl (ap OfClient ((calls_are a b).0 e))
  by_test false e = inr (λ f. true≢false (sym ((calls_are a b).1 (inject f)) ∙ e))
same_place (OfServer a) (OfServer b) = by_test (is_call a b) refl where
  inject : OfServer a ≡ OfServer b → a ≡ b
  inject e = cc

  by_test : (c : Bool) → is_call a b ≡ c → (OfServer a ≡ OfServer b) ⊎ (OfServer a ≡ OfServer b → ⊥)
  by_test true e = inl (ap OfServer ((calls_are a b).0 e))
  by_test false e = inr (λ f. true≢false (sym ((calls_are a b).1 (inject f)) ∙ e))
same_place (OfClient a) (OfServer b) = inr (λ e. cc)
same_place (OfServer a) (OfClient b) = inr (λ e. cc)

-- each part after such a line is one before it, its granted end aside
pub record IsFromPart (offset : ℕ) (m : Progress) (place : Place) (y : Part) : Type 0 where
  pub part : Part
  pub stands : part_in m place ≡ Some part
  pub same : IsRaised offset part y

part_before : (from to : HostId) (offset : ℕ) (at : Place) (m n : Progress) → RaisesAt at (raised from to offset) m n → (q : Place) (y : Part)
    → part_in n q ≡ Some y → IsFromPart offset m q y
part_before from to offset at m n r q y is = by_place (same_place q at) where
  some : (o : Option Part) → part_in m at ≡ o → option_map (raised from to offset) o ≡ Some y → IsFromPart offset m at y
  some None e f = absurd (none_some y f)
  some (Some x) e f = record { part = x; stands = e; same = subst (IsRaised offset x) (some_is (raised from to offset x) y f) (raised_is from to offset x) }

  by_place : (q ≡ at) ⊎ (q ≡ at → ⊥) → IsFromPart offset m q y
  by_place (inl same) = subst (λ (z : Place). IsFromPart offset m z y) (sym same) (some (part_in m at) refl (sym r.here ∙ ap (part_in n) (sym same) ∙ is))
  by_place (inr other) =
      record {
        part = y;
        stands = sym (r.others q other) ∙ is;
        same = record { host = refl; peer = refl; long = refl; arrived = refl; order = refl; granted = omega arith };
      }

-- ---- the lines keep the messages of the host at the step's start

message_same : (x y : Part) → y.arrived ≡ x.arrived → y.length ≡ x.length → is_message y ≡ is_message x
message_same x y a b i = nat_lt 0 (len (a i)) && not (len (a i) == b i)

pub matched_raised : (h : Host) (host from to : HostId) (offset : ℕ) (at : Place) (m n : Progress) → RaisesAt at (raised from to offset) m n
    → IsMatched h host m → IsMatched h host n
matched_raised h host from to offset at m n r k = record {
  forth = λ place a stands. forth place a (k.forth place a stands);
  back = λ place y is mine message.
      let b = part_before from to offset at m n r place y is in
      k.back place b.part b.stands (sym b.same.host ∙ mine) (sym (message_same b.part y b.same.arrived b.same.long) ∙ message);
  orders = λ p q a b x y ast bt xt yt.
      let c = part_before from to offset at m n r p x xt in
      let d = part_before from to offset at m n r q y yt in
      k.orders p q a b c.part d.part ast bt c.stands d.stands ∙ ap (λ (z : ℕ). nat_lt z d.part.order) (sym c.same.order)
      ∙ ap (nat_lt x.order) (sym d.same.order);
  own = k.own;
} where
  forth : (place : Place) (a : Message) → IsSeenAs host m place a → IsSeenAs host n place a
  forth place a s = by_place (same_place place at) where
    by_place : (place ≡ at) ⊎ (place ≡ at → ⊥) → IsSeenAs host n place a
    by_place (inr other) =
        record { part = s.part; stands = r.others place other ∙ s.stands; at = s.at; peer = s.peer; long = s.long; arrived = s.arrived; message = s.message }
    by_place (inl same) =
        let y : Part = raised from to offset s.part in
        let e = raised_is from to offset s.part in
        record {
          part = y;
          stands = ap (part_in n) same ∙ r.here ∙ ap (option_map (raised from to offset)) (ap (part_in m) (sym same) ∙ s.stands);
          at = e.host ∙ s.at;
          peer = e.peer ∙ s.peer;
          long = e.long ∙ s.long;
          arrived = ap len e.arrived ∙ s.arrived;
          message = message_same s.part y e.arrived e.long ∙ s.message;
        }

-- ---- one GRANT

module _ (s : Settings) (h : Host) (host : HostId) (u : View) (n : ℕ) (k : IsMatched h host u.now) (near : NowWithin s u) (g : Granted Arriving)
    (c : Contains (grants_of s h) g) (p : Packet)
    (role : p.role ≡ role_at g.to.place) (call : p.id ≡ call_at g.to.place) (what : p.body ≡ body.Grant g.offset g.prio) (by : sender p ≡ host)
    (to : receiver p ≡ g.to.message.peer)
    (raises : RaisesAt g.to.place (raised (sender p) (receiver p) g.offset) u.now (seen u (send_line n p)).now) where
  abbrev u' : View
  u' = seen u (send_line n p)

  abbrev pub stood : IsGrantAt s h g
  stood = step_grants_stand s h g c

  abbrev pub seen_there : IsSeenAs host u.now g.to.place g.to.message
  seen_there = k.forth g.to.place g.to.message stood.stands

  abbrev pub x : Part
  x = seen_there.part

  -- it is allowed
  is_allowed : x.granted ≡ g.to.message.granted → IsAllowed u (sender p) (receiver p) p.role p.id p.body
  unfolding allowed
  is_allowed same =
      let listed = grant_allowed h host u.now k s.overcommit s.window g c x seen_there.stands same in
      let by_settings =
      subst (λ (t : Settings). Contains (map lines.told (grants lines.message t.overcommit t.window (lines.incoming u.now host)))
      (record { to = x.peer; role = role_at g.to.place; id = call_at g.to.place; offset = g.offset; prio = g.prio })) (sym near.settings) listed in
      let by_host = subst
      (λ (y : HostId). Contains (map lines.told (grants lines.message u.settings.overcommit u.settings.window (lines.incoming u.now y)))
      (record { to = x.peer; role = role_at g.to.place; id = call_at g.to.place; offset = g.offset; prio = g.prio })) (sym by) by_settings in
      let by_peer : x.peer ≡ receiver p = seen_there.peer ∙ sym to in
      subst (IsAllowed u (sender p) (receiver p) p.role p.id) (sym what)
      (subst (Contains (map lines.told (grants lines.message u.settings.overcommit u.settings.window (lines.incoming u.now (sender p)))))
      (λ i. record { to = by_peer i; role = sym role i; id = sym call i; offset = g.offset; prio = g.prio }) by_host)

  end_within : g.offset ≤ len x.arrived + s.window
  end_within = omega (arith, stood.offset, seen_there.arrived)

  -- and each part stays within its window
  place_within : (q : Place) → IsBoundedAt s.window (part_in u.now q) → IsBoundedAt s.window (part_in u'.now q)
  place_within q bound = by_place (same_place q g.to.place) where
    here : (o : Option Part) → part_in u.now g.to.place ≡ o → IsBoundedAt s.window (option_map (raised (sender p) (receiver p) g.offset) o)
    here None e = tt
    here (Some y) e =
        let same : x ≡ y = some_is x y (sym seen_there.stands ∙ e) in
        let r = raised_is (sender p) (receiver p) g.offset y in
        let old : y.granted ≤ len y.arrived + s.window = subst (IsBoundedAt s.window) e (at_place g.to.place) in
        let end : g.offset ≤ len y.arrived + s.window = subst (λ (z : Part). g.offset ≤ len z.arrived + s.window) same end_within in
        omega (arith, r.granted, old, end, ap len r.arrived) where
          at_place : (q : Place) → IsBoundedAt s.window (part_in u.now q)
          at_place (OfClient id) = (near.now id).1
          at_place (OfServer id) = (near.now id).0

    by_place : (q ≡ g.to.place) ⊎ (q ≡ g.to.place → ⊥) → IsBoundedAt s.window (part_in u'.now q)
    by_place (inl same) = subst (IsBoundedAt s.window) (sym (ap (part_in u'.now) same ∙ raises.here)) (here (part_in u.now g.to.place) refl)
    by_place (inr other) = subst (IsBoundedAt s.window) (sym (raises.others q other)) bound

  pub near_after : NowWithin s u'
  near_after = record {
    settings = (inner_same u (send_line n p) tt).settings ∙ near.settings;
    now = λ id. (place_within (OfServer id) (near.now id).0, place_within (OfClient id) (near.now id).1);
  }

  pub lawful : x.granted ≡ g.to.message.granted → Granting u (send_line n p)
  lawful same = (is_allowed same, parts_within s.window u' (ap (λ (t : Settings). t.window) near_after.settings) near_after.now)

  -- the granted end of the message is the GRANT's
  pub granted_end : x.granted ≡ g.to.message.granted → (y : Part) → part_in u'.now g.to.place ≡ Some y → y.granted ≡ g.offset
  granted_end same y is =
      let z : Part = raised (sender p) (receiver p) g.offset x in
      let e : z ≡ y = some_is z y (sym (raises.here ∙ ap (option_map (raised (sender p) (receiver p) g.offset)) seen_there.stands) ∙ is) in
      let top : z.granted ≡ max x.granted g.offset =
      raised_here (sender p) (receiver p) g.offset x (seen_there.at ∙ sym by) (seen_there.peer ∙ sym to) seen_there.message in
      ap (λ (t : Part). t.granted) (sym e) ∙ top ∙ (let m : max x.granted g.offset ≡ g.offset = omega (arith, same, stood.more) in m)
