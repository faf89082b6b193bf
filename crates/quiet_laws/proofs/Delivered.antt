-- A packet is delivered: the message in progress goes on.
use Rattle.std.proofs.Common.{◌≡◌, ℕ, suc, ◌+◌, ◌<◌, ◌≤◌, ◌⊎◌, inl, inr, Some, List, [], ◌∷◌, ◌++◌, length, refl, sym, ap, subst, ◌∙◌, arith, append_assoc}
use Rattle.std.specs.Prelude.{map}
use Rattle.std.proofs.lemmas.Bool.{cases_lt}
use Rattle.std.proofs.lemmas.List.{map-append}
use Rattle.homa_plain.specs.declared.packet.Role.{Role}
use Rattle.homa_plain.specs.declared.settings.Settings.{Settings}
use Rattle.homa_plain.specs.Packets.{Packet}
use Rattle.homa_plain.specs.Host.{Host, Told, Says, Sends, packets_in}
use Rattle.homa_plain.specs.Rules.{Answer}
use Rattle.homa_plain.specs.Work.{Work, begun}
use Rattle.homa_plain.specs.Steps.{comes, ended, arrival_step}
use Rattle.homa_plain.specs.World.{World, SentPacket, stamped}
use Rattle.quiet_laws.specs.Flows.{other, flows}
use Rattle.quiet_laws.specs.Hosts.{AreOurs, AreAside}
use Rattle.quiet_laws.proofs.Flowing.{flows-append}
use Rattle.quiet_laws.proofs.Stamps.{packets_of-stamped, new_next}
use Rattle.quiet_laws.proofs.Stands.{Times, IsSender, IsReceiver, SenderEnded, ReceiverEnded}
use Rattle.quiet_laws.proofs.Ended.{sender_ends, receiver_ends}
use Rattle.quiet_laws.proofs.Arrivals.{Came}
use Rattle.quiet_laws.proofs.Switch.{aside_flows}
use Rattle.quiet_laws.proofs.Worlds.{world_by}
use Rattle.quiet_laws.proofs.Amid.{AreNew, packets_of, answers_by, Amid}
use Rattle.quiet_laws.proofs.Facts.{packets_in-then}

-- ---- lists

pub moved : {X : Type 0} (old : List X) (x : X) (rest fresh new : List X) → (old ++ ((x ∷ rest) ++ fresh)) ++ new ≡ (old ++ x ∷ []) ++ (rest ++ (fresh ++ new))
moved [] x rest fresh new = ap (λ ys. x ∷ ys) (append_assoc rest fresh new)
moved (y ∷ old) x rest fresh new = ap (λ ys. y ∷ ys) (moved old x rest fresh new)

pub length-snoc : {X : Type 0} (xs : List X) (x : X) → length (xs ++ x ∷ []) ≡ suc (length xs)
length-snoc [] x = refl
length-snoc (y ∷ xs) x = ap suc (length-snoc xs x)

pub aside_ours : (role : Role) (s : Settings) (now : ℕ) (told : List Told) → AreAside role s now told → AreOurs s now (packets_in told)
aside_ours role s now [] a = tt
aside_ours role s now (Says e ∷ told) a = aside_ours role s now told a.1
aside_ours role s now (Sends p ∷ told) a = (a.0, aside_ours role s now told a.3)

pub ours-append : (s : Settings) (now : ℕ) (ps qs : List Packet) → AreOurs s now ps → AreOurs s now qs → AreOurs s now (ps ++ qs)
ours-append s now [] qs a b = b
ours-append s now (p ∷ ps) qs a b = (a.0, ours-append s now ps qs a.1 b)

pub new-append : (s : Settings) (clock : ℕ) (xs ys : List SentPacket) → AreNew s clock xs → AreNew s clock ys → AreNew s clock (xs ++ ys)
new-append s clock [] ys a b = b
new-append s clock (x ∷ xs) ys a b = (a.0, new-append s clock xs ys a.1 b)

pub packets_of-append : (xs ys : List SentPacket) → packets_of (xs ++ ys) ≡ packets_of xs ++ packets_of ys
packets_of-append xs ys = map-append (λ (x : SentPacket). x.packet) xs ys

-- the packets of a step that told something aside and then sent pieces or GRANTs
pub stamped_told : (tick : ℕ) (aside : List Told) (sent : List Packet) (told : List Told) → told ≡ aside ++ map Sends sent
    → packets_of (stamped tick (packets_in told)) ≡ packets_in aside ++ sent
stamped_told tick aside sent told e = packets_of-stamped tick (packets_in told) ∙ ap packets_in e ∙ packets_in-then aside sent

-- ---- the end of a step

module _ (s : Settings) (n : ℕ) (t : Times) (now : ℕ) (p : Packet) (answer : Answer) (h : Host) where
  -- a packet has come to the message's sender, and the step ends
  pub sender_steps : (top may : ℕ) → 1 ≤ s.seg → top ≤ may → may ≤ n
      → (side role : Role) (c : Came side (IsSender role s n top may t) s now (comes s (Some p) answer (begun h now)))
      → SenderEnded role s n top may t (record { host = c.host; told = c.told }) (arrival_step s h now (Some p) answer)
  unfolding arrival_step
  sender_steps top may some sent within side role c =
      subst (λ w. SenderEnded role s n top may t (record { host = c.host; told = c.told }) (ended s w)) {x = record { host = c.host; told = c.told }} (sym c.is)
      (sender_ends s n top may t some sent within role c.told c.host c.stands)

  pub receiver_steps : (here given : ℕ) → 1 ≤ s.overcommit → here < n → given ≤ n
      → (side role : Role) (c : Came side (IsReceiver role s n here given t) s now (comes s (Some p) answer (begun h now)))
      → ReceiverEnded role s n here given t (record { host = c.host; told = c.told }) (arrival_step s h now (Some p) answer)
  unfolding arrival_step
  receiver_steps here given some short within side role c =
      subst (λ w. ReceiverEnded role s n here given t (record { host = c.host; told = c.told }) (ended s w))
      {x = record { host = c.host; told = c.told }} (sym c.is)
      (receiver_ends s n here given t some short within role c.told c.host c.stands)

-- ---- the world after a delivery

module _ (role : Role) (s : Settings) (n m clock d end told : ℕ) (x : SentPacket) (rest : List SentPacket) (w : World)
    (a : Amid role s n m clock d end told (x ∷ rest) w) where
  abbrev pub all_packets : List SentPacket
  all_packets = a.old ++ ((x ∷ rest) ++ a.fresh)

  -- the packets behind the fresh ones
  behind : (aside v_told : List Told) (sent : List Packet) (top given top' given' : ℕ) → v_told ≡ aside ++ map Sends sent
      → AreAside (other role) s (clock + s.skew) aside
      → flows n role end told (packets_of a.fresh) top given → flows n role top given sent top' given'
      → flows n role end told (packets_of (a.fresh ++ stamped clock (packets_in v_told))) top' given'
  behind aside v_told sent top given top' given' e few old new =
      subst (λ ps. flows n role end told ps top' given')
      (sym (packets_of-append a.fresh (stamped clock (packets_in v_told)) ∙ ap (λ ps. packets_of a.fresh ++ ps) (stamped_told clock aside sent v_told e)))
      (flows-append n role (packets_of a.fresh) (packets_in aside ++ sent) end told top given top' given' old
      (flows-append n role (packets_in aside) sent top given top given top' given' (aside_flows role s (clock + s.skew) n top given aside few) new))

  newer_too : (aside v_told : List Told) (sent : List Packet) → v_told ≡ aside ++ map Sends sent → AreAside (other role) s (clock + s.skew) aside
      → AreOurs s (clock + s.skew) sent
      → AreNew s (clock + 1) (a.fresh ++ stamped clock (packets_in v_told))
  newer_too aside v_told sent e few ours =
      new-append s (clock + 1) a.fresh (stamped clock (packets_in v_told)) a.newer
      (new_next s clock (packets_in v_told)
      (subst (AreOurs s (clock + s.skew)) (sym (ap packets_in e ∙ packets_in-then aside sent))
      (ours-append s (clock + s.skew) (packets_in aside) sent (aside_ours (other role) s (clock + s.skew) aside few) ours)))

  -- the message's sender got it
  pub sender_on : (may : ℕ) (t : Times) (aside : List Told) (h : Host) (v : Work) → AreAside (other role) s (clock + s.skew) aside
      → SenderEnded role s n a.top may t (record { host = h; told = aside }) v → t.last ≡ clock + s.skew → t.refilled ≡ a.at_sender.refilled
      → flows n role a.here may (packets_of rest) end told
      → (clock + s.skew ≤ t.base + 1) ⊎ (may < told) → (end < a.top → clock + s.skew ≤ t.base)
      → Amid role s n m clock (suc d) end told rest
      (world_by role s clock a.spares v.host a.receiver (all_packets ++ stamped clock (packets_in v.told)) (answers_by role m))
  sender_on may t aside h v few e last refilled goes_on ok anew = record {
    here = a.here;
    top = e.end;
    may = may;
    given = a.given;
    at_sender = e.times;
    at_receiver = a.at_receiver;
    sender = v.host;
    receiver = a.receiver;
    old = a.old ++ x ∷ [];
    fresh = a.fresh ++ stamped clock (packets_in v.told);
    spares = a.spares;
    is = ap (λ ps. world_by role s clock a.spares v.host a.receiver ps (answers_by role m)) (moved a.old x rest a.fresh (stamped clock (packets_in v.told)));
    so_many = length-snoc a.old x ∙ ap suc a.so_many;
    sends = e.host;
    gets = a.gets;
    new = a.new.1;
    newer = newer_too aside v.told e.sent e.told few (subst (λ i. AreOurs s i e.sent) last e.ours);
    first = goes_on;
    then_ = behind aside v.told e.sent a.top a.given e.end a.given e.told few a.then_ (e.flow a.given);
    sent = e.within;
    granted = a.granted;
    missing = a.missing;
    ahead = a.ahead;
    some = a.some;
    sender_ok = elim e.later [
      | inl same ↦ elim ok [ inl o ↦ inl (omega (arith, o, same)) | inr o ↦ inr o ]
      | inr now ↦ inl (omega (arith, now, last))
    ];
    receiver_ok = a.receiver_ok;
    sender_anew = λ more. elim (cases_lt a.top e.end) [
      | inl up ↦ omega (arith, e.anew up, last)
      | inr still ↦ elim e.later [ inl same ↦ omega (arith, same, anew (omega (arith, more, still))) | inr now ↦ omega (arith, now, last) ]
    ];
    receiver_anew = a.receiver_anew;
    sender_last = omega (arith, e.refilled, refilled, a.sender_last);
    receiver_last = a.receiver_last;
  }

  -- its receiver got it
  pub receiver_on : (here : ℕ) (t : Times) (aside : List Told) (h : Host) (v : Work) → AreAside (other role) s (clock + s.skew) aside
      → ReceiverEnded role s n here a.given t (record { host = h; told = aside }) v → t.last ≡ clock + s.skew → t.refilled ≡ a.at_receiver.refilled
      → flows n role here a.may (packets_of rest) end told → here < n
      → (clock + s.skew ≤ t.base + 1) ⊎ (here < end) → (told < a.given → clock + s.skew ≤ t.base)
      → Amid role s n m clock (suc d) end told rest
      (world_by role s clock a.spares a.sender v.host (all_packets ++ stamped clock (packets_in v.told)) (answers_by role m))
  receiver_on here t aside h v few e last refilled goes_on short ok anew = record {
    here = here;
    top = a.top;
    may = a.may;
    given = e.now_given;
    at_sender = a.at_sender;
    at_receiver = e.times;
    sender = a.sender;
    receiver = v.host;
    old = a.old ++ x ∷ [];
    fresh = a.fresh ++ stamped clock (packets_in v.told);
    spares = a.spares;
    is = ap (λ ps. world_by role s clock a.spares a.sender v.host ps (answers_by role m)) (moved a.old x rest a.fresh (stamped clock (packets_in v.told)));
    so_many = length-snoc a.old x ∙ ap suc a.so_many;
    sends = a.sends;
    gets = e.host;
    new = a.new.1;
    newer = newer_too aside v.told e.sent e.told few (subst (λ i. AreOurs s i e.sent) last e.ours);
    first = goes_on;
    then_ = behind aside v.told e.sent a.top a.given a.top e.now_given e.told few a.then_ (e.flow a.top);
    sent = a.sent;
    granted = e.within;
    missing = short;
    ahead = e.ahead;
    some = omega (arith, a.some, e.up);
    sender_ok = a.sender_ok;
    receiver_ok = elim e.later [
      | inl same ↦ elim ok [ inl o ↦ inl (omega (arith, o, same)) | inr o ↦ inr o ]
      | inr now ↦ inl (omega (arith, now, last))
    ];
    sender_anew = a.sender_anew;
    receiver_anew = λ more. elim (cases_lt a.given e.now_given) [
      | inl up ↦ omega (arith, e.anew up, last)
      | inr still ↦ elim e.later [ inl same ↦ omega (arith, same, anew (omega (arith, more, still))) | inr now ↦ omega (arith, now, last) ]
    ];
    sender_last = a.sender_last;
    receiver_last = omega (arith, e.refilled, refilled, a.receiver_last);
  }
