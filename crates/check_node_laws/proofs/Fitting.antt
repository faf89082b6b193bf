-- The lines of a trace that obeys all laws fit their types, where what each tells of itself does.
use Rattle.std.proofs.Common.{◌≡◌, inl, inr, ◌≤◌, ◌<◌, ◌^◌, ℕ, Bool, true, false, Option, None, Some, List, [], ◌∷◌, length, refl, sym, ap, ◌∙◌, subst, arith}
use Rattle.std.specs.Prelude.{is_some, if◌then◌else◌, map, filter, Contains}
use Rattle.std.specs.List.{AllByRecursion}
use Rattle.std.specs.Option.{IfSome}
use Rattle.std.proofs.lemmas.List.{length-append}
use Rattle.std.proofs.lemmas.Bool.{cond_both, false≢true}
use Rattle.plain_sets.specs.Maps.{get, insert}
use Rattle.plain_sets.proofs.MapLaws.{get-insert}
use Rattle.plain_sets.proofs.OrderSame.{at_head}
use Rattle.homa_plain.specs.declared.id.CallId.{CallId}
use Rattle.homa_plain.specs.declared.id.HostId.{HostId}
use Rattle.homa_plain.specs.declared.packet.Body.{Body}
use Rattle.homa_plain.specs.declared.packet.Body.TheVariants as body
use Rattle.homa_plain.specs.declared.packet.Role.{Role}
use Rattle.homa_plain.specs.declared.packet.Role.TheVariants.{Client, Server}
use Rattle.homa_plain.specs.declared.settings.Settings.{Settings}
use Rattle.homa_plain.specs.declared.entry.Why.{Why}
use Rattle.homa_plain.specs.declared.entry.Why.TheVariants.{Timeout, Forgotten}
use Rattle.homa_plain.specs.Calls.{is_call}
use Rattle.homa_plain.specs.Settings.{IsValid}
use Rattle.homa_plain.specs.Wire.{IsCall, FitsKind}
use Rattle.homa_plain.specs.Text.{settings_numbers}
use Rattle.homa_plain.specs.Entries.{PlainEntry, PlainSettings, PlainCall, PlainClock, PlainJunk, PlainStale, PlainSend, PlainRun, PlainDone, PlainFail}
use Rattle.homa_plain.specs.Entries.{PlainDrop, PlainGaps, PlainBury, PlainFree, PlainFullRows, PlainFullPages, PlainBalance, PlainRecv}
use Rattle.homa_plain.specs.Packets.{sender_of, receiver_of}
use Rattle.trace_rules.specs.View.{View, Called, Sent, Ran}
use Rattle.trace_rules.specs.Seen.{seen, begun, delivered, delivery, refused, failed, is_delivery_to}
use Rattle.trace_rules.specs.Laws.{IsReturned, answers, is_run_in}
use Rattle.trace_rules.specs.Judge.{Obeys}
use Rattle.trace_rules.specs.Shape.{IsMade}
use Rattle.homa_plain.proofs.CallOrder.{call_total, calls_are}
use Rattle.world_laws.specs.Sound.{IsMessage, AreCutoffs}
use Rattle.check_reader.specs.Told.{FitsHost, FitsCall, FitsId, FitsBody, FitsCutoffs, Fits, IsUsual, IsBareButData}
use Rattle.check_node_laws.proofs.Short.{AreShort}
use Rattle.check_node_laws.proofs.Said.{IsTrue}

-- ---- what lines say fits

-- what a `call` line says
abbrev pub FitsCalled : CallId → Called → Type 0
FitsCalled id c = FitsId id × FitsHost c.server × (c.service < 2 ^ 8) × IsMessage c.request

pub record AreFit (v : View) : Type 0 where
  pub hosts : v.settings.hosts ≤ 32
  pub calls : (q : CallId) (c : Called) → get v.calls q ≡ Some c → FitsCalled q c
  pub runs : AllByRecursion (λ (r : Ran). IsMessage r.response) v.runs
  pub packets : length v.packets ≤ v.place

-- the same calls, runs and packets
record SameFit (v u : View) : Type 0 where
  settings : u.settings ≡ v.settings
  calls : u.calls ≡ v.calls
  runs : u.runs ≡ v.runs
  packets : u.packets ≡ v.packets

fit_as : (v u : View) → SameFit v u → v.place ≤ u.place → AreFit v → AreFit u
fit_as v u e l k = record {
  hosts = subst (λ (s : Settings). s.hosts ≤ 32) (sym e.settings) k.hosts;
  calls = λ q c at. k.calls q c (ap (λ m. get m q) (sym e.calls) ∙ at);
  runs = subst (AllByRecursion (λ (r : Ran). IsMessage r.response)) (sym e.runs) k.runs;
  packets = omega (arith, ap length e.packets, k.packets, l);
}

same_delivered : (v : View) (o : Option Sent) → SameFit v (delivered v o)
same_delivered v None = record { settings = refl; calls = refl; runs = refl; packets = refl }
same_delivered v (Some p) = record { settings = refl; calls = refl; runs = refl; packets = refl }

same_refused : (v : View) (host : HostId) (id : CallId) → SameFit v (refused v host id)
same_refused v host id =
    cond_both (is_delivery_to v host id) _ _ (SameFit v) (λ _. record { settings = refl; calls = refl; runs = refl; packets = refl })
    (λ _. record { settings = refl; calls = refl; runs = refl; packets = refl })

same_failed : (v : View) (id : CallId) (why : Why) → SameFit v (failed v id why)
same_failed v id Timeout = record { settings = refl; calls = refl; runs = refl; packets = refl }
same_failed v id Forgotten = record { settings = refl; calls = refl; runs = refl; packets = refl }

-- with another place
placed : (v u : View) (place : ℕ) (ended : Bool) → SameFit v u → SameFit v (record u { place = place; ended = ended })
placed v u place ended e = record { settings = e.settings; calls = e.calls; runs = e.runs; packets = e.packets }

plain : (v : View) (place : ℕ) → SameFit v v
plain v place = record { settings = refl; calls = refl; runs = refl; packets = refl }

-- a new call
called_fit : (v : View) (id : CallId) (c : Called) → FitsCalled id c → ((q : CallId) (d : Called) → get v.calls q ≡ Some d → FitsCalled q d)
    → (q : CallId) (d : Called) → get (insert v.calls id c) q ≡ Some d → FitsCalled q d
called_fit v id c new old q d at = by_call (is_call q id) refl (sym (get-insert call_total v.calls id c q) ∙ at) where
  by_call : (b : Bool) → is_call q id ≡ b → (if b then Some c else get v.calls q) ≡ Some d → FitsCalled q d
  by_call true e h = subst (λ (x : CallId). FitsCalled x d) (sym ((calls_are q id).0 e)) (let it : c ≡ d = cc in subst (FitsCalled id) it new)
  by_call false e h = old q d h

pub next_fit : (v : View) (line : PlainEntry) → AreFit v → Obeys v line → IsTrue v line → AreFit (seen v line)
unfolding seen
next_fit v (PlainSettings s) k o t = record { hosts = t.0.in_range.1; calls = k.calls; runs = k.runs; packets = omega (arith, k.packets) }
next_fit v (PlainCall id server service bytes) k o t =
    let new = o.shape.1 in
    let c : Called = record { server = server; service = service; request = bytes } in
    let host : FitsHost id.client = omega (arith, new.from_host, k.hosts) in
    let other : FitsHost server = omega (arith, new.to_host, k.hosts) in
    record {
      hosts = k.hosts;
      calls = called_fit v id c ((host, (t.0.0.1, t.0.0.2)), other, t.0.1, (new.message, t.0.2)) k.calls;
      runs = k.runs;
      packets = omega (arith, k.packets);
    }
next_fit v (PlainClock now) k o t = record { hosts = k.hosts; calls = k.calls; runs = k.runs; packets = omega (arith, k.packets) }
next_fit v (PlainRecv host from bytes) k o t =
    fit_as v (seen v (PlainRecv host from bytes)) (let e = same_delivered (begun v) (delivery v (PlainRecv host from bytes)) in
    record { settings = e.settings; calls = e.calls; runs = e.runs; packets = e.packets }) (omega arith) k
next_fit v (PlainSend number from to inc role id level what payload) k o t = record {
  hosts = k.hosts;
  calls = k.calls;
  runs = k.runs;
  packets = (let p : Sent = record { from = from; to = to; inc = inc; role = role; id = id; body = what; payload = payload } in
      omega (arith, length-append v.packets (p ∷ []), k.packets));
}
next_fit v (PlainRun host id service request response hold) k o t =
    record { hosts = k.hosts; calls = k.calls; runs = (t.0.1.0, k.runs); packets = omega (arith, k.packets) }
next_fit v (PlainFail id why) k o t =
    fit_as v (seen v (PlainFail id why)) (let e = same_failed v id why in
    record { settings = e.settings; calls = e.calls; runs = e.runs; packets = e.packets }) (omega arith) k
next_fit v (PlainGaps host id) k o t =
    fit_as v (seen v (PlainGaps host id)) (let e = same_refused v host id in
    record { settings = e.settings; calls = e.calls; runs = e.runs; packets = e.packets }) (omega arith) k
next_fit v (PlainFullRows host id rows limit) k o t =
    fit_as v (seen v (PlainFullRows host id rows limit)) (let e = same_refused v host id in
    record { settings = e.settings; calls = e.calls; runs = e.runs; packets = e.packets }) (omega arith) k
next_fit v (PlainFullPages host id need free) k o t =
    fit_as v (seen v (PlainFullPages host id need free)) (let e = same_refused v host id in
    record { settings = e.settings; calls = e.calls; runs = e.runs; packets = e.packets }) (omega arith) k
next_fit v (PlainDone id bytes) k o t = record { hosts = k.hosts; calls = k.calls; runs = k.runs; packets = omega (arith, k.packets) }
next_fit v (PlainDrop host id) k o t = record { hosts = k.hosts; calls = k.calls; runs = k.runs; packets = omega (arith, k.packets) }
next_fit v (PlainBury host id until) k o t = record { hosts = k.hosts; calls = k.calls; runs = k.runs; packets = omega (arith, k.packets) }
next_fit v (PlainFree host id) k o t = record { hosts = k.hosts; calls = k.calls; runs = k.runs; packets = omega (arith, k.packets) }
next_fit v (PlainBalance host cutoffs) k o t = record { hosts = k.hosts; calls = k.calls; runs = k.runs; packets = omega (arith, k.packets) }
next_fit v (PlainJunk host) k o t = record { hosts = k.hosts; calls = k.calls; runs = k.runs; packets = omega (arith, k.packets) }
next_fit v (PlainStale host at now) k o t = record { hosts = k.hosts; calls = k.calls; runs = k.runs; packets = omega (arith, k.packets) }
next_fit v line k o t = absurd t.0

-- ---- each line fits

-- a call that was made
made_fits : (v : View) (id : CallId) → AreFit v → IsMade v (Some id) → FitsId id
made_fits v id k made = by_call (get v.calls id) refl made where
  by_call : (o : Option Called) → get v.calls id ≡ o → is_some o ≡ true → FitsId id
  by_call None at e = absurd (false≢true e)
  by_call (Some c) at e = (k.calls id c at).0

-- what a packet says
calls_fit : (calls : List (ℕ × ℕ)) → AllByRecursion IsCall calls → AllByRecursion FitsCall calls
calls_fit [] all = tt
calls_fit (c ∷ calls) all = ((all.0.1, all.0.2), calls_fit calls all.1)

ack_fits : (o : Option (ℕ × ℕ)) → IfSome o IsCall → IfSome o FitsCall
ack_fits None all = tt
ack_fits (Some c) all = (all.1, all.2)

bounds_fit : (bounds : List ℕ) → AllByRecursion (λ n. n ≤ 1000000) bounds → AllByRecursion (λ n. n < 2 ^ 32) bounds
bounds_fit [] all = tt
bounds_fit (n ∷ bounds) all = (omega (arith, all.0), bounds_fit bounds all.1)

record FitsPacket (level : ℕ) (what : Body) (payload : List ℕ) : Type 0 where
  level_fits : level < 2 ^ 8
  says : FitsBody what
  usual : IsBareButData level what payload

packet_fits : (role : Role) (level : ℕ) (what : Body) (payload : List ℕ) → FitsKind role level what payload → FitsPacket level what payload
packet_fits role level (body.Data size offset version service ack) payload f = record {
  level_fits = omega (arith, f.level_in_range);
  says = (omega (arith, f.size_in_range.1), omega (arith, f.inside, f.size_in_range.1), f.version_in_range, f.service_in_range, ack_fits ack f.acknowledged);
  usual = tt;
}
packet_fits role level (body.Grant offset prio) payload f =
    record { level_fits = omega (arith, f.0.0); says = (omega (arith, f.1.1), omega (arith, f.2)); usual = f.0 }
packet_fits role level (body.Resend from to prio) payload f =
    record { level_fits = omega (arith, f.0.0); says = (omega (arith, f.1, f.2), omega (arith, f.2), omega (arith, f.3)); usual = f.0 }
packet_fits role level body.Busy payload f = record { level_fits = omega (arith, f.0); says = tt; usual = f }
packet_fits role level (body.Cutoffs c) payload f = record { level_fits = omega (arith, f.0.0); says = (f.1, f.2, bounds_fit c.upto f.3); usual = f.0 }
packet_fits role level (body.Unknown reason) payload f = record { level_fits = omega (arith, f.0.0); says = omega (arith, f.2); usual = f.0 }
packet_fits role level body.NeedAck payload f = record { level_fits = omega (arith, f.0.0); says = tt; usual = f.0 }
packet_fits role level (body.Ack more) payload f = record { level_fits = omega (arith, f.0.0); says = (f.2, calls_fit more f.3); usual = f.0 }

payload_short : (role : Role) (level : ℕ) (what : Body) (payload : List ℕ) → FitsKind role level what payload → length payload ≤ 1400
payload_short role level (body.Data size offset version service ack) payload f = f.payload_in_range.1
payload_short role level (body.Grant offset prio) payload f = omega (arith, ap length f.0.1)
payload_short role level (body.Resend from to prio) payload f = omega (arith, ap length f.0.1)
payload_short role level body.Busy payload f = omega (arith, ap length f.1)
payload_short role level (body.Cutoffs c) payload f = omega (arith, ap length f.0.1)
payload_short role level (body.Unknown reason) payload f = omega (arith, ap length f.0.1)
payload_short role level body.NeedAck payload f = omega (arith, ap length f.0.1)
payload_short role level (body.Ack more) payload f = omega (arith, ap length f.0.1)

-- the two hosts of a packet
ends_fit : (role : Role) (id : CallId) (server from to : HostId) → FitsHost id.client → FitsHost server → from ≡ sender_of role id server
    → to ≡ receiver_of role id server → FitsHost from × FitsHost to
ends_fit Client id server from to a b x y = (subst FitsHost (sym x) a, subst FitsHost (sym y) b)
ends_fit Server id server from to a b x y = (subst FitsHost (sym x) b, subst FitsHost (sym y) a)

-- a response that was given
contained : {X : Type 0} (P : X → Type 0) (xs : List X) (x : X) → AllByRecursion P xs → Contains xs x → P x
contained P [] x all c = absurd (omega (arith, c.1))
contained P (y ∷ ys) x all c = elim (at_head y x ys c) [ inl is ↦ subst P is all.0 | inr rest ↦ contained P ys x all.1 rest ]

responses_fit : (p : Ran → Bool) (runs : List Ran) → AllByRecursion (λ (r : Ran). IsMessage r.response) runs
    → AllByRecursion IsMessage (map (λ (r : Ran). r.response) (filter p runs))
responses_fit p [] all = tt
responses_fit p (r ∷ runs) all = by_test (p r) (responses_fit p runs all.1) where
  by_test : (b : Bool) → AllByRecursion IsMessage (map (λ (x : Ran). x.response) (filter p runs))
      → AllByRecursion IsMessage (map (λ (x : Ran). x.response) (if b then r ∷ filter p runs else filter p runs))
  by_test true rest = (all.0, rest)
  by_test false rest = rest

done_fits : (v : View) (id : CallId) (bytes : List ℕ) (o : Option Sent) → AreFit v → IsReturned v id bytes o → IsMessage bytes
done_fits v id bytes None k r = absurd r
done_fits v id bytes (Some p) k r = contained IsMessage (answers v id p.inc) bytes (responses_fit (is_run_in v id p.inc) v.runs k.runs) r.2

settings_fit : (s : Settings) → IsValid s → AllByRecursion (λ n. n < 2 ^ 32) (settings_numbers s)
settings_fit s v =
    let r = v.in_range in (
      omega (arith, r.1),
      (
        omega (arith, r.2.1),
        (
          omega (arith, r.2.2.1),
          (
            omega (arith, r.2.2.2.1),
            (
              omega (arith, r.2.2.2.2.1),
              (
                omega (arith, r.2.2.2.2.2.1),
                (
                  omega (arith, r.2.2.2.2.2.2.1),
                  (
                    omega (arith, r.2.2.2.2.2.2.2.1),
                    (
                      omega (arith, r.2.2.2.2.2.2.2.2.1),
                      (
                        omega (arith, r.2.2.2.2.2.2.2.2.2.1),
                        (
                          omega (arith, r.2.2.2.2.2.2.2.2.2.2.1),
                          (
                            omega (arith, r.2.2.2.2.2.2.2.2.2.2.2.1),
                            (
                              omega (arith, r.2.2.2.2.2.2.2.2.2.2.2.2.1),
                              (omega (arith, r.2.2.2.2.2.2.2.2.2.2.2.2.2.1), (omega (arith, r.2.2.2.2.2.2.2.2.2.2.2.2.2.2.1), tt)),
                            ),
                          ),
                        ),
                      ),
                    ),
                  ),
                ),
              ),
            ),
          ),
        ),
      ),
    )

cutoffs_fit : (c : _) → AreCutoffs c → FitsCutoffs c
cutoffs_fit c k = (k.version, k.eight, bounds_fit c.upto k.within)

-- the numbers and bytes of a line, and how many bytes
pub record IsFitLine (line : PlainEntry) : Type 0 where
  pub fits : Fits line
  pub usual : IsUsual line
  pub sizes : AreShort line

pub line_fits : (v : View) (line : PlainEntry) → v.place < 2 ^ 64 → AreFit v → Obeys v line → IsTrue v line → IsFitLine line
line_fits v (PlainSettings s) few k o t = record { fits = settings_fit s t.0; usual = tt; sizes = tt }
line_fits v (PlainCall id server service bytes) few k o t =
    let new = o.shape.1 in
    record {
      fits = ((omega (arith, new.from_host, k.hosts), (t.0.0.1, t.0.0.2)), omega (arith, new.to_host, k.hosts), t.0.1, t.0.2);
      usual = tt;
      sizes = new.message.1;
    }
line_fits v (PlainClock now) few k o t = record { fits = omega (arith, t.0); usual = tt; sizes = tt }
line_fits v (PlainRecv host from bytes) few k o t = record { fits = (t.0.0, t.0.1, t.0.2); usual = tt; sizes = t.0.3 }
line_fits v (PlainSend number from to inc role id level what payload) few k o t =
    let b = t.1 in
    let called = k.calls id b.0 b.1 in
    let p = packet_fits role level what payload t.0.1 in
    record {
      fits = (
        omega (arith, o.shape.1, k.packets, few),
        ends_fit role id b.0.server from to called.0.0 called.1 b.2 b.3,
        t.0.0,
        called.0,
        p.level_fits,
        p.says,
        t.0.2,
      );
      usual = p.usual;
      sizes = payload_short role level what payload t.0.1;
    }
line_fits v (PlainRun host id service request response hold) few k o t =
    let called = k.calls id _ o.once.1 in
    record {
      fits = (t.0.0, called.0, called.2, called.3.1, t.0.1.0.1, omega (arith, t.0.1.1));
      usual = tt;
      sizes = (called.3.0.1, t.0.1.0.0.1);
    }
line_fits v (PlainDone id bytes) few k o t =
    let m = done_fits v id bytes v.now.came k o.returned in
    record { fits = (made_fits v id k o.shape.1, m.1); usual = tt; sizes = m.0.1 }
line_fits v (PlainFail id why) few k o t = record { fits = made_fits v id k o.shape.1; usual = tt; sizes = tt }
line_fits v (PlainDrop host id) few k o t = record { fits = (t.0.0, made_fits v id k o.shape.1); usual = tt; sizes = tt }
line_fits v (PlainGaps host id) few k o t = record { fits = (t.0.0, made_fits v id k o.shape.1); usual = tt; sizes = tt }
line_fits v (PlainBury host id until) few k o t = record { fits = (t.0.0, made_fits v id k o.shape.1, t.0.1); usual = tt; sizes = tt }
line_fits v (PlainFree host id) few k o t = record { fits = (t.0.0, made_fits v id k o.shape.1); usual = tt; sizes = tt }
line_fits v (PlainFullRows host id rows limit) few k o t = record { fits = (t.0.0, made_fits v id k o.shape.1, t.0.1.0, t.0.1.1); usual = tt; sizes = tt }
line_fits v (PlainFullPages host id need free) few k o t = record { fits = (t.0.0, made_fits v id k o.shape.1, t.0.1.0, t.0.1.1); usual = tt; sizes = tt }
line_fits v (PlainBalance host cutoffs) few k o t = record { fits = (t.0.0, cutoffs_fit cutoffs t.0.1); usual = tt; sizes = tt }
line_fits v (PlainJunk host) few k o t = record { fits = t.0.0; usual = tt; sizes = tt }
line_fits v (PlainStale host at now) few k o t = record { fits = (t.0.0, t.0.1.0, t.0.1.1); usual = tt; sizes = tt }
line_fits v line few k o t = absurd t.0
