-- The tests of a line say what the laws say.
use Rattle.std.proofs.Common.{◌≡◌, ℕ, ◌+◌, ◌≤◌, Bool, true, false, not, ◌||◌, nat_le, Decides, List, [], ◌∷◌, length, map, Option, Some, None}
use Rattle.std.proofs.Common.{Contains, refl, sym, ap, subst, inl, inr, arith}
use Rattle.std.specs.Option.{option_map_or}
use Rattle.std.specs.List.{list_any, list_all}
use Rattle.std.proofs.lemmas.Bool.Decides.{nat_tests, Decides-eqb, Decides-ltb, Decides-not, Decides-and, Decides-like}
use Rattle.std.proofs.lemmas.Map.Views.{Contains-from_any}
use Rattle.std.proofs.lemmas.Slice.Eq.{bytes_eq-Decides}
use Rattle.plain_sets.specs.Maps.{get, contains_key, len, values}
use Rattle.plain_sets.proofs.OrderSame.{none_in, here, there, at_head}
use Rattle.plain_sets.proofs.MapMembers.{entry-get, get-entry}
use Rattle.homa_plain.specs.declared.id.CallId.{CallId}
use Rattle.homa_plain.specs.declared.id.HostId.{HostId}
use Rattle.homa_plain.specs.declared.packet.Role.{Role}
use Rattle.homa_plain.specs.declared.packet.Role.TheVariants.{Client, Server}
use Rattle.homa_plain.specs.declared.packet.Body.{Body}
use Rattle.homa_plain.specs.declared.packet.Body.TheVariants as body
use Rattle.homa_plain.specs.declared.entry.Why.TheVariants.{Timeout, Forgotten}
use Rattle.homa_plain.specs.declared.fault.LineFault.{LineFault}
use Rattle.homa_plain.specs.declared.fault.LineFault.TheVariants.{World}
use Rattle.homa_plain.specs.declared.fault.WorldFault.TheVariants.{NoMemory}
use Rattle.homa_plain.specs.Entries.{PlainEntry, PlainSettings, PlainCall, PlainDeliver, PlainSend, PlainRun, PlainDone, PlainFail, PlainRefused}
use Rattle.homa_plain.specs.Settings.{verdict}
use Rattle.homa_plain.specs.Wire.{Between, is_between, is_server}
use Rattle.trace_rules.specs.Lines.{named, closes}
use Rattle.trace_rules.specs.Parts.{Part, Parts, is_message}
use Rattle.trace_rules.specs.View.{Called, Sent, View, own_tick, has_run, resends_of}
use Rattle.trace_rules.specs.Seen.{seen}
use Rattle.trace_rules.specs.Shape.{IsBehind, IsNewCall, IsMade, Shape}
use Rattle.homa_plain.specs.Entries.{IsCause}
use Rattle.trace_rules.specs.Laws.{Once, answers, is_data, IsReturned, Returned, SameCalls, HandedUp, AreSpaced, IsUnanswered, Fails}
use Rattle.trace_rules.specs.Granting.{Grant, allowed, IsAllowed, IsWithinAt, IsWithin, Granting}
use Rattle.trace_rules.specs.Judge.{is_behind, is_new_call, is_made, is_cause, has_shape, is_called, runs_once, is_returned, returns_answer, has_call}
use Rattle.trace_rules.specs.Judge.{are_same_calls, hands_up, are_spaced, is_unanswered, fails_in_time, is_role, is_grant, is_allowed, is_within_at}
use Rattle.trace_rules.specs.Judge.{is_within, grants_chosen}
use Rattle.homa_plain.proofs.SettingsLemmas.{ok_is_valid}
use Rattle.homa_plain.proofs.CallOrder.{call_total, call_same, calls_are, hosts_are}

-- ---- tests in general

not_is : (b : Bool) → Decides (not b) (b ≡ false)
not_is true = (λ e. cc, λ e. cc)
not_is false = (λ e. refl, λ e. refl)

le_is : (a b : ℕ) → Decides (nat_le a b) (a ≤ b)
le_is a b = (λ e. grind (arith, nat_tests), λ h. grind (arith, nat_tests))

always : Decides true (Unit {0})
always = (λ e. tt, λ u. refl)

never : Decides false ⊥
never = (λ e. cc, λ h. absurd h)

itself : (b : Bool) → Decides b (b ≡ true)
itself b = (λ e. e, λ e. e)

-- where a test is true, a fact holds
implied : (c b : Bool) (P : Type 0) → Decides b P → Decides (not c || b) (c ≡ true → P)
implied true b P d = (λ e h. d.0 e, λ h. d.1 (h refl))
implied false b P d = (λ e h. absurd cc, λ h. refl)

-- whether one of a list is the same as q
any_is : {X : Type 0} {E : X → X → Bool} → ((x y : X) → Decides (E x y) (x ≡ y)) → (q : X) (xs : List X) → Decides (list_any (E q) xs) (Contains xs q)
any_is {X} {E} same q xs = (Contains-from_any (λ x y. (same x y).0) q xs, found xs)
  where
    found : (ys : List X) → Contains ys q → list_any (E q) ys ≡ true
    found [] c = absurd (none_in q c)
    found (y ∷ ys) c =
        elim (E q y) as (λ b. E q y ≡ b → (b || list_any (E q) ys) ≡ true) [
          | true ↦ λ e. refl
          | false ↦ λ e. elim (at_head y q ys c) [ inl is ↦ absurd (cc ((same q y).1 (sym is))) | inr rest ↦ found ys rest ]
        ] refl

-- whether a test passes for each of a list
all_are : {X : Type 0} (test : X → Bool) (xs : List X) → Decides (list_all test xs) ((x : X) → Contains xs x → test x ≡ true)
all_are test [] = (λ e x c. absurd (none_in x c), λ all. refl)
all_are test (y ∷ ys) = Decides-like _ (λ h x c. elim (at_head y x ys c) [ inl is ↦ subst (λ z. test z ≡ true) is h.0 | inr rest ↦ h.1 x rest ])
    (λ all. (all y (here y ys), λ x c. all x (there y x ys c))) (Decides-and _ _ (itself (test y)) (all_are test ys))

-- ---- shape

behind_is : (v : View) → Decides (is_behind v) (IsBehind v)
behind_is v = Decides-like _ (λ h. record { first = h.0; last = h.1 }) (λ h. (h.first, h.last)) (Decides-and _ _ (Decides-ltb 0 v.place) (not_is v.ended))

between_is : (least most n : ℕ) → Decides (is_between least most n) (Between least most n)
between_is least most n = Decides-and _ _ (le_is least n) (le_is n most)

new_call_is : (v : View) (id : CallId) (server : HostId) (request : List ℕ) → Decides (is_new_call v id server request) (IsNewCall v id server request)
new_call_is v id server request =
    Decides-like _ (λ h. record { new_id = h.0.0.0.0; message = h.0.0.0.1; from_host = h.0.0.1; to_host = h.0.1; differ = h.1 })
    (λ h. ((((h.new_id, h.message), h.from_host), h.to_host), h.differ))
    (Decides-and _ _ (Decides-and _ _ (Decides-and _ _ (Decides-and _ _ (not_is (contains_key v.calls id)) (between_is 1 1000000 (length request)))
    (Decides-ltb id.client.0 v.settings.hosts)) (Decides-ltb server.0 v.settings.hosts)) (Decides-not _ (Decides-eqb id.client.0 server.0)))

made_is : (v : View) (o : Option CallId) → Decides (is_made v o) (IsMade v o)
made_is v None = always
made_is v (Some id) = itself (contains_key v.calls id)

cause_is : (fault : LineFault) → Decides (is_cause fault) (IsCause fault)
cause_is (World NoMemory) = never
cause_is fault = always

pub shape_is : (v : View) (line : PlainEntry) → Decides (has_shape v line) (Shape v line)
shape_is v (PlainSettings settings) = Decides-and _ _ (Decides-eqb v.place 0) (ok_is_valid settings (verdict settings) refl)
shape_is v (PlainCall id server service bytes) = Decides-and _ _ (behind_is v) (new_call_is v id server bytes)
shape_is v (PlainDeliver packet) = Decides-and _ _ (behind_is v) (Decides-ltb packet (length v.packets))
shape_is v (PlainSend number from to inc role id level what payload) =
    Decides-like _ (λ h. (h.0.0, h.0.1, h.1)) (λ h. ((h.0, h.1), h.2))
    (Decides-and _ _ (Decides-and _ _ (behind_is v) (Decides-eqb number (length v.packets))) (made_is v (Some id)))
shape_is v (PlainRefused line fault) = Decides-and _ _ (behind_is v) (cause_is fault)
shape_is v line = Decides-and _ _ (behind_is v) (made_is v (named line))

-- ---- once

as_called : (host : HostId) (service : ℕ) (request : List ℕ) (c : Called)
    → Decides (is_called host service request c) (c ≡ record { server = host; service = service; request = request })
as_called host service request c =
    Decides-like _ (λ h. λ i. record { server = h.0.0 i; service = h.0.1 i; request = h.1 i })
    (λ e. ((ap (λ d. d.server) e, ap (λ d. d.service) e), ap (λ d. d.request) e))
    (Decides-and _ _ (Decides-and _ _ (hosts_are c.server host) (Decides-eqb c.service service)) (bytes_eq-Decides c.request request))

same_some : {A : Type 0} (x y : A) → Some x ≡ Some y → x ≡ y
same_some x y e = cc

called_is : (host : HostId) (service : ℕ) (request : List ℕ) (o : Option Called)
    → Decides (option_map_or (is_called host service request) o false) (o ≡ Some (record { server = host; service = service; request = request }))
called_is host service request None = (λ e. absurd cc, λ e. absurd cc)
called_is host service request (Some c) = Decides-like _ (λ e. ap Some e) (λ e. same_some c _ e) (as_called host service request c)

pub once_is : (v : View) (line : PlainEntry) → Decides (runs_once v line) (Once v line)
once_is v (PlainRun host id service request response hold) = Decides-and _ _ (not_is (has_run v host id)) (called_is host service request (get v.calls id))
once_is v line = always

-- ---- returned

returned_by : (v : View) (id : CallId) (bytes : List ℕ) (o : Option Sent) → Decides (is_returned v id bytes o) (IsReturned v id bytes o)
returned_by v id bytes None = (λ e. absurd cc, λ h. absurd h)
returned_by v id bytes (Some p) =
    Decides-like _ (λ h. (h.0.0, h.0.1, h.1)) (λ h. ((h.0, h.1), h.2))
    (Decides-and _ _ (Decides-and _ _ (itself (is_server p.role)) (itself (is_data p.body))) (any_is bytes_eq-Decides bytes (answers v id p.inc)))

pub returned_is : (v : View) (line : PlainEntry) → Decides (returns_answer v line) (Returned v line)
returned_is v (PlainDone id bytes) = returned_by v id bytes v.now.came
returned_is v line = always

-- ---- handed up

has_is : (xs : List CallId) (id : CallId) → Decides (has_call xs id) (Contains xs id)
has_is xs id = any_is calls_are id xs

same_is : (xs ys : List CallId) → Decides (are_same_calls xs ys) (SameCalls xs ys)
same_is xs ys =
    Decides-like _ (λ h id. (λ c. (has_is ys id).0 (h.0 id c), λ c. (has_is xs id).0 (h.1 id c)))
    (λ same. (λ id c. (has_is ys id).1 ((same id).0 c), λ id c. (has_is xs id).1 ((same id).1 c)))
    (Decides-and _ _ (all_are (has_call ys) xs) (all_are (has_call xs) ys))

pub handed_up_is : (v : View) (line : PlainEntry) → Decides (hands_up v line) (HandedUp v line)
handed_up_is v line = implied (closes line) _ _ (Decides-and _ _ (same_is v.here.runs v.now.due.runs) (same_is v.here.dones v.now.due.dones))

-- ---- fails

spaced_are : (gap : ℕ) (ticks : List ℕ) → Decides (are_spaced gap ticks) (AreSpaced gap ticks)
spaced_are gap [] = always
spaced_are gap (t ∷ []) = always
spaced_are gap (t ∷ u ∷ ticks) = Decides-and _ _ (le_is (u + gap) t) (spaced_are gap (u ∷ ticks))

unanswered_is : (v : View) (id : CallId) → Decides (is_unanswered v id) (IsUnanswered v id)
unanswered_is v id =
    Decides-and _ _ (Decides-eqb (length (resends_of v.now id)) v.settings.tries) (spaced_are v.settings.resend (own_tick v id.client ∷ resends_of v.now id))

forgotten_is : (v : View) (line : PlainEntry) → Decides (not (closes line) || are_same_calls v.here.forgotten v.now.due.forgotten)
    (closes line ≡ true → SameCalls v.here.forgotten v.now.due.forgotten)
forgotten_is v line = implied (closes line) _ _ (same_is v.here.forgotten v.now.due.forgotten)

pub fails_is : (v : View) (line : PlainEntry) → Decides (fails_in_time v line) (Fails v line)
fails_is v (PlainFail id Timeout) = unanswered_is v id
fails_is v (PlainFail id Forgotten) = forgotten_is v (PlainFail id Forgotten)
fails_is v line = forgotten_is v line

-- ---- granting

roles_are : (a b : Role) → Decides (is_role a b) (a ≡ b)
roles_are Client Client = (λ e. refl, λ e. refl)
roles_are Client Server = (λ e. absurd cc, λ e. absurd cc)
roles_are Server Client = (λ e. absurd cc, λ e. absurd cc)
roles_are Server Server = (λ e. refl, λ e. refl)

grants_are : (g h : Grant) → Decides (is_grant g h) (g ≡ h)
grants_are g h =
    Decides-like _ (λ e. λ i. record { to = e.0.0.0.0 i; role = e.0.0.0.1 i; id = e.0.0.1 i; offset = e.0.1 i; prio = e.1 i })
    (λ e. ((((ap (λ x. x.to) e, ap (λ x. x.role) e), ap (λ x. x.id) e), ap (λ x. x.offset) e), ap (λ x. x.prio) e))
    (Decides-and _ _
    (Decides-and _ _ (Decides-and _ _ (Decides-and _ _ (hosts_are g.to h.to) (roles_are g.role h.role)) (calls_are g.id h.id))
    (Decides-eqb g.offset h.offset)) (Decides-eqb g.prio h.prio))

allowed_is : (v : View) (from to : HostId) (role : Role) (id : CallId) (what : Body)
    → Decides (is_allowed v from to role id what) (IsAllowed v from to role id what)
allowed_is v from to role id (body.Grant offset prio) = any_is grants_are _ (allowed v from)
allowed_is v from to role id other = always

message_within : (window : ℕ) (p : Part) → Decides (is_within_at window p) (IsWithinAt window (Some p))
message_within window p = implied (is_message p) _ _ (le_is p.granted (len p.arrived + window))

-- what holds of the values of entries holds of each entry
of_entries : {K X : Type 0} (test : X → Bool) (es : List (K × X)) → Decides (list_all test (map (λ e. e.1) es)) ((e : K × X) → Contains es e → test e.1 ≡ true)
of_entries test [] = (λ e x c. absurd (none_in x c), λ all. refl)
of_entries test (f ∷ es) = Decides-like _ (λ h x c. elim (at_head f x es c) [ inl is ↦ subst (λ y. test y.1 ≡ true) is h.0 | inr rest ↦ h.1 x rest ])
    (λ all. (all f (here f es), λ x c. all x (there f x es c))) (Decides-and _ _ (itself (test f.1)) (of_entries test es))

parts_within : (window : ℕ) (parts : Parts) → Decides (list_all (is_within_at window) (values parts)) ((id : CallId) → IsWithinAt window (get parts id))
unfolding values
parts_within window parts =
    Decides-like _ (λ all id. at_call all id (get parts id) refl)
    (λ all e c. (message_within window e.1).1 (subst (IsWithinAt window) (get-entry call_total call_same parts e.0 e.1 c) (all e.0)))
    (of_entries (is_within_at window) parts.list)
  where
    at_call : ((e : CallId × Part) → Contains parts.list e → is_within_at window e.1 ≡ true) → (id : CallId) (o : Option Part) → get parts id ≡ o
        → IsWithinAt window o
    at_call all id None e = tt
    at_call all id (Some p) e = (message_within window p).0 (all (id, p) (entry-get call_total call_same parts id p e))

within_is : (v : View) → Decides (is_within v) (IsWithin v)
within_is v = Decides-like _ (λ h id. (h.0 id, h.1 id)) (λ h. (λ id. (h id).0, λ id. (h id).1))
    (Decides-and _ _ (parts_within v.settings.window v.now.requests) (parts_within v.settings.window v.now.responses))

pub granting_is : (v : View) (line : PlainEntry) → Decides (grants_chosen v line) (Granting v line)
granting_is v (PlainSend number from to inc role id level what payload) =
    Decides-and _ _ (allowed_is v from to role id what) (within_is (seen v (PlainSend number from to inc role id level what payload)))
granting_is v line = within_is (seen v line)
