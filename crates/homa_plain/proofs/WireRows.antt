-- The tests of a packet's fields decide whether the packet is well formed.
use Rattle.std.proofs.Common.{◌≡◌, ℕ, ◌+◌, ◌^◌, ◌≤◌, Bool, List, [], ◌∷◌, length, Option, Some, None, refl, ap}
use Rattle.std.specs.Prelude.{IfSome, nat_le, ◌==◌}
use Rattle.std.specs.Bool.{Decides}
use Rattle.std.specs.List.{AllByRecursion, list_all}
use Rattle.std.proofs.lemmas.Bool.{leb-true, le-leb}
use Rattle.std.proofs.lemmas.Bool.Decides.{Decides-and, Decides-ltb, Decides-eqb, Decides-like}
use Rattle.std.proofs.lemmas.List.{nil_from_length}
use Rattle.homa_plain.specs.declared.packet.Role.{Role}
use Rattle.homa_plain.specs.declared.packet.Role.TheVariants.{Client, Server}
use Rattle.homa_plain.specs.declared.packet.Body.{Body}
use Rattle.homa_plain.specs.declared.packet.Body.TheVariants as body
use Rattle.homa_plain.specs.declared.packet.Packet.{Packet}
use Rattle.homa_plain.specs.Bytes.{IsBytes}
use Rattle.homa_plain.specs.Wire.{Between, IsCall, latest, IsBare, FitsKind, IsWellFormed, is_call, is_between, is_server, is_client, is_bare}
use Rattle.homa_plain.specs.Wire.{is_of_role, fits_kind, is_well_formed}

decides_le : (m n : ℕ) → Decides (nat_le m n) (m ≤ n)
decides_le m n = (leb-true m n, le-leb m n)

decides_between : (least most n : ℕ) → Decides (is_between least most n) (Between least most n)
decides_between least most n = Decides-and (nat_le least n) (nat_le n most) (decides_le least n) (decides_le n most)

decides_call : (call : ℕ × ℕ) → Decides (is_call call) (IsCall call)
decides_call call =
    Decides-like (is_call call) (λ h. (h.0.0, h.0.1, h.1)) (λ h. ((h.0, h.1), h.2))
    (Decides-and _ _ (Decides-and _ _ (decides_le 1 call.0) (Decides-ltb call.0 (2 ^ 32))) (Decides-ltb call.1 (2 ^ 32)))

decides_each : {A : Type 0} (test : A → Bool) (P : A → Type 0) → ((x : A) → Decides (test x) (P x)) → (xs : List A)
    → Decides (list_all test xs) (AllByRecursion P xs)
decides_each test P each [] = (λ h. tt, λ h. refl)
decides_each test P each (x ∷ xs) = Decides-and (test x) (list_all test xs) (each x) (decides_each test P each xs)

decides_server : (role : Role) → Decides (is_server role) (role ≡ Server)
decides_server Client = (λ h. absurd cc, λ h. absurd cc)
decides_server Server = (λ h. refl, λ h. refl)

decides_client : (role : Role) → Decides (is_client role) (role ≡ Client)
decides_client Client = (λ h. refl, λ h. refl)
decides_client Server = (λ h. absurd cc, λ h. absurd cc)

decides_none : (xs : List ℕ) → Decides (length xs == 0) (xs ≡ [])
decides_none xs = Decides-like (length xs == 0) (nil_from_length xs) (λ h. ap length h) (Decides-eqb (length xs) 0)

decides_bare : (level : ℕ) (payload : List ℕ) → Decides (is_bare level payload) (IsBare level payload)
decides_bare level payload = Decides-and _ _ (Decides-eqb level 7) (decides_none payload)

-- what only a request's piece may have
abbrev OfRole : Role → ℕ → Option (ℕ × ℕ) → Type 0
OfRole role service ack = IfSome ack IsCall × (role ≡ Server → (service ≡ 0) × (ack ≡ None))

decides_of_role : (role : Role) (service : ℕ) (ack : Option (ℕ × ℕ)) → Decides (is_of_role role service ack) (OfRole role service ack)
decides_of_role Client service None = (λ h. (tt, λ e. absurd cc), λ h. refl)
decides_of_role Client service (Some call) = Decides-like (is_call call) (λ h. (h, λ e. absurd cc)) (λ h. h.0) (decides_call call)
decides_of_role Server service None = Decides-like (service == 0) (λ h. (tt, λ e. (h, refl))) (λ h. (h.1 refl).0) (Decides-eqb service 0)
decides_of_role Server service (Some call) = (λ h. absurd cc, λ h. absurd (let none = (h.1 refl).1 in cc))

decides_row : (role : Role) (level : ℕ) (what : Body) (payload : List ℕ) → Decides (fits_kind role level what payload) (FitsKind role level what payload)
decides_row role level (body.Data size offset version service ack) payload =
    Decides-like (fits_kind role level (body.Data size offset version service ack) payload)
    (λ h. record {
      level_in_range = h.0.0.0.0.0.0;
      size_in_range = h.0.0.0.0.0.1;
      payload_in_range = h.0.0.0.0.1;
      inside = h.0.0.0.1;
      version_in_range = h.0.0.1;
      service_in_range = h.0.1;
      acknowledged = h.1.0;
      of_response = h.1.1;
    })
    (λ h. ((((((h.level_in_range, h.size_in_range), h.payload_in_range), h.inside), h.version_in_range), h.service_in_range), (h.acknowledged, h.of_response)))
    (Decides-and _ _ (Decides-and _ _ (Decides-and _ _ (Decides-and _ _ (Decides-and _ _ (Decides-and _ _ (decides_le level 7)
    (decides_between 1 1000000 size)) (decides_between 1 1400 (length payload))) (decides_le (offset + length payload) size))
    (Decides-ltb version (2 ^ 16))) (Decides-ltb service 256)) (decides_of_role role service ack))
decides_row role level (body.Grant offset prio) payload =
    Decides-like (fits_kind role level (body.Grant offset prio) payload) (λ h. (h.0.0, h.0.1, h.1)) (λ h. ((h.0, h.1), h.2))
    (Decides-and _ _ (Decides-and _ _ (decides_bare level payload) (decides_between 1 1000000 offset)) (decides_le prio 7))
decides_row role level (body.Resend from to prio) payload =
    Decides-like (fits_kind role level (body.Resend from to prio) payload) (λ h. (h.0.0.0, h.0.0.1, h.0.1, h.1)) (λ h. (((h.0, h.1), h.2), h.3))
    (Decides-and _ _ (Decides-and _ _ (Decides-and _ _ (decides_bare level payload) (Decides-ltb from to)) (decides_le to 1000000)) (decides_le prio 7))
decides_row role level body.Busy payload = decides_bare level payload
decides_row role level (body.Cutoffs c) payload =
    Decides-like (fits_kind role level (body.Cutoffs c) payload) (λ h. (h.0.0.0, h.0.0.1, h.0.1, h.1)) (λ h. (((h.0, h.1), h.2), h.3))
    (Decides-and _ _ (Decides-and _ _ (Decides-and _ _ (decides_bare level payload) (Decides-ltb c.version (2 ^ 16))) (Decides-eqb (length c.upto) 8))
    (decides_each (λ bound. nat_le bound 1000000) (λ bound. bound ≤ 1000000) (λ bound. decides_le bound 1000000) c.upto))
decides_row role level (body.Unknown reason) payload =
    Decides-like (fits_kind role level (body.Unknown reason) payload) (λ h. (h.0.0, h.0.1, h.1)) (λ h. ((h.0, h.1), h.2))
    (Decides-and _ _ (Decides-and _ _ (decides_bare level payload) (decides_server role)) (decides_le reason 1))
decides_row role level body.NeedAck payload = Decides-and _ _ (decides_bare level payload) (decides_server role)
decides_row role level (body.Ack more) payload =
    Decides-like (fits_kind role level (body.Ack more) payload) (λ h. (h.0.0.0, h.0.0.1, h.0.1, h.1)) (λ h. (((h.0, h.1), h.2), h.3))
    (Decides-and _ _ (Decides-and _ _ (Decides-and _ _ (decides_bare level payload) (decides_client role)) (decides_le (length more) 4))
    (decides_each is_call IsCall decides_call more))

-- of a payload of bytes, the test decides whether the packet is well formed
pub decides_well_formed : (wire : ℕ) (p : Packet) (payload : List ℕ) → IsBytes payload → Decides (is_well_formed wire p payload) (IsWellFormed wire p payload)
decides_well_formed wire p payload bytes =
    Decides-like (is_well_formed wire p payload)
    (λ h. record { version = h.0.0.0.0.0; sender = (h.0.0.0.0.1, h.0.0.0.1); call = h.0.0.1; tick = h.0.1; of_kind = h.1; bytes = bytes })
    (λ h. (((((h.version, h.sender.0), h.sender.1), h.call), h.tick), h.of_kind))
    (Decides-and _ _ (Decides-and _ _ (Decides-and _ _ (Decides-and _ _ (Decides-and _ _ (decides_between 1 2 wire) (decides_le 1 p.sender))
    (Decides-ltb p.sender (2 ^ 32))) (decides_call (p.inc, p.seq))) (decides_le p.at (latest wire))) (decides_row p.role p.level p.body payload))
