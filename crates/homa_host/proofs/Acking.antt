-- The calls that a packet acknowledges, one after another.
use Rattle.std.proofs.Common.{◌≡◌, ◌<◌, ℕ, zero, suc, List, [], ◌∷◌, length, drop, get_or, subst}
use Rattle.std.specs.List.{AllByRecursion}
use Rattle.std.proofs.lemmas.List.{drop_more}
use Rattle.homa_plain.specs.declared.id.HostId.{HostId}
use Rattle.homa_plain.specs.Packets.{calls_of}
use Rattle.plain_sets.specs.Maps.{get}
use Rattle.homa_plain.specs.declared.id.CallId.{CallId}
use Rattle.homa_plain.specs.declared.settings.Settings.{Settings}
use Rattle.homa_plain.specs.Tombstones.{server_acked}
use Rattle.homa_plain.specs.Work.{Work}
use Rattle.homa_plain.specs.Steps.{acked, served, moment}
use Rattle.host_view.specs.declared.outbox.SentFrame.{SentFrame}
use Rattle.homa_host.specs.Amid.{Amid}
use Rattle.homa_host.specs.declared.parts.HostParts.{HostParts}

-- a call of a client is over
abbrev pub over : Settings → CallId → Work → Work
over s id w = served s id (server_acked s (moment s id w) id (get w.host.servers id)) w

-- of all these calls, these aren't over yet
abbrev pub IsAcking : HostParts → List CallId → HostParts → List CallId → Type 0
IsAcking old all new ids =
    (w : Work) (frames : List SentFrame) → Amid w old frames → (v : Work) × Amid v new frames
    × (acked old.control.settings ids v ≡ acked old.control.settings all w)

pub acking_on : (old mid new : HostParts) (all ids : List CallId) (id : CallId)
    → mid.control.settings ≡ old.control.settings → IsAcking old all mid (id ∷ ids)
    → ((w : Work) (frames : List SentFrame) → Amid w mid frames → Amid (over mid.control.settings id w) new frames) → IsAcking old all new ids
acking_on old mid new all ids id settings acking step w frames amid =
    let t = acking w frames amid in
    (over old.control.settings id t.0, subst (λ (s : Settings). Amid (over s id t.0) new frames) settings (step t.0 frames t.1), t.2)

pub acking_done : (old new : HostParts) (all : List CallId) → IsAcking old all new [] → (w : Work) (frames : List SentFrame)
    → Amid w old frames → Amid (acked old.control.settings all w) new frames
acking_done old new all acking w frames amid = let t = acking w frames amid in subst (λ (v : Work). Amid v new frames) t.2 t.1

-- what holds of all calls holds of each
all_drop : (P : CallId → Type 0) (client : HostId) (n : ℕ) (calls : List (ℕ × ℕ)) → AllByRecursion P (calls_of client calls)
    → AllByRecursion P (calls_of client (drop n calls))
all_drop P client zero calls all = all
all_drop P client (suc n) [] all = tt
all_drop P client (suc n) (c ∷ calls) all = all_drop P client n calls all.1

pub at_call : (P : CallId → Type 0) (client : HostId) (calls : List (ℕ × ℕ)) (i : ℕ) → i < length calls → AllByRecursion P (calls_of client calls)
    → P (record { client = client; inc = (get_or calls i (0, 0)).0; seq = (get_or calls i (0, 0)).1 })
at_call P client calls i below all =
    (subst (λ (ys : List (ℕ × ℕ)). AllByRecursion P (calls_of client ys)) (drop_more calls i (0, 0) below) (all_drop P client i calls all)).0
