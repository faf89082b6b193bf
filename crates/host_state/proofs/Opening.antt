-- A control that has done nothing.
use Rattle.std.proofs.Common.{◌≡◌, ◌≤◌, ◌<◌, ℕ, zero, suc, List, [], ◌∷◌, length, map, refl, ap, ◌∙◌, arith, lit<}
use Rattle.std.specs.Prelude.{replicate, nat_lt, if◌then◌else◌}
use Rattle.std.specs.List.{AllByRecursion}
use Rattle.std.proofs.lemmas.Bool.{cond_both}
use Rattle.homa_plain.specs.declared.id.HostId.{HostId}
use Rattle.homa_plain.specs.declared.packet.Cutoffs.{Cutoffs}
use Rattle.homa_plain.specs.declared.settings.Settings.{Settings}
use Rattle.homa_plain.specs.Settings.{IsValid}
use Rattle.homa_plain.specs.Cutoffs.{first_cutoffs}
use Rattle.homa_plain.specs.Wire.{IsCall}
use Rattle.homa_plain.specs.Host.{PeerCutoffs}
use Rattle.host_view.specs.declared.mark.Mark.{Mark}
use Rattle.host_state.specs.Control.{IsSound, AreFit}
use Rattle.host_state.specs.Fields.{control_by, new_control, peer_of}
use Rattle.host_state.specs.declared.cutoffs_packets.Peer.{Peer}

replicated : {X : Type 0} (P : X → Type 0) (n : ℕ) (x : X) → P x → AllByRecursion P (replicate n x)
replicated P zero x p = tt
replicated P (suc n) x p = (p, replicated P n x p)

long : {X : Type 0} (n : ℕ) (x : X) → length (replicate n x) ≡ n
long zero x = refl
long (suc n) x = ap suc (long n x)

map-replicate : {X Y : Type 0} (f : X → Y) (n : ℕ) (x : X) → map f (replicate n x) ≡ replicate n (f x)
map-replicate f zero x = refl
map-replicate f (suc n) x = ap (λ l. f x ∷ l) (map-replicate f n x)

bound_fits : (i k : ℕ) → (if nat_lt i k then 0 else 1000000) ≤ 1000000
bound_fits i k = cond_both (nat_lt i k) 0 1000000 (λ n. n ≤ 1000000) (λ _. omega arith) (λ _. omega arith)

first-fit : (k : ℕ) → AreFit (first_cutoffs k)
first-fit k = record {
  version = lit< tt;
  levels = refl;
  bounds = (bound_fits 0 k, (bound_fits 1 k, (bound_fits 2 k, (bound_fits 3 k, (bound_fits 4 k, (bound_fits 5 k, (bound_fits 6 k, (bound_fits 7 k, tt))))))));
}

pub new-sound : (s : Settings) (id : HostId) (inc last : ℕ) → IsValid s → id.0 < s.hosts → 1 ≤ inc → last ≤ 1000000002000 → IsSound (new_control s id inc last)
new-sound s id inc last valid host i l = record {
  valid = valid;
  host = host;
  inc = i;
  last = l;
  own = first-fit s.overcommit;
  peers = long s.hosts (record { inc = 0; cutoffs = first_cutoffs s.overcommit });
  peer_cutoffs = replicated (λ (p : PeerCutoffs). AreFit p.cutoffs) s.hosts (record { inc = 0; cutoffs = first_cutoffs s.overcommit }) (first-fit s.overcommit);
  finished = long s.hosts [];
  few = replicated (λ (calls : List (ℕ × ℕ)). length calls < 5) s.hosts [] (omega arith);
  calls = replicated (AllByRecursion IsCall) s.hosts [] tt;
  room = omega arith;
}

pub opened-new : (s : Settings) (id : HostId) (inc last : ℕ) (own : Cutoffs) (lengths : List ℕ) (peers : List Peer) (n : ℕ)
    (finished : List (List (ℕ × ℕ))) (marks : List Mark)
    → own ≡ first_cutoffs s.overcommit → lengths ≡ [] → peers ≡ replicate n (record { inc = 0; cutoffs = own }) → n ≡ s.hosts
    → finished ≡ replicate s.hosts [] → marks ≡ []
    → control_by s id inc last own lengths 0 (map peer_of peers) finished marks ≡ new_control s id inc last
opened-new s id inc last own lengths peers n finished marks a b c d e f =
    let g : map peer_of peers ≡ replicate s.hosts (record { inc = 0; cutoffs = first_cutoffs s.overcommit }) =
    ap (map peer_of) c ∙ map-replicate peer_of n (record { inc = 0; cutoffs = own }) ∙ (λ i. replicate (d i) (record { inc = 0; cutoffs = a i })) in
    λ i. control_by s id inc last (a i) (b i) 0 (g i) (e i) (f i)
