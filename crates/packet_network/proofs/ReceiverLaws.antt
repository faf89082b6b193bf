-- What is known of receivers, and what gauges of levels say.
use Rattle.std.proofs.Common.{◌≡◌, ◌<◌, ◌+◌, ℕ, List, [], ◌∷◌, ◌++◌, length, map, get_or, set, replicate, sym, ap, arith, ◌∙◌}
use Rattle.std.proofs.lemmas.List.{get_or-map, map-set, map-append, replicate-append-replicate}
use Rattle.run_gauges.specs.declared.receiver.Receiver.{Receiver}
use Rattle.run_gauges.specs.declared.gauge.Gauge.{Gauge}
use Rattle.run_gauges.specs.Receivers.{Known, known_of, nothing_known}
use Rattle.packet_network.specs.States.{at_receiver}

-- what is known of a receiver that was told something at a moment
pub was_told : (rs : List Receiver) (i : ℕ) (r d : Receiver) (m n : ℕ) (change : ℕ → Known → Known) → length rs ≡ 32 → i < 32 → d ≡ get_or rs i d
    → m ≡ n → known_of r ≡ change m (known_of d) → map known_of (set rs i r) ≡ at_receiver i (change n) (map known_of rs)
was_told rs i r d m n change all inside at now is =
    map-set known_of rs i r
    ∙ ap (set (map known_of rs) i)
    (is ∙ (ap (λ (k : ℕ). change k (known_of d)) now ∙ (ap (λ (e : Receiver). change n (known_of e)) at
    ∙ ap (change n) (sym (get_or-map known_of rs i d (nothing_known 0) (omega (arith, all, inside)))))))

-- one more receiver of which nothing is known
pub one_receiver_more : (rs : List Receiver) (n overcommit : ℕ) (r : Receiver) → map known_of rs ≡ replicate n (nothing_known overcommit)
    → known_of r ≡ nothing_known overcommit → map known_of (rs ++ r ∷ []) ≡ replicate (n + 1) (nothing_known overcommit)
one_receiver_more rs n overcommit r before is =
    map-append known_of rs (r ∷ [])
    ∙ (ap (λ (ks : List Known). ks ++ known_of r ∷ []) before
    ∙ (ap (λ (k : Known). replicate n (nothing_known overcommit) ++ k ∷ []) is ∙ replicate-append-replicate n 1 (nothing_known overcommit)))

-- what the gauge of a level says
pub gauge_says : (f : Gauge → ℕ) (gs : List Gauge) (i : ℕ) (g : Gauge) → i < length gs → g ≡ get_or gs i g → get_or (map f gs) i 0 ≡ f g
gauge_says f gs i g inside is = get_or-map f gs i g 0 inside ∙ ap f (sym is)
