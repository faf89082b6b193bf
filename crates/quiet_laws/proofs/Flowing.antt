-- Packets of a message in progress, one list after the other.
use Rattle.std.proofs.Common.{ℕ, ◌≤◌, List, [], ◌∷◌, ◌++◌, sym, subst, arith}
use Rattle.homa_plain.specs.declared.packet.Role.{Role}
use Rattle.homa_plain.specs.declared.packet.Body.{Body}
use Rattle.homa_plain.specs.declared.packet.Body.TheVariants as body
use Rattle.homa_plain.specs.Packets.{Packet}
use Rattle.quiet_laws.specs.Flows.{ahead, flows}

module _ (n : ℕ) (role : Role) where
  ahead_then : (here may : ℕ) (p : Packet) (b : Body) (f g : ℕ → ℕ → Type 0) → ((x y : ℕ) → f x y → g x y) → ahead n role here may p b f
      → ahead n role here may p b g
  ahead_then here may p (body.Data size offset version service ack) f g go x = (x.0, x.1, x.2, x.3, x.4, x.5, go _ _ x.6)
  ahead_then here may p (body.Grant offset prio) f g go x = (x.0, x.1, x.2, go _ _ x.3)
  ahead_then here may p (body.Cutoffs cutoffs) f g go x = (x.0, go _ _ x.1)
  ahead_then here may p (body.Resend from to prio) f g go x = absurd x
  ahead_then here may p body.Busy f g go x = absurd x
  ahead_then here may p (body.Unknown reason) f g go x = absurd x
  ahead_then here may p body.NeedAck f g go x = absurd x
  ahead_then here may p (body.Ack more) f g go x = absurd x

  pub flows-append : (ps qs : List Packet) (here may x y top given : ℕ) → flows n role here may ps x y → flows n role x y qs top given
      → flows n role here may (ps ++ qs) top given
  flows-append [] qs here may x y top given a b =
      subst (λ h. flows n role h may qs top given) (sym a.0) (subst (λ z. flows n role x z qs top given) (sym a.1) b)
  flows-append (p ∷ ps) qs here may x y top given a b =
      ahead_then here may p p.body (λ u v. flows n role u v ps x y) (λ u v. flows n role u v (ps ++ qs) top given)
      (λ u v f. flows-append ps qs u v x y top given f b) a

  -- what has arrived and what is granted only grow
  ahead_grows : (here may top given : ℕ) (p : Packet) (b : Body) (f : ℕ → ℕ → Type 0) → ((x y : ℕ) → f x y → (x ≤ top) × (y ≤ given))
      → ahead n role here may p b f → (here ≤ top) × (may ≤ given)
  ahead_grows here may top given p (body.Data size offset version service ack) f go x = let g = go _ _ x.6 in (omega (arith, g.0), g.1)
  ahead_grows here may top given p (body.Grant offset prio) f go x = let g = go _ _ x.3 in (g.0, omega (arith, g.1, x.1))
  ahead_grows here may top given p (body.Cutoffs cutoffs) f go x = go _ _ x.1
  ahead_grows here may top given p (body.Resend from to prio) f go x = absurd x
  ahead_grows here may top given p body.Busy f go x = absurd x
  ahead_grows here may top given p (body.Unknown reason) f go x = absurd x
  ahead_grows here may top given p body.NeedAck f go x = absurd x
  ahead_grows here may top given p (body.Ack more) f go x = absurd x

  pub flows_grow : (ps : List Packet) (here may top given : ℕ) → flows n role here may ps top given → (here ≤ top) × (may ≤ given)
  flows_grow [] here may top given a = (omega (arith, a.0), omega (arith, a.1))
  flows_grow (p ∷ ps) here may top given a =
      ahead_grows here may top given p p.body (λ u v. flows n role u v ps top given) (λ u v. flows_grow ps u v top given) a
