-- The deliveries of a round, one after the other.
use Rattle.std.proofs.Common.{◌≡◌, ℕ, suc, ◌+◌, ◌||◌, ◌⊎◌, inl, inr, Bool, true, false, List, [], ◌∷◌, ◌++◌, length, refl, sym, ap, subst, ◌∙◌, arith}
use Rattle.std.proofs.Common.{append_assoc}
use Rattle.std.specs.Prelude.{min}
use Rattle.homa_plain.specs.declared.packet.Role.{Role}
use Rattle.homa_plain.specs.declared.packet.Role.TheVariants.{Client, Server}
use Rattle.homa_plain.specs.declared.settings.Settings.{Settings}
use Rattle.homa_plain.specs.declared.event.Event.TheVariants as event
use Rattle.homa_plain.specs.Entries.{PlainEntry}
use Rattle.homa_plain.specs.World.{World, SentPacket, After, Outcome, Done, Refused, outcome}
use Rattle.homa_plain.specs.Replay.{Happening, Run, bare, carried, after_event}
use Rattle.homa_plain.specs.Quiet.{has_done, deliveries}
use Rattle.quiet_laws.specs.Ends.{IsCalm}
use Rattle.quiet_laws.proofs.Worlds.{carried_on, done-append}
use Rattle.quiet_laws.proofs.Amid.{Amid}
use Rattle.quiet_laws.proofs.Goings.{GoesOn, IsDelivered, Limits, client_server}
use Rattle.quiet_laws.proofs.Whole.{deliver_on}

-- the settings of which the promise speaks, for a response of m bytes as the message in progress
pub calm_reply : (s : Settings) (n m : ℕ) → IsCalm s n m → IsCalm s m m
calm_reply s n m calm = record { valid = calm.valid; hosts = calm.hosts; resend = calm.resend; request = calm.response; response = calm.response }

-- an event that was carried out
pub record Carries (role : Role) (s : Settings) (n m clock delivered end told : ℕ) (rest : List SentPacket) (o : Outcome) : Type 0 where
  pub after : After
  pub is : o ≡ Done after
  pub goes_on : GoesOn role s n m clock delivered end told rest after.told after.world

carries : (role : Role) (s : Settings) (n m clock delivered end told : ℕ) (rest : List SentPacket) (o : Outcome)
    → IsDelivered role s n m clock delivered end told rest o → Carries role s n m clock delivered end told rest o
carries role s n m clock delivered end told rest (Refused fault) g = absurd g
carries role s n m clock delivered end told rest (Done after) g = record { after = after; is = refl; goes_on = g }

-- Some events are past, in which the call wasn't done, and these are still to come.
pub record Passed (s : Settings) (to_come : List Happening) (run : Run) (P : World → Type 0) : Type 0 where
  pub world : World
  pub lines : List PlainEntry
  pub world_is : run.world ≡ (carried s world to_come).world
  pub told_is : run.told ≡ lines ++ (carried s world to_come).told
  pub not_done : has_done lines ≡ false
  pub holds : P world

-- behind an event that didn't make the call done
passed_after : (s : Settings) (to_come : List Happening) (run : Run) (P : World → Type 0) (told : List PlainEntry) → has_done told ≡ false
    → Passed s to_come run P → Passed s to_come (after_event told run) P
passed_after s to_come run P told quiet p = record {
  world = p.world;
  lines = told ++ p.lines;
  world_is = p.world_is;
  told_is = ap (λ x. told ++ x) p.told_is ∙ sym (append_assoc told p.lines (carried s p.world to_come).told);
  not_done = done-append told p.lines ∙ ap (λ b. b || has_done p.lines) quiet ∙ p.not_done;
  holds = p.holds;
}

-- after the deliveries the message is still in progress; or the request is whole, and the response is in progress; or the call is done
abbrev pub Deliveries : Role → Settings → (n m clock delivered end told : ℕ) → List Happening → Run → Type 0
Deliveries role s n m clock delivered end told to_come run =
    Passed s to_come run (Amid role s n m clock delivered end told [])
    ⊎ (((role ≡ Client) × Passed s to_come run (Amid Server s m m clock delivered 0 (min m s.unsched) []))
    ⊎ (has_done run.told ≡ true))

true_or : (a b : Bool) → b ≡ true → (a || b) ≡ true
true_or true b e = refl
true_or false b e = e

module _ (s : Settings) (l : Limits s) (to_come : List Happening) where
  done_after : (run : Run) (told : List PlainEntry) → has_done run.told ≡ true → has_done (after_event told run).told ≡ true
  done_after run told e = done-append told run.told ∙ true_or (has_done told) (has_done run.told) e

  -- the same run, where so many deliveries are counted otherwise
  recounted : (role : Role) (n m clock d e end told : ℕ) (run : Run) → d ≡ e → Deliveries role s n m clock d end told to_come run
      → Deliveries role s n m clock e end told to_come run
  recounted role n m clock d e end told run same g = subst (λ k. Deliveries role s n m clock k end told to_come run) same g

  after_reply : (n m clock d end told : ℕ) (run : Run) (lines : List PlainEntry) → has_done lines ≡ false
      → Deliveries Server s m m clock d 0 (min m s.unsched) to_come run
      → Deliveries Client s n m clock d end told to_come (after_event lines run)
  after_reply n m clock d end told run lines quiet (inl p) =
      inr (inl (refl, passed_after s to_come run (Amid Server s m m clock d 0 (min m s.unsched) []) lines quiet p))
  after_reply n m clock d end told run lines quiet (inr (inl p)) = client_server (sym p.0)
  after_reply n m clock d end told run lines quiet (inr (inr e)) = inr (inr (done_after run lines e))

  after_more : (role : Role) (n m clock d end told : ℕ) (run : Run) (lines : List PlainEntry) → has_done lines ≡ false
      → Deliveries role s n m clock d end told to_come run
      → Deliveries role s n m clock d end told to_come (after_event lines run)
  after_more role n m clock d end told run lines quiet (inl p) = inl (passed_after s to_come run (Amid role s n m clock d end told []) lines quiet p)
  after_more role n m clock d end told run lines quiet (inr (inl p)) =
      inr (inl (p.0, passed_after s to_come run (Amid Server s m m clock d 0 (min m s.unsched) []) lines quiet p.1))
  after_more role n m clock d end told run lines quiet (inr (inr e)) = inr (inr (done_after run lines e))

  true_first : (a b : Bool) → a ≡ true → (a || b) ≡ true
  true_first true b e = refl
  true_first false b e = cc

  pub deliveries_on : (xs : List SentPacket) (role : Role) (n m clock d end told : ℕ) (w : World) → IsCalm s n m → Amid role s n m clock d end told xs w
      → Deliveries role s n m clock (d + length xs) end told to_come (carried s w (deliveries d (length xs) ++ to_come))
  deliveries_on [] role n m clock d end told w calm a =
      inl (record {
        world = w;
        lines = [];
        world_is = refl;
        told_is = refl;
        not_done = refl;
        holds = subst (λ k. Amid role s n m clock k end told [] w) {x = d} {y = d + 0} (omega arith) a;
      })
  deliveries_on (x ∷ xs) role n m clock d end told w calm a =
      let c = carries role s n m clock (suc d) end told xs (outcome s w (event.Deliver d) []) (deliver_on s n m clock d end told x xs w l calm role a) in
      subst (Deliveries role s n m clock (d + suc (length xs)) end told to_come)
      (sym (carried_on s w (bare (event.Deliver d)) (deliveries (suc d) (length xs) ++ to_come) c.after c.is))
      (recounted role n m clock (suc d + length xs) (d + suc (length xs)) end told _ (omega arith)
      (by (λ role n m clock d end told w calm a. deliveries_on xs role n m clock d end told w calm a) role calm a c.after c.goes_on)) where
        by : ((role : Role) (n m clock d end told : ℕ) (w : World) → IsCalm s n m → Amid role s n m clock d end told xs w
            → Deliveries role s n m clock (d + length xs) end told to_come (carried s w (deliveries d (length xs) ++ to_come)))
            → (role : Role) → IsCalm s n m → Amid role s n m clock d end told (x ∷ xs) w → (after : After)
            → GoesOn role s n m clock (suc d) end told xs after.told after.world
            → Deliveries role s n m clock (suc d + length xs) end told to_come
            (after_event after.told (carried s after.world (deliveries (suc d) (length xs) ++ to_come)))
        by on role calm a after (inl g) =
            after_more role n m clock (suc d + length xs) end told _ after.told g.0 (on role n m clock (suc d) end told after.world calm g.1)
        by on Client calm a after (inr (inl g)) =
            after_reply n m clock (suc d + length xs) end told _ after.told g.1
            (on Server m m clock (suc d) 0 (min m s.unsched) after.world (calm_reply s n m calm) g.2)
        by on Server calm a after (inr (inl g)) = client_server (sym g.0)
        by on role calm a after (inr (inr g)) =
            let run : Run = carried s after.world (deliveries (suc d) (length xs) ++ to_come) in
            inr (inr (done-append after.told run.told ∙ true_first (has_done after.told) (has_done run.told) g.1))
