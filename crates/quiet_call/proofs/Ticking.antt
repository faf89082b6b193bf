-- A round begins, and the tick that ends it.
use Rattle.std.proofs.Common.{◌≡◌, ℕ, ◌+◌, ◌<◌, ◌||◌, Bool, None, List, [], ◌∷◌, ◌++◌, length, refl, sym, ap, subst, ◌∙◌, append_assoc}
use Rattle.std.specs.Prelude.{drop, slice_get, slice_set}
use Rattle.std.proofs.Math.Seq.{drop-append_seam}
use Rattle.std.proofs.lemmas.List.{map-append, append-nil}
use Rattle.plain_sets.proofs.MapMembers.{same_some}
use Rattle.homa_plain.specs.declared.settings.Settings.{Settings}
use Rattle.homa_plain.specs.Entries.{PlainClock}
use Rattle.homa_plain.specs.Host.{packets_in, entries_from}
use Rattle.homa_plain.specs.Work.{Work}
use Rattle.homa_plain.specs.Steps.{turn_step}
use Rattle.homa_plain.specs.World.{World, SentPacket, stamped, last_tick}
use Rattle.homa_plain.specs.Replay.{Run, carried, ticks, after_event}
use Rattle.homa_plain.specs.Quiet.{has_done}
use Rattle.host_view.specs.declared.outbox.SentFrame.{SentFrame}
use Rattle.host_view.specs.Seen.{Seen}
use Rattle.quiet_laws.specs.Hosts.{client_id, server_id}
use Rattle.quiet_laws.proofs.Worlds.{tick_is, ticked_world, done-append}
use Rattle.quiet_laws.proofs.Amid.{packets_of}
use Rattle.quiet_laws.proofs.Stamps.{packets_of-stamped}
use Rattle.quiet_call.specs.Stepped.{AreFramesOf, HasStepped}
use Rattle.quiet_call.proofs.Midway.{Midway, frames-append, done_any}

-- two hosts had their turns
pub record Ticked (s : Settings) (clock d : ℕ) (hosts : List Seen) (frames : List SentFrame) (done : Bool) (run : Run) : Type 0 where
  pub clock_is : run.world.clock ≡ clock + 1
  pub a : Seen
  pub b : Seen
  pub hosts_are : hosts ≡ a ∷ b ∷ []
  pub world_hosts : run.world.hosts ≡ a.host ∷ b.host ∷ []
  pub frames_are : AreFramesOf s frames (packets_of (drop d run.world.packets))
  pub done_is : has_done run.told ≡ done

module _ (s : Settings) (n m clock d : ℕ) (a b : Seen) (new : List SentFrame) (w : World) (mid : Midway s n m clock d [] a b [] new w)
    (below : clock < last_tick) where
  abbrev now : ℕ
  now = clock + 1 + s.skew

  abbrev turn : Seen → Work
  turn h = turn_step h.settings h.host now

  abbrev old : List SentPacket
  old = mid.old ++ ([] ++ mid.fresh)

  abbrev first : Work
  first = turn_step s a.host now

  abbrev second : Work
  second = turn_step s b.host now

  abbrev run : Run
  run = after_event (PlainClock (clock + 1) ∷ [])
      (after_event (entries_from (length old) first.told) (after_event (entries_from (length (old ++ stamped (clock + 1) (packets_in first.told))) second.told)
      (record { world = ticked_world s clock mid.spares a.host b.host old mid.answers; told = []; count = 0; fault = None })))

  run_is : carried s w (ticks 2 1) ≡ run
  run_is = ap (λ v. carried s v (ticks 2 1)) mid.is ∙ tick_is s clock mid.spares a.host b.host old mid.answers below

  -- what is under way in the end
  under_way : drop d run.world.packets ≡ (mid.fresh ++ stamped (clock + 1) (packets_in first.told)) ++ stamped (clock + 1) (packets_in second.told)
  under_way =
      ap (λ ps. drop d (ps ++ stamped (clock + 1) (packets_in second.told))) (append_assoc mid.old mid.fresh (stamped (clock + 1) (packets_in first.told)))
      ∙ ap (drop d) (append_assoc mid.old (mid.fresh ++ stamped (clock + 1) (packets_in first.told)) (stamped (clock + 1) (packets_in second.told)))
      ∙ subst (λ k. drop k (mid.old ++ ((mid.fresh ++ stamped (clock + 1) (packets_in first.told)) ++ stamped (clock + 1) (packets_in second.told)))
      ≡ (mid.fresh ++ stamped (clock + 1) (packets_in first.told)) ++ stamped (clock + 1) (packets_in second.told)) mid.so_many (drop-append_seam mid.old _)

  packets_are : packets_of (drop d run.world.packets) ≡ (packets_of mid.fresh ++ packets_in first.told) ++ packets_in second.told
  packets_are =
      ap packets_of under_way
      ∙ map-append (λ (x : SentPacket). x.packet) (mid.fresh ++ stamped (clock + 1) (packets_in first.told)) (stamped (clock + 1) (packets_in second.told))
      ∙ ap (λ ps. packets_of (mid.fresh ++ stamped (clock + 1) (packets_in first.told)) ++ ps) (packets_of-stamped (clock + 1) (packets_in second.told))
      ∙ ap (λ ps. ps ++ packets_in second.told)
      (map-append (λ (x : SentPacket). x.packet) mid.fresh (stamped (clock + 1) (packets_in first.told)) ∙ ap (λ ps. packets_of mid.fresh ++ ps)
      (packets_of-stamped (clock + 1) (packets_in first.told)))

  told_is : has_done run.told ≡ (has_done (entries_from 0 first.told) || has_done (entries_from 0 second.told))
  told_is =
      done-append (entries_from (length old) first.told) (entries_from (length (old ++ stamped (clock + 1) (packets_in first.told))) second.told ++ [])
      ∙ ap (λ t. t || has_done (entries_from (length (old ++ stamped (clock + 1) (packets_in first.told))) second.told ++ []))
      (done_any (length old) 0 first.told)
      ∙ ap (λ es. has_done (entries_from 0 first.told) || has_done es)
      (append-nil (entries_from (length (old ++ stamped (clock + 1) (packets_in first.told))) second.told))
      ∙ ap (λ t. has_done (entries_from 0 first.told) || t) (done_any (length (old ++ stamped (clock + 1) (packets_in first.told))) 0 second.told)

  abbrev sent_by : Seen → List SentFrame → List SentFrame → Type 0
  sent_by h fs gs = (more : List SentFrame) × (gs ≡ fs ++ more) × AreFramesOf h.settings more (packets_in (turn h).told)

  module _ (d0 d1 : Bool) (hosts0 hosts1 : List Seen) (new0 new1 : List SentFrame) where
    pub ticked : HasStepped now client_id turn d0 (a ∷ b ∷ []) hosts0 new new0 → HasStepped now server_id turn d1 hosts0 hosts1 new0 new1
        → Ticked s clock d hosts1 new1 (d0 || d1) (carried s w (ticks 2 1))
    ticked p q =
        let p_at : a ≡ p.before = same_some a p.before p.at in
        let q_at : b ≡ q.before = same_some b q.before (ap (λ hs. slice_get hs 1) (sym p.hosts_are) ∙ q.at) in
        let a_is : turn a ≡ first = ap (λ t. turn_step t a.host now) mid.client in
        let b_is : turn b ≡ second = ap (λ t. turn_step t b.host now) mid.server in
        let p_sent : sent_by a new new0 = subst (λ h. sent_by h new new0) (sym p_at) p.sent in
        let q_sent : sent_by b new0 new1 = subst (λ h. sent_by h new0 new1) (sym q_at) q.sent in
        let p_framed : AreFramesOf s p_sent.0 (packets_in first.told) = subst (λ t. AreFramesOf t p_sent.0 (packets_in first.told)) mid.client
        (subst (λ (u : Work). AreFramesOf a.settings p_sent.0 (packets_in u.told)) a_is p_sent.2) in
        let q_framed : AreFramesOf s q_sent.0 (packets_in second.told) = subst (λ t. AreFramesOf t q_sent.0 (packets_in second.told)) mid.server
        (subst (λ (u : Work). AreFramesOf b.settings q_sent.0 (packets_in u.told)) b_is q_sent.2) in
        let p_done : d0 ≡ has_done (entries_from 0 first.told) =
        p.done_is ∙ ap (λ h. has_done (entries_from 0 (turn h).told)) (sym p_at) ∙ ap (λ (u : Work). has_done (entries_from 0 u.told)) a_is in
        let q_done : d1 ≡ has_done (entries_from 0 second.told) =
        q.done_is ∙ ap (λ h. has_done (entries_from 0 (turn h).told)) (sym q_at) ∙ ap (λ (u : Work). has_done (entries_from 0 u.told)) b_is in
        let p_host : p.after.host ≡ first.host = p.host ∙ ap (λ h. (turn h).host) (sym p_at) ∙ ap (λ (u : Work). u.host) a_is in
        let q_host : q.after.host ≡ second.host = q.host ∙ ap (λ h. (turn h).host) (sym q_at) ∙ ap (λ (u : Work). u.host) b_is in
        subst (Ticked s clock d hosts1 new1 (d0 || d1)) (sym run_is) (record {
          clock_is = refl;
          a = p.after;
          b = q.after;
          hosts_are = q.hosts_are ∙ ap (λ hs. slice_set hs 1 q.after) p.hosts_are;
          world_hosts = ap (λ h. h ∷ second.host ∷ []) (sym p_host) ∙ ap (λ h. p.after.host ∷ h ∷ []) (sym q_host);
          frames_are = subst (AreFramesOf s new1) (sym packets_are)
              (subst (λ fs. AreFramesOf s fs ((packets_of mid.fresh ++ packets_in first.told) ++ packets_in second.told))
              (sym (q_sent.1 ∙ ap (λ fs. fs ++ q_sent.0) p_sent.1))
              (frames-append s (new ++ p_sent.0) q_sent.0 (packets_of mid.fresh ++ packets_in first.told) (packets_in second.told)
              (frames-append s new p_sent.0 (packets_of mid.fresh) (packets_in first.told) mid.new_are p_framed) q_framed));
          done_is = told_is ∙ ap (λ t. t || has_done (entries_from 0 second.told)) (sym p_done) ∙ ap (λ t. d0 || t) (sym q_done);
        })
