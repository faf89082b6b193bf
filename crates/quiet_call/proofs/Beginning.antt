-- A round begins: no packet of it is delivered yet. And the events of it that are past, and those to come.
use Rattle.std.proofs.Common.{◌≡◌, ℕ, ◌+◌, ◌-◌, ◌⊎◌, ◌||◌, inl, inr, Bool, false, List, [], ◌∷◌, ◌++◌, length, refl, sym, ap, subst, ◌∙◌, arith}
use Rattle.std.specs.Prelude.{drop}
use Rattle.std.proofs.Math.Bool.{or_assoc}
use Rattle.std.proofs.Math.Seq.{drop-append_seam}
use Rattle.std.proofs.lemmas.List.{append-nil, length-append}
use Rattle.homa_plain.specs.declared.packet.Role.TheVariants.{Client, Server}
use Rattle.homa_plain.specs.declared.settings.Settings.{Settings}
use Rattle.homa_plain.specs.Host.{Host}
use Rattle.homa_plain.specs.Rules.{Answer}
use Rattle.homa_plain.specs.World.{World, SentPacket, After, Done, outcome}
use Rattle.homa_plain.specs.Replay.{Happening, Run, carried, ticks}
use Rattle.homa_plain.specs.Quiet.{Round, has_done, deliveries, round}
use Rattle.host_view.specs.declared.outbox.SentFrame.{SentFrame}
use Rattle.host_view.specs.Seen.{Seen}
use Rattle.quiet_laws.specs.Ends.{run_after}
use Rattle.quiet_laws.specs.Hosts.{client_id, server_id}
use Rattle.quiet_laws.proofs.Worlds.{quiet_world, carried_on, done-append}
use Rattle.quiet_laws.proofs.Amid.{AreNew, Begins, Goes, packets_of}
use Rattle.quiet_call.specs.Stepped.{AreFramesOf}
use Rattle.quiet_call.proofs.Unasked.{AskNone, none_asked}
use Rattle.quiet_call.proofs.Midway.{Midway, Asking}

-- ---- events that are past

-- Some of a run's events are past, with `done` for whether the call was done at them; these are still to come, in this world.
pub record Come (s : Settings) (run : Run) (to_come : List Happening) (done : Bool) (w : World) : Type 0 where
  pub world_is : run.world ≡ (carried s w to_come).world
  pub done_is : has_done run.told ≡ (done || has_done (carried s w to_come).told)

pub come_on : (s : Settings) (run : Run) (e : Happening) (es : List Happening) (done more : Bool) (w : World) (after : After)
    → outcome s w e.event e.bytes ≡ Done after → more ≡ has_done after.told
    → Come s run (e ∷ es) done w → Come s run es (done || more) after.world
come_on s run e es done more w after is told come =
    let on = carried_on s w e es after is in
    record {
      world_is = come.world_is ∙ ap (λ (r : Run). r.world) on;
      done_is = come.done_is ∙ ap (λ (r : Run). done || has_done r.told) on ∙ ap (λ t. done || t) (done-append after.told (carried s after.world es).told)
          ∙ ap (λ t. done || (t || has_done (carried s after.world es).told)) (sym told) ∙ sym (or_assoc done more (has_done (carried s after.world es).told));
    }

-- ---- a round's beginning

-- the packets that are to be delivered
pub record Started (s : Settings) (n m clock : ℕ) (r : Round) (a b : Seen) (frames : List SentFrame) : Type 0 where
  pub pending : List SentPacket
  pub midway : Midway s n m clock r.delivered pending a b frames [] r.world
  pub come : Come s (run_after s r) (deliveries r.delivered (length pending) ++ ticks 2 1) false r.world
  pub d_is : r.delivered + length pending ≡ length r.world.packets

module _ (s : Settings) (n m clock : ℕ) (r : Round) (a b : Seen) (frames : List SentFrame)
    (framed : AreFramesOf s frames (packets_of (drop r.delivered r.world.packets))) (hosts : r.world.hosts ≡ a.host ∷ b.host ∷ [])
    (client : a.settings ≡ s) (server : b.settings ≡ s) (client_name : a.host.id ≡ client_id) (server_name : b.host.id ≡ server_id) where
  starts : (spares : ℕ) (y z : Host) (old pending fresh : List SentPacket) (answers : List Answer)
      → r.world ≡ quiet_world s clock spares y z (old ++ (pending ++ fresh)) answers → fresh ≡ [] → length old ≡ r.delivered
      → AreNew s clock pending → Asking s n m clock r.delivered pending r.world answers ⊎ AskNone pending → Started s n m clock r a b frames
  starts spares y z old pending fresh answers is none so_many young asked =
      let packets_are : r.world.packets ≡ old ++ pending =
      ap (λ (w : World). w.packets) is ∙ ap (λ ps. old ++ (pending ++ ps)) none ∙ ap (λ ps. old ++ ps) (append-nil pending) in
      let both : y ∷ z ∷ [] ≡ a.host ∷ b.host ∷ [] = sym (ap (λ (w : World). w.hosts) is) ∙ hosts in
      let left : drop r.delivered r.world.packets ≡ pending =
      ap (drop r.delivered) packets_are ∙ subst (λ k. drop k (old ++ pending) ≡ pending) so_many (drop-append_seam old pending) in
      let many : length r.world.packets ≡ r.delivered + length pending =
      ap length packets_are ∙ length-append old pending ∙ ap (λ k. k + length pending) so_many in
      record {
        pending = pending;
        midway = record {
          spares = spares;
          old = old;
          fresh = [];
          answers = answers;
          is =
              is ∙ ap (λ ps. quiet_world s clock spares y z (old ++ (pending ++ ps)) answers) none ∙ same_hosts y z a.host b.host both (old ++ (pending ++ []));
          so_many = so_many;
          young = young;
          left_are = subst (λ ps. AreFramesOf s frames (packets_of ps)) left framed;
          new_are = record { are = refl; formed = tt };
          asked = asked;
          client = client;
          server = server;
          client_name = client_name;
          server_name = server_name;
        };
        d_is = sym many;
        come = record { world_is = ap (λ (v : Run). v.world) (all_to_come many); done_is = ap (λ (v : Run). has_done v.told) (all_to_come many) };
      } where
        same_hosts : (y z y' z' : Host) → y ∷ z ∷ [] ≡ y' ∷ z' ∷ [] → (ps : List SentPacket)
            → quiet_world s clock spares y z ps answers ≡ quiet_world s clock spares y' z' ps answers
        same_hosts y z y' z' e ps =
            ap (λ hs. record { clock = clock; hosts = hs; leads = s.skew ∷ s.skew ∷ []; packets = ps; spares = spares; answers = answers }) e

        all_to_come : length r.world.packets ≡ r.delivered + length pending
            → run_after s r ≡ carried s r.world (deliveries r.delivered (length pending) ++ ticks 2 1)
        all_to_come many = ap (λ k. carried s r.world (deliveries r.delivered k ++ ticks 2 1)) {x = length r.world.packets - r.delivered}
            {y = length pending} (omega (arith, many))

  by_client : (x : ℕ) → Begins Client s n m clock x r → Started s n m clock r a b frames
  by_client x g = starts g.amid.spares g.amid.sender g.amid.receiver g.amid.old g.pending g.amid.fresh _ g.amid.is g.nothing g.amid.so_many g.amid.new
      (inl (record { end = g.end; told = g.told; amid = g.amid; left = refl }))

  by_server : (x : ℕ) → Begins Server s m m clock x r → Started s n m clock r a b frames
  by_server x g = starts g.amid.spares g.amid.receiver g.amid.sender g.amid.old g.pending g.amid.fresh _ g.amid.is g.nothing g.amid.so_many g.amid.new
      (inr (none_asked m g.pending g.amid.here g.amid.may g.end g.told g.amid.first))

pub begins : (s : Settings) (n m r x : ℕ) (a b : Seen) (frames : List SentFrame) → Goes s n m r x → let g : Round = round s n m r in
    AreFramesOf s frames (packets_of (drop g.delivered g.world.packets)) → g.world.hosts ≡ a.host ∷ b.host ∷ [] → a.settings ≡ s → b.settings ≡ s
    → a.host.id ≡ client_id → b.host.id ≡ server_id → Started s n m r g a b frames
begins s n m r x a b frames (inl g) framed hosts client server cn sn = by_client s n m r (round s n m r) a b frames framed hosts client server cn sn x g
begins s n m r x a b frames (inr g) framed hosts client server cn sn = by_server s n m r (round s n m r) a b frames framed hosts client server cn sn _ g.1
