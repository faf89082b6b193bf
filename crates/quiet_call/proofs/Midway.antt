-- The world in the midst of a round, the hosts and the frames that stand for it, and what a delivery does.
use Rattle.std.proofs.Common.{◌≡◌, ℕ, suc, ◌+◌, ◌≤◌, ◌⊎◌, inl, inr, Bool, Some, List, [], ◌∷◌, ◌++◌, length, refl, sym, ap, subst, ◌∙◌, arith}
use Rattle.std.specs.Prelude.{slice_get, slice_set}
use Rattle.std.specs.Option.{option_map}
use Rattle.std.proofs.lemmas.List.{map-append}
use Rattle.plain_sets.proofs.MapMembers.{same_some}
use Rattle.homa_plain.specs.declared.id.HostId.{HostId}
use Rattle.homa_plain.specs.declared.packet.Packet.{Packet as WirePacket}
use Rattle.homa_plain.specs.declared.packet.Role.{Role}
use Rattle.homa_plain.specs.declared.packet.Role.TheVariants.{Client, Server}
use Rattle.homa_plain.specs.declared.settings.Settings.{Settings}
use Rattle.homa_plain.specs.declared.event.Event.TheVariants as event
use Rattle.homa_plain.specs.Entries.{PlainEntry, PlainDeliver, PlainDone}
use Rattle.homa_plain.specs.Wire.{packet_in}
use Rattle.homa_plain.specs.Packets.{Packet, packet_between}
use Rattle.homa_plain.specs.Host.{Host, Told, Says, Sends, packets_in, entries_from}
use Rattle.homa_plain.specs.Rules.{Answer}
use Rattle.homa_plain.specs.Work.{Work}
use Rattle.homa_plain.specs.Steps.{arrival_step}
use Rattle.homa_plain.specs.World.{World, SentPacket, After, Done, outcome, stamped, answers_left, next_answer}
use Rattle.homa_plain.specs.Quiet.{has_done}
use Rattle.step_laws.proofs.Places.{all-append}
use Rattle.step_laws.proofs.OneAnswer.{same_unasked}
use Rattle.host_view.specs.declared.outbox.SentFrame.{SentFrame}
use Rattle.host_view.specs.Seen.{Seen}
use Rattle.host_view.specs.Frames.{frame_of, frames_of, IsFormed}
use Rattle.host_view.specs.Done.{arriving}
use Rattle.world_laws.proofs.Sent.{read, between}
use Rattle.quiet_laws.specs.Ends.{IsCalm}
use Rattle.quiet_laws.specs.Hosts.{client_id, server_id, ours}
use Rattle.quiet_laws.proofs.Worlds.{quiet_world, client_gets_it, server_gets_it}
use Rattle.quiet_laws.proofs.Amid.{AreNew, packets_of, as_ours, Amid}
use Rattle.quiet_laws.proofs.Facts.{at_end}
use Rattle.quiet_laws.proofs.Stamps.{packets_of-stamped}
use Rattle.quiet_laws.proofs.Delivered.{moved, length-snoc}
use Rattle.quiet_laws.proofs.Goings.{limits, GoesOn, IsDelivered, client_server}
use Rattle.quiet_laws.proofs.Whole.{deliver_on}
use Rattle.quiet_call.specs.Stepped.{filled, AreFramesOf, HasStepped}
use Rattle.quiet_call.proofs.Unasked.{AskNone, unasked, none_asked}

-- ---- frames

pub frames-append : (s : Settings) (fs gs : List SentFrame) (ps qs : List Packet) → AreFramesOf s fs ps → AreFramesOf s gs qs
    → AreFramesOf s (fs ++ gs) (ps ++ qs)
frames-append s fs gs ps qs a b = record {
  are = ap (λ xs. xs ++ gs) a.are ∙ ap (λ xs. frames_of s ps ++ xs) b.are ∙ sym (map-append (frame_of s) ps qs);
  formed = all-append (IsFormed s) ps qs a.formed b.formed;
}

-- a frame of a packet is read as it, where it comes to the packet's receiver
read_as : (h : Seen) (p : Packet) (f : SentFrame) → IsFormed h.settings p → f ≡ frame_of h.settings p → h.host.id ≡ f.to → arriving h f.from f.frame ≡ Some p
read_as h p f formed is name =
    ap (λ (g : SentFrame). arriving h g.from g.frame) is
    ∙ ap (λ (i : HostId). option_map (λ (r : WirePacket × List ℕ). packet_between (frame_of h.settings p).from i r.0 r.1)
    (packet_in h.settings.wire (frame_of h.settings p).frame)) (name ∙ ap (λ (g : SentFrame). g.to) is)
    ∙ ap (option_map (λ (r : WirePacket × List ℕ). packet_between (frame_of h.settings p).from (frame_of h.settings p).to r.0 r.1)) (read h.settings p formed)
    ∙ ap Some (between p)

-- whether a call was done doesn't turn on the numbers of packets
pub done_any : (i j : ℕ) (told : List Told) → has_done (entries_from i told) ≡ has_done (entries_from j told)
done_any i j [] = refl
done_any i j (Sends p ∷ told) = done_any (suc i) (suc j) told
done_any i j (Says e ∷ told) = by e (done_any i j told) where
  by : (e : PlainEntry) → has_done (entries_from i told) ≡ has_done (entries_from j told)
      → has_done (e ∷ entries_from i told) ≡ has_done (e ∷ entries_from j told)
  by (PlainDone id bytes) r = refl
  by e r = r

-- ---- the world

-- the request is in progress, and the service wasn't asked yet
pub record Asking (s : Settings) (n m clock d : ℕ) (pending : List SentPacket) (w : World) (answers : List Answer) : Type 0 where
  pub end : ℕ
  pub told : ℕ
  pub amid : Amid Client s n m clock d end told pending w
  pub left : answers ≡ filled m ∷ []

-- Some of a round's packets are delivered, and these are still to be: two hosts stand in the world, and the frames are those of these
-- packets, and of what was sent in the round. A service isn't asked any more, or wasn't asked yet.
pub record Midway (s : Settings) (n m clock d : ℕ) (pending : List SentPacket) (a b : Seen) (left new : List SentFrame) (w : World) : Type 0 where
  pub spares : ℕ
  pub old : List SentPacket
  pub fresh : List SentPacket
  pub answers : List Answer
  pub is : w ≡ quiet_world s clock spares a.host b.host (old ++ (pending ++ fresh)) answers
  pub so_many : length old ≡ d
  pub young : AreNew s clock pending
  pub left_are : AreFramesOf s left (packets_of pending)
  pub new_are : AreFramesOf s new (packets_of fresh)
  pub asked : Asking s n m clock d pending w answers ⊎ AskNone pending
  pub client : a.settings ≡ s
  pub server : b.settings ≡ s
  pub client_name : a.host.id ≡ client_id
  pub server_name : b.host.id ≡ server_id

-- a delivery was carried out
pub record Delivers (s : Settings) (n m clock d : ℕ) (rest : List SentPacket) (hosts : List Seen) (left new : List SentFrame) (done : Bool)
    (w : World) : Type 0 where
  pub after : After
  pub is : outcome s w (event.Deliver d) [] ≡ Done after
  pub a : Seen
  pub b : Seen
  pub hosts_are : hosts ≡ a ∷ b ∷ []
  pub midway : Midway s n m clock (suc d) rest a b left new after.world
  pub done_is : done ≡ has_done after.told

module _ (s : Settings) (n m clock d : ℕ) (calm : IsCalm s n m) (x : SentPacket) (rest : List SentPacket) (a b : Seen) (f : SentFrame)
    (left new : List SentFrame) (w : World)
    (mid : Midway s n m clock d (x ∷ rest) a b (f ∷ left) new w) where
  abbrev packets : List SentPacket
  packets = mid.old ++ ((x ∷ rest) ++ mid.fresh)

  abbrev p : Packet
  p = x.packet

  abbrev now : ℕ
  now = clock + s.skew

  first_frame : f ≡ frame_of s p
  first_frame = same_head f (frame_of s p) left (frames_of s (packets_of rest)) mid.left_are.are where
    same_head : (f g : SentFrame) (fs gs : List SentFrame) → f ∷ fs ≡ g ∷ gs → f ≡ g
    same_head f g fs gs e = cc

  rest_frames : left ≡ frames_of s (packets_of rest)
  rest_frames = same_tail f (frame_of s p) left (frames_of s (packets_of rest)) mid.left_are.are where
    same_tail : (f g : SentFrame) (fs gs : List SentFrame) → f ∷ fs ≡ g ∷ gs → fs ≡ gs
    same_tail f g fs gs e = cc

  is_next : slice_get packets d ≡ Some x
  is_next = subst (λ k. slice_get (mid.old ++ x ∷ (rest ++ mid.fresh)) k ≡ Some x) mid.so_many (at_end mid.old x (rest ++ mid.fresh))

  abbrev as_role : Role → Packet
  as_role r = ours r p.at p.level p.body p.payload

  p_is : (r : Role) → p.role ≡ r → p ≡ as_role r
  p_is r e = as_ours s (x.tick + s.skew) p mid.young.0.ours ∙ ap as_role e

  -- the frame, by who sent the packet
  pub frame_is : (r : Role) → p.role ≡ r → f ≡ frame_of s (as_role r)
  frame_is r e = first_frame ∙ ap (frame_of s) (p_is r e)

  found : (r : Role) → p.role ≡ r → slice_get packets d ≡ Some (record { tick = x.tick; packet = as_role r })
  found r e = is_next ∙ ap (λ (q : Packet). Some (record { tick = x.tick; packet = q })) (p_is r e)

  fresh_enough : clock ≤ x.tick + s.life
  fresh_enough = omega (arith, mid.young.0.young, (limits s n m calm).life)

  -- the step of the code's host is that of the world's
  steps_alike : (h : Host) → arrival_step s h now (Some p) (next_answer mid.answers) ≡ arrival_step s h now (Some p) (filled m)
  steps_alike h = by mid.asked where
    by : Asking s n m clock d (x ∷ rest) w mid.answers ⊎ AskNone (x ∷ rest)
        → arrival_step s h now (Some p) (next_answer mid.answers) ≡ arrival_step s h now (Some p) (filled m)
    by (inl q) = ap (λ answers. arrival_step s h now (Some p) (next_answer answers)) q.left
    by (inr none) = same_unasked s h now (Some p) (filled m) (next_answer mid.answers) (unasked s h now p (filled m) none.0)

  -- the world after the step
  abbrev world_after : Host → Host → Work → World
  world_after y z v = quiet_world s clock mid.spares y z (packets ++ stamped clock (packets_in v.told)) (answers_left v.told mid.answers)

  abbrev lines_after : Work → List PlainEntry
  lines_after v = PlainDeliver d ∷ entries_from (length packets) v.told

  -- whether the service was asked by now
  asked_after : (y z : Host) (v : Work) → outcome s w (event.Deliver d) [] ≡ Done (record { world = world_after y z v; told = lines_after v })
      → Asking s n m clock (suc d) rest (world_after y z v) (answers_left v.told mid.answers) ⊎ AskNone rest
  asked_after y z v goes = by mid.asked where
    by : Asking s n m clock d (x ∷ rest) w mid.answers ⊎ AskNone (x ∷ rest)
        → Asking s n m clock (suc d) rest (world_after y z v) (answers_left v.told mid.answers) ⊎ AskNone rest
    by (inr none) = inr none.1
    by (inl q) = next
        (subst (IsDelivered Client s n m clock (suc d) q.end q.told rest) goes
        (deliver_on s n m clock d q.end q.told x rest w (limits s n m calm) calm Client q.amid)) where
          next : GoesOn Client s n m clock (suc d) q.end q.told rest (lines_after v) (world_after y z v)
              → Asking s n m clock (suc d) rest (world_after y z v) (answers_left v.told mid.answers) ⊎ AskNone rest
          next (inl g) = inl (record { end = q.end; told = q.told; amid = g.1; left = ap (λ (u : World). u.answers) g.1.is })
          next (inr (inl g)) = inr (none_asked m rest g.2.here g.2.may 0 _ g.2.first)
          next (inr (inr g)) = client_server g.0

  module _ (done : Bool) (hosts : List Seen) (new' : List SentFrame) where
    ends_so : (y z : Seen) (v : Work) (more : List SentFrame) → hosts ≡ y ∷ z ∷ [] → y.settings ≡ s → z.settings ≡ s → y.host.id ≡ client_id
        → z.host.id ≡ server_id
        → outcome s w (event.Deliver d) [] ≡ Done (record { world = world_after y.host z.host v; told = lines_after v })
        → new' ≡ new ++ more → AreFramesOf s more (packets_in v.told) → done ≡ has_done (entries_from 0 v.told)
        → Delivers s n m clock d rest hosts left new' done w
    ends_so y z v more hosts_are ys zs yn zn goes sent framed done_is = record {
      after = record { world = world_after y.host z.host v; told = lines_after v };
      is = goes;
      a = y;
      b = z;
      hosts_are = hosts_are;
      midway = record {
        spares = mid.spares;
        old = mid.old ++ x ∷ [];
        fresh = mid.fresh ++ stamped clock (packets_in v.told);
        answers = answers_left v.told mid.answers;
        is = ap (λ ps. quiet_world s clock mid.spares y.host z.host ps (answers_left v.told mid.answers))
            (moved mid.old x rest mid.fresh (stamped clock (packets_in v.told)));
        so_many = length-snoc mid.old x ∙ ap suc mid.so_many;
        young = mid.young.1;
        left_are = record { are = rest_frames; formed = mid.left_are.formed.1 };
        new_are = subst (λ fs. AreFramesOf s fs (packets_of (mid.fresh ++ stamped clock (packets_in v.told)))) (sym sent)
            (subst (AreFramesOf s (new ++ more))
            (sym (map-append (λ (y : SentPacket). y.packet) mid.fresh (stamped clock (packets_in v.told)) ∙ ap (λ ps. packets_of mid.fresh ++ ps)
            (packets_of-stamped clock (packets_in v.told))))
            (frames-append s new more (packets_of mid.fresh) (packets_in v.told) mid.new_are framed));
        asked = asked_after y.host z.host v goes;
        client = ys;
        server = zs;
        client_name = yn;
        server_name = zn;
      };
      done_is = done_is ∙ done_any 0 (length packets) v.told;
    }

    abbrev arrives : Seen → Work
    arrives h = arrival_step h.settings h.host now (arriving h f.from f.frame) (filled m)

    abbrev sent_by : Seen → Type 0
    sent_by h = (more : List SentFrame) × (new' ≡ new ++ more) × AreFramesOf h.settings more (packets_in (arrives h).told)

    -- what the host read and did
    arrives_is : (h : Seen) → h.settings ≡ s → h.host.id ≡ f.to → arrives h ≡ arrival_step s h.host now (Some p) (next_answer mid.answers)
    arrives_is h is name =
        ap (λ o. arrival_step h.settings h.host now o (filled m))
        (read_as h p f (subst (λ t. IsFormed t p) (sym is) mid.left_are.formed.0) (first_frame ∙ ap (λ t. frame_of t p) (sym is)) name)
        ∙ ap (λ t. arrival_step t h.host now (Some p) (filled m)) is ∙ sym (steps_alike h.host)

    -- the frame goes to the packet's receiver
    to_is : (r : Role) → p.role ≡ r → f.to ≡ (frame_of s (as_role r)).to
    to_is r e = ap (λ (g : SentFrame). g.to) (frame_is r e)

    -- the host that got the frame, and what it sent
    record Arrived (h after : Seen) (v : Work) : Type 0 where
      host : after.host ≡ v.host
      settings : after.settings ≡ s
      name : after.host.id ≡ h.host.id
      more : List SentFrame
      sent : new' ≡ new ++ more
      framed : AreFramesOf s more (packets_in v.told)
      told : done ≡ has_done (entries_from 0 v.told)

    abbrev step_of : Role → Seen → Work
    step_of r h = arrival_step s h.host now (Some (as_role r)) (next_answer mid.answers)

    arrived : (r : Role) (h : Seen) → p.role ≡ r → h.settings ≡ s → h.host.id ≡ (frame_of s (as_role r)).to
        → (st : HasStepped now f.to arrives done (a ∷ b ∷ []) hosts new new') → h ≡ st.before → Arrived h st.after (step_of r h)
    arrived r h e settings name st at =
        let is : arrives h ≡ step_of r h =
        arrives_is h settings (name ∙ sym (to_is r e)) ∙ ap (λ q. arrival_step s h.host now (Some q) (next_answer mid.answers)) (p_is r e) in
        let sent : sent_by h = subst sent_by (sym at) st.sent in
        record {
          host = st.host ∙ ap (λ (x : Seen). (arrives x).host) (sym at) ∙ ap (λ (u : Work). u.host) is;
          settings = st.settings ∙ ap (λ (x : Seen). x.settings) (sym at) ∙ settings;
          name = st.name ∙ ap (λ (x : Seen). x.host.id) (sym at);
          more = sent.0;
          sent = sent.1;
          framed = subst (λ t. AreFramesOf t sent.0 (packets_in (step_of r h).told)) settings
              (subst (λ (u : Work). AreFramesOf h.settings sent.0 (packets_in u.told)) is sent.2);
          told = st.done_is ∙ ap (λ (x : Seen). has_done (entries_from 0 (arrives x).told)) (sym at) ∙ ap (λ (u : Work). has_done (entries_from 0 u.told)) is;
        }

    to_server : p.role ≡ Client → HasStepped now f.to arrives done (a ∷ b ∷ []) hosts new new' → Delivers s n m clock d rest hosts left new' done w
    to_server e st =
        let v : Work = step_of Client b in
        let g : Arrived b st.after v =
        arrived Client b e mid.server mid.server_name st
        (same_some b st.before (ap (λ (i : HostId). slice_get (a ∷ b ∷ []) i.0) (sym (to_is Client e)) ∙ st.at)) in
        ends_so a st.after v g.more (st.hosts_are ∙ ap (λ (i : HostId). slice_set (a ∷ b ∷ []) i.0 st.after) (to_is Client e)) mid.client g.settings
        mid.client_name (g.name ∙ mid.server_name)
        (ap (λ u. outcome s u (event.Deliver d) []) mid.is
        ∙ server_gets_it s clock mid.spares a.host b.host packets mid.answers d x.tick p.at p.level p.body p.payload fresh_enough (found Client e)
        ∙ ap (λ (h : Host). Done (record { world = world_after a.host h v; told = lines_after v })) (sym g.host))
        g.sent g.framed g.told

    to_client : p.role ≡ Server → HasStepped now f.to arrives done (a ∷ b ∷ []) hosts new new' → Delivers s n m clock d rest hosts left new' done w
    to_client e st =
        let v : Work = step_of Server a in
        let g : Arrived a st.after v =
        arrived Server a e mid.client mid.client_name st
        (same_some a st.before (ap (λ (i : HostId). slice_get (a ∷ b ∷ []) i.0) (sym (to_is Server e)) ∙ st.at)) in
        ends_so st.after b v g.more (st.hosts_are ∙ ap (λ (i : HostId). slice_set (a ∷ b ∷ []) i.0 st.after) (to_is Server e)) g.settings mid.server
        (g.name ∙ mid.client_name) mid.server_name
        (ap (λ u. outcome s u (event.Deliver d) []) mid.is
        ∙ client_gets_it s clock mid.spares a.host b.host packets mid.answers d x.tick p.at p.level p.body p.payload fresh_enough (found Server e)
        ∙ ap (λ (h : Host). Done (record { world = world_after h b.host v; told = lines_after v })) (sym g.host))
        g.sent g.framed g.told

    -- the frame comes first: its delivery is the world's
    pub delivers : HasStepped now f.to arrives done (a ∷ b ∷ []) hosts new new' → Delivers s n m clock d rest hosts left new' done w
    delivers st = by p.role refl where
      by : (r : Role) → p.role ≡ r → Delivers s n m clock d rest hosts left new' done w
      by Client e = to_server e st
      by Server e = to_client e st
