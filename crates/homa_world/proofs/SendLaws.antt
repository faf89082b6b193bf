-- Frames that are sent one by one.
use Rattle.std.proofs.Common.{◌≡◌, ◌<◌, ◌≤◌, ℕ, zero, suc, ◌+◌, ◌-◌, Some, None, List, [], ◌∷◌, ◌++◌, length, refl, sym, ap, subst, ◌∙◌, arith, append_assoc}
use Rattle.std.specs.Prelude.{map, take, slice_get, IfSome}
use Rattle.std.specs.List.{AllByRecursion}
use Rattle.homa_plain.specs.declared.id.HostId.{HostId}
use Rattle.host_view.specs.declared.outbox.SentFrame.{SentFrame}
use Rattle.world_packets.specs.declared.packets.Packets.{Packets}
use Rattle.world_packets.specs.Kept.{WholePacket}
use Rattle.world_packets.specs.All.{kept_all, settings_of, open_tick, HasRoomFor}
use Rattle.homa_world.specs.Packed.{frame_kept, IsShort}

-- the first frames were sent
pub record AreSent (old : Packets) (frames : List SentFrame) (i : ℕ) (new : Packets) : Type 0 where
  pub kept : kept_all new ≡ kept_all old ++ map (frame_kept (open_tick old)) (take i frames)
  pub tick : open_tick new ≡ open_tick old
  pub room : HasRoomFor new (64 - i)
  pub settings : settings_of new ≡ settings_of old

map_front : {A B : Type 0} (f : A → B) (xs : List A) (i : ℕ) (x : A) → slice_get xs i ≡ Some x → map f (take (suc i) xs) ≡ map f (take i xs) ++ f x ∷ []
map_front f [] i x e = absurd (no e) where
  no : {A : Type 0} {x : A} → None ≡ Some x → ⊥
  no e = cc
map_front f (y ∷ xs) zero x e = ap (λ z. f z ∷ []) (some_is y x e) where
  some_is : {A : Type 0} (x y : A) → Some x ≡ Some y → x ≡ y
  some_is x y e = cc
map_front f (y ∷ xs) (suc i) x e = ap (λ ys. f y ∷ ys) (map_front f xs i x e)

-- the frame with this number
record IsFrame (frames : List SentFrame) (i : ℕ) (f : SentFrame) : Type 0 where
  pub at : slice_get frames i ≡ Some f
  pub short : IsShort f

frame_at : (frames : List SentFrame) (i : ℕ) → i < length frames → AllByRecursion IsShort frames → (f : SentFrame) × IsFrame frames i f
frame_at [] i l all = absurd (omega (arith, l))
frame_at (f ∷ frames) zero l all = (f, record { at = refl; short = all.0 })
frame_at (f ∷ frames) (suc i) l all = let r = frame_at frames i (omega (arith, l)) all.1 in (r.0, record { at = r.1.at; short = r.1.short })

module _ (frames : List SentFrame) (i : ℕ) (within : i < length frames) (all : AllByRecursion IsShort frames) (from to : HostId) (bytes : List ℕ) where
  here : (P : SentFrame → Type 0) (f : SentFrame) → slice_get frames i ≡ Some f → IfSome (slice_get frames i) P → P f
  here P f e p = subst (λ o. IfSome o P) e p

  pub short_at : IfSome (slice_get frames i) (λ f. bytes ≡ f.frame) → length bytes ≤ 1444
  short_at b = let r = frame_at frames i within all in let e : length bytes ≡ length r.0.frame =
      ap length (here (λ f. bytes ≡ f.frame) r.0 r.1.at b) in omega (arith, r.1.short, e)

  pub sent_at : (old mid new : Packets) → IfSome (slice_get frames i) (λ f. from ≡ f.from) → IfSome (slice_get frames i) (λ f. to ≡ f.to)
      → IfSome (slice_get frames i) (λ f. bytes ≡ f.frame)
      → AreSent old frames i mid → kept_all new ≡ kept_all mid ++ WholePacket (open_tick mid) (record { from = from; to = to; bytes = bytes }) ∷ []
      → ((n : ℕ) → HasRoomFor mid (n + 1) → HasRoomFor new n) → open_tick new ≡ open_tick mid → settings_of new ≡ settings_of mid → i < 64
      → AreSent old frames (i + 1) new
  sent_at old mid new f t b s kept room tick settings few =
      let r = frame_at frames i within all in
      let same : record { from = from; to = to; bytes = bytes } ≡ record { from = r.0.from; to = r.0.to; bytes = r.0.frame } =
      ap (λ x. record { from = x; to = to; bytes = bytes }) (here (λ f. from ≡ f.from) r.0 r.1.at f)
      ∙ ap (λ x. record { from = r.0.from; to = x; bytes = bytes }) (here (λ f. to ≡ f.to) r.0 r.1.at t)
      ∙ ap (λ x. record { from = r.0.from; to = r.0.to; bytes = x }) (here (λ f. bytes ≡ f.frame) r.0 r.1.at b) in
      let next : suc i ≡ i + 1 = omega (arith) in
      let left : 64 - i ≡ 64 - (i + 1) + 1 = omega (arith, few) in
      record {
        kept = kept ∙ ap (λ ks. ks ++ WholePacket (open_tick mid) (record { from = from; to = to; bytes = bytes }) ∷ []) s.kept
            ∙ append_assoc (kept_all old) (map (frame_kept (open_tick old)) (take i frames))
            (WholePacket (open_tick mid) (record { from = from; to = to; bytes = bytes }) ∷ [])
            ∙ ap (λ k. kept_all old ++ (map (frame_kept (open_tick old)) (take i frames) ++ k ∷ []))
            (ap (λ n. WholePacket n (record { from = from; to = to; bytes = bytes })) s.tick ∙ ap (WholePacket (open_tick old)) same)
            ∙ ap (λ ks. kept_all old ++ ks) (sym (map_front (frame_kept (open_tick old)) frames i r.0 r.1.at))
            ∙ ap (λ n. kept_all old ++ map (frame_kept (open_tick old)) (take n frames)) next;
        tick = tick ∙ s.tick;
        room = room (64 - (i + 1)) (subst (HasRoomFor mid) left s.room);
        settings = settings ∙ s.settings;
      }

pub room_one : (p : Packets) (n : ℕ) → 0 < n → HasRoomFor p n → HasRoomFor p 1
room_one p n l r = record {
  room = record { recs = omega (arith, r.room.recs, l); bytes = omega (arith, r.room.bytes, l) };
  small = omega (arith, r.small, l);
  few = omega (arith, r.few, l);
}
