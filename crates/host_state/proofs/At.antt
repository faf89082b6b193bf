-- A control in the midst of a step, as the step goes on.
use Rattle.std.proofs.Common.{◌≡◌, ℕ, suc, ◌+◌, Bool, true, false, cond, Some, List, [], ◌∷◌, ◌++◌, length, refl, sym, ap, subst, ◌∙◌, arith}
use Rattle.std.specs.Prelude.{◌==◌, nat_lt, if◌then◌else◌, slice_set, slice_index_or, ◌<◌}
use Rattle.homa_plain.specs.declared.packet.Role.TheVariants.{Client}
use Rattle.std.proofs.lemmas.Bool.Decides.{nat_tests}
use Rattle.std.specs.List.{AllByRecursion}
use Rattle.std.proofs.lemmas.List.{append-nil, length-map, length-append}
use Rattle.homa_plain.specs.declared.id.CallId.{CallId}
use Rattle.homa_plain.specs.declared.id.HostId.{HostId}
use Rattle.homa_plain.specs.declared.packet.Role.{Role}
use Rattle.homa_plain.specs.declared.settings.Settings.{Settings}
use Rattle.homa_plain.specs.Entries.{PlainEntry, PlainBalance}
use Rattle.homa_plain.specs.declared.packet.Body.TheVariants as body
use Rattle.std.proofs.lemmas.Bool.{eq-eqb, ne_eqb}
use Rattle.homa_plain.specs.Packets.{Packet}
use Rattle.homa_plain.specs.Host.{Told, Says, Sends, packets_in, finished_at, with_finished, Tuning, Tuned, tuned, counted, rebalanced, is_balance_due}
use Rattle.homa_plain.specs.Sending.{Content}
use Rattle.homa_plain.specs.Work.{Work, tells, packet_from, posts}
use Rattle.homa_plain.specs.CutoffsPackets.{notes, tells_cutoffs}
use Rattle.homa_plain.specs.FiveAcks.{acknowledged}
use Rattle.step_laws.proofs.ToldBy.{packets_in-append}
use Rattle.step_laws.proofs.Places.{all-append}
use Rattle.host_view.specs.declared.mark.Mark.TheVariants.{Sent, Balanced}
use Rattle.host_view.specs.declared.outbox.SentFrame.{SentFrame}
use Rattle.host_view.specs.Frames.{frame_of, frames_of, IsFormed}
use Rattle.host_view.specs.Marks.{mark_of, marks_from}
use Rattle.host_state.specs.Control.{Control, IsAt, sent_by}

marks-append : (n : ℕ) (a b : List Told) → marks_from n (a ++ b) ≡ marks_from n a ++ marks_from (n + length (packets_in a)) b
marks-append n [] b = ap (λ k. marks_from k b) (omega arith)
marks-append n (Says entry ∷ a) b = ap (λ ms. mark_of entry ∷ ms) (marks-append n a b)
marks-append n (Sends p ∷ a) b = ap (λ ms. Sent n ∷ ms) (marks-append (suc n) a b ∙ ap (λ k. marks_from (suc n) a ++ marks_from k b) (omega arith))

frames-append : (s : Settings) (a b : List Packet) → frames_of s (a ++ b) ≡ frames_of s a ++ frames_of s b
frames-append s [] b = refl
frames-append s (p ∷ a) b = ap (λ fs. frame_of s p ∷ fs) (frames-append s a b)

-- an entry is told
pub at-told : (w : Work) (c d : Control) (frames : List SentFrame) (entry : PlainEntry) → d ≡ record c { marks = c.marks ++ mark_of entry ∷ [] }
    → IsAt w c frames → IsAt (tells (Says entry ∷ []) w) d frames
at-told w c d frames entry e at = subst (λ d. IsAt (tells (Says entry ∷ []) w) d frames) (sym e) (record {
  id = at.id;
  inc = at.inc;
  last = at.last;
  tuning = at.tuning;
  peers = at.peers;
  finished = at.finished;
  marked = ap (λ ms. ms ++ mark_of entry ∷ []) at.marked ∙ sym (marks-append 0 w.told (Says entry ∷ []));
  sent = at.sent ∙ ap (frames_of c.settings) (sym (same w.told));
  formed = subst (λ ps. AllByRecursion (IsFormed c.settings) ps) (sym (same w.told)) at.formed;
}) where
  same : (told : List Told) → packets_in (told ++ Says entry ∷ []) ≡ packets_in told
  same told = packets_in-append told (Says entry ∷ []) ∙ append-nil (packets_in told)

-- a packet is made of the host's clock and incarnation
same_packet : (w : Work) (c : Control) (frames : List SentFrame) (role : Role) (id : CallId) (server : HostId) (content : Content) → IsAt w c frames
    → packet_from c.settings w.host role id server content ≡ sent_by c role id server content
same_packet w c frames role id server content at = λ i. record {
  role = role;
  id = id;
  server = server;
  inc = at.inc i;
  at = if c.settings.wire == 1 then 0 else at.last i;
  level = content.level;
  body = content.body;
  payload = content.payload;
}

at_packet : (w : Work) (c : Control) (frames : List SentFrame) (p q : Packet) → q ≡ p → IsFormed c.settings p → IsAt w c frames
    → IsAt (tells (Sends q ∷ []) w) (record c { marks = c.marks ++ Sent (length frames) ∷ [] }) (frames ++ frame_of c.settings p ∷ [])
at_packet w c frames p q same formed at = record {
  id = at.id;
  inc = at.inc;
  last = at.last;
  tuning = at.tuning;
  peers = at.peers;
  finished = at.finished;
  marked = ap (λ ms. ms ++ Sent (length frames) ∷ []) at.marked ∙ ap (λ n. marks_from 0 w.told ++ Sent n ∷ [])
      (ap length at.sent ∙ length-map (packets_in w.told) (frame_of c.settings) ∙ omega arith) ∙ sym (marks-append 0 w.told (Sends q ∷ []));
  sent = ap (λ fs. fs ++ frame_of c.settings p ∷ []) at.sent ∙ ap (λ x. frames_of c.settings (packets_in w.told) ++ frame_of c.settings x ∷ []) (sym same)
      ∙ sym (frames-append c.settings (packets_in w.told) (q ∷ [])) ∙ ap (frames_of c.settings) (sym (packets_in-append w.told (Sends q ∷ [])));
  formed = subst (λ ps. AllByRecursion (IsFormed c.settings) ps) (sym (packets_in-append w.told (Sends q ∷ [])))
      (all-append (IsFormed c.settings) (packets_in w.told) (q ∷ []) at.formed (subst (λ x. IsFormed c.settings x) (sym same) formed, tt));
}

-- a packet is sent
pub at-sent : (w : Work) (c d : Control) (frames frames' : List SentFrame) (role : Role) (id : CallId) (server : HostId) (content : Content)
    → IsFormed c.settings (sent_by c role id server content) → d ≡ record c { marks = c.marks ++ Sent (length frames) ∷ [] }
    → frames' ≡ frames ++ frame_of c.settings (sent_by c role id server content) ∷ []
    → IsAt w c frames → IsAt (tells (Sends (packet_from c.settings w.host role id server content) ∷ []) w) d frames'
at-sent w c d frames frames' role id server content formed e f at =
    let p = sent_by c role id server content in
    let q = packet_from c.settings w.host role id server content in
    subst (λ fs. IsAt (tells (Sends q ∷ []) w) d fs) (sym f) (subst (λ d. IsAt (tells (Sends q ∷ []) w) d (frames ++ frame_of c.settings p ∷ [])) (sym e)
    (at_packet w c frames p q (same_packet w c frames role id server content at) formed at))

-- what the host knows of lengths changes
at-tuning : (w : Work) (c : Control) (frames : List SentFrame) (t : Tuning) → IsAt w c frames
    → IsAt (record w { host = record w.host { tuning = t } }) (record c { tuning = t }) frames
at-tuning w c frames t at =
    record {
      id = at.id;
      inc = at.inc;
      last = at.last;
      tuning = refl;
      peers = at.peers;
      finished = at.finished;
      marked = at.marked;
      sent = at.sent;
      formed = at.formed;
    }

-- nothing is told
pub at-none : (w : Work) (c : Control) (frames : List SentFrame) → IsAt w c frames → IsAt (tells [] w) c frames
at-none w c frames at = subst (λ t. IsAt (record w { told = t }) c frames) (sym (append-nil w.told)) at

-- what comes of a length
abbrev noted_by : Work → Tuned → Work
noted_by w u = tells u.told (record w { host = record w.host { tuning = u.tuning } })

at_still : (w : Work) (c : Control) (frames : List SentFrame) (u : Tuned) (t : Tuning) → u ≡ record { tuning = t; told = [] } → IsAt w c frames
    → IsAt (noted_by w u) (record c { tuning = t }) frames
at_still w c frames u t e at = subst (λ u. IsAt (noted_by w u) (record c { tuning = t }) frames) (sym e)
    (at-none (record w { host = record w.host { tuning = t } }) (record c { tuning = t }) frames (at-tuning w c frames t at))

at_due : (w : Work) (c d : Control) (frames : List SentFrame) (u : Tuned) (t : Tuning)
    → u ≡ record { tuning = t; told = Says (PlainBalance w.host.id t.own) ∷ [] }
    → d ≡ record c { tuning = t; marks = c.marks ++ Balanced t.own ∷ [] } → IsAt w c frames → IsAt (noted_by w u) d frames
at_due w c d frames u t e f at = subst (λ u. IsAt (noted_by w u) d frames) (sym e)
    (at-told (record w { host = record w.host { tuning = t } }) (record c { tuning = t }) d frames (PlainBalance w.host.id t.own) f (at-tuning w c frames t at))

tuned_by : (s : Settings) (host : HostId) (t t' : Tuning) (n : ℕ) (b : Bool) → t ≡ t' → is_balance_due s (counted t' n) ≡ b
    → tuned s host t n ≡ cond b
    (record { tuning = rebalanced s (counted t' n); told = Says (PlainBalance host (rebalanced s (counted t' n)).own) ∷ [] })
    (record { tuning = counted t' n; told = [] })
unfolding tuned
tuned_by s host t t' n b same due = ap (λ t. tuned s host t n) same
    ∙ ap (λ b. cond {A = Tuned} b
    (record { tuning = rebalanced s (counted t' n); told = Says (PlainBalance host (rebalanced s (counted t' n)).own) ∷ [] })
    (record { tuning = counted t' n; told = [] })) due

-- a length is noted, and the cutoffs stay
pub at-counted : (w : Work) (c d : Control) (frames : List SentFrame) (n : ℕ) → is_balance_due c.settings (counted c.tuning n) ≡ false
    → d ≡ record c { tuning = counted c.tuning n }
    → IsAt w c frames → IsAt (notes c.settings (Some n) w) d frames
at-counted w c d frames n still e at = subst (λ d. IsAt (notes c.settings (Some n) w) d frames) (sym e)
    (at_still w c frames (tuned c.settings w.host.id w.host.tuning n) (counted c.tuning n)
    (tuned_by c.settings w.host.id w.host.tuning c.tuning n false at.tuning still) at)

-- a length is noted, and the cutoffs are computed anew
pub at-balanced : (w : Work) (c d : Control) (frames : List SentFrame) (n : ℕ) → is_balance_due c.settings (counted c.tuning n) ≡ true
    → d ≡ record c { tuning = rebalanced c.settings (counted c.tuning n); marks = c.marks ++ Balanced (rebalanced c.settings (counted c.tuning n)).own ∷ [] }
    → IsAt w c frames → IsAt (notes c.settings (Some n) w) d frames
at-balanced w c d frames n due e at =
    at_due w c d frames (tuned c.settings w.host.id w.host.tuning n) (rebalanced c.settings (counted c.tuning n))
    (tuned_by c.settings w.host.id w.host.tuning c.tuning n true at.tuning due) e at

-- the present cutoffs are told, or they are known
pub at-known : (w : Work) (c : Control) (frames : List SentFrame) (role : Role) (id : CallId) (server : HostId) (version : ℕ)
    → version ≡ c.tuning.own.version → IsAt w c frames
    → IsAt (tells_cutoffs c.settings role id server (Some version) w) c frames
at-known w c frames role id server version e at =
    subst (λ b. IsAt (cond b w (posts c.settings role id server (body.Cutoffs w.host.tuning.own) w)) c frames)
    (sym (eq-eqb version w.host.tuning.own.version (e ∙ ap (λ (t : Tuning). t.own.version) (sym at.tuning)))) at

pub at-unknown : (w : Work) (c d : Control) (frames frames' : List SentFrame) (role : Role) (id : CallId) (server : HostId) (version : ℕ)
    → (version ≡ c.tuning.own.version → ⊥)
    → IsAt (posts c.settings role id server (body.Cutoffs c.tuning.own) w) d frames' → IsAt w c frames
    → IsAt (tells_cutoffs c.settings role id server (Some version) w) d frames'
at-unknown w c d frames frames' role id server version ne posted at =
    subst (λ b. IsAt (cond b w (posts c.settings role id server (body.Cutoffs w.host.tuning.own) w)) d frames')
    (sym (ne_eqb version w.host.tuning.own.version (λ e. ne (e ∙ ap (λ (t : Tuning). t.own.version) at.tuning))))
    (subst (λ (t : Tuning). IsAt (posts c.settings role id server (body.Cutoffs t.own) w) d frames') (sym at.tuning) posted)

-- ---- finished calls

at_with : (w : Work) (c : Control) (frames : List SentFrame) (server : HostId) (calls : List (ℕ × ℕ)) → IsAt w c frames
    → IsAt (record w { host = with_finished server calls w.host }) (record c { finished = slice_set c.finished server.0 calls }) frames
at_with w c frames server calls at = record {
  id = at.id;
  inc = at.inc;
  last = at.last;
  tuning = at.tuning;
  peers = at.peers;
  finished = ap (λ f. slice_set f server.0 calls) at.finished;
  marked = at.marked;
  sent = at.sent;
  formed = at.formed;
}

-- fewer than five calls are kept
joined : (w : Work) (c : Control) (frames : List SentFrame) (server : HostId) (l : List (ℕ × ℕ)) (call : ℕ × ℕ) → length l + 1 < 5 → IsAt w c frames
    → IsAt (acknowledged c.settings server (l ++ call ∷ []) w) (record c { finished = slice_set c.finished server.0 (l ++ call ∷ []) }) frames
joined w c frames server [] call few at = at_with w c frames server (call ∷ []) at
joined w c frames server (x ∷ xs) call few at =
    subst (λ b. IsAt
    (cond b (record w { host = with_finished server (x ∷ (xs ++ call ∷ [])) w.host })
    (posts c.settings Client (record { client = w.host.id; inc = x.0; seq = x.1 }) server (body.Ack (xs ++ call ∷ []))
    (record w { host = with_finished server [] w.host }))) (record c { finished = slice_set c.finished server.0 (x ∷ (xs ++ call ∷ [])) }) frames)
    (sym (below (xs ++ call ∷ []) (length-append xs (call ∷ [])))) (at_with w c frames server (x ∷ (xs ++ call ∷ [])) at) where
      below : (ys : List (ℕ × ℕ)) → length ys ≡ length xs + 1 → nat_lt (length ys) 4 ≡ true
      below ys long = grind (arith, nat_tests)

pub at-joined : (w : Work) (c d : Control) (frames : List SentFrame) (server : HostId) (call : ℕ × ℕ) → length (slice_index_or c.finished server.0 []) + 1 < 5
    → d ≡ record c { finished = slice_set c.finished server.0 (slice_index_or c.finished server.0 [] ++ call ∷ []) } → IsAt w c frames
    → IsAt (acknowledged c.settings server (finished_at w.host server ++ call ∷ []) w) d frames
at-joined w c d frames server call few e at = subst (λ d. IsAt (acknowledged c.settings server (finished_at w.host server ++ call ∷ []) w) d frames) (sym e)
    (subst (λ f. IsAt (acknowledged c.settings server (slice_index_or f server.0 [] ++ call ∷ []) w)
    (record c { finished = slice_set c.finished server.0 (slice_index_or c.finished server.0 [] ++ call ∷ []) }) frames) (sym at.finished)
    (joined w c frames server (slice_index_or c.finished server.0 []) call few at))

-- five are acknowledged together
five : (w : Work) (c d : Control) (frames : List SentFrame) (server : HostId) (calls : List (ℕ × ℕ)) (first : ℕ × ℕ) (rest : List (ℕ × ℕ))
    → calls ≡ first ∷ rest → length rest ≡ 4 → w.host.id ≡ c.id
    → IsAt (posts c.settings Client (record { client = c.id; inc = first.0; seq = first.1 }) server (body.Ack rest)
    (record w { host = with_finished server [] w.host })) d frames
    → IsAt (acknowledged c.settings server calls w) d frames
five w c d frames server calls first rest e long id posted = subst (λ l. IsAt (acknowledged c.settings server l w) d frames) (sym e)
    (subst (λ b. IsAt
    (cond b (record w { host = with_finished server (first ∷ rest) w.host })
    (posts c.settings Client (record { client = w.host.id; inc = first.0; seq = first.1 }) server (body.Ack rest)
    (record w { host = with_finished server [] w.host }))) d frames)
    (sym (ap (λ n. nat_lt n 4) long))
    (subst (λ id. IsAt
    (posts c.settings Client (record { client = id; inc = first.0; seq = first.1 }) server (body.Ack rest)
    (record w { host = with_finished server [] w.host })) d frames) (sym id) posted))

pub at-five : (w : Work) (c d : Control) (frames frames' : List SentFrame) (server : HostId) (call first : ℕ × ℕ) (rest : List (ℕ × ℕ))
    → slice_index_or c.finished server.0 [] ++ call ∷ [] ≡ first ∷ rest → length rest ≡ 4
    → ((v : Work) → IsAt v (record c { finished = slice_set c.finished server.0 [] }) frames → IsAt
    (posts c.settings Client (record { client = c.id; inc = first.0; seq = first.1 }) server (body.Ack rest) v) d frames')
    → IsAt w c frames → IsAt (acknowledged c.settings server (finished_at w.host server ++ call ∷ []) w) d frames'
at-five w c d frames frames' server call first rest e long posted at =
    five w c d frames' server (finished_at w.host server ++ call ∷ []) first rest
    (ap (λ f. slice_index_or f server.0 [] ++ call ∷ []) at.finished ∙ e) long at.id
    (posted (record w { host = with_finished server [] w.host }) (at_with w c frames server [] at))
