use Rattle.std.proofs.Common.{◌≡◌, ◌<◌, ◌+◌, ◌-◌, zero, suc, refl, ◌∙◌, sym, ap, subst, ◌∷◌, [], arith}
use Rattle.std.specs.Prelude.{map}
use Rattle.homa_plain.specs.Entries.{PlainRecv}
use Rattle.node_runs.specs.Course.{Tells, IsReceived, hears}
use Rattle.node_turns.specs.Told.{listed, ListedFront, Hears, Turns}
use Rattle.std.proofs.lemmas.List.{length-map}
use Rattle.node_turns.specs.Acting.{frame_datagram}
use Rattle.node_turns.proofs.Tellings.{told_one}
use Rattle.node_turns.proofs.Frames.{acts_of}
use Rattle.node_turns.proofs.Done.{gone_none, gone_more, gone_coming, gone_step, gone_nothing, gone_all, came_is, nothing_is}
use Rattle.node_turns.proofs.Done.{broken_more, broken_none, broken_coming, broken_unsent, broken_untold, halted_more, halted_coming}
use Rattle.node_turns.proofs.Acted.{acted_none, acted_on, acted_telling}
use Rattle.node_turns.proofs.Hearing.{heard_next, heard_nothing, heard_all}
use Rattle.std.proofs.lemmas.Result.{MatchResult-from_err, err_from_is_err_and}
use Rattle.node_turns.proofs.Lists.{whole_listed, listed_none, listed_more, front_none, front_listed}
use Rattle.node_turns.proofs.Tellings.{on_seen, on_seen_both, on_seen_never, seen_heard}
use Rattle.node_turns.proofs.Cuts.{cut_on}
use Rattle.node_turns.proofs.Same.{stepped_none, stepped_on, stepped_within, outside_none, outside_memory, outside_went, outside_lost, outside_untold}
use Rattle.node_turns.proofs.Same.{outside_on}
use Rattle.node_turns.proofs.HeardCuts.{cut_before, recv_cut, heard_cut}
use Rattle.node_turns.proofs.acts.hears.Goals as goal

pub loop-i-init : goal.loop-i-init
loop-i-init g c =
    let o = g.O.Observer in
    record {
      acted = λ w h. acted_none (g.H.LoopHosts.settings c.args.hosts.now) (hears (g.H.LoopHosts.settings c.args.hosts.now) c.args.host 64) w _ _ _ _ _ h
          (gone_none o.told o.kept o.strange _ _ _ (Hears 64));
      stepped = stepped_none g.H.LoopHosts.settings g.H.LoopHosts.clock g.H.LoopHosts.steps c.args.hosts.now 0;
      outside = outside_none g.N.Net.known g.N.Net.faults o.faults o.is_same g.met.O.Observer.same_self g.met.O.Observer.same_on c.args.net.now
          c.args.observer.now;
    }

pub loop-i-preserved : goal.loop-i-preserved
loop-i-preserved g c =
    let o = g.O.Observer in
    let s = g.H.LoopHosts.settings c.args.hosts.now in
    let i = c.loop-i.i in
    let l = c.loop-i in
    let r = c.in_ok-from.ensures in
    let n = c.in_ok-seen.ensures in
    let told = g.H.LoopHosts.told c.hear.new.self in
    let frames = g.H.LoopHosts.frames c.hear.new.self in
    let next : 64 - i ≡ suc (64 - (i + 1)) = omega (arith, c.loop-i-test.true) in
    record {
      acted = λ w h. acted_on s (hears s c.args.host 64) (hears s c.args.host (64 - i)) (hears s c.args.host (64 - (i + 1))) w
          (g.H.LoopHosts.stands l.hosts) _ _ (g.H.LoopHosts.allows l.hosts) _ _ _ _ _ (g.N.Net.sent l.net) _ _ (g.N.Net.gave l.net) _ (l.invariant.acted w h)
          (λ v st. heard_next s c.args.host (64 - i) (64 - (i + 1)) next
          (g.H.LoopHosts.settings l.hosts) l.invariant.stepped.settings c.in-Frame.from c.bytes-bytes.result.now c.bytes-bytes.result.now c.recv.new.frame
          c.bytes-bytes.ensures.bytes c.bytes-bytes.ensures.bytes c.in_ok-from.field-0 c.in-Frame.is
          v _ told (g.H.LoopHosts.frames c.hear.new.self) _ _ _ _ _ _ _ (c.in_ok-hear.ensures.done v st)
          (gone_more o.told o.kept o.strange (o.taken l.observer) (o.taken c.seen.new.self) _ (o.notes l.observer) (o.notes c.seen.new.self) _
          (g.N.Net.acts l.net) (g.N.Net.acts c.recv.new.self) _ (Hears (64 - i)) (Hears (64 - (i + 1))) (Hears (64 - (i + 1)))
          (Tells (PlainRecv c.args.host c.in-Frame.from c.bytes-bytes.result.now) ∷ []) (map Tells told)
          (gone_coming o.told o.kept o.strange _ _ _ _ _ _ c.args.host (record { from = c.in-Frame.from; bytes = c.bytes-bytes.result.now }) (64 - i)
          (64 - (i + 1)) next
          (came_is _ _ c.args.host c.in-Frame.from c.in_ok-from.field-0 c.bytes-bytes.result.now c.recv.new.frame c.in-Frame.is
          c.bytes-bytes.ensures.bytes r.acts)
          (told_one o.told o.kept o.strange _ _ _ _ (Tells (PlainRecv c.args.host c.in-Frame.from c.bytes-bytes.result.now)) n.told n.kept n.usual))
          (gone_step o.told o.kept o.strange _ _ _ _ _ _ (64 - (i + 1)) told (map frame_datagram frames) c.in_ok-hear.ensures.own
          (length-map frames frame_datagram ∙ (c.in_ok-hear.ensures.done v st).numbers)
          (c.in_ok-send_frames.ensures.acts ∙ ap (listed (g.N.Net.acts c.recv.new.self)) (acts_of frames)) c.in_ok-tell_entries.ensures.ok))
          (c.in_ok-send_frames.ensures.ok ∙ ap (λ x. listed x (map frame_datagram (g.H.LoopHosts.frames c.hear.new.self))) r.sent)
          (c.in_ok-send_frames.ensures.gave ∙ r.gave)
          (subst (λ q. IsReceived (record { from = c.in-Frame.from; bytes = q })) c.bytes-bytes.ensures.bytes (c.is_received.ensures c.in-Frame.from)))
          (λ x y p q. gone_more o.told o.kept o.strange _ (o.taken l.observer) _ _ (o.notes l.observer) _ _ (g.N.Net.acts l.net) _ (Hears 64)
          (Hears (64 - i)) (Hears (64 - (i + 1))) x y p q);
      stepped = stepped_on g.H.LoopHosts.settings g.H.LoopHosts.clock g.H.LoopHosts.steps c.args.hosts.now l.hosts c.hear.new.self i 1 (i + 1) (omega arith)
          l.invariant.stepped c.in_ok-hear.ensures.stepped;
      outside =
          let e = c.in_ok-send_frames.ensures in
          let k = c.in_ok-tell_entries.ensures in
          outside_on g.N.Net.known g.N.Net.faults o.faults o.is_same g.met.O.Observer.same_self g.met.O.Observer.same_on c.args.net.now
          l.net c.send_frames.new.net c.args.observer.now l.observer c.tell_entries.new.observer _ l.invariant.outside
          (outside_on g.N.Net.known g.N.Net.faults o.faults o.is_same g.met.O.Observer.same_self g.met.O.Observer.same_on l.net c.recv.new.self
          c.send_frames.new.net l.observer c.seen.new.self c.tell_entries.new.observer _
          (outside_went g.N.Net.known g.N.Net.faults o.faults o.is_same g.met.O.Observer.same_self g.met.O.Observer.same_on l.net c.recv.new.self
          l.observer c.seen.new.self r.known r.counted.quiet n.quiet n.same)
          (outside_went g.N.Net.known g.N.Net.faults o.faults o.is_same g.met.O.Observer.same_self g.met.O.Observer.same_on c.recv.new.self
          c.send_frames.new.net c.seen.new.self c.tell_entries.new.observer e.known e.quiet k.quiet k.same));
    }

pub returns-in_default-clause-acted : goal.returns-in_default-clause-acted
returns-in_default-clause-acted g c =
    let o = g.O.Observer in
    let s = g.H.LoopHosts.settings c.args.hosts.now in
    let i = c.loop-i.i in
    let l = c.loop-i in
    let r = c.in_ok-from.ensures in
    let next : 64 - i ≡ suc (63 - i) = omega (arith, c.loop-i-test.true) in
    λ w h. acted_on s _ (hears s c.args.host (64 - i)) _ w (g.H.LoopHosts.stands l.hosts) _ _ (g.H.LoopHosts.allows l.hosts) _ _ _ _ _ (g.N.Net.sent l.net) _ _
    (g.N.Net.gave l.net) _ (l.invariant.acted w h)
    (λ v st. heard_nothing s c.args.host (64 - i) (63 - i) next c.in_ok-from.field-0 c.recv.new.frame c.in_default.not-Frame v _ _ _ _ _ _ _ st
    (gone_nothing o.told o.kept o.strange (o.taken l.observer) (o.notes l.observer) (g.N.Net.acts l.net) _ c.args.host (64 - i) (63 - i) next
    (nothing_is _ _ c.args.host c.in_ok-from.field-0 c.recv.new.frame c.in_default.not-Frame r.acts)) r.sent r.gave)
    (λ x y p q. gone_more o.told o.kept o.strange _ (o.taken l.observer) _ _ (o.notes l.observer) _ _ (g.N.Net.acts l.net) _ (Hears 64) (Hears (64 - i))
    (Turns c.args.host) x y p q)

pub returns-clause-acted : goal.returns-clause-acted
returns-clause-acted g c =
    let s = g.H.LoopHosts.settings c.args.hosts.now in
    let i = c.loop-i.i in
    let none : 64 - i ≡ zero = omega (arith, c.loop-i-test.false) in
    let o = g.O.Observer in
    λ w h. acted_telling s (hears s c.args.host 64) _ w _ _ _ _ _ _ _ _ _
    (λ x p. gone_all o.told o.kept o.strange _ _ _ _ _ _ (Hears 64) c.args.host (64 - i) x none p)
    (heard_all s c.args.host (hears s c.args.host 64) (64 - i) none w _ _ _ _ _ _ _ _ (c.loop-i.invariant.acted w h))

pub returns-in_err-from-clause-cut : goal.returns-in_err-from-clause-cut
returns-in_err-from-clause-cut g c =
    let o = g.O.Observer in
    let s = g.H.LoopHosts.settings c.args.hosts.now in
    let i = c.loop-i.i in
    let l = c.loop-i in
    MatchResult-from_err _ _ _ c.from_residual.ensures.0
    (λ _ w h. cut_on s (hears s c.args.host 64) (hears s c.args.host (64 - i)) w (g.H.LoopHosts.stands l.hosts) _ (g.H.LoopHosts.allows l.hosts) _ _ _ _ _ _
    (g.N.Net.sent l.net) _ (g.N.Net.gave l.net) _ (l.invariant.acted w h)
    (λ v st. cut_before s c.args.host (64 - i) v _ _ _ _ _
    (broken_none o.told o.kept o.strange _ _ _ _ (64 - i) c.in_err-from.ensures.err_acts) (front_none _ _ c.in_err-from.ensures.sent)
    c.in_err-from.ensures.err_gave
    (g.met.H.LoopHosts.allows_none l.hosts))
    (λ x y p q. broken_more o.told o.kept o.strange _ (o.taken l.observer) _ _ (o.notes l.observer) _ (g.N.Net.acts l.net) _ (Hears 64)
    (Hears (64 - i)) x y p q)
    (λ x y p q. front_listed _ (g.N.Net.sent l.net) _ x y p q))

pub returns-in_err-seen-clause-cut : goal.returns-in_err-seen-clause-cut
returns-in_err-seen-clause-cut g c =
    let o = g.O.Observer in
    let s = g.H.LoopHosts.settings c.args.hosts.now in
    let i = c.loop-i.i in
    let l = c.loop-i in
    let next : 64 - i ≡ suc (64 - (i + 1)) = omega (arith, c.loop-i-test.true) in
    let r = c.in_ok-from.ensures in
    MatchResult-from_err _ _ _ c.from_residual-in_err-seen.ensures.0
    (λ _ w h. cut_on s (hears s c.args.host 64) (hears s c.args.host (64 - i)) w (g.H.LoopHosts.stands l.hosts) _ (g.H.LoopHosts.allows l.hosts) _ _ _ _ _ _
    (g.N.Net.sent l.net) _ (g.N.Net.gave l.net) _ (l.invariant.acted w h)
    (λ v st. recv_cut s c.args.host (64 - i) (64 - (i + 1)) next
    (g.H.LoopHosts.settings l.hosts) l.invariant.stepped.settings c.in-Frame.from c.bytes-bytes.result.now c.recv.new.frame c.bytes-bytes.ensures.bytes
    c.in_ok-from.field-0 c.in-Frame.is
    v (g.H.LoopHosts.allows l.hosts) _ _ _ _
    (g.met.H.LoopHosts.comes l.hosts v st c.args.host (record { from = c.in-Frame.from; bytes = c.recv.new.frame })
    (subst (λ q. c.args.host.0 < q.hosts) (sym l.invariant.stepped.settings) c.requires.host))
    (broken_coming o.told o.kept o.strange _ _ _ _ _ c.args.host (record { from = c.in-Frame.from; bytes = c.bytes-bytes.result.now }) (64 - i)
    (64 - (i + 1)) next
    (came_is _ _ c.args.host c.in-Frame.from c.in_ok-from.field-0 c.bytes-bytes.result.now c.recv.new.frame c.in-Frame.is c.bytes-bytes.ensures.bytes
    r.acts) c.in_err-seen.ensures.err)
    (front_none _ _ r.sent)
    r.gave
    (subst (λ q. IsReceived (record { from = c.in-Frame.from; bytes = q })) c.bytes-bytes.ensures.bytes (c.is_received.ensures c.in-Frame.from))
    (g.met.H.LoopHosts.allows_recv l.hosts c.args.host c.in-Frame.from c.recv.new.frame))
    (λ x y p q. broken_more o.told o.kept o.strange _ (o.taken l.observer) _ _ (o.notes l.observer) _ (g.N.Net.acts l.net) _ (Hears 64)
    (Hears (64 - i)) x y p q)
    (λ x y p q. front_listed _ (g.N.Net.sent l.net) _ x y p q))

pub returns-in_err-hear-clause-cut : goal.returns-in_err-hear-clause-cut
returns-in_err-hear-clause-cut g c =
    let o = g.O.Observer in
    let n = c.in_ok-seen.ensures in
    let s = g.H.LoopHosts.settings c.args.hosts.now in
    let i = c.loop-i.i in
    let l = c.loop-i in
    let next : 64 - i ≡ suc (64 - (i + 1)) = omega (arith, c.loop-i-test.true) in
    let r = c.in_ok-from.ensures in
    MatchResult-from_err _ _ _ c.from_residual-in_err-hear.ensures.0
    (λ _ w h. cut_on s (hears s c.args.host 64) (hears s c.args.host (64 - i)) w (g.H.LoopHosts.stands l.hosts) _ (g.H.LoopHosts.allows l.hosts) _ _ _ _ _ _
    (g.N.Net.sent l.net) _ (g.N.Net.gave l.net) _ (l.invariant.acted w h)
    (λ v st. recv_cut s c.args.host (64 - i) (64 - (i + 1)) next
    (g.H.LoopHosts.settings l.hosts) l.invariant.stepped.settings c.in-Frame.from c.bytes-bytes.result.now c.recv.new.frame c.bytes-bytes.ensures.bytes
    c.in_ok-from.field-0 c.in-Frame.is
    v (g.H.LoopHosts.allows l.hosts) _ _ _ _
    (g.met.H.LoopHosts.comes l.hosts v st c.args.host (record { from = c.in-Frame.from; bytes = c.recv.new.frame })
    (subst (λ q. c.args.host.0 < q.hosts) (sym l.invariant.stepped.settings) c.requires.host))
    (broken_more o.told o.kept o.strange _ (o.taken c.seen.new.self) _ _ (o.notes c.seen.new.self) _ (g.N.Net.acts c.recv.new.self) _
    (Hears (64 - i)) (Hears (64 - (i + 1)))
    (Tells (PlainRecv c.args.host c.in-Frame.from c.bytes-bytes.result.now) ∷ []) []
    (gone_coming o.told o.kept o.strange _ _ _ _ _ _ c.args.host (record { from = c.in-Frame.from; bytes = c.bytes-bytes.result.now }) (64 - i)
    (64 - (i + 1)) next
    (came_is _ _ c.args.host c.in-Frame.from c.in_ok-from.field-0 c.bytes-bytes.result.now c.recv.new.frame c.in-Frame.is c.bytes-bytes.ensures.bytes r.acts)
    (told_one o.told o.kept o.strange _ _ _ _ (Tells (PlainRecv c.args.host c.in-Frame.from c.bytes-bytes.result.now)) n.told n.kept n.usual))
    (broken_none o.told o.kept o.strange _ _ _ _ (64 - (i + 1)) refl)) (front_none _ _ r.sent) r.gave
    (subst (λ q. IsReceived (record { from = c.in-Frame.from; bytes = q })) c.bytes-bytes.ensures.bytes (c.is_received.ensures c.in-Frame.from))
    (g.met.H.LoopHosts.allows_recv l.hosts c.args.host c.in-Frame.from c.recv.new.frame))
    (λ x y p q. broken_more o.told o.kept o.strange _ (o.taken l.observer) _ _ (o.notes l.observer) _ (g.N.Net.acts l.net) _ (Hears 64)
    (Hears (64 - i)) x y p q)
    (λ x y p q. front_listed _ (g.N.Net.sent l.net) _ x y p q))

pub returns-in_err-send_frames-clause-cut : goal.returns-in_err-send_frames-clause-cut
returns-in_err-send_frames-clause-cut g c =
    let o = g.O.Observer in
    let s = g.H.LoopHosts.settings c.args.hosts.now in
    let i = c.loop-i.i in
    let l = c.loop-i in
    let next : 64 - i ≡ suc (64 - (i + 1)) = omega (arith, c.loop-i-test.true) in
    let r = c.in_ok-from.ensures in
    let n = c.in_ok-seen.ensures in
    let told = g.H.LoopHosts.told c.hear.new.self in
    let frames = g.H.LoopHosts.frames c.hear.new.self in
    MatchResult-from_err _ _ _ c.from_residual-in_err-send_frames.ensures.0
    (λ _ w h. cut_on s (hears s c.args.host 64) (hears s c.args.host (64 - i)) w (g.H.LoopHosts.stands l.hosts) _ (g.H.LoopHosts.allows l.hosts) _ _ _ _ _ _
    (g.N.Net.sent l.net) _ (g.N.Net.gave l.net) _ (l.invariant.acted w h)
    (λ v st. heard_cut s c.args.host (64 - i) (64 - (i + 1)) next
    (g.H.LoopHosts.settings l.hosts) l.invariant.stepped.settings c.in-Frame.from c.bytes-bytes.result.now c.bytes-bytes.result.now c.recv.new.frame
    c.bytes-bytes.ensures.bytes c.bytes-bytes.ensures.bytes c.in_ok-from.field-0 c.in-Frame.is
    v _ told (g.H.LoopHosts.frames c.hear.new.self) (g.H.LoopHosts.allows l.hosts) _ _ _ _ _ (c.in_ok-hear.ensures.done v st)
    (broken_more o.told o.kept o.strange _ (o.taken c.seen.new.self) _ _ (o.notes c.seen.new.self) _ (g.N.Net.acts c.recv.new.self) _
    (Hears (64 - i)) (Hears (64 - (i + 1)))
    (Tells (PlainRecv c.args.host c.in-Frame.from c.bytes-bytes.result.now) ∷ []) (map Tells told)
    (gone_coming o.told o.kept o.strange _ _ _ _ _ _ c.args.host (record { from = c.in-Frame.from; bytes = c.bytes-bytes.result.now }) (64 - i)
    (64 - (i + 1)) next
    (came_is _ _ c.args.host c.in-Frame.from c.in_ok-from.field-0 c.bytes-bytes.result.now c.recv.new.frame c.in-Frame.is c.bytes-bytes.ensures.bytes r.acts)
    (told_one o.told o.kept o.strange _ _ _ _ (Tells (PlainRecv c.args.host c.in-Frame.from c.bytes-bytes.result.now)) n.told n.kept n.usual))
    (broken_unsent o.told o.kept o.strange _ _ _ _ (64 - (i + 1)) told (map frame_datagram frames) c.in_ok-hear.ensures.own
    (length-map frames frame_datagram ∙ (c.in_ok-hear.ensures.done v st).numbers)
    (subst (ListedFront _ _) (acts_of frames) c.in_err-send_frames.ensures.err_acts)))
    (subst (λ x. ListedFront x (g.N.Net.sent c.send_frames.new.net) (map frame_datagram (g.H.LoopHosts.frames c.hear.new.self))) r.sent
    c.in_err-send_frames.ensures.err) (c.in_err-send_frames.ensures.gave ∙ r.gave)
    (subst (λ q. IsReceived (record { from = c.in-Frame.from; bytes = q })) c.bytes-bytes.ensures.bytes (c.is_received.ensures c.in-Frame.from))
    (g.met.H.LoopHosts.allows_none c.hear.new.self))
    (λ x y p q. broken_more o.told o.kept o.strange _ (o.taken l.observer) _ _ (o.notes l.observer) _ (g.N.Net.acts l.net) _ (Hears 64)
    (Hears (64 - i)) x y p q)
    (λ x y p q. front_listed _ (g.N.Net.sent l.net) _ x y p q))

pub returns-in_err-tell_entries-clause-cut : goal.returns-in_err-tell_entries-clause-cut
returns-in_err-tell_entries-clause-cut g c =
    let o = g.O.Observer in
    let s = g.H.LoopHosts.settings c.args.hosts.now in
    let i = c.loop-i.i in
    let l = c.loop-i in
    let next : 64 - i ≡ suc (64 - (i + 1)) = omega (arith, c.loop-i-test.true) in
    let r = c.in_ok-from.ensures in
    let n = c.in_ok-seen.ensures in
    let told = g.H.LoopHosts.told c.hear.new.self in
    let frames = g.H.LoopHosts.frames c.hear.new.self in
    MatchResult-from_err _ _ _ c.from_residual-in_err-tell_entries.ensures.0
    (λ _ w h. cut_on s (hears s c.args.host 64) (hears s c.args.host (64 - i)) w (g.H.LoopHosts.stands l.hosts) _ (g.H.LoopHosts.allows l.hosts) _ _ _ _ _ _
    (g.N.Net.sent l.net) _ (g.N.Net.gave l.net) _ (l.invariant.acted w h)
    (λ v st. heard_cut s c.args.host (64 - i) (64 - (i + 1)) next
    (g.H.LoopHosts.settings l.hosts) l.invariant.stepped.settings c.in-Frame.from c.bytes-bytes.result.now c.bytes-bytes.result.now c.recv.new.frame
    c.bytes-bytes.ensures.bytes c.bytes-bytes.ensures.bytes c.in_ok-from.field-0 c.in-Frame.is
    v _ told (g.H.LoopHosts.frames c.hear.new.self) (g.H.LoopHosts.allows l.hosts) _ _ _ _ _ (c.in_ok-hear.ensures.done v st)
    (broken_more o.told o.kept o.strange _ (o.taken c.seen.new.self) _ _ (o.notes c.seen.new.self) _ (g.N.Net.acts c.recv.new.self) _
    (Hears (64 - i)) (Hears (64 - (i + 1)))
    (Tells (PlainRecv c.args.host c.in-Frame.from c.bytes-bytes.result.now) ∷ []) (map Tells told)
    (gone_coming o.told o.kept o.strange _ _ _ _ _ _ c.args.host (record { from = c.in-Frame.from; bytes = c.bytes-bytes.result.now }) (64 - i)
    (64 - (i + 1)) next
    (came_is _ _ c.args.host c.in-Frame.from c.in_ok-from.field-0 c.bytes-bytes.result.now c.recv.new.frame c.in-Frame.is c.bytes-bytes.ensures.bytes r.acts)
    (told_one o.told o.kept o.strange _ _ _ _ (Tells (PlainRecv c.args.host c.in-Frame.from c.bytes-bytes.result.now)) n.told n.kept n.usual))
    (broken_untold o.told o.kept o.strange _ _ _ _ _ (64 - (i + 1)) told (map frame_datagram frames) c.in_ok-hear.ensures.own
    (length-map frames frame_datagram ∙ (c.in_ok-hear.ensures.done v st).numbers)
    (c.in_ok-send_frames.ensures.acts ∙ ap (listed (g.N.Net.acts c.recv.new.self)) (acts_of frames)) c.in_err-tell_entries.ensures.err))
    (whole_listed _ _ _ (c.in_ok-send_frames.ensures.ok ∙ ap (λ x. listed x (map frame_datagram (g.H.LoopHosts.frames c.hear.new.self))) r.sent))
    (c.in_ok-send_frames.ensures.gave ∙ r.gave)
    (subst (λ q. IsReceived (record { from = c.in-Frame.from; bytes = q })) c.bytes-bytes.ensures.bytes (c.is_received.ensures c.in-Frame.from))
    (g.met.H.LoopHosts.allows_none c.hear.new.self))
    (λ x y p q. broken_more o.told o.kept o.strange _ (o.taken l.observer) _ _ (o.notes l.observer) _ (g.N.Net.acts l.net) _ (Hears 64)
    (Hears (64 - i)) x y p q)
    (λ x y p q. front_listed _ (g.N.Net.sent l.net) _ x y p q))

pub returns-in_err-seen-clause-strange : goal.returns-in_err-seen-clause-strange
returns-in_err-seen-clause-strange g c =
    let o = g.O.Observer in
    let s = g.H.LoopHosts.settings c.args.hosts.now in
    let i = c.loop-i.i in
    let l = c.loop-i in
    let next : 64 - i ≡ suc (64 - (i + 1)) = omega (arith, c.loop-i-test.true) in
    let r = c.in_ok-from.ensures in
    let p = err_from_is_err_and c.from_residual-in_err-seen.result c.from_residual-in_err-seen.ensures.1 in
    rw (p.1, p.2) (on_seen_both c.in_err-seen.field-0.0 _ _ _
    (λ k m w h. cut_on s (hears s c.args.host 64) (hears s c.args.host (64 - i)) w (g.H.LoopHosts.stands l.hosts) _ (g.H.LoopHosts.allows l.hosts) _ _ _ _ _ _
    (g.N.Net.sent l.net) _ (g.N.Net.gave l.net) _ (l.invariant.acted w h)
    (λ v st. recv_cut s c.args.host (64 - i) (64 - (i + 1)) next
    (g.H.LoopHosts.settings l.hosts) l.invariant.stepped.settings c.in-Frame.from c.bytes-bytes.result.now c.recv.new.frame c.bytes-bytes.ensures.bytes
    c.in_ok-from.field-0 c.in-Frame.is
    v (g.H.LoopHosts.allows l.hosts) _ _ _ _
    (g.met.H.LoopHosts.comes l.hosts v st c.args.host (record { from = c.in-Frame.from; bytes = c.recv.new.frame })
    (subst (λ q. c.args.host.0 < q.hosts) (sym l.invariant.stepped.settings) c.requires.host))
    (halted_coming o.told o.kept o.strange _ _ _ _ _ c.args.host (record { from = c.in-Frame.from; bytes = c.bytes-bytes.result.now }) (64 - i)
    (64 - (i + 1)) next
    (came_is _ _ c.args.host c.in-Frame.from c.in_ok-from.field-0 c.bytes-bytes.result.now c.recv.new.frame c.in-Frame.is c.bytes-bytes.ensures.bytes r.acts)
    (record {
      before = [];
      last = Tells (PlainRecv c.args.host c.in-Frame.from c.bytes-bytes.result.now);
      split = refl;
      usual = tt;
      unusual = k;
      text = m;
    })) (r.sent ∙ listed_none _) r.gave
    (subst (λ q. IsReceived (record { from = c.in-Frame.from; bytes = q })) c.bytes-bytes.ensures.bytes (c.is_received.ensures c.in-Frame.from))
    (g.met.H.LoopHosts.allows_recv l.hosts c.args.host c.in-Frame.from c.recv.new.frame))
    (λ x y p q. halted_more o.told o.kept o.strange _ (o.taken l.observer) _ _ (o.notes l.observer) _ (g.N.Net.acts l.net) _ (Hears 64)
    (Hears (64 - i)) x y p q)
    (λ x y p q. listed_more _ (g.N.Net.sent l.net) _ x y p q)) c.in_err-seen.ensures.stranger
    c.in_err-seen.ensures.stranger_told)

pub returns-in_err-tell_entries-clause-strange : goal.returns-in_err-tell_entries-clause-strange
returns-in_err-tell_entries-clause-strange g c =
    let p = err_from_is_err_and c.from_residual-in_err-tell_entries.result c.from_residual-in_err-tell_entries.ensures.1 in
    rw (p.1, p.2) (on_seen_never c.in_err-tell_entries.field-0.0 _ c.in_err-tell_entries.ensures.stranger)

pub returns-in_err-seen-clause-some_strange : goal.returns-in_err-seen-clause-some_strange
returns-in_err-seen-clause-some_strange g c =
    let p = err_from_is_err_and c.from_residual-in_err-seen.result c.from_residual-in_err-seen.ensures.1 in
    rw (p.1, p.2) (on_seen c.in_err-seen.field-0.0 _ _
    (λ k. record { notes = _; report = Tells (PlainRecv c.args.host c.in-Frame.from c.bytes-bytes.result.now); is = k }) c.in_err-seen.ensures.stranger)

pub returns-in_err-tell_entries-clause-some_strange : goal.returns-in_err-tell_entries-clause-some_strange
returns-in_err-tell_entries-clause-some_strange g c =
    let p = err_from_is_err_and c.from_residual-in_err-tell_entries.result c.from_residual-in_err-tell_entries.ensures.1 in
    rw (p.1, p.2) (on_seen_never c.in_err-tell_entries.field-0.0 _ c.in_err-tell_entries.ensures.stranger)

pub returns-in_err-seen-clause-midst : goal.returns-in_err-seen-clause-midst
returns-in_err-seen-clause-midst g c =
    let p = err_from_is_err_and c.from_residual-in_err-seen.result c.from_residual-in_err-seen.ensures.1 in
    rw (p.1, p.2) (seen_heard c.in_err-seen.field-0.0)

pub returns-in_err-tell_entries-clause-midst : goal.returns-in_err-tell_entries-clause-midst
returns-in_err-tell_entries-clause-midst g c =
    let p = err_from_is_err_and c.from_residual-in_err-tell_entries.result c.from_residual-in_err-tell_entries.ensures.1 in
    rw (p.1, p.2) (seen_heard c.in_err-tell_entries.field-0.0)

pub returns-in_err-from-clause-stepped : goal.returns-in_err-from-clause-stepped
returns-in_err-from-clause-stepped g c =
    let h = g.H.LoopHosts in
    let l = c.loop-i in
    stepped_within h.settings h.clock h.steps c.args.hosts.now l.hosts l.i 64 (omega (arith, c.loop-i-test.true)) l.invariant.stepped

pub returns-in_default-clause-stepped : goal.returns-in_default-clause-stepped
returns-in_default-clause-stepped g c =
    let h = g.H.LoopHosts in
    let l = c.loop-i in
    stepped_within h.settings h.clock h.steps c.args.hosts.now l.hosts l.i 64 (omega (arith, c.loop-i-test.true)) l.invariant.stepped

pub returns-in_err-seen-clause-stepped : goal.returns-in_err-seen-clause-stepped
returns-in_err-seen-clause-stepped g c =
    let h = g.H.LoopHosts in
    let l = c.loop-i in
    stepped_within h.settings h.clock h.steps c.args.hosts.now l.hosts l.i 64 (omega (arith, c.loop-i-test.true)) l.invariant.stepped

pub returns-in_err-hear-clause-stepped : goal.returns-in_err-hear-clause-stepped
returns-in_err-hear-clause-stepped g c =
    let h = g.H.LoopHosts in
    let l = c.loop-i in
    stepped_on h.settings h.clock h.steps c.args.hosts.now l.hosts c.hear.new.self l.i 1 64 (omega (arith, c.loop-i-test.true)) l.invariant.stepped
    c.hear.ensures.stepped

pub returns-in_err-send_frames-clause-stepped : goal.returns-in_err-send_frames-clause-stepped
returns-in_err-send_frames-clause-stepped g c =
    let h = g.H.LoopHosts in
    let l = c.loop-i in
    stepped_on h.settings h.clock h.steps c.args.hosts.now l.hosts c.hear.new.self l.i 1 64 (omega (arith, c.loop-i-test.true)) l.invariant.stepped
    c.hear.ensures.stepped

pub returns-in_err-tell_entries-clause-stepped : goal.returns-in_err-tell_entries-clause-stepped
returns-in_err-tell_entries-clause-stepped g c =
    let h = g.H.LoopHosts in
    let l = c.loop-i in
    stepped_on h.settings h.clock h.steps c.args.hosts.now l.hosts c.hear.new.self l.i 1 64 (omega (arith, c.loop-i-test.true)) l.invariant.stepped
    c.hear.ensures.stepped

pub returns-clause-stepped : goal.returns-clause-stepped
returns-clause-stepped g c =
    let h = g.H.LoopHosts in
    let l = c.loop-i in
    stepped_within h.settings h.clock h.steps c.args.hosts.now l.hosts l.i 64 (omega (arith, l.auto.i-end)) l.invariant.stepped

pub returns-in_err-from-clause-outside : goal.returns-in_err-from-clause-outside
returns-in_err-from-clause-outside g c =
    let n = g.N.Net in
    let o = g.O.Observer in
    let m = g.met.O.Observer in
    let l = c.loop-i in
    let e = c.in_err-from.ensures in
    let p = err_from_is_err_and c.from_residual.result c.from_residual.ensures.1 in
    rw (p.1, p.2) (outside_on n.known n.faults o.faults o.is_same m.same_self m.same_on c.args.net.now l.net c.recv.new.self c.args.observer.now l.observer
    l.observer _ l.invariant.outside
    (outside_lost n.known n.faults o.faults o.is_same m.same_self m.same_on l.net c.recv.new.self l.observer e.known e.counted.risen))

pub returns-in_default-clause-outside : goal.returns-in_default-clause-outside
returns-in_default-clause-outside g c =
    let n = g.N.Net in
    let o = g.O.Observer in
    let m = g.met.O.Observer in
    let l = c.loop-i in
    let r = c.in_ok-from.ensures in
    outside_on n.known n.faults o.faults o.is_same m.same_self m.same_on c.args.net.now l.net c.recv.new.self c.args.observer.now l.observer
    l.observer _ l.invariant.outside
    (outside_went n.known n.faults o.faults o.is_same m.same_self m.same_on l.net c.recv.new.self l.observer l.observer r.known r.counted.quiet refl
    (m.same_self l.observer))

pub returns-in_err-seen-clause-outside : goal.returns-in_err-seen-clause-outside
returns-in_err-seen-clause-outside g c =
    let n = g.N.Net in
    let o = g.O.Observer in
    let m = g.met.O.Observer in
    let l = c.loop-i in
    let r = c.in_ok-from.ensures in
    let e = c.in_err-seen.ensures in
    let p = err_from_is_err_and c.from_residual-in_err-seen.result c.from_residual-in_err-seen.ensures.1 in
    rw (p.1, p.2) (outside_on n.known n.faults o.faults o.is_same m.same_self m.same_on c.args.net.now l.net c.recv.new.self c.args.observer.now l.observer
    c.seen.new.self _ l.invariant.outside
    (outside_untold n.known n.faults o.faults o.is_same m.same_self m.same_on l.net c.recv.new.self l.observer c.seen.new.self
    c.in_err-seen.field-0.0 r.known r.counted.quiet e.risen e.quiet e.same))

pub returns-in_err-hear-clause-outside : goal.returns-in_err-hear-clause-outside
returns-in_err-hear-clause-outside g c =
    let n = g.N.Net in
    let o = g.O.Observer in
    let m = g.met.O.Observer in
    let l = c.loop-i in
    let r = c.in_ok-from.ensures in
    let q = c.in_ok-seen.ensures in
    let p = err_from_is_err_and c.from_residual-in_err-hear.result c.from_residual-in_err-hear.ensures.1 in
    rw (p.1, p.2) (outside_on n.known n.faults o.faults o.is_same m.same_self m.same_on c.args.net.now l.net c.recv.new.self c.args.observer.now l.observer
    c.seen.new.self _ l.invariant.outside
    (outside_on n.known n.faults o.faults o.is_same m.same_self m.same_on l.net c.recv.new.self c.recv.new.self l.observer c.seen.new.self
    c.seen.new.self _
    (outside_went n.known n.faults o.faults o.is_same m.same_self m.same_on l.net c.recv.new.self l.observer c.seen.new.self r.known
    r.counted.quiet q.quiet q.same)
    (outside_memory n.known n.faults o.faults o.is_same m.same_self m.same_on c.recv.new.self c.seen.new.self)))

pub returns-in_err-send_frames-clause-outside : goal.returns-in_err-send_frames-clause-outside
returns-in_err-send_frames-clause-outside g c =
    let n = g.N.Net in
    let o = g.O.Observer in
    let m = g.met.O.Observer in
    let l = c.loop-i in
    let r = c.in_ok-from.ensures in
    let q = c.in_ok-seen.ensures in
    let e = c.in_err-send_frames.ensures in
    let p = err_from_is_err_and c.from_residual-in_err-send_frames.result c.from_residual-in_err-send_frames.ensures.1 in
    rw (p.1, p.2) (outside_on n.known n.faults o.faults o.is_same m.same_self m.same_on c.args.net.now l.net c.send_frames.new.net c.args.observer.now
    l.observer
    c.seen.new.self _ l.invariant.outside
    (outside_on n.known n.faults o.faults o.is_same m.same_self m.same_on l.net c.recv.new.self c.send_frames.new.net l.observer c.seen.new.self
    c.seen.new.self _
    (outside_went n.known n.faults o.faults o.is_same m.same_self m.same_on l.net c.recv.new.self l.observer c.seen.new.self r.known
    r.counted.quiet q.quiet q.same)
    (outside_lost n.known n.faults o.faults o.is_same m.same_self m.same_on c.recv.new.self c.send_frames.new.net c.seen.new.self e.known e.risen)))

pub returns-in_err-tell_entries-clause-outside : goal.returns-in_err-tell_entries-clause-outside
returns-in_err-tell_entries-clause-outside g c =
    let n = g.N.Net in
    let o = g.O.Observer in
    let m = g.met.O.Observer in
    let l = c.loop-i in
    let r = c.in_ok-from.ensures in
    let q = c.in_ok-seen.ensures in
    let f = c.in_ok-send_frames.ensures in
    let e = c.in_err-tell_entries.ensures in
    let p = err_from_is_err_and c.from_residual-in_err-tell_entries.result c.from_residual-in_err-tell_entries.ensures.1 in
    rw (p.1, p.2) (outside_on n.known n.faults o.faults o.is_same m.same_self m.same_on c.args.net.now l.net c.send_frames.new.net c.args.observer.now
    l.observer
    c.tell_entries.new.observer _ l.invariant.outside
    (outside_on n.known n.faults o.faults o.is_same m.same_self m.same_on l.net c.recv.new.self c.send_frames.new.net l.observer c.seen.new.self
    c.tell_entries.new.observer _
    (outside_went n.known n.faults o.faults o.is_same m.same_self m.same_on l.net c.recv.new.self l.observer c.seen.new.self r.known
    r.counted.quiet q.quiet q.same)
    (outside_untold n.known n.faults o.faults o.is_same m.same_self m.same_on c.recv.new.self c.send_frames.new.net c.seen.new.self
    c.tell_entries.new.observer c.in_err-tell_entries.field-0.0 f.known f.quiet e.risen e.quiet e.same)))

pub returns-clause-outside : goal.returns-clause-outside
returns-clause-outside g c = c.loop-i.invariant.outside
