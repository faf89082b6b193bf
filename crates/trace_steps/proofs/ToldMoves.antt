-- Each move keeps what the lines tell of clocks, names, lives and packets.
use Rattle.std.proofs.Common.{◌≡◌, ℕ, ◌+◌, ◌≤◌, ◌<◌, Bool, true, false, Option, Some, List, [], ◌∷◌, ◌++◌, length, map, refl, sym, ap, subst, ◌∙◌, arith}
use Rattle.std.specs.Prelude.{slice_get, slice_set, unwrap_or}
use Rattle.std.specs.List.{AllByRecursion}
use Rattle.std.specs.Ordering.{nat_cmp}
use Rattle.std.proofs.lemmas.List.{map-append}
use Rattle.plain_sets.specs.Maps.{Map, get}
use Rattle.homa_plain.specs.declared.id.CallId.{CallId}
use Rattle.homa_plain.specs.declared.id.HostId.{HostId}
use Rattle.homa_plain.specs.declared.settings.Settings.{Settings}
use Rattle.homa_plain.specs.Settings.{band}
use Rattle.homa_plain.specs.Calls.{is_host, is_call}
use Rattle.homa_plain.specs.Packets.{Packet}
use Rattle.homa_plain.specs.Rows.{ClientRow, ServerRow, RowsOf, set_row}
use Rattle.homa_plain.specs.Host.{Host, Told, packets_in, entries_from}
use Rattle.homa_plain.specs.Work.{Work}
use Rattle.trace_rules.specs.View.{View, Sent}
use Rattle.trace_rules.specs.Seen.{seen_all}
use Rattle.homa_plain.specs.World.{World, SentPacket, own_clock, stamped}
use Rattle.step_laws.proofs.Places.{all-append}
use Rattle.homa_plain.proofs.CallOrder.{calls_are, hosts_are}
use Rattle.step_laws.proofs.Others.{set_row-others}
use Rattle.trace_steps.specs.Stands.{put, said_so_far}
use Rattle.trace_steps.specs.Told.{HasLives, sent_of, IsTold}
use Rattle.step_moves.specs.Worlds.{HasOwnName, IsDated}
use Rattle.trace_steps.proofs.Lines.{SameSetting, told_same, told_packets}
use Rattle.trace_steps.proofs.Runs.{told_lived}
use Rattle.trace_steps.proofs.Lives.{IsOfLife, told_lives}
use Rattle.step_moves.proofs.Moves.{IsFrom, IsMove}
use Rattle.step_moves.proofs.Hosts.{there, elsewhere, length-set, some_is, apart}
use Rattle.trace_steps.proofs.Frame.{move_said, move_packets, next_number}

-- ---- what is so of each host, where one is set anew

pub each_set : (P Q : HostId → Host → Type 0) (hs : List Host) (host : HostId) (x y : Host) → host.0 < length hs → (P host x → Q host y)
    → ((id : HostId) (h : Host) → is_host id host ≡ false → P id h → Q id h)
    → ((id : HostId) (h : Host) → slice_get (slice_set hs host.0 x) id.0 ≡ Some h → P id h) → (id : HostId) (h : Host)
    → slice_get (slice_set hs host.0 y) id.0 ≡ Some h → Q id h
each_set P Q hs host x y stands here others all id h is = by_host (is_host id host) refl where
  by_host : (b : Bool) → is_host id host ≡ b → Q id h
  by_host true e =
      let same : id ≡ host = (hosts_are id host).0 e in
      let at : slice_get (slice_set hs host.0 y) host.0 ≡ Some h = ap (λ (n : HostId). slice_get (slice_set hs host.0 y) n.0) (sym same) ∙ is in
      subst (λ (n : HostId). Q n h) (sym same)
      (subst (Q host) (some_is y h (sym (there hs host.0 y stands) ∙ at)) (here (all host x (there hs host.0 x stands))))
  by_host false e =
      let other = apart id host e in
      others id h e (all id h (elsewhere hs host.0 id.0 x (λ k. other (sym k)) ∙ sym (elsewhere hs host.0 id.0 y (λ k. other (sym k))) ∙ is))

-- ---- a move

lives_of : (v : View) (id : HostId) (h k : Host) → k.inc ≡ h.inc → HasLives v id h → HasLives v id k
lives_of v id h k e l = record { first = l.first; now = e ∙ l.now; later = l.later; told = l.told; sent = l.sent }

module _ (s : Settings) (w : World) (v : View) (host : HostId) (work new : Work) (told : List Told) (clients : RowsOf ClientRow)
    (servers : RowsOf ServerRow) (m : IsMove work new told clients servers) (stands : host.0 < length w.hosts) where
  of_life : (id : HostId) (h : Host) (ps : List Packet) → (id ≡ host → h.inc ≡ work.host.inc) → work.host.id ≡ host
      → AllByRecursion (IsFrom work.host) ps → AllByRecursion (IsOfLife id h) ps
  of_life id h [] same name all = tt
  of_life id h (p ∷ ps) same name all = ((λ by. all.0.life ∙ sym (same (sym by ∙ all.0.by ∙ name))), of_life id h ps same name all.1)

  dated_all : (ps : List Packet) → work.host.last ≤ w.clock + band s → AllByRecursion (IsFrom work.host) ps → AllByRecursion (IsDated s) (stamped w.clock ps)
  dated_all [] soon all = tt
  dated_all (p ∷ ps) soon all = (omega (arith, all.0.dated, soon), dated_all ps soon all.1)

  sent_all : (ps : List Packet) → map (λ (p : SentPacket). sent_of p.packet) (stamped w.clock ps) ≡ map sent_of ps
  sent_all [] = refl
  sent_all (p ∷ ps) = ap (λ qs. sent_of p ∷ qs) (sent_all ps)

  -- where the rows as a client are of the host's own calls still
  pub told_move : ((q : CallId) (r : ClientRow) → get clients q ≡ Some r → q.client ≡ host) → IsTold s (put w host work) (said_so_far w v work)
      → IsTold s (put w host new) (said_so_far w v new)
  told_move own k =
      let before : View = said_so_far w v work in
      let after : View = seen_all before (entries_from (next_number w v host work new told clients servers m) told) in
      let same : SameSetting before after = told_same before (next_number w v host work new told clients servers m) told m.inner in
      let here : HasOwnName host work.host = k.names host work.host (there w.hosts host.0 work.host stands) in
      let at : work.host.last ≤ own_clock w host = k.clocks.last host work.host (there w.hosts host.0 work.host stands) in
      let soon : work.host.last ≤ w.clock + band s = omega (arith, at, k.clocks.lead host) in
      subst (IsTold s (put w host new)) (sym (move_said w v host work new told clients servers m)) (record {
        valid = k.valid;
        settings = same.settings ∙ k.settings;
        tick = same.tick ∙ k.tick;
        leads = λ id l. ap (λ (n : Map nat_cmp ℕ). unwrap_or (get n id.0) s.skew) same.leads
            ∙ k.leads id (omega (arith, l, length-set w.hosts host.0 new.host, length-set w.hosts host.0 work.host));
        packets = told_packets before (next_number w v host work new told clients servers m) told m.inner
            ∙ ap (λ (ps : List Sent). ps ++ map sent_of (packets_in told)) k.packets
            ∙ ap (λ (ps : List Sent). map (λ (p : SentPacket). sent_of p.packet) (put w host work).packets ++ ps) (sym (sent_all (packets_in told)))
            ∙ sym (map-append (λ (p : SentPacket). sent_of p.packet) (put w host work).packets (stamped w.clock (packets_in told)))
            ∙ ap (map (λ (p : SentPacket). sent_of p.packet)) (sym (move_packets w v host work new told clients servers m));
        names = each_set HasOwnName HasOwnName w.hosts host work.host new.host stands
            (λ n. record { name = m.id ∙ n.name; own = λ q r is. own q r (ap (λ (rows : RowsOf ClientRow). get rows q) (sym m.at_clients) ∙ is) })
            (λ _ _ _ n. n) k.names;
        lives = each_set (HasLives before) (HasLives after) w.hosts host work.host new.host stands
            (λ l. lives_of after host work.host new.host m.inc
            (told_lives before (next_number w v host work new told clients servers m) told host work.host m.inner
            (of_life host work.host (packets_in told) (λ _. refl) here.name m.sent) l))
            (λ id h e l. told_lives before (next_number w v host work new told clients servers m) told id h m.inner
            (of_life id h (packets_in told) (λ same. absurd (apart id host e (sym (ap (λ (n : HostId). n.0) same)))) here.name m.sent) l) k.lives;
        lived = told_lived before (next_number w v host work new told clients servers m) told m.inner k.lived;
        clocks = record {
          lead = k.clocks.lead;
          last = each_set (λ id h. h.last ≤ own_clock w id) (λ id h. h.last ≤ own_clock w id) w.hosts host work.host new.host stands
              (λ l. omega (arith, l, m.last)) (λ _ _ _ l. l) k.clocks.last;
          each = k.clocks.each ∙ length-set w.hosts host.0 work.host ∙ sym (length-set w.hosts host.0 new.host);
        };
        dated = subst (AllByRecursion (IsDated s)) (sym (move_packets w v host work new told clients servers m))
            (all-append (IsDated s) (put w host work).packets (stamped w.clock (packets_in told)) k.dated (dated_all (packets_in told) soon m.sent));
      })
