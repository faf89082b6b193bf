-- Live calls and their RESENDs in the midst of a host's step: each move keeps what is so of them, and each timeout is of an unanswered call.
use Rattle.std.proofs.Common.{◌≡◌, ℕ, ◌+◌, ◌<◌, Bool, true, false, ◌&&◌, Option, Some, List, length, refl, sym, ap, subst, ◌∙◌, arith}
use Rattle.std.specs.Prelude.{slice_get, slice_set, unwrap_or}
use Rattle.std.specs.Ordering.{nat_cmp}
use Rattle.std.proofs.lemmas.Bool.{and_right, false_from_ne_true}
use Rattle.plain_sets.specs.Maps.{Map, get}
use Rattle.homa_plain.specs.declared.id.CallId.{CallId}
use Rattle.homa_plain.specs.declared.id.HostId.{HostId}
use Rattle.homa_plain.specs.declared.settings.Settings.{Settings}
use Rattle.homa_plain.specs.Calls.{is_call}
use Rattle.homa_plain.specs.Rows.{ClientRow, ServerRow, RowsOf, set_row}
use Rattle.homa_plain.specs.Host.{Host, Told, packets_in, entries_from}
use Rattle.homa_plain.specs.Rules.{Did}
use Rattle.homa_plain.specs.Work.{Work}
use Rattle.homa_plain.specs.Steps.{asked, served}
use Rattle.trace_rules.specs.View.{View, own_tick}
use Rattle.trace_rules.specs.Seen.{seen_all}
use Rattle.trace_rules.specs.Laws.{Holds}
use Rattle.homa_plain.specs.World.{World, host_at}
use Rattle.homa_plain.proofs.CallOrder.{calls_are}
use Rattle.step_laws.proofs.Others.{get-set_row, set_row-others}
use Rattle.trace_steps.proofs.Lines.{holds-append, told_same, SameSetting}
use Rattle.step_moves.proofs.Inner.{entries_from-append}
use Rattle.step_laws.proofs.Own.{AllOwn, AllServed, served_own}
use Rattle.step_moves.proofs.Moves.{IsMove, served_told, served-move}
use Rattle.step_moves.proofs.AskedMove.{asked_told, asked-move}
use Rattle.trace_steps.proofs.Progress.{IsLevel, AllUnstale, ends_told, told_level}
use Rattle.trace_steps.specs.Stands.{put, said_so_far}
use Rattle.step_moves.proofs.Hosts.{apart, there}
use Rattle.trace_steps.proofs.Frame.{next_number, move_said}
use Rattle.trace_steps.proofs.ToldMoves.{each_set}
use Rattle.step_moves.proofs.Names.{own_set}
use Rattle.trace_fails.specs.Timeouts.{TimesOut, IsLiveRow}
use Rattle.trace_fails.proofs.FairRows.{fair_same}
use Rattle.trace_fails.proofs.ClientSays.{AllBare, NoTimeouts, ends_said, IsSameRow}
use Rattle.trace_fails.proofs.Silent.{IsSilent, silent_row, others_bare, AllCalm, calm_unstale, calm_holds, served_calm, served_silent, asked_calm}
use Rattle.trace_fails.proofs.Silent.{asked_ends, asked_bare}

-- the row as it is to be: between the line of a delivery and the rule for it, the lines have renewed a call that the row has not yet
abbrev pub Renewal : Type 0
Renewal = CallId → ClientRow → ClientRow

abbrev pub none_renewed : Renewal
none_renewed q r = r

-- each row at a client, as it is to be
abbrev pub AreLiveAs : Renewal → Settings → View → HostId → Host → Type 0
AreLiveAs be s v id h = (q : CallId) (r : ClientRow) → q.client ≡ id → get h.clients q ≡ Some r → IsLiveRow s v h.last q (be q r)

module _ (s : Settings) (w : World) (v : View) (host : HostId) (now : ℕ) (stands : host.0 < length w.hosts) where
  pub record IsFairAmid (be : Renewal) (work : Work) : Type 0 where
    pub level : IsLevel (said_so_far w v work)
    pub settings : (said_so_far w v work).settings ≡ s
    pub tick : own_tick (said_so_far w v work) host ≡ now
    pub name : work.host.id ≡ host
    pub last : work.host.last ≡ now
    pub own : (q : CallId) (r : ClientRow) → get work.host.clients q ≡ Some r → q.client ≡ host
    pub rows : (id : HostId) (h : Host) → host_at (put w host work) id ≡ Some h → AreLiveAs be s (said_so_far w v work) id h
    pub holds : Holds TimesOut v (entries_from (length w.packets) work.told)

  -- a row of the host that acts
  pub row_amid : (be : Renewal) (work : Work) → IsFairAmid be work → (q : CallId) (r : ClientRow) → get work.host.clients q ≡ Some r
      → IsLiveRow s (said_so_far w v work) now q (be q r)
  row_amid be work k q r is =
      subst (λ (t : ℕ). IsLiveRow s (said_so_far w v work) t q (be q r)) k.last
      (k.rows host work.host (there w.hosts host.0 work.host stands) q r (k.own q r is) is)

  module _ (work new : Work) (told : List Told) (clients : RowsOf ClientRow) (servers : RowsOf ServerRow) (m : IsMove work new told clients servers) where
    abbrev behind : View
    behind = seen_all (said_so_far w v work) (entries_from (next_number w v host work new told clients servers m) told)

    -- a move keeps it, where it does of the host's own rows, and ends no call of another client
    pub fair_move : (one two : Renewal) → AllUnstale told
        → Holds TimesOut (said_so_far w v work) (entries_from (next_number w v host work new told clients servers m) told)
        → ((q : CallId) (r : ClientRow) → get clients q ≡ Some r → q.client ≡ host)
        → ((q : CallId) → (q.client ≡ host → ⊥) → ends_told q told ≡ false) → ((q : CallId) (r : ClientRow) → (q.client ≡ host → ⊥) → one q r ≡ two q r)
        → ((q : CallId) (r : ClientRow) → get clients q ≡ Some r → IsLiveRow s behind now q (two q r)) → IsFairAmid one work → IsFairAmid two new
    fair_move one two fresh holds own others renewed here k =
        let n : ℕ = next_number w v host work new told clients servers m in
        let same : SameSetting (said_so_far w v work) behind = told_same (said_so_far w v work) n told m.inner in
        let last : new.host.last ≡ now = m.last ∙ k.last in
        let rows : (id : HostId) (h : Host) → slice_get (slice_set w.hosts host.0 new.host) id.0 ≡ Some h → AreLiveAs two s behind id h =
        each_set (AreLiveAs one s (said_so_far w v work)) (AreLiveAs two s behind) w.hosts host work.host new.host stands
        (λ _ q r mine is. subst (λ (t : ℕ). IsLiveRow s behind t q (two q r)) (sym last)
        (here q r (ap (λ (rows : RowsOf ClientRow). get rows q) (sym m.at_clients) ∙ is)))
        (λ id h e a q r at is.
        let other : q.client ≡ host → ⊥ = (λ (f : q.client ≡ host). apart id host e (ap (λ (x : HostId). x.0) (sym f ∙ at))) in
        subst (IsLiveRow s behind h.last q) (renewed q r other)
        (silent_row q s (said_so_far w v work) n told h.last (one q r) m.inner fresh k.level
        (record { lives = others q other; bare = others_bare work.host q (packets_in told) (λ f. other (f ∙ k.name)) m.sent }) (a q r at is))) k.rows in
        let said : said_so_far w v new ≡ behind = move_said w v host work new told clients servers m in
        record {
          level = subst IsLevel (sym said) (told_level (said_so_far w v work) n told fresh k.level);
          settings = ap (λ (u : View). u.settings) said ∙ same.settings ∙ k.settings;
          tick = ap (λ (u : View). own_tick u host) said ∙ own_same (said_so_far w v work) behind same ∙ k.tick;
          name = m.id ∙ k.name;
          last = last;
          own = λ q r is. own q r (ap (λ (rows : RowsOf ClientRow). get rows q) (sym m.at_clients) ∙ is);
          rows = λ id h is. subst (λ (u : View). AreLiveAs two s u id h) (sym said) (rows id h is);
          holds = subst (Holds TimesOut v) (sym (ap (entries_from (length w.packets)) m.grown ∙ entries_from-append (length w.packets) work.told told))
              (holds-append TimesOut v (entries_from (length w.packets) work.told) (entries_from n told) k.holds holds);
        } where
          own_same : (a b : View) → SameSetting a b → own_tick b host ≡ own_tick a host
          own_same a b e =
              ap (λ (t : ℕ). t + unwrap_or (get b.leads host.0) b.settings.skew) e.tick
              ∙ ap (λ (l : Map nat_cmp ℕ). a.tick + unwrap_or (get l host.0) b.settings.skew) e.leads
              ∙ ap (λ (x : Settings). a.tick + unwrap_or (get a.leads host.0) x.skew) e.settings

  -- ---- moves that leave the host's rows as a client, and are silent of each call

  pub fair_silent : (be : Renewal) (work new : Work) (told : List Told) (servers : RowsOf ServerRow) → IsMove work new told work.host.clients servers
      → AllCalm told → ((q : CallId) → IsSilent q told) → IsFairAmid be work → IsFairAmid be new
  fair_silent be work new told servers m calm silent k =
      let n : ℕ = next_number w v host work new told work.host.clients servers m in
      fair_move work new told work.host.clients servers m be be (calm_unstale told calm) (calm_holds (said_so_far w v work) n told calm) k.own
      (λ q _. (silent q).lives) (λ _ _ _. refl)
      (λ q r is. silent_row q s (said_so_far w v work) n told now (be q r) m.inner (calm_unstale told calm) k.level (silent q) (row_amid be work k q r is)) k

  pub fair_served : (be : Renewal) (work : Work) (id : CallId) (did : Did ServerRow) → AllServed work.host.id id did.says → IsFairAmid be work
      → IsFairAmid be (served s id did work)
  fair_served be work id did own k =
      fair_silent be work (served s id did work) (served_told s id did work) (set_row work.host.servers id did.row)
      (served-move s id did work (served_own work.host.id id did.says own)) (served_calm s id did work own) (served_silent s id did work own) k

  -- ---- a move of a row at the client

  -- the row of the call itself is given, and each other is as it was
  pub fair_client : (one : Renewal) (work new : Work) (told : List Told) (id : CallId) (o : Option ClientRow)
      (m : IsMove work new told (set_row work.host.clients id o) work.host.servers) → id.client ≡ host
      → AllUnstale told
      → Holds TimesOut (said_so_far w v work) (entries_from (next_number w v host work new told (set_row work.host.clients id o) work.host.servers m) told)
      → ((q : CallId) → is_call q id ≡ false → IsSilent q told) → ((q : CallId) (r : ClientRow) → is_call q id ≡ false → one q r ≡ r)
      → ((r : ClientRow) → o ≡ Some r → IsLiveRow s (behind work new told (set_row work.host.clients id o) work.host.servers m) now id r)
      → IsFairAmid one work → IsFairAmid none_renewed new
  fair_client one work new told id o m mine fresh holds silent renewed here k =
      fair_move work new told (set_row work.host.clients id o) work.host.servers m one none_renewed fresh holds (own_set host work.host.clients id o mine k.own)
      (λ q other. (silent q (not_mine q other)).lives) (λ q r other. renewed q r (not_mine q other)) (λ q r is. by_call q r is (is_call q id) refl) k where
        not_mine : (q : CallId) → (q.client ≡ host → ⊥) → is_call q id ≡ false
        not_mine q other = false_from_ne_true (is_call q id) (λ t. other (ap (λ (x : CallId). x.client) ((calls_are q id).0 t) ∙ mine))

        by_call : (q : CallId) (r : ClientRow) → get (set_row work.host.clients id o) q ≡ Some r → (b : Bool) → is_call q id ≡ b
            → IsLiveRow s (behind work new told (set_row work.host.clients id o) work.host.servers m) now q r
        by_call q r is true e =
            let same : q ≡ id = (calls_are q id).0 e in
            subst (λ (x : CallId). IsLiveRow s (behind work new told (set_row work.host.clients id o) work.host.servers m) now x r) (sym same)
            (here r (sym (get-set_row work.host.clients id o) ∙ ap (get (set_row work.host.clients id o)) (sym same) ∙ is))
        by_call q r is false e =
            let old : get work.host.clients q ≡ Some r = sym (set_row-others work.host.clients id o q e) ∙ is in
            silent_row q s (said_so_far w v work) (next_number w v host work new told (set_row work.host.clients id o) work.host.servers m) told now r
            m.inner fresh k.level (silent q e)
            (subst (IsLiveRow s (said_so_far w v work) now q) (renewed q r e) (row_amid one work k q r old))

  -- a rule that answers a packet: the call's row is as it was to be, or gone
  pub fair_answered : (one : Renewal) (work : Work) (id : CallId) (server : HostId) (did : Did ClientRow) → id.client ≡ host
      → AllOwn id.client id did.says → AllBare did.says → NoTimeouts did.says → ((q : CallId) (r : ClientRow) → is_call q id ≡ false → one q r ≡ r)
      → ((x : ClientRow) → did.row ≡ Some x → (r : ClientRow) × (get work.host.clients id ≡ Some r) × IsSameRow (one id r) x
      × (ends_said did.says ≡ false)) → IsFairAmid one work → IsFairAmid none_renewed (asked s id server did work)
  fair_answered one work id server did mine own bare quiet renewed row k =
      let new : Work = asked s id server did work in
      let told : List Told = asked_told s id server did work in
      let m : IsMove work new told (set_row work.host.clients id did.row) work.host.servers = asked-move s id server did work (mine ∙ sym k.name) own in
      let n : ℕ = next_number w v host work new told (set_row work.host.clients id did.row) work.host.servers m in
      let calm : AllCalm told = asked_calm s id server did work own quiet in
      fair_client one work new told id did.row m mine (calm_unstale told calm) (calm_holds (said_so_far w v work) n told calm)
      (λ q e. record {
        lives = asked_ends s id server did work own q ∙ and_right (ends_said did.says) (is_call q id) e;
        bare = asked_bare s id server did work own bare q;
      }) renewed
      (λ x e.
      let a = row x e in
      let r : ClientRow = one id a.0 in
      let before : IsLiveRow s (said_so_far w v work) now id r = row_amid one work k id a.0 a.1 in
      let after : IsLiveRow s (seen_all (said_so_far w v work) (entries_from n told)) now id r =
      silent_row id s (said_so_far w v work) n told now r m.inner (calm_unstale told calm) k.level
      (record {
        lives = asked_ends s id server did work own id ∙ ap (λ b. b && is_call id id) a.3;
        bare = asked_bare s id server did work own bare id;
      }) before in
      record {
        live = after.live ∙ ap Some (sym a.2.seen);
        called = after.called ∙ ap Some (sym a.2.called);
        size = a.2.timer.long ∙ after.size ∙ ap length (sym a.2.request);
        sound = a.2.sound after.sound;
        fair = fair_same s now now r x _ _ (omega arith) a.2.timer after.fair;
      }) k
