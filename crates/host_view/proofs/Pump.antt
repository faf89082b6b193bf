-- The pacer's first message is the one that is sent next, where it may be sent; the pacer may hold more.
use Rattle.std.proofs.Common.{◌≡◌, ◌≢◌, ℕ, ◌≤◌, Bool, true, false, cond, List, [], ◌∷◌, ◌++◌, Option, Some, None, refl, sym, ap, subst, ◌∙◌, inl, inr, arith}
use Rattle.std.specs.Prelude.{nat_lt, nat_le, ◌+◌, ◌&&◌, ◌||◌}
use Rattle.std.specs.List.{Contains, AllByRecursion, flat_map}
use Rattle.std.specs.Option.{MatchOption}
use Rattle.std.proofs.lemmas.List.Elements.{Contains-append_left, Contains-append_right, Contains-append_cases}
use Rattle.std.proofs.lemmas.Bool.{cond_both}
use Rattle.std.proofs.lemmas.Bool.Decides.{nat_tests}
use Rattle.plain_sets.specs.Maps.{entries}
use Rattle.plain_sets.specs.Ordered.{ordered, first_of, is_below, IsLeast, KeysDiffer}
use Rattle.plain_sets.proofs.OrderLaws.{tied_keys}
use Rattle.plain_sets.proofs.OrderSame.{here, there, none_in, at_head, all_at}
use Rattle.plain_sets.proofs.OrderFirst.{first-ordered, all_from}
use Rattle.plain_sets.proofs.MapMembers.{same_some}
use Rattle.homa_plain.specs.declared.id.CallId.{CallId}
use Rattle.homa_plain.specs.declared.settings.Settings.{Settings}
use Rattle.homa_plain.specs.Outgoing.{has_waiting, left}
use Rattle.homa_plain.specs.Timers.{OfClient}
use Rattle.homa_plain.specs.Settings.{patience}
use Rattle.homa_plain.specs.Rows.{ClientRow, ServerRow}
use Rattle.homa_plain.specs.Host.{Host}
use Rattle.homa_plain.specs.SentNext.{Leaving, leaving_key, may_send_request, leaving_at_client, leaving_at_server, departures}
use Rattle.step_laws.specs.StepLaws.{HasOwnOrders}
use Rattle.step_laws.proofs.Places.{departures-keys}
use Rattle.homa_pacer.specs.Pace.{Ready, ready_key}
use Rattle.host_view.specs.Seen.{Seen, AreReady, ready_of}

-- of things with different keys, two with one key are one
one_key : {X : Type 0} (key : X → ℕ × ℕ) (xs : List X) (x y : X) → KeysDiffer key xs → Contains xs x → Contains xs y → key x ≡ key y → x ≡ y
one_key key [] x y differ cx cy e = absurd (none_in x cx)
one_key {X} key (z ∷ xs) x y differ cx cy e = elim (at_head z x xs cx) [
  | inl zx ↦ elim (at_head z y xs cy) [
    | inl zy ↦ sym zx ∙ zy
    | inr iny ↦ absurd (all_at (λ (y : X). key z ≢ key y) xs y differ.0 iny (ap key zx ∙ e))
  ]
  | inr inx ↦ elim (at_head z y xs cy) [
    | inl zy ↦ absurd (all_at (λ (y : X). key z ≢ key y) xs x differ.0 inx (ap key zy ∙ sym e))
    | inr iny ↦ one_key key xs x y differ.1 inx iny e
  ]
]

-- a least thing is the first
least-first : {X : Type 0} (key : X → ℕ × ℕ) (xs : List X) (x : X) → KeysDiffer key xs → IsLeast key xs x
    → (o : Option X) → MatchOption o (xs ≡ []) (IsLeast key xs) → o ≡ Some x
least-first {X} key xs x differ least None none = absurd (none_in x (subst (λ ys. Contains ys x) none least.0))
least-first {X} key xs x differ least (Some y) first =
    let e = tied_keys (key y) (key x) (all_at (λ (z : X). is_below (key z) (key x) ≡ false) xs y least.1 first.0)
    (all_at (λ (z : X). is_below (key z) (key y) ≡ false) xs x first.1 least.0) in
    ap Some (one_key key xs y x differ first.0 least.0 e)

first-least : {X : Type 0} (key : X → ℕ × ℕ) (xs : List X) (x : X) → (o : Option X) → MatchOption o (xs ≡ []) (IsLeast key xs) → o ≡ Some x → IsLeast key xs x
first-least key xs x None none e = cc
first-least key xs x (Some y) first e = subst (IsLeast key xs) (same_some y x e) first

pub picked : (h : Seen) (book : List Ready) (l : Leaving) → HasOwnOrders h.host → AreReady h book
    → first_of (ordered ready_key book) ≡ Some (ready_of h l) → Contains (departures h.settings h.host.last h.host) l
    → first_of (ordered leaving_key (departures h.settings h.host.last h.host)) ≡ Some l
picked h book l own are first there =
    let all = departures h.settings h.host.last h.host in
    let least = first-least ready_key book (ready_of h l) (first_of (ordered ready_key book)) (first-ordered ready_key book) first in
    least-first leaving_key all l (departures-keys h.settings h.host.last h.host own) (
      there,
      all_from (λ (z : Leaving). is_below (leaving_key z) (leaving_key l) ≡ false) all
          (λ z c. all_at (λ (r : Ready). is_below (ready_key r) (ready_key (ready_of h l)) ≡ false) book (ready_of h z) least.1 (are.all z c)),
    )
    (first_of (ordered leaving_key all)) (first-ordered leaving_key all)

-- where the pacer holds nothing, nothing may be sent
pub none_ready : (h : Seen) (l : Leaving) → AreReady h [] → Contains (departures h.settings h.host.last h.host) l → ⊥
none_ready h l are c = none_in (ready_of h l) (are.all l c)

abbrev all_of : Seen → List Leaving
all_of h = departures h.settings h.host.last h.host

pub idle : (h : Seen) (book : List Ready) → AreReady h book → book ≡ [] → first_of (ordered leaving_key (departures h.settings h.host.last h.host)) ≡ None
idle h book are none = at (first_of (ordered leaving_key (all_of h))) (first-ordered leaving_key (all_of h)) where
  at : (o : Option Leaving) → MatchOption o (all_of h ≡ []) (IsLeast leaving_key (all_of h)) → o ≡ None
  at None is = refl
  at (Some l) is = absurd (none_in (ready_of h l) (subst (λ b. Contains b (ready_of h l)) none (are.all l is.0)))

-- ---- time goes on

-- what each of these gives more of, all give more of
more_in : {X Y : Type 0} (f g : X → List Y) (xs : List X) (y : Y) → ((x : X) → Contains (f x) y → Contains (g x) y) → Contains (flat_map f xs) y
    → Contains (flat_map g xs) y
more_in f g [] y h c = c
more_in f g (x ∷ xs) y h c = elim (Contains-append_cases (f x) (flat_map f xs) y c) [
  | inl a ↦ Contains-append_left (g x) (flat_map g xs) y (h x a)
  | inr b ↦ Contains-append_right (g x) (flat_map g xs) y (more_in f g xs y h b)
]

-- who is patient later is patient now
still_patient : (new waits : Bool) (now later until : ℕ) → now ≤ later → (waits && (new || nat_le later until)) ≡ true
    → (waits && (new || nat_le now until)) ≡ true
still_patient false false now later until h e = e
still_patient true false now later until h e = e
still_patient true true now later until h e = refl
still_patient false true now later until h e = grind (arith, nat_tests)

abbrev leaving_of : CallId → ClientRow → Leaving
leaving_of id r = record { place = OfClient id; left = left r.out; order = r.order }

-- what may be sent later may be sent now
sent_before : (s : Settings) (now later : ℕ) → now ≤ later → (id : CallId) (r : ClientRow) (l : Leaving) → Contains (leaving_at_client s later id r) l
    → Contains (leaving_at_client s now id r) l
sent_before s now later h id r l = at (may_send_request s later r) refl where
  at : (b : Bool) → may_send_request s later r ≡ b → Contains (cond b (leaving_of id r ∷ []) []) l → Contains (leaving_at_client s now id r) l
  at false e c = absurd (none_in l c)
  at true e c = subst (λ b. Contains (cond b (leaving_of id r ∷ []) []) l)
      (sym (still_patient (nat_lt r.out.top r.out.length) (has_waiting r.out) now later (r.heard + patience s) h e)) c

abbrev of_client : Settings → ℕ → CallId × ClientRow → List Leaving
of_client s n e = leaving_at_client s n e.0 e.1

abbrev of_server : CallId × ServerRow → List Leaving
of_server e = leaving_at_server e.0 e.1.state

pub departures-before : (s : Settings) (h : Host) (now later : ℕ) (l : Leaving) → now ≤ later → Contains (departures s later h) l
    → Contains (departures s now h) l
departures-before s h now later l le c =
    elim (Contains-append_cases (flat_map (of_client s later) (entries h.clients)) (flat_map of_server (entries h.servers)) l c) [
      | inl a ↦ Contains-append_left (flat_map (of_client s now) (entries h.clients)) (flat_map of_server (entries h.servers)) l
          (more_in (of_client s later) (of_client s now) (entries h.clients) l (λ e. sent_before s now later le e.0 e.1 l) a)
      | inr b ↦ Contains-append_right (flat_map (of_client s now) (entries h.clients)) (flat_map of_server (entries h.servers)) l b
    ]

-- the pacer holds what it must hold as time goes on
pub later_ready : (h : Seen) (book : List Ready) (later : ℕ) → h.host.last ≤ later → AreReady h book
    → AreReady (record h { host = record h.host { last = later } }) book
later_ready h book later le are = record { all = λ l c. are.all l (departures-before h.settings h.host h.host.last later l le c); only = are.only }
