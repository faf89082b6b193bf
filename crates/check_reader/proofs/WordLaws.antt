-- The words of a line: a value that is read has that word, and the word of a value is read as it.
use Rattle.std.proofs.Common.{◌≡◌, ◌<◌, ◌≤◌, ◌^◌, ℕ, ◌==◌, nat_lt, cond, Bool, true, false, Option, None, Some, IfSome, List, [], ◌∷◌, ◌++◌, decimal}
use Rattle.std.proofs.Common.{codes, refl, sym, ap, ◌∙◌, subst, append_assoc, arith, inl, inr}
use Rattle.std.specs.List.{list_any}
use Rattle.std.proofs.lemmas.Bool.{ltb-true}
use Rattle.std.proofs.lemmas.Bool.Decides.{nat_tests}
use Rattle.std.proofs.lemmas.List.Folds.{list_any-append}
use Rattle.std.proofs.lemmas.Option.{cond_some}
use Rattle.std.proofs.lemmas.Slice.Eq.{bytes_eq-Decides}
use Rattle.homa_plain.specs.Bytes.{◌>>=◌}
use Rattle.homa_plain.specs.Numbers.{number_of}
use Rattle.homa_plain.specs.Text.{host_word, call_word, id_word, route_word, ack_word, role_word, why_word}
use Rattle.homa_plain.specs.declared.entry.Why.{Why}
use Rattle.homa_plain.specs.declared.entry.Why.TheVariants.{Timeout, Forgotten}
use Rattle.homa_plain.specs.declared.id.HostId.{HostId}
use Rattle.homa_plain.specs.declared.packet.Role.{Role}
use Rattle.homa_plain.specs.declared.packet.Role.TheVariants.{Client, Server}
use Rattle.homa_plain.proofs.WireFields.{bind_some, some_is}
use Rattle.check_words.specs.Fields.{◌⊗◌, number_below, number_at, host_of, host_at, id_of, call_of, route_of, ack_of, role_of, why_of, is_hyphen}
use Rattle.check_reader.specs.Told.{FitsHost, FitsCall, FitsId}
use Rattle.check_words.proofs.NumberWords.{HasNo, HasNoBlank, is_blank, number_of-takes, number_of-again, decimal-no, decimal-no_blank}
use Rattle.check_words.proofs.Readers.{ReadsWord, Reads, reads_word, reads_both, reads_parts, one_of-takes}

pub none-append : (test : ℕ → Bool) (xs ys : List ℕ) → list_any test xs ≡ false → list_any test ys ≡ false → list_any test (xs ++ ys) ≡ false
none-append test xs ys h k = list_any-append test xs ys ∙ rw (h, k) refl

-- ---- numbers

pub reads_number : (limit : ℕ) → limit ≤ 2 ^ 64 → ReadsWord (number_below limit) decimal (λ n. n < limit)
reads_number limit wide = record {
  takes = number_takes;
  again = λ n fits. let small : nat_lt n limit ≡ true = grind (arith, nat_tests) in rw (number_of-again n (omega arith), small) refl;
  plain = λ n fits. decimal-no_blank n (omega arith);
}
  where
    number_takes : (word : List ℕ) (n : ℕ) → number_below limit word ≡ Some n → (decimal n ≡ word) × (n < limit)
    number_takes word n e =
        let a = bind_some (number_of word) _ n e in
        let g = cond_some (nat_lt a.0 limit) a.0 n a.2 in
        let took = number_of-takes word a.0 a.1 in
        subst (λ (m : ℕ). (decimal m ≡ word) × (m < limit)) g.1 (took.0, ltb-true a.0 limit g.0)

pub wide8 : 2 ^ 8 ≤ 2 ^ 64
wide8 = omega arith

pub wide16 : 2 ^ 16 ≤ 2 ^ 64
wide16 = omega arith

pub wide32 : 2 ^ 32 ≤ 2 ^ 64
wide32 = omega arith

pub wide64 : 2 ^ 64 ≤ 2 ^ 64
wide64 = omega arith

-- a number as words
pub reads_numbers : (limit : ℕ) → limit ≤ 2 ^ 64 → Reads (number_at limit) (λ n. decimal n ∷ []) (λ n. n < limit)
reads_numbers limit wide = reads_word (number_below limit) decimal (λ n. n < limit) (reads_number limit wide)

-- ---- hosts

host_takes : (word : List ℕ) (host : HostId) → host_of word ≡ Some host → (host_word host ≡ word) × FitsHost host
unfolding host_of
host_takes word host e =
    let a = bind_some (number_below (2 ^ 16) word) _ host e in
    let took = (reads_number (2 ^ 16) wide16).takes word a.0 a.1 in
    let same : HostId → HostId = λ h. h in
    subst (λ (h : HostId). (host_word h ≡ word) × FitsHost h) (some_is (record { 0 = a.0 }) host a.2) took

host_again : (host : HostId) → FitsHost host → host_of (host_word host) ≡ Some host
unfolding host_of
host_again host fits = rw ((reads_number (2 ^ 16) wide16).again host.0 fits) refl

pub reads_host : ReadsWord host_of host_word FitsHost
reads_host = record { takes = host_takes; again = host_again; plain = λ host fits. decimal-no_blank host.0 (omega arith) }

pub reads_hosts : Reads host_at (λ host. host_word host ∷ []) FitsHost
reads_hosts = reads_word host_of host_word FitsHost reads_host

-- ---- calls

call_joined : (inc seq : ℕ) → decimal inc ++ (46 ∷ decimal seq) ≡ call_word (inc, seq)
call_joined inc seq = sym (append_assoc (decimal inc) (46 ∷ []) (decimal seq))

-- a test that neither digits nor the dot pass
call_none : (test : ℕ → Bool) (inc seq : ℕ) → list_any test (decimal inc) ≡ false → list_any test (decimal seq) ≡ false → test 46 ≡ false
    → list_any test (call_word (inc, seq)) ≡ false
call_none test inc seq i s dot = none-append test (decimal inc ++ 46 ∷ []) (decimal seq) (none-append test (decimal inc) (46 ∷ []) i (rw dot refl)) s

call_no_blank : (inc seq : ℕ) → inc < 2 ^ 32 → seq < 2 ^ 32 → HasNoBlank (call_word (inc, seq))
call_no_blank inc seq i s = call_none is_blank inc seq (decimal-no_blank inc (omega arith)) (decimal-no_blank seq (omega arith)) refl

pub reads_call : ReadsWord call_of call_word FitsCall
unfolding call_of
reads_call =
    reads_parts 46 (λ x. x) (λ x. x) (number_at (2 ^ 32) ⊗ number_at (2 ^ 32)) (λ x. decimal x.0 ∷ decimal x.1 ∷ []) FitsCall call_word
    (reads_both (number_at (2 ^ 32)) (number_at (2 ^ 32)) (λ n. decimal n ∷ []) (λ n. decimal n ∷ []) (λ n. n < 2 ^ 32) (λ n. n < 2 ^ 32)
    (reads_numbers (2 ^ 32) wide32) (reads_numbers (2 ^ 32) wide32))
    (record {
      back = λ x. refl;
      forth = λ y. refl;
      joined = λ x. call_joined x.0 x.1;
      some = λ x. omega arith;
      apart = λ x fits. (decimal-no 46 x.0 (inl (omega arith)) (omega arith), (decimal-no 46 x.1 (inl (omega arith)) (omega arith), tt));
      plain = λ x fits. call_no_blank x.0 x.1 fits.0 fits.1;
    })

-- ---- calls with their clients

id_joined : (client inc seq : ℕ) → decimal client ++ (46 ∷ (decimal inc ++ (46 ∷ decimal seq))) ≡ (decimal client ++ 46 ∷ []) ++ call_word (inc, seq)
id_joined client inc seq =
    ap (λ (w : List ℕ). decimal client ++ (46 ∷ w)) (call_joined inc seq) ∙ sym (append_assoc (decimal client) (46 ∷ []) (call_word (inc, seq)))

id_plain : (client inc seq : ℕ) → client < 2 ^ 16 → inc < 2 ^ 32 → seq < 2 ^ 32 → HasNoBlank ((decimal client ++ 46 ∷ []) ++ call_word (inc, seq))
id_plain client inc seq c i s =
    none-append is_blank (decimal client ++ 46 ∷ []) (call_word (inc, seq))
    (none-append is_blank (decimal client) (46 ∷ []) (decimal-no_blank client (omega arith)) refl)
    (call_no_blank inc seq i s)

pub reads_id : ReadsWord id_of id_word FitsId
unfolding id_of
reads_id =
    reads_parts 46 (λ x. record { client = x.0; inc = x.1.0; seq = x.1.1 }) (λ id. (id.client, (id.inc, id.seq)))
    (host_at ⊗ number_at (2 ^ 32) ⊗ number_at (2 ^ 32))
    (λ x. host_word x.0 ∷ decimal x.1.0 ∷ decimal x.1.1 ∷ []) (λ x. FitsHost x.0 × FitsCall x.1) id_word
    (reads_both host_at (number_at (2 ^ 32) ⊗ number_at (2 ^ 32)) (λ host. host_word host ∷ []) (λ x. decimal x.0 ∷ decimal x.1 ∷ []) FitsHost
    FitsCall reads_hosts
    (reads_both (number_at (2 ^ 32)) (number_at (2 ^ 32)) (λ n. decimal n ∷ []) (λ n. decimal n ∷ []) (λ n. n < 2 ^ 32) (λ n. n < 2 ^ 32)
    (reads_numbers (2 ^ 32) wide32) (reads_numbers (2 ^ 32) wide32)))
    (record {
      back = λ x. refl;
      forth = λ y. refl;
      joined = λ x. id_joined x.0.0 x.1.0 x.1.1;
      some = λ x. omega arith;
      apart = λ x fits. (
        decimal-no 46 x.0.0 (inl (omega arith)) (omega (arith, fits.0)),
        (decimal-no 46 x.1.0 (inl (omega arith)) (omega (arith, fits.1.0)), (decimal-no 46 x.1.1 (inl (omega arith)) (omega (arith, fits.1.1)), tt)),
      );
      plain = λ x fits. id_plain x.0.0 x.1.0 x.1.1 fits.0 fits.1.0 fits.1.1;
    })

-- ---- routes

route_plain : (from to : ℕ) → from < 2 ^ 16 → to < 2 ^ 16 → HasNoBlank ((decimal from ++ 62 ∷ []) ++ decimal to)
route_plain from to f t =
    none-append is_blank (decimal from ++ 62 ∷ []) (decimal to)
    (none-append is_blank (decimal from) (62 ∷ []) (decimal-no_blank from (omega arith)) refl)
    (decimal-no_blank to (omega arith))

abbrev pub FitsRoute : HostId × HostId → Type 0
FitsRoute route = FitsHost route.0 × FitsHost route.1

abbrev pub route_text : HostId × HostId → List ℕ
route_text route = route_word route.0 route.1

pub reads_route : ReadsWord route_of route_text FitsRoute
unfolding route_of
reads_route =
    reads_parts 62 (λ x. x) (λ x. x) (host_at ⊗ host_at) (λ x. host_word x.0 ∷ host_word x.1 ∷ []) FitsRoute route_text
    (reads_both host_at host_at (λ host. host_word host ∷ []) (λ host. host_word host ∷ []) FitsHost FitsHost reads_hosts reads_hosts)
    (record {
      back = λ x. refl;
      forth = λ y. refl;
      joined = λ x. sym (append_assoc (host_word x.0) (62 ∷ []) (host_word x.1));
      some = λ x. omega arith;
      apart = λ x fits. (
        decimal-no 62 x.0.0 (inr (omega arith)) (omega (arith, fits.0)),
        (decimal-no 62 x.1.0 (inr (omega arith)) (omega (arith, fits.1)), tt),
      );
      plain = λ x fits. route_plain x.0.0 x.1.0 fits.0 fits.1;
    })

-- ---- acknowledged calls

no_hyphen : (word : List ℕ) → HasNo 45 word → is_hyphen word ≡ false
no_hyphen word h = by_test (is_hyphen word) refl
  where
    by_test : (t : Bool) → is_hyphen word ≡ t → t ≡ false
    by_test true e =
        let same : word ≡ codes "-" = (bytes_eq-Decides word (codes "-")).0 e in
        let bad : HasNo 45 (codes "-") = subst (HasNo 45) same h in
        absurd cc
    by_test false e = refl

abbrev pub FitsAck : Option (ℕ × ℕ) → Type 0
FitsAck ack = IfSome ack FitsCall

ack_takes : (word : List ℕ) (ack : Option (ℕ × ℕ)) → ack_of word ≡ Some ack → (ack_word ack ≡ word) × FitsAck ack
unfolding ack_of
ack_takes word ack e = by_test (is_hyphen word) refl e
  where
    by_test : (t : Bool) → is_hyphen word ≡ t → cond t (Some None) (call_of word >>= λ call. Some (Some call)) ≡ Some ack → (ack_word ack ≡ word) × FitsAck ack
    by_test true t e =
        subst (λ (a : Option (ℕ × ℕ)). (ack_word a ≡ word) × FitsAck a) (some_is None ack e)
        (sym ((bytes_eq-Decides word (codes "-")).0 t), tt)
    by_test false t e =
        let a = bind_some (call_of word) _ ack e in
        subst (λ (x : Option (ℕ × ℕ)). (ack_word x ≡ word) × FitsAck x) (some_is (Some a.0) ack a.2) (reads_call.takes word a.0 a.1)

ack_again : (ack : Option (ℕ × ℕ)) → FitsAck ack → ack_of (ack_word ack) ≡ Some ack
unfolding ack_of
ack_again None fits = refl
ack_again (Some call) fits =
    rw (
      no_hyphen (call_word call)
          (call_none (λ c. c == 45) call.0 call.1 (decimal-no 45 call.0 (inl (omega arith)) (omega (arith, fits.0)))
          (decimal-no 45 call.1 (inl (omega arith)) (omega (arith, fits.1))) refl),
      reads_call.again call fits,
    ) refl

ack_plain : (ack : Option (ℕ × ℕ)) → FitsAck ack → HasNoBlank (ack_word ack)
ack_plain None fits = refl
ack_plain (Some call) fits = reads_call.plain call fits

pub reads_ack : ReadsWord ack_of ack_word FitsAck
reads_ack = record { takes = ack_takes; again = ack_again; plain = ack_plain }

-- ---- roles and causes

abbrev pub Any : {A : Type 0} → A → Type 0
Any x = Unit {0}

role_takes : (word : List ℕ) (role : Role) → role_of word ≡ Some role → (role_word role ≡ word) × Any role
unfolding role_of
role_takes word role e = one_of-takes role_word Any (Client ∷ Server ∷ []) word role (tt, (tt, tt)) e

role_again : (role : Role) → Any role → role_of (role_word role) ≡ Some role
unfolding role_of
role_again Client any = refl
role_again Server any = refl

role_plain : (role : Role) → Any role → HasNoBlank (role_word role)
role_plain Client any = refl
role_plain Server any = refl

pub reads_role : ReadsWord role_of role_word Any
reads_role = record { takes = role_takes; again = role_again; plain = role_plain }

why_takes : (word : List ℕ) (why : Why) → why_of word ≡ Some why → (why_word why ≡ word) × Any why
unfolding why_of
why_takes word why e = one_of-takes why_word Any (Timeout ∷ Forgotten ∷ []) word why (tt, (tt, tt)) e

why_again : (why : Why) → Any why → why_of (why_word why) ≡ Some why
unfolding why_of
why_again Timeout any = refl
why_again Forgotten any = refl

why_plain : (why : Why) → Any why → HasNoBlank (why_word why)
why_plain Timeout any = refl
why_plain Forgotten any = refl

pub reads_why : ReadsWord why_of why_word Any
reads_why = record { takes = why_takes; again = why_again; plain = why_plain }
