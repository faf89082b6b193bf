-- Lower-case hex, pair by pair.
use Rattle.std.proofs.Common.{◌≡◌, ◌<◌, ◌≤◌, ℕ, zero, suc, ◌+◌, ◌-◌, ◌*◌, ◌%◌, ◌&&◌, ◌||◌, max, Bool, true, false, Option, None, Some, Result}
use Rattle.std.proofs.Common.{Ok, Err, List, [], ◌∷◌, ◌++◌, length, take, drop, set, get_or, refl, sym, ap, subst, ◌∙◌, arith, append_assoc, drop-cons}
use Rattle.std.specs.Prelude.{if◌then◌else◌, is_some, replicate, IfSome}
use Rattle.std.specs.Char.{is_ascii_uppercase}
use Rattle.std.specs.List.{list_all, list_any}
use Rattle.std.specs.Ordering.{ord_max, nat_cmp}
use Rattle.std.specs.Option.{option_map}
use Rattle.std.specs.Result.{result_ok}
use Rattle.std.proofs.lemmas.Bool.Decides.{nat_tests}
use Rattle.std.proofs.lemmas.List.Folds.{list_all-append, list_all_more}
use Rattle.std.proofs.lemmas.List.{append-nil, drop-drop, drop_all, take_all, take_more, take_more_set, take-append-drop}
use Rattle.hex.specs.Hex.{decode_pairs, hex_digit_value, digit_or_error, ◌>>=◌}
use Rattle.hex.specs.declared.error.FromHexError.{FromHexError}
use Rattle.check_words.specs.Digits.{digit_value, in_front, is_value, joined, lower_pairs, paired, spelled, values_of}

-- ---- digits of either case, but for upper-case ones, are lower-case ones

digit_is : (c : ℕ) → digit_value c ≡ (if is_ascii_uppercase c then None else hex_digit_value c)
digit_is c = grind (arith, nat_tests)

either_none : (t : Bool) → None ≡ (if t then None else (let none : Option (List ℕ) = None in none))
either_none true = refl
either_none false = refl

-- one pair, and what the rest spells
pair_by : (u w z : Bool) (a b : Option ℕ) (x y i : ℕ) (d : Result (List ℕ) FromHexError) (rest : Option (List ℕ)) → rest ≡ (if z then None else result_ok d)
    → paired (if u then None else a) (if w then None else b) rest
    ≡ (if u || (w || z) then None
    else result_ok ((digit_or_error x i a >>= λ h. digit_or_error y (i + 1) b >>= λ l. Ok (h * 16 + l)) >>= λ byte. d >>= λ bytes. Ok (byte ∷ bytes)))
pair_by true w z a b x y i d rest g = refl
pair_by false w z None b x y i d rest g = either_none (w || z)
pair_by false true z (Some h) b x y i d rest g = refl
pair_by false false z (Some h) None x y i d rest g = either_none z
pair_by false false true (Some h) (Some l) x y i d rest g = ap (option_map (λ bytes. (h * 16 + l) ∷ bytes)) g
pair_by false false false (Some h) (Some l) x y i (Err fault) rest g = ap (option_map (λ bytes. (h * 16 + l) ∷ bytes)) g
pair_by false false false (Some h) (Some l) x y i (Ok bytes) rest g = ap (option_map (λ bytes. (h * 16 + l) ∷ bytes)) g

pub pairs_same : (i : ℕ) (text : List ℕ) → lower_pairs text ≡ (if list_any is_ascii_uppercase text then None else result_ok (decode_pairs i text))
unfolding lower_pairs decode_pairs
pairs_same i [] = refl
pairs_same i (c ∷ []) = either_none (is_ascii_uppercase c || false)
pairs_same i (a ∷ b ∷ rest) =
    (λ j. paired (digit_is a j) (digit_is b j) (lower_pairs rest))
    ∙ pair_by (is_ascii_uppercase a) (is_ascii_uppercase b) (list_any is_ascii_uppercase rest) (hex_digit_value a) (hex_digit_value b) a b i
    (decode_pairs (i + 2) rest) (lower_pairs rest) (pairs_same (i + 2) rest)

-- ---- one digit more

pub greater_is : (a b : ℕ) → ord_max nat_cmp a b ≡ max a b
greater_is a b = grind (arith, nat_tests)

greatest_is : (g v : ℕ) → is_value (max g v) ≡ (is_value g && is_value v)
greatest_is g v = grind (arith, nat_tests)

-- a value behind others
abbrev at_end : Option (List ℕ) → Option ℕ → Option (List ℕ)
at_end None value = None
at_end (Some values) None = None
at_end (Some values) (Some value) = Some (values ++ value ∷ [])

alone : (value : Option ℕ) → in_front value (Some []) ≡ at_end (Some []) value
alone None = refl
alone (Some value) = refl

between : (first : Option ℕ) (values : Option (List ℕ)) (last : Option ℕ) → in_front first (at_end values last) ≡ at_end (in_front first values) last
between None values last = refl
between (Some first) None last = refl
between (Some first) (Some values) None = refl
between (Some first) (Some values) (Some last) = refl

values_append : (word : List ℕ) (digit : ℕ) → values_of (word ++ digit ∷ []) ≡ at_end (values_of word) (digit_value digit)
unfolding values_of
values_append [] digit = alone (digit_value digit)
values_append (c ∷ cs) digit =
    ap (in_front (digit_value c)) (values_append cs digit) ∙ between (digit_value c) (values_of cs) (digit_value digit)

both_are : (p q : Bool) (values : List ℕ) (value : ℕ) → (if p && q then Some (values ++ value ∷ []) else None) ≡ at_end (if p then Some values else None)
    (if q then Some value else None)
both_are true true values value = refl
both_are true false values value = refl
both_are false q values value = refl

-- one value more was read, and m is the greatest
pub values_more : (word values : List ℕ) (i g v m : ℕ) → i < length word → i < length values → m ≡ max g v
    → (if is_value v then Some v else None) ≡ digit_value (get_or word i 0)
    → (if is_value g then Some (take i values) else None) ≡ values_of (take i word)
    → (if is_value m then Some (take (i + 1) (set values i v)) else None) ≡ values_of (take (i + 1) word)
values_more word values i g v m within within' greatest one so_far =
    (λ j. if is_value (greatest j) then Some (take_more_set values i v within' j) else None)
    ∙ ((λ j. if greatest_is g v j then Some (take i values ++ v ∷ []) else None)
    ∙ (both_are (is_value g) (is_value v) (take i values) v
    ∙ ((λ j. at_end (so_far j) (one j))
    ∙ (sym (values_append (take i word) (get_or word i 0)) ∙ ap values_of (sym (take_more word i 0 within))))))

-- ---- the greatest of all

and_true : (b : Bool) → (b && true) ≡ b
and_true true = refl
and_true false = refl

swapped : (a b c : Bool) → ((a && b) && c) ≡ ((a && c) && b)
swapped true true true = refl
swapped true true false = refl
swapped true false true = refl
swapped true false false = refl
swapped false b c = refl

grouped : (a b c : Bool) → (a && (b && c)) ≡ ((a && b) && c)
grouped true b c = refl
grouped false b c = refl

one_more : (values : List ℕ) (v : ℕ) → list_all is_value (values ++ v ∷ []) ≡ (list_all is_value values && is_value v)
one_more values v = list_all-append is_value values (v ∷ []) ∙ ap (λ b. list_all is_value values && b) (and_true (is_value v))

-- with one value more that was read
pub all_more : (values : List ℕ) (i g v m : ℕ) → i < length values → m ≡ max g v → is_value g ≡ list_all is_value (take i values)
    → is_value m ≡ list_all is_value (take (i + 1) (set values i v))
all_more values i g v m within greatest so_far =
    ap is_value greatest
    ∙ (greatest_is g v
    ∙ ((λ j. so_far j && is_value v)
    ∙ (sym (one_more (take i values) v) ∙ ap (list_all is_value) (sym (take_more_set values i v within)))))

-- with one value more that was looked at
pub all_seen : (values : List ℕ) (i g m : ℕ) → i < length values → m ≡ max g (get_or values i 0) → is_value g ≡ list_all is_value (take i values)
    → is_value m ≡ list_all is_value (take (i + 1) values)
all_seen values i g m within greatest so_far =
    ap is_value greatest
    ∙ (greatest_is g (get_or values i 0)
    ∙ ((λ j. so_far j && is_value (get_or values i 0)) ∙ sym (list_all_more is_value values i 0 within)))

-- with one number raised
set_all : (most : List ℕ) (i m v : ℕ) → i < length most → is_value m ≡ (is_value (get_or most i 0) && is_value v)
    → list_all is_value (set most i m) ≡ (list_all is_value most && is_value v)
set_all [] i m v h e = absurd (omega arith)
set_all (x ∷ most) zero m v h e = ap (λ b. b && list_all is_value most) e ∙ swapped (is_value x) (is_value v) (list_all is_value most)
set_all (x ∷ most) (suc i) m v h e =
    ap (λ b. is_value x && b) (set_all most i m v (omega arith) e) ∙ grouped (is_value x) (list_all is_value most) (is_value v)

pub all_raised : (first most values : List ℕ) (i m : ℕ) → i < length most → i < length values → m ≡ max (get_or most i 0) (get_or values i 0)
    → list_all is_value most ≡ (list_all is_value first && list_all is_value (take i values))
    → list_all is_value (set most i m) ≡ (list_all is_value first && list_all is_value (take (i + 1) values))
all_raised first most values i m within within' greater so_far =
    let v = get_or values i 0 in
    set_all most i m v within (ap is_value greater ∙ greatest_is (get_or most i 0) v)
    ∙ ((λ j. so_far j && is_value v)
    ∙ (sym (grouped (list_all is_value first) (list_all is_value (take i values)) (is_value v))
    ∙ ap (λ b. list_all is_value first && b) (sym (list_all_more is_value values i 0 within'))))

-- at first none is greater
pub none_greater : (n : ℕ) → list_all is_value (replicate n 0) ≡ true
none_greater zero = refl
none_greater (suc n) = none_greater n

-- what is spelled, if it is known whether something is
some_if : (b : Bool) (bytes : List ℕ) (o : Option (List ℕ)) → (if b then Some bytes else None) ≡ o → (b ≡ is_some o) × (IfSome o (λ bs. bytes ≡ bs))
some_if true bytes o e = subst (λ (p : Option (List ℕ)). (true ≡ is_some p) × (IfSome p (λ bs. bytes ≡ bs))) e (refl, refl)
some_if false bytes o e = subst (λ (p : Option (List ℕ)). (false ≡ is_some p) × (IfSome p (λ bs. bytes ≡ bs))) e (refl, tt)

pub if_some : (bytes : List ℕ) (o : Option (List ℕ)) → IfSome o (λ bs. bytes ≡ bs) → (if is_some o then Some bytes else None) ≡ o
if_some bytes None e = refl
if_some bytes (Some bs) e = ap Some e

-- ---- one pair more

pair_at : (word : List ℕ) (i : ℕ) → 2 * i + 1 < length word → drop (2 * i) word ≡ get_or word (2 * i) 0 ∷ get_or word (2 * i + 1) 0 ∷ drop (2 * (i + 1)) word
pair_at word i within =
    let first = drop-cons word (2 * i) 0 (omega arith) in
    let second = drop-cons word (suc (2 * i)) 0 (omega arith) in
    let next : suc (2 * i) ≡ 2 * i + 1 = omega arith in
    let behind : suc (suc (2 * i)) ≡ 2 * (i + 1) = omega arith in
    first ∙ ap (λ (xs : List ℕ). get_or word (2 * i) 0 ∷ xs) (second ∙ ((λ j. get_or word (next j) 0 ∷ drop (behind j) word)))

joined_pair : (a b : ℕ) (rest : List ℕ) → joined (a ∷ b ∷ rest) ≡ (a * 16 % 256 + b) % 256 ∷ joined rest
unfolding joined
joined_pair a b rest = refl

joined_nil : joined [] ≡ []
unfolding joined
joined_nil = refl

-- one byte more is joined
pub joined_more : (values out : List ℕ) (i byte : ℕ) → i < length out → length values ≡ 2 * length out → byte ≡
    (get_or values (2 * i) 0 * 16 % 256 + get_or values (2 * i + 1) 0) % 256
    → take i out ++ joined (drop (2 * i) values) ≡ joined values → take (i + 1) (set out i byte) ++ joined (drop (2 * (i + 1)) values) ≡ joined values
joined_more values out i byte within len is so_far =
    let rest = drop (2 * (i + 1)) values in
    ap (λ (xs : List ℕ). xs ++ joined rest) (take_more_set out i byte within)
    ∙ (append_assoc (take i out) (byte ∷ []) (joined rest)
    ∙ (ap (λ (xs : List ℕ). take i out ++ xs)
    (ap (λ (n : ℕ). n ∷ joined rest) is ∙
    (sym (joined_pair (get_or values (2 * i) 0) (get_or values (2 * i + 1) 0) rest) ∙ ap joined (sym (pair_at values i (omega arith)))))
    ∙ so_far))

-- all are
pub joined_all : (values out : List ℕ) (i : ℕ) → length out ≤ i → length values ≡ 2 * length out → take i out ++ joined (drop (2 * i) values) ≡
    joined values → out ≡ joined values
joined_all values out i past len so_far =
    sym (append-nil out)
    ∙ ((λ j. sym (take_all i out past) j ++ sym (ap joined (drop_all (2 * i) values (omega arith)) ∙ joined_nil) j)
    ∙ so_far)

-- ---- all pairs of a part

small : (c v : ℕ) → digit_value c ≡ Some v → v < 16
small c v e = grind (arith, nat_tests)

byte_is : (h l : ℕ) → h < 16 → l < 16 → (h * 16 % 256 + l) % 256 ≡ h * 16 + l
byte_is h l x y = omega arith

joined_by : (a b : Option ℕ) (values : Option (List ℕ)) → ((v : ℕ) → a ≡ Some v → v < 16) → ((v : ℕ) → b ≡ Some v → v < 16)
    → option_map joined (in_front a (in_front b values)) ≡ paired a b (option_map joined values)
unfolding joined
joined_by None b values x y = refl
joined_by (Some h) None values x y = refl
joined_by (Some h) (Some l) None x y = refl
joined_by (Some h) (Some l) (Some values) x y = ap (λ (n : ℕ). Some (n ∷ joined values)) (byte_is h l (x h refl) (y l refl))

pairs_joined : (word : List ℕ) (n : ℕ) → length word ≡ 2 * n → option_map joined (values_of word) ≡ lower_pairs word
unfolding joined lower_pairs values_of
pairs_joined [] n even = refl
pairs_joined (c ∷ []) n even = absurd (omega arith)
pairs_joined (a ∷ b ∷ rest) n even =
    joined_by (digit_value a) (digit_value b) (values_of rest) (small a) (small b)
    ∙ ap (paired (digit_value a) (digit_value b)) (pairs_joined rest (n - 1) (omega arith))

joined_if : (are : Bool) (values : List ℕ) → (if are then Some (joined values) else None) ≡ option_map joined (if are then Some values else None)
joined_if true values = refl
joined_if false values = refl

-- what joins the values of digits is what they spell
pub part_read : (word values bytes : List ℕ) (are : Bool) (n : ℕ) → length word ≡ 2 * n → bytes ≡ joined values
    → (if are then Some values else None) ≡ values_of word → (if are then Some bytes else None) ≡ lower_pairs word
part_read word values bytes are n even whole read =
    (λ j. if are then Some (whole j) else None)
    ∙ (joined_if are values ∙ (ap (option_map joined) read ∙ pairs_joined word n even))

-- a whole part
pub whole_read : (word values bytes first most : List ℕ) (g n : ℕ) → length word ≡ 2 * n → bytes ≡ joined values
    → (if is_value g then Some values else None) ≡ values_of word → is_value g ≡ list_all is_value values
    → list_all is_value most ≡ (list_all is_value first && list_all is_value values)
    → (list_all is_value most ≡ (is_some (lower_pairs word) && list_all is_value first)) × (IfSome (lower_pairs word) (λ bs. bytes ≡ bs))
whole_read word values bytes first most g n even whole read all raised =
    let known = some_if (is_value g) bytes (lower_pairs word) (part_read word values bytes (is_value g) n even whole read) in
    (raised ∙ (turned (list_all is_value first) (list_all is_value values) ∙ ap (λ b. b && list_all is_value first) (sym all ∙ known.0)), known.1)
  where
    turned : (a b : Bool) → (a && b) ≡ (b && a)
    turned true true = refl
    turned true false = refl
    turned false true = refl
    turned false false = refl

-- ---- part by part

-- the part of n digits from one place on
pub part_length : (at n : ℕ) → at + n - at ≡ n
part_length at n = omega arith

-- what a front spells, and then what the rest does
abbrev before : Option (List ℕ) → Option (List ℕ) → Option (List ℕ)
before None rest = None
before (Some front) rest = option_map (λ bytes. front ++ bytes) rest

paired_before : (a b : Option ℕ) (first rest : Option (List ℕ)) → paired a b (before first rest) ≡ before (paired a b first) rest
paired_before None b first rest = refl
paired_before (Some h) None first rest = refl
paired_before (Some h) (Some l) None rest = refl
paired_before (Some h) (Some l) (Some front) None = refl
paired_before (Some h) (Some l) (Some front) (Some bytes) = refl

before_nil : (rest : Option (List ℕ)) → rest ≡ before (Some []) rest
before_nil None = refl
before_nil (Some bytes) = refl

pairs_append : (xs ys : List ℕ) (n : ℕ) → length xs ≡ 2 * n → lower_pairs (xs ++ ys) ≡ before (lower_pairs xs) (lower_pairs ys)
unfolding lower_pairs
pairs_append [] ys n even = before_nil (lower_pairs ys)
pairs_append (c ∷ []) ys n even = absurd (omega arith)
pairs_append (a ∷ b ∷ rest) ys n even =
    ap (paired (digit_value a) (digit_value b)) (pairs_append rest ys (n - 1) (omega arith))
    ∙ paired_before (digit_value a) (digit_value b) (lower_pairs rest) (lower_pairs ys)

spelled_by : (are part : Bool) (front bytes : List ℕ) (rest : Option (List ℕ)) → spelled are front (before (if part then Some bytes else None) rest)
    ≡ spelled (part && are) (front ++ bytes) rest
spelled_by true true front bytes None = refl
spelled_by true true front bytes (Some others) = ap Some (sym (append_assoc front bytes others))
spelled_by true false front bytes rest = refl
spelled_by false true front bytes rest = refl
spelled_by false false front bytes rest = refl

-- one part more
pub spelled_more : (word bytes front : List ℕ) (are part : Bool) (at n : ℕ) → length (take (2 * n) (drop at word)) ≡ 2 * n →
    (if part then Some bytes else None) ≡ lower_pairs (take (2 * n) (drop at word))
    → lower_pairs word ≡ spelled are front (lower_pairs (drop at word)) → lower_pairs word ≡ spelled (part && are) (front ++ bytes)
    (lower_pairs (drop (at + 2 * n) word))
spelled_more word bytes front are part at n even read so_far =
    let rest = drop (at + 2 * n) word in
    let here = take (2 * n) (drop at word) in
    so_far
    ∙ (ap (λ (xs : List ℕ). spelled are front (lower_pairs xs))
    (sym (take-append-drop (2 * n) (drop at word)) ∙ ap (λ (xs : List ℕ). here ++ xs) (drop-drop (2 * n) at word))
    ∙ (ap (spelled are front) (pairs_append here rest n even ∙ ap (λ (o : Option (List ℕ)). before o (lower_pairs rest)) (sym read))
    ∙ spelled_by are part front bytes (lower_pairs rest)))

last_by : (are part : Bool) (front bytes : List ℕ) → (if part && are then Some (front ++ bytes) else None) ≡ spelled are front
    (if part then Some bytes else None)
last_by true true front bytes = refl
last_by true false front bytes = refl
last_by false true front bytes = refl
last_by false false front bytes = refl

-- the last part
pub spelled_last : (word bytes front : List ℕ) (are part : Bool) (at : ℕ) → (if part then Some bytes else None) ≡ lower_pairs (drop at word)
    → lower_pairs word ≡ spelled are front (lower_pairs (drop at word)) → (if part && are then Some (front ++ bytes) else None) ≡ lower_pairs word
spelled_last word bytes front are part at read so_far = last_by are part front bytes ∙ (ap (spelled are front) read ∙ sym so_far)

-- before the first part
pub nothing_read : (word : List ℕ) (are : Bool) → are ≡ true → lower_pairs word ≡ spelled are [] (lower_pairs word)
nothing_read word are e = before_nil (lower_pairs word) ∙ ap (λ b. spelled b [] (lower_pairs word)) (sym e)
