-- The first pass: a turn keeps what is done with what is left, and no kind is a leaf past the last.
-- Assumes nothing.
use mathlib.Core.Path.{◌≡◌, refl, sym, ap, ◌∙◌}
use mathlib.Core.Bool.{Bool, true, false, cond}
use mathlib.Core.List.{List, [], ◌∷◌, ◌++◌, append_assoc, append-nil}
use Prim.Native.Nat.{ℕ, zero, suc, ◌+◌, ◌-◌, ◌<◌, ◌≤◌}
use native.Mathlib.Omega.{arith}
use native.Mathlib.Decide.{dec_lt}
use native.Mathlib.Numerals.{add-one}
use lib.Dec.{ltb}
use lib.ListN.{length, get_or, set, take, drop, length-set, length-take, drop_of_length-le}
use lib.Seq.{take-suc-set, drop-cons, length-take-le, take-nil}
use borrow.Author.Tests.{lt-ltb, le-ltb}
use Rattle.grammar.specs.Code.Tokens.{max_parts}
use Rattle.grammar.specs.Code.Codes.{first_leaf}
use Rattle.arrays.specs.Passes.{kind_of, leaves_with, places_with, Noted, kinds_from, places_of, Numbered}

-- The kinds that stand, and those of the codes from i on.
abbrev KindsLeft : List ℕ → List ℕ → ℕ → ℕ → List ℕ
KindsLeft kinds l i p = take i kinds ++ kinds_from p (drop i l)

kinds_turn : (kinds l : List ℕ) (i p : ℕ) → i < length kinds → i < length l
    → KindsLeft (set kinds i (kind_of p (get_or l i 0))) l (i + 1) (leaves_with p (get_or l i 0)) ≡ KindsLeft kinds l i p
unfolding kinds_from
kinds_turn kinds l i p h k =
    rw (add-one i, take-suc-set kinds i (kind_of p (get_or l i 0)) h, drop-cons l i 0 k)
    (append_assoc (take i kinds) (kind_of p (get_or l i 0) ∷ []) (kinds_from (leaves_with p (get_or l i 0)) (drop (suc i) l)))

-- The places that stand, and those of the leaves from i on, as many as there is room for.
abbrev PlacesLeft : List ℕ → List ℕ → ℕ → ℕ → List ℕ
PlacesLeft places l i p = take p places ++ take (64 - p) (places_of (drop i l))

placed : (places l : List ℕ) (p c : ℕ) → p ≤ 64 → length places ≡ 64
    → take (leaves_with p c) (places_with p c places) ++ take (64 - leaves_with p c) (places_of l) ≡ take p places ++ take (64 - p) (places_of (c ∷ l))
unfolding places_of
placed places l p c h k = go (dec_lt c first_leaf) (dec_lt p 64)
  where
    go : Dec (c < first_leaf) → Dec (p < 64)
        → take (leaves_with p c) (places_with p c places) ++ take (64 - leaves_with p c) (places_of l) ≡ take p places ++ take (64 - p) (places_of (c ∷ l))
    go (yes a) d = rw (lt-ltb c first_leaf a)
    go (no a) (yes b) =
        let e : 64 - p ≡ suc (64 - (p + 1)) = omega arith in
        rw (le-ltb c first_leaf (omega arith), lt-ltb p 64 b, e, add-one p, take-suc-set places p (c - first_leaf) (omega arith))
        (append_assoc (take p places) ((c - first_leaf) ∷ []) (take (64 - suc p) (places_of l)))
    go (no a) (no b) =
        let e : 64 - p ≡ 0 = omega arith in
        rw (le-ltb c first_leaf (omega arith), le-ltb p 64 (omega arith), e)

places_turn : (places l : List ℕ) (i p : ℕ) → p ≤ 64 → length places ≡ 64 → i < length l
    → PlacesLeft (places_with p (get_or l i 0) places) l (i + 1) (leaves_with p (get_or l i 0)) ≡ PlacesLeft places l i p
places_turn places l i p h k m = rw (add-one i, drop-cons l i 0 m) (placed places (drop (suc i) l) p (get_or l i 0) h k)

-- The bounds of a code c before the codes l: at most 64 leaves are counted, no more than there are, and no kind is a leaf past them.
record Bounds (p c : ℕ) (l : List ℕ) : Type 0 where
  room : p ≤ 64 → leaves_with p c ≤ 64
  most : leaves_with p c + length (places_of l) ≤ p + length (places_of (c ∷ l))
  below : kind_of p c < first_leaf + (p + length (places_of (c ∷ l)))

bounds : (p c : ℕ) (l : List ℕ) → Bounds p c l
unfolding places_of
bounds p c l = go (dec_lt c first_leaf) (dec_lt p 64)
  where
    go : Dec (c < first_leaf) → Dec (p < 64) → Bounds p c l
    go (yes a) d =
        let e = lt-ltb c first_leaf a in
        record { room = rw e (λ h. h); most = rw e (omega arith); below = rw e (omega arith) }
    go (no a) (yes b) =
        let e = le-ltb c first_leaf (omega arith) in
        let f = lt-ltb p 64 b in
        record { room = rw (e, f) (λ h. omega arith); most = rw (e, f) (omega arith); below = rw (e, f) (omega arith) }
    go (no a) (no b) =
        let e = le-ltb c first_leaf (omega arith) in
        let f = le-ltb p 64 (omega arith) in
        record { room = rw (e, f) (λ h. h); most = rw (e, f) (omega arith); below = rw (e, f) (omega arith) }

pub kinds_below : (p : ℕ) (l : List ℕ) (i : ℕ) → get_or (kinds_from p l) i 0 < first_leaf + (p + length (places_of l))
unfolding kinds_from
kinds_below p [] i = omega arith
kinds_below p (c ∷ l) zero = (bounds p c l).below
kinds_below p (c ∷ l) (suc i) = omega (arith, kinds_below (leaves_with p c) l i, (bounds p c l).most)

-- One code: a kind, a leaf, and a leaf for which there is no room.
pub noted_kind : (c i p : ℕ) (kinds places : List ℕ) → c < first_leaf → Noted c i p kinds places (set kinds i c) places p
noted_kind c i p kinds places h =
    let e = lt-ltb c first_leaf h in
    record { kind = rw e; place = rw e; leaves = rw e }

pub noted_leaf : (c i p k : ℕ) (kinds places : List ℕ) → first_leaf ≤ c → p < 64 → k ≡ first_leaf + p → Noted c i p kinds places (set kinds i k) (set places p (c - first_leaf)) (p + 1)
noted_leaf c i p k kinds places h b g =
    let e = le-ltb c first_leaf h in
    let f = lt-ltb p 64 b in
    record { kind = rw (e, f, g); place = rw (e, f); leaves = rw (e, f) }

pub noted_full : (c i p : ℕ) (kinds places : List ℕ) → first_leaf ≤ c → 64 ≤ p → Noted c i p kinds places (set kinds i 0) places p
noted_full c i p kinds places h k =
    let e = le-ltb c first_leaf h in
    let f = le-ltb p 64 k in
    record { kind = rw (e, f); place = rw (e, f); leaves = rw (e, f) }

-- What holds of the arrays before the place i of the codes l.
pub record Standing (l kinds places : List ℕ) (i p : ℕ) : Type 0 where
  pub room : p ≤ 64
  pub long : length kinds ≡ max_parts
  pub short : length places ≡ 64
  pub kinds_left : KindsLeft kinds l i p ≡ kinds_from 0 l
  pub places_left : PlacesLeft places l i p ≡ take 64 (places_of l)

length_places_with : (p c : ℕ) (places : List ℕ) → length (places_with p c places) ≡ length places
length_places_with p c places = go (ltb c first_leaf) (ltb p 64)
  where
    go : (s t : Bool) → length (cond s places (cond t (set places p (c - first_leaf)) places)) ≡ length places
    go true t = refl
    go false true = length-set places p (c - first_leaf)
    go false false = refl

pub standing_begin : (l kinds places : List ℕ) → length kinds ≡ max_parts → length places ≡ 64 → Standing l kinds places 0 0
standing_begin l kinds places h k = record { room = omega arith; long = h; short = k; kinds_left = refl; places_left = refl }

pub standing_turn : (l kinds places kinds' places' : List ℕ) (i p p' : ℕ) → i < length l → length l ≤ max_parts → Standing l kinds places i p
    → Noted (get_or l i 0) i p kinds places kinds' places' p' → Standing l kinds' places' (i + 1) p'
standing_turn l kinds places kinds' places' i p p' h k s w =
    rw (w.kind, w.place, w.leaves)
    (record {
      room = (bounds p (get_or l i 0) []).room s.room;
      long = length-set kinds i _ ∙ s.long;
      short = length_places_with p (get_or l i 0) places ∙ s.short;
      kinds_left = kinds_turn kinds l i p (omega (arith, s.long)) h ∙ s.kinds_left;
      places_left = places_turn places l i p s.room s.short h ∙ s.places_left;
    })

pub standing_end : (l kinds places : List ℕ) (p : ℕ) → Standing l kinds places (length l) p → Numbered l (take (length l) kinds) places p
unfolding kinds_from places_of
standing_end l kinds places p s =
    let e : drop (length l) l ≡ [] = drop_of_length-le l {i = length l} (omega arith) in
    let a : take p places ≡ take 64 (places_of l) = sym (append-nil (take p places)) ∙ (rw (e, take-nil {A = ℕ} (64 - p)) at s.places_left) in
    record {
      are = sym (append-nil (take (length l) kinds)) ∙ (rw e at s.kinds_left);
      at = a;
      counted = sym (length-take-le p places (omega (arith, s.short, s.room))) ∙ ap length a ∙ length-take 64 (places_of l);
    }
