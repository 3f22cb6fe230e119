-- One turn of the code: the groups of the bytes below n become those of the bytes below n + 1.
-- Assumes nothing.
use mathlib.Core.Path.{◌≡◌, refl, sym, ap, ◌∙◌}
use mathlib.Core.List.{List, [], ◌∷◌, ◌++◌, map, append-nil, map-append}
use mathlib.Core.Bool.{Bool, true, false, not, cond, true≢false}
use Prim.Native.Nat.{ℕ, suc, ◌+◌, ◌-◌, ◌≤◌, ◌<◌}
use native.Mathlib.Omega.{arith}
use lib.ListN.{length, get_or, set, take, replicate, get_or-append, length-map, length-append, length-take}
use lib.Seq.{set_at, append_snoc, length-take-le}
use lib.Dec.{T, eqb, eqb→eq, eqb_refl}
use native.Mathlib.Decide.{dec_lt}
use Rattle.std.specs.Prelude.{None, Some}
use Rattle.std.specs.List.{position, position_or_len}
use Rattle.std.proofs.Common.{get_or-take}
use Rattle.std.proofs.lemmas.Bool.{lt-ltb}
use Rattle.std.proofs.lemmas.Option.{none-some}
use Rattle.std.proofs.lemmas.List.Quantifiers.{position-Some}
use Rattle.std.proofs.lemmas.List.Sums.{fails_before_first}
use Rattle.theory.specs.Standing.{from}
use Rattle.theory.specs.Code.Members.{any}
use Rattle.theory.proofs.Tests.{T_true, true_T, not_true}
use Rattle.theory.proofs.Members.{any_found, any_of, member_from, length_from, map_from, from_range, filter_in}
use Rattle.groups.specs.declared.Groups.{Groups}
use Rattle.groups.specs.Numbers.{place_of, is_lowest, lowest_below, lowest_bytes, number_of, numbers, groups_by}
use Rattle.groups.specs.Turns.{same, GroupedTo}
use Rattle.groups.proofs.Lists.{place_here, place_agree}
use Rattle.groups.proofs.Numbers.{Equivalence, next_byte, next_lowest, lowest_split, shared_alike}

pub same_equivalence : (a : List ℕ) → Equivalence (same a)
same_equivalence a =
    record {
      self = λ b. eqb_refl (get_or a b 0);
      turned = λ b c t. rw (eqb→eq (get_or a b 0) (get_or a c 0) t) (eqb_refl (get_or a c 0));
      chained = λ b c d s t. rw (eqb→eq (get_or a b 0) (get_or a c 0) s) t;
    }

pub alike_same : (a : List ℕ) (b c : ℕ) → get_or a b 0 ≡ get_or a c 0 → T (same a b c)
alike_same a b c e = rw e (eqb_refl (get_or a c 0))

-- A list in an array of 256 places, with zeros after it, becomes longer by a number.
fill : (p : List ℕ) (n v : ℕ) → length p ≡ n → n < 256 → set (p ++ replicate (256 - n) 0) n v ≡ (p ++ (v ∷ [])) ++ replicate (256 - (n + 1)) 0
fill p n v e h =
    let more : 256 - n ≡ suc (256 - (n + 1)) = omega arith in
    ap (λ k. set (p ++ replicate k 0) n v) more ∙ set_at p 0 (replicate (256 - (n + 1)) 0) v n e ∙ sym (append_snoc p v (replicate (256 - (n + 1)) 0))

-- One number more.
next_number : (f : ℕ → ℕ) (n : ℕ) → map f (from 0 (n + 1)) ≡ map f (from 0 n) ++ (f n ∷ [])
next_number f n = ap (map f) (next_byte n) ∙ map-append f (from 0 n) (n ∷ [])

numbers_size : (f : ℕ → ℕ) (n : ℕ) → length (map f (from 0 n)) ≡ n
numbers_size f n = length-map (from 0 n) f ∙ length_from 0 n

-- A byte that is the lowest of its group has as its number how many lowest bytes there are below.
module _ (share : ℕ → ℕ → Bool) (q : Equivalence share) (n : ℕ) (h : n < 256) (low : is_lowest share n ≡ true) where
  none_below : any (λ c. share c n) (lowest_below share n) ≡ false
  none_below =
      not_true (any (λ c. share c n) (lowest_below share n))
      (λ t. let (c, m, s) = any_found (λ c. share c n) (lowest_below share n) t in
      apart (any (λ c. share c n) (from 0 n)) low (any_of (λ c. share c n) (from 0 n) c (filter_in (is_lowest share) (from 0 n) c m) s))
    where
      apart : (a : Bool) → not a ≡ true → T a → ⊥
      apart true e t = true≢false (sym e)
      apart false e t = t

  new_number : number_of share n ≡ length (lowest_below share n)
  new_number = ap (λ l. place_of (λ c. share c n) l) (lowest_split share n h low) ∙ place_here (λ c. share c n) (lowest_below share n) n _ none_below (q.self n)

-- What the look for a lower byte with the same mask says.
pub lower_found : (masks : List ℕ) (b first : ℕ) → position (λ x. eqb x (get_or masks b 0)) (take b masks) ≡ Some first → (first < b) × (get_or masks first 0 ≡ get_or masks b 0)
lower_found masks b first e =
    let (l, f, n) = position-Some (λ x. eqb x (get_or masks b 0)) (take b masks) first 0 e in
    let h : first < b = omega (arith, length-take b masks) in
    (h, sym (get_or-take b masks first 0 h) ∙ eqb→eq _ _ (true_T _ f))

nowhere : (p : ℕ → Bool) (l : List ℕ) → position p l ≡ None → length l ≤ position_or_len p l
nowhere p l = go (dec_lt (position_or_len p l) (length l))
  where
    go : Dec (position_or_len p l < length l) → position p l ≡ None → length l ≤ position_or_len p l
    go (yes h) e = absurd (none-some _ (sym e ∙ ap (λ c. cond c (Some (position_or_len p l)) None) (lt-ltb _ _ h)))
    go (no h) e = omega arith

pub lower_none : (masks : List ℕ) (b : ℕ) → b ≤ length masks → position (λ x. eqb x (get_or masks b 0)) (take b masks) ≡ None → (k : ℕ) → k < b → get_or masks k 0 ≡ get_or masks b 0 → ⊥
lower_none masks b h e k l alike =
    let p : ℕ → Bool = λ x. eqb x (get_or masks b 0) in
    let n = fails_before_first p (take b masks) k 0 (omega (arith, nowhere p (take b masks) e, length-take-le b masks h)) in
    true≢false (sym (T_true _ (alike_same masks k b alike)) ∙ ap p (sym (get_or-take b masks k 0 l)) ∙ n)

pub turn_begin : (masks : List ℕ) → GroupedTo masks 0 (record { group = replicate 256 0; lowest = replicate 256 0; count = 0 })
turn_begin masks = let e : 256 ≡ 256 - 0 = omega arith in record { numbered = ap (λ k. replicate k 0) e; leading = ap (λ k. replicate k 0) e; counted = refl; most = omega arith }

pub turn_end : (masks : List ℕ) (g : Groups) → GroupedTo masks 256 g → g ≡ groups_by (same masks)
unfolding lowest_bytes numbers
turn_end masks g t =
    let none : 256 - 256 ≡ 0 = omega arith in
    let all : g.group ≡ map (number_of (same masks)) (from 0 256) = t.numbered ∙ ap (λ k. map (number_of (same masks)) (from 0 256) ++ replicate k 0) none ∙ append-nil _ in
    λ i. record { group = all i; lowest = (t.leading ∙ ap (λ k. lowest_below (same masks) 256 ++ replicate (256 - k) 0) t.counted) i; count = t.counted i }

module _ (masks : List ℕ) (g : Groups) (n : ℕ) (h : n < 256) (t : GroupedTo masks n g) where
  numbered : (v : ℕ) → v ≡ number_of (same masks) n → set g.group n v ≡ map (number_of (same masks)) (from 0 (n + 1)) ++ replicate (256 - (n + 1)) 0
  numbered v e =
      ap (λ l. set l n v) t.numbered
      ∙ fill (map (number_of (same masks)) (from 0 n)) n v (numbers_size (number_of (same masks)) n) h
      ∙ ap (λ l. l ++ replicate (256 - (n + 1)) 0) (ap (λ x. map (number_of (same masks)) (from 0 n) ++ (x ∷ [])) e ∙ sym (next_number (number_of (same masks)) n))

  lowest_is : (a : Bool) → is_lowest (same masks) n ≡ a → lowest_below (same masks) (n + 1) ≡ lowest_below (same masks) n ++ cond a (n ∷ []) []
  lowest_is a e = next_lowest (same masks) n ∙ ap (λ c. lowest_below (same masks) n ++ cond c (n ∷ []) []) e

  -- The byte n has the mask of a lower one, and joins its group.
  module _ (first : ℕ) (l : first < n) (e : get_or masks first 0 ≡ get_or masks n 0) where
    joins : get_or g.group first 0 ≡ number_of (same masks) n
    joins =
        let on : 0 + first ≡ first = omega arith in
        ap (λ l. get_or l first 0) t.numbered
        ∙ get_or-append (map (number_of (same masks)) (from 0 n)) (replicate (256 - n) 0) 0 first (omega (arith, numbers_size (number_of (same masks)) n))
        ∙ map_from (number_of (same masks)) 0 n first l
        ∙ ap (number_of (same masks)) on
        ∙ place_agree (λ x. same masks x first) (λ x. same masks x n) (lowest_bytes (same masks)) (λ x m. shared_alike (same masks) (same_equivalence masks) first n (alike_same masks first n e) x)

    not_lowest : is_lowest (same masks) n ≡ false
    not_lowest = ap not (T_true (any (λ c. same masks c n) (from 0 n)) (any_of (λ c. same masks c n) (from 0 n) first (member_from first 0 n (omega arith) (omega arith)) (alike_same masks first n e)))

    unmoved : lowest_below (same masks) n ≡ lowest_below (same masks) (n + 1)
    unmoved = sym (lowest_is false not_lowest ∙ append-nil _)

    pub turn_old : GroupedTo masks (n + 1) (record { group = set g.group n (get_or g.group first 0); lowest = g.lowest; count = g.count })
    turn_old =
        record {
          numbered = numbered _ joins;
          leading = t.leading ∙ ap (λ l. l ++ replicate (256 - g.count) 0) unmoved;
          counted = t.counted ∙ ap length unmoved;
          most = omega (arith, t.most);
        }

  -- No lower byte has the mask of n, which begins a group.
  module _ (none : (k : ℕ) → k < n → get_or masks k 0 ≡ get_or masks n 0 → ⊥) where
    is_lowest_lem : is_lowest (same masks) n ≡ true
    is_lowest_lem =
        ap not (not_true (any (λ c. same masks c n) (from 0 n))
        (λ t. let (c, m, s) = any_found (λ c. same masks c n) (from 0 n) t in
        none c (let i = from_range c 0 n m in omega arith) (eqb→eq (get_or masks c 0) (get_or masks n 0) s)))

    longer : lowest_below (same masks) n ++ (n ∷ []) ≡ lowest_below (same masks) (n + 1)
    longer = sym (lowest_is true is_lowest_lem)

    pub turn_new : GroupedTo masks (n + 1) (record { group = set g.group n g.count; lowest = set g.lowest g.count n; count = g.count + 1 })
    turn_new =
        record {
          numbered = numbered g.count (t.counted ∙ sym (new_number (same masks) (same_equivalence masks) n h is_lowest_lem));
          leading =
              ap (λ l. set l g.count n) t.leading
              ∙ fill (lowest_below (same masks) n) g.count n (sym t.counted) (omega (arith, t.most))
              ∙ ap (λ l. l ++ replicate (256 - (g.count + 1)) 0) longer;
          counted = (let s : length (lowest_below (same masks) n ++ (n ∷ [])) ≡ length (lowest_below (same masks) n) + 1 = length-append (lowest_below (same masks) n) (n ∷ []) in omega (arith, t.counted, s)) ∙ ap length longer;
          most = omega (arith, t.most);
        }
