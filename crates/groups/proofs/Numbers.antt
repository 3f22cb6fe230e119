-- The numbers of the groups: which bytes have one number, and that they go upwards with the lowest bytes.
-- Assumes nothing.
use mathlib.Core.Path.{◌≡◌, refl, sym, ap, ap₂, ◌∙◌, subst}
use mathlib.Core.Logic.{◌↔◌}
use Prim.Native.Nat.{ℕ, zero, suc, ◌+◌, ◌-◌, ◌≤◌, ◌<◌}
use mathlib.Core.Bool.{Bool, true, false, not, xor, cond, true≢false}
use mathlib.Core.List.{List, [], ◌∷◌, ◌++◌}
use native.Mathlib.Omega.{arith}
use native.Mathlib.Decide.{dec_lt}
use lib.ListN.{length, get_or, replicate}
use lib.Dec.{T, T_not, not_T}
use Rattle.theory.specs.Pattern.{Re, count, has, SameGroup}
use Rattle.theory.specs.Standing.{member, from, filter}
use Rattle.theory.specs.Code.Members.{any}
use Rattle.theory.proofs.Tests.{true_T, not_true, same_test}
use Rattle.theory.proofs.Members.{any_found, any_of, filter_of, filter_passes, member_from, length_from, map_from, from_append, from_snoc, filter_append, filter_size, from_range, filter_in}
use Rattle.groups.specs.Numbers.{shares, place_of, is_lowest, lowest_below, lowest_bytes, number_of, numbers, groups_by, groups_of}
use Rattle.groups.proofs.Lists.{any_agree, filter_agree, place_agree, map_agree, place_passes, member_place, place_member, chosen_upwards}

-- To share a group is an equivalence.
pub record Equivalence (share : ℕ → ℕ → Bool) : Type 0 where
  pub self : (b : ℕ) → T (share b b)
  pub turned : (b c : ℕ) → T (share b c) → T (share c b)
  pub chained : (a b c : ℕ) → T (share a b) → T (share b c) → T (share a c)

-- A byte that is not the lowest of its group shares it with a lower one.
pub lower_one : (share : ℕ → ℕ → Bool) (b : ℕ) → is_lowest share b ≡ false → (c : ℕ) × (c < b) × T (share c b)
lower_one share b e =
    let (c, m, t) = any_found (λ c. share c b) (from 0 b) (go (any (λ c. share c b) (from 0 b)) e) in
    (c, (let h = from_range c 0 b m in omega arith), t)
  where
    go : (a : Bool) → not a ≡ false → T a
    go true e = tt
    go false e = absurd (true≢false e)

chosen_below : (share : ℕ → ℕ → Bool) (n b : ℕ) → T (member b (lowest_below share n)) → b < n
chosen_below share n b m = let i = from_range b 0 n (filter_in (is_lowest share) (from 0 n) b m) in omega arith

pub few_below : (share : ℕ → ℕ → Bool) (n : ℕ) → length (lowest_below share n) ≤ n
few_below share n = omega (arith, filter_size (is_lowest share) (from 0 n), length_from 0 n)

-- One byte more, which is the lowest of its group or not.
pub next_byte : (n : ℕ) → from 0 (n + 1) ≡ from 0 n ++ (n ∷ [])
next_byte n = let (h, i) : (n + 1 ≡ suc n) × (0 + n ≡ n) = omega arith in ap (from 0) h ∙ from_snoc 0 n ∙ ap (λ k. from 0 n ++ (k ∷ [])) i

pub next_lowest : (share : ℕ → ℕ → Bool) (n : ℕ) → lowest_below share (n + 1) ≡ lowest_below share n ++ cond (is_lowest share n) (n ∷ []) []
next_lowest share n = ap (filter (is_lowest share)) (next_byte n) ∙ filter_append (is_lowest share) (from 0 n) (n ∷ [])

-- The lowest bytes before one of them, this one, and those after it.
module _ (share : ℕ → ℕ → Bool) (n : ℕ) (h : n < 256) (low : is_lowest share n ≡ true) where
  pub lowest_split : lowest_bytes share ≡ lowest_below share n ++ (n ∷ filter (is_lowest share) (from (suc n) (255 - n)))
  unfolding lowest_bytes
  lowest_split =
      let (all, rest, on) : (256 ≡ n + (256 - n)) × (256 - n ≡ suc (255 - n)) × (0 + n ≡ n) = omega arith in
      ap (lowest_below share) all
      ∙ ap (filter (is_lowest share)) (from_append 0 n (256 - n))
      ∙ filter_append (is_lowest share) (from 0 n) (from (0 + n) (256 - n))
      ∙ ap₂ (λ k d. lowest_below share n ++ filter (is_lowest share) (from k d)) on rest
      ∙ ap (λ c. lowest_below share n ++ cond c (n ∷ filter (is_lowest share) (from (suc n) (255 - n))) (filter (is_lowest share) (from (suc n) (255 - n)))) low

-- The lowest bytes are bytes, and each byte that is the lowest of its group is among them.
module _ (share : ℕ → ℕ → Bool) where
  pub lowest_byte : (k : ℕ) → k < length (lowest_bytes share) → (get_or (lowest_bytes share) k 0 < 256) × T (is_lowest share (get_or (lowest_bytes share) k 0))
  unfolding lowest_bytes
  lowest_byte k h =
      let b : ℕ = get_or (lowest_below share 256) k 0 in
      let m : T (member b (lowest_below share 256)) = place_member (lowest_below share 256) k h in
      (chosen_below share 256 b m, filter_passes (is_lowest share) (from 0 256) b m)

  lowest_member : (b : ℕ) → b < 256 → T (is_lowest share b) → T (member b (lowest_bytes share))
  unfolding lowest_bytes
  lowest_member b h t = filter_of (is_lowest share) (from 0 256) b t (member_from b 0 256 (omega arith) (omega arith))

  pub lowest_place : (b : ℕ) → b < 256 → T (is_lowest share b) → (k : ℕ) × (k < length (lowest_bytes share)) × (get_or (lowest_bytes share) k 0 ≡ b)
  lowest_place b h t = member_place b (lowest_bytes share) (lowest_member b h t)

  -- No lower byte shares the group of a byte that is the lowest.
  lowest_first : (b : ℕ) → T (is_lowest share b) → (c : ℕ) → c < b → T (share c b) → ⊥
  lowest_first b low c l t = T_not (any (λ x. share x b) (from 0 b)) low (any_of (λ x. share x b) (from 0 b) c (member_from c 0 b (omega arith) (omega arith)) t)

  pub few_groups : length (lowest_bytes share) ≤ 256
  unfolding lowest_bytes
  few_groups = few_below share 256

  -- GROUPS ARE NUMBERED BY THEIR LOWEST BYTE, UPWARDS.
  pub upwards : (j k : ℕ) → j < k → k < length (lowest_bytes share) → get_or (lowest_bytes share) j 0 < get_or (lowest_bytes share) k 0
  unfolding lowest_bytes
  upwards = chosen_upwards (is_lowest share) 0 256

  -- Where one goes on who has met the first k of the lowest bytes: at the byte after the last of them.
  abbrev pub edge : ℕ → ℕ
  edge zero = 0
  edge (suc k) = suc (get_or (lowest_bytes share) k 0)

  pub edge_below : (k : ℕ) → k < length (lowest_bytes share) → edge k ≤ get_or (lowest_bytes share) k 0
  edge_below zero h = omega arith
  edge_below (suc k) h = upwards k (suc k) (omega arith) h

  -- From there on no byte is the lowest of its group before the next of them.
  pub between : (k b : ℕ) → k ≤ length (lowest_bytes share) → edge k ≤ b → b < 256 → (k < length (lowest_bytes share) → b < get_or (lowest_bytes share) k 0) → is_lowest share b ≡ false
  between k b m e h n = not_true (is_lowest share b) (λ t. let (j, i, g) = lowest_place b h t in no_place k m e n j i g)
    where
      no_place : (k : ℕ) → k ≤ length (lowest_bytes share) → edge k ≤ b → (k < length (lowest_bytes share) → b < get_or (lowest_bytes share) k 0)
          → (j : ℕ) → j < length (lowest_bytes share) → get_or (lowest_bytes share) j 0 ≡ b → ⊥
      no_place k m e n j i g =
          elim (dec_lt j k) [
            | yes l ↦ before k l e m
            | no l ↦ (let there : k < length (lowest_bytes share) = omega arith in
                elim (dec_lt k j) [
                  | yes o ↦ omega (arith, upwards k j o i, n there, g)
                  | no o ↦ (let s : k ≡ j = omega arith in omega (arith, n there, ap (λ x. get_or (lowest_bytes share) x 0) s, g))
                ])
          ]
        where
          before : (k : ℕ) → j < k → edge k ≤ b → k ≤ length (lowest_bytes share) → ⊥
          before zero l e m = omega arith
          before (suc k) l e m =
              elim (dec_lt j k) [
                | yes o ↦ omega (arith, upwards j k o (omega arith), g)
                | no o ↦ (let s : j ≡ k = omega arith in omega (arith, ap (λ x. get_or (lowest_bytes share) x 0) s, g))
              ]

  module _ (q : Equivalence share) where
    -- Bytes that share a group are shared with by the same bytes.
    pub shared_alike : (b c : ℕ) → T (share b c) → (x : ℕ) → share x b ≡ share x c
    shared_alike b c t x = same_test (share x b) (share x c) (λ s. q.chained x b c s t) (λ s. q.chained x c b s (q.turned b c t))

    -- Each byte shares its group with the group's lowest byte.
    has_lowest : (n b : ℕ) → b < n → b < 256 → T (any (λ c. share c b) (lowest_bytes share))
    has_lowest zero b l h = absurd (omega arith)
    has_lowest (suc n) b l h = go (is_lowest share b) refl (has_lowest n)
      where
        go : (a : Bool) → is_lowest share b ≡ a → ((c : ℕ) → c < n → c < 256 → T (any (λ x. share x c) (lowest_bytes share))) → T (any (λ c. share c b) (lowest_bytes share))
        go true e below = any_of (λ c. share c b) (lowest_bytes share) b (lowest_member b h (true_T _ e)) (q.self b)
        go false e below =
            let (c, i, t) = lower_one share b e in
            let (x, m, s) = any_found (λ x. share x c) (lowest_bytes share) (below c (omega arith) (omega arith)) in
            any_of (λ x. share x b) (lowest_bytes share) x m (q.chained x c b s t)

    pub number_lowest : (b : ℕ) → b < 256 → (number_of share b < length (lowest_bytes share)) × T (share (get_or (lowest_bytes share) (number_of share b) 0) b)
    number_lowest b h = place_passes (λ c. share c b) (lowest_bytes share) (has_lowest (suc b) b (omega arith) h)

    -- Bytes have one number exactly if they share a group.
    pub numbers_share : (b c : ℕ) → b < 256 → c < 256 → (number_of share b ≡ number_of share c) ↔ T (share b c)
    numbers_share b c hb hc = (one, alike)
      where
        one : number_of share b ≡ number_of share c → T (share b c)
        one e =
            let x = get_or (lowest_bytes share) (number_of share b) 0 in
            let t : T (share x c) = subst (λ k. T (share (get_or (lowest_bytes share) k 0) c)) (sym e) (number_lowest c hc).1 in
            q.chained b x c (q.turned x b (number_lowest b hb).1) t

        alike : T (share b c) → number_of share b ≡ number_of share c
        alike t = place_agree (λ x. share x b) (λ x. share x c) (lowest_bytes share) (λ x m. shared_alike b c t x)

    -- Lowest bytes that share a group are one.
    not_below : (j k : ℕ) → j < k → k < length (lowest_bytes share) → T (share (get_or (lowest_bytes share) j 0) (get_or (lowest_bytes share) k 0)) → ⊥
    not_below j k l h t = lowest_first (get_or (lowest_bytes share) k 0) (lowest_byte k h).1 (get_or (lowest_bytes share) j 0) (upwards j k l h) t

    one_place : (j k : ℕ) → j < length (lowest_bytes share) → k < length (lowest_bytes share) → T (share (get_or (lowest_bytes share) j 0) (get_or (lowest_bytes share) k 0)) → j ≡ k
    one_place j k i h t =
        elim (dec_lt j k) [
          | yes l ↦ absurd (not_below j k l h t)
          | no l ↦ elim (dec_lt k j) [
            | yes g ↦ absurd (not_below k j g i (q.turned _ _ t))
            | no g ↦ omega arith
          ]
        ]

    -- The group of number k has the lowest byte at place k,
    pub lowest_number : (k : ℕ) → k < length (lowest_bytes share) → number_of share (get_or (lowest_bytes share) k 0) ≡ k
    lowest_number k h = one_place (number_of share (get_or (lowest_bytes share) k 0)) k (number_lowest _ (lowest_byte k h).0).0 h (number_lowest _ (lowest_byte k h).0).1

    -- and no byte of it is lower.
    pub lowest_least : (b : ℕ) → b < 256 → get_or (lowest_bytes share) (number_of share b) 0 ≤ b
    lowest_least b h =
        let (i, t) = number_lowest b h in
        elim (dec_lt b (get_or (lowest_bytes share) (number_of share b) 0)) [
          | yes l ↦ absurd (lowest_first (get_or (lowest_bytes share) (number_of share b) 0) (lowest_byte (number_of share b) i).1 b l (q.turned _ _ t))
          | no l ↦ omega arith
        ]

-- The number in the array is the group's.
pub number_at : (share : ℕ → ℕ → Bool) (b : ℕ) → b < 256 → get_or (numbers share) b 0 ≡ number_of share b
unfolding numbers
number_at share b h = let on : 0 + b ≡ b = omega arith in map_from (number_of share) 0 256 b h ∙ ap (number_of share) on

-- Two ways to tell which bytes share a group that agree on bytes have the same groups.
module _ (s t : ℕ → ℕ → Bool) (e : (b c : ℕ) → b < 256 → c < 256 → s b c ≡ t b c) where
  same_lowest : (b : ℕ) → b < 256 → is_lowest s b ≡ is_lowest t b
  same_lowest b h = ap not (any_agree (λ c. s c b) (λ c. t c b) (from 0 b) λ c m. e c b (let i = from_range c 0 b m in omega arith) h)

  same_bytes : lowest_bytes s ≡ lowest_bytes t
  unfolding lowest_bytes
  same_bytes = filter_agree (is_lowest s) (is_lowest t) (from 0 256) λ b m. same_lowest b (let i = from_range b 0 256 m in omega arith)

  small : (c : ℕ) → T (member c (lowest_bytes s)) → c < 256
  unfolding lowest_bytes
  small c m = chosen_below s 256 c m

  same_number : (b : ℕ) → b < 256 → number_of s b ≡ number_of t b
  same_number b h = place_agree (λ c. s c b) (λ c. t c b) (lowest_bytes s) (λ c m. e c b (small c m) h) ∙ ap (place_of (λ c. t c b)) same_bytes

  same_numbers : numbers s ≡ numbers t
  unfolding numbers
  same_numbers = map_agree (number_of s) (number_of t) (from 0 256) λ b m. same_number b (let i = from_range b 0 256 m in omega arith)

  pub same_groups : groups_by s ≡ groups_by t
  same_groups = λ i. record { group = same_numbers i; lowest = same_bytes i ++ replicate (256 - length (same_bytes i)) 0; count = length (same_bytes i) }

-- "Two bytes share a group exactly if each leaf's set holds both or neither."
differ : (x y : Bool) → x ≡ y → T (xor x y) → ⊥
unfolding xor
differ true true e t = t
differ false false e t = t
differ true false e t = true≢false e
differ false true e t = true≢false (sym e)

equal : (x y : Bool) → (T (xor x y) → ⊥) → x ≡ y
unfolding xor
equal true true h = refl
equal false false h = refl
equal true false h = absurd (h tt)
equal false true h = absurd (h tt)

pub shares_is : (r : Re) (b c : ℕ) → T (shares r b c) ↔ SameGroup r b c
shares_is r b c =
    let apart : ℕ → Bool = λ p. xor (has r p b) (has r p c) in
    let leaves : List ℕ = from 0 (count r) in (
      λ t p l. equal (has r p b) (has r p c) (λ x. T_not (any apart leaves) t (any_of apart leaves p (member_from p 0 (count r) (omega arith) (omega arith)) x)),
      λ g. not_T (any apart leaves)
          (λ t. let (p, m, x) = any_found apart leaves t in differ (has r p b) (has r p c) (g p (let i = from_range p 0 (count r) m in omega arith)) x),
    )

pub shares_equivalence : (r : Re) → Equivalence (shares r)
shares_equivalence r =
    record {
      self = λ b. (shares_is r b b).1 (λ p l. refl);
      turned = λ b c t. (shares_is r c b).1 (λ p l. sym ((shares_is r b c).0 t p l));
      chained = λ a b c s t. (shares_is r a c).1 (λ p l. (shares_is r a b).0 s p l ∙ (shares_is r b c).0 t p l);
    }

-- TWO BYTES SHARE A GROUP EXACTLY IF EACH LEAF'S SET HOLDS BOTH OR NEITHER: they have one number.
pub groups_share : (r : Re) (b c : ℕ) → b < 256 → c < 256 → (get_or (groups_of r).group b 0 ≡ get_or (groups_of r).group c 0) ↔ SameGroup r b c
groups_share r b c hb hc =
    let (one, alike) = numbers_share (shares r) (shares_equivalence r) b c hb hc in
    let (means, meant) = shares_is r b c in
    (λ e. means (one (sym (number_at (shares r) b hb) ∙ e ∙ number_at (shares r) c hc)), λ g. number_at (shares r) b hb ∙ alike (meant g) ∙ sym (number_at (shares r) c hc))
