-- Source 000's order is a strict linear order on the matches: that in which the ends first stand in the list as it was before the requested changes.
-- Assumes nothing.
use mathlib.Core.Path.{◌≡◌, refl, sym, ◌∙◌, subst, subst₂}
use mathlib.Core.Logic.{◌⊎◌, inl, inr, ◌↔◌}
use Prim.Native.Nat.{ℕ}
use mathlib.Core.List.{List, [], ◌∷◌, Memᴰ as Mem}
use native.Mathlib.Decide.{ℕ_discrete}
use Rattle.theory.specs.Pattern.{Manner, Re, empty, leaf, seq, alt, star, field}
use Rattle.theory.specs.Matching.{Matches, m_seq, m_left, m_right, m_done, m_again, m_field}
use Rattle.theory.specs.Preference.{Least, ByLeast, by_least, AltWay, alt_end, AltLess, left, right, SeqLess, first, second, StarWay, star_end, StarLess, turn, rest, Prefer, left_right, more, less}
use Rattle.theory.proofs.Tests.{either}
use Rattle.theory.proofs.Ranked.{Before, before_total, before_trans}
use Rattle.theory.proofs.Preference.{places, in_order}

-- It goes one way.
module _ {A : Type 0} {In : A → Type 0} {ρ : A → ℕ} {Less : A → A → Type 0} (asym : (a b : A) → Less a b → Less b a → ⊥) where
  one_least : {j : ℕ} {a b : A} → Least In ρ Less j a → Least In ρ Less j b → a ≡ b
  one_least {j} {a} {b} f g =
      either (λ e. sym e) (λ l. either (λ e. e) (λ m. absurd (asym a b l m)) (g.least a f.way f.ends)) (f.least b g.way g.ends)

  flat_asym : {j k : ℕ} → ByLeast In ρ Less j k → ByLeast In ρ Less k j → ⊥
  flat_asym (by_least {a = a} {b = b} f g l) (by_least {a = c} {b = d} f' g' m) = asym a b l (subst₂ Less (one_least f' g) (one_least g' f) m)

module _ (P Q : ℕ → ℕ → Type 0) (p : (j k : ℕ) → P j k → P k j → ⊥) (q : (j k : ℕ) → Q j k → Q k j → ⊥) where
  alt_asym : (a b : ℕ ⊎ ℕ) → AltLess P Q a b → AltLess P Q b a → ⊥
  alt_asym a b (left {j = j} {k = k} l) (left m) = p j k l m
  alt_asym a b (right {j = j} {k = k} l) (right m) = q j k l m
  alt_asym a b left_right m = elim m [ ]

module _ (P : ℕ → ℕ → Type 0) (Q : ℕ → ℕ → ℕ → Type 0) (p : (j k : ℕ) → P j k → P k j → ⊥) (q : (i j k : ℕ) → Q i j k → Q i k j → ⊥) where
  seq_apart : {a b c d : ℕ × ℕ} → SeqLess P Q a b → SeqLess P Q c d → a.0 ≡ d.0 → b.0 ≡ c.0 → a.1 ≡ d.1 → b.1 ≡ c.1 → ⊥
  seq_apart (first {j = j} {j' = k} l) (first m) e f g h = p j k l (subst₂ P (sym f) (sym e) m)
  seq_apart (first {j = j} l) (second m) e f g h = let t = subst (P j) (f ∙ sym e) l in p j j t t
  seq_apart (second l) (first {j = j} m) e f g h = let t = subst (P j) (sym e ∙ f) m in p j j t t
  seq_apart (second {j = i} {k = j} {k' = k} l) (second {k = k1} {k' = j1} m) e f g h = q i j k l (subst₂ (Q i) (sym h) (sym g) (subst (λ x. Q x k1 j1) (sym e) m))

  seq_asym : (a b : ℕ × ℕ) → SeqLess P Q a b → SeqLess P Q b a → ⊥
  seq_asym a b l m = seq_apart l m refl refl refl refl

head_same : {j k : ℕ} {s t : List ℕ} → j ∷ s ≡ k ∷ t → j ≡ k
head_same e = cc

tail_same : {j k : ℕ} {s t : List ℕ} → j ∷ s ≡ k ∷ t → s ≡ t
tail_same e = cc

module _ (P : ℕ → ℕ → ℕ → Type 0) (p : (i j k : ℕ) → P i j k → P i k j → ⊥) where
  star_apart : {how how' : Manner} {i i' : ℕ} {a b c d : List ℕ} → StarLess P how i a b → StarLess P how' i' c d → how ≡ how' → i ≡ i' → a ≡ d → b ≡ c → ⊥
  star_apart {i = i} (turn {j = j} {j' = k} l) (turn {j = k1} {j' = j1} m) e f g h = p i j k l (subst₂ (P i) (sym (head_same h)) (sym (head_same g)) (subst (λ x. P x k1 j1) (sym f) m))
  star_apart {i = i} (turn {j = j} l) (rest m) e f g h = let t = subst (P i j) (head_same h ∙ sym (head_same g)) l in p i j j t t
  star_apart {i' = i} (rest l) (turn {j = j} m) e f g h = let t = subst (P i j) (sym (head_same g) ∙ head_same h) m in p i j j t t
  star_apart (rest l) (rest m) e f g h = star_apart l m e (head_same g) (tail_same g) (tail_same h)
  star_apart (turn l) more e f g h = cc
  star_apart (turn l) less e f g h = cc
  star_apart (rest l) more e f g h = cc
  star_apart (rest l) less e f g h = cc
  star_apart more (turn m) e f g h = cc
  star_apart more (rest m) e f g h = cc
  star_apart more more e f g h = cc
  star_apart more less e f g h = cc
  star_apart less (turn m) e f g h = cc
  star_apart less (rest m) e f g h = cc
  star_apart less more e f g h = cc
  star_apart less less e f g h = cc

  star_asym : (how : Manner) (i : ℕ) (a b : List ℕ) → StarLess P how i a b → StarLess P how i b a → ⊥
  star_asym how i a b l m = star_apart l m refl refl refl refl

pub asym : (w : List ℕ) (r : Re) (i j k : ℕ) → Prefer w r i j k → Prefer w r i k j → ⊥
unfolding Prefer
asym w empty i j k l m = l
asym w (leaf p s) i j k l m = l
asym w (alt x y) i j k l m = flat_asym (alt_asym (Prefer w x i) (Prefer w y i) (asym w x i) (asym w y i)) l m
asym w (seq x y) i j k l m = flat_asym (seq_asym (Prefer w x i) (Prefer w y) (asym w x i) (asym w y)) l m
asym w (star how x) i j k l m = flat_asym (star_asym (Prefer w x) (asym w x) how i) l m
asym w (field f x) i j k l m = asym w x i j k l m

-- It is an order of matches: a way flattens to a match.
flat_in : {A : Type 0} {In : A → Type 0} {ρ : A → ℕ} {Less : A → A → Type 0} (M : ℕ → Type 0) {j k : ℕ} → ((a : A) → In a → M (ρ a)) → ByLeast In ρ Less j k → M j × M k
flat_in M into (by_least {a = a} {b = b} f g l) = (subst M f.ends (into a f.way), subst M g.ends (into b g.way))

module _ (w : List ℕ) where
  alt_match : (x y : Re) (i : ℕ) (a : ℕ ⊎ ℕ) → AltWay w x y i a → Matches w (alt x y) i (alt_end a)
  alt_match x y i (inl j) m = m_left m
  alt_match x y i (inr j) m = m_right m

  star_match : (how : Manner) (x : Re) (i : ℕ) (a : List ℕ) → StarWay w x i a → Matches w (star how x) i (star_end i a)
  star_match how x i [] m = m_done
  star_match how x i (j ∷ s) (l, m, n) = m_again l m (star_match how x j s n)

  pub matches : (r : Re) (i j k : ℕ) → Prefer w r i j k → Matches w r i j × Matches w r i k
  unfolding Prefer
  matches empty i j k l = absurd l
  matches (leaf p s) i j k l = absurd l
  matches (alt x y) i j k l = flat_in (Matches w (alt x y) i) (alt_match x y i) l
  matches (seq x y) i j k l = flat_in (Matches w (seq x y) i) (λ a m. m_seq m.0 m.1) l
  matches (star how x) i j k l = flat_in (Matches w (star how x) i) (star_match how x i) l
  matches (field f x) i j k l = let (a, b) = matches x i j k l in (m_field a, m_field b)

  module _ (r : Re) (i : ℕ) where
    pub total : {j k : ℕ} → Matches w r i j → Matches w r i k → (j ≡ k) ⊎ (Prefer w r i j k ⊎ Prefer w r i k j)
    total {j} {k} m n =
        let o = in_order w r i in
        either (λ e. inl e) (λ t. inr (either (λ u. inl (o.sorted j k u (o.complete k n))) (λ u. inr (o.sorted k j u (o.complete j m))) t))
        (before_total ℕ_discrete (places w r i) (o.complete j m))

    -- j is preferred to k just if j stands before k in the list.
    pub preferred : (j k : ℕ) → Prefer w r i j k ↔ (Before j k (places w r i) × Mem k (places w r i))
    preferred j k =
        let o = in_order w r i in (
          λ l.
              let (m, n) = matches r i j k l in (
                either (λ e. absurd (asym w r i j j (rw (← e) at l) (rw (← e) at l))) (either (λ t. t) (λ t. absurd (asym w r i j k l (o.sorted k j t (o.complete j m)))))
                    (before_total ℕ_discrete (places w r i) (o.complete j m)),
                o.complete k n,
              ),
          λ (t, m). o.sorted j k t m,
        )

    pub trans : (j k l : ℕ) → Prefer w r i j k → Prefer w r i k l → Prefer w r i j l
    trans j k l p q =
        let (t, m) = (preferred j k).0 p in
        let (u, n) = (preferred k l).0 q in
        (preferred j l).1 (before_trans t u, n)
