-- Both lengths are reached, if each leaf's set holds some byte: by lines that are matched as a whole, and are their own POSIX span.
-- Assumes nothing.
use mathlib.Core.Path.{◌≡◌, refl, ap, ap₂, ◌∙◌, subst}
use Prim.Native.Nat.{ℕ, zero, suc, ◌+◌, ◌≤◌, ◌<◌, max}
use mathlib.Core.Bool.{Bool}
use mathlib.Core.List.{List, [], ◌∷◌, ◌++◌, append-nil}
use native.Mathlib.Omega.{arith}
use native.Mathlib.Nat.{add-zero, zero-add, add-suc}
use native.Mathlib.Decide.{dec_le}
use lib.ListN.{length, length-append, get_or-append}
use lib.Seq.{get_or-append-add}
use Rattle.theory.specs.Pattern.{Manner, Re, empty, leaf, seq, alt, star, field}
use Rattle.theory.specs.Matching.{Matches, m_empty, m_leaf, m_seq, m_left, m_right, m_done, m_again, m_field}
use Rattle.theory.specs.Spans.{Span, nowhere, span, greedy, posix}
use Rattle.theory.proofs.Lines.{below_append}
use Rattle.theory.proofs.Outcomes.{some_in}
use Rattle.theory.proofs.Equations.{outcomes_all}
use Rattle.theory.proofs.Matching.{match_ends}
use Rattle.theory.proofs.Demand.{greedy_takes, posix_takes, greedy_none, one_start}
use Rattle.lengths.specs.Lengths.{Longest, limit, no_limit, together, endless, in_row, one_of, or_more}
use Rattle.lengths.specs.Written.{extent, any_byte, Filled, Matched, Reached}
use Rattle.lengths.proofs.Bounds.{match_least}

-- A match stays in a line that is longer on both sides.
inside : (u t : List ℕ) {v : List ℕ} {r : Re} {i j : ℕ} → Matches v r i j → Matches (u ++ (v ++ t)) r (length u + i) (length u + j)
inside u t m_empty = m_empty
inside u t {v} (m_leaf {p = p} {s = s} {i = i} h c) =
    rw add-suc
    (m_leaf {p = p} {s = s} {i = length u + i} (omega (arith, length-append u (v ++ t), length-append v t))
    (rw (get_or-append-add u (v ++ t) i 0, get_or-append v t 0 i h) c))
inside u t (m_seq a b) = m_seq (inside u t a) (inside u t b)
inside u t (m_left a) = m_left (inside u t a)
inside u t (m_right a) = m_right (inside u t a)
inside u t m_done = m_done
inside u t (m_again {i = i} {k = k} h a b) = m_again {i = length u + i} {k = length u + k} (omega arith) (inside u t a) (inside u t b)
inside u t (m_field a) = m_field (inside u t a)

before : {u : List ℕ} {r : Re} (v : List ℕ) → Matches u r 0 (length u) → Matches (u ++ v) r 0 (length u)
before {u} v m = rw (zero-add (length u)) at (inside [] v m)

after : (u : List ℕ) {v : List ℕ} {r : Re} → Matches v r 0 (length v) → Matches (u ++ v) r (length u) (length (u ++ v))
after u m = rw length-append (rw (append-nil, add-zero) at (inside u [] m))

module _ {r : Re} {P Q : ℕ → Type 0} where
  sized : ((n : ℕ) → P n → Q n) → Matched r P → Matched r Q
  sized f m = record { line = m.line; bytes = m.bytes; whole = m.whole; size = f (length m.line) m.size }

module _ {x y : Re} {P : ℕ → Type 0} where
  left : Matched x P → Matched (alt x y) P
  left m = record { line = m.line; bytes = m.bytes; whole = m_left m.whole; size = m.size }

  right : Matched y P → Matched (alt x y) P
  right m = record { line = m.line; bytes = m.bytes; whole = m_right m.whole; size = m.size }

bracket : {f : ℕ} {x : Re} {P : ℕ → Type 0} → Matched x P → Matched (field f x) P
bracket m = record { line = m.line; bytes = m.bytes; whole = m_field m.whole; size = m.size }

joined : {x y : Re} {P Q R : ℕ → Type 0} → ((a b : ℕ) → P a → Q b → R (a + b)) → Matched x P → Matched y Q → Matched (seq x y) R
joined f m n =
    record {
      line = m.line ++ n.line;
      bytes = below_append 256 m.line n.line m.bytes n.bytes;
      whole = m_seq (before n.line m.whole) (after m.line n.whole);
      size = rw length-append (f (length m.line) (length n.line) m.size n.size);
    }

no_byte : {P : ℕ → Type 0} → P 0 → Matched empty P
no_byte h = record { line = []; bytes = tt; whole = m_empty; size = h }

no_turn : {how : Manner} {x : Re} {P : ℕ → Type 0} → P 0 → Matched (star how x) P
no_turn h = record { line = []; bytes = tt; whole = m_done; size = h }

one_byte : {p : ℕ} {s : ℕ → Bool} {P : ℕ → Type 0} → Filled (leaf p s) → P 1 → Matched (leaf p s) P
one_byte c h = record { line = c.0 ∷ []; bytes = (c.1, tt); whole = m_leaf {i = 0} (omega arith) c.2; size = h }

turns : {how : Manner} {x : Re} → Matched x (λ n. 0 < n) → (k : ℕ) → Matched (star how x) (λ n. k ≤ n)
turns m zero = no_turn (omega arith)
turns {how} {x} m (suc k) =
    let c = turns {how = how} {x = x} m k in
    let h = m.size in
    let g = c.size in
    record {
      line = m.line ++ c.line;
      bytes = below_append 256 m.line c.line m.bytes c.bytes;
      whole = m_again h (before c.line m.whole) (after m.line c.whole);
      size = omega (arith, length-append m.line c.line);
    }

-- Some line has a match of the least length,
pub least_reached : (r : Re) → Filled r → Matched r (λ n. n ≡ (extent r).least)
unfolding extent
least_reached empty f = no_byte refl
least_reached (leaf p s) f = one_byte f refl
least_reached (seq x y) f = joined (λ a b e d. omega arith) (least_reached x f.0) (least_reached y f.1)
least_reached (alt x y) f =
    elim (dec_le (extent x).least (extent y).least) [
      | yes h ↦ left (sized (λ n e. omega arith) (least_reached x f.0))
      | no h ↦ right (sized (λ n e. omega arith) (least_reached y f.1))
    ]
least_reached (star how x) f = no_turn (omega arith)
least_reached (field g x) f = bracket (least_reached x f)

-- and one the greatest, or there are longer matches than any number.
module _ (x y : Re) where
  reached_plus : (g h : Longest) → Reached g x → Reached h y → Matched x (λ n. Unit {0}) → Matched y (λ n. Unit {0}) → Reached (together ◌+◌ g h) (seq x y)
  reached_plus no_limit h a b m n = λ k. joined (λ c d p q. omega arith) (a k) n
  reached_plus (limit g) no_limit a b m n = λ k. joined (λ c d p q. omega arith) m (b k)
  reached_plus (limit g) (limit h) a b m n = joined (λ c d p q. omega arith) a b

  reached_greater : (g h : Longest) → Reached g x → Reached h y → Reached (together max g h) (alt x y)
  reached_greater no_limit h a b = λ k. left (a k)
  reached_greater (limit g) no_limit a b = λ k. right (b k)
  reached_greater (limit g) (limit h) a b =
      elim (dec_le g h) [ yes c ↦ right (sized (λ n e. omega arith) b) | no c ↦ left (sized (λ n e. omega arith) a) ]

reached_endless : (how : Manner) (x : Re) (g : Longest) → Reached g x → Reached (endless g) (star how x)
reached_endless how x no_limit a = λ k. turns (a 0) (suc k)
reached_endless how x (limit zero) a = no_turn refl
reached_endless how x (limit (suc n)) a = λ k. turns (sized (λ n e. omega arith) a) (suc k)

reached_bracket : (f : ℕ) (x : Re) (g : Longest) → Reached g x → Reached g (field f x)
reached_bracket f x no_limit a = λ k. bracket (a k)
reached_bracket f x (limit n) a = bracket a

pub greatest_reached : (r : Re) → Filled r → Reached (extent r).greatest r
unfolding extent
greatest_reached empty f = no_byte refl
greatest_reached (leaf p s) f = one_byte f refl
greatest_reached (seq x y) f =
    reached_plus x y (extent x).greatest (extent y).greatest (greatest_reached x f.0) (greatest_reached y f.1) (sized (λ n e. tt) (least_reached x f.0)) (sized (λ n e. tt) (least_reached y f.1))
greatest_reached (alt x y) f = reached_greater x y (extent x).greatest (extent y).greatest (greatest_reached x f.0) (greatest_reached y f.1)
greatest_reached (star how x) f = reached_endless how x (extent x).greatest (greatest_reached x f)
greatest_reached (field g x) f = reached_bracket g x (extent x).greatest (greatest_reached x f)

-- With every byte in each leaf's set, both lengths are the same, and each leaf's set holds some byte.
any_extent : (r : Re) → extent (any_byte r) ≡ extent r
unfolding any_byte extent
any_extent empty = refl
any_extent (leaf p s) = refl
any_extent (seq x y) = ap₂ in_row (any_extent x) (any_extent y)
any_extent (alt x y) = ap₂ one_of (any_extent x) (any_extent y)
any_extent (star how x) = ap (or_more 0) (any_extent x)
any_extent (field f x) = any_extent x

any_filled : (r : Re) → Filled (any_byte r)
unfolding any_byte
any_filled empty = tt
any_filled (leaf p s) = (0, omega arith, tt)
any_filled (seq x y) = (any_filled x, any_filled y)
any_filled (alt x y) = (any_filled x, any_filled y)
any_filled (star how x) = any_filled x
any_filled (field f x) = any_filled x

-- So the least and the greatest length are those that the pattern could match, whatever its sets are.
pub least_could : (r : Re) → Matched (any_byte r) (λ n. n ≡ (extent r).least)
least_could r = sized (λ n e. e ∙ ap (λ x. x.least) (any_extent r)) (least_reached (any_byte r) (any_filled r))

pub greatest_could : (r : Re) → Reached (extent r).greatest (any_byte r)
greatest_could r = subst (λ x. Reached x.greatest (any_byte r)) (any_extent r) (greatest_reached (any_byte r) (any_filled r))

-- A line that is matched as a whole is its own POSIX span; of the least length, its greedy span too.
module _ (r : Re) (w : List ℕ) (m : Matches w r 0 (length w)) where
  within : (j : ℕ) → Matches w r 0 j → j ≤ length w
  within j n = let b = some_in (outcomes_all r w 0) j (match_ends w n) in omega arith

  pub posix_whole : posix r w ≡ span 0 (length w)
  posix_whole =
      (posix_takes r w 0 (length w)).1
      record {
        start = record { in_line = omega arith; matches = (length w, m); leftmost = λ k j h n. omega arith };
        end = m;
        greatest = within;
      }

  pub greedy_whole : length w ≡ (extent r).least → greedy r w ≡ span 0 (length w)
  greedy_whole e = go (greedy r w) refl
    where
      go : (s : Span) → greedy r w ≡ s → s ≡ span 0 (length w)
      go nowhere q = absurd ((greedy_none r w).0 q 0 (length w) (omega arith) m)
      go (span i j) q =
          let c : i ≡ 0 = one_start r w q posix_whole in
          let a = ((greedy_takes r w i j).0 q).end in
          let b = match_least a in
          let d = within j (rw c at a) in
          let f : j ≡ length w = omega arith in
          cc
