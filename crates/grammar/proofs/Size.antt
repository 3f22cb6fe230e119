-- The written-out pattern of a pattern within the limits: its leaves are numbered from 0, at most 64, and it has no more parts than an array has places.
-- Assumes nothing.
use mathlib.Core.Path.{◌≡◌, refl, sym, ap}
use Prim.Native.Nat.{ℕ, zero, suc, ◌+◌, ◌*◌, ◌-◌, ◌≤◌, ◌<◌, max}
use mathlib.Core.Bool.{Bool, true, false, ◌&&◌, cond}
use mathlib.Core.List.{List, [], ◌∷◌, ◌++◌}
use native.Mathlib.Omega.{arith}
use native.Mathlib.Nat.{zero-mul, suc-mul, one-mul, mul-add, add-mul, mul_assoc, mul-le-mul_left, mul-le-mul_right}
use lib.ListN.{replicate}
use lib.Dec.{leb, leb→le, ltb, ltb→lt, T}
use Rattle.theory.specs.Pattern.{Manner, eager, lazy, Re, empty, leaf, seq, alt, star, field, opt, count, Numbered, number}
use Rattle.theory.proofs.Numbering.{number_count, number_right}
use Rattle.grammar.specs.Grammar.{Name, Digits, digits_value, Repeat, once, many, more, maybe, exactly, at_least, between, lazily, Alternation, last, or, Sequence, nothing, part, Atom, byte, dot, class, group, WfAlternation, WfSequence, WfAtom, WfRepeat}
use Rattle.grammar.specs.Limits.{depth, depth_sequence, depth_atom, times, repeated, weight, weights, weight_atom, heaviest, Reads}
use Rattle.grammar.specs.Sets.{in_named}
use Rattle.grammar.specs.Brackets.{brackets_within, brackets_atom, max_fields}
use Rattle.grammar.specs.Code.Tokens.{nodes, max_parts}
use Rattle.grammar.specs.WriteOut.{chain, optional, repeat_by, bracketed, shape, parts, shape_atom, write_out}

pub write_out_numbered : (loaded : List ℕ) (t : Alternation) → Numbered 0 (write_out loaded t)
unfolding write_out
write_out_numbered loaded t = number_right 0 (shape (in_named loaded) t 0)

pub number_nodes : (n : ℕ) (r : Re) → nodes (number n r) ≡ nodes r
unfolding number nodes
number_nodes n empty = refl
number_nodes n (leaf p s) = refl
number_nodes n (seq x y) = rw (number_nodes n x, number_nodes (n + count x) y)
number_nodes n (alt x y) = rw (number_nodes n x, number_nodes (n + count x) y)
number_nodes n (star how x) = rw (number_nodes n x)
number_nodes n (field f x) = rw (number_nodes n x)

-- A measure that a sequence adds up: the leaves (with e = 0), and the nodes with one more for each part.
leaves : List Re → ℕ
leaves [] = 0
leaves (x ∷ l) = count x + leaves l

count_chain : (x : Re) (l : List Re) → count (chain (x ∷ l)) ≡ leaves (x ∷ l)
unfolding chain count leaves
count_chain x [] = omega arith
count_chain x (y ∷ l) = rw (count_chain y l) refl

count_chain_le : (l : List Re) → count (chain l) ≡ leaves l
unfolding chain count leaves
count_chain_le [] = refl
count_chain_le (x ∷ l) = count_chain x l

leaves_append : (l m : List Re) → leaves (l ++ m) ≡ leaves l + leaves m
unfolding leaves
leaves_append [] m = omega arith
leaves_append (x ∷ l) m = omega (arith, leaves_append l m)

leaves_copies : (n : ℕ) (x : Re) → leaves (replicate n x) ≡ n * count x
unfolding leaves
leaves_copies zero x = sym (zero-mul (count x))
leaves_copies (suc n) x = omega (arith, leaves_copies n x, suc-mul n (count x))

count_opt : (how : Manner) (x : Re) → count (opt how x) ≡ count x
unfolding count
count_opt eager x = omega arith
count_opt lazy x = omega arith

leaves_optional : (how : Manner) (k : ℕ) (x : Re) → leaves (optional how k x) ≡ k * count x
unfolding leaves optional count
leaves_optional how zero x = sym (zero-mul (count x))
leaves_optional how (suc k) x = omega (arith, count_opt how (chain (x ∷ optional how k x)), count_chain x (optional how k x), leaves_optional how k x, suc-mul k (count x))

times_le : (n c w : ℕ) → c ≤ w → n * c ≤ times n w
times_le zero c w h = omega (arith, zero-mul c)
times_le (suc n) c w h = mul-le-mul_left (suc n) h

both : (a b : Bool) → a && b ≡ true → T a
both true b e = tt
both false b e = let z : ◌≡◌ {A = ℕ} 0 1 = cc in absurd (omega arith)

pub count_sum : (m n : Digits) → WfRepeat (between m n) → digits_value m + (digits_value n - digits_value m) ≡ digits_value n
count_sum m n v = omega (arith, leb→le (digits_value m) (digits_value n) (both (leb (digits_value m) (digits_value n)) (leb (digits_value n) 63) v.2))

count_repeat : (how : Manner) (r : Repeat) (x : Re) (w : ℕ) → WfRepeat r → count x ≤ w → count (repeat_by how r x) ≤ repeated r w
unfolding count leaves
count_repeat how once x w v h = h
count_repeat how many x w v h = h
count_repeat how more x w v h = omega (arith, count_chain x (star how x ∷ []))
count_repeat how maybe x w v h = omega (arith, count_opt how x)
count_repeat how (exactly m) x w v h = rw (count_chain_le (replicate (digits_value m) x), leaves_copies (digits_value m) x) (times_le (digits_value m) (count x) w h)
count_repeat how (at_least m) x w v h =
    rw (count_chain_le (replicate (digits_value m) x ++ (star how x ∷ [])), leaves_append (replicate (digits_value m) x) (star how x ∷ []), leaves_copies (digits_value m) x)
    (omega (arith, mul-le-mul_left (suc (digits_value m)) h, suc-mul (digits_value m) (count x)))
count_repeat how (between m n) x w v h =
    rw (count_chain_le (replicate (digits_value m) x ++ optional how (digits_value n - digits_value m) x), leaves_append (replicate (digits_value m) x) (optional how (digits_value n - digits_value m) x), leaves_copies (digits_value m) x, leaves_optional how (digits_value n - digits_value m) x)
    (omega (arith, times_le (digits_value n) (count x) w h, add-mul (digits_value m) (digits_value n - digits_value m) (count x), ap (λ k. k * count x) (count_sum m n v)))
count_repeat how (lazily r) x w v h = count_repeat lazy r x w v.0 h

weight_pos : (t : Alternation) → 1 ≤ weight t
unfolding weight
weight_pos (last q) = omega arith
weight_pos (or q t) = omega arith

-- A measure that fields do not change is not changed by brackets.
pub measure_bracketed : {A : Type 0} (m : Re → A) → ((f : ℕ) (x : Re) → m (field f x) ≡ m x) → (n : ℕ) (x : Re) → m (bracketed n x) ≡ m x
unfolding bracketed
measure_bracketed m through n x = go (ltb n max_fields)
  where
    go : (c : Bool) → m (cond c (field (suc n) x) x) ≡ m x
    go true = through (suc n) x
    go false = refl

count_bracketed : (n : ℕ) (x : Re) → count (bracketed n x) ≡ count x
unfolding count
count_bracketed = measure_bracketed count (λ f x. refl)

module _ (sets : Name → ℕ → Bool) where
  mutual
    unfolding count leaves shape weight

    count_alternation : (t : Alternation) (n : ℕ) → WfAlternation t → count (shape sets t n) ≤ weight t
    count_alternation (last q) n w = omega (arith, count_chain_le (parts sets q n), count_parts q n w)
    count_alternation (or q t) n w = omega (arith, count_chain_le (parts sets q n), count_parts q n w.0, count_alternation t (n + brackets_within q) w.1)

    count_parts : (q : Sequence) (n : ℕ) → WfSequence q → leaves (parts sets q n) ≤ weights q
    count_parts nothing n w = omega arith
    count_parts (part a r q) n w = omega (arith, count_repeat eager r (shape_atom sets a n) (weight_atom a) w.1 (count_atom a n w.0), count_parts q (n + brackets_atom a) w.2)

    count_atom : (a : Atom) (n : ℕ) → WfAtom a → count (shape_atom sets a n) ≤ weight_atom a
    count_atom (byte x) n w = omega arith
    count_atom dot n w = omega arith
    count_atom (class c x l) n w = omega arith
    count_atom (group t) n w = omega (arith, count_bracketed n (shape sets t (suc n)), count_alternation t (suc n) w)

pub weight_heaviest : (t : Alternation) → weight t ≤ heaviest t
unfolding heaviest
weight_heaviest (last q) = omega arith
weight_heaviest (or q t) = omega arith

pub leaves_64 : (loaded p : List ℕ) (t : Alternation) → Reads p t → count (write_out loaded t) ≤ 64
unfolding write_out
leaves_64 loaded p t h = rw (number_count 0 (shape (in_named loaded) t 0)) (omega (arith, count_alternation (in_named loaded) t 0 h.formed, weight_heaviest t, h.light))

-- Nodes. One more than the nodes of a part is what a sequence adds up.
sizes : List Re → ℕ
sizes [] = 0
sizes (x ∷ l) = suc (nodes x) + sizes l

nodes_chain : (x : Re) (l : List Re) → suc (nodes (chain (x ∷ l))) ≡ sizes (x ∷ l)
unfolding chain nodes sizes
nodes_chain x [] = omega arith
nodes_chain x (y ∷ l) = omega (arith, nodes_chain y l)

nodes_chain_le : (l : List Re) → suc (nodes (chain l)) ≤ max 2 (sizes l)
unfolding chain nodes sizes
nodes_chain_le [] = omega arith
nodes_chain_le (x ∷ l) = omega (arith, nodes_chain x l)

sizes_append : (l m : List Re) → sizes (l ++ m) ≡ sizes l + sizes m
unfolding sizes
sizes_append [] m = omega arith
sizes_append (x ∷ l) m = omega (arith, sizes_append l m)

sizes_copies : (n : ℕ) (x : Re) → sizes (replicate n x) ≡ n * suc (nodes x)
unfolding sizes
sizes_copies zero x = sym (zero-mul (suc (nodes x)))
sizes_copies (suc n) x = omega (arith, sizes_copies n x, suc-mul n (suc (nodes x)))

nodes_opt : (how : Manner) (x : Re) → nodes (opt how x) ≡ nodes x + 2
unfolding nodes
nodes_opt eager x = omega arith
nodes_opt lazy x = omega arith

sizes_optional : (how : Manner) (k : ℕ) (x : Re) → sizes (optional how k x) ≡ k * (suc (nodes x) + 2)
unfolding sizes optional nodes
sizes_optional how zero x = sym (zero-mul (suc (nodes x) + 2))
sizes_optional how (suc k) x = omega (arith, nodes_opt how (chain (x ∷ optional how k x)), nodes_chain x (optional how k x), sizes_optional how k x, suc-mul k (suc (nodes x) + 2))

-- n copies against their weight k times.
copies_le : (n c w k : ℕ) → c ≤ w * k → 2 ≤ w * k → 2 ≤ k → max 2 (n * c) ≤ times n w * k
copies_le zero c w k h d e = omega (arith, zero-mul c, one-mul k)
copies_le (suc n) c w k h d e = omega (arith, mul_assoc (suc n) w k, mul-le-mul_left (suc n) h, suc-mul n (w * k))

nodes_repeat : (how : Manner) (r : Repeat) (x : Re) (w k : ℕ) → WfRepeat r → suc (nodes x) + 2 ≤ w * k → 2 ≤ k → suc (nodes (repeat_by how r x)) ≤ repeated r w * k
unfolding nodes sizes
nodes_repeat how once x w k v h e = omega arith
nodes_repeat how many x w k v h e = omega arith
nodes_repeat how more x w k v h e = omega (arith, nodes_chain x (star how x ∷ []), mul_assoc 2 w k)
nodes_repeat how maybe x w k v h e = omega (arith, nodes_opt how x)
nodes_repeat how (exactly m) x w k v h e =
    let d : suc (nodes x) ≤ w * k = omega arith in
    omega (arith, nodes_chain_le (replicate (digits_value m) x), sizes_copies (digits_value m) x, copies_le (digits_value m) (suc (nodes x)) w k d (omega arith) e)
nodes_repeat how (at_least m) x w k v h e =
    let d : suc (nodes x) ≤ w * k = omega arith in
    omega (
      arith,
      nodes_chain_le (replicate (digits_value m) x ++ (star how x ∷ [])),
      sizes_append (replicate (digits_value m) x) (star how x ∷ []),
      sizes_copies (digits_value m) x,
      mul-le-mul_left (digits_value m) d,
      mul_assoc (suc (digits_value m)) w k,
      suc-mul (digits_value m) (w * k),
    )
nodes_repeat how (between m n) x w k v h e =
    let d : suc (nodes x) ≤ suc (nodes x) + 2 = omega arith in
    omega (
      arith,
      nodes_chain_le (replicate (digits_value m) x ++ optional how (digits_value n - digits_value m) x),
      sizes_append (replicate (digits_value m) x) (optional how (digits_value n - digits_value m) x),
      sizes_copies (digits_value m) x,
      sizes_optional how (digits_value n - digits_value m) x,
      mul-le-mul_left (digits_value m) d,
      add-mul (digits_value m) (digits_value n - digits_value m) (suc (nodes x) + 2),
      ap (λ j. j * (suc (nodes x) + 2)) (count_sum m n v),
      copies_le (digits_value n) (suc (nodes x) + 2) w k h (omega arith) e,
    )
nodes_repeat how (lazily r) x w k v h e = nodes_repeat lazy r x w k v.0 h e

at_least_lem : (w k : ℕ) → max k (w * k) ≤ max 1 w * k
at_least_lem w k =
    let a : 1 ≤ max 1 w = omega arith in
    let b : w ≤ max 1 w = omega arith in
    omega (arith, one-mul k, mul-le-mul_right k a, mul-le-mul_right k b)

-- What a unit of weight may have of parts, d brackets deep, after n brackets: two for each bracket around it that has a repeat, and one for each that is a field.
abbrev share : ℕ → ℕ → ℕ
share d n = 2 * d + (max_fields - n) + 4

heavy : (p : List ℕ) (t : Alternation) → Reads p t → weight t ≤ 64
heavy p t h = omega (arith, weight_heaviest t, h.light)

-- A bracket that is a field takes one from the share of its parts, and a further part that comes after more brackets has no larger share.
fewer : (w d n k : ℕ) → w * share d (n + k) ≤ w * share d n
fewer w d n k = mul-le-mul_left w (omega arith)

nodes_bracketed : (n w d : ℕ) (x : Re) → 1 ≤ w → suc (nodes x) ≤ w * share d (suc n) → suc (nodes (bracketed n x)) + 2 ≤ w * share (suc d) n
unfolding bracketed nodes
nodes_bracketed n w d x h l = go (ltb n max_fields) (λ t. ltb→lt n max_fields t)
  where
    go : (c : Bool) → (T c → n < max_fields) → suc (nodes (cond c (field (suc n) x) x)) + 2 ≤ w * share (suc d) n
    go true k =
        let g = k tt in
        let e : share (suc d) n ≡ share d (suc n) + 3 = omega arith in
        omega (arith, ap (λ j. w * j) e, mul-add w (share d (suc n)) 3)
    go false k =
        let e : share d (suc n) + 2 ≤ share (suc d) n = omega arith in
        omega (arith, mul-le-mul_left w e, mul-add w (share d (suc n)) 2)

module _ (sets : Name → ℕ → Bool) where
  mutual
    unfolding nodes sizes shape weight

    nodes_alternation : (t : Alternation) (d n : ℕ) → WfAlternation t → depth t ≤ d → suc (nodes (shape sets t n)) ≤ weight t * share d n
    nodes_alternation (last q) d n w h =
        omega (arith, nodes_chain_le (parts sets q n), nodes_parts q d n w h, at_least_lem (weights q) (share d n))
    nodes_alternation (or q t) d n w h =
        omega (
          arith,
          nodes_chain_le (parts sets q n),
          nodes_parts q d n w.0 (omega arith),
          at_least_lem (weights q) (share d n),
          nodes_alternation t d (n + brackets_within q) w.1 (omega arith),
          fewer (weight t) d n (brackets_within q),
          add-mul (max 1 (weights q)) (weight t) (share d n),
        )

    nodes_parts : (q : Sequence) (d n : ℕ) → WfSequence q → depth_sequence q ≤ d → sizes (parts sets q n) ≤ weights q * share d n
    nodes_parts nothing d n w h = omega arith
    nodes_parts (part a r q) d n w h =
        omega (
          arith,
          nodes_repeat eager r (shape_atom sets a n) (weight_atom a) (share d n) w.1 (nodes_atom a d n w.0 (omega arith)) (omega arith),
          nodes_parts q d (n + brackets_atom a) w.2 (omega arith),
          fewer (weights q) d n (brackets_atom a),
          add-mul (repeated r (weight_atom a)) (weights q) (share d n),
        )

    nodes_atom : (a : Atom) (d n : ℕ) → WfAtom a → depth_atom a ≤ d → suc (nodes (shape_atom sets a n)) + 2 ≤ weight_atom a * share d n
    nodes_atom (byte x) d n w h = omega (arith, one-mul (share d n))
    nodes_atom dot d n w h = omega (arith, one-mul (share d n))
    nodes_atom (class c x l) d n w h = omega (arith, one-mul (share d n))
    nodes_atom (group t) zero n w h = absurd (omega arith)
    nodes_atom (group t) (suc d) n w h = nodes_bracketed n (weight t) d (shape sets t (suc n)) (weight_pos t) (nodes_alternation t d (suc n) w (omega arith))

pub nodes_within : (loaded p : List ℕ) (t : Alternation) → Reads p t → nodes (write_out loaded t) ≤ max_parts
unfolding write_out
nodes_within loaded p t h =
    rw (number_nodes 0 (shape (in_named loaded) t 0))
    (omega (arith, nodes_alternation (in_named loaded) t 16 0 h.formed h.shallow, mul-le-mul_right 44 (heavy p t h)))
