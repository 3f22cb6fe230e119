-- Arrays over the tokens of a pattern: where the kinds are the tokens', the sizes are right and the masks are the leaves' sets, they decode to it.
-- Assumes nothing.
use mathlib.Core.Path.{◌≡◌, refl, ap, ◌∙◌}
use mathlib.Core.Bool.{true, ◌&&◌}
use mathlib.Core.List.{List, ◌++◌}
use Prim.Native.Nat.{ℕ, zero, suc, ◌+◌, ◌-◌, ◌<◌, ◌≤◌}
use native.Mathlib.Omega.{arith}
use lib.ListN.{length, get_or, drop, length-append}
use lib.Dec.{ltb}
use borrow.Author.Tests.{lt-ltb, le-ltb, le-leb, lt-leb, ne_eqb}
use Rattle.theory.specs.Pattern.{eager, lazy, Re, empty, leaf, seq, alt, star, field}
use Rattle.grammar.specs.Code.Tokens.{nodes, Token, nil, both, or, many, byte, tokens}
use Rattle.grammar.specs.Code.Tokens
use Rattle.grammar.specs.Code.Codes.{PartKind, anEmpty, aSequence, anAlternation, a_star, a_field, aLeaf, part_kind, first_field, first_leaf, leaf_holds}
use Rattle.grammar.proofs.Sets.{bytes_same}
use Rattle.grammar.proofs.Codes.{kind_star, kind_field, kind_leaf, Kinded, is_empty, is_sequence, is_alternation, is_star, is_field, is_leaf, kinded}
use Rattle.grammar.proofs.Tokens.{nodes_pos, At, at, at_token, head, seq_right, seq_left, alt_right, alt_left, star_part, field_part, tokens_length}
use Rattle.words.specs.Sets.{has_bit}
use Rattle.arrays.specs.Decoded.{middle, part_of, part}
use Rattle.arrays.specs.Passes.{left_size, size_of, Sized, Masked}

-- The token of a kind.
abbrev pub token_at : List ℕ → List ℕ → List ℕ → PartKind → Token
token_at loaded s places anEmpty = nil
token_at loaded s places aSequence = both
token_at loaded s places anAlternation = or
token_at loaded s places (a_star how) = many how
token_at loaded s places (a_field f) = Tokens.field f
token_at loaded s places (aLeaf p) = byte p (λ b. ltb b 256 && leaf_holds loaded (drop (get_or places p 0) s) b)

abbrev pub kind_token : List ℕ → List ℕ → List ℕ → ℕ → Token
kind_token loaded s places k = token_at loaded s places (part_kind k)

-- A part by its last token.
abbrev token_part : Token → Re → Re → Re → Re
token_part nil whole left right = empty
token_part both whole left right = seq left right
token_part or whole left right = alt left right
token_part (many how) whole left right = star how whole
token_part (Tokens.field f) whole left right = field f whole
token_part (byte p s) whole left right = leaf p s

-- Its size.
abbrev token_size : Token → ℕ → ℕ → ℕ
token_size nil a b = 1
token_size both a b = a + b + 1
token_size or a b = a + b + 1
token_size (many how) a b = a + 1
token_size (Tokens.field f) a b = a + 1
token_size (byte p s) a b = 1

size_token : (loaded s places : List ℕ) (k a b : ℕ) → size_of k a b ≡ token_size (kind_token loaded s places k) a b
size_token loaded s places k a b = go (kinded k)
  where
    go : {k : ℕ} → Kinded k → size_of k a b ≡ token_size (kind_token loaded s places k) a b
    go is_empty = refl
    go is_sequence = refl
    go is_alternation = refl
    go (is_star eager) = refl
    go (is_star lazy) = refl
    go (is_field n h) =
        rw (kind_field n h, ne_eqb (first_field + n) 0 (λ e. omega arith), lt-leb first_leaf (first_field + n) (omega arith), le-leb 3 (first_field + n) (omega arith))
    go (is_leaf q) = rw (kind_leaf q, ne_eqb (first_leaf + q) 0 (λ e. omega arith), le-leb first_leaf (first_leaf + q) (omega arith))

part_token : (loaded s places masks : List ℕ) (n k : ℕ) (whole left right : Re) → Masked loaded s places (λ p. ltb p n) masks → n ≤ 64 → k < first_leaf + n
    → part_of masks (part_kind k) whole left right ≡ token_part (kind_token loaded s places k) whole left right
part_token loaded s places masks n k whole left right h m b = go (kinded k) b
  where
    go : {k : ℕ} → Kinded k → k < first_leaf + n → part_of masks (part_kind k) whole left right ≡ token_part (kind_token loaded s places k) whole left right
    go is_empty b = refl
    go is_sequence b = refl
    go is_alternation b = refl
    go (is_star how) b = rw (kind_star how)
    go (is_field i l) b = rw (kind_field i l)
    go (is_leaf p) b =
        let t : ltb p n ≡ true = lt-ltb p n (omega arith) in
        rw (kind_leaf p, lt-ltb p 64 (omega arith))
        (ap (leaf p) (bytes_same (λ c. has_bit (get_or masks c 0) p) (λ c. leaf_holds loaded (drop (get_or places p 0) s) c) (λ c l. h c p l ∙ rw t)))

-- A part that ends at a place of the list stands within it.
at_fits : {l : List Token} {n : ℕ} {r : Re} → At l n r → (nodes r ≤ suc n) × (n < length l)
at_fits {l} {n} {r} (at a z e h) =
    (omega arith, omega (arith, ap length e, length-append a (tokens r ++ z), length-append (tokens r) z, tokens_length r))

one_more : (n m : ℕ) → n - m - 1 ≡ n - 1 - m
one_more n m = omega arith

-- The arrays, over the tokens l.
module _
    (l : List Token) (loaded s places kinds sizes masks : List ℕ) (n leaves : ℕ) (long : length l ≡ n) (most : leaves ≤ 64)
    (kinds-are : (i : ℕ) → i < n → kind_token loaded s places (get_or kinds i 0) ≡ get_or l i nil) (below : (i : ℕ) → i < n → get_or kinds i 0 < first_leaf + leaves)
    (sized : Sized kinds n sizes) (masked : Masked loaded s places (λ p. ltb p leaves) masks) where
  kind_head : (i : ℕ) (r : Re) → At l i r → kind_token loaded s places (get_or kinds i 0) ≡ head r
  kind_head i r w = kinds-are i (omega (arith, (at_fits w).1)) ∙ at_token l i r w

  size_head : (i : ℕ) (r : Re) → At l i r → 0 < i → get_or sizes i 0 ≡ token_size (head r) (get_or sizes (i - 1) 0) (left_size sizes (i - 1))
  size_head zero r w h = absurd (omega arith)
  size_head (suc m) r w h =
      let e : suc m - 1 ≡ m = omega arith in
      rw e
      (sized (suc m) (omega (arith, (at_fits w).1)) ∙ size_token loaded s places (get_or kinds (suc m) 0) (get_or sizes m 0) (left_size sizes m)
      ∙ ap (λ t. token_size t (get_or sizes m 0) (left_size sizes m)) (kind_head (suc m) r w))

  single_size : (i : ℕ) (r : Re) → At l i r → ((a b : ℕ) → token_size (head r) a b ≡ 1) → get_or sizes i 0 ≡ 1
  single_size zero r w h = sized 0 (omega (arith, (at_fits w).1))
  single_size (suc m) r w h = size_head (suc m) r w (omega arith) ∙ h _ _

  pair_size : (m : ℕ) (x y : Re) → get_or sizes m 0 ≡ nodes y → get_or sizes (m - nodes y) 0 ≡ nodes x → nodes y ≤ m
      → get_or sizes m 0 + left_size sizes m + 1 ≡ suc (nodes x + nodes y)
  pair_size m x y e f h = rw (e, le-leb (nodes y) m h, f) (omega arith)

  sizes_right : (r : Re) (i : ℕ) → At l i r → get_or sizes i 0 ≡ nodes r
  unfolding nodes
  sizes_right empty i w = single_size i empty w (λ a b. refl)
  sizes_right (leaf p t) i w = single_size i (leaf p t) w (λ a b. refl)
  sizes_right (seq x y) i w =
      size_head i (seq x y) w (omega (arith, (at_fits w).0, nodes_pos x))
      ∙ pair_size (i - 1) x y (sizes_right y (i - 1) (seq_right l i x y w)) (sizes_right x (i - 1 - nodes y) (seq_left l i x y w))
      (omega (arith, (at_fits w).0, nodes_pos x))
  sizes_right (alt x y) i w =
      size_head i (alt x y) w (omega (arith, (at_fits w).0, nodes_pos x))
      ∙ pair_size (i - 1) x y (sizes_right y (i - 1) (alt_right l i x y w)) (sizes_right x (i - 1 - nodes y) (alt_left l i x y w))
      (omega (arith, (at_fits w).0, nodes_pos x))
  sizes_right (star how x) i w =
      size_head i (star how x) w (omega (arith, (at_fits w).0, nodes_pos x)) ∙ omega (arith, sizes_right x (i - 1) (star_part l i how x w))
  sizes_right (field g x) i w =
      size_head i (field g x) w (omega (arith, (at_fits w).0, nodes_pos x)) ∙ omega (arith, sizes_right x (i - 1) (field_part l i g x w))

  -- The part from `low` on, by its last token.
  part_head : (r : Re) (f low end : ℕ) → At l (end - 1) r → low + nodes r ≡ end
      → part (suc f) kinds sizes masks low end ≡ token_part (head r) (part f kinds sizes masks low (end - 1))
      (part f kinds sizes masks low (middle sizes low (end - 1))) (part f kinds sizes masks (middle sizes low (end - 1)) (end - 1))
  unfolding part
  part_head r f low zero w h = absurd (omega (arith, nodes_pos r))
  part_head r f low (suc last) w h =
      let e : suc last - 1 ≡ last = omega arith in
      let v : At l last r = rw e at w in
      rw (e, le-ltb last low (omega (arith, nodes_pos r)))
      (part_token loaded s places masks leaves (get_or kinds last 0) (part f kinds sizes masks low last) (part f kinds sizes masks low (middle sizes low last))
      (part f kinds sizes masks (middle sizes low last) last) masked most (below last (omega (arith, (at_fits v).1)))
      ∙ ap (λ t. token_part t (part f kinds sizes masks low last) (part f kinds sizes masks low (middle sizes low last))
      (part f kinds sizes masks (middle sizes low last) last)) (kind_head last r v))

  -- Where the right one of two parts begins.
  middle_right : (low end : ℕ) (y : Re) → At l (end - 1) y → low + nodes y ≤ end → middle sizes low end ≡ end - nodes y
  middle_right low end y w h = rw (sizes_right y (end - 1) w) (omega arith)

  -- The parts of a sequence or an alternation that ends at `end`, if both are right wherever they stand.
  pair_parts : (x y : Re) (f low end : ℕ) → ((from to : ℕ) → At l (to - 1) x → from + nodes x ≡ to → part f kinds sizes masks from to ≡ x)
      → ((from to : ℕ) → At l (to - 1) y → from + nodes y ≡ to → part f kinds sizes masks from to ≡ y)
      → At l (end - 1) y → At l (end - 1 - nodes y) x → low + (nodes x + nodes y) ≡ end
      → (part f kinds sizes masks low (middle sizes low end) ≡ x) × (part f kinds sizes masks (middle sizes low end) end ≡ y)
  pair_parts x y f low end left right w v h =
      rw (middle_right low end y w (omega arith))
      (left low (end - nodes y) (rw (one_more end (nodes y)) v) (omega arith), right (end - nodes y) end w (omega arith))

  pub part_right : (r : Re) (f low end : ℕ) → At l (end - 1) r → low + nodes r ≡ end → nodes r ≤ f → part f kinds sizes masks low end ≡ r
  unfolding nodes
  part_right r zero low end w h k = absurd (omega (arith, nodes_pos r))
  part_right empty (suc f) low end w h k = part_head empty f low end w h
  part_right (leaf p t) (suc f) low end w h k = part_head (leaf p t) f low end w h
  part_right (seq x y) (suc f) low end w h k =
      let p = pair_parts x y f low (end - 1) (λ from to a b. part_right x f from to a b (omega arith)) (λ from to a b. part_right y f from to a b (omega arith))
      (seq_right l (end - 1) x y w) (seq_left l (end - 1) x y w) (omega arith) in
      part_head (seq x y) f low end w h ∙ rw (p.0, p.1)
  part_right (alt x y) (suc f) low end w h k =
      let p = pair_parts x y f low (end - 1) (λ from to a b. part_right x f from to a b (omega arith)) (λ from to a b. part_right y f from to a b (omega arith))
      (alt_right l (end - 1) x y w) (alt_left l (end - 1) x y w) (omega arith) in
      part_head (alt x y) f low end w h ∙ rw (p.0, p.1)
  part_right (star how x) (suc f) low end w h k =
      part_head (star how x) f low end w h ∙ ap (star how) (part_right x f low (end - 1) (star_part l (end - 1) how x w) (omega arith) (omega arith))
  part_right (field g x) (suc f) low end w h k =
      part_head (field g x) f low end w h ∙ ap (field g) (part_right x f low (end - 1) (field_part l (end - 1) g x w) (omega arith) (omega arith))
