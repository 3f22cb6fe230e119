-- The tokens of a pattern: read back they are the pattern, its parts stand where the sizes say, and its numbering is one pass.
-- Assumes nothing.
use mathlib.Core.Path.{◌≡◌, refl, sym, ap, ◌∙◌}
use Prim.Native.Nat.{ℕ, suc, ◌+◌, ◌-◌, ◌<◌}
use mathlib.Core.List.{List, [], ◌∷◌, ◌++◌, append_assoc, append-nil}
use native.Mathlib.Omega.{arith}
use lib.ListN.{length, get_or, length-append}
use lib.Seq.{get_or-append-add}
use Rattle.theory.specs.Pattern.{Manner, Re, empty, leaf, seq, alt, star, field, count, number}
use Rattle.grammar.specs.Code.Tokens.{nodes, Token, nil, both, or, many, byte, tokens, decode, renumber, leafs}
use Rattle.grammar.specs.Code.Tokens as Tokens

pub tokens_length : (r : Re) → length (tokens r) ≡ nodes r
unfolding tokens nodes
tokens_length empty = refl
tokens_length (leaf p s) = refl
tokens_length (seq x y) = omega (arith, length-append (tokens x) (tokens y ++ (both ∷ [])), length-append (tokens y) (both ∷ []), tokens_length x, tokens_length y)
tokens_length (alt x y) = omega (arith, length-append (tokens x) (tokens y ++ (or ∷ [])), length-append (tokens y) (or ∷ []), tokens_length x, tokens_length y)
tokens_length (star how x) = omega (arith, length-append (tokens x) (many how ∷ []), tokens_length x)
tokens_length (field f x) = omega (arith, length-append (tokens x) (Tokens.field f ∷ []), tokens_length x)

pub decode_tokens : (r : Re) (l : List Token) (k : List Re) → decode (tokens r ++ l) k ≡ decode l (r ∷ k)
unfolding tokens decode
decode_tokens empty l k = refl
decode_tokens (leaf p s) l k = refl
decode_tokens (seq x y) l k =
    rw (append_assoc (tokens x) (tokens y ++ (both ∷ [])) l, append_assoc (tokens y) (both ∷ []) l, decode_tokens x (tokens y ++ (both ∷ l)) k, decode_tokens y (both ∷ l) (x ∷ k)) refl
decode_tokens (alt x y) l k =
    rw (append_assoc (tokens x) (tokens y ++ (or ∷ [])) l, append_assoc (tokens y) (or ∷ []) l, decode_tokens x (tokens y ++ (or ∷ l)) k, decode_tokens y (or ∷ l) (x ∷ k)) refl
decode_tokens (star how x) l k = rw (append_assoc (tokens x) (many how ∷ []) l, decode_tokens x (many how ∷ l) k) refl
decode_tokens (field f x) l k = rw (append_assoc (tokens x) (Tokens.field f ∷ []) l, decode_tokens x (Tokens.field f ∷ l) k) refl

pub tokens_injective : (x y : Re) → tokens x ≡ tokens y → x ≡ y
unfolding decode
tokens_injective x y e =
    let a : decode (tokens x) [] ≡ x ∷ [] = rw (append-nil (tokens x)) at (decode_tokens x [] []) in
    let b : decode (tokens y) [] ≡ y ∷ [] = rw (append-nil (tokens y)) at (decode_tokens y [] []) in
    let c : x ∷ [] ≡ y ∷ [] = sym a ∙ rw e b in
    cc

-- The part r has its last token at the place n of the list.
pub data At (l : List Token) (n : ℕ) (r : Re) : Type 0 where
  at : (a z : List Token) → a ++ (tokens r ++ z) ≡ l → suc n ≡ length a + nodes r → At l n r

pub nodes_pos : (r : Re) → 0 < nodes r
unfolding nodes
nodes_pos empty = omega arith
nodes_pos (leaf p s) = omega arith
nodes_pos (seq x y) = omega arith
nodes_pos (alt x y) = omega arith
nodes_pos (star how x) = omega arith
nodes_pos (field f x) = omega arith

pub at_whole : (r : Re) (n : ℕ) → suc n ≡ nodes r → At (tokens r) n r
at_whole r n e = at [] [] (append-nil (tokens r)) (omega arith)

-- A part of two parts, x and then y: y ends one place before it, and x before all of y.
module _ (l : List Token) (n : ℕ) (x y r : Re) (t : Token) (is : tokens r ≡ tokens x ++ (tokens y ++ (t ∷ []))) (size : nodes r ≡ suc (nodes x + nodes y)) where
  pub pair_right : At l n r → At l (n - 1) y
  pair_right (at a z e h) =
      at (a ++ tokens x) (t ∷ z) (simp append_assoc (simp append_assoc at (rw is at e))) (omega (arith, length-append a (tokens x), tokens_length x, nodes_pos y))

  pub pair_left : At l n r → At l (n - 1 - nodes y) x
  pair_left (at a z e h) = at a (tokens y ++ (t ∷ z)) (simp append_assoc at (rw is at e)) (omega (arith, nodes_pos x))

pub seq_right : (l : List Token) (n : ℕ) (x y : Re) → At l n (seq x y) → At l (n - 1) y
unfolding tokens nodes
seq_right l n x y = pair_right l n x y (seq x y) both refl refl

pub seq_left : (l : List Token) (n : ℕ) (x y : Re) → At l n (seq x y) → At l (n - 1 - nodes y) x
unfolding tokens nodes
seq_left l n x y = pair_left l n x y (seq x y) both refl refl

pub alt_right : (l : List Token) (n : ℕ) (x y : Re) → At l n (alt x y) → At l (n - 1) y
unfolding tokens nodes
alt_right l n x y = pair_right l n x y (alt x y) or refl refl

pub alt_left : (l : List Token) (n : ℕ) (x y : Re) → At l n (alt x y) → At l (n - 1 - nodes y) x
unfolding tokens nodes
alt_left l n x y = pair_left l n x y (alt x y) or refl refl

-- A part of one part.
only_part : (l : List Token) (n : ℕ) (x r : Re) (t : Token) → tokens r ≡ tokens x ++ (t ∷ []) → nodes r ≡ suc (nodes x) → At l n r → At l (n - 1) x
only_part l n x r t is size (at a z e h) = at a (t ∷ z) (simp append_assoc at (rw is at e)) (omega (arith, nodes_pos x))

pub star_part : (l : List Token) (n : ℕ) (how : Manner) (x : Re) → At l n (star how x) → At l (n - 1) x
unfolding tokens nodes
star_part l n how x = only_part l n x (star how x) (many how) refl refl

pub field_part : (l : List Token) (n f : ℕ) (x : Re) → At l n (field f x) → At l (n - 1) x
unfolding tokens nodes
field_part l n f x = only_part l n x (field f x) (Tokens.field f) refl refl

abbrev pub head : Re → Token
head empty = nil
head (leaf p s) = byte p s
head (seq x y) = both
head (alt x y) = or
head (star how x) = many how
head (field f x) = Tokens.field f

tokens_last : (r : Re) → (b : List Token) × (tokens r ≡ b ++ (head r ∷ []))
unfolding tokens
tokens_last empty = ([], refl)
tokens_last (leaf p s) = ([], refl)
tokens_last (seq x y) = (tokens x ++ tokens y, sym (append_assoc (tokens x) (tokens y) (both ∷ [])))
tokens_last (alt x y) = (tokens x ++ tokens y, sym (append_assoc (tokens x) (tokens y) (or ∷ [])))
tokens_last (star how x) = (tokens x, refl)
tokens_last (field f x) = (tokens x, refl)

-- The part's last token is at the place.
pub at_token : (l : List Token) (n : ℕ) (r : Re) → At l n r → get_or l n nil ≡ head r
at_token l n r (at a z e h) = go (tokens_last r)
  where
    go : (b : List Token) × (tokens r ≡ b ++ (head r ∷ [])) → get_or l n nil ≡ head r
    go (b, q) =
        let k : length b + 1 ≡ nodes r = sym (length-append b (head r ∷ [])) ∙ ap length (sym q) ∙ tokens_length r in
        let m : n ≡ length (a ++ b) + 0 = omega (arith, length-append a b) in
        let f : (a ++ b) ++ (head r ∷ z) ≡ l = append_assoc a b (head r ∷ z) ∙ ap (λ u. a ++ u) (sym (append_assoc b (head r ∷ []) z) ∙ ap (λ u. u ++ z) (sym q)) ∙ e in
        rw (m, ← f) (get_or-append-add (a ++ b) (head r ∷ z) 0 nil)

renumber_append : (n : ℕ) (l m : List Token) → renumber n (l ++ m) ≡ renumber n l ++ renumber (n + leafs l) m
unfolding renumber leafs
renumber_append n [] m = let e : n ≡ n + 0 = omega arith in ap (λ k. renumber k m) e
renumber_append n (nil ∷ l) m = ap (λ k. nil ∷ k) (renumber_append n l m)
renumber_append n (both ∷ l) m = ap (λ k. both ∷ k) (renumber_append n l m)
renumber_append n (or ∷ l) m = ap (λ k. or ∷ k) (renumber_append n l m)
renumber_append n (many how ∷ l) m = ap (λ k. many how ∷ k) (renumber_append n l m)
renumber_append n (Tokens.field f ∷ l) m = ap (λ k. Tokens.field f ∷ k) (renumber_append n l m)
renumber_append n (byte p s ∷ l) m =
    let e : suc n + leafs l ≡ n + suc (leafs l) = omega arith in
    ap (λ k. byte n s ∷ k) (renumber_append (suc n) l m ∙ ap (λ k. renumber (suc n) l ++ renumber k m) e)

leafs_append : (l m : List Token) → leafs (l ++ m) ≡ leafs l + leafs m
unfolding leafs
leafs_append [] m = omega arith
leafs_append (nil ∷ l) m = leafs_append l m
leafs_append (both ∷ l) m = leafs_append l m
leafs_append (or ∷ l) m = leafs_append l m
leafs_append (many how ∷ l) m = leafs_append l m
leafs_append (Tokens.field f ∷ l) m = leafs_append l m
leafs_append (byte p s ∷ l) m = omega (arith, leafs_append l m)

pub leafs_tokens : (r : Re) → leafs (tokens r) ≡ count r
unfolding leafs tokens count
leafs_tokens empty = refl
leafs_tokens (leaf p s) = refl
leafs_tokens (seq x y) = omega (arith, leafs_append (tokens x) (tokens y ++ (both ∷ [])), leafs_append (tokens y) (both ∷ []), leafs_tokens x, leafs_tokens y)
leafs_tokens (alt x y) = omega (arith, leafs_append (tokens x) (tokens y ++ (or ∷ [])), leafs_append (tokens y) (or ∷ []), leafs_tokens x, leafs_tokens y)
leafs_tokens (star how x) = omega (arith, leafs_append (tokens x) (many how ∷ []), leafs_tokens x)
leafs_tokens (field f x) = omega (arith, leafs_append (tokens x) (Tokens.field f ∷ []), leafs_tokens x)

pub tokens_number : (n : ℕ) (r : Re) → tokens (number n r) ≡ renumber n (tokens r)
unfolding tokens number renumber
tokens_number n empty = refl
tokens_number n (leaf p s) = refl
tokens_number n (seq x y) =
    rw (renumber_append n (tokens x) (tokens y ++ (both ∷ [])), renumber_append (n + leafs (tokens x)) (tokens y) (both ∷ []), leafs_tokens x, tokens_number n x, tokens_number (n + count x) y) refl
tokens_number n (alt x y) =
    rw (renumber_append n (tokens x) (tokens y ++ (or ∷ [])), renumber_append (n + leafs (tokens x)) (tokens y) (or ∷ []), leafs_tokens x, tokens_number n x, tokens_number (n + count x) y) refl
tokens_number n (star how x) = rw (renumber_append n (tokens x) (many how ∷ []), tokens_number n x) refl
tokens_number n (field f x) = rw (renumber_append n (tokens x) (Tokens.field f ∷ []), tokens_number n x) refl
