-- The codes of leaves and of repeats are the tokens of what they write out.
-- Assumes nothing.
use mathlib.Core.Path.{◌≡◌, refl, sym, ap, ap₂, ◌∙◌, subst}
use Prim.Native.Nat.{ℕ, zero, suc, ◌+◌, ◌-◌, ◌<◌, ◌≤◌}
use mathlib.Core.Bool.{Bool, not, ◌&&◌, cond}
use mathlib.Core.List.{List, [], ◌∷◌, ◌++◌, map, map-append, append_assoc, append-nil}
use lib.ListN.{drop, replicate}
use native.Mathlib.Omega.{arith}
use native.Mathlib.Decide.{dec_lt}
use lib.Dec.{eqb, ltb}
use borrow.Author.Tests.{lt-ltb, le-ltb}
use Rattle.theory.specs.Pattern.{Manner, eager, lazy, Re, star, opt}
use Rattle.grammar.specs.Grammar.{plain, escaped, Item, byte, dot, class, Kind, ordinary, kind}
use Rattle.grammar.specs.Sets.{in_named, in_class}
use Rattle.grammar.specs.WriteOut.{chain, optional, bracketed, shape, shape_atom}
use Rattle.grammar.specs.Brackets.{max_fields}
use Rattle.grammar.specs.Code.Reader.{found, read_class}
use Rattle.grammar.specs.Code.Tokens.{both, tokens, blocks}
use Rattle.grammar.specs.Code.Tokens
use Rattle.grammar.specs.Code.Codes.{a_star, a_field, aLeaf, part_kind, first_field, first_leaf, leaf_by, found_holds, leaf_holds, token_by, token_of, exactly_codes, star_of, at_least_codes, lead_codes, shut_codes, close_codes, between_codes}
use Rattle.grammar.proofs.Suffix.{blocks_append, lead, shut, closes, tokens_optional, tokens_copies}

pub kind_star : (how : Manner) → part_kind (star_of how) ≡ a_star how
kind_star eager = refl
kind_star lazy = refl

-- The kinds from 5 on: eight fields, and then the leaves.
pub kind_field : (n : ℕ) → n < max_fields → part_kind (first_field + n) ≡ a_field (suc n)
kind_field n h =
    let e : first_field + n ≡ suc (suc (suc (suc (suc n)))) = omega arith in
    ap part_kind e ∙ ap (λ c. cond c (a_field (suc n)) (aLeaf (n - max_fields))) (lt-ltb n max_fields h)

pub kind_leaf : (q : ℕ) → part_kind (first_leaf + q) ≡ aLeaf q
kind_leaf q =
    let e : first_leaf + q ≡ suc (suc (suc (suc (suc (max_fields + q))))) = omega arith in
    let d : max_fields + q - max_fields ≡ q = omega arith in
    ap part_kind e ∙ ap (λ c. cond c (a_field (suc (max_fields + q))) (aLeaf (max_fields + q - max_fields))) (le-ltb (max_fields + q) max_fields (omega arith)) ∙ ap aLeaf d

-- What a kind is: one of the first five, a field, or a leaf.
pub data Kinded : ℕ → Type 0 where
  is_empty : Kinded 0
  is_sequence : Kinded 1
  is_alternation : Kinded 2
  is_star : (how : Manner) → Kinded (star_of how)
  is_field : (n : ℕ) → n < max_fields → Kinded (first_field + n)
  is_leaf : (q : ℕ) → Kinded (first_leaf + q)

pub kinded : (k : ℕ) → Kinded k
kinded zero = is_empty
kinded (suc zero) = is_sequence
kinded (suc (suc zero)) = is_alternation
kinded (suc (suc (suc zero))) = is_star eager
kinded (suc (suc (suc (suc zero)))) = is_star lazy
kinded (suc (suc (suc (suc (suc n))))) = go (dec_lt n max_fields)
  where
    go : Dec (n < max_fields) → Kinded (suc (suc (suc (suc (suc n)))))
    go (yes h) = let e : first_field + n ≡ suc (suc (suc (suc (suc n)))) = omega arith in subst Kinded e (is_field n h)
    go (no h) = let e : first_leaf + (n - max_fields) ≡ suc (suc (suc (suc (suc n)))) = omega arith in subst Kinded e (is_leaf (n - max_fields))

-- A leaf whose set is f, at the place q.
leaf_code : (loaded p : List ℕ) (q : ℕ) (f : ℕ → Bool) → leaf_holds loaded (drop q p) ≡ f → map (token_of loaded p) ((first_leaf + q) ∷ []) ≡ Tokens.byte 0 (λ b. ltb b 256 && f b) ∷ []
leaf_code loaded p q f e = ap (λ k. token_by loaded p k ∷ []) (kind_leaf q) ∙ ap (λ (g : ℕ → Bool). Tokens.byte 0 (λ b. ltb b 256 && g b) ∷ []) e

module _ (loaded p : List ℕ) (q n : ℕ) (s : List ℕ) where
  pub plain_code : (b : ℕ) → drop q p ≡ b ∷ s → kind b ≡ ordinary → map (token_of loaded p) ((first_leaf + q) ∷ []) ≡ tokens (shape_atom (in_named loaded) (byte (plain b)) n)
  unfolding tokens shape leaf_holds
  plain_code b e k = leaf_code loaded p q (λ c. eqb c b) (ap (leaf_holds loaded) e ∙ ap (λ (x : Kind). leaf_by loaded x b s) k)

  pub escaped_code : (b : ℕ) → drop q p ≡ 92 ∷ b ∷ s → map (token_of loaded p) ((first_leaf + q) ∷ []) ≡ tokens (shape_atom (in_named loaded) (byte (escaped b)) n)
  unfolding tokens shape leaf_holds kind
  escaped_code b e = leaf_code loaded p q (λ c. eqb c b) (ap (leaf_holds loaded) e)

  pub dot_code : drop q p ≡ 46 ∷ s → map (token_of loaded p) ((first_leaf + q) ∷ []) ≡ tokens (shape_atom (in_named loaded) dot n)
  unfolding tokens shape leaf_holds kind
  dot_code e = leaf_code loaded p q (λ c. not (eqb c 10)) (ap (leaf_holds loaded) e)

  pub class_code : (c : Bool) (x : Item) (l : List Item) (r : List ℕ) → drop q p ≡ 91 ∷ s → read_class s ≡ found (class c x l) r → map (token_of loaded p) ((first_leaf + q) ∷ []) ≡ tokens (shape_atom (in_named loaded) (class c x l) n)
  unfolding tokens shape leaf_holds kind
  class_code c x l r e f = leaf_code loaded p q (in_class (in_named loaded) c (x ∷ l)) (ap (leaf_holds loaded) e ∙ ap (found_holds loaded) f)

-- Copies.
map_blocks : {A B : Type 0} (f : A → B) (n : ℕ) (k z : List A) → map f (blocks n k z) ≡ blocks n (map f k) (map f z)
map_blocks f zero k z = refl
map_blocks f (suc n) k z = map-append f k (blocks n k z) ∙ ap (λ l. map f k ++ l) (map_blocks f n k z)

map_replicate : {A B : Type 0} (f : A → B) (n : ℕ) (x : A) → map f (replicate n x) ≡ replicate n (f x)
map_replicate f zero x = refl
map_replicate f (suc n) x = ap (λ l. f x ∷ l) (map_replicate f n x)

blocks_more : {A : Type 0} (n : ℕ) (k z : List A) → blocks n k (k ++ z) ≡ blocks (suc n) k z
blocks_more zero k z = refl
blocks_more (suc n) k z = ap (λ l. k ++ l) (blocks_more n k z)

replicate_more : {A : Type 0} (n : ℕ) (x : A) → replicate n x ++ (x ∷ []) ≡ replicate (suc n) x
replicate_more zero x = refl
replicate_more (suc n) x = ap (λ l. x ∷ l) (replicate_more n x)

map_shut : (loaded p : List ℕ) (how : Manner) → map (token_of loaded p) (shut_codes how) ≡ shut how
map_shut loaded p eager = refl
map_shut loaded p lazy = refl

map_lead : (loaded p : List ℕ) (how : Manner) → map (token_of loaded p) (lead_codes how) ≡ lead how
map_lead loaded p eager = refl
map_lead loaded p lazy = refl

map_closes : (loaded p : List ℕ) (how : Manner) (i : ℕ) → map (token_of loaded p) (close_codes how i) ≡ closes how i
map_closes loaded p how zero = refl
map_closes loaded p how (suc i) = ap (λ l. both ∷ l) (map-append (token_of loaded p) (shut_codes how) (close_codes how i) ∙ ap₂ ◌++◌ (map_shut loaded p how) (map_closes loaded p how i))

map_star : (loaded p : List ℕ) (how : Manner) → token_of loaded p (star_of how) ≡ Tokens.many how
map_star loaded p how = ap (token_by loaded p) (kind_star how)

-- What repeats make of a part y with the codes k.
module _ (loaded p k : List ℕ) (y : Re) (h : map (token_of loaded p) k ≡ tokens y) where
  pub star_codes : (how : Manner) → map (token_of loaded p) (k ++ (star_of how ∷ [])) ≡ tokens (star how y)
  unfolding tokens
  star_codes how = map-append (token_of loaded p) k (star_of how ∷ []) ∙ ap₂ (λ l t. l ++ (t ∷ [])) h (map_star loaded p how)

  -- A bracket after n others: the ninth and those after it leave the part as it is.
  pub field_codes : (n : ℕ) → n < max_fields → map (token_of loaded p) (k ++ ((first_field + n) ∷ [])) ≡ tokens (bracketed n y)
  unfolding tokens bracketed
  field_codes n g = map-append (token_of loaded p) k ((first_field + n) ∷ []) ∙ rw (h, kind_field n g, lt-ltb n max_fields g)

  pub unmarked_codes : (n : ℕ) → max_fields ≤ n → map (token_of loaded p) k ≡ tokens (bracketed n y)
  unfolding bracketed
  unmarked_codes n g = rw (le-ltb n max_fields g) h

  pub exactly_codes_lem : (m : ℕ) → map (token_of loaded p) (exactly_codes m k) ≡ tokens (chain (replicate m y))
  unfolding tokens chain
  exactly_codes_lem zero = refl
  exactly_codes_lem (suc m) =
      map_blocks (token_of loaded p) (suc m) k (replicate m 1)
      ∙ ap (λ l. blocks (suc m) l (map (token_of loaded p) (replicate m 1))) h
      ∙ ap (blocks (suc m) (tokens y)) (map_replicate (token_of loaded p) m 1)
      ∙ sym (blocks_more m (tokens y) (replicate m both))
      ∙ sym (tokens_copies m y y)
      ∙ ap (λ l. tokens (chain l)) (replicate_more m y)

  pub at_least_codes_lem : (how : Manner) (m : ℕ) → map (token_of loaded p) (at_least_codes how m k) ≡ tokens (chain (replicate m y ++ (star how y ∷ [])))
  unfolding tokens
  at_least_codes_lem how m =
      map_blocks (token_of loaded p) (suc m) k (star_of how ∷ replicate m 1)
      ∙ ap (λ l. blocks (suc m) l (map (token_of loaded p) (star_of how ∷ replicate m 1))) h
      ∙ ap₂ (λ t l. blocks (suc m) (tokens y) (t ∷ l)) (map_star loaded p how) (map_replicate (token_of loaded p) m 1)
      ∙ sym (blocks_more m (tokens y) (Tokens.many how ∷ replicate m both))
      ∙ ap (blocks m (tokens y)) (sym (append_assoc (tokens y) (Tokens.many how ∷ []) (replicate m both)))
      ∙ sym (tokens_copies m y (star how y))

  pub between_codes_lem : (how : Manner) (m i : ℕ) → map (token_of loaded p) (between_codes how m i k) ≡ tokens (chain (replicate m y ++ optional how i y))
  unfolding optional
  between_codes_lem how m zero = exactly_codes_lem m ∙ ap (λ l. tokens (chain l)) (sym (append-nil (replicate m y)))
  between_codes_lem how m (suc i) =
      map_blocks (token_of loaded p) m k (blocks (suc i) (lead_codes how ++ k) ending)
      ∙ ap (λ l. blocks m l (map (token_of loaded p) (blocks (suc i) (lead_codes how ++ k) ending))) h
      ∙ ap (blocks m (tokens y)) inner
      ∙ sym (tokens_copies m y (opt how (chain (y ∷ optional how i y))))
    where
      ending : List ℕ
      ending = (shut_codes how ++ close_codes how i) ++ replicate m 1

      ended : map (token_of loaded p) ending ≡ (shut how ++ closes how i) ++ replicate m both
      ended =
          map-append (token_of loaded p) (shut_codes how ++ close_codes how i) (replicate m 1)
          ∙ ap₂ ◌++◌ (map-append (token_of loaded p) (shut_codes how) (close_codes how i) ∙ ap₂ ◌++◌ (map_shut loaded p how) (map_closes loaded p how i)) (map_replicate (token_of loaded p) m 1)

      led : map (token_of loaded p) (lead_codes how ++ k) ≡ lead how ++ tokens y
      led = map-append (token_of loaded p) (lead_codes how) k ∙ ap₂ ◌++◌ (map_lead loaded p how) h

      inner : map (token_of loaded p) (blocks (suc i) (lead_codes how ++ k) ending) ≡ tokens (opt how (chain (y ∷ optional how i y))) ++ replicate m both
      inner =
          map_blocks (token_of loaded p) (suc i) (lead_codes how ++ k) ending
          ∙ ap₂ (blocks (suc i)) led ended
          ∙ sym (blocks_append (suc i) (lead how ++ tokens y) (shut how ++ closes how i) (replicate m both))
          ∙ ap (λ l. l ++ replicate m both) (sym (tokens_optional how i y))
