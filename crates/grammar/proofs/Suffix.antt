-- The tokens of repeats: the copies of the block, and then a fixed ending. So a repeat is written by copying the block that was read.
-- Assumes nothing.
use mathlib.Core.Path.{◌≡◌, refl, sym, ap, ◌∙◌}
use Prim.Native.Nat.{ℕ, zero, suc}
use mathlib.Core.List.{List, [], ◌∷◌, ◌++◌, append_assoc, append-nil}
use lib.ListN.{replicate}
use Rattle.theory.specs.Pattern.{Manner, eager, lazy, Re, opt}
use Rattle.grammar.specs.WriteOut.{chain, optional}
use Rattle.grammar.specs.Code.Tokens.{blocks, Token, nil, both, or, tokens}

pub blocks_append : {A : Type 0} (n : ℕ) (b z w : List A) → blocks n b z ++ w ≡ blocks n b (z ++ w)
blocks_append zero b z w = refl
blocks_append (suc n) b z w = append_assoc b (blocks n b z) w ∙ ap (λ l. b ++ l) (blocks_append n b z w)

-- What stands before and after an optional copy.
abbrev pub lead : Manner → List Token
lead eager = []
lead lazy = nil ∷ []

abbrev pub shut : Manner → List Token
shut eager = nil ∷ or ∷ []
shut lazy = or ∷ []

tokens_opt : (how : Manner) (x : Re) → tokens (opt how x) ≡ lead how ++ (tokens x ++ shut how)
unfolding tokens
tokens_opt eager x = refl
tokens_opt lazy x = refl

-- The ends of optional copies but the innermost.
abbrev pub closes : Manner → ℕ → List Token
closes how zero = []
closes how (suc k) = both ∷ shut how ++ closes how k

closes_more : (how : Manner) (k : ℕ) → closes how k ++ (both ∷ shut how) ≡ closes how (suc k)
closes_more how zero = ap (λ l. both ∷ l) (sym (append-nil (shut how)))
closes_more how (suc k) = ap (λ l. both ∷ l) (append_assoc (shut how) (closes how k) (both ∷ shut how) ∙ ap (λ l. shut how ++ l) (closes_more how k))

pub tokens_optional : (how : Manner) (k : ℕ) (x : Re) → tokens (opt how (chain (x ∷ optional how k x))) ≡ blocks (suc k) (lead how ++ tokens x) (shut how ++ closes how k)
unfolding tokens chain optional
tokens_optional how zero x = tokens_opt how x ∙ sym (append_assoc (lead how) (tokens x) (shut how)) ∙ ap (λ l. (lead how ++ tokens x) ++ l) (sym (append-nil (shut how)))
tokens_optional how (suc k) x =
    tokens_opt how (chain (x ∷ optional how (suc k) x))
    ∙ ap (λ l. lead how ++ l) (append_assoc (tokens x) (tokens (opt how (chain (x ∷ optional how k x))) ++ (both ∷ [])) (shut how))
    ∙ sym (append_assoc (lead how) (tokens x) ((tokens (opt how (chain (x ∷ optional how k x))) ++ (both ∷ [])) ++ shut how))
    ∙ ap (λ l. (lead how ++ tokens x) ++ l)
    (append_assoc (tokens (opt how (chain (x ∷ optional how k x)))) (both ∷ []) (shut how)
    ∙ ap (λ l. l ++ (both ∷ shut how)) (tokens_optional how k x)
    ∙ blocks_append (suc k) (lead how ++ tokens x) (shut how ++ closes how k) (both ∷ shut how)
    ∙ ap (λ l. blocks (suc k) (lead how ++ tokens x) l) (append_assoc (shut how) (closes how k) (both ∷ shut how) ∙ ap (λ l. shut how ++ l) (closes_more how k)))

-- m copies and then one more part.
both_more : (m : ℕ) → replicate m both ++ (both ∷ []) ≡ replicate (suc m) both
both_more zero = refl
both_more (suc m) = ap (λ l. both ∷ l) (both_more m)

pub tokens_copies : (m : ℕ) (x y : Re) → tokens (chain (replicate m x ++ (y ∷ []))) ≡ blocks m (tokens x) (tokens y ++ replicate m both)
unfolding tokens chain
tokens_copies zero x y = sym (append-nil (tokens y))
tokens_copies (suc m) x y = step m ∙ ap (λ l. tokens x ++ l) (ap (λ l. l ++ (both ∷ [])) (tokens_copies m x y) ∙ blocks_append m (tokens x) (tokens y ++ replicate m both) (both ∷ []) ∙ ap (λ l. blocks m (tokens x) l) (append_assoc (tokens y) (replicate m both) (both ∷ []) ∙ ap (λ l. tokens y ++ l) (both_more m)))
  where
    step : (m : ℕ) → tokens (chain (x ∷ (replicate m x ++ (y ∷ [])))) ≡ tokens x ++ (tokens (chain (replicate m x ++ (y ∷ []))) ++ (both ∷ []))
    step zero = refl
    step (suc m) = refl
