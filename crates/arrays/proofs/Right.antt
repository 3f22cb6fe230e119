-- The arrays that the three passes make decode to the pattern whose tokens the codes are, its leaves numbered from 0.
-- Assumes nothing.
use mathlib.Core.Path.{◌≡◌, refl, sym, ap, ◌∙◌}
use mathlib.Core.Bool.{Bool, true, false, ◌&&◌}
use mathlib.Core.List.{List, [], ◌∷◌, ◌++◌, map, append_assoc}
use Prim.Native.Nat.{ℕ, suc, ◌+◌, ◌-◌, ◌<◌, ◌≤◌, min}
use native.Mathlib.Omega.{arith}
use native.Mathlib.Decide.{dec_lt}
use lib.ListN.{length, get_or, take, drop, length-append, length-map, length-take, get_or-map}
use lib.Seq.{get_or-take, get_or_at, take_all, length-take-le}
use lib.Dec.{ltb}
use borrow.Author.Tests.{lt-ltb, le-ltb, ltb-true}
use Rattle.theory.specs.Pattern.{eager, lazy, Re, count, number}
use Rattle.grammar.specs.Code.Tokens.{max_parts, nodes, nil, both, or, many, byte, tokens, renumber, leafs}
use Rattle.grammar.specs.Code.Tokens
use Rattle.grammar.specs.Code.Codes.{first_field, first_leaf, token_of, leaf_holds}
use Rattle.grammar.proofs.Codes.{kind_field, kind_leaf, Kinded, is_empty, is_sequence, is_alternation, is_star, is_field, is_leaf, kinded}
use Rattle.theory.proofs.Numbering.{number_count}
use Rattle.grammar.proofs.Size.{number_nodes}
use Rattle.grammar.proofs.Tokens.{nodes_pos, at_whole, tokens_length, tokens_number, leafs_tokens}
use Rattle.arrays.specs.Decoded.{part, decode}
use Rattle.arrays.specs.Passes.{leaves_with, kinds_from, places_of, size_at, Sized, Masked, Numbered}
use Rattle.arrays.specs.Finished.{Finished}
use Rattle.arrays.proofs.Numbering.{kinds_below}
use Rattle.arrays.proofs.Parts.{kind_token, part_right}

-- The kinds of the codes are their tokens with the leaves numbered: a has the places of the p leaves before them.
renumbered : (loaded s places l a : List ℕ) (p : ℕ) → length a ≡ p → a ++ places_of l ≡ places → length places ≤ 64
    → renumber p (map (token_of loaded s) l) ≡ map (kind_token loaded s places) (kinds_from p l)
unfolding renumber kinds_from places_of
renumbered loaded s places [] a p h e m = refl
renumbered loaded s places (c ∷ l) a p h e m = go (kinded c) e (renumbered loaded s places l)
  where
    go : {c : ℕ} → Kinded c → a ++ places_of (c ∷ l) ≡ places
        → ((a : List ℕ) (p : ℕ) → length a ≡ p → a ++ places_of l ≡ places → length places ≤ 64 → renumber p (map (token_of loaded s) l) ≡ map (kind_token loaded s places) (kinds_from p l))
        → renumber p (map (token_of loaded s) (c ∷ l)) ≡ map (kind_token loaded s places) (kinds_from p (c ∷ l))
    go is_empty e below = ap (λ k. nil ∷ k) (below a p h e m)
    go is_sequence e below = ap (λ k. both ∷ k) (below a p h e m)
    go is_alternation e below = ap (λ k. or ∷ k) (below a p h e m)
    go (is_star eager) e below = ap (λ k. many eager ∷ k) (below a p h e m)
    go (is_star lazy) e below = ap (λ k. many lazy ∷ k) (below a p h e m)
    go (is_field n g) e below =
        let t : ltb (first_field + n) first_leaf ≡ true = lt-ltb (first_field + n) first_leaf (omega arith) in
        rw (t, kind_field n g) (ap (λ k. Tokens.field (suc n) ∷ k) (below a p h (rw t at e) m))
    go (is_leaf q) e below =
        let c : ltb (first_leaf + q) first_leaf ≡ false = le-ltb (first_leaf + q) first_leaf (omega arith) in
        let z : first_leaf + q - first_leaf ≡ q = omega arith in
        let f : a ++ (q ∷ places_of l) ≡ places = rw (c, z) at e in
        let n : length a + suc (length (places_of l)) ≡ length places = sym (length-append a (q ∷ places_of l)) ∙ ap length f in
        let g : get_or places p 0 ≡ q = rw (← f) (get_or_at a q (places_of l) 0 p h) in
        let t : p + 1 ≡ suc p = omega arith in
        rw (c, lt-ltb p 64 (omega arith), kind_leaf q, kind_leaf p, t, g)
        (ap (λ u. byte p (λ b. ltb b 256 && leaf_holds loaded (drop q s) b) ∷ u)
        (below (a ++ (q ∷ [])) (suc p) (omega (arith, length-append a (q ∷ []))) (append_assoc a (q ∷ []) (places_of l) ∙ f) m))

length_kinds : (p : ℕ) (l : List ℕ) → length (kinds_from p l) ≡ length l
unfolding kinds_from
length_kinds p [] = refl
length_kinds p (c ∷ l) = ap suc (length_kinds (leaves_with p c) l)

length_places : (loaded s l : List ℕ) → length (places_of l) ≡ leafs (map (token_of loaded s) l)
unfolding places_of leafs
length_places loaded s [] = refl
length_places loaded s (c ∷ l) = go (kinded c) (length_places loaded s l)
  where
    go : {c : ℕ} → Kinded c → length (places_of l) ≡ leafs (map (token_of loaded s) l) → length (places_of (c ∷ l)) ≡ leafs (map (token_of loaded s) (c ∷ l))
    go is_empty e = e
    go is_sequence e = e
    go is_alternation e = e
    go (is_star eager) e = e
    go (is_star lazy) e = e
    go (is_field n h) e = rw (kind_field n h, lt-ltb (first_field + n) first_leaf (omega arith)) e
    go (is_leaf q) e = rw (kind_leaf q, le-ltb (first_leaf + q) first_leaf (omega arith)) (ap suc e)

-- Only the places of the leaves count.
place_taken : (loaded s places : List ℕ) (n b p : ℕ)
    → (ltb p n && leaf_holds loaded (drop (get_or places p 0) s) b) ≡ (ltb p n && leaf_holds loaded (drop (get_or (take n places) p 0) s) b)
place_taken loaded s places n b p = go (ltb p n) (ltb-true p n)
  where
    go : (t : Bool) → (t ≡ true → p < n) → (t && leaf_holds loaded (drop (get_or places p 0) s) b) ≡ (t && leaf_holds loaded (drop (get_or (take n places) p 0) s) b)
    go true f = rw (get_or-take n places p 0 (f refl))
    go false f = refl

masked_taken : (loaded s places masks : List ℕ) (n : ℕ) → Masked loaded s places (λ p. ltb p n) masks → Masked loaded s (take n places) (λ p. ltb p n) masks
masked_taken loaded s places masks n h b p l = h b p l ∙ place_taken loaded s places n b p

masked_whole : (loaded s places masks : List ℕ) (n : ℕ) → Masked loaded s (take n places) (λ p. ltb p n) masks → Masked loaded s places (λ p. ltb p n) masks
masked_whole loaded s places masks n h b p l = h b p l ∙ sym (place_taken loaded s places n b p)

take_within : (len : ℕ) (l : List ℕ) → take len l ≡ take (min len (length l)) l
take_within len l = go (dec_lt len (length l))
  where
    go : Dec (len < length l) → take len l ≡ take (min len (length l)) l
    go (yes h) = let m : min len (length l) ≡ len = omega arith in rw m
    go (no h) = let m : min len (length l) ≡ length l = omega arith in rw m (take_all len l (omega arith) ∙ sym (take_all (length l) l (omega arith)))

-- The passes over the codes l.
module _
    (loaded s l places kinds sizes masks : List ℕ) (n leaves : ℕ) (long : length l ≡ n) (numbered : Numbered l (take n kinds) places leaves) (sized : Sized kinds n sizes)
    (masked : Masked loaded s places (λ p. ltb p leaves) masks) (r : Re) (is : map (token_of loaded s) l ≡ tokens r) (room : count r ≤ 64) where
  count_is : length (places_of l) ≡ count r
  count_is = length_places loaded s l ∙ ap leafs is ∙ leafs_tokens r

  places_are : take leaves places ≡ places_of l
  places_are = numbered.at ∙ take_all 64 (places_of l) (omega (arith, count_is))

  tokens_are : tokens (number 0 r) ≡ map (kind_token loaded s (places_of l)) (kinds_from 0 l)
  tokens_are = tokens_number 0 r ∙ ap (renumber 0) (sym is) ∙ renumbered loaded s (places_of l) l [] 0 refl refl (omega (arith, count_is))

  kind_is : (i : ℕ) → i < n → get_or kinds i 0 ≡ get_or (kinds_from 0 l) i 0
  kind_is i h = sym (get_or-take n kinds i 0 h) ∙ ap (λ k. get_or k i 0) numbered.are

  nodes_are : nodes (number 0 r) ≡ n
  nodes_are = sym (tokens_length (number 0 r)) ∙ ap length tokens_are ∙ length-map (kinds_from 0 l) (kind_token loaded s (places_of l)) ∙ length_kinds 0 l ∙ long

  leaves_are : leaves ≡ count r
  leaves_are = omega (arith, numbered.counted, count_is)

  arrays_right : part n kinds sizes masks 0 n ≡ number 0 r
  arrays_right =
      part_right (tokens (number 0 r)) loaded s (places_of l) kinds sizes masks n leaves (tokens_length (number 0 r) ∙ nodes_are) (omega (arith, leaves_are))
      (λ i h. ap (kind_token loaded s (places_of l)) (kind_is i h) ∙ sym (get_or-map (kind_token loaded s (places_of l)) (kinds_from 0 l) i 0) ∙ ap (λ k. get_or k i nil) (sym tokens_are))
      (λ i h. rw (kind_is i h) (omega (arith, kinds_below 0 l i, leaves_are, count_is)))
      sized (rw places_are at (masked_taken loaded s places masks leaves masked)) (number 0 r) n 0 n
      (at_whole (number 0 r) (n - 1) (omega (arith, nodes_are, nodes_pos (number 0 r)))) (omega (arith, nodes_are)) (omega (arith, nodes_are))

  -- As many places as the pattern has parts, and its leaves.
  pub arrays_measured : (n ≡ nodes r) × (leaves ≡ count r)
  arrays_measured = (sym long ∙ sym (length-map l (token_of loaded s)) ∙ ap length is ∙ tokens_length r, leaves_are)

-- The three passes over the first n codes, as many as there are up to len.
pub finished : (loaded s codes places kinds sizes masks : List ℕ) (len n leaves : ℕ) → n ≡ min len (length codes)
    → Numbered (take n codes) (take n kinds) places leaves → Sized kinds n sizes → Masked loaded s places (λ p. ltb p leaves) masks
    → Finished loaded s (take len codes) (record { kinds = kinds; sizes = sizes; len = n; masks = masks; leaves = leaves })
unfolding decode
finished loaded s codes places kinds sizes masks len n leaves e numbered sized masked r is room =
    let same : take len codes ≡ take n codes = rw e (take_within len codes) in
    let long = length-take-le n codes (omega arith) in
    let (parts, counted) = arrays_measured loaded s (take n codes) places kinds sizes masks n leaves long numbered sized masked r (rw same at is) room in
    record {
      decodes = arrays_right loaded s (take n codes) places kinds sizes masks n leaves long numbered sized masked r (rw same at is) room;
      parts = parts ∙ sym (number_nodes 0 r);
      leaves = counted ∙ sym (number_count 0 r);
      spare = λ b p h l. masked b p h ∙ ap (λ t. t && leaf_holds loaded (drop (get_or places p 0) s) b) (le-ltb p leaves l);
    }

-- The same of arrays with a place for each part, where each pass was lent the slice of what the one before it made.
pub finished_slices : (loaded s codes places kinds sizes masks : List ℕ) (len n leaves : ℕ) → n ≡ min len max_parts → length codes ≡ max_parts → length kinds ≡ max_parts
    → Numbered (take n codes) (take (length (take n codes)) kinds) places leaves → Sized (take n kinds) (length (take n kinds)) sizes
    → Masked loaded s (take leaves places) (λ p. ltb p (length (take leaves places))) masks
    → Finished loaded s (take len codes) (record { kinds = kinds; sizes = sizes; len = n; masks = masks; leaves = leaves })
finished_slices loaded s codes places kinds sizes masks len n leaves e f g numbered sized masked =
    let m : n ≡ min len (length codes) = omega arith in
    let long : length (take n codes) ≡ n = length-take-le n codes (omega arith) in
    let some : length (take n kinds) ≡ n = length-take-le n kinds (omega arith) in
    let few : length (take leaves places) ≡ leaves = ap length numbered.at ∙ length-take 64 (places_of (take n codes)) ∙ sym numbered.counted in
    let numbered' : Numbered (take n codes) (take n kinds) places leaves = rw long at numbered in
    let sized' : Sized kinds n sizes = λ i l. (rw some at sized) i l ∙ ap (λ k. size_at k sizes i) (get_or-take n kinds i 0 l) in
    let masked' : Masked loaded s (take leaves places) (λ p. ltb p leaves) masks = rw few at masked in
    finished loaded s codes places kinds sizes masks len n leaves m numbered' sized' (masked_whole loaded s places masks leaves masked')
