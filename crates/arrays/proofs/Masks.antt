-- The third pass: the leaves of one place have one set, and a turn marks them together.
-- Assumes nothing.
use mathlib.Core.Path.{◌≡◌, refl, sym, ap, ◌∙◌}
use mathlib.Core.Bool.{Bool, true, false, ◌&&◌, ◌||◌, true≢false}
use mathlib.Core.List.{List}
use mathlib.Core.Logic.{◌⊎◌, inl, inr, ⊎_elim}
use Prim.Native.Nat.{ℕ, ◌+◌, ◌<◌}
use native.Mathlib.Omega.{arith}
use native.Mathlib.Decide.{dec_lt}
use lib.ListN.{length, get_or, set, drop, replicate, length-set, get_or-replicate}
use lib.Seq.{get_or-set_same, get_or-set_other}
use lib.Dec.{eqb, ltb}
use lib.Bits.{bit_or}
use borrow.Author.Count.{below_more}
use borrow.Author.Tests.{lt-ltb, le-ltb, eq-eqb, ne_eqb, eqb-true, ltb-true}
use Rattle.grammar.specs.Code.Codes.{leaf_holds}
use Rattle.words.specs.Sets.{has_bit, with_leaf_if}
use Rattle.arrays.specs.Passes.{Places, Marked, MarkedTo, Masked, Turn}
use Rattle.words.proofs.Bits.{no_bit, or_bit, with_if_bit}
use Rattle.theory.proofs.Tests.{or_false, and_true, and_false}

pub no_places : (places : List ℕ) (q : ℕ) → Places places 0 q 0
no_places places q p = rw (no_bit p, le-ltb p 0 (omega arith))

pub places_more : (places : List ℕ) (n q x r : ℕ) → n < 64 → Places places n q x → r ≡ with_leaf_if (eqb (get_or places n 0) q) x n → Places places (n + 1) q r
places_more places n q x r few h is p = go (dec_lt p n) (dec_lt n p)
  where
    a : (k : ℕ) → has_bit r k ≡ (has_bit x k || (eqb (get_or places n 0) q && eqb k n))
    a k = ap (λ y. has_bit y k) is ∙ with_if_bit (eqb (get_or places n 0) q) x n k few

    go : Dec (p < n) → Dec (n < p) → has_bit r p ≡ (ltb p (n + 1) && eqb (get_or places p 0) q)
    go (yes l) d = a p ∙ rw (h p, lt-ltb p n l, ne_eqb p n (λ e. omega arith), lt-ltb p (n + 1) (omega arith), and_false (eqb (get_or places n 0) q)) (or_false _)
    go (no l) (yes m) = a p ∙ rw (h p, le-ltb p n (omega arith), ne_eqb p n (λ e. omega arith), le-ltb p (n + 1) (omega arith)) (and_false (eqb (get_or places n 0) q))
    go (no l) (no m) =
        let e : p ≡ n = omega arith in
        rw e (a n ∙ rw (h n, le-ltb n n (omega arith), eq-eqb n n refl, lt-ltb n (n + 1) (omega arith)) (and_true (eqb (get_or places n 0) q)))

-- The mask of a byte, by what the code learnt of the set.
pub marked_some : (loaded s : List ℕ) (q m b x r : ℕ) (t : Bool) → t ≡ leaf_holds loaded (drop q s) b → t ≡ true → r ≡ bit_or x m → Marked loaded s q m b x r
marked_some loaded s q m b x r t e h u p = ap (λ y. has_bit y p) u ∙ or_bit x m p ∙ rw (← e, h)

pub marked_none : (loaded s : List ℕ) (q m b x : ℕ) (t : Bool) → t ≡ leaf_holds loaded (drop q s) b → t ≡ false → Marked loaded s q m b x x
marked_none loaded s q m b x t e h p = rw (← e, h) (sym (or_false (has_bit x p)))

pub marked_begin : (loaded s : List ℕ) (q m : ℕ) (masks : List ℕ) → length masks ≡ 256 → MarkedTo loaded s q m 0 masks masks
marked_begin loaded s q m masks h = record { long = h; marked = λ k l. absurd (omega arith); kept = λ k l. refl }

pub marked_turn : (loaded s : List ℕ) (q m b x : ℕ) (before masks : List ℕ) → b < 256 → MarkedTo loaded s q m b before masks → Marked loaded s q m b (get_or masks b 0) x
    → MarkedTo loaded s q m (b + 1) before (set masks b x)
marked_turn loaded s q m b x before masks h t w =
    record {
      long = length-set masks b x ∙ t.long;
      marked = below_more (λ k. Marked loaded s q m k (get_or before k 0) (get_or (set masks b x) k 0)) b
          (λ k l. rw (get_or-set_other masks b k x 0 (λ e. omega arith)) (t.marked k l))
          (rw (get_or-set_same masks b x 0 (omega (arith, t.long)), ← t.kept b (omega arith)) w);
      kept = λ k l. get_or-set_other masks b k x 0 (λ e. omega arith) ∙ t.kept k (omega arith);
    }

-- Marked leaves are done leaves: g is the leaf's set at a byte, h that of the place.
marks_done : (d g h m : Bool) → (m ≡ true → g ≡ h) → ((d && g) || (h && m)) ≡ ((d || m) && g)
marks_done true true true m e = refl
marks_done true true false m e = refl
marks_done true false h true e = rw (e refl) (and_true h)
marks_done true false h false e = and_false h
marks_done false g h true e = rw (e refl) (and_true h)
marks_done false g h false e = and_false h

and_right : (a b : Bool) → (a && b) ≡ true → b ≡ true
and_right true b e = e
and_right false b e = absurd (true≢false (sym e))

and_left : (a b : Bool) → (a && b) ≡ true → a ≡ true
and_left true b e = refl
and_left false b e = absurd (true≢false (sym e))

or_cases : (a b : Bool) → (a || b) ≡ true → (a ≡ true) ⊎ (b ≡ true)
or_cases true b e = inl refl
or_cases false b e = inr e

or_true : (a : Bool) → (a || true) ≡ true
or_true true = refl
or_true false = refl

not_true_false : (t : Bool) → (t ≡ true → ⊥) → t ≡ false
not_true_false true h = absurd (h refl)
not_true_false false h = refl

-- A turn at a leaf that is done,
pub turn_done : (loaded s places : List ℕ) (n done p : ℕ) (masks : List ℕ) → length masks ≡ 256 → has_bit done p ≡ true → Turn loaded s places n done p masks masks done
turn_done loaded s places n done p masks l h = record { long = l; kept = λ k. k; more = λ k e. e; here = h; only = λ f. f }

-- and at one that is not: m are the leaves at its place.
module _
    (loaded s places : List ℕ) (n done p m done' : ℕ) (masks masks' : List ℕ) (below : p < n) (alike : Places places n (get_or places p 0) m)
    (all : MarkedTo loaded s (get_or places p 0) m 256 masks masks') (union : done' ≡ bit_or done m) where
  joined : (k : ℕ) → has_bit done' k ≡ (has_bit done k || has_bit m k)
  joined k = ap (λ y. has_bit y k) union ∙ or_bit done m k

  one_place : (k : ℕ) → has_bit m k ≡ true → get_or places k 0 ≡ get_or places p 0
  one_place k e = eqb-true _ _ (and_right (ltb k n) _ (sym (alike k) ∙ e))

  below_all : (k : ℕ) → has_bit m k ≡ true → k < n
  below_all k e = ltb-true k n (and_left (ltb k n) _ (sym (alike k) ∙ e))

  pub turn_new : Turn loaded s places n done p masks masks' done'
  turn_new =
      record {
        long = all.long;
        kept = λ h b k l. all.marked b l k ∙ rw (h b k l, joined k)
            (marks_done (has_bit done k) (leaf_holds loaded (drop (get_or places k 0) s) b) (leaf_holds loaded (drop (get_or places p 0) s) b) (has_bit m k)
            (λ e. rw (one_place k e)));
        more = λ k e. joined k ∙ rw e;
        here = joined p ∙ rw (alike p, lt-ltb p n below, eq-eqb (get_or places p 0) (get_or places p 0) refl) (or_true (has_bit done p));
        only = λ f k e. ⊎_elim (f k) (below_all k) (or_cases (has_bit done k) (has_bit m k) (sym (joined k) ∙ e));
      }

-- What holds of the masks before the leaf p of n: all leaves below p are done.
pub record Done (loaded s places : List ℕ) (n done p : ℕ) (masks : List ℕ) : Type 0 where
  pub long : length masks ≡ 256
  pub right : Masked loaded s places (has_bit done) masks
  pub all : (k : ℕ) → k < p → has_bit done k ≡ true
  pub only : (k : ℕ) → has_bit done k ≡ true → k < n

pub done_begin : (loaded s places : List ℕ) (n : ℕ) → Done loaded s places n 0 0 (replicate 256 0)
done_begin loaded s places n =
    record {
      long = refl;
      right = λ b p h. rw (get_or-replicate {A = ℕ} 256 b 0 0 h, no_bit p);
      all = λ k h. absurd (omega arith);
      only = λ k e. absurd (true≢false (sym e ∙ no_bit k));
    }

pub done_turn : (loaded s places : List ℕ) (n done p done' : ℕ) (masks masks' : List ℕ) → Done loaded s places n done p masks
    → Turn loaded s places n done p masks masks' done' → Done loaded s places n done' (p + 1) masks'
done_turn loaded s places n done p done' masks masks' d t =
    record {
      long = t.long;
      right = t.kept d.right;
      all = below_more (λ k. has_bit done' k ≡ true) p (λ k h. t.more k (d.all k h)) t.here;
      only = t.only d.only;
    }

pub done_end : (loaded s places : List ℕ) (n done : ℕ) (masks : List ℕ) → Done loaded s places n done n masks → Masked loaded s places (λ p. ltb p n) masks
done_end loaded s places n done masks d b p l = d.right b p l ∙ ap (λ t. t && leaf_holds loaded (drop (get_or places p 0) s) b) (same (dec_lt p n))
  where
    same : Dec (p < n) → has_bit done p ≡ ltb p n
    same (yes k) = d.all p k ∙ sym (lt-ltb p n k)
    same (no k) = not_true_false (has_bit done p) (λ e. k (d.only p e)) ∙ sym (le-ltb p n (omega arith))
