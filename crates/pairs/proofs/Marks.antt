-- Pairs that are marked in an area: none, those of one leaf with a set, and some after others.
-- Assumes nothing.
use mathlib.Core.Path.{◌≡◌, refl, sym, ap, ap₂, ◌∙◌}
use mathlib.Core.Bool.{Bool, true, false, not, ◌&&◌, ◌||◌}
use mathlib.Core.List.{List}
use Prim.Native.Nat.{ℕ, ◌+◌, ◌≤◌, ◌<◌}
use native.Mathlib.Omega.{arith}
use lib.ListN.{length, get_or}
use lib.Dec.{eqb}
use lib.Bits.{bit_and, bit_or, bit_xor, and_le_l, and_lt, or_add_and, or_lt, xor_lt}
use borrow.Author.Tests.{ne_eqb, eqb-true, eqb-false}
use Rattle.theory.proofs.Tests.{T_true, or_right, or_assoc, or_false, and_true}
use Rattle.words.specs.Sets.{has_bit, with_leaf, Parted}
use Rattle.words.proofs.Bits.{no_bit, or_bit, and_bit, with_bit}
use Rattle.facts.proofs.Bits.{without_bits}
use Rattle.pairs.specs.Rows.{row_at, put_row, Waits, MarkedBy, with_each, sharing}
use Rattle.pairs.proofs.Rows.{row_put, row_other, row_less, row_length, kept_row, kept_none, kept_more}

-- Pairs that are all reached are marked already.
pub marked_none : (f : ℕ → ℕ → Bool) (s : List ℕ) (waiting : ℕ) → ((p q : ℕ) → p < 64 → (f p q && not (has_bit (row_at s p) q)) ≡ false) → MarkedBy f s waiting s waiting
marked_none f s waiting none = record {
  kept = kept_none s;
  reached = λ p q h. within (has_bit (row_at s p) q) (f p q) (none p q h);
  pending = λ p q h. sym (ap (λ b. has_bit (row_at s (64 + p)) q || b) (none p q h) ∙ or_false (has_bit (row_at s (64 + p)) q));
  waits = λ w. w;
}
  where
    within : (a b : Bool) → (b && not a) ≡ false → a ≡ (a || b)
    within true b e = refl
    within false true e = sym e
    within false false e = refl

-- The pairs f, by another test.
pub marked_same : {f : ℕ → ℕ → Bool} {s t : List ℕ} {waiting waiting' : ℕ} (g : ℕ → ℕ → Bool) → ((p q : ℕ) → f p q ≡ g p q) → MarkedBy f s waiting t waiting' → MarkedBy g s waiting t waiting'
marked_same g e m = record {
  kept = m.kept;
  reached = λ p q h. rw (← e p q) (m.reached p q h);
  pending = λ p q h. rw (← e p q) (m.pending p q h);
  waits = m.waits;
}

-- The pairs g are marked after the pairs f.
pub marked_more : {f g : ℕ → ℕ → Bool} {s t u : List ℕ} {waiting waiting' waiting'' : ℕ} → MarkedBy f s waiting t waiting' → MarkedBy g t waiting' u waiting''
    → MarkedBy (λ p q. f p q || g p q) s waiting u waiting''
marked_more {f} {g} {s} a b = record {
  kept = kept_more a.kept b.kept;
  reached = λ p q h. b.reached p q h ∙ ap (λ c. c || g p q) (a.reached p q h) ∙ or_assoc (has_bit (row_at s p) q) (f p q) (g p q);
  pending = λ p q h.
      b.pending p q h
      ∙ ap₂ (λ c d. c || (g p q && not d)) (a.pending p q h) (a.reached p q h)
      ∙ joined (has_bit (row_at s (64 + p)) q) (f p q) (g p q) (has_bit (row_at s p) q);
  waits = λ w. b.waits (a.waits w);
}
  where
    joined : (c d e r : Bool) → ((c || (d && not r)) || (e && not (r || d))) ≡ (c || ((d || e) && not r))
    joined true d e r = refl
    joined false true true true = refl
    joined false true true false = refl
    joined false true false true = refl
    joined false true false false = refl
    joined false false e true = refl
    joined false false e false = refl

-- The pairs of the leaf c with a set: the leaves of the set whose pair is not reached yet, the area with those pairs reached, and with them pending too.
module _ (s : List ℕ) (c set : ℕ) where
  abbrev fresh : ℕ
  fresh = bit_xor set (bit_and set (row_at s c))

  abbrev entered : List ℕ
  entered = put_row s c (bit_or (row_at s c) fresh)

  abbrev queued : List ℕ
  queued = put_row entered (64 + c) (bit_or (row_at entered (64 + c)) fresh)

  -- There is no such leaf,
  pub marked_old : (waiting : ℕ) → fresh ≡ 0 → MarkedBy (with_each c set) s waiting s waiting
  marked_old waiting none = marked_none (with_each c set) s waiting (λ p q h. go p q (eqb p c) refl)
    where
      go : (p q : ℕ) (b : Bool) → eqb p c ≡ b → ((b && has_bit set q) && not (has_bit (row_at s p) q)) ≡ false
      go p q false e = refl
      go p q true e = rw (eqb-true p c e, ← without_bits set (row_at s c) q, none) (no_bit q)

  -- or there is one.
  module _ (size : 1024 ≤ length s) (below : c < 64) (few : set < 18446744073709551616) (small : (j : ℕ) → get_or s j 0 < 256) where
    -- The rows of the other leaves stay.
    other : (p : ℕ) → p < 64 → eqb p c ≡ false → (row_at queued p ≡ row_at s p) × (row_at queued (64 + p) ≡ row_at s (64 + p))
    other p h e = (stays p (eqb-false p c e) (λ i. omega arith), stays (64 + p) (λ i. omega arith) (λ i. eqb-false p c e (omega arith)))
      where
        stays : (j : ℕ) → (j ≡ c → ⊥) → (j ≡ 64 + c → ⊥) → row_at queued j ≡ row_at s j
        stays j n m = row_other entered (64 + c) _ j m ∙ row_other s c _ j n

    -- What is put into a row of c: it fits, and these are its bits.
    fits : (x : ℕ) → x < 18446744073709551616 → bit_or x fresh < 18446744073709551616
    fits x h = or_lt 64 x fresh h (xor_lt 64 set (bit_and set (row_at s c)) few (and_lt 64 set (row_at s c) few (row_less s small c)))

    more : (x q : ℕ) → has_bit (bit_or x fresh) q ≡ (has_bit x q || (has_bit set q && not (has_bit (row_at s c) q)))
    more x q = or_bit x fresh q ∙ ap (λ b. has_bit x q || b) (without_bits set (row_at s c) q)

    -- The rows of c.
    here : row_at queued c ≡ bit_or (row_at s c) fresh
    here = row_other entered (64 + c) _ c (λ e. omega arith) ∙ row_put s c _ (omega arith) (fits (row_at s c) (row_less s small c))

    pend : row_at entered (64 + c) ≡ row_at s (64 + c)
    pend = row_other s c _ (64 + c) (λ e. omega arith)

    there : row_at queued (64 + c) ≡ bit_or (row_at s (64 + c)) fresh
    there = rw pend (row_put entered (64 + c) _ (omega (arith, row_length s c (bit_or (row_at s c) fresh))) (fits (row_at s (64 + c)) (row_less s small (64 + c))))

    pub marked_new : (waiting : ℕ) → (fresh ≡ 0 → ⊥) → MarkedBy (with_each c set) s waiting queued (with_leaf waiting c)
    marked_new waiting some = record {
      kept = kept_more (kept_row s c _ (omega arith)) (kept_row entered (64 + c) _ (omega arith));
      reached = λ p q h. is_reached p q h (eqb p c) refl;
      pending = λ p q h. is_pending p q h (eqb p c) refl;
      waits = λ w p h. with_bit waiting c p below ∙ now_waits w p h (eqb p c) refl;
    }
      where
        or_not : (a b : Bool) → (a || (b && not a)) ≡ (a || b)
        or_not true b = refl
        or_not false b = and_true b

        is_reached : (p q : ℕ) → p < 64 → (b : Bool) → eqb p c ≡ b → has_bit (row_at queued p) q ≡ (has_bit (row_at s p) q || (b && has_bit set q))
        is_reached p q h true e = rw (eqb-true p c e, here) (more (row_at s c) q ∙ or_not (has_bit (row_at s c) q) (has_bit set q))
        is_reached p q h false e = rw (other p h e).0 (sym (or_false (has_bit (row_at s p) q)))

        is_pending : (p q : ℕ) → p < 64 → (b : Bool) → eqb p c ≡ b → has_bit (row_at queued (64 + p)) q ≡ (has_bit (row_at s (64 + p)) q || ((b && has_bit set q) && not (has_bit (row_at s p) q)))
        is_pending p q h true e = rw (eqb-true p c e, there) (more (row_at s (64 + c)) q)
        is_pending p q h false e = rw (other p h e).1 (sym (or_false (has_bit (row_at s (64 + p)) q)))

        now_waits : Waits s waiting → (p : ℕ) → p < 64 → (b : Bool) → eqb p c ≡ b → (has_bit waiting p || b) ≡ not (eqb (row_at queued (64 + p)) 0)
        now_waits w p h true e =
            let x = row_at s (64 + c) in
            let full : eqb (bit_or x fresh) 0 ≡ false = ne_eqb (bit_or x fresh) 0 λ i. some (omega (arith, or_add_and x fresh, and_le_l x fresh)) in
            rw (eqb-true p c e, there, full) (T_true _ (or_right (has_bit waiting c) true tt))
        now_waits w p h false e = rw (other p h e).1 (or_false (has_bit waiting p) ∙ w p h)

-- The pairs of one leaf of x are marked, and then those of the others.
pub marked_parted : {s t u : List ℕ} {waiting waiting' waiting'' : ℕ} (shares : List ℕ) (to x c rest : ℕ) → Parted x c rest → MarkedBy (with_each c (bit_and to (get_or shares c 0))) s waiting t waiting'
    → MarkedBy (sharing shares rest to) t waiting' u waiting'' → MarkedBy (sharing shares x to) s waiting u waiting''
marked_parted shares to x c rest parted a b = marked_same (sharing shares x to) (λ p q. go p q (eqb p c) refl (parted.others p)) (marked_more a b)
  where
    go : (p q : ℕ) (b : Bool) → eqb p c ≡ b → has_bit rest p ≡ (has_bit x p && not b)
        → ((b && has_bit (bit_and to (get_or shares c 0)) q) || sharing shares rest to p q) ≡ sharing shares x to p q
    go p q true e r = rw (r, eqb-true p c e, parted.there, and_bit to (get_or shares c 0) q) (or_false _)
    go p q false e r = rw (r, and_true (has_bit x p))

-- No leaf is left.
pub marked_over : (shares : List ℕ) (to x : ℕ) (s : List ℕ) (waiting : ℕ) → x ≡ 0 → MarkedBy (sharing shares x to) s waiting s waiting
marked_over shares to x s waiting e = marked_none (sharing shares x to) s waiting (λ p q h. rw (e, no_bit p))
