-- The pass that keeps all leaves that any start wants as one set: each start since `base` has had no end, and what it wants is in the set.
-- Assumes nothing.
use mathlib.Core.Path.{◌≡◌, refl, sym, ap, ◌∙◌, subst}
use mathlib.Core.Bool.{true, false, true≢false}
use mathlib.Core.List.{List}
use Prim.Native.Nat.{ℕ, zero, suc, ◌+◌, ◌-◌, ◌≤◌, ◌<◌}
use native.Mathlib.Omega.{arith}
use native.Mathlib.Decide.{ℕ_discrete}
use lib.ListN.{length, get_or, drop}
use lib.Dec.{T, eqb}
use lib.Bits.{bit_and, bit_or}
use borrow.Author.Tests.{eqb-true}
use Rattle.theory.specs.Pattern.{Re, count}
use Rattle.theory.specs.Standing.{wanted, member, set_of, from}
use Rattle.theory.specs.Code.Follow.{has_end}
use Rattle.theory.specs.Code.Next.{afters}
use Rattle.theory.proofs.Members.{Within}
use Rattle.words.specs.Sets.{has_bit}
use Rattle.words.proofs.Bits.{and_bit, no_bit}
use Rattle.seeking.specs.declared.How.{How}
use Rattle.seeking.specs.Hows.{Finds}
use Rattle.seeking.specs.Places.{Sought, Passed}
use Rattle.facts.specs.Sets.{leaves_in, Wants, Nexts}
use Rattle.facts.specs.Moves.{Bytes, Moves}
use Rattle.facts.proofs.Bits.{none_in}
use Rattle.facts.proofs.Rows.{leaf_in, carried_leaves}
use Rattle.facts.proofs.Taken.{union_first, union_second, untaken, agree, no_end}
use Rattle.blocks.specs.Blocks.{firsts}
use Rattle.blocks.specs.Answer.{later}
use Rattle.blocks.proofs.Opening.{afters_same, jumped, Held, held_none, held_next, held_empty, held_quiet}
use Rattle.std.specs.Prelude.{Option, Some, None}
use Rattle.starts.specs.Opens.{Watched, Opened}

-- No leaf of a number that is one of the three.
no_bits : (x y z p : ℕ) → bit_and (bit_and x y) z ≡ 0 → has_bit x p ≡ true → has_bit y p ≡ true → has_bit z p ≡ true → ⊥
no_bits x y z p e a b c = true≢false (sym (and_bit (bit_and x y) z p ∙ rw (and_bit x y p, a, b, c)) ∙ ap (λ n. has_bit n p) e ∙ no_bit p)

-- Bytes that begin no match.
leapt : {r : Re} {masks sets w : List ℕ} {ending : ℕ} {begins : How} → Moves r masks sets ending → Finds masks (get_or sets 0 0) begins → Bytes w → (i k : ℕ) → i ≤ length w → Sought masks w (get_or sets 0 0) begins i k
    → later r (drop i w) i ≡ later r (drop k w) k
leapt {r} {sets = sets} {w = w} moves finds bytes i k h s =
    jumped r w i k s.more (s.within h) λ m a b p t.
    untaken moves (get_or w m 0) (get_or sets 0 0) (bytes m) (s.none finds bytes m a b) p (subst (λ l. T (member p l)) (sym moves.first) t)

-- What the pass knows at the place i.
pub record Opening (masks sets next : List ℕ) (begins closes : How) (w : List ℕ) (base i set : ℕ) : Type 0 where
  pub before : base ≤ i
  pub in_line : i ≤ length w
  pub held : {r : Re} → Moves r masks sets (get_or next 256 0) → Nexts masks sets next → Finds masks (get_or sets 0 0) begins → Bytes w → Held r w base i (leaves_in (count r) set)
  pub whole : {r : Re} → Moves r masks sets (get_or next 256 0) → Nexts masks sets next → Finds masks (get_or sets 0 0) begins → Bytes w → later r (drop base w) base ≡ later r w 0

module _ {masks sets next : List ℕ} {begins closes : How} {w : List ℕ} where
  pub opening_begin : {i : ℕ} → Sought masks w (get_or sets 0 0) begins 0 i → Opening masks sets next begins closes w i i 0
  opening_begin {i} s = record {
    before = omega arith;
    in_line = s.within (omega arith);
    held = λ {r} moves nexts finds bytes. held_none r w i (leaves_in (count r) 0);
    whole = λ moves nexts finds bytes. sym (leapt moves finds bytes 0 i (omega arith) s);
  }

  -- A byte by which no leaf has an end.
  module _ {base i set x : ℕ} (l : i < length w) (inv : Opening masks sets next begins closes w base i set)
      (quiet : bit_and (bit_and (bit_or set (get_or sets 0 0)) (get_or masks (get_or w i 0) 0)) (get_or next 256 0) ≡ 0) (wants : Wants sets (bit_and set (get_or masks (get_or w i 0) 0)) x) where
    abbrev all : ℕ
    all = bit_or set (get_or sets 0 0)

    abbrev to : ℕ
    to = bit_or x (get_or next (get_or w i 0) 0)

    module _ (r : Re) (moves : Moves r masks sets (get_or next 256 0)) (nexts : Nexts masks sets next) (bytes : Bytes w) where
      abbrev u : ℕ → List ℕ
      u y = leaves_in (count r) y

      in_all : Within (u set) (u all)
      in_all = union_first (count r) set (get_or sets 0 0)

      first_in_all : Within (firsts r) (u all)
      first_in_all = subst (λ m. Within m (u all)) moves.first (union_second (count r) set (get_or sets 0 0))

      -- What the byte at i makes of a set, for each byte of its kind.
      module _ (k : ℕ) (kind : bit_and all (get_or masks (get_or w k 0) 0) ≡ bit_and all (get_or masks (get_or w i 0) 0)) where
        alike : (m : List ℕ) → Within m (u all) → afters r (get_or w k 0) m ≡ afters r (get_or w i 0) m
        alike m h = afters_same r (get_or w k 0) (get_or w i 0) m λ p t. agree moves (get_or w k 0) (get_or w i 0) all (bytes k) (bytes i) kind p (h p t)

        no_ends : has_end (afters r (get_or w k 0) (u all)) ≡ false
        no_ends = ap has_end (alike (u all) (λ p t. t)) ∙ no_end moves (get_or w i 0) (bytes i) (u all) λ p m t e. no_bits all (get_or masks (get_or w i 0) 0) (get_or next 256 0) p quiet (leaf_in (count r) all p m).1 t e

        old_in : Within (set_of r (wanted (afters r (get_or w k 0) (u set)))) (u to)
        old_in =
            subst (λ m. Within m (u to)) (carried_leaves (moves.takes (get_or w i 0) (bytes i) set x wants) ∙ ap (λ o. set_of r (wanted o)) (sym (alike (u set) in_all)))
            (union_first (count r) x (get_or next (get_or w i 0) 0))

        new_in : Within (set_of r (wanted (afters r (get_or w k 0) (firsts r)))) (u to)
        new_in =
            subst (λ m. Within m (u to))
            (carried_leaves (moves.takes (get_or w i 0) (bytes i) (get_or sets 0 0) (get_or next (get_or w i 0) 0) (nexts.wants (get_or w i 0) (bytes i)))
            ∙ ap (λ m. set_of r (wanted (afters r (get_or w i 0) m))) moves.first
            ∙ ap (λ o. set_of r (wanted o)) (sym (alike (firsts r) first_in_all)))
            (union_second (count r) x (get_or next (get_or w i 0) 0))

      on : Held r w base i (u set) → Held r w base (suc i) (u to)
      on h = held_next r w base i (u set) (u all) (u to) l h in_all first_in_all (no_ends i refl) (old_in i refl) (new_in i refl)

      -- d bytes of that kind, where the set stays as it is.
      stays : set ≡ to → (d m : ℕ) → m + d ≤ length w → ((k : ℕ) → m ≤ k → k < m + d → bit_and all (get_or masks (get_or w k 0) 0) ≡ bit_and all (get_or masks (get_or w i 0) 0)) → Held r w base m (u to) → Held r w base (m + d) (u to)
      stays e zero m h kinds held = let z : m ≡ m + 0 = omega arith in subst (λ k. Held r w base k (u to)) z held
      stays e (suc d) m h kinds held =
          let z : suc m + d ≡ m + suc d = omega arith in
          let kind = kinds m (omega arith) (omega arith) in
          let here = held_next r w base m (u set) (u all) (u to) (omega arith) (subst (λ y. Held r w base m (u y)) (sym e) held) in_all first_in_all (no_ends m kind) (old_in m kind) (new_in m kind) in
          subst (λ k. Held r w base k (u to)) z (stays e d (suc m) (omega arith) (λ k a b. kinds k (omega arith) (omega arith)) here)

    module _ {j : ℕ} (passed : Passed (eqb set to) masks w all (bit_and all (get_or masks (get_or w i 0) 0)) (i + 1) j) where
      within : j ≤ length w
      within = passed.within (omega arith)

      run : {r : Re} → Moves r masks sets (get_or next 256 0) → Nexts masks sets next → Finds masks (get_or sets 0 0) begins → Bytes w → Held r w base j (leaves_in (count r) to)
      run {r} moves nexts finds bytes = go (ℕ_discrete (i + 1) j)
        where
          first : Held r w base (suc i) (leaves_in (count r) to)
          first = on r moves nexts bytes (inv.held moves nexts finds bytes)

          go : Dec (i + 1 ≡ j) → Held r w base j (leaves_in (count r) to)
          go (yes e) = let z : suc i ≡ j = omega arith in subst (λ k. Held r w base k (leaves_in (count r) to)) z first
          go (no n) =
              let more = passed.more in
              let same = eqb-true set to (passed.alike (i + 1) (omega arith) (omega arith)).0 in
              let z : suc i + (j - suc i) ≡ j = omega arith in
              subst (λ k. Held r w base k (leaves_in (count r) to)) z (stays r moves nexts bytes same (j - suc i) (suc i) (omega (arith, within)) (λ k a b. (passed.alike k (omega arith) (omega arith)).1) first)

      -- Where no leaf is wanted, bytes that begin no match are passed over,
      pub opening_jump : {k : ℕ} → to ≡ 0 → Sought masks w (get_or sets 0 0) begins j k → Opening masks sets next begins closes w k k to
      opening_jump {k} z s = record {
        before = omega arith;
        in_line = s.within within;
        held = λ {r} moves nexts finds bytes. held_none r w k (leaves_in (count r) to);
        whole = λ {r} moves nexts finds bytes.
            sym (leapt moves finds bytes j k within s)
            ∙ sym (held_empty r w base j (omega (arith, inv.before, passed.more)) within (subst (Held r w base j) (none_in to (from 0 (count r)) z) (run moves nexts finds bytes)))
            ∙ inv.whole moves nexts finds bytes;
      }

      -- and else it goes on there.
      pub opening_on : Opening masks sets next begins closes w base j to
      opening_on = record { before = omega (arith, inv.before, passed.more); in_line = within; held = run; whole = inv.whole }

  -- An end is near, no end can come any more, and the line is over.
  pub opening_found : {base i set : ℕ} → Opening masks sets next begins closes w base i set → Opened masks sets next begins closes w (Some base)
  opening_found inv = record { opens = λ moves nexts begins closes bytes. inv.whole moves nexts begins bytes }

  pub opening_over : {base i set : ℕ} {stop : Option ℕ} → Opening masks sets next begins closes w base i set → Watched masks w (get_or next 256 0) closes i stop → stop ≡ None → Opened masks sets next begins closes w None
  opening_over {base} {i} {set} inv watched z = record {
    opens = λ {r} moves nexts begins closes bytes.
        sym (held_quiet r w base i (leaves_in (count r) set) inv.before inv.in_line (inv.held moves nexts begins bytes) λ k a b m.
        no_end moves (get_or w k 0) (bytes k) m λ p t x y. true≢false (sym (and_bit (get_or next 256 0) (get_or masks (get_or w k 0) 0) p ∙ rw (x, y)) ∙ ap (λ n. has_bit n p) (watched.none z closes bytes k a b) ∙ no_bit p))
        ∙ inv.whole moves nexts begins bytes;
  }

  pub opening_end : {base i set : ℕ} → Opening masks sets next begins closes w base i set → length w ≤ i → Opened masks sets next begins closes w None
  opening_end {base} {i} {set} inv h = record {
    opens = λ {r} moves nexts begins closes bytes.
        sym (held_quiet r w base i (leaves_in (count r) set) inv.before inv.in_line (inv.held moves nexts begins bytes) (λ k a b. absurd (omega arith))) ∙ inv.whole moves nexts begins bytes;
  }

  -- In an empty line no byte begins a match.
  pub opened_empty : length w ≤ 0 → Opened masks sets next begins closes w None
  opened_empty h = opening_end (opening_begin (record { more = omega arith; within = λ _. omega arith; none = λ _ _ k g l. absurd (omega arith); found = λ l _. absurd (omega arith) })) h
