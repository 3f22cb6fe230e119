-- The search for the first span: what is left to do over the rest of the line is the whole, and bytes that keep one block as it is may be passed over.
-- Assumes nothing.
use mathlib.Core.Path.{◌≡◌, sym, ap, ◌∙◌}
use mathlib.Core.Bool.{Bool}
use mathlib.Core.List.{List}
use Prim.Native.Nat.{ℕ, zero, suc, ◌+◌, ◌≤◌, ◌<◌}
use native.Mathlib.Omega.{arith}
use native.Mathlib.Decide.{dec_lt}
use native.Mathlib.Numerals.{add-one}
use lib.ListN.{length, get_or, drop, drop_of_length-le}
use lib.Bits.{bit_and, bit_or}
use Rattle.theory.specs.Pattern.{Re, count}
use Rattle.theory.specs.Spans.{nowhere}
use Rattle.theory.specs.Code.Next.{afters}
use Rattle.theory.proofs.Members.{Within}
use Rattle.seeking.specs.Places.{Passed}
use Rattle.facts.specs.Sets.{leaves_in, Nexts}
use Rattle.facts.specs.Moves.{Bytes, Moves}
use Rattle.facts.proofs.Taken.{union_first, union_second, agree}
use Rattle.blocks.specs.Blocks.{State, firsts, carry, step}
use Rattle.blocks.specs.Answer.{later, answer}
use Rattle.blocks.proofs.Answer.{first_of_end}
use Rattle.blocks.proofs.Stills.{lone, still}
use Rattle.blocks.proofs.Opening.{afters_same}
use Rattle.starts.specs.declared.Blocks.{Blocks}
use Rattle.starts.specs.declared.Carry.{Carry}
use Rattle.starts.specs.declared.First.{First}
use Rattle.starts.specs.declared.Span as Code
use Rattle.std.specs.Prelude.{Some, None}
use Rattle.starts.specs.Blocks.{blocks_of, state_of, first_of, Sized, Stepped, Kept, Finished, Searched}
use Rattle.starts.proofs.Finishing.{answer_next, byte_at, going_done, found_or}

-- Bytes that keep a state are passed over.
pass_over : (r : Re) (w : List ℕ) (s : State) (i j : ℕ) → i ≤ j → j ≤ length w → ((k : ℕ) → i ≤ k → k < j → step r (get_or w k 0) k s ≡ s) → answer r (drop j w) j s ≡ answer r (drop i w) i s
pass_over r w s i zero h g keeps = let e : i ≡ 0 = omega arith in rw e
pass_over r w s i (suc j) h g keeps = elim (dec_lt j i) [
  | yes l ↦ (let e : i ≡ suc j = omega arith in rw e)
  | no l ↦ ap (answer r (drop (suc j) w) (suc j)) (sym (keeps j (omega arith) (omega arith))) ∙ answer_next r w j s (omega arith) ∙ pass_over r w s i j (omega arith) (omega arith) (λ k a b. keeps k a (omega arith))
]

-- Two bytes of one kind: the leaves of x and the first ones do not tell them apart.
module _ {r : Re} {masks sets : List ℕ} {ending : ℕ} (moves : Moves r masks sets ending) (w : List ℕ) (bytes : Bytes w) (i k x : ℕ)
    (kind : bit_and (bit_or x (get_or sets 0 0)) (get_or masks (get_or w k 0) 0) ≡ bit_and (bit_or x (get_or sets 0 0)) (get_or masks (get_or w i 0) 0)) where
  -- One block that the byte at i keeps, where i is after its start, the byte at k keeps too.
  lone_alike : (f : ℕ) → f < i → step r (get_or w i 0) i (lone f (leaves_in (count r) x)) ≡ lone f (leaves_in (count r) x) → step r (get_or w k 0) k (lone f (leaves_in (count r) x)) ≡ lone f (leaves_in (count r) x)
  unfolding step carry
  lone_alike f h keeps = rw (old, new) (still r (get_or w i 0) f (leaves_in (count r) x) i k h keeps)
    where
      alike : (l : List ℕ) → Within l (leaves_in (count r) (bit_or x (get_or sets 0 0))) → afters r (get_or w k 0) l ≡ afters r (get_or w i 0) l
      alike l h = afters_same r (get_or w k 0) (get_or w i 0) l λ p t. agree moves (get_or w k 0) (get_or w i 0) (bit_or x (get_or sets 0 0)) (bytes k) (bytes i) kind p (h p t)

      old : afters r (get_or w k 0) (leaves_in (count r) x) ≡ afters r (get_or w i 0) (leaves_in (count r) x)
      old = alike (leaves_in (count r) x) (union_first (count r) x (get_or sets 0 0))

      new : afters r (get_or w k 0) (firsts r) ≡ afters r (get_or w i 0) (firsts r)
      new = rw (← moves.first) (alike (leaves_in (count r) (get_or sets 0 0)) (union_second (count r) x (get_or sets 0 0)))

-- What is left to do at the place i is the whole.
pub record Searching (masks sets next w : List ℕ) (origin i : ℕ) (x : Blocks) : Type 0 where
  pub sized : Sized x
  pub small : x.n ≤ 64
  pub whole : {r : Re} → Moves r masks sets (get_or next 256 0) → Nexts masks sets next → Bytes w → answer r (drop i w) i (state_of r x nowhere) ≡ later r (drop origin w) origin

module _ {masks sets next w : List ℕ} {origin : ℕ} where
  pub search_begin : {x : Blocks} → Sized x → x.n ≡ 0 → Searching masks sets next w origin origin x
  search_begin sized z = record { sized = sized; small = omega arith; whole = λ moves nexts bytes. rw z }

  module _ {i : ℕ} {x : Blocks} (inv : Searching masks sets next w origin i x) where
    pub search_end : length w ≤ i → Searched masks sets next w origin None
    unfolding later
    search_end l = record { finds = λ {r} moves nexts bytes. sym (inv.whole moves nexts bytes) ∙ rw (drop_of_length-le w l) (first_of_end r i (blocks_of r x 0 x.n) _) }

    -- A step,
    module _ {x' : Blocks} {c : Carry} (l : i < length w) (o : Stepped sets i (i + 1) (get_or masks (get_or w i 0) 0) (get_or next (get_or w i 0) 0) (get_or next 256 0) x x' c) where
      stepped : {r : Re} → Moves r masks sets (get_or next 256 0) → Nexts masks sets next → Bytes w → state_of r x' (found_or c.found nowhere) ≡ step r (get_or w i 0) i (state_of r x nowhere)
      stepped {r} moves nexts bytes = going_done (o.going r (get_or w i 0) (byte_at w i moves bytes) (nexts.wants (get_or w i 0) (bytes i)))

      onward : {r : Re} → Moves r masks sets (get_or next 256 0) → Nexts masks sets next → Bytes w → answer r (drop (suc i) w) (suc i) (state_of r x' (found_or c.found nowhere)) ≡ later r (drop origin w) origin
      onward {r} moves nexts bytes = ap (answer r (drop (suc i) w) (suc i)) (stepped moves nexts bytes) ∙ answer_next r w i _ l ∙ inv.whole moves nexts bytes

      -- with a span,
      pub search_found : {found best : Code.Span} → c.found ≡ Some found → Finished masks sets w (get_or next 256 0) (i + 1) x' found best → Searched masks sets next w origin (Some best)
      search_found shut f = record { finds = λ {r} moves nexts bytes. sym (rw shut at (onward moves nexts bytes)) ∙ (rw (add-one i) at (f.answers moves bytes)) }

      -- and without one.
      pub search_turn : {is : Bool} {j : ℕ} → c.found ≡ None → Kept is i (first_of x) (first_of x')
          → Passed is masks w (bit_or (get_or x.sets 0 0) (get_or sets 0 0)) (bit_and (bit_or (get_or x.sets 0 0) (get_or sets 0 0)) (get_or masks (get_or w i 0) 0)) (i + 1) j → Searching masks sets next w origin j x'
      search_turn {j = j} op kept passed = record {
        sized = o.sized;
        small = o.small;
        whole = λ {r} moves nexts bytes.
            pass_over r w (state_of r x' nowhere) (suc i) j (omega (arith, passed.more)) (omega (arith, passed.within (omega arith))) (keeps r moves nexts bytes)
            ∙ (rw op at (onward moves nexts bytes));
      }
        where
          keeps : (r : Re) → Moves r masks sets (get_or next 256 0) → Nexts masks sets next → Bytes w → (k : ℕ) → suc i ≤ k → k < j → step r (get_or w k 0) k (state_of r x' nowhere) ≡ state_of r x' nowhere
          keeps r moves nexts bytes k g h =
              let (yes-is, kind) = passed.alike k (omega arith) (omega arith) in
              let (same, one, before) = kept yes-is in
              let one' : x'.n ≡ 1 = sym (ap (λ (f : First). f.n) same) ∙ one in
              let set_same : get_or x.sets 0 0 ≡ get_or x'.sets 0 0 = ap (λ (f : First). f.set) same in
              let start-same : get_or x.starts 0 0 ≡ get_or x'.starts 0 0 = ap (λ (f : First). f.start) same in
              let step_is = rw (op, one, one', ← set_same, ← start-same) at (stepped moves nexts bytes) in
              rw (one', ← set_same, ← start-same) (lone_alike moves w bytes i k (get_or x.sets 0 0) kind (get_or x.starts 0 0) before (sym step_is))
