-- A byte as the code has it, and the blocks after a span is found: what is left to do over the rest of the line is the whole.
-- Assumes nothing.
use mathlib.Core.Path.{◌≡◌, refl, sym, ap, ◌∙◌}
use mathlib.Core.List.{List, [], append-nil}
use Rattle.std.specs.Prelude.{Option, Some, None}
use Rattle.std.specs.Option.{unwrap_or}
use Prim.Native.Nat.{ℕ, suc, ◌+◌, ◌≤◌, ◌<◌}
use native.Mathlib.Omega.{arith}
use native.Mathlib.Numerals.{add-one}
use lib.ListN.{length, get_or, drop, drop_of_length-le}
use lib.Seq.{drop-cons}
use Rattle.theory.specs.Pattern.{Re, count}
use Rattle.theory.specs.Spans.{Span, span}
use Rattle.facts.specs.Sets.{leaves_in}
use Rattle.facts.specs.Moves.{Bytes, Moves}
use Rattle.blocks.specs.Blocks.{State, carry, step}
use Rattle.blocks.specs.Answer.{last_end, answer}
use Rattle.blocks.proofs.Answer.{step_answer, first_of_end}
use Rattle.blocks.proofs.Bound.{step_apart, apart_size}
use Rattle.blocks.proofs.Posix.{or_none_lem}
use Rattle.ends.specs.Ends.{place_of, Last}
use Rattle.starts.specs.declared.Blocks.{Blocks}
use Rattle.starts.specs.declared.Carry.{Carry}
use Rattle.starts.specs.declared.Span as Code
use Rattle.starts.specs.Blocks.{blocks_of, state_of, Going, Sized, Byte, OnAll, Finished}

-- One byte on.
pub answer_next : (r : Re) (w : List ℕ) (i : ℕ) (s : State) → i < length w → answer r (drop (suc i) w) (suc i) (step r (get_or w i 0) i s) ≡ answer r (drop i w) i s
answer_next r w i s l = step_answer r (get_or w i 0) (drop (suc i) w) i s ∙ rw (drop-cons w i 0 l)

pub byte_at : {r : Re} {masks sets : List ℕ} {ending : ℕ} (w : List ℕ) (i : ℕ) → Moves r masks sets ending → Bytes w → Byte r sets (get_or masks (get_or w i 0) 0) ending (i + 1) (get_or w i 0) i
byte_at {masks = masks} w i moves bytes = record { masks = masks; moves = moves; byte = bytes i; mask_is = refl; end_is = add-one i }

-- The span of a block with an end, or else the best so far.
abbrev pub found_or : Option Code.Span → Span → Span
found_or None best = best
found_or (Some s) best = span s.start s.end

-- A byte is done: the state is what the code has.
pub going_done : {r : Re} {b j : ℕ} {best : Span} {t : State} {x : Blocks} {c : Carry} → Going r b j best [] t x c → state_of r x (found_or c.found best) ≡ t
unfolding carry
going_done {r} {best = best} {t = t} {x} {c} g = go c.found refl
  where
    go : (o : Option Code.Span) → c.found ≡ o → state_of r x (found_or o best) ≡ t
    go (Some s) e = g.shut s e
    go None e = let (taken, bits, is) = g.ahead e in ap (λ l. record { blocks = l; best = best }) (sym (append-nil (blocks_of r x 0 x.n))) ∙ is

all_done : {r : Re} {sets : List ℕ} {end mask ending b j : ℕ} {x x' : Blocks} {c : Carry} (f e : ℕ) → Byte r sets mask ending end b j → OnAll sets end mask ending x x' c
    → state_of r x' (found_or c.found (span f e)) ≡ step r b j (state_of r x (span f e))
unfolding step
all_done {r} {b = b} {j} {x} f e y o =
    let s = state_of r x (span f e) in
    going_done (o.going r b j y (span f e) [] _ (omega (arith, apart_size r _ (step_apart r b j s), y.moves.most)) refl)

-- What is left to do at the place i is the whole.
pub record Finishing (masks sets w : List ℕ) (ending origin : ℕ) (x₀ : Blocks) (found : Code.Span) (i : ℕ) (x : Blocks) (best : Code.Span) : Type 0 where
  pub sized : Sized x
  pub small : x.n ≤ 64
  pub whole : {r : Re} → Moves r masks sets ending → Bytes w
      → answer r (drop i w) i (state_of r x (span best.start best.end)) ≡ answer r (drop origin w) origin (state_of r x₀ (span found.start found.end))

-- The span of one of two.
picked : (o : Option Code.Span) (y : Code.Span) → span (unwrap_or o y).start (unwrap_or o y).end ≡ found_or o (span y.start y.end)
picked None y = refl
picked (Some x) y = refl

module _ {masks sets w : List ℕ} {ending origin : ℕ} {x₀ : Blocks} {found : Code.Span} where
  pub finish_begin : Sized x₀ × (x₀.n ≤ 64) → Finishing masks sets w ending origin x₀ found origin x₀ found
  finish_begin (sized, small) = record { sized = sized; small = small; whole = λ moves bytes. refl }

  module _ {i : ℕ} {x : Blocks} {best : Code.Span} (inv : Finishing masks sets w ending origin x₀ found i x best) where
    pub finish_turn : {x' : Blocks} {c : Carry} → i < length w → OnAll sets (i + 1) (get_or masks (get_or w i 0) 0) ending x x' c
        → Finishing masks sets w ending origin x₀ found (i + 1) x' (unwrap_or c.found best)
    finish_turn {x'} {c = c} l o = record {
      sized = o.sized;
      small = omega (arith, o.most, inv.small);
      whole = λ {r} moves bytes.
          let state-is = ap (state_of r x') (picked c.found best) ∙ all_done best.start best.end (byte_at w i moves bytes) o in
          rw (add-one i) (ap (answer r (drop (suc i) w) (suc i)) state-is ∙ answer_next r w i _ l ∙ inv.whole moves bytes);
    }

    -- What is left to do is known.
    finished : {last : Code.Span} → ((r : Re) → Moves r masks sets ending → Bytes w → answer r (drop i w) i (state_of r x (span best.start best.end)) ≡ span last.start last.end)
        → Finished masks sets w ending origin x₀ found last
    finished h = record { answers = λ {r} moves bytes. sym (inv.whole moves bytes) ∙ h r moves bytes }

    pub finish_end : length w ≤ i → Finished masks sets w ending origin x₀ found best
    finish_end l = finished λ r moves bytes. rw (drop_of_length-le w l) (first_of_end r i (blocks_of r x 0 x.n) _)

    -- No block is left,
    pub finish_none : x.n ≡ 0 → Finished masks sets w ending origin x₀ found best
    finish_none z = finished λ r moves bytes. rw z

    -- or one, with an end or without one.
    module _ {e : Option ℕ} (z : x.n ≡ 1) (o : Last masks sets w ending i (get_or x.sets 0 0) None e) where
      last_is : (r : Re) → Moves r masks sets ending → Bytes w → last_end r (leaves_in (count r) (get_or x.sets 0 0)) (drop i w) i ≡ place_of e
      last_is r moves bytes = sym (o.last moves bytes ∙ or_none_lem r _)

      pub finish_one : {end : ℕ} → e ≡ Some end → Finished masks sets w ending origin x₀ found (record { start = get_or x.starts 0 0; end = end })
      finish_one k = finished λ r moves bytes. rw (z, last_is r moves bytes, k)

      pub finish_other : e ≡ None → Finished masks sets w ending origin x₀ found best
      finish_other k = finished λ r moves bytes. rw (z, last_is r moves bytes, k)
