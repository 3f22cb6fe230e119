-- Both spans of a line from the POSIX span and the greedy end.
-- Assumes nothing.
use mathlib.Core.Path.{◌≡◌, refl, sym, ap, ◌∙◌}
use mathlib.Core.List.{List, [], ◌∷◌}
use Prim.Native.Nat.{ℕ, zero, suc, ◌≤◌, min}
use native.Mathlib.Omega.{arith}
use native.Mathlib.Decide.{dec_lt}
use lib.ListN.{length, take, drop}
use Rattle.theory.specs.Pattern.{Re}
use Rattle.theory.specs.Spans.{nowhere, span, span_or, greedy, posix}
use Rattle.theory.specs.Code.Passes.{farthest}
use Rattle.theory.proofs.Demand.{both_none}
use Rattle.facts.specs.Moves.{Bytes}
use Rattle.blocks.proofs.Greedy.{greedy_upto}
use Rattle.ends.specs.Ends.{place_of, Ended}
use Rattle.std.specs.Prelude.{Option, Some, None}
use Rattle.std.specs.Option.{unwrap_or}
use Rattle.starts.specs.declared.Span as Code
use Rattle.starts.specs.Spans.{Found}
use Rattle.matchers.specs.Tables.{Tables}
use Rattle.matchers.specs.Cuts.{Cuts}

-- The line up to the POSIX end.
take_all : (n : ℕ) (w : List ℕ) → length w ≤ n → take n w ≡ w
take_all zero [] h = refl
take_all zero (b ∷ w) h = absurd (omega arith)
take_all (suc n) [] h = refl
take_all (suc n) (b ∷ w) h = ap (λ l. b ∷ l) (take_all n w (omega arith))

take_least : (n j : ℕ) (w : List ℕ) → n ≡ min j (length w) → take n w ≡ take j w
take_least n j w e = elim (dec_lt j (length w)) [ yes h ↦ (let same : n ≡ j = omega arith in rw same) | no h ↦ take_all n w (omega arith) ∙ sym (take_all j w (omega arith)) ]

bytes_take : (n : ℕ) (w : List ℕ) → Bytes w → Bytes (take n w)
bytes_take zero w h k = omega arith
bytes_take (suc n) [] h k = omega arith
bytes_take (suc n) (b ∷ w) h zero = h 0
bytes_take (suc n) (b ∷ w) h (suc k) = bytes_take n w (λ i. h (suc i)) k

no_span : {i j : ℕ} → span i j ≡ nowhere → ⊥
no_span e = let z : ◌≡◌ {A = ℕ} 0 1 = cc in omega arith

module _ {t : Tables} {w : List ℕ} (bytes : Bytes w) where
  pub cut_none : Found t.arrays.masks t.arrays.sets t.arrays.ends t.facts w None → Cuts t w None
  cut_none found = record {
    cut = λ {r} own.
        let p : nowhere ≡ posix r w = found.posix_is own.lent own.known bytes in
        record { greedily = sym ((both_none r w).1 (sym p)); longest = p };
  }

  -- The greedy end is there if the POSIX end is.
  pub cut_some : {b : Code.Span} {n : ℕ} {e : Option ℕ} → Found t.arrays.masks t.arrays.sets t.arrays.ends t.facts w (Some b) → n ≡ min b.end (length w) → Ended t.arrays (take n w) b.start e
      → Cuts t w (Some (record { start = b.start; greedy = unwrap_or e 0; posix = b.end }))
  cut_some {b} {n} {e} found least ended = record {
    cut = λ {r} own.
        let p : span b.start b.end ≡ posix r w = found.posix_is own.lent own.known bytes in
        let g : greedy r w ≡ span_or b.start (place_of e) nowhere =
        greedy_upto r own.lent.numbered w b.start b.end (sym p)
        ∙ ap (λ l. span_or b.start (farthest r (λ s. s.first) (drop b.start l) b.start) nowhere) (sym (take_least n b.end w least))
        ∙ ap (λ o. span_or b.start o nowhere) (sym (ended.last own.lent (bytes_take n w bytes))) in
        record { greedily = go r p e g; longest = p };
  }
    where
      go : (r : Re) → span b.start b.end ≡ posix r w → (e : Option ℕ) → greedy r w ≡ span_or b.start (place_of e) nowhere → span b.start (unwrap_or e 0) ≡ greedy r w
      go r p (Some j) g = sym g
      go r p None g = absurd (no_span (p ∙ (both_none r w).0 g))
