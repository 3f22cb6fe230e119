-- The greedy end: what is left to do over the rest of the line is the whole.
-- Assumes nothing.
use mathlib.Core.Path.{◌≡◌, refl, sym, ap, ◌∙◌, subst}
use mathlib.Core.Bool.{Bool, true, false, cond}
use mathlib.Core.List.{List, [], ◌∷◌, ◌++◌}
use mathlib.Core.Option.{Option, none, some}
use Prim.Native.Nat.{ℕ, zero, suc, ◌+◌, ◌-◌, ◌≤◌, ◌<◌}
use native.Mathlib.Omega.{arith}
use lib.ListN.{length, get_or, take, drop, drop_of_length-le}
use lib.Seq.{drop-cons}
use lib.Bits.{bit_and}
use Rattle.theory.specs.Pattern.{Re, count, Numbered}
use Rattle.theory.specs.Standing.{standing}
use Rattle.theory.specs.Standing as Theory
use Rattle.theory.specs.Code.Next.{next}
use Rattle.theory.specs.Code.Passes.{forward, farthest}
use Rattle.theory.proofs.Step.{step}
use Rattle.theory.proofs.Passes.{greedy_stop}
use Rattle.standing.specs.declared.Standing.{Standing}
use Rattle.standing.specs.Stands.{means, Arrays, Lent, Fine, Stands, First, Carried}
use Rattle.seeking.specs.Places.{Passed}
use Rattle.facts.specs.Moves.{Bytes}
use Rattle.std.specs.Prelude as Code
use Rattle.std.specs.Bool as Tests
use Rattle.ends.specs.Ends.{place_of, Ended}
use Rattle.ends.proofs.Runs.{next_alike}

module _ (r : Re) (f : Theory.Standing → Bool) (w : List ℕ) where
  forward_start : (i : ℕ) (s : Theory.Standing) (o : Option ℕ) → s ≡ standing r [] → o ≡ cond (f s) (some i) none → forward r f (drop i w) s i o ≡ farthest r f (drop i w) i
  forward_start i s o e q = ap (forward r f (drop i w) s i) q ∙ ap (λ v. forward r f (drop i w) v i (cond (f v) (some i) none)) e

  forward_turn : (i : ℕ) (s s' : Theory.Standing) (o o' : Option ℕ) → i < length w → s' ≡ next r s (get_or w i 0) → o' ≡ cond (f s') (some (suc i)) o
      → forward r f (drop (suc i) w) s' (suc i) o' ≡ forward r f (drop i w) s i o
  unfolding forward
  forward_turn i s s' o o' l e q = rw (drop-cons w i 0 l, q, e)

  forward_end : (i : ℕ) (s : Theory.Standing) (o : Option ℕ) → length w ≤ i → forward r f (drop i w) s i o ≡ o
  unfolding forward
  forward_end i s o l = rw (drop_of_length-le w l)

-- What the pass knows at the place i, from the start on: the standing is that of a line, and what is left to do is the whole.
pub record Ahead (r : Re) (w : List ℕ) (start i : ℕ) (s : Standing) (last : Option ℕ) : Type 0 where
  pub fine : Fine r s
  pub read : (v : List ℕ) × (means (count r) s ≡ standing r v)
  pub whole : forward r (λ s. s.first) (drop i w) (means (count r) s) i last ≡ farthest r (λ s. s.first) (drop start w) start

pub record Aheads (a : Arrays) (w : List ℕ) (start i : ℕ) (s : Standing) (last : Code.Option ℕ) : Type 0 where
  pub here : {r : Re} → Lent r a → Bytes w → Ahead r w start i s (place_of last)

module _ (r : Re) (w : List ℕ) (start : ℕ) (d : Numbered 0 r) where
  -- One byte more.
  ahead_byte : (i : ℕ) (s t : Standing) (last : Option ℕ) → i < length w → Ahead r w start i s last → Fine r t → means (count r) t ≡ next r (means (count r) s) (get_or w i 0)
      → Ahead r w start (suc i) t (cond t.first (some (suc i)) last)
  ahead_byte i s t last l before fine e = record {
    fine = fine;
    read = let (v, line) = before.read in (v ++ (get_or w i 0 ∷ []), e ∙ ap (λ u. next r u (get_or w i 0)) line ∙ sym (step r d v (get_or w i 0)));
    whole = forward_turn r (λ s. s.first) w i (means (count r) s) (means (count r) t) last _ l e refl ∙ before.whole;
  }

  -- Bytes that keep the standing: the last place is that of the last of them.
  ahead_kept : (n i : ℕ) (t : Standing) (last : Option ℕ) → i + n ≤ length w → ((k : ℕ) → i ≤ k → k < i + n → means (count r) t ≡ next r (means (count r) t) (get_or w k 0))
      → Ahead r w start i t (cond t.first (some i) last) → Ahead r w start (i + n) t (cond t.first (some (i + n)) last)
  ahead_kept zero i t last l keeps before = let e : i + 0 ≡ i = omega arith in rw e before
  ahead_kept (suc n) i t last l keeps before =
      let here = ahead_byte i t t _ (omega arith) before before.fine (keeps i (omega arith) (omega arith)) in
      let same = rw (later t.first i last) at here in
      let there = ahead_kept n (suc i) t last (omega arith) (λ k g h. keeps k (omega arith) (omega arith)) same in
      let e : suc i + n ≡ i + suc n = omega arith in
      rw e at there
    where
      later : (c : Bool) (i : ℕ) (o : Option ℕ) → cond c (some (suc i)) (cond c (some i) o) ≡ cond c (some (suc i)) o
      later true i o = refl
      later false i o = refl

-- The start itself, if (b) holds there.
pub first_place : (c : Bool) (i : ℕ) → place_of (Tests.then_some c i) ≡ cond c (some i) none
first_place true i = refl
first_place false i = refl

module _ {a : Arrays} {w : List ℕ} {start : ℕ} where
  pub ahead_start : {s : Standing} {last : Code.Option ℕ} → First a s → place_of last ≡ cond s.first (some start) none → Aheads a w start start s last
  ahead_start {s} {last} first g = record {
    here = λ {r} lent bytes.
        let x = first.stands lent in
        record { fine = x.fine; read = ([], x.is); whole = forward_start r (λ s. s.first) w start (means (count r) s) (place_of last) x.is g };
  }

  -- From i to j, where the byte at i carries s to t, and any byte after it that is passed over keeps t.
  module _ {i j : ℕ} {is : Bool} {s t : Standing} {last : Code.Option ℕ} (l : i < length w) (same : is ≡ true → s ≡ t)
      (passed : Passed is a.masks w s.all (bit_and s.all (get_or a.masks (get_or w i 0) 0)) (i + 1) j) (inv : Aheads a w start i s last) (carried : Carried a s (get_or w i 0) t) where
    turned : (r : Re) → Lent r a → Bytes w → Ahead r w start j t (cond t.first (some j) (place_of last))
    turned r lent bytes = subst (λ k. Ahead r w start k t (cond t.first (some k) (place_of last))) e there
      where
        before : Ahead r w start i s (place_of last)
        before = inv.here lent bytes

        after : Stands r t (next r (means (count r) s) (get_or w i 0))
        after = carried.stands lent (record { fine = before.fine; is = refl })

        within : j ≤ length w
        within = passed.within (omega arith)

        e : suc i + (j - suc i) ≡ j
        e = omega (arith, passed.more)

        keeps : (k : ℕ) → suc i ≤ k → k < suc i + (j - suc i) → means (count r) t ≡ next r (means (count r) t) (get_or w k 0)
        keeps k h l =
            let (yes-same, alike) = passed.alike k (omega arith) (omega arith) in
            let still = ap (means (count r)) (same yes-same) in
            let (v, line) = before.read in
            after.is ∙ sym (next_alike lent w bytes s before.fine v line i k alike) ∙ ap (λ u. next r u (get_or w k 0)) still

        there : Ahead r w start (suc i + (j - suc i)) t (cond t.first (some (suc i + (j - suc i))) (place_of last))
        there =
            ahead_kept r w start lent.numbered (j - suc i) (suc i) t (place_of last) (omega (arith, within)) keeps
            (ahead_byte r w start lent.numbered i s t (place_of last) l before after.fine after.is)

    pub ahead_turn : {last' : Code.Option ℕ} → place_of last' ≡ cond t.first (some j) (place_of last) → Aheads a w start j t last'
    ahead_turn g = record { here = λ {r} lent bytes. rw g (turned r lent bytes) }

  pub ahead_end : {i : ℕ} {s : Standing} {last : Code.Option ℕ} → length w ≤ i → Aheads a w start i s last → Ended a w start last
  ahead_end {i} {s} {last} l inv = record { last = λ {r} lent bytes. sym (forward_end r (λ s. s.first) w i (means (count r) s) (place_of last) l) ∙ (inv.here lent bytes).whole }

  -- Where no leaf of (a) is wanted any more, nothing is left to do.
  pub ahead_over : {i : ℕ} {s : Standing} {last : Code.Option ℕ} → s.n ≡ 0 → Aheads a w start i s last → Ended a w start last
  ahead_over {i} {s} {last} over inv = record {
    last = λ {r} lent bytes. sym (greedy_stop r lent.numbered (drop i w) (means (count r) s) i (place_of last) (ap (λ n. take n s.list) over)) ∙ (inv.here lent bytes).whole;
  }
