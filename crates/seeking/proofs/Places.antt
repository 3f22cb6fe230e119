-- Places of a line that are passed over: some more of them, and those of the rest of a line.
-- Assumes nothing.
use Rattle.std.proofs.Common.{◌≡◌, ℕ, ◌+◌, ◌-◌, ◌≤◌, ◌<◌, true, false, true≢false, refl, List, length, get_or, drop, length-drop, arith, ap, sym, ◌∙◌}
use Rattle.std.proofs.lemmas.List.{get_or-drop}
use native.Mathlib.Decide.{dec_lt, ℕ_discrete}
use lib.Bits.{bit_and}
use Rattle.seeking.specs.declared.How.{How}
use Rattle.seeking.specs.Hows.{among, Finds}
use Rattle.seeking.specs.Places.{Kind, Passed, Sought}

-- Byte k of a line is byte k - i of its rest from i on.
rest_byte : (w : List ℕ) (i k : ℕ) → i ≤ k → get_or (drop i w) (k - i) 0 ≡ get_or w k 0
rest_byte w i k h = get_or-drop i w (k - i) 0 ∙ ap (λ j. get_or w j 0) (omega arith)

-- Bytes of the kind before more of them.
pub kind_more : {masks w : List ℕ} {all kind i n : ℕ} → i ≤ length w → ((k : ℕ) → k < i → bit_and all (get_or masks (get_or w k 0) 0) ≡ kind) → Kind masks (drop i w) all kind 0 n → Kind masks w all kind 0 (i + n)
kind_more {masks} {w} {all} {kind} {i} {n} h before s = record {
  more = omega arith;
  within = λ _. omega (arith, s.within (omega arith), length-drop i w);
  alike = λ k g l. elim (dec_lt k i) [ yes b ↦ before k b | no b ↦ rw (rest_byte w i k (omega arith)) at (s.alike (k - i) (omega arith) (omega arith)) ];
  other = λ l e. s.other (omega (arith, length-drop i w)) (rw (get_or-drop i w n 0) e);
}

-- Bytes that are not looked for before bytes of which the set takes nothing.
pub sought_more : {masks w : List ℕ} {set : ℕ} {how : How} {i n : ℕ} → i ≤ length w → ((k : ℕ) → k < i → among how (get_or w k 0) ≡ false) → Kind masks (drop i w) set 0 0 n → Sought masks w set how 0 (i + n)
sought_more {masks} {w} {set} {how} {i} {n} h before s = record {
  more = omega arith;
  within = λ _. omega (arith, s.within (omega arith), length-drop i w);
  none = λ finds bytes k g l. elim (dec_lt k i) [ yes b ↦ untaken finds bytes k b | no b ↦ rw (rest_byte w i k (omega arith)) at (s.alike (k - i) (omega arith) (omega arith)) ];
  found = λ l e. s.other (omega (arith, length-drop i w)) (rw (get_or-drop i w n 0) e);
}
  where
    untaken : Finds masks set how → ((k : ℕ) → get_or w k 0 < 256) → (k : ℕ) → k < i → bit_and set (get_or masks (get_or w k 0) 0) ≡ 0
    untaken finds bytes k b = elim (ℕ_discrete (bit_and set (get_or masks (get_or w k 0) 0)) 0) [ yes e ↦ e | no e ↦ absurd (true≢false (sym (finds.all (get_or w k 0) (bytes k) e) ∙ before k b)) ]

-- What is so of the rest of a line is so from the place on where it begins.
pub passed_on : {masks w : List ℕ} {all kind i n : ℕ} → i ≤ length w → Kind masks (drop i w) all kind 0 n → Passed true masks w all kind i (i + n)
passed_on {masks} {w} {all} {kind} {i} {n} h s = record {
  more = omega arith;
  within = λ _. omega (arith, s.within (omega arith), length-drop i w);
  alike = λ k g l. (refl, rw (rest_byte w i k g) at (s.alike (k - i) (omega arith) (omega arith)));
  other = λ _ l e. s.other (omega (arith, length-drop i w)) (rw (get_or-drop i w n 0) e);
}

pub sought_on : {masks w : List ℕ} {set : ℕ} {how : How} {i n : ℕ} → i ≤ length w → Sought masks (drop i w) set how 0 n → Sought masks w set how i (i + n)
sought_on {masks} {w} {set} {how} {i} {n} h s = record {
  more = omega arith;
  within = λ _. omega (arith, s.within (omega arith), length-drop i w);
  none = λ finds bytes k g l. rw (rest_byte w i k g) at (s.none finds (λ j. rw (get_or-drop i w j 0) (bytes (i + j))) (k - i) (omega arith) (omega arith));
  found = λ l e. s.found (omega (arith, length-drop i w)) (rw (get_or-drop i w n 0) e);
}
