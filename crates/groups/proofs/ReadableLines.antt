-- Readable lines: the code's steps, and what they mean for a pattern.
-- Assumes nothing.
use mathlib.Core.Path.{◌≡◌, refl, sym, ap, ◌∙◌}
use mathlib.Core.Bool.{Bool, true, false, cond}
use mathlib.Core.List.{List, [], ◌∷◌, ◌++◌, map, map-append}
use Prim.Native.Nat.{ℕ, suc, ◌+◌, ◌<◌}
use native.Mathlib.Omega.{arith}
use lib.ListN.{length, get_or, set, take, drop, length-map}
use lib.Seq.{drop-cons, take-suc, length-take-le, append_snoc, set_at, get_or_at}
use lib.Dec.{T, eqb→eq}
use Rattle.theory.specs.Pattern.{Re, Numbered, SameGroup}
use Rattle.theory.specs.Spans.{greedy, posix, CutDifferently}
use Rattle.theory.specs.Standing.{member, from}
use Rattle.theory.proofs.Tests.{true_T, or_cases, either, same_test}
use Rattle.theory.proofs.Members.{member_append, from_range}
use Rattle.theory.proofs.Groups.{regroup_greedy, regroup_posix, regroup_cut}
use Rattle.groups.specs.Numbers.{shares, numbers}
use Rattle.groups.specs.Readable.{is_printable, printables, first_or, readable_by, readable}
use Rattle.groups.specs.Turns.{same}
use Rattle.groups.proofs.Lists.{first_agree}
use Rattle.groups.proofs.Numbers.{shares_is, groups_share}
use Rattle.groups.proofs.Turns.{alike_same}

-- A line whose first i bytes are replaced.
abbrev pub replaced : (ℕ → ℕ) → List ℕ → ℕ → List ℕ
replaced f w i = map f (take i w) ++ drop i w

module _ (f : ℕ → ℕ) (w : List ℕ) (i : ℕ) (h : i < length w) where
  front : length (map f (take i w)) ≡ i
  front = length-map (take i w) f ∙ length-take-le i w (omega arith)

  split : replaced f w i ≡ map f (take i w) ++ (get_or w i 0 ∷ drop (suc i) w)
  split = ap (λ l. map f (take i w) ++ l) (drop-cons w i 0 h)

  pub next_byte : get_or (replaced f w i) i 0 ≡ get_or w i 0
  next_byte = ap (λ l. get_or l i 0) split ∙ get_or_at (map f (take i w)) (get_or w i 0) (drop (suc i) w) 0 i front

  pub replace_next : (v : ℕ) → v ≡ f (get_or w i 0) → set (replaced f w i) i v ≡ replaced f w (i + 1)
  replace_next v e =
      let more : suc i ≡ i + 1 = omega arith in
      ap (λ l. set l i v) split
      ∙ set_at (map f (take i w)) (get_or w i 0) (drop (suc i) w) v i front
      ∙ sym (append_snoc (map f (take i w)) v (drop (suc i) w))
      ∙ ap (λ l. l ++ drop (suc i) w) (ap (λ x. map f (take i w) ++ (x ∷ [])) e ∙ sym (map-append f (take i w) (get_or w i 0 ∷ [])) ∙ ap (map f) (sym (take-suc w i 0 h)))
      ∙ ap (λ j. replaced f w j) more

-- By the numbers of a pattern's groups bytes become what they become for the pattern.
module _ (r : Re) where
  pub numbers_same : (b c : ℕ) → b < 256 → c < 256 → same (numbers (shares r)) b c ≡ shares r b c
  numbers_same b c hb hc =
      let (one, alike) = groups_share r b c hb hc in
      let (means, meant) = shares_is r b c in
      same_test (same (numbers (shares r)) b c) (shares r b c)
      (λ t. meant (one (eqb→eq (get_or (numbers (shares r)) b 0) (get_or (numbers (shares r)) c 0) t)))
      (λ t. alike_same (numbers (shares r)) b c (alike (means t)))

  printable_byte : (c : ℕ) → T (member c printables) → c < 256
  unfolding printables
  printable_byte c t =
      either (λ m. let h = from_range c 48 79 m in omega arith) high
      (or_cases (member c (from 48 79)) (member c (from 33 15 ++ (32 ∷ []))) (rw (member_append c (from 48 79) (from 33 15 ++ (32 ∷ []))) at t))
    where
      high : T (member c (from 33 15 ++ (32 ∷ []))) → c < 256
      high s =
          either (λ m. let h = from_range c 33 15 m in omega arith) (λ m. let h = from_range c 32 1 m in omega arith)
          (or_cases (member c (from 33 15)) (member c (32 ∷ [])) (rw (member_append c (from 33 15) (32 ∷ [])) at s))

  byte_readable : (b : ℕ) → b < 256 → readable_by (same (numbers (shares r))) b ≡ readable_by (shares r) b
  byte_readable b h =
      ap (cond (is_printable b) b)
      (first_agree b (λ c. same (numbers (shares r)) c b) (λ c. shares r c b) printables (λ c m. numbers_same c b (printable_byte c m) h))

  pub line_readable : (w : List ℕ) → ((k : ℕ) → get_or w k 0 < 256) → map (readable_by (same (numbers (shares r)))) w ≡ readable r w
  line_readable [] h = refl
  line_readable (b ∷ w) h = λ i. byte_readable b (h 0) i ∷ line_readable w (λ k. h (suc k)) i

  -- A byte becomes one of its group.
  first_shares : (b : ℕ) (l : List ℕ) → SameGroup r b (first_or b (λ c. shares r c b) l)
  first_shares b [] = λ p h. refl
  first_shares b (c ∷ l) = go (shares r c b) refl (first_shares b l)
    where
      go : (a : Bool) → shares r c b ≡ a → SameGroup r b (first_or b (λ c. shares r c b) l) → SameGroup r b (cond a c (first_or b (λ c. shares r c b) l))
      go true e rest = λ p h. sym ((shares_is r c b).0 (true_T (shares r c b) e) p h)
      go false e rest = rest

  readable_shares : (b : ℕ) → SameGroup r b (readable_by (shares r) b)
  readable_shares b = go (is_printable b)
    where
      go : (a : Bool) → SameGroup r b (cond a b (first_or b (λ c. shares r c b) printables))
      go true = λ p h. refl
      go false = first_shares b printables

  -- The readable line has the spans of the line: it is cut differently if the line is, at the same places.
  pub readable_greedy : Numbered 0 r → (w : List ℕ) → greedy r (readable r w) ≡ greedy r w
  readable_greedy d = regroup_greedy (readable_by (shares r)) r d readable_shares

  pub readable_posix : Numbered 0 r → (w : List ℕ) → posix r (readable r w) ≡ posix r w
  readable_posix d = regroup_posix (readable_by (shares r)) r d readable_shares

  pub readable_cut : Numbered 0 r → (w : List ℕ) → CutDifferently r w → CutDifferently r (readable r w)
  readable_cut d = regroup_cut (readable_by (shares r)) r d readable_shares
