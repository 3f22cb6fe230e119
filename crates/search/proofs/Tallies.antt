-- The looking of a search: look by look, and in all where the search ends.
-- Assumes nothing.
use mathlib.Core.Path.{◌≡◌, refl, sym, ap, ap₂, ◌∙◌, subst}
use mathlib.Core.Logic.{◌≢◌}
use Prim.Native.Nat.{ℕ, suc, ◌+◌, ◌≤◌, ◌<◌}
use mathlib.Core.Bool.{Bool, true, false, cond}
use mathlib.Core.List.{List, [], ◌∷◌, ◌++◌, append_assoc, append-nil, map-append}
use mathlib.Core.Option.{Option, none, some}
use native.Mathlib.Omega.{arith}
use native.Mathlib.Decide.{dec_lt}
use borrow.Author.Tests.{lt-ltb, le-ltb}
use lib.ListN.{length, length-append, take, drop, take-append-drop}
use lib.Seq.{ext_get_or, get_or-take, length-take-le, take-suc, take-length, take-append-le, drop-cons}
use lib.Dec.{T, ltb}
use Rattle.theory.specs.Pattern.{Re, Numbered}
use Rattle.theory.specs.Standing.{Standing, standing, is_witness}
use Rattle.theory.specs.Records.{at, Records, NoWitness, Alike, Unlike, Needs, all_records, up_to_witness}
use Rattle.theory.specs.Lines.{Below}
use Rattle.theory.proofs.Tests.{true_T, not_true}
use Rattle.theory.proofs.Lines.{snoc_size, snoc_old, snoc_last}
use Rattle.theory.proofs.Records.{unique}
use Rattle.verdict.specs.Table.{same_list, same, number_of}
use Rattle.verdict.proofs.Tables.{same_list_eq, same_list_refl, same_eq, same_no, number_is}
use Rattle.verdict.proofs.Tabled.{needs_some}
use Rattle.groups.specs.Numbers.{shares, is_lowest, lowest_below, lowest_bytes}
use Rattle.groups.proofs.Numbers.{next_lowest, lowest_split}
use Rattle.search.specs.declared.Looking.{Looking}
use Rattle.search.specs.Looking.{compared, recorded, comparisons, carried_by, carried, up_to, last_line, until, looked_for, saturated, looking_for, no_looking, Takes, takes}
use Rattle.search.specs.Turns.{more, recorded_all, looked_so_far, Tallied}

-- The lines that bytes make of several lines.
carried_append : (C : List ℕ) (L M : List (List ℕ)) → carried C (L ++ M) ≡ carried C L ++ carried C M
unfolding carried
carried_append C [] M = refl
carried_append C (u ∷ L) M = ap (λ x. carried_by C u ++ x) (carried_append C L M) ∙ sym (append_assoc (carried_by C u) (carried C L) (carried C M))

carried_one : (C : List ℕ) (u : List ℕ) → carried C (u ∷ []) ≡ carried_by C u
unfolding carried
carried_one C u = append-nil (carried_by C u)

carried_first : (C : List ℕ) (u : List ℕ) (L : List (List ℕ)) → carried C (u ∷ L) ≡ carried_by C u ++ carried C L
unfolding carried
carried_first C u L = refl

-- Sums of which none goes beyond the greatest number.
saturated_plus : (a b : ℕ) → saturated (saturated a + b) ≡ saturated (a + b)
saturated_plus a b = omega arith

-- One look more.
module _ (r : Re) where
  all_snoc : (M W : List (List ℕ)) (w : List ℕ) → recorded_all r M (W ++ (w ∷ [])) ≡ recorded r (recorded_all r M W) w
  unfolding recorded_all
  all_snoc M [] w = refl
  all_snoc M (v ∷ W) w = all_snoc (recorded r M v) W w

  comparisons_snoc : (M W : List (List ℕ)) (w : List ℕ) → comparisons r M (W ++ (w ∷ [])) ≡ comparisons r M W + compared r (recorded_all r M W) w
  unfolding comparisons recorded_all
  comparisons_snoc M [] w = omega arith
  comparisons_snoc M (v ∷ W) w = let e = comparisons_snoc (recorded r M v) W w in omega arith

  pub tally_look : {W L : List (List ℕ)} {y : Looking} (w : List ℕ) → Tallied r W L y → Tallied r (W ++ (w ∷ [])) (recorded r L w) (more y (compared r L w))
  tally_look {W} {L} {y} w x = record {
    takes = λ i. record { looks = looks i; comparisons = compares i };
    lines = all_snoc ([] ∷ []) W w ∙ ap (λ M. recorded r M w) x.lines;
  }
    where
      looks : saturated (y.looks + 1) ≡ saturated (length (W ++ (w ∷ [])))
      looks =
          ap (λ z. saturated (z.looks + 1)) x.takes ∙ saturated_plus (length W) 1 ∙ ap saturated (sym (length-append W (w ∷ [])))

      compares : saturated (y.comparisons + compared r L w) ≡ saturated (comparisons r ([] ∷ []) (W ++ (w ∷ [])))
      compares =
          ap (λ z. saturated (z.comparisons + compared r L w)) x.takes
          ∙ saturated_plus (comparisons r ([] ∷ []) W) (compared r L w)
          ∙ ap (λ M. saturated (comparisons r ([] ∷ []) W + compared r M w)) (sym x.lines)
          ∙ ap saturated (sym (comparisons_snoc ([] ∷ []) W w))

  -- The number of a record that there is not.
  number_none : (M : List (List ℕ)) (s : Standing) → ((j : ℕ) → j < length M → standing r (at M j) ≢ s) → number_of (standing r) M s ≡ length M
  unfolding number_of
  number_none [] s lacks = refl
  number_none (u ∷ M) s lacks = rw (same_no (standing r u) s (lacks 0 (omega arith))) (ap suc (number_none M s λ j h. lacks (suc j) (omega arith)))

  -- The look for a line whose standing record k is the first to have,
  module _ (L : List (List ℕ)) (w : List ℕ) where
    module _ (k : ℕ) (l : k < length L) (e : standing r (at L k) ≡ standing r w) (before : (j : ℕ) → j < k → standing r (at L j) ≢ standing r w) where
      place : number_of (standing r) L (standing r w) ≡ k
      place = number_is r L (standing r w) k l e before

      pub known_recorded : recorded r L w ≡ L
      known_recorded = ap (λ b. cond b L (L ++ (w ∷ []))) (lt-ltb (number_of (standing r) L (standing r w)) (length L) (omega (arith, place)))

      pub known_compared : compared r L w ≡ k + 1
      known_compared = omega (arith, place)

    -- or that no record has.
    module _ (fresh : (j : ℕ) → j < length L → standing r (at L j) ≢ standing r w) where
      nowhere : number_of (standing r) L (standing r w) ≡ length L
      nowhere = number_none L (standing r w) fresh

      pub new_recorded : recorded r L w ≡ L ++ (w ∷ [])
      new_recorded = ap (λ b. cond b L (L ++ (w ∷ []))) (le-ltb (number_of (standing r) L (standing r w)) (length L) (omega (arith, nowhere)))

      pub new_compared : compared r L w ≡ length L
      new_compared = omega (arith, nowhere)

-- The lines looked for so far, while the search goes on.
module _ (r : Re) where
  abbrev low : List ℕ
  low = lowest_bytes (shares r)

  pub so_far_none : (L : List (List ℕ)) → looked_so_far r L 0 0 ≡ []
  unfolding looked_so_far carried
  so_far_none L = refl

  pub so_far_same : (L M : List (List ℕ)) (q c : ℕ) → take q L ≡ take q M → at L q ≡ at M q → looked_so_far r L q c ≡ looked_so_far r M q c
  unfolding looked_so_far
  so_far_same L M q c e f = ap₂ (λ x u. carried low x ++ carried_by (lowest_below (shares r) c) u) e f

  so_far_next : (L : List (List ℕ)) (q c : ℕ) (b : Bool) → is_lowest (shares r) c ≡ b
      → looked_so_far r L q (suc c) ≡ looked_so_far r L q c ++ carried_by (cond b (c ∷ []) []) (at L q)
  unfolding looked_so_far
  so_far_next L q c b e =
      let further : suc c ≡ c + 1 = omega arith in
      ap (λ C. carried low (take q L) ++ carried_by C (at L q))
      (ap (lowest_below (shares r)) further ∙ next_lowest (shares r) c ∙ ap (λ a. lowest_below (shares r) c ++ cond a (c ∷ []) []) e)
      ∙ ap (λ x. carried low (take q L) ++ x) (map-append (λ d. at L q ++ (d ∷ [])) (lowest_below (shares r) c) (cond b (c ∷ []) []))
      ∙ sym (append_assoc (carried low (take q L)) (carried_by (lowest_below (shares r) c) (at L q)) (carried_by (cond b (c ∷ []) []) (at L q)))

  pub so_far_pass : (L : List (List ℕ)) (q c : ℕ) → is_lowest (shares r) c ≡ false → looked_so_far r L q (suc c) ≡ looked_so_far r L q c
  so_far_pass L q c e = so_far_next L q c false e ∙ append-nil (looked_so_far r L q c)

  pub so_far_look : (L : List (List ℕ)) (q c : ℕ) → is_lowest (shares r) c ≡ true → looked_so_far r L q (suc c) ≡ looked_so_far r L q c ++ ((at L q ++ (c ∷ [])) ∷ [])
  so_far_look L q c e = so_far_next L q c true e

  -- All bytes of a record are those of the records before the next.
  turn_at : (L : List (List ℕ)) (q n : ℕ) → lowest_below (shares r) n ≡ low → q < length L → looked_so_far r L (suc q) 0 ≡ looked_so_far r L q n
  unfolding looked_so_far
  turn_at L q n e l =
      append-nil (carried low (take (suc q) L))
      ∙ ap (carried low) (take-suc L q [] l)
      ∙ carried_append low (take q L) (at L q ∷ [])
      ∙ ap (λ x. carried low (take q L) ++ x) (carried_one low (at L q) ∙ ap (λ C. carried_by C (at L q)) (sym e))

  pub so_far_turn : (L : List (List ℕ)) (q : ℕ) → q < length L → looked_so_far r L (suc q) 0 ≡ looked_so_far r L q 256
  unfolding lowest_bytes
  so_far_turn L q l = turn_at L q 256 refl l

  pub so_far_all : (L : List (List ℕ)) → looked_so_far r L (length L) 0 ≡ carried low L
  unfolding looked_so_far
  so_far_all L = append-nil (carried low (take (length L) L)) ∙ ap (carried low) (take-length L)

  -- After the lines so far comes the next.
  pub so_far_split : (L : List (List ℕ)) (q c : ℕ) → q < length L → c < 256 → is_lowest (shares r) c ≡ true
      → (K : List (List ℕ)) × (carried low L ≡ looked_so_far r L q c ++ ((at L q ++ (c ∷ [])) ∷ K))
  unfolding looked_so_far
  so_far_split L q c l byte e =
      let u : List ℕ = at L q in
      let (rest, is) = split (shares r) c byte e in (
        carried_by rest u ++ carried low (drop (suc q) L),
        ap (carried low) (sym (take-append-drop q L) ∙ ap (λ x. take q L ++ x) (drop-cons L q [] l))
            ∙ carried_append low (take q L) (u ∷ drop (suc q) L)
            ∙ ap (λ x. carried low (take q L) ++ x)
            (carried_first low u (drop (suc q) L)
            ∙ ap (λ x. x ++ carried low (drop (suc q) L)) (ap (λ C. carried_by C u) is ∙ map-append (λ d. u ++ (d ∷ [])) (lowest_below (shares r) c) (c ∷ rest))
            ∙ append_assoc (carried_by (lowest_below (shares r) c) u) (carried_by (c ∷ rest) u) (carried low (drop (suc q) L)))
            ∙ sym (append_assoc (carried low (take q L)) (carried_by (lowest_below (shares r) c) u) ((u ++ (c ∷ [])) ∷ (carried_by rest u ++ carried low (drop (suc q) L)))),
      )
    where
      split : (share : ℕ → ℕ → Bool) (c : ℕ) → c < 256 → is_lowest share c ≡ true → (C : List ℕ) × (lowest_bytes share ≡ lowest_below share c ++ (c ∷ C))
      split share c h e = (_, lowest_split share c h e)

-- The tally while the search goes on.
module _ (r : Re) where
  tally_as : {W W' L L' : List (List ℕ)} {y y' : Looking} → W ≡ W' → L ≡ L' → y ≡ y' → Tallied r W L y → Tallied r W' L' y'
  tally_as {W' = W'} {L} {L'} {y} {y'} e f g x = subst (Tallied r W' L') g (subst (λ N. Tallied r W' N y) f (subst (λ X. Tallied r X L y) e x))

  pub tally_begin : Tallied r (looked_so_far r ([] ∷ []) 0 0) ([] ∷ []) no_looking
  unfolding comparisons recorded_all
  tally_begin = subst (λ W. Tallied r W ([] ∷ []) no_looking) (sym (so_far_none r ([] ∷ []))) (record { takes = refl; lines = refl })

  module _ {L : List (List ℕ)} (q c : ℕ) {y : Looking} (x : Tallied r (looked_so_far r L q c) L y) where
    -- The byte is not the lowest of its group,
    pub tally_pass : is_lowest (shares r) c ≡ false → Tallied r (looked_so_far r L q (suc c)) L y
    tally_pass e = subst (λ W. Tallied r W L y) (sym (so_far_pass r L q c e)) x

    -- or it is: then record k is the first that has the standing,
    module _ (e : is_lowest (shares r) c ≡ true) where
      pub tally_known : (k : ℕ) → k < length L → standing r (at L k) ≡ standing r (at L q ++ (c ∷ [])) → ((j : ℕ) → j < k → standing r (at L j) ≢ standing r (at L q ++ (c ∷ [])))
          → Tallied r (looked_so_far r L q (suc c)) L (more y (k + 1))
      tally_known k l s before =
          let w : List ℕ = at L q ++ (c ∷ []) in
          tally_as (sym (so_far_look r L q c e)) (known_recorded r L w k l s before) (ap (more y) (known_compared r L w k l s before)) (tally_look r w x)

      -- or no record has it.
      module _ (fresh : (k : ℕ) → k < length L → standing r (at L k) ≢ standing r (at L q ++ (c ∷ []))) where
        pub tally_last : Tallied r (looked_so_far r L q c ++ ((at L q ++ (c ∷ [])) ∷ [])) (L ++ ((at L q ++ (c ∷ [])) ∷ [])) (more y (length L))
        tally_last = let w : List ℕ = at L q ++ (c ∷ []) in tally_as refl (new_recorded r L w fresh) (ap (more y) (new_compared r L w fresh)) (tally_look r w x)

        pub tally_new : q < length L → Tallied r (looked_so_far r (L ++ ((at L q ++ (c ∷ [])) ∷ [])) q (suc c)) (L ++ ((at L q ++ (c ∷ [])) ∷ [])) (more y (length L))
        tally_new l =
            let w : List ℕ = at L q ++ (c ∷ []) in
            tally_as (sym (so_far_same r (L ++ (w ∷ [])) L q (suc c) (take-append-le q L (w ∷ []) (omega arith)) (snoc_old L w q l) ∙ so_far_look r L q c e)) refl refl tally_last

  -- A record is carried on by all bytes.
  pub tally_turn : {L : List (List ℕ)} (q : ℕ) {y : Looking} → q < length L → Tallied r (looked_so_far r L q 256) L y → Tallied r (looked_so_far r L (suc q) 0) L y
  tally_turn {L} q {y} l x = subst (λ W. Tallied r W L y) (sym (so_far_turn r L q l)) x

-- Each line that was looked for has its standing among the records.
module _ (r : Re) where
  abbrev Has : List (List ℕ) → Standing → Type 0
  Has L s = (k : ℕ) × (k < length L) × (standing r (at L k) ≡ s)

  has_snoc : (L : List (List ℕ)) (w : List ℕ) (s : Standing) → Has L s → Has (L ++ (w ∷ [])) s
  has_snoc L w s (k, l, e) = (k, omega (arith, snoc_size L w), ap (standing r) (snoc_old L w k l) ∙ e)

  has_number : (L : List (List ℕ)) (s : Standing) → number_of (standing r) L s < length L → Has L s
  unfolding number_of
  has_number [] s l = absurd (omega arith)
  has_number (u ∷ L) s l = go (same (standing r u) s) refl (has_number L s)
    where
      go : (b : Bool) → same (standing r u) s ≡ b → (number_of (standing r) L s < length L → Has L s) → Has (u ∷ L) s
      go true e f = (0, omega arith, same_eq (standing r u) s (true_T (same (standing r u) s) e))
      go false e f = let (k, h, g) = f (omega (arith, (rw e at l))) in (suc k, omega arith, g)

  has_recorded : (L : List (List ℕ)) (w : List ℕ) → Has (recorded r L w) (standing r w)
  has_recorded L w =
      elim (dec_lt (number_of (standing r) L (standing r w)) (length L)) [
        | yes l ↦ subst (λ M. Has M (standing r w)) (sym (ap (λ b. cond b L (L ++ (w ∷ []))) (lt-ltb (number_of (standing r) L (standing r w)) (length L) l))) (has_number L (standing r w) l)
        | no l ↦ subst (λ M. Has M (standing r w)) (sym (ap (λ b. cond b L (L ++ (w ∷ []))) (le-ltb (number_of (standing r) L (standing r w)) (length L) (omega arith))))
            (length L, omega (arith, snoc_size L w), ap (standing r) (snoc_last L w))
      ]

  has_more : (L : List (List ℕ)) (w : List ℕ) (s : Standing) → Has L s → Has (recorded r L w) s
  has_more L w s h = go (ltb (number_of (standing r) L (standing r w)) (length L))
    where
      go : (b : Bool) → Has (cond b L (L ++ (w ∷ []))) s
      go true = h
      go false = has_snoc L w s h

  has_all : (M W : List (List ℕ)) (s : Standing) → Has M s → Has (recorded_all r M W) s
  unfolding recorded_all
  has_all M [] s h = h
  has_all M (w ∷ W) s h = has_all (recorded r M w) W s (has_more M w s h)

  -- So a line of a new standing is none of them, and where it ends the search it is the last.
  up_to_new : (M W K : List (List ℕ)) (e : List ℕ) → (Has (recorded_all r M W) (standing r e) → ⊥) → up_to e (W ++ (e ∷ K)) ≡ W ++ (e ∷ [])
  unfolding up_to recorded_all
  up_to_new M [] K e new = rw (same_list_refl e)
  up_to_new M (w ∷ W) K e new =
      let other : same_list w e ≡ false = not_true (same_list w e) λ t. new (has_all (recorded r M w) W (standing r e) (subst (λ u. Has (recorded r M w) (standing r u)) (same_list_eq w e t) (has_recorded M w))) in
      rw other (ap (λ x. w ∷ x) (up_to_new (recorded r M w) W K e new))

-- The line that the byte c makes of record q's.
abbrev pub next_line : List (List ℕ) → ℕ → ℕ → List ℕ
next_line M q c = at M q ++ (c ∷ [])

-- The lines that are looked for where there is a slot: up to the witness, if there is one and the records have room, or to the line that there is no slot for.
module _ (r : Re) (m : ℕ) (L : List (List ℕ)) (w : Option (List ℕ)) (some-slot : 0 < m) where
  looked_until : looked_for r m L w ≡ until (last_line m L w) (carried (lowest_bytes (shares r)) L)
  looked_until = ap (λ b. cond b (until (last_line m L w) (carried (lowest_bytes (shares r)) L)) []) (lt-ltb 0 m some-slot)

  pub looked_fitting : length L ≤ m → looked_for r m L w ≡ until w (carried (lowest_bytes (shares r)) L)
  looked_fitting h = looked_until ∙ ap (λ b. until (cond b (some (at L m)) w) (carried (lowest_bytes (shares r)) L)) (le-ltb m (length L) h)

  looked_full : m < length L → looked_for r m L w ≡ up_to (at L m) (carried (lowest_bytes (shares r)) L)
  looked_full h = looked_until ∙ ap (λ b. until (cond b (some (at L m)) w) (carried (lowest_bytes (shares r)) L)) (lt-ltb m (length L) h)

module _ (r : Re) (m : ℕ) where
  -- What the lines looked for took is what a search takes in which they are looked for.
  taken : {y : Looking} {L M W : List (List ℕ)} {w : Option (List ℕ)} → Needs (standing r) L w → W ≡ looked_for r m L w → Tallied r W M y → Takes r m y
  taken needs e x = subst (Takes r m) (sym (x.takes ∙ ap (looking_for r) e)) (takes needs)

  -- No slot: no look.
  pub takes_nothing : {y : Looking} → Numbered 0 r → m ≡ 0 → Tallied r [] ([] ∷ []) y → Takes r m y
  takes_nothing d e = let (L, w, needs) = needs_some r d in taken needs (sym (ap (λ b. cond b (until (last_line m L w) (carried (lowest_bytes (shares r)) L)) []) (le-ltb 0 m (omega arith))))

  -- All records carried on.
  pub takes_all : {y : Looking} {L : List (List ℕ)} → 0 < m → length L ≤ m → Alike (standing r) L → Tallied r (looked_so_far r L (length L) 0) L y → Takes r m y
  takes_all {L = L} some-slot h a =
      taken (all_records a) (so_far_all r L ∙ sym (looked_fitting r m L none some-slot h))

  -- The next line, which the byte c makes of record q's, has a new standing.
  module _ (M : List (List ℕ)) (q c : ℕ) (inside : q < length M) (byte : c < 256) (lowest : is_lowest (shares r) c ≡ true) where
    module _ (fresh : (k : ℕ) → k < length M → standing r (at M k) ≢ standing r (next_line M q c)) where
      -- Of the lines to look for it is the last.
      looked_up_to : {y : Looking} (L : List (List ℕ)) → q < length L → take q L ≡ take q M → at L q ≡ at M q → Tallied r (looked_so_far r M q c) M y
          → up_to (next_line M q c) (carried (lowest_bytes (shares r)) L) ≡ looked_so_far r M q c ++ (next_line M q c ∷ [])
      looked_up_to L l e f x =
          let (K, split) = so_far_split r L q c l byte lowest in
          ap (up_to (next_line M q c)) (split ∙ ap₂ (λ W u. W ++ ((u ++ (c ∷ [])) ∷ K)) (so_far_same r L M q c e f) f)
          ∙ up_to_new r ([] ∷ []) (looked_so_far r M q c) K (next_line M q c) (subst (λ L. Has r L (standing r (next_line M q c)) → ⊥) (sym x.lines) (λ (k, i, g). fresh k i g))

      -- A witness ends the search,
      pub takes_witness : {y₀ y : Looking} {N : List (List ℕ)} → length M < m → Unlike (standing r) M (next_line M q c) → Tallied r (looked_so_far r M q c) M y₀ → Tallied r (looked_so_far r M q c ++ (next_line M q c ∷ [])) N y → Takes r m y
      takes_witness h u x =
          let L : List (List ℕ) = M ++ (next_line M q c ∷ []) in
          let size : length L ≡ suc (length M) = snoc_size M (next_line M q c) in
          taken (up_to_witness M (next_line M q c) u)
          (sym
          (looked_fitting r m L (some (next_line M q c)) (omega arith) (omega (arith, size))
          ∙ looked_up_to L (omega (arith, size)) (take-append-le q M (next_line M q c ∷ []) (omega arith)) (snoc_old M (next_line M q c) q inside) x))

      -- or that there is no slot for it.
      module _ (d : Numbered 0 r) (size : length M ≡ m) (clean : NoWitness (standing r) M) (grown : Records (standing r) (M ++ (next_line M q c ∷ []))) where
        module _ {L : List (List ℕ)} (records : Records (standing r) L) where
          old : (k : ℕ) → k < length L → k < length M → at L k ≡ at M k
          old k l h = unique r d records grown (suc k) k (omega arith) l (omega (arith, snoc_size M (next_line M q c))) ∙ snoc_old M (next_line M q c) k h

        not_all : {L : List (List ℕ)} {w : Option (List ℕ)} → Needs (standing r) L w → length L ≤ length M → ⊥
        not_all (all_records {L = L} a) h =
            let here : at (M ++ (next_line M q c ∷ [])) (length M) ≡ next_line M q c = snoc_last M (next_line M q c) in
            let (k, l, e) = a.complete (next_line M q c) (subst (Below 256) here (grown.bytes (length M) (omega (arith, snoc_size M (next_line M q c))))) in
            fresh k (omega arith) (ap (standing r) (sym (old a.records k l (omega arith))) ∙ e)
        not_all (up_to_witness L w a) h =
            let k : ℕ = length L in
            let l : k < length M = omega (arith, snoc_size L w) in
            clean k l (subst (λ u. T (is_witness (standing r u))) (sym (snoc_last L w) ∙ old a.records k (omega (arith, snoc_size L w)) l) a.witness)

        needed : {L : List (List ℕ)} {w : Option (List ℕ)} → Needs (standing r) L w → Records (standing r) L
        needed (all_records a) = a.records
        needed (up_to_witness L w a) = a.records

        pub takes_full : {y₀ y : Looking} {N : List (List ℕ)} → Tallied r (looked_so_far r M q c) M y₀ → Tallied r (looked_so_far r M q c ++ (next_line M q c ∷ [])) N y → Takes r m y
        takes_full x =
            let (L, w, needs) = needs_some r d in
            let more : length M < length L = (elim (dec_lt (length M) (length L)) [ yes l ↦ l | no l ↦ absurd (not_all needs (omega arith)) ]) in
            let last : at L m ≡ next_line M q c = ap (at L) (sym size) ∙ unique r d (needed needs) grown (suc (length M)) (length M) (omega arith) more (omega (arith, snoc_size M (next_line M q c))) ∙ snoc_last M (next_line M q c) in
            let before : take q L ≡ take q M = ext_get_or [] (take q L) (take q M) (length-take-le q L (omega arith) ∙ sym (length-take-le q M (omega arith))) (λ k l.
            let i : k < q = omega (arith, length-take-le q L (omega arith)) in
            get_or-take q L k [] i ∙ old (needed needs) k (omega arith) (omega arith) ∙ sym (get_or-take q M k [] i)) in
            taken needs
            (sym
            (looked_full r m L w (omega arith) (omega arith)
            ∙ ap (λ e. up_to e (carried (lowest_bytes (shares r)) L)) last
            ∙ looked_up_to L (omega arith) before (old (needed needs) q (omega arith) inside) x))
