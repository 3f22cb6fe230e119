-- What the worked records have led to, and how many are worked on: before the last turn the search has found just the lines that its worked records have led to.
-- Assumes nothing.
use mathlib.Core.Path.{◌≡◌, refl, sym, ap, ◌∙◌, subst}
use mathlib.Core.Logic.{◌⊎◌, inl, inr}
use Prim.Native.Nat.{ℕ, zero, suc, ◌≤◌, ◌<◌}
use mathlib.Core.List.{List, [], ◌∷◌, ◌++◌}
use mathlib.Core.Option.{Option, none, some}
use native.Mathlib.Omega.{arith}
use native.Mathlib.Decide.{dec_lt}
use borrow.Author.Tests.{lt-ltb, le-ltb}
use lib.ListN.{length, take}
use lib.Seq.{take_all, take-take, length-take-le}
use lib.Dec.{T}
use Rattle.theory.specs.Pattern.{Re, Numbered}
use Rattle.theory.specs.Standing.{standing, is_witness}
use Rattle.theory.specs.Records.{at, Records, NoWitness, Alike, Unlike, Needs, all_records, up_to_witness}
use Rattle.theory.specs.Code.Search.{Search}
use Rattle.theory.proofs.Tests.{either}
use Rattle.theory.proofs.Lines.{snoc_size, snoc_old, snoc_last}
use Rattle.theory.proofs.Records.{search_records}
use Rattle.verdict.specs.Record.{Form}
use Rattle.verdict.specs.Table.{records_of, records}
use Rattle.verdict.proofs.Tabled.{first_records, first_table}
use Rattle.verdict.proofs.OneEnd.{common, agree, longest}
use Rattle.turns.specs.Worked.{origin_of, led_to, worked_for, turns_due}
use Rattle.turns.proofs.Traces.{coming_first, origin_most, comes, origin_next, same_origin, worked_found, not_ended, searched, found_from, not_found_from, led_to_lem}

-- How many are worked on where there is a slot.
module _ (r : Re) (m : ℕ) (L : List (List ℕ)) (w : Option (List ℕ)) (slot : 0 < m) where
  due_past : m < length L → turns_due r m L w ≡ suc (origin_of r L (at L m))
  unfolding turns_due
  due_past l = rw (lt-ltb 0 m slot, lt-ltb m (length L) l)

  due_within : length L ≤ m → turns_due r m L w ≡ worked_for r L w
  unfolding turns_due
  due_within l = rw (lt-ltb 0 m slot, le-ltb m (length L) l)

module _ (r : Re) where
  abbrev Witness : List ℕ → Type 0
  Witness u = T (is_witness (standing r u))

  -- What ends the search with m slots, and how many records are worked on then: there are no more records, or line i has no slot or is a witness, and it is the first such line.
  data End (m : ℕ) (L : List (List ℕ)) : ℕ → Type 0 where
    all : Alike (standing r) L → length L ≤ m → End m L (length L)
    line : (i : ℕ) → i < length L → i ≤ m → ((j : ℕ) → j < i → Witness (at L j) → ⊥) → (i ≡ m) ⊎ ((length L ≡ suc i) × Witness (at L i)) → End m L (suc (origin_of r L (at L i)))

  needed : {L : List (List ℕ)} {w : Option (List ℕ)} → Needs (standing r) L w → Records (standing r) L
  needed (all_records a) = a.records
  needed (up_to_witness L w a) = a.records

  only_last : {L : List (List ℕ)} {w : Option (List ℕ)} → Needs (standing r) L w → (j : ℕ) → suc j < length L → Witness (at L j) → ⊥
  only_last (all_records a) j l t = a.none j (omega arith) t
  only_last (up_to_witness L w a) j l t =
      let h : j < length L = omega (arith, snoc_size L w) in
      a.none j h (subst Witness (snoc_old L w j h) t)

  end_within : {L : List (List ℕ)} {w : Option (List ℕ)} {m : ℕ} → Needs (standing r) L w → length L ≤ m → End m L (worked_for r L w)
  end_within (all_records a) h = all a h
  end_within {m = m} (up_to_witness L w a) h =
      let size = snoc_size L w in
      subst (λ u. End m (L ++ (w ∷ [])) (suc (origin_of r (L ++ (w ∷ [])) u))) (snoc_last L w)
      (line (length L) (omega arith) (omega arith) (λ j l. only_last (up_to_witness L w a) j (omega arith)) (inr (size, subst Witness (sym (snoc_last L w)) a.witness)))

  end : {L : List (List ℕ)} {w : Option (List ℕ)} {m : ℕ} → Needs (standing r) L w → 0 < m → End m L (turns_due r m L w)
  end {L} {w} {m} needs slot =
      elim (dec_lt m (length L)) [
        | yes l ↦ subst (End m L) (sym (due_past r m L w slot l)) (line m l (omega arith) (λ j h. only_last needs j (omega arith)) (inl refl))
        | no l ↦ subst (End m L) (sym (due_within r m L w slot (omega arith))) (end_within needs (omega arith))
      ]

  -- The line that ends it is none of lines that have slots and no witness among them.
  beyond : (L M : List (List ℕ)) {m i : ℕ} → NoWitness (standing r) M → length M ≤ m → (i < length M → at L i ≡ at M i) → (i ≡ m) ⊎ ((length L ≡ suc i) × Witness (at L i)) → length M ≤ i
  beyond L M {i = i} clear fits same e =
      elim (dec_lt i (length M)) [
        | no h ↦ omega arith
        | yes h ↦ either (λ x. absurd (omega arith)) (λ x. absurd (clear i h (subst Witness (same h) x.1))) e
      ]

  -- Some record is worked on.
  end_some : {L : List (List ℕ)} {m n : ℕ} → End m L n → 0 < n
  end_some (all a h) = let (k, l, e) = a.complete [] tt in omega arith
  end_some (line i l h clean e) = omega arith

module _ (r : Re) (d : Numbered 0 r) {L : List (List ℕ)} (a : Records (standing r) L) where
  -- Each record that is worked on is one of L's and has a slot.
  end_most : {m n : ℕ} → 0 < m → End r m L n → (n ≤ length L) × (n ≤ m)
  end_most slot (all c h) = omega arith
  end_most slot (line zero l h clean e) = omega (arith, origin_most r d a 0 l)
  end_most slot (line (suc i) l h clean e) = let (j, b, o, c, f, s) = comes r d a (suc i) (omega arith) l in omega arith

  -- The search, with its first k records worked on.
  module _ {M : List (List ℕ)} {k : ℕ} (t : Search r M k 0) (some-worked : 0 < k) where
    found : Records (standing r) M
    found = search_records r d t

    found_clean : (n : ℕ) → length M ≤ n → n ≤ length L → ((j : ℕ) → j < n → Witness r (at L j) → ⊥) → NoWitness (standing r) M
    found_clean n h g clean j l w = clean j (omega arith) (subst (Witness r) (common r d found a j l (omega arith)) w)

    -- Before its last turn it has found lines of L that have slots, and no witness.
    before_last : {m n : ℕ} → k < n → End r m L n → (length M ≤ length L) × (length M ≤ m) × NoWitness (standing r) M
    before_last o (all c h) = let most = longest r d a c.complete found in (most, omega arith, found_clean (length L) most (omega arith) c.none)
    before_last o (line i l h clean e) =
        elim (dec_lt i (length M)) [
          | yes g ↦ absurd (omega (arith, found_from r d a t some-worked i l g))
          | no g ↦ (omega arith, omega arith, found_clean i (omega arith) (omega arith) clean)
        ]

    -- Where it has found only such and has one to work on, the last turn is yet to come.
    not_last : {m n : ℕ} → NoWitness (standing r) M → length M ≤ m → k < length M → End r m L n → k < n
    not_last clear fits inside (all c h) = omega (arith, longest r d a c.complete found)
    not_last clear fits inside (line i l h clean e) =
        omega (arith, not_found_from r d a t some-worked i l (beyond r L M clear fits (λ g. common r d a found i l g) e))

    -- What it has found is what its worked records have led to.
    led_found : length M ≤ length L → (led_to r L k ≡ M) × ((f : Form) → records_of f (standing r) L M ≡ records f (standing r) M)
    led_found h =
        let first : take (length M) L ≡ M = agree r d (first_records r a (length M) h) found (length-take-le (length M) L h) in
        (led_to_lem r d a t some-worked ∙ first, λ f. subst (λ N. records_of f (standing r) L N ≡ records f (standing r) N) first (first_table r a (length M) h f))

    -- After its last turn it has found all that has a slot.
    after_last : {m n : ℕ} → k ≡ n → End r m L n → (m ≤ length M) ⊎ (length L ≤ length M)
    after_last o (all c h) = inr (omega (arith, worked_found r d t))
    after_last o (line i l h clean e) =
        elim (dec_lt i (length M)) [
          | yes g ↦ either (λ x. inl (omega arith)) (λ x. inr (omega arith)) e
          | no g ↦ absurd (omega (arith, not_found_from r d a t some-worked i l (omega arith)))
        ]

-- What the request's words rest on.
module _ (r : Re) (d : Numbered 0 r) where
  -- None is worked on: there is no record.
  pub led_none : (L : List (List ℕ)) → led_to r L 0 ≡ []
  led_none L = coming_first r L 0 L 0 (λ i l h. absurd (omega arith)) (λ i l h. omega arith)

  -- Without a slot none is.
  pub due_nothing : (L : List (List ℕ)) (w : Option (List ℕ)) → turns_due r 0 L w ≡ 0
  unfolding turns_due
  due_nothing L w = refl

  -- With a slot some are,
  pub due_some : {L : List (List ℕ)} {w : Option (List ℕ)} {m : ℕ} → Needs (standing r) L w → 0 < m → 0 < turns_due r m L w
  due_some needs slot = end_some r (end r needs slot)

  -- and each has a slot.
  pub due_most : {L : List (List ℕ)} {w : Option (List ℕ)} (m : ℕ) → Needs (standing r) L w → turns_due r m L w ≤ m
  due_most {L} {w} zero needs = omega (arith, due_nothing L w)
  due_most {L} {w} (suc m) needs = let slot : 0 < suc m = omega arith in (end_most r d (needed r needs) slot (end r needs slot)).1

  -- All are, if they have slots and none is a witness's,
  pub due_all : {L : List (List ℕ)} {m : ℕ} → Alike (standing r) L → 0 < m → length L ≤ m → turns_due r m L none ≡ length L
  due_all {L} {m} a slot h = due_within r m L none slot h

  -- those up to the one that the witness comes from, if they have slots,
  pub due_witness : {M : List (List ℕ)} {q m : ℕ} (c : ℕ) → Unlike (standing r) M (at M q ++ (c ∷ [])) → q < length M → length M < m
      → turns_due r m (M ++ ((at M q ++ (c ∷ [])) ∷ [])) (some (at M q ++ (c ∷ []))) ≡ suc q
  due_witness {M} {q} {m} c a h l =
      let u : List ℕ = at M q ++ (c ∷ []) in
      due_within r m (M ++ (u ∷ [])) (some u) (omega arith) (omega (arith, snoc_size M u)) ∙ ap suc (origin_next r d M q c a.records h)

  -- and those up to the one that the first line without a slot comes from.
  pub due_full : {L : List (List ℕ)} {w : Option (List ℕ)} {m : ℕ} (M : List (List ℕ)) (q c : ℕ) → Needs (standing r) L w → Records (standing r) (M ++ ((at M q ++ (c ∷ [])) ∷ [])) → NoWitness (standing r) M → q < length M → length M ≡ m
      → turns_due r m L w ≡ suc q
  due_full {L} {w} {m} M q c needs b clear h e = go (end r needs (omega arith))
    where
      u : List ℕ
      u = at M q ++ (c ∷ [])

      a : Records (standing r) L
      a = needed r needs

      go : {n : ℕ} → End r m L n → n ≡ suc q
      go (all x o) = absurd (omega (arith, longest r d a x.complete b, snoc_size M u))
      go (line i l o clean x) =
          let size = snoc_size M u in
          let last : length M ≡ i = omega (arith, beyond r L M clear (omega arith) (λ g. common r d a b i l (omega arith) ∙ snoc_old M u i g) x) in
          ap suc (same_origin r d a b i l (omega arith) ∙ ap (origin_of r (M ++ (u ∷ []))) (ap (at (M ++ (u ∷ []))) (sym last) ∙ snoc_last M u) ∙ origin_next r d M q c b h)

  -- The search after its first k records: the lines found are those that these have led to.
  pub record Opened (m k : ℕ) (L M : List (List ℕ)) : Type 0 where
    pub search : Search r M k 0
    pub none : NoWitness (standing r) M
    pub fits : length M ≤ m
    pub inside : k < length M
    pub records : (f : Form) → records_of f (standing r) L M ≡ records f (standing r) M

  pub led_opened : {L : List (List ℕ)} {w : Option (List ℕ)} {m k : ℕ} → Needs (standing r) L w → 0 < k → k < turns_due r m L w → Opened m k L (led_to r L k)
  led_opened {L} {w} {m} {k} needs p o =
      let a = needed r needs in
      let slot : 0 < m = omega (arith, due_most m needs) in
      let x = end r needs slot in
      let most = end_most r d a slot x in
      let (M, t) = searched r d a k (omega arith) in
      let (within, fits, clear) = before_last r d a t p o x in
      let (led, table) = led_found r d a t p within in
      subst (Opened m k L) (sym led) (record { search = t; none = clear; fits = fits; inside = not_ended r d a t (omega arith); records = table })

  pub opened_led : {L M : List (List ℕ)} {w : Option (List ℕ)} {m k : ℕ} → Needs (standing r) L w → 0 < k → Search r M k 0 → NoWitness (standing r) M → length M ≤ m → k < length M
      → (k < turns_due r m L w) × (led_to r L k ≡ M) × ((f : Form) → records_of f (standing r) L M ≡ records f (standing r) M)
  opened_led {L} {M} {w} {m} needs p t clear fits inside =
      let a = needed r needs in
      let slot : 0 < m = omega arith in
      let x = end r needs slot in
      let o = not_last r d a t p clear fits inside x in
      let (led, table) = led_found r d a t p (before_last r d a t p o x).0 in
      (o, led, table)

  -- After the last turn as well, as far as the slots go.
  pub led_all : {L : List (List ℕ)} {w : Option (List ℕ)} (m : ℕ) → Needs (standing r) L w → 0 < m → take m (led_to r L (turns_due r m L w)) ≡ take m L
  led_all {L} {w} m needs slot =
      let a = needed r needs in
      let x = end r needs slot in
      let p = end_some r x in
      let (M, t) = searched r d a (turns_due r m L w) (end_most r d a slot x).0 in
      ap (take m) (led_to_lem r d a t p) ∙ either (take-take m (length M) L) (λ h. ap (take m) (take_all (length M) L h)) (after_last r d a t p refl x)
