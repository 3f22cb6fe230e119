-- Where the lines of a list of records come from, and what a search has found that has worked on its first k records: of any list of records just the lines that these have led to.
-- Assumes nothing.
use mathlib.Core.Path.{◌≡◌, refl, sym, ap, ◌∙◌, subst}
use mathlib.Core.Logic.{inl}
use Prim.Native.Nat.{ℕ, zero, suc, ◌+◌, ◌≤◌, ◌<◌}
use mathlib.Core.List.{List, [], ◌∷◌, ◌++◌, map}
use native.Mathlib.Omega.{arith}
use native.Mathlib.Decide.{dec_lt}
use borrow.Author.Tests.{lt-ltb, le-ltb}
use lib.ListN.{length, take}
use lib.Seq.{take-nil}
use Rattle.theory.specs.Pattern.{Re, Numbered}
use Rattle.theory.specs.Standing.{standing}
use Rattle.theory.specs.Records.{at, Records}
use Rattle.theory.specs.Code.Search.{Search, begin, known, new, turn}
use Rattle.theory.proofs.Tests.{either}
use Rattle.theory.proofs.Lines.{snoc_size, snoc_old, below_left, below_right, ≺_self, ≺_empty}
use Rattle.theory.proofs.Search.{origin, tried, trace_place}
use Rattle.theory.proofs.Records.{carries, search_records, search_complete}
use Rattle.theory.proofs.Run.{Stands, seek}
use Rattle.verdict.specs.Table.{body}
use Rattle.verdict.proofs.Tables.{number_at, body_snoc, origin_at_lem, From, nothing, grown, from_where}
use Rattle.verdict.proofs.OneEnd.{common, longest}
use Rattle.turns.specs.Worked.{origin_of, coming_from, led_to}

-- If just the first n lines come from the first k records, they are what these have led to.
module _ (r : Re) (L : List (List ℕ)) (k : ℕ) where
  pub coming_first : (M : List (List ℕ)) (n : ℕ) → ((i : ℕ) → i < length M → i < n → origin_of r L (at M i) < k) → ((i : ℕ) → i < length M → n ≤ i → k ≤ origin_of r L (at M i)) → coming_from r L k M ≡ take n M
  unfolding coming_from
  coming_first [] n x y = sym (take-nil n)
  coming_first (u ∷ M) zero x y = rw (le-ltb (origin_of r L u) k (y 0 (omega arith) (omega arith))) (coming_first M zero (λ i l h. absurd (omega arith)) λ i l h. y (suc i) (omega arith) (omega arith))
  coming_first (u ∷ M) (suc n) x y =
      rw (lt-ltb (origin_of r L u) k (x 0 (omega arith) (omega arith)))
      (ap (λ N. u ∷ N) (coming_first M n (λ i l h. x (suc i) (omega arith) (omega arith)) λ i l h. y (suc i) (omega arith) (omega arith)))

module _ (r : Re) (d : Numbered 0 r) where
  -- Where the lines of a list of records come from: none from a record after it,
  pub origin_most : {L : List (List ℕ)} → Records (standing r) L → (i : ℕ) → i < length L → origin_of r L (at L i) ≤ i
  origin_most {L} a i l = let (j, h, e) = origin_at_lem r a i l in omega (arith, number_at r a (standing r (body (at L i))) j (omega arith) e)

  first_line : {L : List (List ℕ)} → Records (standing r) L → 0 < length L → at L 0 ≡ []
  first_line {L} a l = go (at L 0) refl (from_where (at L 0))
    where
      go : (u : List ℕ) → at L 0 ≡ u → From u → u ≡ []
      go _ e nothing = refl
      go _ e (grown u b) = let (j, h, s) = a.before 0 l [] tt (rw e (≺_empty u b)) in absurd (omega arith)

  -- each but the first from one before it, by a byte,
  abbrev pub Comes : List (List ℕ) → ℕ → Type 0
  Comes L i = (j b : ℕ) × (j < i) × (b < 256) × (origin_of r L (at L i) ≡ j) × (standing r (at L j ++ (b ∷ [])) ≡ standing r (at L i))

  pub comes : {L : List (List ℕ)} → Records (standing r) L → (i : ℕ) → 0 < i → i < length L → Comes L i
  comes {L} a i p l = go (at L i) refl (from_where (at L i))
    where
      go : (u : List ℕ) → at L i ≡ u → From u → Comes L i
      go _ e nothing = absurd (a.fresh 0 i p l (ap (standing r) (first_line a (omega arith) ∙ sym e)))
      go _ e (grown u b) =
          let line = rw e at (a.bytes i l) in
          let (j, h, s) = a.before i l u (below_left 256 u (b ∷ []) line) (rw e (≺_self u b)) in (
            j,
            b,
            h,
            (below_right 256 u (b ∷ []) line).0,
            number_at r a (standing r (body (at L i))) j (omega arith) (s ∙ ap (standing r) (sym (ap body e ∙ body_snoc u b))),
            carries r d (at L j) u b s ∙ ap (standing r) (sym e),
          )

  -- and the line that the byte c makes of line q from record q.
  pub origin_next : (M : List (List ℕ)) (q c : ℕ) → Records (standing r) (M ++ ((at M q ++ (c ∷ [])) ∷ [])) → q < length M → origin_of r (M ++ ((at M q ++ (c ∷ [])) ∷ [])) (at M q ++ (c ∷ [])) ≡ q
  origin_next M q c a h =
      let u : List ℕ = at M q ++ (c ∷ []) in
      number_at r a (standing r (body u)) q (omega (arith, snoc_size M u)) (ap (standing r) (snoc_old M u q h ∙ sym (body_snoc (at M q) c)))

  -- Where two lists of records both have a line, it comes from one record.
  pub same_origin : {L M : List (List ℕ)} → Records (standing r) L → Records (standing r) M → (i : ℕ) → i < length L → i < length M → origin_of r L (at L i) ≡ origin_of r M (at M i)
  same_origin {L} {M} a b i l h =
      let (j, o, e) = origin_at_lem r a i l in
      let s : standing r (at M j) ≡ standing r (body (at M i)) = ap (standing r) (sym (common r d a b j (omega arith) (omega arith))) ∙ e ∙ ap (λ u. standing r (body u)) (common r d a b i l h) in
      number_at r a (standing r (body (at L i))) j (omega arith) e ∙ sym (number_at r b (standing r (body (at M i))) j (omega arith) s)

  -- The search works on one more record, by the bytes from c on.
  stands : (M : List (List ℕ)) → Stands r M (map (standing r) M)
  stands [] = Stands.none
  stands (u ∷ M) = Stands.more refl (stands M)

  bytes_on : (n : ℕ) {M : List (List ℕ)} {k c : ℕ} → c + n ≡ 256 → Search r M k c → k < length M → (N : List (List ℕ)) × Search r N (suc k) 0
  bytes_on zero {M} {k} e t h = (M, turn (subst (λ b. Search r M k b) (omega arith) t) h)
  bytes_on (suc n) {M} {k} {c} e t h =
      either
      (λ (j, l, s). bytes_on n (omega arith) (known t h (omega arith) j l s) h)
      (λ fresh. bytes_on n (omega arith) (new t h (omega arith) fresh) (omega (arith, snoc_size M (at M k ++ (c ∷ [])))))
      (seek r (standing r (at M k ++ (c ∷ []))) (stands M))

  -- What it has worked on it has found.
  pub worked_found : {M : List (List ℕ)} {k : ℕ} → Search r M k 0 → k ≤ length M
  worked_found t = either (λ h. omega arith) (λ h. omega arith) (trace_place (standing r) (carries r d) 256 t)

  -- L is a list of records,
  module _ {L : List (List ℕ)} (a : Records (standing r) L) where
    -- and as long as it has a record to work on, the search does not end.
    pub not_ended : {M : List (List ℕ)} {k : ℕ} → Search r M k 0 → k < length L → k < length M
    not_ended {M} t h =
        either (λ l. l)
        (λ e. let most = longest r d (search_records r d t) (search_complete r d (subst (λ j. Search r M j 0) e.0 t)) a in absurd (omega arith))
        (trace_place (standing r) (carries r d) 256 t)

    pub searched : (k : ℕ) → k ≤ length L → (M : List (List ℕ)) × Search r M k 0
    searched zero h = ([] ∷ [], begin)
    searched (suc k) h = let (M, t) = searched k (omega arith) in bytes_on 256 (omega arith) t (not_ended t (omega arith))

    module _ {M : List (List ℕ)} {k : ℕ} (t : Search r M k 0) (some-worked : 0 < k) where
      -- The lines of L that it has found come from the first k records,
      pub found_from : (i : ℕ) → i < length L → i < length M → origin_of r L (at L i) < k
      found_from zero l h = omega (arith, origin_most a 0 l)
      found_from (suc i) l h =
          let (j, b, e, o, c, s) = origin (standing r) (carries r d) 256 t (suc i) (omega arith) h in
          let sooner : j < k = either (λ g. g) (λ g. absurd (omega arith)) e in
          let from : origin_of r M (at M (suc i)) ≡ j = number_at r (search_records r d t) (standing r (body (at M (suc i)))) j o (ap (standing r) (sym (ap body s ∙ body_snoc (at M j) b))) in
          omega (arith, same_origin a (search_records r d t) (suc i) l h)

      -- and the others do not: what comes from one of these has been tried.
      tried_from : (i j b : ℕ) → length M ≤ i → i < length L → j < k → b < 256 → standing r (at L j ++ (b ∷ [])) ≡ standing r (at L i) → ⊥
      tried_from i j b h l g c e =
          let worked = worked_found t in
          let (p, q, f, z) = tried (standing r) (carries r d) 256 t j b (inl g) (omega arith) c in
          a.fresh p i (omega arith) l (ap (standing r) (same p q (omega arith)) ∙ f ∙ ap (λ u. standing r (u ++ (b ∷ []))) (sym (same j (omega arith) (omega arith))) ∙ e)
        where
          same : (p : ℕ) → p < length M → p < length L → at L p ≡ at M p
          same p q o = common r d a (search_records r d t) p o q

      pub not_found_from : (i : ℕ) → i < length L → length M ≤ i → k ≤ origin_of r L (at L i)
      not_found_from i l h =
          let worked = worked_found t in
          let (j, b, o, c, e, s) = comes a i (omega arith) l in
          elim (dec_lt j k) [ yes g ↦ absurd (tried_from i j b h l g c s) | no g ↦ omega arith ]

      -- SO THE LINES FOUND ARE WHAT THE FIRST k RECORDS HAVE LED TO.
      pub led_to_lem : led_to r L k ≡ take (length M) L
      led_to_lem = coming_first r L k L (length M) (λ i l h. found_from i l h) (λ i l h. not_found_from i l h)
