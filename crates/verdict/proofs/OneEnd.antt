-- Two outcomes for one pattern and one number of slots show the same lines.
-- Assumes nothing.
use mathlib.Core.Path.{◌≡◌, sym, ap, ap₂, ◌∙◌}
use Prim.Native.Nat.{ℕ, suc, ◌≤◌, ◌<◌}
use mathlib.Core.List.{List, [], ◌∷◌, ◌++◌}
use native.Mathlib.Omega.{arith}
use native.Mathlib.Decide.{dec_lt}
use lib.ListN.{length, take}
use lib.Seq.{ext_get_or, take-append_seam}
use lib.Dec.{T}
use Rattle.theory.specs.Pattern.{Re, Numbered}
use Rattle.theory.specs.Standing.{standing, is_witness}
use Rattle.theory.specs.Records.{at, Records, Complete, Alike, Unlike}
use Rattle.theory.specs.Code.Search.{Full, SearchEnd, alike, unlike, full}
use Rattle.theory.proofs.Lines.{snoc_size, snoc_last, snoc_old}
use Rattle.theory.proofs.Records.{unique}

-- What an outcome shows.
pub data Shown : Type 0 where
  alike_of : List (List ℕ) → Shown
  unlike_of : List (List ℕ) → List ℕ → Shown
  full_of : List (List ℕ) → Shown

abbrev pub show : {r : Re} {n : ℕ} → SearchEnd r n → Shown
show (alike L h a) = alike_of L
show (unlike L w h a) = unlike_of L w
show (full L h a) = full_of L

module _ (r : Re) (d : Numbered 0 r) where
  -- Where two lists of records both have a line, it is one.
  pub common : {L M : List (List ℕ)} → Records (standing r) L → Records (standing r) M → (k : ℕ) → k < length L → k < length M → at L k ≡ at M k
  common a b k l m = unique r d a b (suc k) k (omega arith) l m

  pub agree : {L M : List (List ℕ)} → Records (standing r) L → Records (standing r) M → length L ≡ length M → L ≡ M
  agree {L} {M} a b e = ext_get_or [] L M e λ k l. common a b k l (omega arith)

  -- A complete list is the longest.
  pub longest : {L M : List (List ℕ)} → Records (standing r) L → Complete (standing r) L → Records (standing r) M → length M ≤ length L
  longest {L} {M} a c b =
      elim (dec_lt (length L) (length M)) [
        | no h ↦ omega arith
        | yes h ↦ (let (k, l, e) = c (at M (length L)) (b.bytes (length L) h) in
            absurd (b.fresh k (length L) l h (ap (standing r) (sym (common a b k l (omega arith))) ∙ e)))
      ]

  -- No witness is before the first.
  pub no_earlier : {L M : List (List ℕ)} {w : List ℕ} → Unlike (standing r) L w → Records (standing r) M → length L < length M → ((k : ℕ) → k < length M → T (is_witness (standing r (at M k))) → ⊥) → ⊥
  no_earlier {L} {M} {w} u b h none =
      let e : at M (length L) ≡ w = sym (common u.records b (length L) (omega (arith, snoc_size L w)) h) ∙ snoc_last L w in
      none (length L) h (rw e u.witness)

  abbrev pub Same : {n : ℕ} → SearchEnd r n → SearchEnd r n → Type 0
  Same x y = show x ≡ show y

  pub alike_unlike : {L M : List (List ℕ)} {w : List ℕ} → Alike (standing r) L → Unlike (standing r) M w → ⊥
  alike_unlike {L} {M} {w} a u =
      let h = longest a.records a.complete u.records in
      no_earlier u a.records (omega (arith, snoc_size M w)) a.none

  pub alike_full : {L M : List (List ℕ)} → Alike (standing r) L → Full r M → length L ≤ length M → ⊥
  alike_full {L} {M} a f h =
      let (v, b, m) = f.more in
      let (k, l, e) = a.complete v b in
      m k (omega arith) (ap (standing r) (sym (common a.records f.records k l (omega arith))) ∙ e)

  same_witness : {L M : List (List ℕ)} {w u : List ℕ} → Unlike (standing r) L w → Unlike (standing r) M u → length L ≡ length M → (L ≡ M) × (w ≡ u)
  same_witness {L} {M} {w} {u} a b e =
      let whole : L ++ (w ∷ []) ≡ M ++ (u ∷ []) = agree a.records b.records (omega (arith, snoc_size L w, snoc_size M u)) in (
        sym (take-append_seam L (w ∷ [])) ∙ ap (take (length L)) whole ∙ ap (λ k. take k (M ++ (u ∷ []))) e ∙ take-append_seam M (u ∷ []),
        sym (snoc_last L w) ∙ ap (λ x. at x (length L)) whole ∙ ap (at (M ++ (u ∷ []))) e ∙ snoc_last M u,
      )

  -- Two outcomes show the same.
  pub same_outcome : {n : ℕ} (x y : SearchEnd r n) → show x ≡ show y
  same_outcome (alike L h a) (alike M g b) =
      let i = longest a.records a.complete b.records in
      let j = longest b.records b.complete a.records in
      ap alike_of (agree a.records b.records (omega arith))
  same_outcome (alike L h a) (unlike M w g b) = absurd (alike_unlike a b)
  same_outcome (alike L h a) (full M g b) = absurd (alike_full a b (omega arith))
  same_outcome (unlike L w h a) (alike M g b) = absurd (alike_unlike b a)
  same_outcome (unlike L w h a) (unlike M u g b) =
      elim (dec_lt (length L) (length M)) [
        | yes i ↦ absurd (no_earlier' a b i)
        | no i ↦ elim (dec_lt (length M) (length L)) [
          | yes j ↦ absurd (no_earlier' b a j)
          | no j ↦ (let e = same_witness a b (omega arith) in ap₂ unlike_of e.0 e.1)
        ]
      ]
    where
      no_earlier' : {L M : List (List ℕ)} {w u : List ℕ} → Unlike (standing r) L w → Unlike (standing r) M u → length L < length M → ⊥
      no_earlier' {L} {M} {w} {u} a b i =
          let e : at M (length L) ≡ w = sym (snoc_old M u (length L) i) ∙ sym (common a.records b.records (length L) (omega (arith, snoc_size L w)) (omega (arith, snoc_size M u))) ∙ snoc_last L w in
          b.none (length L) i (rw e a.witness)
  same_outcome (unlike L w h a) (full M g b) = absurd (no_earlier a b.records (omega arith) b.none)
  same_outcome (full L h a) (alike M g b) = absurd (alike_full b a (omega arith))
  same_outcome (full L h a) (unlike M w g b) = absurd (no_earlier b a.records (omega arith) a.none)
  same_outcome (full L h a) (full M g b) = ap full_of (agree a.records b.records (omega arith))
