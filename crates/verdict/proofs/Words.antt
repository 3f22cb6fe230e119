-- What the three kinds of outcome mean.
-- Assumes nothing.
use mathlib.Core.Path.{◌≡◌, refl, sym, ap, ◌∙◌, subst}
use mathlib.Core.Logic.{◌⊎◌, inl, inr, ◌≢◌, ◌↔◌}
use Prim.Native.Nat.{ℕ, zero, suc, ◌≤◌, ◌<◌}
use mathlib.Core.List.{List, [], ◌∷◌, ◌++◌, append-nil}
use native.Mathlib.Omega.{arith}
use native.Mathlib.Decide.{dec_lt}
use lib.ListN.{length, length-append}
use lib.Dec.{T, eqb, eqb→eq}
use Rattle.theory.specs.Pattern.{Re, Numbered}
use Rattle.theory.specs.Standing.{standing, member, from, is_witness}
use Rattle.theory.specs.Spans.{CutDifferently}
use Rattle.theory.specs.Lines.{Below, ◌≺◌}
use Rattle.theory.specs.Records.{at, Records, Alike, Unlike}
use Rattle.theory.specs.Code.Search.{Full, SearchEnd, alike, unlike, full}
use Rattle.theory.proofs.Tests.{either, or_cases}
use Rattle.theory.specs.Code.Members.{Once, nil, cons}
use Rattle.theory.proofs.Members.{length_from, member_from, once_size}
use Rattle.theory.proofs.Cut.{witness_cut, cut_witness}
use Rattle.theory.proofs.Lines.{≺_irrefl, ≺_trans, ≺_total, below_left, below_right, snoc_size, snoc_last}
use Rattle.theory.proofs.Records.{alike_right, unlike_first}
use Rattle.theory.proofs.Run.{check}
use Rattle.verdict.specs.Demand.{NoneCut, FirstCut, Needed, Distinct, Number, Outnumber}
use Rattle.verdict.proofs.OneEnd.{common, no_earlier, alike_full}

-- w is u, or comes before it.
abbrev UpTo : List ℕ → List ℕ → Type 0
UpTo w u = (u ≡ w) ⊎ (w ≺ u)

sooner : (w v u : List ℕ) → UpTo w v → v ≺ u → w ≺ u
sooner w v u (inl e) o = subst (λ x. x ≺ u) e o
sooner w v u (inr i) o = ≺_trans w v u i o

up_to_trans : (w v u : List ℕ) → UpTo w v → UpTo v u → UpTo w u
up_to_trans w v u h (inl e) = subst (UpTo w) (sym e) h
up_to_trans w v u h (inr o) = inr (sooner w v u h o)

not_before : (w u : List ℕ) → UpTo w u → u ≺ w → ⊥
not_before w u h o = ≺_irrefl w (sooner w u w h o)

-- A part of a line is the line, or shorter.
part_of : (w u v t : List ℕ) → w ≡ u ++ (v ++ t) → UpTo v w
unfolding ◌≺◌
part_of w [] v [] e = inl (e ∙ append-nil v)
part_of w [] v (b ∷ t) e = inr (inl (omega (arith, ap length e, length-append v (b ∷ t))))
part_of w (b ∷ u) v t e = inr (inl (omega (arith, ap length e, length-append u (v ++ t), length-append v t)))

-- Pigeonholes: m distinct things, each one of n, are at most n.
module _ {S : Type 0} (n : ℕ) (f g : ℕ → S) where
  abbrev Holes : ℕ → Type 0
  Holes m = (k : ℕ) → k < m → (j : ℕ) × (j < n) × (f j ≡ g k)

  fewer : {m : ℕ} → Holes (suc m) → Holes m
  fewer h k l = h k (omega arith)

  top : {m : ℕ} → Holes (suc m) → (j : ℕ) × (j < n) × (f j ≡ g m)
  top {m} h = h m (omega arith)

  holes : (m : ℕ) → Holes m → List ℕ
  holes zero h = []
  holes (suc m) h = (top h).0 ∷ holes m (fewer h)

  holes_size : (m : ℕ) (h : Holes m) → length (holes m h) ≡ m
  unfolding holes
  holes_size zero h = refl
  holes_size (suc m) h = ap suc (holes_size m (fewer h))

  holes_member : (m : ℕ) (h : Holes m) (q : ℕ) → T (member q (holes m h)) → (q < n) × ((k : ℕ) × (k < m) × (f q ≡ g k))
  unfolding holes
  holes_member zero h q t = absurd t
  holes_member (suc m) h q t =
      either
      (λ e. let s = eqb→eq q (top h).0 e in (omega (arith, (top h).1), (m, omega arith, ap f s ∙ (top h).2)))
      (λ i. let (a, (k, l, e)) = holes_member m (fewer h) q i in (a, (k, omega arith, e)))
      (or_cases (eqb q (top h).0) (member q (holes m (fewer h))) t)

  holes_once : (m : ℕ) (h : Holes m) → ((j k : ℕ) → j < k → k < m → g j ≢ g k) → Once (holes m h)
  unfolding holes
  holes_once zero h other = nil
  holes_once (suc m) h other = cons clash (holes_once m (fewer h) λ j k o l. other j k o (omega arith))
    where
      clash : T (member (top h).0 (holes m (fewer h))) → ⊥
      clash t = let (a, (k, l, e)) = holes_member m (fewer h) (top h).0 t in other k m l (omega arith) (sym e ∙ (top h).2)

pub pigeons : {S : Type 0} (n : ℕ) (f g : ℕ → S) (m : ℕ) → ((k : ℕ) → k < m → (j : ℕ) × (j < n) × (f j ≡ g k)) → ((j k : ℕ) → j < k → k < m → g j ≢ g k) → m ≤ n
pigeons n f g m h other =
    let c = once_size (holes_once n f g m h other) (from 0 n) (λ q t. member_from q 0 n (omega arith) (omega (arith, (holes_member n f g m h q t).0))) in
    omega (arith, holes_size n f g m h, length_from 0 n)

module _ (r : Re) (d : Numbered 0 r) where
  pub alike_none : {L : List (List ℕ)} → Alike (standing r) L → NoneCut r
  alike_none a u h c = c (alike_right r d a u h)

  -- A line that is cut differently is a witness, or one comes before it.
  pub cut_after : {u : List ℕ} → Below 256 u → CutDifferently r u → (v : List ℕ) × Below 256 v × UpTo v u × T (is_witness (standing r v))
  cut_after {u} h c =
      let (x, v, y, e, i) = cut_witness r d u c in
      (v, below_left 256 v y (below_right 256 x (v ++ y) (rw e at h)), part_of u x v y e, i)

  -- THE FIRST WITNESS IS THE FIRST LINE THAT IS CUT DIFFERENTLY.
  pub first_cut : {L : List (List ℕ)} {w : List ℕ} → Unlike (standing r) L w → FirstCut r w
  first_cut {L} {w} a =
      record {
        bytes = rw (snoc_last L w) at (a.records.bytes (length L) (omega (arith, snoc_size L w)));
        cut = witness_cut r w a.witness;
        first = λ u h c. let (v, b, o, i) = cut_after h c in up_to_trans w v u (later v b i) o;
      }
    where
      later : (v : List ℕ) → Below 256 v → T (is_witness (standing r v)) → UpTo w v
      later v b i = either (λ o. absurd (unlike_first r d a v b o i)) (λ o. o) (≺_total v w)

  -- There is one first line cut differently.
  pub first_unique : {w u : List ℕ} → FirstCut r w → FirstCut r u → w ≡ u
  first_unique {w} {u} a b = either (λ e. e) (λ o. absurd (not_before w u (a.first u b.bytes b.cut) o)) (b.first w a.bytes a.cut)

  -- No line cut differently comes before the lines up to and including the first of them, and only before these none.
  pub needed_up_to : {w : List ℕ} → FirstCut r w → (u : List ℕ) → Needed r u ↔ UpTo u w
  needed_up_to {w} a u = (
    λ n. either inr (either (λ e. inl (sym e)) (λ o. absurd (n w a.bytes o a.cut))) (≺_total u w),
    λ o v b i c. not_before u v (up_to_trans u w v o (a.first v b c)) i,
  )

  -- No more lines have distinct standings than there are in all,
  most : {m n : ℕ} {M : List (List ℕ)} → Number r m → Distinct r n M → n ≤ m
  most {m} {n} {M} a b =
      pigeons m (λ k. standing r (at a.lines k)) (λ k. standing r (at M k)) n (λ k l. a.every (at M k) (b.bytes k l) (b.needed k l)) b.distinct

  -- so that they are one number, and do not outnumber it.
  pub number_unique : {m n : ℕ} → Number r m → Number r n → m ≡ n
  number_unique a b = let x = most a b.are in let y = most b a.are in omega arith

  pub enough : {m n : ℕ} → Number r m → m ≤ n → Outnumber r n → ⊥
  enough a h (M, o) = let c = most a o in omega arith

  -- The first lines of the records stand in their order.
  pub records_up : {L : List (List ℕ)} → Records (standing r) L → (j k : ℕ) → j < k → k < length L → at L j ≺ at L k
  records_up {L} a j k o l = go (≺_total (at L j) (at L k))
    where
      go : (at L j ≺ at L k) ⊎ ((at L j ≡ at L k) ⊎ (at L k ≺ at L j)) → at L j ≺ at L k
      go (inl h) = h
      go (inr (inl e)) = absurd (a.fresh j k o l (ap (standing r) e))
      go (inr (inr h)) = let (i, b, e) = a.before j (omega arith) (at L k) (a.bytes k l) h in absurd (a.fresh i k (omega arith) l e)

  -- Alike: the count is the number of all distinct standings.
  pub alike_number : {L : List (List ℕ)} → Alike (standing r) L → Number r (length L)
  alike_number {L} a =
      record {
        lines = L;
        are = record { size = refl; bytes = a.records.bytes; needed = λ k l w b o. alike_none a w b; distinct = λ j k o l. a.records.fresh j k o l };
        every = λ u h n. a.complete u h;
      }

  -- Unlike: .. of those of the lines up to and including the first that is cut differently.
  pub unlike_number : {L : List (List ℕ)} {w : List ℕ} → Unlike (standing r) L w → Number r (suc (length L))
  unlike_number {L} {w} a =
      record {
        lines = L ++ (w ∷ []);
        are = record {
          size = snoc_size L w;
          bytes = λ k l. a.records.bytes k (omega (arith, snoc_size L w));
          needed = λ k l. (needed_up_to (first_cut a) (at (L ++ (w ∷ [])) k)).1 (within k l);
          distinct = λ j k o l. a.records.fresh j k o (omega (arith, snoc_size L w));
        };
        every = λ u h n. go u h ((needed_up_to (first_cut a) u).0 n);
      }
    where
      last : length L < length (L ++ (w ∷ []))
      last = omega (arith, snoc_size L w)

      within : (k : ℕ) → k < suc (length L) → UpTo (at (L ++ (w ∷ [])) k) w
      within k l =
          elim (dec_lt k (length L)) [
            | yes h ↦ inr (subst (λ x. at (L ++ (w ∷ [])) k ≺ x) (snoc_last L w) (records_up a.records k (length L) h last))
            | no h ↦ (let e : length L ≡ k = omega arith in inl (sym (snoc_last L w) ∙ ap (at (L ++ (w ∷ []))) e))
          ]

      go : (u : List ℕ) → Below 256 u → UpTo u w → (k : ℕ) × (k < suc (length L)) × (standing r (at (L ++ (w ∷ [])) k) ≡ standing r u)
      go u h (inl e) = (length L, omega arith, ap (standing r) (snoc_last L w ∙ e))
      go u h (inr o) = let (j, l, e) = a.records.before (length L) last u h (subst (λ x. u ≺ x) (sym (snoc_last L w)) o) in (j, omega arith, e)

  -- Records of which only the last may be a witness's.
  outnumber : {M : List (List ℕ)} {n : ℕ} → Records (standing r) M → length M ≡ suc n → ((k : ℕ) → k < n → T (is_witness (standing r (at M k))) → ⊥) → Outnumber r n
  outnumber {M} {n} a e none = (
    M,
    record {
      size = e;
      bytes = λ k l. a.bytes k (omega arith);
      needed = λ k l w b o c.
          let (v, h, up, t) = cut_after b c in
          let (j, i, s) = a.before k (omega arith) v h (sooner v w (at M k) up o) in
          none j (omega arith) (subst (λ x. T (is_witness x)) (sym s) t);
      distinct = λ j k o l. a.fresh j k o (omega arith);
    },
  )

  -- 10: the standings that get a record outnumber the slots.
  pub full_outnumbers : {L : List (List ℕ)} → Full r L → Outnumber r (length L)
  full_outnumbers {L} f = go (check r d (suc (length L)))
    where
      early : {M : List (List ℕ)} → Records (standing r) M → (k : ℕ) → k < length L → k < length M → T (is_witness (standing r (at M k))) → ⊥
      early b k l m t = f.none k l (subst (λ x. T (is_witness (standing r x))) (sym (common r d f.records b k l m)) t)

      go : SearchEnd r (suc (length L)) → Outnumber r (length L)
      go (alike M h a) =
          elim (dec_lt (length L) (length M)) [
            | no i ↦ absurd (alike_full r d a f (omega arith))
            | yes i ↦ outnumber a.records (omega arith) (λ k l. early a.records k l (omega arith))
          ]
      go (unlike M w h a) =
          elim (dec_lt (length M) (length L)) [
            | yes i ↦ absurd (no_earlier r d a f.records i f.none)
            | no i ↦ outnumber a.records (omega (arith, snoc_size M w)) (λ k l. early a.records k l (omega (arith, snoc_size M w)))
          ]
      go (full M h a) = outnumber a.records (omega arith) (λ k l. early a.records k l (omega arith))
