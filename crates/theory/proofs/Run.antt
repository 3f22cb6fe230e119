-- The search as a function: for each pattern and each number of slots there is an end. With it examples are computed.
-- Assumes nothing.
use mathlib.Core.Path.{◌≡◌, refl, sym, ap, ap₂, ◌∙◌, subst}
use mathlib.Core.Logic.{◌⊎◌, inl, inr, ◌≢◌}
use Prim.Native.Nat.{ℕ, zero, suc, ◌+◌, ◌*◌, ◌-◌, ◌≤◌, ◌<◌}
use mathlib.Core.Bool.{Bool, true, false, Bool-discrete, not, ◌&&◌}
use mathlib.Core.List.{List, [], ◌∷◌, ◌++◌}
use native.Mathlib.Omega.{arith}
use native.Mathlib.Decide.{dec_lt, ℕ_discrete}
use lib.ListN.{length, get_or}
use lib.Dec.{T}
use Rattle.theory.specs.Pattern.{Re, Numbered}
use Rattle.theory.specs.Code.Follow.{start, has_end}
use Rattle.theory.specs.Standing.{Standing, standing, is_witness}
use Rattle.theory.specs.Code.Next.{next}
use Rattle.theory.specs.Records.{at}
use Rattle.theory.specs.Code.Search.{begin, known, new, turn, Search, SearchEnd, alike, unlike, full}
use Rattle.theory.proofs.Tests.{true_T, T_true}
use Rattle.theory.proofs.Step.{step, step_start}
use Rattle.theory.proofs.Search.{trace_bytes, trace_place}
use Rattle.theory.proofs.Lines.{snoc_size, snoc_each, snoc_old, snoc_last, below_snoc}
use Rattle.theory.proofs.Records.{carries, search_records, search_complete}

unfoldable pub list_dec : (l m : List ℕ) → Dec (l ≡ m)
list_dec [] [] = yes refl
list_dec [] (b ∷ m) = no λ e. let z : ◌≡◌ {A = ℕ} 0 1 = cc in omega arith
list_dec (a ∷ l) [] = no λ e. let z : ◌≡◌ {A = ℕ} 0 1 = cc in omega arith
list_dec (a ∷ l) (b ∷ m) =
    elim (ℕ_discrete a b) [
      | yes e ↦ elim (list_dec l m) [ yes f ↦ yes (ap₂ ◌∷◌ e f) | no g ↦ no (λ c. g (cc)) ]
      | no g ↦ no (λ c. g (cc))
    ]

unfoldable pub standing_dec : (s t : Standing) → Dec (s ≡ t)
standing_dec s t =
    elim (list_dec s.order t.order) [
      | yes o ↦ elim (list_dec s.all t.all) [
        | yes a ↦ elim (Bool-discrete s.first t.first) [
          | yes f ↦ elim (Bool-discrete s.some t.some) [
            | yes d ↦ yes (λ i. record { order = o i; first = f i; all = a i; some = d i })
            | no g ↦ no (λ e. g (ap (λ c. c.some) e))
          ]
          | no g ↦ no (λ e. g (ap (λ c. c.first) e))
        ]
        | no g ↦ no (λ e. g (ap (λ c. c.all) e))
      ]
      | no g ↦ no (λ e. g (ap (λ c. c.order) e))
    ]

-- The standings of the lines, in a list of their own.
module _ (r : Re) where
  pub data Stands : List (List ℕ) → List Standing → Type 0 where
    none : Stands [] []
    more : {w : List ℕ} {L : List (List ℕ)} {s : Standing} {S : List Standing} → standing r w ≡ s → Stands L S → Stands (w ∷ L) (s ∷ S)

  pub stands_size : {L : List (List ℕ)} {S : List Standing} → Stands L S → length S ≡ length L
  stands_size none = refl
  stands_size (more e t) = ap suc (stands_size t)

  unfoldable pub stands_add : {L : List (List ℕ)} {S : List Standing} (w : List ℕ) (s : Standing) → Stands L S → standing r w ≡ s → Stands (L ++ (w ∷ [])) (S ++ (s ∷ []))
  stands_add w s none e = more e none
  stands_add w s (more f t) e = more f (stands_add w s t e)

  pub stands_at : {L : List (List ℕ)} {S : List Standing} (d : Standing) → Stands L S → (k : ℕ) → k < length L → standing r (at L k) ≡ get_or S k d
  stands_at d none k l = absurd (omega arith)
  stands_at d (more e t) zero l = e
  stands_at d (more e t) (suc k) l = stands_at d t k (omega arith)

  -- Whether a standing is among them.
  unfoldable pub seek : (s : Standing) {L : List (List ℕ)} {S : List Standing} → Stands L S
      → ((k : ℕ) × (k < length L) × (standing r (at L k) ≡ s)) ⊎ ((k : ℕ) → k < length L → standing r (at L k) ≢ s)
  seek s none = inr λ k l. absurd (omega arith)
  seek s (more {w = w} {L = L} {s = t} e p) =
      elim (standing_dec t s) [
        | yes a ↦ inl (0, omega arith, e ∙ a)
        | no a ↦ elim (seek s p) [
          | inl b ↦ inl (suc b.0, omega arith, b.2)
          | inr b ↦ inr (no_place a b)
        ]
      ]
    where
      no_place : (t ≢ s) → ((k : ℕ) → k < length L → standing r (at L k) ≢ s) → (k : ℕ) → k < length (w ∷ L) → standing r (at (w ∷ L) k) ≢ s
      no_place a b zero l x = a (sym e ∙ x)
      no_place a b (suc m) l x = b m (omega arith) x

module _ (r : Re) (d : Numbered 0 r) (slots : ℕ) where
  unfoldable pub run : (f : ℕ) {L : List (List ℕ)} {S : List Standing} {q c : ℕ} → Search r L q c → Stands r L S → ((k : ℕ) → k < length L → T (is_witness (standing r (at L k))) → ⊥)
      → length L ≤ slots → c ≤ 256 → 257 * (slots - q) + (256 - c) < f → SearchEnd r slots
  run zero t p x y z g = absurd (omega arith)
  run (suc f) {L} {S} {q} {c} t p x y z g =
      elim (dec_lt q (length L)) [
        | no h ↦ alike L y (record {
          records = search_records r d t;
          complete = search_complete r d (ended h (trace_place (standing r) (carries r d) 256 t));
          none = x;
        })
        | yes h ↦ elim (dec_lt c 256) [
          | no i ↦ (let e : c ≡ 256 = omega arith in run f (turn (subst (λ a. Search r L q a) e t) h) p x y (omega arith) (omega arith))
          | yes i ↦
              (let s = next r (get_or S q (standing r [])) c in
              let e : standing r (at L q ++ (c ∷ [])) ≡ s = step r d (at L q) c ∙ ap (λ a. next r a c) (stands_at r (standing r []) p q h) in
              elim (seek r s p) [
                | inl a ↦ run f (known t h i a.0 a.1 (a.2 ∙ sym e)) p x y (omega arith) (omega arith)
                | inr a ↦ elim (dec_lt (length L) slots) [
                  | no j ↦ full L (omega arith) (record {
                    records = search_records r d t;
                    none = x;
                    more = (at L q ++ (c ∷ []), below_snoc 256 (at L q) c (trace_bytes (standing r) (carries r d) 256 t q h) i, λ k l b. a k l (b ∙ e));
                  })
                  | yes j ↦ elim (Bool-discrete (is_witness s) true) [
                    | yes b ↦ unlike L (at L q ++ (c ∷ [])) j (record {
                      records = search_records r d (new t h i λ k l b. a k l (b ∙ e));
                      none = x;
                      witness = true_T (is_witness (standing r (at L q ++ (c ∷ [])))) (ap is_witness e ∙ b);
                    })
                    | no b ↦ run f (new t h i λ k l b. a k l (b ∙ e)) (stands_add r (at L q ++ (c ∷ [])) s p e)
                        (none_new e b)
                        (omega (arith, snoc_size L (at L q ++ (c ∷ [])))) (omega arith) (omega arith)
                  ]
                ]
              ])
        ]
      ]
    where
      ended : ¬ (q < length L) → (q < length L) ⊎ ((q ≡ length L) × (c ≡ 0)) → Search r L (length L) 0
      ended h (inl a) = absurd (h a)
      ended h (inr a) = subst (λ b. Search r L b 0) a.0 (subst (λ b. Search r L q b) a.1 t)

      none_new : {s : Standing} → standing r (at L q ++ (c ∷ [])) ≡ s → ¬ (is_witness s ≡ true)
          → (k : ℕ) → k < length (L ++ ((at L q ++ (c ∷ [])) ∷ [])) → T (is_witness (standing r (at (L ++ ((at L q ++ (c ∷ [])) ∷ [])) k))) → ⊥
      none_new {s} e b =
          snoc_each L (at L q ++ (c ∷ [])) (λ k. T (is_witness (standing r (at (L ++ ((at L q ++ (c ∷ [])) ∷ [])) k))) → ⊥)
          (λ k l w. x k l (rw (snoc_old L (at L q ++ (c ∷ [])) k l) at w))
          (λ w. b (T_true (is_witness s) (rw (snoc_last L (at L q ++ (c ∷ [])), e) at w)))

both_ways : (b : Bool) → T (b && not b) → ⊥
both_ways true t = t
both_ways false t = t

pub start_no_witness : (r : Re) → T (is_witness (standing r [])) → ⊥
start_no_witness r t = both_ways (has_end (start r)) (rw (step_start r) at t)

unfoldable pub check : (r : Re) → Numbered 0 r → (slots : ℕ) → SearchEnd r slots
check r d slots =
    elim (dec_lt 0 slots) [
      | no h ↦ full [] (omega arith) (record {
        records = record { bytes = λ k l. absurd (omega arith); before = λ k l. absurd (omega arith); fresh = λ j k o l. absurd (omega arith) };
        none = λ k l. absurd (omega arith);
        more = ([], tt, λ k l. absurd (omega arith));
      })
      | yes h ↦ run r d slots (257 * slots + 257) begin (more {s = standing r []} refl none) first h (omega arith) (omega arith)
    ]
  where
    first : (k : ℕ) → k < length {A = List ℕ} ([] ∷ []) → T (is_witness (standing r (at ([] ∷ []) k))) → ⊥
    first zero l t = start_no_witness r t
    first (suc m) l t = absurd (omega arith)
