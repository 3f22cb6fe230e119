-- What the reader answers.
-- Assumes nothing.
use mathlib.Core.Path.{◌≡◌, refl, sym, ap, ◌∙◌}
use mathlib.Core.Logic.{◌⊎◌, inl, inr, ◌↔◌}
use Prim.Native.Nat.{ℕ, zero, suc, ◌≤◌, ◌<◌}
use mathlib.Core.List.{List, [], ◌∷◌, ◌++◌, append-nil}
use native.Mathlib.Omega.{arith}
use lib.ListN.{length, take, replicate}
use lib.Seq.{take-append-le, take-length}
use Rattle.grammar.specs.Grammar.{Repeat, once, lazily, Alternation, last, nothing, Atom, group, sign, kind, alternation, WfAlternation}
use Rattle.grammar.specs.Limits.{max_bytes, depth, Reads}
use Rattle.grammar.specs.Before.{Before, after, text, opens, WfBefore}
use Rattle.grammar.specs.Code.Reader.{Gathered, whole, within, gather, read}
use Rattle.grammar.specs.Refusals.{Answer, accepted, refused, unready_sign, unready_count, Fault, too_long, wrong, too_heavy, Right}
use Rattle.grammar.proofs.Sound.{GatherOk, gather_ok, opens_max, read_right}
use Rattle.grammar.proofs.Unique.{right_unique}
use Rattle.grammar.proofs.Place.{text_leads}

-- A pattern is accepted with a tree exactly if it is the text of that tree, which is well formed and within the limits.
pub accepts : (p : List ℕ) (t : Alternation) → (read p ≡ accepted t) ↔ Reads p t
accepts p t = (λ e. rw e at (read_right p), λ h. right_unique p (accepted t) h)

-- A pattern has at most one such tree.
pub unambiguous : (p : List ℕ) (t u : Alternation) → Reads p t → Reads p u → t ≡ u
unambiguous p t u h k =
    let a : read p ≡ accepted t = right_unique p (accepted t) h in
    let b : read p ≡ accepted u = right_unique p (accepted u) k in
    cc

-- It is refused with a number and a place exactly if they are those of its fault,
pub refuses : (p : List ℕ) (n q : ℕ) → (read p ≡ refused n q) ↔ Fault p n q
refuses p n q = (λ e. rw e at (read_right p), λ h. right_unique p (refused n q) h)

-- of which it has at most one,
pub one_fault : (p : List ℕ) (m n i j : ℕ) → Fault p m i → Fault p n j → (m ≡ n) × (i ≡ j)
one_fault p m n i j h k =
    let a : read p ≡ refused m i = right_unique p (refused m i) h in
    let b : read p ≡ refused n j = right_unique p (refused n j) k in
    ((cc), (cc))

-- and one if it has no tree within the limits, and none if it has.
pub either_way : (p : List ℕ) → ((t : Alternation) × Reads p t) ⊎ ((n : ℕ) × (q : ℕ) × Fault p n q)
either_way p = go (read p) (read_right p)
  where
    go : (a : Answer) → Right p a → ((t : Alternation) × Reads p t) ⊎ ((n : ℕ) × (q : ℕ) × Fault p n q)
    go (accepted t) h = inl (t, h)
    go (refused n q) h = inr (n, q, h)

pub not_both : (p : List ℕ) (t : Alternation) (n q : ℕ) → Reads p t → Fault p n q → ⊥
not_both p t n q h k =
    let a : read p ≡ accepted t = right_unique p (accepted t) h in
    let b : read p ≡ refused n q = right_unique p (refused n q) k in
    let z : ◌≡◌ {A = ℕ} 0 1 = cc in omega arith

-- "A `?` after a repeat is thus legal once; a further repeat sign is still 2, at its place": so is each sign after a lazy repeat, and a `{`.
module _ (o : Before) (a : Atom) (r : Repeat) (w : WfBefore (after o a (lazily r))) (s : List ℕ) where
  abbrev Further : ℕ → Type 0
  Further b = let p = text (after o a (lazily r)) (b ∷ s) in length p ≤ max_bytes → read p ≡ refused 2 (length (text (after o a (lazily r)) []))

  pub further_sign : (b : ℕ) (x : Repeat) → kind b ≡ sign x → Further b
  further_sign b x k h = (refuses _ 2 _).1 (wrong h (after o a (lazily r)) (b ∷ s) w refl (unready_sign b x s k refl (λ e. refl)) refl)

  pub further_count : Further 123
  further_count h = (refuses _ 2 _).1 (wrong h (after o a (lazily r)) (123 ∷ s) w refl (unready_count s refl) refl)

-- A beginning is the beginning of a pattern of the grammar, no deeper than 16: its brackets can be closed at once.
pub completed : (o : Before) → WfBefore o → (t : Alternation) × WfAlternation t × (depth t ≤ 16) × (alternation t [] ≡ text o (replicate (opens o) 41))
completed o w = go (opens o) o w refl
  where
    close : (n : ℕ) (o : Before) (g : Gathered) → ((o : Before) → WfBefore o → opens o ≡ n → (t : Alternation) × WfAlternation t × (depth t ≤ 16) × (alternation t [] ≡ text o (replicate n 41))) → opens o ≡ suc n → GatherOk o (last nothing) g → (t : Alternation) × WfAlternation t × (depth t ≤ 16) × (alternation t [] ≡ text o (replicate (suc n) 41))
    close n o (whole t) ih e k = absurd (omega arith)
    close n o (within o' t) ih e k =
        let r = ih (after o' (group t) once) (k.1, k.2, tt, k.3) (omega arith) in
        (r.0, r.1, r.2, r.3 ∙ sym (k.4 (41 ∷ replicate n 41)))

    end : (o : Before) (g : Gathered) → opens o ≡ 0 → GatherOk o (last nothing) g → (t : Alternation) × WfAlternation t × (depth t ≤ 16) × (alternation t [] ≡ text o [])
    end o (whole t) e k = (t, k.1, k.2, sym (k.3 []))
    end o (within o' t) e k = absurd (omega arith)

    gathered : (o : Before) → WfBefore o → GatherOk o (last nothing) (gather o (last nothing))
    gathered o w = gather_ok o (last nothing) w tt (omega (arith, opens_max o w))

    go : (n : ℕ) (o : Before) → WfBefore o → opens o ≡ n → (t : Alternation) × WfAlternation t × (depth t ≤ 16) × (alternation t [] ≡ text o (replicate n 41))
    go zero o w e = end o (gather o (last nothing)) e (gathered o w)
    go (suc n) o w e = close n o (gather o (last nothing)) (λ o w e. go n o w e) e (gathered o w)

-- THE LOWEST PLACE: what stands before the place of a fault from 2 on is the beginning of a pattern of the grammar, no deeper than 16, so nothing before it is at fault.
pub lowest : {p : List ℕ} {n q : ℕ} → Fault p n q → 1 < n → (c : List ℕ) × (t : Alternation) × WfAlternation t × (depth t ≤ 16) × (alternation t [] ≡ take q p ++ c)
lowest (too_long l e f) h = absurd (omega arith)
lowest {p} {n} {q} (wrong l o s w e f g) h =
    let (t, wf, deep, is) = completed o w in
    let c : List ℕ = replicate (opens o) 41 in
    let first : take q p ≡ text o [] =
    ap (λ k. take k p) g ∙ ap (λ x. take (length (text o [])) x) (sym e ∙ text_leads o s) ∙ take-append-le (length (text o [])) (text o []) s (omega arith) ∙ take-length (text o []) in
    (c, t, wf, deep, is ∙ text_leads o c ∙ ap (λ x. x ++ c) (sym first))
lowest {p} {n} {q} (too_heavy l t wf deep e f g k) h = ([], t, wf, deep, e ∙ sym (append-nil (take q p) ∙ ap (λ i. take i p) k ∙ take-length p))
