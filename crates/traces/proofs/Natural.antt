-- What an outcome carries is only carried: to turn it by h afterwards is to have carried what h makes of it. So rows of sets serve for values, and values for traces.
-- Assumes nothing.
use mathlib.Core.Path.{◌≡◌, refl, ap, ◌∙◌}
use Prim.Native.Nat.{ℕ, suc}
use mathlib.Core.Bool.{Bool, true, false, cond}
use mathlib.Core.List.{List, [], ◌∷◌, ◌++◌}
use lib.Dec.{eqb}
use Rattle.theory.specs.Pattern.{Manner, eager, lazy, Re, empty, leaf, seq, alt, star, field, has}
use Rattle.theory.specs.Outcomes.{Outcome, empty_turn, when}
use Rattle.theory.specs.Outcomes as Plain
use Rattle.theory.specs.Standing.{member}
use Rattle.theory.proofs.Turns.{replace_empty_turn}
use Rattle.traces.specs.Traces.{Mark, opened, closed, Carried, ends_at, wants, end, want, replace, and_then, carry, then_leave, close}
use Rattle.traces.specs.Code.Rows.{start, follow, after, runs}
use Rattle.traces.specs.Code.Pass.{mapped, firsts}

module _ {C D : Type 0} (π : ℕ → ℕ) (h : C → D) where
  pub mapped_append : (l m : List (Carried C)) → mapped π h (l ++ m) ≡ mapped π h l ++ mapped π h m
  mapped_append [] m = refl
  mapped_append (ends_at k v ∷ l) m = rw (mapped_append l m)
  mapped_append (wants p v ∷ l) m = rw (mapped_append l m)

  mapped_replace : (f g : ℕ → C → List (Carried C)) (f' g' : ℕ → D → List (Carried D))
      → ((k : ℕ) (v : C) → mapped π h (f k v) ≡ f' (π k) (h v)) → ((p : ℕ) (v : C) → mapped π h (g p v) ≡ g' p (h v))
      → (l : List (Carried C)) → mapped π h (replace f g l) ≡ replace f' g' (mapped π h l)
  mapped_replace f g f' g' a b [] = refl
  mapped_replace f g f' g' a b (ends_at k v ∷ l) = rw (mapped_append, a k v, mapped_replace f g f' g' a b l)
  mapped_replace f g f' g' a b (wants p v ∷ l) = rw (mapped_append, b p v, mapped_replace f g f' g' a b l)

  mapped_carry : (v : C) (l : List (Outcome ℕ)) → mapped π h (carry v l) ≡ carry (h v) (Plain.and_then l (λ k. Outcome.ends_at (π k) ∷ []))
  mapped_carry v [] = refl
  mapped_carry v (Outcome.ends_at k ∷ l) = rw (mapped_carry v l)
  mapped_carry v (Outcome.wants p ∷ l) = rw (mapped_carry v l)

  mapped_then_leave : (how : Manner) (l : List (Carried C)) (i : ℕ) (v : C) → mapped π h (then_leave how l i v) ≡ then_leave how (mapped π h l) (π i) (h v)
  unfolding then_leave
  mapped_then_leave eager l i v = mapped_append l (ends_at i v ∷ [])
  mapped_then_leave lazy l i v = refl

  mapped_when : (c : Bool) (l : List (Carried C)) → mapped π h (when c l) ≡ when c (mapped π h l)
  mapped_when true l = refl
  mapped_when false l = refl

  -- Each outcome once.
  mapped_cond : (c : Bool) (o : Carried C) (l m : List (Carried C)) {l' m' : List (Carried D)} → mapped π h l ≡ l' → mapped π h m ≡ m'
      → mapped π h (cond c l (o ∷ m)) ≡ cond c l' (mapped π h (o ∷ []) ++ m')
  mapped_cond true o l m x y = x
  mapped_cond false (ends_at k v) l m x y = ap (λ m. ends_at (π k) (h v) ∷ m) y
  mapped_cond false (wants p v) l m x y = ap (λ m. wants p (h v) ∷ m) y

  pub mapped_firsts : (seen : List ℕ) (l : List (Carried C)) → mapped π h (firsts seen l) ≡ firsts seen (mapped π h l)
  mapped_firsts seen [] = refl
  mapped_firsts seen (ends_at k v ∷ l) = mapped_cond (member 0 seen) (ends_at k v) (firsts seen l) (firsts (seen ++ (0 ∷ [])) l) (mapped_firsts seen l) (mapped_firsts (seen ++ (0 ∷ [])) l)
  mapped_firsts seen (wants p v ∷ l) = mapped_cond (member (suc p) seen) (wants p v) (firsts seen l) (firsts (seen ++ (suc p ∷ [])) l) (mapped_firsts seen l) (mapped_firsts (seen ++ (suc p ∷ [])) l)

  module _ (mark : Mark → C → C) (mark' : Mark → D → D)
      (opens : (f k : ℕ) (v : C) → h (mark (opened f k) v) ≡ mark' (opened f (π k)) (h v))
      (closes : (f k : ℕ) (v : C) → h (mark (closed f k) v) ≡ mark' (closed f (π k)) (h v)) where
    mapped_and_then : (f : ℕ → C → List (Carried C)) (f' : ℕ → D → List (Carried D)) → ((k : ℕ) (v : C) → mapped π h (f k v) ≡ f' (π k) (h v))
        → (l : List (Carried C)) → mapped π h (and_then l f) ≡ and_then (mapped π h l) f'
    mapped_and_then f f' a l = mapped_replace f want f' want a (λ p v. refl) l

    mapped_close : (f k : ℕ) (v : C) → mapped π h (close mark f k v) ≡ close mark' f (π k) (h v)
    mapped_close f k v = rw (closes f k v)

    pub natural_start : (r : Re) (n : ℕ) (v : C) → mapped π h (start mark r n v) ≡ start mark' r (π n) (h v)
    unfolding start
    natural_start empty n v = refl
    natural_start (leaf p s) n v = refl
    natural_start (seq x y) n v = mapped_and_then (start mark y) (start mark' y) (natural_start y) (start mark x n v) ∙ rw (natural_start x n v)
    natural_start (alt x y) n v = mapped_append (start mark x n v) (start mark y n v) ∙ rw (natural_start x n v, natural_start y n v)
    natural_start (star how x) n v =
        mapped_then_leave how (and_then (start mark x n v) (λ k u. carry u (empty_turn k))) n v
        ∙ ap (λ l. then_leave how l (π n) (h v))
        (mapped_and_then (λ k u. carry u (empty_turn k)) (λ k u. carry u (empty_turn k)) (λ k u. mapped_carry u (empty_turn k) ∙ ap (carry (h u)) (replace_empty_turn π Plain.want k)) (start mark x n v)
        ∙ rw (natural_start x n v))
    natural_start (field f x) n v =
        mapped_and_then (close mark f) (close mark' f) (mapped_close f) (start mark x n (mark (opened f n) v))
        ∙ rw (natural_start x n (mark (opened f n) v), opens f n v)

    pub natural_follow : (r : Re) (p n : ℕ) (v : C) → mapped π h (follow mark r p n v) ≡ follow mark' r p (π n) (h v)
    unfolding follow
    natural_follow empty p n v = refl
    natural_follow (leaf q s) p n v = mapped_when (eqb p q) (end n v)
    natural_follow (seq x y) p n v =
        mapped_append (and_then (follow mark x p n v) (start mark y)) (follow mark y p n v)
        ∙ rw (mapped_and_then (start mark y) (start mark' y) (natural_start y) (follow mark x p n v), natural_follow x p n v, natural_follow y p n v)
    natural_follow (alt x y) p n v = mapped_append (follow mark x p n v) (follow mark y p n v) ∙ rw (natural_follow x p n v, natural_follow y p n v)
    natural_follow (star how x) p n v =
        mapped_and_then (start mark (star how x)) (start mark' (star how x)) (natural_start (star how x)) (follow mark x p n v) ∙ rw (natural_follow x p n v)
    natural_follow (field f x) p n v = mapped_and_then (close mark f) (close mark' f) (mapped_close f) (follow mark x p n v) ∙ rw (natural_follow x p n v)

    pub natural_after : (r : Re) (b p n : ℕ) (v : C) → mapped π h (after mark r b p n v) ≡ after mark' r b p (π n) (h v)
    natural_after r b p n v = mapped_when (has r p b) (follow mark r p n v) ∙ ap (when (has r p b)) (natural_follow r p n v)

-- The whole list.
module _ {C D : Type 0} (h : C → D) (mark : Mark → C → C) (mark' : Mark → D → D) (marks : (m : Mark) (v : C) → h (mark m v) ≡ mark' m (h v)) where
  pub natural_runs : (r : Re) (rest : List ℕ) (l : List (Carried C)) (i : ℕ) → mapped (λ k. k) h (runs mark r l rest i) ≡ runs mark' r (mapped (λ k. k) h l) rest i
  unfolding runs
  natural_runs r [] l i = refl
  natural_runs r (b ∷ rest) l i =
      mapped_replace (λ k. k) h end (λ p v. runs mark r (after mark r b p (suc i) v) rest (suc i)) end (λ p v. runs mark' r (after mark' r b p (suc i) v) rest (suc i))
      (λ k v. refl)
      (λ p v. natural_runs r rest (after mark r b p (suc i) v) (suc i)
      ∙ ap (λ m. runs mark' r m rest (suc i)) (natural_after (λ k. k) h mark mark' (λ f k. marks (opened f k)) (λ f k. marks (closed f k)) r b p (suc i) v)) l
