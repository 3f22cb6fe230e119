-- Laws of the lists that groups are read off: two tests that agree on a list, the place of the first number that passes, and numbers chosen upwards.
-- Assumes nothing.
use mathlib.Core.Path.{◌≡◌, refl, sym, ap, ◌∙◌}
use Prim.Native.Nat.{ℕ, zero, suc, ◌≤◌, ◌<◌}
use mathlib.Core.Bool.{Bool, true, false, cond, true≢false}
use mathlib.Core.List.{List, [], ◌∷◌, ◌++◌, map}
use native.Mathlib.Omega.{arith}
use lib.ListN.{length, get_or}
use lib.Dec.{T, eqb, eqb→eq, eqb_refl}
use Rattle.theory.specs.Standing.{member, from, filter}
use Rattle.theory.specs.Code.Members.{any}
use Rattle.theory.proofs.Tests.{T_true, true_T, or_left, or_right, or_cases, either}
use Rattle.theory.proofs.Members.{from_range, filter_in}
use Rattle.groups.specs.Numbers.{place_of}
use Rattle.groups.specs.Readable.{first_or}

-- Two functions agree on the numbers of a list.
abbrev pub Agree : {A : Type 0} → (ℕ → A) → (ℕ → A) → List ℕ → Type 0
Agree f g l = (p : ℕ) → T (member p l) → f p ≡ g p

head : {A : Type 0} (f g : ℕ → A) (p : ℕ) (l : List ℕ) → Agree f g (p ∷ l) → f p ≡ g p
head f g p l h = h p (or_left (eqb p p) (member p l) (eqb_refl p))

tail : {A : Type 0} (f g : ℕ → A) (p : ℕ) (l : List ℕ) → Agree f g (p ∷ l) → Agree f g l
tail f g p l h = λ q m. h q (or_right (eqb q p) (member q l) m)

pub any_agree : (f g : ℕ → Bool) (l : List ℕ) → Agree f g l → any f l ≡ any g l
any_agree f g [] h = refl
any_agree f g (p ∷ l) h = rw (head f g p l h, any_agree f g l (tail f g p l h))

pub filter_agree : (f g : ℕ → Bool) (l : List ℕ) → Agree f g l → filter f l ≡ filter g l
filter_agree f g [] h = refl
filter_agree f g (p ∷ l) h = rw (head f g p l h, filter_agree f g l (tail f g p l h))

pub place_agree : (f g : ℕ → Bool) (l : List ℕ) → Agree f g l → place_of f l ≡ place_of g l
place_agree f g [] h = refl
place_agree f g (p ∷ l) h = rw (head f g p l h, place_agree f g l (tail f g p l h))

pub first_agree : (b : ℕ) (f g : ℕ → Bool) (l : List ℕ) → Agree f g l → first_or b f l ≡ first_or b g l
first_agree b f g [] h = refl
first_agree b f g (p ∷ l) h = rw (head f g p l h, first_agree b f g l (tail f g p l h))

pub map_agree : (f g : ℕ → ℕ) (l : List ℕ) → Agree f g l → map f l ≡ map g l
map_agree f g [] h = refl
map_agree f g (p ∷ l) h = rw (head f g p l h, map_agree f g l (tail f g p l h))

-- Where nothing passes before it, the first number that passes is the one there.
pub place_here : (f : ℕ → Bool) (l : List ℕ) (b : ℕ) (m : List ℕ) → any f l ≡ false → T (f b) → place_of f (l ++ (b ∷ m)) ≡ length l
place_here f [] b m n t = rw (T_true (f b) t)
place_here f (p ∷ l) b m n t = go (f p) refl (place_here f l b m)
  where
    go : (c : Bool) → f p ≡ c → (any f l ≡ false → T (f b) → place_of f (l ++ (b ∷ m)) ≡ length l) → cond c 0 (suc (place_of f (l ++ (b ∷ m)))) ≡ suc (length l)
    go true e below = absurd (true≢false (sym (rw e (refl {a = true})) ∙ n))
    go false e below = ap suc (below (rw e at n) t)

-- Where some number passes, the one at the place does.
pub place_passes : (f : ℕ → Bool) (l : List ℕ) → T (any f l) → (place_of f l < length l) × T (f (get_or l (place_of f l) 0))
place_passes f [] t = absurd t
place_passes f (p ∷ l) t = go (f p) refl (place_passes f l) t
  where
    go : (c : Bool) → f p ≡ c → (T (any f l) → (place_of f l < length l) × T (f (get_or l (place_of f l) 0))) → T (any f (p ∷ l))
        → (cond c 0 (suc (place_of f l)) < suc (length l)) × T (f (get_or (p ∷ l) (cond c 0 (suc (place_of f l))) 0))
    go true e below t = (omega arith, true_T (f p) e)
    go false e below t = let x = below (rw e at t) in (omega (arith, x.0), x.1)

pub member_place : (b : ℕ) (l : List ℕ) → T (member b l) → (k : ℕ) × (k < length l) × (get_or l k 0 ≡ b)
member_place b [] t = absurd t
member_place b (c ∷ l) t =
    either
    (λ e. (0, omega arith, sym (eqb→eq b c e)))
    (λ m. let (k, h, e) = member_place b l m in (suc k, omega arith, e))
    (or_cases (eqb b c) (member b l) t)

pub place_member : (l : List ℕ) (k : ℕ) → k < length l → T (member (get_or l k 0) l)
place_member [] k h = absurd (omega arith)
place_member (c ∷ l) zero h = or_left (eqb c c) (member c l) (eqb_refl c)
place_member (c ∷ l) (suc k) h = or_right (eqb (get_or l k 0) c) (member (get_or l k 0) l) (place_member l k (omega arith))

-- Numbers that stand upwards, and one below them that comes first or is left out.
with_first : (c : Bool) (n : ℕ) (rest : List ℕ) → ((j k : ℕ) → j < k → k < length rest → get_or rest j 0 < get_or rest k 0) → ((k : ℕ) → k < length rest → n < get_or rest k 0)
    → (j k : ℕ) → j < k → k < length (cond c (n ∷ rest) rest) → get_or (cond c (n ∷ rest) rest) j 0 < get_or (cond c (n ∷ rest) rest) k 0
with_first true n rest below above zero zero l h = absurd (omega arith)
with_first true n rest below above zero (suc k) l h = above k (omega arith)
with_first true n rest below above (suc j) zero l h = absurd (omega arith)
with_first true n rest below above (suc j) (suc k) l h = below j k (omega arith) (omega arith)
with_first false n rest below above j k l h = below j k l h

-- Numbers chosen from those from n on stand upwards.
module _ (f : ℕ → Bool) where
  chosen_from : (n d k : ℕ) → k < length (filter f (from n d)) → n ≤ get_or (filter f (from n d)) k 0
  chosen_from n d k h = (from_range _ n d (filter_in f (from n d) _ (place_member (filter f (from n d)) k h))).0

  pub chosen_upwards : (n d j k : ℕ) → j < k → k < length (filter f (from n d)) → get_or (filter f (from n d)) j 0 < get_or (filter f (from n d)) k 0
  chosen_upwards n zero j k l h = absurd (omega arith)
  chosen_upwards n (suc d) j k l h = with_first (f n) n (filter f (from (suc n) d)) (chosen_upwards (suc n) d) (chosen_from (suc n) d) j k l h
