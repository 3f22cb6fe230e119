-- Lists of numbers as sets: members, `gather`, `filter`, and lists that have each number once.
-- Assumes nothing.
use mathlib.Core.Path.{◌≡◌, refl, sym, ap, ◌∙◌, subst}
use mathlib.Core.Logic.{◌⊎◌, inl, inr, ◌≢◌}
use Prim.Native.Nat.{ℕ, zero, suc, ◌+◌, ◌≤◌, ◌<◌}
use mathlib.Core.Bool.{Bool, true, false, ◌||◌, cond, true≢false}
use mathlib.Core.List.{List, [], ◌∷◌, ◌++◌, map}
use native.Mathlib.Omega.{arith}
use native.Mathlib.Decide.{ℕ_discrete}
use lib.ListN.{length, get_or, length-append}
use lib.Dec.{T, eqb, eqb→eq, eqb_refl}
use Rattle.theory.specs.Standing.{member, gather, from, filter}
use Rattle.theory.specs.Code.Members.{any, Once, nil, cons}
use Rattle.theory.proofs.Tests.{T_true, true_T, same_test, or_left, or_right, or_cases, or_assoc, or_false, either}

pub any_found : (f : ℕ → Bool) (l : List ℕ) → T (any f l) → (p : ℕ) × T (member p l) × T (f p)
any_found f [] t = absurd t
any_found f (p ∷ l) t = go (any_found f l) (or_cases (f p) (any f l) t)
  where
    go : (T (any f l) → (q : ℕ) × T (member q l) × T (f q)) → T (f p) ⊎ T (any f l) → (q : ℕ) × T (member q (p ∷ l)) × T (f q)
    go below (inl t) = (p, or_left (eqb p p) (member p l) (eqb_refl p), t)
    go below (inr t) = let c = below t in (c.0, or_right (eqb c.0 p) (member c.0 l) c.1, c.2)

pub any_of : (f : ℕ → Bool) (l : List ℕ) (p : ℕ) → T (member p l) → T (f p) → T (any f l)
any_of f [] p m t = m
any_of f (q ∷ l) p m t = go (any_of f l p) (or_cases (eqb p q) (member p l) m)
  where
    go : (T (member p l) → T (f p) → T (any f l)) → T (eqb p q) ⊎ T (member p l) → T (any f (q ∷ l))
    go below (inl e) = or_left (f q) (any f l) (rw (eqb→eq p q e) at t)
    go below (inr m) = or_right (f q) (any f l) (below m t)

-- `l` has all that `m` has.
abbrev pub Within : List ℕ → List ℕ → Type 0
Within m l = (p : ℕ) → T (member p m) → T (member p l)

pub any_same : (f : ℕ → Bool) (l m : List ℕ) → Within l m → Within m l → any f l ≡ any f m
any_same f l m g h =
    same_test (any f l) (any f m)
    (λ t. let c = any_found f l t in any_of f m c.0 (g c.0 c.1) c.2)
    (λ t. let c = any_found f m t in any_of f l c.0 (h c.0 c.1) c.2)

pub member_append : (p : ℕ) (l m : List ℕ) → member p (l ++ m) ≡ member p l || member p m
member_append p [] m = refl
member_append p (q ∷ l) m = rw (member_append p l m, or_assoc)

-- `gather` adds what is new.
pub gather_append : (s l m : List ℕ) → gather s (l ++ m) ≡ gather (gather s l) m
gather_append s [] m = refl
gather_append s (p ∷ l) m = gather_append (cond (member p s) s (s ++ (p ∷ []))) l m

pub gather_absorb : (s l : List ℕ) → Within l s → gather s l ≡ s
gather_absorb s [] h = refl
gather_absorb s (p ∷ l) h =
    rw (T_true (member p s) (h p (or_left (eqb p p) (member p l) (eqb_refl p))))
    (gather_absorb s l λ q m. h q (or_right (eqb q p) (member q l) m))

add_member : (p q : ℕ) (s : List ℕ) → member p (cond (member q s) s (s ++ (q ∷ []))) ≡ member p s || eqb p q
add_member p q s = go (member q s) refl
  where
    go : (c : Bool) → member q s ≡ c → member p (cond c s (s ++ (q ∷ []))) ≡ member p s || eqb p q
    go true e =
        same_test (member p s) (member p s || eqb p q) (or_left (member p s) (eqb p q))
        (λ t. either (λ m. m) (λ m. rw (eqb→eq p q m) (true_T (member q s) e)) (or_cases (member p s) (eqb p q) t))
    go false e = rw (member_append p s (q ∷ []), or_false)

pub gather_member : (p : ℕ) (s l : List ℕ) → member p (gather s l) ≡ member p s || member p l
gather_member p s [] = sym (or_false (member p s))
gather_member p s (q ∷ l) = rw (gather_member p (cond (member q s) s (s ++ (q ∷ []))) l, add_member p q s, or_assoc)

-- `filter` and `from`.
pub filter_of : (f : ℕ → Bool) (l : List ℕ) (p : ℕ) → T (f p) → T (member p l) → T (member p (filter f l))
filter_of f [] p t m = m
filter_of f (q ∷ l) p t m = go (f q) refl (filter_of f l p t) (or_cases (eqb p q) (member p l) m)
  where
    go : (c : Bool) → f q ≡ c → (T (member p l) → T (member p (filter f l))) → T (eqb p q) ⊎ T (member p l) → T (member p (cond c (q ∷ filter f l) (filter f l)))
    go true e below (inl m) = or_left (eqb p q) (member p (filter f l)) m
    go true e below (inr m) = or_right (eqb p q) (member p (filter f l)) (below m)
    go false e below (inl m) = absurd (rw (eqb→eq p q m, e) at t)
    go false e below (inr m) = below m

pub filter_in : (f : ℕ → Bool) (l : List ℕ) → Within (filter f l) l
filter_in f [] p m = m
filter_in f (q ∷ l) p m = go (f q) (filter_in f l p) m
  where
    go : (c : Bool) → (T (member p (filter f l)) → T (member p l)) → T (member p (cond c (q ∷ filter f l) (filter f l))) → T (member p (q ∷ l))
    go true below m = either (or_left (eqb p q) (member p l)) (λ t. or_right (eqb p q) (member p l) (below t)) (or_cases (eqb p q) (member p (filter f l)) m)
    go false below m = or_right (eqb p q) (member p l) (below m)

pub filter_passes : (f : ℕ → Bool) (l : List ℕ) (p : ℕ) → T (member p (filter f l)) → T (f p)
filter_passes f [] p m = absurd m
filter_passes f (q ∷ l) p m = go (f q) refl (filter_passes f l p) m
  where
    go : (c : Bool) → f q ≡ c → (T (member p (filter f l)) → T (f p)) → T (member p (cond c (q ∷ filter f l) (filter f l))) → T (f p)
    go true e below m = either (λ t. rw (eqb→eq p q t, e) tt) below (or_cases (eqb p q) (member p (filter f l)) m)
    go false e below m = below m

pub filter_same : (f g : ℕ → Bool) (l : List ℕ) → ((p : ℕ) → f p ≡ g p) → filter f l ≡ filter g l
filter_same f g [] e = refl
filter_same f g (p ∷ l) e = rw (e p, filter_same f g l e)

pub member_from : (p n d : ℕ) → n ≤ p → p < n + d → T (member p (from n d))
member_from p n zero g h = absurd (omega arith)
member_from p n (suc d) g h =
    elim (ℕ_discrete p n) [
      | yes e ↦ or_left (eqb p n) (member p (from (suc n) d)) (rw e (eqb_refl n))
      | no e ↦ or_right (eqb p n) (member p (from (suc n) d)) (member_from p (suc n) d (omega arith) (omega arith))
    ]

pub from_range : (p n d : ℕ) → T (member p (from n d)) → (n ≤ p) × (p < n + d)
from_range p n zero t = absurd t
from_range p n (suc d) t =
    either (λ e. let h = eqb→eq p n e in omega arith) (λ m. let h = from_range p (suc n) d m in omega arith) (or_cases (eqb p n) (member p (from (suc n) d)) t)

pub length_from : (n d : ℕ) → length (from n d) ≡ d
length_from n zero = refl
length_from n (suc d) = ap suc (length_from (suc n) d)

-- Entry b of a table of the numbers from n on.
pub map_from : (f : ℕ → ℕ) (n d b : ℕ) → b < d → get_or (map f (from n d)) b 0 ≡ f (n + b)
map_from f n zero b h = absurd (omega arith)
map_from f n (suc d) zero h = let e : n ≡ n + 0 = omega arith in ap f e
map_from f n (suc d) (suc b) h = let e : suc n + b ≡ n + suc b = omega arith in map_from f (suc n) d b (omega arith) ∙ ap f e

pub from_append : (n d e : ℕ) → from n (d + e) ≡ from n d ++ from (n + d) e
from_append n zero e = let (h, i) : (0 + e ≡ e) × (n ≡ n + 0) = omega arith in ap (from n) h ∙ ap (λ k. from k e) i
from_append n (suc d) e =
    let (h, i) : (suc d + e ≡ suc (d + e)) × (suc n + d ≡ n + suc d) = omega arith in
    ap (from n) h ∙ ap (λ l. n ∷ l) (from_append (suc n) d e ∙ ap (λ k. from (suc n) d ++ from k e) i)

pub from_snoc : (n d : ℕ) → from n (suc d) ≡ from n d ++ ((n + d) ∷ [])
from_snoc n d = let h : suc d ≡ d + 1 = omega arith in ap (from n) h ∙ from_append n d 1

pub filter_append : (f : ℕ → Bool) (l m : List ℕ) → filter f (l ++ m) ≡ filter f l ++ filter f m
filter_append f [] m = refl
filter_append f (p ∷ l) m = go (f p) (filter_append f l m)
  where
    go : (c : Bool) → filter f (l ++ m) ≡ filter f l ++ filter f m → cond c (p ∷ filter f (l ++ m)) (filter f (l ++ m)) ≡ cond c (p ∷ filter f l) (filter f l) ++ filter f m
    go true e = ap (λ k. p ∷ k) e
    go false e = e

pub filter_size : (f : ℕ → Bool) (l : List ℕ) → length (filter f l) ≤ length l
filter_size f [] = omega arith
filter_size f (p ∷ l) = go (f p) (filter_size f l)
  where
    go : (b : Bool) → length (filter f l) ≤ length l → length (cond b (p ∷ filter f l) (filter f l)) ≤ suc (length l)
    go true s = omega arith
    go false s = omega arith

pub once_from : (n d : ℕ) → Once (from n d)
once_from n zero = nil
once_from n (suc d) = cons {p = n} {l = from (suc n) d} (λ t. let c = from_range n (suc n) d t in omega arith) (once_from (suc n) d)

pub once_filter : (f : ℕ → Bool) {l : List ℕ} → Once l → Once (filter f l)
once_filter f nil = nil
once_filter f (cons {p = p} {l = l} a o) = go (f p) (once_filter f o)
  where
    go : (c : Bool) → Once (filter f l) → Once (cond c (p ∷ filter f l) (filter f l))
    go true u = cons (λ t. a (filter_in f l p t)) u
    go false u = u

once_snoc : {l : List ℕ} (p : ℕ) → Once l → (T (member p l) → ⊥) → Once (l ++ (p ∷ []))
once_snoc p nil h = cons (λ t. t) nil
once_snoc p (cons {p = q} {l = l} a o) h =
    cons {p = q} {l = l ++ (p ∷ [])}
    (λ t. either (λ c. a c) (λ c. either (λ e. h (or_left (eqb p q) (member p l) (rw (eqb→eq q p e) (eqb_refl p)))) (λ e. e) (or_cases (eqb q p) false c))
    (or_cases (member q l) (member q (p ∷ [])) (rw (member_append q l (p ∷ [])) at t)))
    (once_snoc p o λ t. h (or_right (eqb p q) (member p l) t))

pub once_gather : (s l : List ℕ) → Once s → Once (gather s l)
once_gather s [] o = o
once_gather s (p ∷ l) o = go (member p s) refl (once_gather s l o) (λ h. once_gather (s ++ (p ∷ [])) l (once_snoc p o h))
  where
    go : (c : Bool) → member p s ≡ c → Once (gather s l) → ((T (member p s) → ⊥) → Once (gather (s ++ (p ∷ [])) l)) → Once (gather (cond c s (s ++ (p ∷ []))) l)
    go true e x y = x
    go false e x y = y (λ t. true≢false (sym (T_true (member p s) t) ∙ e))

split : (p : ℕ) (m : List ℕ) → T (member p m) → (a c : List ℕ) × (m ≡ a ++ (p ∷ c))
split p [] t = absurd t
split p (q ∷ m) t =
    either
    (λ e. ([], m, ap (λ x. x ∷ m) (sym (eqb→eq p q e))))
    (λ i. let (a, c, e) = split p m i in (q ∷ a, c, ap (λ x. q ∷ x) e))
    (or_cases (eqb p q) (member p m) t)

without : (q p : ℕ) (a c : List ℕ) → q ≢ p → T (member q (a ++ (p ∷ c))) → T (member q (a ++ c))
without q p [] c n t = either (λ e. absurd (n (eqb→eq q p e))) (λ i. i) (or_cases (eqb q p) (member q c) t)
without q p (x ∷ a) c n t =
    either (λ e. or_left (eqb q x) (member q (a ++ c)) e) (λ i. or_right (eqb q x) (member q (a ++ c)) (without q p a c n i)) (or_cases (eqb q x) (member q (a ++ (p ∷ c))) t)

-- Numbers that are each there once, all of them in m, are no more than m has.
pub once_size : {l : List ℕ} → Once l → (m : List ℕ) → Within l m → length l ≤ length m
once_size nil m h = omega arith
once_size (cons {p = p} {l = l} a o) m h =
    let (x, y, e) = split p m (h p (or_left (eqb p p) (member p l) (eqb_refl p))) in
    let inner : Within l (x ++ y) =
    λ q t. without q p x y (λ c. a (rw c at t)) (subst (λ v. T (member q v)) e (h q (or_right (eqb q p) (member q l) t))) in
    let c = once_size o (x ++ y) inner in
    omega (arith, length-append x y, length-append x (p ∷ y), ap length e)
