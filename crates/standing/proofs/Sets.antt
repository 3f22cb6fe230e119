-- Sets as tests: a test of the numbers below a bound, what a filtered list has, and what the loop over the leaves of a set leaves to do.
-- Assumes nothing.
use mathlib.Core.Path.{◌≡◌, refl, sym, ap, ◌∙◌}
use Prim.Native.Nat.{ℕ, zero, suc, ◌+◌, ◌≤◌, ◌<◌}
use mathlib.Core.Bool.{Bool, true, false, not, ◌&&◌, ◌||◌, cond, true≢false}
use mathlib.Core.List.{List, [], ◌∷◌}
use native.Mathlib.Omega.{arith}
use native.Mathlib.Decide.{dec_lt}
use native.Mathlib.Numerals.{add-one}
use lib.ListN.{get_or}
use lib.Dec.{T, eqb}
use lib.Bits.{bit_or}
use Rattle.theory.specs.Standing.{member, from, filter}
use Rattle.theory.specs.Code.Closure.{flat}
use borrow.Author.Tests.{eqb-true}
use Rattle.theory.proofs.Tests.{T_true, same_test, or_left, or_right, or_cases, or_assoc, or_false, either, and_true}
use Rattle.theory.specs.Code.Members.{any}
use Rattle.theory.proofs.Members.{any_found, any_of, member_append, member_from, from_range}
use Rattle.words.specs.Sets.{has_bit, Parted}
use Rattle.standing.specs.declared.Wants.{Wants}
use Rattle.standing.specs.Sets.{Small, wants, ends, Joined, Wanted}
use Rattle.words.proofs.Bits.{no_bit, or_bit, no_more}

-- Two tests that agree below c, of which the first passes at none of the others.
pub any_cut : (f g : ℕ → Bool) (c d : ℕ) → c ≤ d → ((p : ℕ) → p < c → f p ≡ g p) → ((p : ℕ) → c ≤ p → f p ≡ false) → any f (from 0 d) ≡ any g (from 0 c)
any_cut f g c d h same rest =
    same_test (any f (from 0 d)) (any g (from 0 c))
    (λ t. let (p, m, u) = any_found f (from 0 d) t in into p u (dec_lt p c))
    (λ t. let (p, m, u) = any_found g (from 0 c) t in let k = from_range p 0 c m in any_of f (from 0 d) p (member_from p 0 d (omega arith) (omega arith)) (rw (same p (omega arith)) u))
  where
    into : (p : ℕ) → T (f p) → Dec (p < c) → T (any g (from 0 c))
    into p u (yes k) = any_of g (from 0 c) p (member_from p 0 c (omega arith) (omega arith)) (rw (same p k) at u)
    into p u (no k) = absurd (true≢false (sym (T_true (f p) u) ∙ rest p (omega arith)))

pub filter_cut : (f g : ℕ → Bool) (n d : ℕ) → ((p : ℕ) → p < n + d → f p ≡ g p) → filter f (from n d) ≡ filter g (from n d)
filter_cut f g n zero e = refl
filter_cut f g n (suc d) e = rw (e n (omega arith), filter_cut f g (suc n) d λ p h. e p (omega arith))

pub any_filter : (f g : ℕ → Bool) (l : List ℕ) → any g (filter f l) ≡ any (λ p. f p && g p) l
any_filter f g [] = refl
any_filter f g (p ∷ l) = go (f p) (any_filter f g l)
  where
    go : (c : Bool) → any g (filter f l) ≡ any (λ q. f q && g q) l → any g (cond c (p ∷ filter f l) (filter f l)) ≡ (c && g p) || any (λ q. f q && g q) l
    go true e = rw e
    go false e = e

pub member_flat : (x : ℕ) (f : ℕ → List ℕ) (l : List ℕ) → member x (flat f l) ≡ any (λ p. member x (f p)) l
member_flat x f [] = refl
member_flat x f (p ∷ l) = rw (member_append x (f p) (flat f l), member_flat x f l)

pub any_ext : (f g : ℕ → Bool) (l : List ℕ) → ((p : ℕ) → f p ≡ g p) → any f l ≡ any g l
any_ext f g [] e = refl
any_ext f g (p ∷ l) e = rw (e p, any_ext f g l e)

-- A test of the leaves of a set: of the least, and of the others.
any_parted : (x p rest : ℕ) → Parted x p rest → (g : ℕ → Bool) → any (λ q. has_bit x q && g q) (from 0 64) ≡ g p || any (λ q. has_bit rest q && g q) (from 0 64)
any_parted x p rest s g =
    same_test (any (λ q. has_bit x q && g q) (from 0 64)) (g p || any (λ q. has_bit rest q && g q) (from 0 64))
    (λ t. let (q, m, u) = any_found (λ q. has_bit x q && g q) (from 0 64) t in apart q m u (eqb q p) refl)
    (λ t. either (λ u. any_of (λ q. has_bit x q && g q) (from 0 64) p (member_from p 0 64 (omega arith) (omega (arith, s.below))) (rw s.there u))
    (λ u. let (q, m, v) = any_found (λ q. has_bit rest q && g q) (from 0 64) u in any_of (λ q. has_bit x q && g q) (from 0 64) q m (back q v))
    (or_cases (g p) (any (λ q. has_bit rest q && g q) (from 0 64)) t))
  where
    apart : (q : ℕ) → T (member q (from 0 64)) → T (has_bit x q && g q) → (c : Bool) → eqb q p ≡ c → T (g p || any (λ q. has_bit rest q && g q) (from 0 64))
    apart q m u true e = or_left (g p) _ (rw (eqb-true q p e) at (last (has_bit x q) (g q) u))
      where
        last : (a b : Bool) → T (a && b) → T b
        last true b v = v
        last false b v = absurd v
    apart q m u false e = or_right (g p) _ (any_of (λ q. has_bit rest q && g q) (from 0 64) q m (rw (s.others q, e, and_true (has_bit x q)) u))

    back : (q : ℕ) → T (has_bit rest q && g q) → T (has_bit x q && g q)
    back q v = go (has_bit x q) (not (eqb q p)) (rw (s.others q) at v)
      where
        go : (a b : Bool) → T ((a && b) && g q) → T (a && g q)
        go true true w = w
        go true false w = absurd w
        go false b w = absurd w

-- What the leaves of `rest` add to w is what all add.
module _ (f : ℕ → Bool) (sets flags : List ℕ) where
  pub record Rest (w : Wants) (rest : ℕ) : Type 0 where
    pub all : (q : ℕ) → (has_bit w.all q || any (wants (has_bit rest) sets q) (from 0 64)) ≡ any (wants f sets q) (from 0 64)
    pub some : (w.some || any (ends (has_bit rest) flags) (from 0 64)) ≡ any (ends f flags) (from 0 64)
    pub small : Small w.all

  pub rest_begin : (x : ℕ) → ((p : ℕ) → has_bit x p ≡ f p) → Rest (record { all = 0; some = false }) x
  rest_begin x e = record {
    all = λ q. rw (no_bit q) (any_ext (wants (has_bit x) sets q) (wants f sets q) (from 0 64) λ p. rw (e p));
    some = any_ext (ends (has_bit x) flags) (ends f flags) (from 0 64) λ p. rw (e p);
    small = λ q h. no_bit q;
  }

  pub rest_turn : (w v : Wants) (x p rest : ℕ) → Parted x p rest → Rest w x → Joined sets flags w p v → Rest v rest
  rest_turn w v x p rest s r j = record {
    all = λ q. rw (j.all q, or_assoc) (rw (any_parted x p rest s (λ p. has_bit (get_or sets (suc p) 0) q)) at (r.all q));
    some = rw (j.some, or_assoc) (rw (any_parted x p rest s (λ p. eqb (get_or flags (suc p) 0) 1)) at r.some);
    small = j.small;
  }

  pub rest_end : (w : Wants) (x : ℕ) → x ≡ 0 → Rest w x → Wanted f sets flags w
  rest_end w x e r = record {
    all = λ q. sym (or_false (has_bit w.all q)) ∙ ap (λ c. has_bit w.all q || c) (sym (none (λ p. has_bit (get_or sets (suc p) 0) q))) ∙ r.all q;
    some = sym (or_false w.some) ∙ ap (λ c. w.some || c) (sym (none (λ p. eqb (get_or flags (suc p) 0) 1))) ∙ r.some;
    small = r.small;
  }
    where
      none : (g : ℕ → Bool) → any (λ p. has_bit x p && g p) (from 0 64) ≡ false
      none g = any_ext (λ p. has_bit x p && g p) (λ p. false) (from 0 64) (λ p. rw (e, no_bit p))

pub joined_row : (sets flags : List ℕ) (w : Wants) (p x : ℕ) (s : Bool) → x ≡ bit_or w.all (get_or sets (p + 1) 0) → x < 18446744073709551616 → s ≡ (w.some || eqb (get_or flags (p + 1) 0) 1)
    → Joined sets flags w p (record { all = x; some = s })
joined_row sets flags w p x s u few k = record { all = λ q. rw (← add-one p) (ap (λ y. has_bit y q) u ∙ or_bit w.all (get_or sets (p + 1) 0) q); some = rw (← add-one p) k; small = λ q h. no_more x q few h }
