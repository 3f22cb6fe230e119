-- Each named set is its bit of the table: one test over all entries, computed, and the rule at each entry from it. And sets of bytes that are the same.
-- Assumes nothing.
use mathlib.Core.Path.{◌≡◌, refl, ap, ◌∙◌, fun_ext}
use Prim.Native.Nat.{ℕ, zero, suc, ◌+◌, ◌<◌}
use mathlib.Core.Bool.{Bool, true, false, ◌&&◌}
use native.Mathlib.Omega.{arith}
use native.Mathlib.Decide.{ℕ_discrete}
use lib.ListN.{get_or}
use lib.Dec.{T, ltb}
use borrow.Author.Tests.{ltb-true}
use Rattle.theory.proofs.Members.{map_from}
use Rattle.grammar.specs.Grammar.{Name, alpha, digit, alnum, upper, lower, xdigit, space, punct}
use Rattle.grammar.specs.Sets.{in_posix, has_set, names, entry, set_table, in_named}

pub table_entry : (b : ℕ) → b < 256 → get_or set_table b 0 ≡ entry names b
unfolding set_table
table_entry b h = let e : 0 + b ≡ b = omega arith in map_from (entry names) 0 256 b h ∙ ap (entry names) e

same : Bool → Bool → Bool
same true c = c
same false true = false
same false false = true

same_eq : (a b : Bool) → T (same a b) → a ≡ b
unfolding same
same_eq true true t = refl
same_eq true false t = absurd t
same_eq false true t = absurd t
same_eq false false t = refl

both : (a b : Bool) → T (a && b) → T a × T b
both true b t = (tt, t)
both false b t = absurd t

-- The entries below d have the set n's bit just where the set has the byte.
agree : Name → ℕ → Bool
agree n zero = true
agree n (suc d) = same (has_set (entry names d) n) (in_posix n d) && agree n d

agree_at : (n : Name) (d b : ℕ) → T (agree n d) → b < d → has_set (entry names b) n ≡ in_posix n b
unfolding agree
agree_at n zero b t h = absurd (omega arith)
agree_at n (suc d) b t h =
    let (here, below) = both (same (has_set (entry names d) n) (in_posix n d)) (agree n d) t in
    elim (ℕ_discrete b d) [
      | yes q ↦ rw q (same_eq (has_set (entry names d) n) (in_posix n d) here)
      | no q ↦ agree_at n d b below (omega arith)
    ]

all_agree : (n : Name) → T (agree n 256)
unfolding agree same
all_agree alpha = tt
all_agree digit = tt
all_agree alnum = tt
all_agree upper = tt
all_agree lower = tt
all_agree xdigit = tt
all_agree space = tt
all_agree punct = tt

-- THE TABLE HAS THE POSIX LOCALE'S SETS.
pub named_posix : (n : Name) (b : ℕ) → b < 256 → in_named set_table n b ≡ in_posix n b
named_posix n b h = rw (table_entry b h) (agree_at n 256 b (all_agree n) h)

-- Two sets of bytes that agree below 256.
pub bytes_same : (s t : ℕ → Bool) → ((b : ℕ) → b < 256 → s b ≡ t b) → ◌≡◌ {A = ℕ → Bool} (λ b. ltb b 256 && s b) (λ b. ltb b 256 && t b)
bytes_same s t h = fun_ext λ b. go b (ltb b 256) (ltb-true b 256)
  where
    go : (b : ℕ) (c : Bool) → (c ≡ true → b < 256) → (c && s b) ≡ (c && t b)
    go b true f = h b (f refl)
    go b false f = refl
