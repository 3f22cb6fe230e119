-- The search through the pairs on its way, and what the test's private functions find.
-- Assumes nothing.
use Rattle.std.specs.Prelude.{◌≡◌, ◌↔◌, ℕ, suc, ◌*◌, ◌/◌, ◌%◌, ◌≤◌, ◌<◌, Bool, true, false, List, get_or, T}
use Rattle.theory.specs.Pattern.{Re, count, Numbered}
use Rattle.theory.specs.Standing.{member, wanted}
use Rattle.theory.specs.Code.Follow.{start, follow, has_end}
use Rattle.extends.specs.Code.Pairs.{Follows, Ends, Live, FailsPair, Fails}
use Rattle.extends.specs.Code.Closing.{Closing, Taken}
use Rattle.extends.specs.Code.Worklist.{Begins, Steps}
use Rattle.extends.specs.Code.Test.{share, first_pair, next_pair}
use Rattle.words.specs.Sets.{has_bit}
use Rattle.standing.specs.Stands.{arrays, Lent}
use Rattle.pairs.specs.Rows.{Kept, reached, pending, Waits}

-- The arrays have, by bits, what the test asks of the pattern r.
pub record Of (r : Re) (shares sets : List ℕ) (ending : ℕ) : Type 0 where
  pub numbered : Numbered 0 r
  pub most : count r ≤ 64
  pub first : (q : ℕ) → q < 64 → has_bit (get_or sets 0 0) q ≡ member q (wanted (start r))
  pub follows : (p q : ℕ) → p < count r → q < 64 → has_bit (get_or sets (suc p) 0) q ≡ member q (wanted (follow r p))
  pub ended : (p : ℕ) → p < count r → has_bit ending p ≡ has_end (follow r p)
  pub shared : (p q : ℕ) → p < 64 → q < 64 → has_bit (get_or shares p 0) q ≡ share r p q

-- The answer is right: true exactly if P holds.
abbrev pub Tells : Bool → Type 0 → Type 0
Tells true P = P
Tells false P = P → ⊥

module _ (r : Re) where
  -- The numbers of the first pairs, and the steps from one to the next.
  abbrev pub BeginsAt : ℕ → Type 0
  BeginsAt = Begins (64 * 64) (first_pair r 64) (next_pair r 64)

  abbrev pub StepsTo : ℕ → ℕ → Type 0
  StepsTo = Steps (64 * 64) (first_pair r 64) (next_pair r 64)

  -- At the pair of that number the string may end after one leaf, and go on to a live leaf after the other.
  abbrev pub FailsAt : ℕ → Type 0
  FailsAt x = Ends r (x / 64) × ((c : ℕ) × Follows r (x % 64) c × Live r c)

  -- The search when d pairs were taken at least: at none of them the test fails.
  pub record Searching (s : List ℕ) (waiting d : ℕ) : Type 0 where
    pub closing : Closing BeginsAt StepsTo (reached s) (pending s) (λ x. ⊥)
    pub taken : Taken (reached s) (pending s) d
    pub waits : Waits s waiting
    pub passed : (x : ℕ) → T (reached s x) → (T (pending s x) → ⊥) → FailsAt x → ⊥

-- From the first pairs to the answer.
pub record Searches (shares sets : List ℕ) (ending live : ℕ) (s : List ℕ) (waiting : ℕ) (s' : List ℕ) (found : Bool) : Type 0 where
  pub kept : Kept s s'
  pub tells : {r : Re} → Of r shares sets ending → ((p : ℕ) → T (has_bit live p) ↔ Live r p) → Searching r s waiting 0 → Tells found (FailsPair r)

-- Of the pattern whose arrays are lent.
pub record Decides (masks sets ends s : List ℕ) (found : Bool) (s' : List ℕ) : Type 0 where
  pub kept : Kept s s'
  pub tells : {r : Re} {rows lens : List ℕ} → Lent r (arrays masks rows lens sets ends) → Tells found (Fails r)
