-- Masks of fields: none, two together, a field that is opened or closed.
-- Assumes nothing.
use mathlib.Core.Path.{◌≡◌, refl, sym, ◌∙◌}
use Prim.Native.Nat.{ℕ, suc, ◌+◌, ◌^◌, ◌<◌}
use mathlib.Core.Bool.{or_comm}
use mathlib.Core.List.{List, ◌++◌}
use native.Mathlib.Omega.{arith}
use native.Mathlib.Decide.{ℕ_discrete}
use lib.Dec.{eqb, eqb-suc-suc}
use lib.Bits.{bit_or}
use borrow.Author.Tests.{eq-eqb, ne_eqb}
use Rattle.theory.specs.Standing.{member}
use Rattle.theory.proofs.Tests.{or_false}
use Rattle.theory.proofs.Members.{member_append}
use Rattle.traces.specs.Traces.{opened}
use Rattle.traces.specs.Code.Pass.{Sets, neither, note}
use Rattle.traces.specs.Code.Sets.{join, closing}
use Rattle.grammar.specs.Brackets.{max_fields}
use Rattle.traces.specs.Code.Marks.{Shows}
use Rattle.words.specs.Sets.{has_bit}
use Rattle.words.proofs.Bits.{no_bit, or_bit, pow_bit}

pub shows_neither : Shows 0 neither
shows_neither = record { opens = λ f h. no_bit f; closes = λ f h. no_bit (max_fields + f) }

module _ {b c : ℕ} {s u : Sets} (x : Shows b s) (y : Shows c u) where
  union : (f q : ℕ) (k l : List ℕ) → has_bit b q ≡ member f k → has_bit c q ≡ member f l → has_bit (bit_or b c) q ≡ member f (l ++ k)
  union f q k l d e = or_bit b c q ∙ rw (d, e, member_append f l k) (or_comm (member f k) (member f l))

  pub shows_join : Shows (bit_or b c) (join s u)
  shows_join =
      record {
        opens = λ f h. union (suc f) f s.opens u.opens (x.opens f h) (y.opens f h);
        closes = λ f h. union (suc f) (max_fields + f) s.closes u.closes (x.closes f h) (y.closes f h);
      }

-- The bits of the closed fields come after those of the opened ones.
eqb_up : (f n : ℕ) → eqb (max_fields + f) (max_fields + n) ≡ eqb (suc f) (suc n)
eqb_up f n = go (ℕ_discrete f n)
  where
    go : Dec (f ≡ n) → eqb (max_fields + f) (max_fields + n) ≡ eqb (suc f) (suc n)
    go (yes e) = rw (e, eq-eqb (max_fields + n) (max_fields + n) refl, eq-eqb (suc n) (suc n) refl)
    go (no d) = rw (ne_eqb (max_fields + f) (max_fields + n) (λ e. d (omega arith)), ne_eqb (suc f) (suc n) (λ e. d (omega arith)))

module _ (n : ℕ) (h : n < max_fields) where
  pub shows_opened : {b : ℕ} {s : Sets} → Shows b s → Shows (bit_or (2 ^ n) b) (note (opened (suc n) 0) s)
  shows_opened {b} {s} x =
      record {
        opens = λ f l. rw (or_bit (2 ^ n) b f, pow_bit n f, eqb-suc-suc f n, x.opens f l);
        closes = λ f l. rw (or_bit (2 ^ n) b (max_fields + f), pow_bit n (max_fields + f), ne_eqb (max_fields + f) n (λ e. omega arith), x.closes f l);
      }

  pub shows_closing : Shows (2 ^ (max_fields + n)) (closing (suc n))
  shows_closing =
      record {
        opens = λ f l. rw (pow_bit (max_fields + n) f, ne_eqb f (max_fields + n) (λ e. omega arith));
        closes = λ f l. pow_bit (max_fields + n) (max_fields + f) ∙ eqb_up f n ∙ sym (or_false (eqb (suc f) (suc n)));
      }
