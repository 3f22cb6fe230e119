-- Small cases of the test, by computation.
-- Assumes nothing.
use mathlib.Core.Path.{◌≡◌, refl}
use Prim.Native.Nat.{ℕ}
use mathlib.Core.Bool.{true, false}
use lib.Dec.{eqb}
use Rattle.theory.specs.Pattern.{eager, lazy, Re, empty, leaf, seq, alt, star, field, opt, has, count}
use Rattle.theory.specs.Outcomes.{empty_turn, then_leave}
use Rattle.theory.specs.Code.Follow.{start, follow}
use Rattle.extends.specs.Code.Worklist.{work, search}
use Rattle.extends.specs.Code.Test.{takes, share, rounds, pairs, fails}

-- Leaf p of the byte b, and one whose set is empty.
abbrev byte : ℕ → ℕ → Re
byte p b = leaf p (eqb b)

abbrev nothing : ℕ → Re
nothing p = leaf p (λ _. false)

-- `()` passes: only the empty string is matched.
pub nothing_longer : fails empty 0 ≡ false
unfolding fails pairs search work share rounds takes start follow has count
nothing_longer = refl

-- `a*` fails, though it is alike: the empty string extends to a.
pub repeat : fails (star eager (byte 0 97)) 1 ≡ true
unfolding fails pairs search work share rounds takes start follow has count empty_turn then_leave
repeat = refl

-- `a*b` passes: the last byte tells where it ends.
pub fixed_ending : fails (seq (star eager (byte 0 97)) (byte 1 98)) 2 ≡ false
unfolding fails pairs search work share rounds takes start follow has count empty_turn then_leave
fixed_ending = refl

-- Neither what is preferred nor a bracket counts: `a*?` fails, `(a*?)b` passes.
pub repeat_lazy : fails (star lazy (byte 0 97)) 1 ≡ true
unfolding fails pairs search work share rounds takes start follow has count empty_turn then_leave
repeat_lazy = refl

pub in_brackets : fails (seq (field 1 (star lazy (byte 0 97))) (byte 1 98)) 2 ≡ false
unfolding fails pairs search work share rounds takes start follow has count empty_turn then_leave
in_brackets = refl

-- `a|ab` fails at the pair of the two a; `a|bc` passes, since a and b share no byte.
pub short_first : fails (alt (byte 0 97) (seq (byte 1 97) (byte 2 98))) 3 ≡ true
unfolding fails pairs search work share rounds takes start follow has count
short_first = refl

pub apart : fails (alt (byte 0 97) (seq (byte 1 98) (byte 2 99))) 3 ≡ false
unfolding fails pairs search work share rounds takes start follow has count
apart = refl

-- "A leaf whose set is empty matches nothing": after a, the b leads nowhere.
pub dead_end : fails (seq (byte 0 97) (opt eager (seq (byte 1 98) (nothing 2)))) 3 ≡ false
unfolding fails pairs search work share rounds takes start follow has count
dead_end = refl

-- .. and an empty leaf between brings no pair together.
pub not_through : fails (alt (byte 0 97) (seq (nothing 1) (byte 2 97))) 3 ≡ false
unfolding fails pairs search work share rounds takes start follow has count
not_through = refl
