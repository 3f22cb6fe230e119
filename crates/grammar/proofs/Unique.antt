-- The right answer is the reader's: a pattern has one.
-- Assumes nothing.
use mathlib.Core.Path.{◌≡◌, refl, ap, ◌∙◌}
use Prim.Native.Nat.{ℕ, zero, suc, ◌+◌, ◌≤◌, ◌<◌}
use mathlib.Core.Bool.{Bool, true, false, cond, ◌&&◌}
use mathlib.Core.List.{List, [], ◌∷◌}
use native.Mathlib.Omega.{arith}
use lib.ListN.{length}
use lib.Dec.{leb, ltb, le→leb, lt→ltb, leb→le}
use Rattle.grammar.specs.Grammar.{plain, escaped, Repeat, once, many, more, maybe, exactly, at_least, between, lazily, Alternation, last, or, Sequence, nothing, part, Atom, byte, dot, class, group, Kind, ordinary, backslash, bar, opener, closer, bracket, brace, period, stray, sign, kind, special, digits_text, repeat_text, alternation, sequence, atom, WfAlternation, WfSequence, WfAtom, WfRepeat}
use Rattle.grammar.specs.Limits.{depth, depth_sequence, depth_atom, heaviest, Reads}
use Rattle.grammar.specs.Before.{Before, start, barred, opened, after, text, opens, ready, softens, WfBefore}
use Rattle.grammar.specs.Code.Reader.{Parsed, found, missing, read_class, read_count, Gathered, whole, within, front, gather, Move, on, stop, put, soften, is_maybe, add_atom, add_count, add_group, step, place, ended, moved, loop, read}
use Rattle.grammar.specs.Refusals.{Answer, accepted, refused, ClassAt, CountAt, Wrong, unopened, bare, unready_sign, unready_count, escape_last, escape_ordinary, no_class, no_count, too_deep, left_open, Fault, too_long, wrong, too_heavy, Right}
use Rattle.grammar.proofs.Texts.{len_repeat, not_once}
use Rattle.grammar.proofs.Pieces.{Sound, ClassIs, class_sound, class_complete, CountIs, count_sound, count_complete}
use Rattle.grammar.proofs.Sound.{len_class, opens_max, GatherOk, gather_ok}
use Rattle.theory.proofs.Tests.{T_true, not_true}

-- A step uses up bytes.
abbrev Short : List ℕ → Move → Type 0
Short s (on o r) = length r ≤ length s
Short s (stop n) = Unit {0}

short_cond : (c : Bool) (s : List ℕ) (x : Move) (n : ℕ) → Short s x → Short s (cond c x (stop n))
short_cond true s x n h = h
short_cond false s x n h = tt

step_short : (k : Kind) (o : Before) (b : ℕ) (s : List ℕ) → Short s (step k o b s)
step_short ordinary o b s = omega arith
step_short backslash o b [] = tt
step_short backslash o b (c ∷ s) = short_cond (special (kind c)) (c ∷ s) (on (after o (byte (escaped c)) once) s) 3 (omega arith)
step_short bar o b s = omega arith
step_short opener o b s = short_cond (ltb (opens o) 16) s (on (opened o) s) 7 (omega arith)
step_short closer o b s = go (gather o (last nothing))
  where
    go : (g : Gathered) → Short s (add_group g s)
    go (whole t) = tt
    go (within o' t) = omega arith
step_short bracket o b s = go (read_class s) (class_sound s)
  where
    go : (m : Parsed Atom) → Sound (ClassIs (91 ∷ s)) m → Short s (add_atom o m)
    go (found a r) (c, x, l, same, v, u, q) = omega (arith, len_class c x l r, ap length q)
    go missing h = tt
step_short brace o b s = short_cond (ready o) s (add_count o (read_count s)) 2 (go (read_count s) (count_sound s))
  where
    go : (m : Parsed Repeat) → Sound (CountIs (123 ∷ s)) m → Short s (add_count o m)
    go (found x r) k = omega (arith, len_repeat x r k.1, ap length k.2)
    go missing h = tt
step_short period o b s = omega arith
step_short stray o b s = tt
step_short (sign x) o b s = go (ready o) (is_maybe x && softens o)
  where
    go : (c d : Bool) → Short s (cond c (on (put o x) s) (cond d (on (soften o) s) (stop 2)))
    go true d = omega arith
    go false true = omega arith
    go false false = tt

-- The number of the loop does not matter if it is large enough.
fuel : (f g : ℕ) (o : Before) (s : List ℕ) → length s ≤ f → length s ≤ g → loop f o s ≡ loop g o s
unfolding loop
fuel zero zero o s h k = refl
fuel zero (suc g) o [] h k = refl
fuel zero (suc g) o (b ∷ s) h k = absurd (omega arith)
fuel (suc f) zero o [] h k = refl
fuel (suc f) zero o (b ∷ s) h k = absurd (omega arith)
fuel (suc f) (suc g) o [] h k = refl
fuel (suc f) (suc g) o (b ∷ s) h k = go (fuel f g) (step (kind b) o b s) (step_short (kind b) o b s)
  where
    go : ((o : Before) (s : List ℕ) → length s ≤ f → length s ≤ g → loop f o s ≡ loop g o s) → (m : Move) → Short s m → moved (loop f) o m ≡ moved (loop g) o m
    go ih (on o' r) e = ih o' r (omega arith) (omega arith)
    go ih (stop n) e = refl

pub run : Before → List ℕ → Answer
run o s = loop (length s) o s

run_nil : (o : Before) → run o [] ≡ ended o (gather o (last nothing))
unfolding run loop
run_nil o = refl

run_next : (o : Before) (b : ℕ) (s : List ℕ) → run o (b ∷ s) ≡ moved run o (step (kind b) o b s)
unfolding run loop
run_next o b s = go (step (kind b) o b s) (step_short (kind b) o b s)
  where
    go : (m : Move) → Short s m → moved (loop (length s)) o m ≡ moved run o m
    go (on o' r) e = fuel (length s) (length r) o' r e (omega arith)
    go (stop n) e = refl

-- A beginning with a sequence or an alternation after it.
abbrev pub after_sequence : Before → Sequence → Before
after_sequence o nothing = o
after_sequence o (part a r q) = after_sequence (after o a r) q

abbrev pub after_alternation : Before → Alternation → Before
after_alternation o (last q) = after_sequence o q
after_alternation o (or q t) = after_alternation (barred (after_sequence o q)) t

pub opens_sequence : (q : Sequence) (o : Before) → opens (after_sequence o q) ≡ opens o
opens_sequence nothing o = refl
opens_sequence (part a r q) o = opens_sequence q (after o a r)

pub text_sequence : (q : Sequence) (o : Before) (s : List ℕ) → text (after_sequence o q) s ≡ text o (sequence q s)
text_sequence nothing o s = refl
text_sequence (part a r q) o s = text_sequence q (after o a r) s

pub text_alternation : (t : Alternation) (o : Before) (s : List ℕ) → text (after_alternation o t) s ≡ text o (alternation t s)
text_alternation (last q) o s = text_sequence q o s
text_alternation (or q t) o s = text_alternation t (barred (after_sequence o q)) s ∙ text_sequence q o (124 ∷ alternation t s)

abbrev before : Sequence → Alternation → Alternation
before nothing u = u
before (part a r q) u = front a r (before q u)

before_last : (q : Sequence) → before q (last nothing) ≡ last q
before_last nothing = refl
before_last (part a r q) = rw (before_last q) refl

before_or : (q : Sequence) (t : Alternation) → before q (or nothing t) ≡ or q t
before_or nothing t = refl
before_or (part a r q) t = rw (before_or q t) refl

gather_sequence : (q : Sequence) (o : Before) (u : Alternation) → gather (after_sequence o q) u ≡ gather o (before q u)
gather_sequence nothing o u = refl
gather_sequence (part a r q) o u = gather_sequence q (after o a r) u

gather_alternation : (t : Alternation) (o : Before) → gather (after_alternation o t) (last nothing) ≡ gather o t
gather_alternation (last q) o = gather_sequence q o (last nothing) ∙ ap (gather o) (before_last q)
gather_alternation (or q t) o = gather_alternation t (barred (after_sequence o q)) ∙ gather_sequence q o (or nothing t) ∙ ap (gather o) (before_or q t)

-- The special bytes.
k_92 : kind 92 ≡ backslash
unfolding kind
k_92 = refl

k_124 : kind 124 ≡ bar
unfolding kind
k_124 = refl

k_40 : kind 40 ≡ opener
unfolding kind
k_40 = refl

k_41 : kind 41 ≡ closer
unfolding kind
k_41 = refl

k_91 : kind 91 ≡ bracket
unfolding kind
k_91 = refl

k_123 : kind 123 ≡ brace
unfolding kind
k_123 = refl

k_46 : kind 46 ≡ period
unfolding kind
k_46 = refl

k_42 : kind 42 ≡ sign many
unfolding kind
k_42 = refl

k_43 : kind 43 ≡ sign more
unfolding kind
k_43 = refl

k_63 : kind 63 ≡ sign maybe
unfolding kind
k_63 = refl

no_softening : (x : Repeat) (c : Bool) → (x ≡ maybe → c ≡ false) → is_maybe x && c ≡ false
no_softening once c h = refl
no_softening many c h = refl
no_softening more c h = refl
no_softening maybe c h = h refl
no_softening (exactly m) c h = refl
no_softening (at_least m) c h = refl
no_softening (between m n) c h = refl
no_softening (lazily x) c h = refl

run_repeat : (o : Before) (a : Atom) (r : Repeat) (s : List ℕ) → WfRepeat r → run (after o a once) (repeat_text r s) ≡ run (after o a r) s
run_repeat o a once s w = refl
run_repeat o a many s w = run_next (after o a once) 42 s ∙ rw k_42 refl
run_repeat o a more s w = run_next (after o a once) 43 s ∙ rw k_43 refl
run_repeat o a maybe s w = run_next (after o a once) 63 s ∙ rw k_63 refl
run_repeat o a (exactly m) s w = run_next (after o a once) 123 (digits_text m (125 ∷ s)) ∙ rw (k_123, count_complete (exactly m) s w (digits_text m (125 ∷ s)) refl refl) refl
run_repeat o a (at_least m) s w = run_next (after o a once) 123 (digits_text m (44 ∷ 125 ∷ s)) ∙ rw (k_123, count_complete (at_least m) s w (digits_text m (44 ∷ 125 ∷ s)) refl refl) refl
run_repeat o a (between m n) s w =
    run_next (after o a once) 123 (digits_text m (44 ∷ digits_text n (125 ∷ s)))
    ∙ rw (k_123, count_complete (between m n) s w (digits_text m (44 ∷ digits_text n (125 ∷ s))) refl refl) refl
run_repeat o a (lazily r) s w =
    run_repeat o a r (63 ∷ s) w.0 ∙ run_next (after o a r) 63 s ∙ rw (k_63, not_once r w.1, w.1) refl

run_open : (o : Before) (s : List ℕ) → opens o < 16 → run o (40 ∷ s) ≡ run (opened o) s
run_open o s h = run_next o 40 s ∙ rw (k_40, T_true (ltb (opens o) 16) (lt→ltb (opens o) 16 h)) refl

run_bar : (o : Before) (s : List ℕ) → run o (124 ∷ s) ≡ run (barred o) s
run_bar o s = run_next o 124 s ∙ rw k_124 refl

-- The reader goes through the text of a tree.
mutual
  run_alternation : (t : Alternation) (o : Before) (s : List ℕ) → WfAlternation t → opens o + depth t ≤ 16 → run o (alternation t s) ≡ run (after_alternation o t) s
  run_alternation (last q) o s w h = run_sequence q o s w h
  run_alternation (or q t) o s w h =
      run_sequence q o (124 ∷ alternation t s) w.0 (omega arith)
      ∙ run_bar (after_sequence o q) (alternation t s)
      ∙ run_alternation t (barred (after_sequence o q)) s w.1 (rw (opens_sequence q o) (omega arith))

  run_sequence : (q : Sequence) (o : Before) (s : List ℕ) → WfSequence q → opens o + depth_sequence q ≤ 16 → run o (sequence q s) ≡ run (after_sequence o q) s
  run_sequence nothing o s w h = refl
  run_sequence (part a r q) o s w h =
      run_atom a o (repeat_text r (sequence q s)) w.0 (omega arith) ∙ run_repeat o a r (sequence q s) w.1 ∙ run_sequence q (after o a r) s w.2 (omega arith)

  run_atom : (a : Atom) (o : Before) (s : List ℕ) → WfAtom a → opens o + depth_atom a ≤ 16 → run o (atom a s) ≡ run (after o a once) s
  run_atom (byte (plain b)) o s w h = run_next o b s ∙ rw w refl
  run_atom (byte (escaped b)) o s w h = run_next o 92 (b ∷ s) ∙ rw (k_92, w) refl
  run_atom dot o s w h = run_next o 46 s ∙ rw k_46 refl
  run_atom (class c x l) o s w h = run_next o 91 _ ∙ rw (k_91, class_complete c x l s w.0 w.1) refl
  run_atom (group t) o s w h =
      run_open o (alternation t (41 ∷ s)) (omega arith)
      ∙ run_alternation t (opened o) (41 ∷ s) w (omega arith)
      ∙ run_next (after_alternation (opened o) t) 41 s
      ∙ rw (k_41, gather_alternation t (opened o)) refl

-- .. and through a beginning.
run_before : (o : Before) (s : List ℕ) → WfBefore o → run start (text o s) ≡ run o s
run_before start s w = refl
run_before (barred o) s w = run_before o (124 ∷ s) w ∙ run_bar o s
run_before (opened o) s w = run_before o (40 ∷ s) w.0 ∙ run_open o s w.1
run_before (after o a r) s w = run_before o (atom a (repeat_text r s)) w.0 ∙ run_atom a o (repeat_text r s) w.1 w.3 ∙ run_repeat o a r s w.2

read_run : (p : List ℕ) → length p ≤ 255 → read p ≡ run start p
unfolding read run
read_run p h = rw (T_true (leb (length p) 255) (le→leb (length p) 255 h)) refl

whole_run : (t : Alternation) → WfAlternation t → depth t ≤ 16 → run start (alternation t []) ≡ ended (after_alternation start t) (whole t)
whole_run t w h =
    run_alternation t start [] w (omega arith) ∙ run_nil (after_alternation start t) ∙ rw (gather_alternation t start) refl

accepted_unique : (p : List ℕ) (t : Alternation) → Reads p t → read p ≡ accepted t
accepted_unique p t h =
    read_run p h.short ∙ rw (← h.text) (whole_run t h.formed h.shallow ∙ rw (T_true (leb (heaviest t) 64) (le→leb (heaviest t) 64 h.light)) refl)

-- The reader stops at what is wrong.
never_whole : (o : Before) (g : Gathered) → GatherOk o (last nothing) g → 0 < opens o → ended o g ≡ refused 6 (place o)
never_whole o (whole t) k h = absurd (omega arith)
never_whole o (within o' t) k h = refl

never_within : (o : Before) (s : List ℕ) (g : Gathered) → GatherOk o (last nothing) g → opens o ≡ 0 → add_group g s ≡ stop 2
never_within o s (whole t) k h = refl
never_within o s (within o' t) k h = absurd (omega arith)

gathered : (o : Before) → WfBefore o → GatherOk o (last nothing) (gather o (last nothing))
gathered o w = gather_ok o (last nothing) w tt (omega (arith, opens_max o w))

class_missing : (s : List ℕ) → (ClassAt (91 ∷ s) → ⊥) → read_class s ≡ missing
class_missing s h = go (read_class s) (class_sound s)
  where
    go : (m : Parsed Atom) → Sound (ClassIs (91 ∷ s)) m → m ≡ missing
    go (found a r) (c, x, l, same, v, u, q) = absurd (h (c, x, l, r, v, u, q))
    go missing k = refl

count_missing : (s : List ℕ) → (CountAt (123 ∷ s) → ⊥) → read_count s ≡ missing
count_missing s h = go (read_count s) (count_sound s)
  where
    go : (m : Parsed Repeat) → Sound (CountIs (123 ∷ s)) m → m ≡ missing
    go (found x r) k = absurd (h (x, r, k.0, k.1, k.2))
    go missing k = refl

run_wrong : (o : Before) (s : List ℕ) (n : ℕ) → WfBefore o → Wrong o s n → run o s ≡ refused n (place o)
run_wrong o s n w (unopened r e) = run_next o 41 r ∙ rw (k_41, never_within o r (gather o (last nothing)) (gathered o w) e) refl
run_wrong o s n w (bare b r e) = run_next o b r ∙ rw e refl
run_wrong o s n w (unready_sign b x r e d h) = run_next o b r ∙ rw (e, d, no_softening x (softens o) h) refl
run_wrong o s n w (unready_count r d) = run_next o 123 r ∙ rw (k_123, d) refl
run_wrong o s n w escape_last = run_next o 92 [] ∙ rw k_92 refl
run_wrong o s n w (escape_ordinary b r e) = run_next o 92 (b ∷ r) ∙ rw (k_92, e) refl
run_wrong o s n w (no_class r h) = run_next o 91 r ∙ rw (k_91, class_missing r h) refl
run_wrong o s n w (no_count r d h) = run_next o 123 r ∙ rw (k_123, d, count_missing r h) refl
run_wrong o s n w (too_deep r e) = run_next o 40 r ∙ rw (k_40, e) refl
run_wrong o s n w (left_open h) = run_nil o ∙ never_whole o (gather o (last nothing)) (gathered o w) h

refused_unique : (p : List ℕ) (n q : ℕ) → Fault p n q → read p ≡ refused n q
unfolding read
refused_unique p n q (too_long h e d) =
    rw (e, d, not_true (leb (length p) 255) (λ t. omega (arith, leb→le (length p) 255 t))) refl
refused_unique p n q (wrong short o s w e k d) =
    read_run p short ∙ rw (← e, run_before o s w, d) (run_wrong o s n w k)
refused_unique p n q (too_heavy short t w h e heavy m d) =
    read_run p short
    ∙ rw (← e, whole_run t w h, not_true (leb (heaviest t) 64) (λ c. omega (arith, leb→le (heaviest t) 64 c)), m, d, ← e, text_alternation t start []) refl

-- A pattern has one right answer: the reader's.
pub right_unique : (p : List ℕ) (a : Answer) → Right p a → read p ≡ a
right_unique p (accepted t) h = accepted_unique p t h
right_unique p (refused n q) h = refused_unique p n q h
