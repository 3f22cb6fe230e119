-- The reader's answer is right.
-- Assumes nothing.
use mathlib.Core.Path.{◌≡◌, refl, sym, ap, ◌∙◌, subst}
use Prim.Native.Nat.{ℕ, zero, suc, ◌+◌, ◌≤◌, max}
use mathlib.Core.Bool.{Bool, true, false, cond, not, ◌&&◌}
use mathlib.Core.List.{List, [], ◌∷◌}
use native.Mathlib.Omega.{arith}
use lib.ListN.{length}
use lib.Dec.{T, leb, ltb, leb→le, nleb→lt, ltb→lt, nltb→le}
use Rattle.grammar.specs.Grammar.{escaped, Item, Repeat, once, many, more, maybe, exactly, at_least, between, lazily, unmarked, Alternation, last, or, nothing, Atom, byte, class, Kind, ordinary, backslash, bar, opener, closer, bracket, brace, period, stray, sign, kind, special, class_text, item_text, items_text, caret_text, repeat_text, alternation, atom, WfAlternation, WfAtom, WfRepeat}
use Rattle.grammar.specs.Limits.{depth, depth_atom, heaviest}
use Rattle.grammar.specs.Before.{Before, start, barred, opened, after, text, opens, is_once, ready, softens, WfBefore}
use Rattle.grammar.specs.Code.Reader.{Parsed, found, missing, read_class, read_count, Gathered, whole, within, front, gather, Move, on, stop, put, soften, is_maybe, escape, add_atom, add_count, add_group, step, place, ended, moved, loop, read}
use Rattle.grammar.specs.Refusals.{accepted, refused, ClassAt, CountAt, Wrong, unopened, bare, unready_sign, unready_count, escape_last, escape_ordinary, no_class, no_count, too_deep, left_open, too_long, wrong, too_heavy, Right}
use Rattle.theory.proofs.Tests.{T_true, and_split}
use Rattle.grammar.proofs.Texts.{KindOk, kind_ok, len_item, len_items, len_repeat}
use Rattle.grammar.proofs.Pieces.{Sound, ClassIs, class_sound, class_complete, CountIs, count_sound, count_complete}

true_T : (c : Bool) → c ≡ true → T c
true_T c e = rw e tt

false_T : (c : Bool) → c ≡ false → T (not c)
false_T c e = rw e tt

front_text : (a : Atom) (r : Repeat) (u : Alternation) (s : List ℕ) → alternation (front a r u) s ≡ atom a (repeat_text r (alternation u s))
front_text a r (last q) s = refl
front_text a r (or q t) s = refl

front_wf : (a : Atom) (r : Repeat) (u : Alternation) → WfAtom a → WfRepeat r → WfAlternation u → WfAlternation (front a r u)
front_wf a r (last q) w v h = (w, v, h)
front_wf a r (or q t) w v h = ((w, v, h.0), h.1)

front_depth : (a : Atom) (r : Repeat) (u : Alternation) → depth (front a r u) ≡ max (depth_atom a) (depth u)
front_depth a r (last q) = refl
front_depth a r (or q t) = omega arith

-- What a beginning, with u after it, comes to.
abbrev pub GatherOk : Before → Alternation → Gathered → Type 0
GatherOk o u (whole t) = (opens o ≡ 0) × WfAlternation t × (depth t ≤ 16) × ((s : List ℕ) → text o (alternation u s) ≡ alternation t s)
GatherOk o u (within o' t) =
    (opens o ≡ suc (opens o')) × WfBefore o' × WfAlternation t × (opens o' + suc (depth t) ≤ 16) × ((s : List ℕ) → text o (alternation u s) ≡ text o' (40 ∷ alternation t s))

pub gather_ok : (o : Before) (u : Alternation) → WfBefore o → WfAlternation u → opens o + depth u ≤ 16 → GatherOk o u (gather o u)
gather_ok start u w v h = (refl, v, omega arith, λ s. refl)
gather_ok (barred o) u w v h = same (gather o (or nothing u)) (gather_ok o (or nothing u) w (tt, v) (omega arith))
  where
    same : (g : Gathered) → GatherOk o (or nothing u) g → GatherOk (barred o) u g
    same (whole t) k = k
    same (within o' t) k = k
gather_ok (opened o) u w v h = (refl, w.0, v, omega arith, λ s. refl)
gather_ok (after o a r) u w v h =
    same (gather o (front a r u)) (gather_ok o (front a r u) w.0 (front_wf a r u w.1 w.2 v) (rw (front_depth a r u) (omega arith)))
  where
    same : (g : Gathered) → GatherOk o (front a r u) g → GatherOk (after o a r) u g
    same (whole t) k = (k.0, k.1, k.2, λ s. rw (← front_text a r u s) (k.3 s))
    same (within o' t) k = (k.0, k.1, k.2, k.3, λ s. rw (← front_text a r u s) (k.4 s))

-- What a step comes to.
abbrev pub StepOk : Before → ℕ → List ℕ → Move → Type 0
StepOk o b s (on o' s') = WfBefore o' × (text o' s' ≡ text o (b ∷ s)) × (length s' ≤ length s)
StepOk o b s (stop n) = Wrong o (b ∷ s) n

-- A repeat after an atom that has none.
put_ok : (o : Before) (x : Repeat) (r : List ℕ) → ready o ≡ true → WfBefore o → WfRepeat x → WfBefore (put o x) × (text (put o x) r ≡ text o (repeat_text x r))
put_ok start x r e w v = let z : ◌≡◌ {A = ℕ} 0 1 = cc in absurd (omega arith)
put_ok (barred o) x r e w v = let z : ◌≡◌ {A = ℕ} 0 1 = cc in absurd (omega arith)
put_ok (opened o) x r e w v = let z : ◌≡◌ {A = ℕ} 0 1 = cc in absurd (omega arith)
put_ok (after o a y) x r e w v = ((w.0, w.1, v, w.3), go y e)
  where
    go : (y : Repeat) → is_once y ≡ true → text o (atom a (repeat_text x r)) ≡ text o (atom a (repeat_text y (repeat_text x r)))
    go once e = refl
    go many e = let z : ◌≡◌ {A = ℕ} 0 1 = cc in absurd (omega arith)
    go more e = let z : ◌≡◌ {A = ℕ} 0 1 = cc in absurd (omega arith)
    go maybe e = let z : ◌≡◌ {A = ℕ} 0 1 = cc in absurd (omega arith)
    go (exactly m) e = let z : ◌≡◌ {A = ℕ} 0 1 = cc in absurd (omega arith)
    go (at_least m) e = let z : ◌≡◌ {A = ℕ} 0 1 = cc in absurd (omega arith)
    go (between m n) e = let z : ◌≡◌ {A = ℕ} 0 1 = cc in absurd (omega arith)
    go (lazily y) e = let z : ◌≡◌ {A = ℕ} 0 1 = cc in absurd (omega arith)

-- A `?` after a repeat that has none.
soften_ok : (o : Before) (r : List ℕ) → T (softens o) → WfBefore o → WfBefore (soften o) × (text (soften o) r ≡ text o (63 ∷ r))
soften_ok start r e w = absurd e
soften_ok (barred o) r e w = absurd e
soften_ok (opened o) r e w = absurd e
soften_ok (after o a x) r e w = ((w.0, w.1, (w.2, T_true (unmarked x) e), w.3), refl)

is_maybe_lem : (x : Repeat) → T (is_maybe x) → x ≡ maybe
is_maybe_lem once t = absurd t
is_maybe_lem many t = absurd t
is_maybe_lem more t = absurd t
is_maybe_lem maybe t = refl
is_maybe_lem (exactly m) t = absurd t
is_maybe_lem (at_least m) t = absurd t
is_maybe_lem (between m n) t = absurd t
is_maybe_lem (lazily x) t = absurd t

-- The brackets open are at most 16.
pub opens_max : (o : Before) → WfBefore o → opens o ≤ 16
opens_max start w = omega arith
opens_max (barred o) w = opens_max o w
opens_max (opened o) w = w.1
opens_max (after o a r) w = opens_max o w.0

escape_ok : (o : Before) (s : List ℕ) → WfBefore o → StepOk o 92 s (escape o s)
escape_ok o [] w = escape_last
escape_ok o (b ∷ s) w = go (kind b) refl
  where
    fine : special (kind b) ≡ true → StepOk o 92 (b ∷ s) (on (after o (byte (escaped b)) once) s)
    fine h = ((w, h, tt, omega (arith, opens_max o w)), refl, omega arith)

    go : (k : Kind) → kind b ≡ k → StepOk o 92 (b ∷ s) (cond (special k) (on (after o (byte (escaped b)) once) s) (stop 3))
    go ordinary e = escape_ordinary b s e
    go backslash e = fine (ap special e)
    go bar e = fine (ap special e)
    go opener e = fine (ap special e)
    go closer e = fine (ap special e)
    go bracket e = fine (ap special e)
    go brace e = fine (ap special e)
    go period e = fine (ap special e)
    go stray e = fine (ap special e)
    go (sign r) e = fine (ap special e)

pub len_class : (c : Bool) (x : Item) (l : List Item) (r : List ℕ) → suc (length r) ≤ length (class_text c x l r)
len_class true x l r = omega (arith, len_item x (items_text l (93 ∷ r)), len_items l (93 ∷ r))
len_class false x l r = omega (arith, len_item x (items_text l (93 ∷ r)), len_items l (93 ∷ r))

pub no_class_lem : (s : List ℕ) → read_class s ≡ missing → ClassAt (91 ∷ s) → ⊥
no_class_lem s e (c, x, l, r, v, u, q) =
    let d : caret_text c (item_text x (items_text l (93 ∷ r))) ≡ s = cc in
    let g : read_class s ≡ found (class c x l) r = rw (← d) (class_complete c x l r v u) in
    let z : ◌≡◌ {A = ℕ} 0 1 = cc in omega arith

class_ok : (o : Before) (s : List ℕ) → WfBefore o → StepOk o 91 s (add_atom o (read_class s))
class_ok o s w = go (read_class s) refl (class_sound s)
  where
    go : (m : Parsed Atom) → read_class s ≡ m → Sound (ClassIs (91 ∷ s)) m → StepOk o 91 s (add_atom o m)
    go (found a r) e (c, x, l, same, v, u, q) = rw same ((w, (v, u), tt, omega (arith, opens_max o w)), ap (text o) q, omega (arith, len_class c x l r, ap length q))
    go missing e h = no_class s (no_class_lem s e)

pub no_count_lem : (s : List ℕ) → read_count s ≡ missing → CountAt (123 ∷ s) → ⊥
no_count_lem s e (x, r, w, h, q) =
    let g : read_count s ≡ found x r = count_complete x r w s q h in
    let z : ◌≡◌ {A = ℕ} 0 1 = cc in omega arith

count_ok : (o : Before) (s : List ℕ) → WfBefore o → ready o ≡ true → StepOk o 123 s (add_count o (read_count s))
count_ok o s w d = go (read_count s) refl (count_sound s)
  where
    go : (m : Parsed Repeat) → read_count s ≡ m → Sound (CountIs (123 ∷ s)) m → StepOk o 123 s (add_count o m)
    go (found x r) e k = let h = put_ok o x r d w k.0 in (h.0, h.1 ∙ ap (text o) k.2, omega (arith, len_repeat x r k.1, ap length k.2))
    go missing e h = no_count s d (no_count_lem s e)

pub step_ok : (o : Before) (b : ℕ) (s : List ℕ) → WfBefore o → StepOk o b s (step (kind b) o b s)
step_ok o b s w = go (kind b) refl (kind_ok b)
  where
    deeper : (c : Bool) → ltb (opens o) 16 ≡ c → b ≡ 40 → StepOk o b s (cond c (on (opened o) s) (stop 7))
    deeper true e h = ((w, ltb→lt (opens o) 16 (true_T (ltb (opens o) 16) e)), rw h refl, omega arith)
    deeper false e h = rw h (too_deep s (omega (arith, opens_max o w, nltb→le (opens o) 16 (false_T (ltb (opens o) 16) e))))

    closed : (g : Gathered) → GatherOk o (last nothing) g → b ≡ 41 → StepOk o b s (add_group g s)
    closed (whole t) k h = rw h (unopened s k.0)
    closed (within o' t) k h = ((k.1, k.2, tt, k.3), rw h (sym (k.4 (41 ∷ s))), omega arith)

    counted : (c : Bool) → ready o ≡ c → b ≡ 123 → StepOk o b s (cond c (add_count o (read_count s)) (stop 2))
    counted true e h = rw h (count_ok o s w e)
    counted false e h = rw h (unready_count s e)

    softened : (x : Repeat) (c : Bool) → is_maybe x && softens o ≡ c → ready o ≡ false → kind b ≡ sign x → KindOk b (sign x) → StepOk o b s (cond c (on (soften o) s) (stop 2))
    softened x true u e d h =
        let (m, t) = and_split (is_maybe x) (softens o) (true_T (is_maybe x && softens o) u) in
        let k = soften_ok o s t w in
        let q : repeat_text maybe s ≡ b ∷ s = subst (λ y. repeat_text y s ≡ b ∷ s) (is_maybe_lem x m) (h.2 s) in
        (k.0, k.1 ∙ ap (text o) q, omega arith)
    softened x false u e d h = unready_sign b x s d e λ q. subst (λ y. is_maybe y && softens o ≡ false) q u

    signed : (x : Repeat) (c : Bool) → ready o ≡ c → kind b ≡ sign x → KindOk b (sign x) → StepOk o b s (cond c (on (put o x) s) (cond (is_maybe x && softens o) (on (soften o) s) (stop 2)))
    signed x true e d h = let k = put_ok o x s e w h.0 in (k.0, k.1 ∙ ap (text o) (h.2 s), omega arith)
    signed x false e d h = softened x (is_maybe x && softens o) refl e d h

    go : (k : Kind) → kind b ≡ k → KindOk b k → StepOk o b s (step k o b s)
    go ordinary e h = ((w, e, tt, omega (arith, opens_max o w)), refl, omega arith)
    go backslash e h = rw h (escape_ok o s w)
    go bar e h = (w, rw h refl, omega arith)
    go opener e h = deeper (ltb (opens o) 16) refl h
    go closer e h = closed (gather o (last nothing)) (gather_ok o (last nothing) w tt (omega (arith, opens_max o w))) h
    go bracket e h = rw h (class_ok o s w)
    go brace e h = counted (ready o) refl h
    go period e h = ((w, tt, tt, omega (arith, opens_max o w)), rw h refl, omega arith)
    go stray e h = bare b s e
    go (sign x) e h = signed x (ready o) refl e h

ended_right : (o : Before) → WfBefore o → length (text o []) ≤ 255 → Right (text o []) (ended o (gather o (last nothing)))
ended_right o w short = go (gather o (last nothing)) (gather_ok o (last nothing) w tt (omega (arith, opens_max o w)))
  where
    weighed : (t : Alternation) (c : Bool) → GatherOk o (last nothing) (whole t) → leb (heaviest t) 64 ≡ c → Right (text o []) (cond c (accepted t) (refused 8 (place o)))
    weighed t true k e = record { text = sym (k.3 []); formed = k.1; short = short; shallow = k.2; light = leb→le (heaviest t) 64 (true_T (leb (heaviest t) 64) e) }
    weighed t false k e = too_heavy short t k.1 k.2 (sym (k.3 [])) (nleb→lt (heaviest t) 64 (false_T (leb (heaviest t) 64) e)) refl refl

    go : (g : Gathered) → GatherOk o (last nothing) g → Right (text o []) (ended o g)
    go (whole t) k = weighed t (leb (heaviest t) 64) k refl
    go (within o' t) k = wrong short o [] w refl (left_open (omega arith)) refl

loop_right : (f : ℕ) (o : Before) (s : List ℕ) → length s ≤ f → WfBefore o → length (text o s) ≤ 255 → Right (text o s) (loop f o s)
unfolding loop
loop_right zero o [] h w short = ended_right o w short
loop_right zero o (b ∷ s) h w short = absurd (omega arith)
loop_right (suc f) o [] h w short = ended_right o w short
loop_right (suc f) o (b ∷ s) h w short = go (loop_right f) (step (kind b) o b s) (step_ok o b s w)
  where
    go : ((o : Before) (s : List ℕ) → length s ≤ f → WfBefore o → length (text o s) ≤ 255 → Right (text o s) (loop f o s)) → (m : Move) → StepOk o b s m → Right (text o (b ∷ s)) (moved (loop f) o m)
    go ih (on o' s') k = rw (← k.1) (ih o' s' (omega arith) k.0 (rw k.1 short))
    go ih (stop n) k = wrong short o (b ∷ s) w refl k refl

-- The answer is right.
pub read_right : (p : List ℕ) → Right p (read p)
unfolding read
read_right p = go (leb (length p) 255) refl
  where
    go : (c : Bool) → leb (length p) 255 ≡ c → Right p (cond c (loop (length p) start p) (refused 1 255))
    go true e = loop_right (length p) start p (omega arith) tt (leb→le (length p) 255 (true_T (leb (length p) 255) e))
    go false e = too_long (nleb→lt (length p) 255 (false_T (leb (length p) 255) e)) refl refl
