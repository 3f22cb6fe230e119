-- A text before s is the text, and then s.
-- Assumes nothing.
use mathlib.Core.Path.{◌≡◌, refl, sym, ap, ◌∙◌}
use Prim.Native.Nat.{ℕ, ◌+◌, ◌≤◌}
use mathlib.Core.Bool.{true, false}
use mathlib.Core.List.{List, [], ◌∷◌, ◌++◌, append_assoc, append-nil}
use native.Mathlib.Omega.{arith}
use lib.ListN.{length, length-append}
use Rattle.grammar.specs.Grammar.{Byte, plain, escaped, Item, single, range, named, Digits, one, two, Repeat, once, many, more, maybe, exactly, at_least, between, lazily, Alternation, last, or, Sequence, nothing, part, Atom, byte, dot, class, group, byte_text, named_text, item_text, items_text, digits_text, repeat_text, alternation, sequence, atom, WfAlternation, WfSequence}
use Rattle.grammar.specs.Limits.{depth, depth_sequence}
use Rattle.grammar.specs.Before.{Before, start, barred, opened, after, text, opens, WfBefore}
use Rattle.grammar.proofs.Unique.{after_sequence, after_alternation, opens_sequence}

-- The text F stands before s.
abbrev pub Leads : (List ℕ → List ℕ) → Type 0
Leads F = (s : List ℕ) → F s ≡ F [] ++ s

-- One text, then another.
then : (F G : List ℕ → List ℕ) → Leads F → Leads G → Leads (λ s. F (G s))
then F G f g s =
    f (G s) ∙ ap (λ x. F [] ++ x) (g s) ∙ sym (append_assoc (F []) (G []) s) ∙ ap (λ x. x ++ s) (sym (f (G [])))

mark : (b : ℕ) (F : List ℕ → List ℕ) → Leads F → Leads (λ s. b ∷ F s)
mark b F f s = ap (λ x. b ∷ x) (f s)

byte_leads : (x : Byte) → Leads (byte_text x)
byte_leads (plain b) s = refl
byte_leads (escaped b) s = refl

item_leads : (i : Item) → Leads (item_text i)
item_leads (single x) = byte_leads x
item_leads (range x y) = then (byte_text x) (λ s. 45 ∷ byte_text y s) (byte_leads x) (mark 45 (byte_text y) (byte_leads y))
item_leads (named n) = λ s. ap (λ x. 91 ∷ x) (ap (λ x. x ++ s) (sym (append-nil (named_text n))))

items_leads : (l : List Item) → Leads (items_text l)
items_leads [] = λ s. refl
items_leads (i ∷ l) = then (item_text i) (items_text l) (item_leads i) (items_leads l)

digits_leads : (m : Digits) → Leads (digits_text m)
digits_leads (one b) s = refl
digits_leads (two b c) s = refl

pub repeat_leads : (r : Repeat) → Leads (repeat_text r)
repeat_leads once = λ s. refl
repeat_leads many = λ s. refl
repeat_leads more = λ s. refl
repeat_leads maybe = λ s. refl
repeat_leads (exactly m) = mark 123 (λ s. digits_text m (125 ∷ s)) (then (digits_text m) (λ s. 125 ∷ s) (digits_leads m) (λ s. refl))
repeat_leads (at_least m) = mark 123 (λ s. digits_text m (44 ∷ 125 ∷ s)) (then (digits_text m) (λ s. 44 ∷ 125 ∷ s) (digits_leads m) (λ s. refl))
repeat_leads (between m n) =
    let last = then (digits_text n) (λ s. 125 ∷ s) (digits_leads n) (λ s. refl) in
    mark 123 (λ s. digits_text m (44 ∷ digits_text n (125 ∷ s)))
    (then (digits_text m) (λ s. 44 ∷ digits_text n (125 ∷ s)) (digits_leads m) (mark 44 (λ s. digits_text n (125 ∷ s)) last))
repeat_leads (lazily r) = then (repeat_text r) (λ s. 63 ∷ s) (repeat_leads r) (λ s. refl)

class_leads : (x : Item) (l : List Item) → Leads (λ s. item_text x (items_text l (93 ∷ s)))
class_leads x l = then (item_text x) (λ s. items_text l (93 ∷ s)) (item_leads x) (then (items_text l) (λ s. 93 ∷ s) (items_leads l) (λ s. refl))

mutual
  alternation_leads : (t : Alternation) → Leads (alternation t)
  alternation_leads (last q) s = sequence_leads q s
  alternation_leads (or q t) s = then (sequence q) (λ s. 124 ∷ alternation t s) (λ s. sequence_leads q s) (mark 124 (alternation t) (λ s. alternation_leads t s)) s

  pub sequence_leads : (q : Sequence) → Leads (sequence q)
  sequence_leads nothing s = refl
  sequence_leads (part a r q) s =
      then (atom a) (λ s. repeat_text r (sequence q s)) (λ s. atom_leads a s) (then (repeat_text r) (sequence q) (repeat_leads r) (λ s. sequence_leads q s)) s

  pub atom_leads : (a : Atom) → Leads (atom a)
  atom_leads (byte x) s = byte_leads x s
  atom_leads dot s = refl
  atom_leads (class true x l) s = ap (λ y. 91 ∷ 94 ∷ y) (class_leads x l s)
  atom_leads (class false x l) s = ap (λ y. 91 ∷ y) (class_leads x l s)
  atom_leads (group t) s = mark 40 (λ s. alternation t (41 ∷ s)) (then (alternation t) (λ s. 41 ∷ s) (λ s. alternation_leads t s) (λ s. refl)) s

pub text_leads : (o : Before) (s : List ℕ) → text o s ≡ text o [] ++ s
text_leads start s = refl
text_leads (barred o) s = then (text o) (λ s. 124 ∷ s) (λ s. text_leads o s) (λ s. refl) s
text_leads (opened o) s = then (text o) (λ s. 40 ∷ s) (λ s. text_leads o s) (λ s. refl) s
text_leads (after o a r) s = then (text o) (λ s. atom a (repeat_text r s)) (λ s. text_leads o s) (then (atom a) (repeat_text r) (atom_leads a) (repeat_leads r)) s

pub text_length : (o : Before) (s : List ℕ) → length (text o s) ≡ length (text o []) + length s
text_length o s = ap length (text_leads o s) ∙ length-append (text o []) s

-- A beginning with a well-formed tree after it is well formed.
pub sequence_formed : (q : Sequence) (o : Before) → WfBefore o → WfSequence q → opens o + depth_sequence q ≤ 16 → WfBefore (after_sequence o q)
sequence_formed nothing o w v h = w
sequence_formed (part a r q) o w v h = sequence_formed q (after o a r) (w, v.0, v.1, omega arith) v.2 (omega arith)

pub alternation_formed : (t : Alternation) (o : Before) → WfBefore o → WfAlternation t → opens o + depth t ≤ 16 → WfBefore (after_alternation o t)
alternation_formed (last q) o w v h = sequence_formed q o w v h
alternation_formed (or q t) o w v h =
    alternation_formed t (barred (after_sequence o q)) (sequence_formed q o w v.0 (omega arith)) v.1 (rw (opens_sequence q o) (omega arith))

pub opens_alternation : (t : Alternation) (o : Before) → opens (after_alternation o t) ≡ opens o
opens_alternation (last q) o = opens_sequence q o
opens_alternation (or q t) o = opens_alternation t (barred (after_sequence o q)) ∙ opens_sequence q o
