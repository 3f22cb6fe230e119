-- Without the `?` of its lazy repeats an accepted pattern is accepted: its text is no longer, its tree as deep and as heavy.
-- Assumes nothing.
use mathlib.Core.Path.{◌≡◌, refl, ap, ap₂, ◌∙◌}
use Prim.Native.Nat.{ℕ, suc, ◌+◌, ◌≤◌, max}
use mathlib.Core.List.{List, [], ◌∷◌}
use native.Mathlib.Omega.{arith}
use lib.ListN.{length, length-append}
use Rattle.grammar.specs.Grammar.{Repeat, once, many, more, maybe, exactly, at_least, between, lazily, Alternation, last, or, Sequence, nothing, part, Atom, byte, dot, class, group, repeat_text, alternation, sequence, atom, WfRepeat, WfAlternation, WfSequence, WfAtom}
use Rattle.grammar.specs.Limits.{depth, depth_sequence, depth_atom, repeated, weight, weights, weight_atom, heaviest, heaviest_within, heaviest_atom, Reads}
use Rattle.grammar.specs.Eager.{eager_repeat, eagerly, eager_sequence, eager_atom}
use Rattle.grammar.proofs.Place.{Leads, repeat_leads, atom_leads}

-- The text F before a text is no longer than G before one that is no shorter.
abbrev Shorter : (List ℕ → List ℕ) → (List ℕ → List ℕ) → Type 0
Shorter F G = (s t : List ℕ) → length s ≤ length t → length (F s) ≤ length (G t)

as_long : (F : List ℕ → List ℕ) → Leads F → Shorter F F
as_long F f s t h = omega (arith, ap length (f s), ap length (f t), length-append (F []) s, length-append (F []) t)

repeat_shorter : (r : Repeat) → Shorter (repeat_text (eager_repeat r)) (repeat_text r)
repeat_shorter once = as_long (repeat_text once) (repeat_leads once)
repeat_shorter many = as_long (repeat_text many) (repeat_leads many)
repeat_shorter more = as_long (repeat_text more) (repeat_leads more)
repeat_shorter maybe = as_long (repeat_text maybe) (repeat_leads maybe)
repeat_shorter (exactly m) = as_long (repeat_text (exactly m)) (repeat_leads (exactly m))
repeat_shorter (at_least m) = as_long (repeat_text (at_least m)) (repeat_leads (at_least m))
repeat_shorter (between m n) = as_long (repeat_text (between m n)) (repeat_leads (between m n))
repeat_shorter (lazily r) = λ s t h. repeat_shorter r s (63 ∷ t) (omega arith)

mutual
  unfolding eagerly

  alternation_shorter : (t : Alternation) → Shorter (alternation (eagerly t)) (alternation t)
  alternation_shorter (last q) u v h = sequence_shorter q u v h
  alternation_shorter (or q t) u v h = sequence_shorter q (124 ∷ alternation (eagerly t) u) (124 ∷ alternation t v) (omega (arith, alternation_shorter t u v h))

  sequence_shorter : (q : Sequence) → Shorter (sequence (eager_sequence q)) (sequence q)
  sequence_shorter nothing u v h = h
  sequence_shorter (part a r q) u v h = atom_shorter a _ _ (repeat_shorter r _ _ (sequence_shorter q u v h))

  atom_shorter : (a : Atom) → Shorter (atom (eager_atom a)) (atom a)
  atom_shorter (byte x) u v h = as_long (atom (byte x)) (atom_leads (byte x)) u v h
  atom_shorter dot u v h = as_long (atom dot) (atom_leads dot) u v h
  atom_shorter (class c x l) u v h = as_long (atom (class c x l)) (atom_leads (class c x l)) u v h
  atom_shorter (group t) u v h = let e = alternation_shorter t (41 ∷ u) (41 ∷ v) (omega arith) in omega arith

repeat_formed : (r : Repeat) → WfRepeat r → WfRepeat (eager_repeat r)
repeat_formed once w = w
repeat_formed many w = w
repeat_formed more w = w
repeat_formed maybe w = w
repeat_formed (exactly m) w = w
repeat_formed (at_least m) w = w
repeat_formed (between m n) w = w
repeat_formed (lazily r) w = repeat_formed r w.0

mutual
  unfolding eagerly

  formed : (t : Alternation) → WfAlternation t → WfAlternation (eagerly t)
  formed (last q) w = formed_sequence q w
  formed (or q t) w = (formed_sequence q w.0, formed t w.1)

  formed_sequence : (q : Sequence) → WfSequence q → WfSequence (eager_sequence q)
  formed_sequence nothing w = w
  formed_sequence (part a r q) w = (formed_atom a w.0, repeat_formed r w.1, formed_sequence q w.2)

  formed_atom : (a : Atom) → WfAtom a → WfAtom (eager_atom a)
  formed_atom (byte x) w = w
  formed_atom dot w = w
  formed_atom (class c x l) w = w
  formed_atom (group t) w = formed t w

-- "The sign weighs nothing."
repeat_weight : (r : Repeat) (w : ℕ) → repeated (eager_repeat r) w ≡ repeated r w
repeat_weight once w = refl
repeat_weight many w = refl
repeat_weight more w = refl
repeat_weight maybe w = refl
repeat_weight (exactly m) w = refl
repeat_weight (at_least m) w = refl
repeat_weight (between m n) w = refl
repeat_weight (lazily r) w = repeat_weight r w

-- A tree and the same without its signs.
record SameLimits (t u : Alternation) : Type 0 where
  deep : depth t ≡ depth u
  heavy : weight t ≡ weight u
  most : heaviest t ≡ heaviest u

record SameWithin (q v : Sequence) : Type 0 where
  deep : depth_sequence q ≡ depth_sequence v
  heavy : weights q ≡ weights v
  most : heaviest_within q ≡ heaviest_within v

record SameAtom (a b : Atom) : Type 0 where
  deep : depth_atom a ≡ depth_atom b
  heavy : weight_atom a ≡ weight_atom b
  most : heaviest_atom a ≡ heaviest_atom b

mutual
  unfolding eagerly weight heaviest

  limits : (t : Alternation) → SameLimits (eagerly t) t
  limits (last q) = let k = limits_within q in record { deep = k.deep; heavy = ap (max 1) k.heavy; most = ap₂ max (ap (max 1) k.heavy) k.most }
  limits (or q t) =
      let k = limits_within q in
      let l = limits t in
      let w = ap₂ (λ m n. max 1 m + n) k.heavy l.heavy in
      record { deep = ap₂ max k.deep l.deep; heavy = w; most = ap₂ max w (ap₂ max k.most l.most) }

  limits_within : (q : Sequence) → SameWithin (eager_sequence q) q
  limits_within nothing = record { deep = refl; heavy = refl; most = refl }
  limits_within (part a r q) =
      let k = limits_atom a in
      let l = limits_within q in
      record {
        deep = ap₂ max k.deep l.deep;
        heavy = ap₂ ◌+◌ (repeat_weight r (weight_atom (eager_atom a)) ∙ ap (repeated r) k.heavy) l.heavy;
        most = ap₂ max k.most l.most;
      }

  limits_atom : (a : Atom) → SameAtom (eager_atom a) a
  limits_atom (byte x) = record { deep = refl; heavy = refl; most = refl }
  limits_atom dot = record { deep = refl; heavy = refl; most = refl }
  limits_atom (class c x l) = record { deep = refl; heavy = refl; most = refl }
  limits_atom (group t) = let k = limits t in record { deep = ap suc k.deep; heavy = k.heavy; most = k.most }

-- WITHOUT ITS SIGNS AN ACCEPTED PATTERN IS ACCEPTED.
pub eagerly_reads : (p : List ℕ) (t : Alternation) → Reads p t → Reads (alternation (eagerly t) []) (eagerly t)
eagerly_reads p t h =
    let k = limits t in
    record {
      text = refl;
      formed = formed t h.formed;
      short = omega (arith, h.short, ap length h.text, alternation_shorter t [] [] (omega arith));
      shallow = omega (arith, h.shallow, k.deep);
      light = omega (arith, h.light, k.most);
    }
