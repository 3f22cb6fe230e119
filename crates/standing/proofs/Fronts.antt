-- Reading outcomes: what is gathered stays sound, one leaf or one end more, and two lists read one after the other.
-- Assumes nothing.
use mathlib.Core.Path.{◌≡◌, refl, sym, ◌∙◌}
use Prim.Native.Nat.{ℕ, zero, suc, ◌+◌, ◌<◌}
use mathlib.Core.Bool.{Bool, true, false, ◌||◌, cond, true≢false}
use mathlib.Core.List.{List, [], ◌∷◌, ◌++◌, append-nil, append_assoc}
use native.Mathlib.Omega.{arith}
use native.Mathlib.Numerals.{add-one}
use lib.ListN.{length, get_or, set, take, drop, length-set}
use lib.Seq.{length-take-le, take-suc-set}
use Rattle.std.proofs.lemmas.List.{take_more, take-append-drop}
use lib.Dec.{T, eqb, ltb, eqb→eq, eqb-zero-suc}
use borrow.Author.Tests.{lt-ltb}
use Rattle.theory.specs.Standing.{member, gather, from}
use Rattle.theory.specs.Code.Closure.{flat}
use Rattle.theory.proofs.Tests.{T_true, not_true, or_cases, or_assoc, or_false, either}
use Rattle.theory.specs.Code.Members.{nil, cons}
use Rattle.theory.proofs.Members.{member_append, gather_append, member_from, length_from, once_gather, once_size}
use Rattle.words.specs.Sets.{has_bit}
use Rattle.standing.specs.declared.Front.{Front}
use Rattle.standing.specs.Reads.{order, Sound, leaves, Read, Fronts}
use Rattle.words.proofs.Bits.{no_bit}

-- Nothing is read.
pub blank_fronts : (list : List ℕ) → length list ≡ 64 → Fronts [] (record { list = list; n = 0; seen = 0; ends = false })
blank_fronts list long = record {
  sound = record { long = long; size = omega arith; marked = λ p. no_bit p; below = λ p t. absurd t; apart = nil };
  order = refl;
  ended = refl;
}

-- After an end nothing counts.
pub read_stop : (f : Front) (l : List ℕ) → Sound f → f.ends ≡ true → Read f l f
read_stop f l s e = record { sound = s; order = rw e; ended = rw e }

leaves_append : (l m : List ℕ) → leaves (l ++ m) ≡ leaves l ++ cond (member 0 l) [] (leaves m)
leaves_append [] m = refl
leaves_append (zero ∷ l) m = refl
leaves_append (suc p ∷ l) m = rw (eqb-zero-suc p, leaves_append l m) (go (ltb p 64))
  where
    k : List ℕ
    k = cond (member 0 l) [] (leaves m)

    go : (c : Bool) → cond c (p ∷ (leaves l ++ k)) (leaves l ++ k) ≡ cond c (p ∷ leaves l) (leaves l) ++ k
    go true = refl
    go false = refl

pub read_append : (f g h : Front) (l m : List ℕ) → Read f l g → Read g m h → Read f (l ++ m) h
read_append f g h l m a b = record {
  sound = b.sound;
  order = b.order ∙ rw (a.ended, a.order, leaves_append l m) (go f.ends (member 0 l));
  ended = b.ended ∙ rw (a.ended, member_append 0 l m) (or_assoc f.ends (member 0 l) (member 0 m));
}
  where
    u : List ℕ
    u = order f

    go : (c d : Bool) → cond (c || d) (cond c u (gather u (leaves l))) (gather (cond c u (gather u (leaves l))) (leaves m)) ≡ cond c u (gather u (leaves l ++ cond d [] (leaves m)))
    go true d = refl
    go false true = rw (append-nil (leaves l))
    go false false = sym (gather_append u (leaves l) (leaves m))

-- A loop that reads a list up to the first end: an end was there after its first i outcomes, and one outcome more.
pub read_ended : (f g : Front) (l : List ℕ) (i : ℕ) → g.ends ≡ true → Read f (take i l) g → Read f l g
read_ended f g l i e a = rw (sym (take-append-drop i l)) (read_append f g g (take i l) (drop i l) a (read_stop g (drop i l) a.sound e))

pub read_turn : (f g h : Front) (l : List ℕ) (i : ℕ) → i < length l → Read f (take i l) g → Read g (get_or l i 0 ∷ []) h → Read f (take (i + 1) l) h
read_turn f g h l i k a b = rw (take_more l i 0 k) (read_append f g h (take i l) (get_or l i 0 ∷ []) a b)

-- An end.
pub read_end_lem : (f : Front) → Sound f → f.ends ≡ false → Read f (0 ∷ []) (record { list = f.list; n = f.n; seen = f.seen; ends = true })
read_end_lem f s e = record { sound = record { long = s.long; size = s.size; marked = s.marked; below = s.below; apart = s.apart }; order = rw e; ended = rw e }

-- One leaf more.
module _ (f : Front) (p : ℕ) (s : Sound f) (h : p < 64) (e : f.ends ≡ false) where
  module _ (b : has_bit f.seen p ≡ false) where
    new : T (member p (order f)) → ⊥
    new t = true≢false (sym (T_true (member p (order f)) t) ∙ sym (s.marked p) ∙ b)

    -- There is room for a leaf that is not there.
    pub read_room : f.n < 64
    read_room =
        let c = once_size (cons {p = p} new s.apart) (from 0 64) (λ q t. member_from q 0 64 (omega arith)
        (either (λ i. omega (arith, eqb→eq q p i)) (λ i. s.below q i) (or_cases (eqb q p) (member q (order f)) t))) in
        omega (arith, length_from 0 64, length-take-le f.n f.list (omega (arith, s.size, s.long)), s.size)

    pub read_new : (seen : ℕ) → ((q : ℕ) → has_bit seen q ≡ (has_bit f.seen q || eqb q p))
        → Read f (suc p ∷ []) (record { list = set f.list f.n p; n = f.n + 1; seen = seen; ends = f.ends })
    read_new seen k =
        let room = read_room in
        let long = s.long in
        let o : take (f.n + 1) (set f.list f.n p) ≡ order f ++ (p ∷ []) = rw (add-one f.n) (take-suc-set f.list f.n p (omega arith)) in
        let g : gather (order f) (p ∷ []) ≡ order f ++ (p ∷ []) = rw (not_true (member p (order f)) new) in
        record {
          sound = record {
            long = simp length-set long;
            size = omega arith;
            marked = λ q. k q ∙ rw (o, member_append q (order f) (p ∷ []), s.marked q, or_false (eqb q p));
            below = λ q t.
                either (λ i. s.below q i) (λ i. omega (arith, eqb→eq q p (rw (or_false (eqb q p)) at i)))
                (or_cases (member q (order f)) (member q (p ∷ [])) (rw (o, member_append q (order f) (p ∷ [])) at t));
            apart = rw o (rw g at (once_gather (order f) (p ∷ []) s.apart));
          };
          order = rw (e, lt-ltb p 64 h) (o ∙ sym g);
          ended = rw (eqb-zero-suc p) (sym (or_false f.ends));
        }

pub fronts_read : (e f : Front) (l : List ℕ) → Fronts [] e → Read e l f → Fronts l f
fronts_read e f l b c = record {
  sound = c.sound;
  order = c.order ∙ rw (b.ended, b.order);
  ended = c.ended ∙ rw b.ended;
}

-- The same of the outcomes of leaves, by k those of each.
module _ (k : ℕ → List ℕ) (l : List ℕ) (f g : Front) (i : ℕ) where
  flat_append : (m n : List ℕ) → flat k (m ++ n) ≡ flat k m ++ flat k n
  flat_append [] n = refl
  flat_append (p ∷ m) n = rw (flat_append m n, append_assoc) refl

  pub leaves_ended : g.ends ≡ true → Read f (flat k (take i l)) g → Read f (flat k l) g
  leaves_ended e a = rw (sym (take-append-drop i l), flat_append (take i l) (drop i l)) (read_append f g g _ _ a (read_stop g _ a.sound e))

  pub leaves_turn : (h : Front) → i < length l → Read f (flat k (take i l)) g → Read g (k (get_or l i 0)) h → Read f (flat k (take (i + 1) l)) h
  leaves_turn h c a b = rw (take_more l i 0 c, flat_append (take i l) (get_or l i 0 ∷ []), append-nil (k (get_or l i 0))) (read_append f g h _ _ a b)
