-- Beginnings of the pattern, and the faults that are found after one.
-- Assumes nothing.
use mathlib.Core.Path.{◌≡◌, refl, sym, ap, ◌∙◌, subst}
use mathlib.Core.Logic.{◌≢◌}
use Prim.Native.Nat.{ℕ, ◌+◌, ◌-◌, ◌≤◌, ◌<◌}
use mathlib.Core.Bool.{Bool, true, false}
use mathlib.Core.List.{List, [], ◌∷◌}
use native.Mathlib.Omega.{arith}
use native.Mathlib.Numerals.{add-one}
use native.Mathlib.Decide.{dec_lt}
use lib.ListN.{length, get_or, drop, length-drop}
use lib.Seq.{drop-cons}
use lib.Dec.{eqb, eqb→eq}
use Rattle.grammar.specs.Grammar.{Repeat, once, many, more, maybe, exactly, at_least, between, lazily, unmarked, Kind, ordinary, backslash, bar, opener, closer, bracket, brace, period, stray, sign, kind, special, repeat_text}
use Rattle.grammar.specs.Before.{Before, start, barred, opened, after, text, ready, softens, WfBefore}
use Rattle.grammar.specs.Refusals.{Wrong, bare, unready_sign, unready_count, escape_last, escape_ordinary, no_class, no_count, too_deep, left_open, Fault, wrong}
use Rattle.grammar.specs.Code.Reader.{missing, read_class, read_count}
use Rattle.grammar.specs.Code.Codes.{first_holds}
use Rattle.theory.proofs.Tests.{true_T}
use Rattle.grammar.proofs.Texts.{KindOk, kind_ok, ordinary_kind}
use Rattle.grammar.proofs.Sound.{opens_max, no_class_lem, no_count_lem}
use Rattle.grammar.proofs.Unique.{after_sequence, after_alternation, opens_sequence, text_sequence, text_alternation}
use Rattle.grammar.proofs.Place.{text_length, sequence_formed, alternation_formed, opens_alternation}
use Rattle.reader.specs.declared.size.Size.{Size}
use Rattle.reader.specs.declared.Brackets.{Brackets}
use Rattle.reader.specs.Steps.{is_special, is_repeat, NoRepeat, Beginning, Begun, Ready, Alternated, Sequenced, Atomic, Repeated}

-- The bytes from a place on.
pub at_drop : (p : List ℕ) (i : ℕ) → i < length p → drop i p ≡ get_or p i 0 ∷ drop (i + 1) p
at_drop p i h = rw (add-one, drop-cons p i 0) refl

pub byte_drop : (p : List ℕ) (i x : ℕ) → i < length p → get_or p i 0 ≡ x → drop i p ≡ x ∷ drop (i + 1) p
byte_drop p i x h e = at_drop p i h ∙ rw e refl

drop_past : (p : List ℕ) (i : ℕ) → length p ≤ i → drop i p ≡ []
drop_past p i h = go (drop i p) (length-drop i p)
  where
    go : (l : List ℕ) → length l ≡ length p - i → l ≡ []
    go [] e = refl
    go (x ∷ l) e = absurd (omega arith)

pub drop_all : (p : List ℕ) (i : ℕ) → i ≡ length p → drop i p ≡ []
drop_all p i h = drop_past p i (omega arith)

pub never : {A : Type 0} → false ≡ true → A
never e = let y : ◌≡◌ {A = ℕ} 0 1 = cc in absurd (omega arith)

-- A byte that stands at the place.
pub held_here : (p : List ℕ) (i x : ℕ) → first_holds (drop i p) x ≡ true → (i < length p) × (drop i p ≡ x ∷ drop (i + 1) p)
held_here p i x h = go (dec_lt i (length p))
  where
    go : Dec (i < length p) → (i < length p) × (drop i p ≡ x ∷ drop (i + 1) p)
    go (yes l) = let g : eqb x (get_or p i 0) ≡ true = rw (at_drop p i l) at h in (l, byte_drop p i x l (sym (eqb→eq x (get_or p i 0) (true_T (eqb x (get_or p i 0)) g))))
    go (no l) = never (sym (ap (λ s. first_holds s x) (drop_past p i (omega arith))) ∙ h)

module _ {p : List ℕ} {at : ℕ} (b : Beginning p at) where
  pub begin_place : at ≡ length (text b.o [])
  begin_place = omega (arith, text_length b.o (drop at p), ap length b.split, length-drop at p, b.inside)

  -- A fault there is the pattern's.
  pub begin_fault : (n : ℕ) (s : List ℕ) → drop at p ≡ s → Wrong b.o s n → Fault p n at
  begin_fault n s e k = wrong b.short b.o s b.formed (rw (← e) b.split) k begin_place

module _ {p : List ℕ} {at d : ℕ} where
  pub depth_max : Begun p at d → d ≤ 16
  depth_max b = omega (arith, opens_max b.begin.o b.begin.formed, b.deep)

  -- The beginnings that a `|`, a `(` and an atom with its repeat make.
  pub begun_bar : {e n m : ℕ} {c : Size} {f g : List ℕ} {u w : Brackets} → Begun p at d → Sequenced p at d e c f n g m u w → e < length p → get_or p e 0 ≡ 124 → Begun p (e + 1) d
  begun_bar {e} b r h x =
      record {
        begin = record {
          short = b.begin.short;
          inside = omega arith;
          o = barred (after_sequence b.begin.o r.q);
          formed = sequence_formed r.q b.begin.o b.begin.formed r.formed (rw b.deep r.shallow);
          split = text_sequence r.q b.begin.o (124 ∷ drop (e + 1) p) ∙ (let g = byte_drop p e 124 h x in rw (← g, r.text) b.begin.split);
        };
        deep = opens_sequence r.q b.begin.o ∙ b.deep;
        settled = never;
        unsigned = never;
      }

  pub begun_open : Begun p at d → at < length p → get_or p at 0 ≡ 40 → d ≢ 16 → Begun p (at + 1) (d + 1)
  begun_open b h x n =
      record {
        begin = record {
          short = b.begin.short;
          inside = omega arith;
          o = opened b.begin.o;
          formed = (b.begin.formed, omega (arith, opens_max b.begin.o b.begin.formed, b.deep));
          split = let g = byte_drop p at 40 h x in rw (← g) b.begin.split;
        };
        deep = omega (arith, b.deep);
        settled = never;
        unsigned = never;
      }

  pub ready_atom : {e n m : ℕ} {c : Size} {f g : List ℕ} {u w : Brackets} → Begun p at d → Atomic p at d e c f n g m u w → Ready p e
  ready_atom b a =
      record {
        begin = record {
          short = b.begin.short;
          inside = a.inside;
          o = after b.begin.o a.x once;
          formed = (b.begin.formed, a.formed, tt, rw b.deep a.shallow);
          split = rw a.text b.begin.split;
        };
        ready_here = refl;
      }

  pub begun_part : {e n m k i from : ℕ} {c v : Size} {f g h : List ℕ} {u w : Brackets} → Begun p at d → Atomic p at d e c f n g m u w → Repeated p e c k v g m from h i → Begun p k d
  begun_part b a r =
      record {
        begin = record {
          short = b.begin.short;
          inside = r.inside;
          o = after b.begin.o a.x r.x;
          formed = (b.begin.formed, a.formed, r.formed, rw b.deep a.shallow);
          split = rw (r.text, a.text) b.begin.split;
        };
        deep = b.deep;
        settled = r.settled;
        unsigned = r.unsigned;
      }

pub begun_start : (p : List ℕ) → length p ≤ 255 → Begun p 0 0
begun_start p h = record { begin = record { short = h; inside = omega arith; o = start; formed = tt; split = refl }; deep = refl; settled = never; unsigned = never }

-- What a byte is.
pub ordinary_of : (b : ℕ) → false ≡ is_special b → kind b ≡ ordinary
ordinary_of b e = ordinary_kind (kind b) (sym e)

sign_not : (b : ℕ) → b ≢ 42 → b ≢ 43 → b ≢ 63 → b ≢ 123 → (r : Repeat) → unmarked r ≡ true → ((s : List ℕ) → repeat_text r s ≡ b ∷ s) → ⊥
sign_not b x y z w once e h = never e
sign_not b x y z w many e h = let k = h [] in let q : ◌≡◌ {A = ℕ} 42 b = cc in x (sym q)
sign_not b x y z w more e h = let k = h [] in let q : ◌≡◌ {A = ℕ} 43 b = cc in y (sym q)
sign_not b x y z w maybe e h = let k = h [] in let q : ◌≡◌ {A = ℕ} 63 b = cc in z (sym q)
sign_not b x y z w (exactly m) e h = let k = h [] in let q : ◌≡◌ {A = ℕ} 123 b = cc in w (sym q)
sign_not b x y z w (at_least m) e h = let k = h [] in let q : ◌≡◌ {A = ℕ} 123 b = cc in w (sym q)
sign_not b x y z w (between m n) e h = let k = h [] in let q : ◌≡◌ {A = ℕ} 123 b = cc in w (sym q)
sign_not b x y z w (lazily r) e h = never e

pub no_repeat : (b : ℕ) → b ≢ 42 → b ≢ 43 → b ≢ 63 → b ≢ 123 → is_repeat (kind b) ≡ false
no_repeat b x y z w = go (kind b) (kind_ok b)
  where
    go : (k : Kind) → KindOk b k → is_repeat k ≡ false
    go ordinary h = refl
    go backslash h = refl
    go bar h = refl
    go opener h = refl
    go closer h = refl
    go bracket h = refl
    go brace h = absurd (w h)
    go period h = refl
    go stray h = refl
    go (sign r) h = absurd (sign_not b x y z w r h.1 h.2)

-- The faults of an atom's first byte.
module _ {p : List ℕ} {at d : ℕ} (b : Begun p at d) (i : at < length p) where
  pub fault_escape_last : get_or p at 0 ≡ 92 → at + 1 ≡ length p → Fault p 3 at
  fault_escape_last e h = begin_fault b.begin 3 (92 ∷ []) (byte_drop p at 92 i e ∙ ap (λ l. 92 ∷ l) (drop_all p (at + 1) h)) escape_last

  pub next_here : at + 1 < length p → drop (at + 1) p ≡ get_or p (at + 1) 0 ∷ drop (at + 2) p
  next_here h = let e : at + 1 + 1 ≡ at + 2 = omega arith in at_drop p (at + 1) h ∙ ap (λ k. get_or p (at + 1) 0 ∷ drop k p) e

  pub fault_escape : get_or p at 0 ≡ 92 → at + 1 ≢ length p → false ≡ is_special (get_or p (at + 1) 0) → Fault p 3 at
  fault_escape e n s =
      let h : at + 1 < length p = omega arith in
      begin_fault b.begin 3 (92 ∷ get_or p (at + 1) 0 ∷ drop (at + 2) p) (byte_drop p at 92 i e ∙ ap (λ l. 92 ∷ l) (next_here h))
      (escape_ordinary (get_or p (at + 1) 0) (drop (at + 2) p) (ordinary_of (get_or p (at + 1) 0) s))

  pub fault_class : get_or p at 0 ≡ 91 → read_class (drop (at + 1) p) ≡ missing → Fault p 4 at
  fault_class e h = begin_fault b.begin 4 (91 ∷ drop (at + 1) p) (byte_drop p at 91 i e) (no_class (drop (at + 1) p) (no_class_lem (drop (at + 1) p) h))

  pub fault_deep : get_or p at 0 ≡ 40 → d ≡ 16 → Fault p 7 at
  fault_deep e h = begin_fault b.begin 7 (40 ∷ drop (at + 1) p) (byte_drop p at 40 i e) (too_deep (drop (at + 1) p) (b.deep ∙ h))

  pub fault_open : {e n m : ℕ} {c : Size} {f g : List ℕ} {u w : Brackets} → get_or p at 0 ≡ 40 → d ≢ 16 → Alternated p (at + 1) (d + 1) e c f n g m u w → e ≡ length p → Fault p 6 e
  fault_open {e} x n t h =
      let o : Before = after_alternation (opened b.begin.o) t.t in
      let s : text o [] ≡ p = text_alternation t.t (opened b.begin.o) [] ∙ (rw (← drop_all p e h, t.text, ← byte_drop p at 40 i x) b.begin.split) in
      let f : WfBefore (opened b.begin.o) = (b.begin.formed, omega (arith, opens_max b.begin.o b.begin.formed, b.deep)) in
      wrong b.begin.short o [] (alternation_formed t.t (opened b.begin.o) f t.formed (omega (arith, t.shallow, b.deep))) s
      (left_open (omega (arith, opens_alternation t.t (opened b.begin.o)))) (h ∙ ap length (sym s))

  -- A byte that is special, and neither begins an atom nor ends a sequence.
  pub fault_stray : true ≡ is_special (get_or p at 0) → get_or p at 0 ≢ 92 → get_or p at 0 ≢ 40 → get_or p at 0 ≢ 46 → get_or p at 0 ≢ 91 → get_or p at 0 ≢ 124 → get_or p at 0 ≢ 41 → Fault p 2 at
  fault_stray s x y z w u v = go (kind (get_or p at 0)) refl (kind_ok (get_or p at 0))
    where
      stop : Wrong b.begin.o (get_or p at 0 ∷ drop (at + 1) p) 2 → Fault p 2 at
      stop k = begin_fault b.begin 2 (get_or p at 0 ∷ drop (at + 1) p) (at_drop p at i) k

      unready : is_repeat (kind (get_or p at 0)) ≡ true → (c : Bool) → ready b.begin.o ≡ c → ready b.begin.o ≡ false
      unready k true f =
          let g : NoRepeat (get_or p at 0 ∷ drop (at + 1) p) = rw (at_drop p at i) at (b.settled f) in
          let w : ◌≡◌ {A = ℕ} 0 1 = cc in absurd (omega arith)
      unready k false f = f

      unsoft : 63 ∷ [] ≡ get_or p at 0 ∷ [] → (c : Bool) → softens b.begin.o ≡ c → softens b.begin.o ≡ false
      unsoft q true f =
          let k : 63 ≡ get_or p at 0 = cc in
          let g : eqb 63 (get_or p at 0) ≡ false = rw (at_drop p at i) at (b.unsigned f) in
          never (sym (rw (← k) at g) ∙ refl)
      unsoft q false f = f

      go : (k : Kind) → kind (get_or p at 0) ≡ k → KindOk (get_or p at 0) k → Fault p 2 at
      go ordinary e h = let q : special (kind (get_or p at 0)) ≡ false = rw e refl in let w : ◌≡◌ {A = ℕ} 0 1 = cc in absurd (omega arith)
      go backslash e h = absurd (x h)
      go bar e h = absurd (u h)
      go opener e h = absurd (y h)
      go closer e h = absurd (v h)
      go bracket e h = absurd (w h)
      go brace e h = stop (rw h (unready_count (drop (at + 1) p) (unready (rw e refl) (ready b.begin.o) refl)))
      go period e h = absurd (z h)
      go stray e h = stop (bare (get_or p at 0) (drop (at + 1) p) e)
      go (sign r) e h = stop (unready_sign (get_or p at 0) r (drop (at + 1) p) e (unready (rw e refl) (ready b.begin.o) refl) (λ q. unsoft (subst (λ x. repeat_text x [] ≡ get_or p at 0 ∷ []) q (h.2 [])) (softens b.begin.o) refl))

-- A `{` that starts no valid count, right after an atom.
pub fault_count : {p : List ℕ} {at : ℕ} → Ready p at → at < length p → get_or p at 0 ≡ 123 → read_count (drop (at + 1) p) ≡ missing → Fault p 5 at
fault_count {p} {at} b i e h = begin_fault b.begin 5 (123 ∷ drop (at + 1) p) (byte_drop p at 123 i e) (no_count (drop (at + 1) p) b.ready_here (no_count_lem (drop (at + 1) p) h))
