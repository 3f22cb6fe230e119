-- What the cycle's functions find, from what their callees find.
-- Assumes nothing.
use mathlib.Core.Path.{◌≡◌, refl, sym, ap, ◌∙◌, subst}
use mathlib.Core.Logic.{◌≢◌}
use Prim.Native.Nat.{ℕ, suc, ◌+◌, ◌-◌, ◌≤◌, ◌<◌, max, min}
use mathlib.Core.Bool.{Bool, true, false}
use mathlib.Core.List.{List, [], ◌∷◌, ◌++◌, map, map-append, append_assoc, append-nil}
use native.Mathlib.Omega.{arith}
use native.Mathlib.Decide.{dec_lt}
use lib.ListN.{length, get_or, drop}
use Rattle.theory.specs.Pattern.{Manner, Re}
use Rattle.grammar.specs.Grammar.{plain, escaped, Repeat, once, many, more, maybe, exactly, at_least, between, lazily, unmarked, Digits, digits_value, last, or, Sequence, nothing, part, Atom, byte, dot, class, group, repeat_text, alternation, sequence, atom, WfAtom, WfRepeat}
use Rattle.grammar.specs.Limits.{depth_atom, weight, weights, weight_atom, heaviest, heaviest_within, heaviest_atom}
use Rattle.grammar.specs.Brackets.{brackets_within, brackets_atom, openings, openings_atom, max_fields}
use Rattle.grammar.specs.Sets.{in_named}
use Rattle.grammar.specs.WriteOut.{chain, optional, bracketed, shape, parts, shape_atom, repeat_by, repeat_of}
use Rattle.grammar.specs.Refusals.{Fault}
use Rattle.grammar.specs.Code.Reader.{found, read_class, read_count}
use Rattle.grammar.specs.Code.Tokens.{Token, nil, both, tokens}
use Rattle.grammar.specs.Code.Tokens
use Rattle.grammar.specs.Code.Codes.{first_holds, manner, star_of, first_field, first_leaf, token_of, exactly_codes, at_least_codes, between_codes}
use Rattle.grammar.proofs.Texts.{not_once}
use Rattle.grammar.proofs.Pieces.{Sound, ClassIs, class_sound, CountIs, count_sound}
use Rattle.grammar.proofs.Codes.{plain_code, escaped_code, dot_code, class_code, field_codes, unmarked_codes, star_codes, exactly_codes_lem, at_least_codes_lem, between_codes_lem}
use Rattle.grammar.proofs.Openings.{within_count, atom_count}
use Rattle.tokens.specs.Held.{Added, Rewritten}
use Rattle.scanner.specs.Scanned.{Onward}
use Rattle.lengths.specs.Lengths.{no_byte, one_byte, in_row, one_of, up_to, or_more, lengths, lengths_atom}
use Rattle.lengths.specs.Code.{meaning, capped}
use Rattle.reader.specs.declared.size.Size.{Size}
use Rattle.std.specs.Prelude.{Result, Ok, Err, IsErrAnd}
use Rattle.std.proofs.lemmas.Result.{err_from_is_err_and}
use Rattle.reader.specs.declared.Found.{Found}
use Rattle.reader.specs.declared.refusal.Refusal.{Refusal}
use Rattle.reader.specs.Numbers.{number_of}
use Rattle.reader.specs.declared.Brackets.{Brackets}
use Rattle.reader.specs.Steps.{is_special, one_more, Passed, AddedIf, NoRepeat, Begun, Weighs, light, load_of, Sized, sign_end, tokens_of, Wrote, Rewrote, PartRead, found_part, found_fault, Alternated, Sequenced, Atomic, Repeated}
use Rattle.reader.proofs.Weights.{or_light, or_heavy, repeated_pos, atom_pos, atom_heaviest, load_none, load_some}
use Rattle.reader.proofs.Sizes.{one_size, row_size, either_size, Sizes, once_sizes, many_sizes, more_sizes, maybe_sizes, exactly_sizes, at_least_sizes, between_sizes}
use Rattle.reader.proofs.Passed.{passed_none, passed_then, passed_count, passed_group}
use Rattle.reader.proofs.Begins.{never, at_drop, byte_drop, drop_all, held_here, next_here, depth_max, ordinary_of, no_repeat}

-- Writing.
module _ {p : List ℕ} where
  pub wrote_none : (a : List ℕ) (n : ℕ) → Wrote p a n a n (λ loaded. [])
  wrote_none a n = record { codes = []; are = λ loaded. refl; holds = λ l h. rw append-nil h }

  pub wrote_added : {a b : List ℕ} {n m : ℕ} (c : ℕ) (ts : List ℕ → List Token) → ((loaded : List ℕ) → map (token_of loaded p) (c ∷ []) ≡ ts loaded) → Added a n (c ∷ []) b m → Wrote p a n b m ts
  wrote_added c ts e h = record { codes = c ∷ []; are = e; holds = h.holds }

  pub wrote_then : {a b c : List ℕ} {n m k : ℕ} {ts us : List ℕ → List Token} → Wrote p a n b m ts → Wrote p b m c k us → Wrote p a n c k (λ loaded. ts loaded ++ us loaded)
  wrote_then x y =
      record {
        codes = x.codes ++ y.codes;
        are = λ loaded. map-append (token_of loaded p) x.codes y.codes ∙ rw (x.are loaded, y.are loaded);
        holds = λ l h. rw (← append_assoc l x.codes y.codes) (y.holds (l ++ x.codes) (x.holds l h));
      }

  pub wrote_same : {a b : List ℕ} {n m : ℕ} {ts us : List ℕ → List Token} → ((loaded : List ℕ) → ts loaded ≡ us loaded) → Wrote p a n b m ts → Wrote p a n b m us
  wrote_same e x = record { codes = x.codes; are = λ loaded. x.are loaded ∙ e loaded; holds = x.holds }

  -- A part that was written and then became another.
  pub wrote_rewrote : {a b c : List ℕ} {n m k : ℕ} {f : Re → Re} (y : List ℕ → Re) → Wrote p a n b m (λ loaded. tokens (y loaded)) → Rewrote p b m n c k f → Wrote p a n c k (λ loaded. tokens (f (y loaded)))
  wrote_rewrote y x r = record { codes = r.codes x.codes; are = λ loaded. r.are loaded x.codes (y loaded) (x.are loaded); holds = λ l h. r.holds l x.codes (x.holds l h) h.used }

-- An atom that is no group, with the brackets that are there.
pub single : {p : List ℕ} {G : Brackets → ℕ → Size → Type 0} {r : Result Found Refusal} (g : Brackets) → PartRead p (λ e c. (h : Brackets) → G h e c) r → PartRead p (G g) r
single g (found_part f) = found_part (f g)
single g (found_fault x) = found_fault x

-- A refusal is passed on, and what is found is known.
module _ {p : List ℕ} {F : ℕ → Size → Type 0} where
  pub refusal : {e : Refusal} → PartRead p F (Err e) → Fault p (number_of e.fault) e.place
  refusal (found_fault h) = h

  pub finding : {x : Found} → PartRead p F (Ok x) → F x.at x.size
  finding (found_part h) = h

  pub passed_on : {G : ℕ → Size → Type 0} {e : Refusal} (r : Result Found Refusal) → IsErrAnd r (λ f. f ≡ e) → PartRead p F (Err e) → PartRead p G r
  passed_on r x h = let q = err_from_is_err_and r x in rw (q.1, q.2) (found_fault (refusal h))

-- Repeats.
rewrote : {p : List ℕ} {n from m : ℕ} {a b : List ℕ} (how : Manner) (x : Repeat) (f : List ℕ → List ℕ) → Rewritten a n from f b m
    → ((loaded k : List ℕ) (y : Re) → map (token_of loaded p) k ≡ tokens y → map (token_of loaded p) (f k) ≡ tokens (repeat_by how x y)) → Rewrote p a n from b m (repeat_by how x)
rewrote how x f r g = record { codes = f; are = g; holds = r.holds }

-- A repeat x that ends at e, with the sign after it or without.
module _ {p : List ℕ} {at n from m : ℕ} {v c : Size} {a b : List ℕ} where
  found_repeat : (x : Repeat) (e : ℕ) (lazy : Bool) → lazy ≡ first_holds (drop e p) 63 → WfRepeat x → unmarked x ≡ true → repeat_text x (drop e p) ≡ drop at p → at ≤ e → e ≤ length p
      → Rewrote p a n from b m (repeat_by (manner lazy) x) → Sizes v c x → Repeated p at v (sign_end p e) c a n from b m
  found_repeat x e true q w o t f i r l =
      let (j, d) = held_here p e 63 (sym q) in
      rw (← q) record { x = lazily x; formed = (w, o); text = ap (repeat_text x) (sym d) ∙ t; forward = omega arith; inside = omega arith; settled = never; unsigned = never; wrote = r; size = l }
  found_repeat x e false q w o t f i r l =
      rw (← q) record { x = x; formed = w; text = t; forward = f; inside = i; settled = λ y. never (sym (not_once x o) ∙ y); unsigned = λ y. sym q; wrote = r; size = l }

  -- A sign.
  module _ (h : at < length p) (lazy : Bool) (q : lazy ≡ first_holds (drop (at + 1) p) 63) where
    sign_here : (x : Repeat) (k : ℕ) → get_or p at 0 ≡ k → WfRepeat x → unmarked x ≡ true → ((s : List ℕ) → repeat_text x s ≡ k ∷ s)
        → Rewrote p a n from b m (repeat_by (manner lazy) x) → Sizes v c x → Repeated p at v (sign_end p (at + 1)) c a n from b m
    sign_here x k e w o t r l = found_repeat x (at + 1) lazy q w o (t (drop (at + 1) p) ∙ sym (byte_drop p at k h e)) (omega arith) (omega arith) r l

    pub many_here : Sized c (load_of 1 v.weight) (capped (or_more 0 (meaning v.lengths))) → get_or p at 0 ≡ 42 → Rewritten a n from (λ k. k ++ (star_of (manner lazy) ∷ [])) b m
        → Repeated p at v (sign_end p (at + 1)) c a n from b m
    many_here d e r =
        sign_here many 42 e tt refl (λ s. refl) (rewrote (manner lazy) many (λ k. k ++ (star_of (manner lazy) ∷ [])) r (λ loaded k y x. star_codes loaded p k y x (manner lazy))) (many_sizes d)

    pub more_here : Sized c (load_of 2 v.weight) (capped (or_more 1 (meaning v.lengths))) → get_or p at 0 ≡ 43 → Rewritten a n from (at_least_codes (manner lazy) 1) b m → Repeated p at v (sign_end p (at + 1)) c a n from b m
    unfolding chain
    more_here d e r =
        sign_here more 43 e tt refl (λ s. refl) (rewrote (manner lazy) more (at_least_codes (manner lazy) 1) r (λ loaded k y x. at_least_codes_lem loaded p k y x (manner lazy) 1)) (more_sizes d)

    pub maybe_here : Sized c (load_of 1 v.weight) (capped (up_to 0 1 (meaning v.lengths))) → get_or p at 0 ≡ 63 → Rewritten a n from (between_codes (manner lazy) 0 1) b m
        → Repeated p at v (sign_end p (at + 1)) c a n from b m
    unfolding chain optional
    maybe_here d e r =
        sign_here maybe 63 e tt refl (λ s. refl) (rewrote (manner lazy) maybe (between_codes (manner lazy) 0 1) r (λ loaded k y x. between_codes_lem loaded p k y x (manner lazy) 0 1)) (maybe_sizes d)

  -- A count that was found.
  module _ (h : at < length p) (brace : get_or p at 0 ≡ 123) {e : ℕ} (next : Onward p (at + 1) e) (lazy : Bool) (q : lazy ≡ first_holds (drop e p) 63) where
    counted : (x : Repeat) → read_count (drop (at + 1) p) ≡ found x (drop e p) → Rewrote p a n from b m (repeat_by (manner lazy) x) → Sizes v c x
        → Repeated p at v (sign_end p e) c a n from b m
    counted x f r l =
        let i : CountIs (123 ∷ drop (at + 1) p) x (drop e p) = subst (Sound (CountIs (123 ∷ drop (at + 1) p))) f (count_sound (drop (at + 1) p)) in
        found_repeat x e lazy q i.0 i.1 (i.2 ∙ sym (byte_drop p at 123 h brace)) (omega (arith, next.forward)) next.inside r l

    pub exactly_here : (d : Digits) (t : ℕ) → read_count (drop (at + 1) p) ≡ found (exactly d) (drop e p) → digits_value d ≡ t
        → Sized c (load_of t v.weight) (capped (up_to t t (meaning v.lengths))) → Rewritten a n from (exactly_codes t) b m
        → Repeated p at v (sign_end p e) c a n from b m
    exactly_here d t f g k r =
        counted (exactly d) f (rewrote (manner lazy) (exactly d) (exactly_codes t) r (λ loaded k y x. rw g (exactly_codes_lem loaded p k y x t))) (exactly_sizes d t g k)

    pub at_least_here : (d : Digits) (t : ℕ) → read_count (drop (at + 1) p) ≡ found (at_least d) (drop e p) → digits_value d ≡ t
        → Sized c (load_of (t + 1) v.weight) (capped (or_more t (meaning v.lengths))) → Rewritten a n from (at_least_codes (manner lazy) t) b m
        → Repeated p at v (sign_end p e) c a n from b m
    at_least_here d t f g k r =
        counted (at_least d) f (rewrote (manner lazy) (at_least d) (at_least_codes (manner lazy) t) r (λ loaded k y x. rw g (at_least_codes_lem loaded p k y x (manner lazy) t))) (at_least_sizes d t g k)

    pub between_here : (d d' : Digits) (t u : ℕ) → read_count (drop (at + 1) p) ≡ found (between d d') (drop e p) → digits_value d ≡ t → digits_value d' ≡ u
        → Sized c (load_of u v.weight) (capped (up_to t u (meaning v.lengths))) → Rewritten a n from (between_codes (manner lazy) t (u - t)) b m → Repeated p at v (sign_end p e) c a n from b m
    between_here d d' t u f g g' k r =
        counted (between d d') f (rewrote (manner lazy) (between d d') (between_codes (manner lazy) t (u - t)) r (λ loaded k y x. rw (g, g') (between_codes_lem loaded p k y x (manner lazy) t (u - t)))) (between_sizes d d' t u g g' k)

-- No repeat.
module _ {p : List ℕ} {at n from : ℕ} {v : Size} {a : List ℕ} where
  none_here : at ≤ length p → NoRepeat (drop at p) → Repeated p at v at v a n from a n
  none_here h k = record { x = once; formed = tt; text = refl; forward = omega arith; inside = h; settled = λ y. k; unsigned = never; wrote = record { codes = λ k. k; are = λ loaded k y e. e; holds = λ l k h u. h }; size = once_sizes v }

  pub end_here : at ≡ length p → Repeated p at v at v a n from a n
  end_here e = none_here (omega arith) (rw (drop_all p at e) tt)

  pub other_here : at < length p → get_or p at 0 ≢ 42 → get_or p at 0 ≢ 43 → get_or p at 0 ≢ 63 → get_or p at 0 ≢ 123 → Repeated p at v at v a n from a n
  other_here h x y z w = none_here (omega arith) (rw (at_drop p at h) (no_repeat (get_or p at 0) x y z w))

-- Sequences. A part and the parts after it.
joined : {p : List ℕ} {u n₂ n₃ m : ℕ} {f g₂ g₃ g : List ℕ} {n : ℕ} (q : Sequence) (k : ℕ) (z : List ℕ → Re) → Wrote p f n g₂ n₂ (λ loaded. tokens (z loaded)) → Wrote p g₂ n₂ g₃ n₃ (λ loaded. tokens_of (parts (in_named loaded) q k)) → Weighs u (weights q) (heaviest_within q)
    → ((u ≡ 0 → ⊥) → Added g₃ n₃ (1 ∷ []) g m) → (u ≡ 0 → (g ≡ g₃) × (m ≡ n₃)) → Wrote p f n g m (λ loaded. tokens_of (z loaded ∷ parts (in_named loaded) q k))
unfolding weight heaviest shape tokens_of chain tokens
joined nothing k z v w l go stop =
    let e = stop (load_none l (omega arith)) in
    rw (e.0, e.1) (wrote_same (λ loaded. append-nil (tokens (z loaded))) (wrote_then v w))
joined (part a r q) k z v w l go stop = wrote_then v (wrote_then w (wrote_added 1 (λ loaded. both ∷ []) (λ loaded. refl) (go (load_some l (omega (arith, repeated_pos r (weight_atom a) (atom_pos a)))))))

-- A sequence as a part: an empty one is a part of its own.
whole : {p : List ℕ} {u n n₁ m : ℕ} {f g₁ g : List ℕ} (q : Sequence) (k : ℕ) → Wrote p f n g₁ n₁ (λ loaded. tokens_of (parts (in_named loaded) q k)) → Weighs u (weights q) (heaviest_within q)
    → (u ≡ 0 → Added g₁ n₁ (0 ∷ []) g m) → ((u ≡ 0 → ⊥) → (g ≡ g₁) × (m ≡ n₁)) → Wrote p f n g m (λ loaded. tokens (chain (parts (in_named loaded) q k)))
unfolding weight heaviest shape tokens_of chain tokens
whole nothing k w l go stop = wrote_then w (wrote_added 0 (λ loaded. nil ∷ []) (λ loaded. refl) (go (load_none l (omega arith))))
whole (part a r q) k w l go stop =
    let e = stop (load_some l (omega (arith, repeated_pos r (weight_atom a) (atom_pos a)))) in
    rw (e.0, e.1) w

module _ {p : List ℕ} {at d : ℕ} where
  pub sequence_stop : {f : List ℕ} {n : ℕ} {u : Brackets} {c : Size} → Sized c 0 no_byte → Begun p at d → (at < length p → get_or p at 0 ≢ 124 → get_or p at 0 ≡ 41) → Sequenced p at d at c f n f n u u
  unfolding weight heaviest shape tokens_of lengths
  sequence_stop {f} {n} {u} z b h =
      record {
        q = nothing;
        formed = tt;
        shallow = omega (arith, depth_max b);
        text = refl;
        forward = omega arith;
        inside = b.begin.inside;
        end = h;
        wrote = wrote_none f n;
        size = record { load = light z.weighs (omega arith) (omega arith); lengths = z.lasts };
        passed = passed_none u (omega arith);
      }

  pub sequence_part : {e k l n n₁ n₂ n₃ m : ℕ} {c v u : Size} {f g₁ g₂ g₃ g : List ℕ} {i j o : Brackets} (r : Size) → Atomic p at d e c f n g₁ n₁ i j → Repeated p e c k v g₁ n₁ n g₂ n₂ → Sequenced p k d l u g₂ n₂ g₃ n₃ j o
      → ((u.weight ≡ 0 → ⊥) → Added g₃ n₃ (1 ∷ []) g m) → (u.weight ≡ 0 → (g ≡ g₃) × (m ≡ n₃))
      → Sized r (min 65 (v.weight + u.weight)) (capped (in_row (meaning v.lengths) (meaning u.lengths))) → Sequenced p at d l r f n g m i o
  unfolding weight heaviest shape lengths
  sequence_part {e} {l = l} {n = n} {n₂ = n₂} {n₃ = n₃} {f = f} {g₂ = g₂} {g₃ = g₃} {i = i} {j = j} r a x q go stop z =
      let after : repeat_text x.x (sequence q.q (drop l p)) ≡ drop e p = rw q.text x.text in
      let k : j.count ≡ i.count + brackets_atom a.x = passed_count a.passed ∙ ap (λ n. i.count + n) (atom_count a.x (drop e p)) in
      record {
        q = part a.x x.x q.q;
        formed = (a.formed, x.formed, q.formed);
        shallow = omega (arith, a.shallow, q.shallow);
        text = rw (q.text, x.text) a.text;
        forward = omega (arith, a.forward, x.forward, q.forward);
        inside = q.inside;
        end = q.end;
        wrote =
            joined q.q (i.count + brackets_atom a.x) (λ loaded. repeat_of x.x (shape_atom (in_named loaded) a.x i.count))
            (wrote_rewrote (λ loaded. shape_atom (in_named loaded) a.x i.count) a.wrote x.wrote) (subst (λ n. Wrote p g₂ n₂ g₃ n₃ (λ loaded. tokens_of (parts (in_named loaded) q.q n))) k q.wrote) q.size.load go stop;
        size =
            row_size r (weights (part a.x x.x q.q)) (heaviest_within (part a.x x.x q.q)) refl
            (x.size (weight_atom a.x) (heaviest_atom a.x) (lengths_atom a.x) (atom_heaviest a.x) a.size) q.size (λ f g h. omega arith) (λ f. omega arith) z;
        passed = rw after (passed_then a.passed x.forward q.passed);
      }

  -- Alternations.
  pub alternation_last : {e n n₁ m : ℕ} {c : Size} {f g₁ g : List ℕ} {i j : Brackets} (r : Size) → Sequenced p at d e c f n g₁ n₁ i j → (c.weight ≡ 0 → Added g₁ n₁ (0 ∷ []) g m)
      → ((c.weight ≡ 0 → ⊥) → (g ≡ g₁) × (m ≡ n₁)) → Sized r (max 1 c.weight) (meaning c.lengths)
      → (e < length p → get_or p e 0 ≢ 124) → Alternated p at d e r f n g m i j
  unfolding weight heaviest shape lengths
  alternation_last {i = i} r q go stop e h =
      record {
        t = last q.q;
        formed = q.formed;
        shallow = q.shallow;
        text = q.text;
        forward = q.forward;
        inside = q.inside;
        end = λ l. q.end l (h l);
        wrote = whole q.q i.count q.wrote q.size.load go stop;
        size = one_size r e q.size;
        passed = q.passed;
      }

  pub alternation_or : {e l n n₁ n₂ n₃ m : ℕ} {c v : Size} {f g₁ g₂ g₃ g : List ℕ} {i j k : Brackets} (w r : Size) → Sequenced p at d e c f n g₁ n₁ i j → (c.weight ≡ 0 → Added g₁ n₁ (0 ∷ []) g₂ n₂)
      → ((c.weight ≡ 0 → ⊥) → (g₂ ≡ g₁) × (n₂ ≡ n₁)) → Sized w (max 1 c.weight) (meaning c.lengths)
      → e < length p → get_or p e 0 ≡ 124 → Alternated p (e + 1) d l v g₂ n₂ g₃ n₃ j k → Added g₃ n₃ (2 ∷ []) g m
      → Sized r (min 65 (w.weight + v.weight)) (capped (one_of (meaning w.lengths) (meaning v.lengths))) → Alternated p at d l r f n g m i k
  unfolding weight heaviest shape tokens lengths
  alternation_or {e} {l = l} {n₂ = n₂} {n₃ = n₃} {g₂ = g₂} {g₃ = g₃} {i = i} {j = j} w r q go stop x h y t o z =
      let after : 124 ∷ alternation t.t (drop l p) ≡ drop e p = ap (λ s. 124 ∷ s) t.text ∙ sym (byte_drop p e 124 h y) in
      let k : j.count ≡ i.count + brackets_within q.q = passed_count q.passed ∙ ap (λ n. i.count + n) (within_count q.q (drop e p)) in
      let rest : Wrote p g₂ n₂ g₃ n₃ (λ loaded. tokens (shape (in_named loaded) t.t (i.count + brackets_within q.q))) = subst (λ n. Wrote p g₂ n₂ g₃ n₃ (λ loaded. tokens (shape (in_named loaded) t.t n))) k t.wrote in
      record {
        t = or q.q t.t;
        formed = (q.formed, t.formed);
        shallow = omega (arith, q.shallow, t.shallow);
        text = let g = byte_drop p e 124 h y in rw (t.text, ← g) q.text;
        forward = omega (arith, q.forward, t.forward);
        inside = t.inside;
        end = t.end;
        wrote = wrote_then (whole q.q i.count q.wrote q.size.load go stop) (wrote_then rest (wrote_added 2 (λ loaded. Tokens.or ∷ []) (λ loaded. refl) o));
        passed = rw after (passed_then q.passed (omega arith) t.passed);
        size =
            either_size r (weight (or q.q t.t)) (heaviest (or q.q t.t)) refl (one_size w x q.size) t.size
            (or_light (max 1 (weights q.q)) (weight t.t) (heaviest_within q.q) (heaviest t.t)) (or_heavy (max 1 (weights q.q)) (weight t.t) (heaviest_within q.q) (heaviest t.t)) z;
      }

-- Atoms.
module _ {p : List ℕ} {at d : ℕ} (b : Begun p at d) (i : at < length p) {n m : ℕ} {f g : List ℕ} where
  -- A leaf, whose code is that of its place.
  module _ (u : Added f n ((first_leaf + at) ∷ []) g m) {c : Size} (q : Sized c 1 one_byte) (j : Brackets) where
    leaf_here : (x : Atom) (e : ℕ) → ((loaded : List ℕ) → map (token_of loaded p) ((first_leaf + at) ∷ []) ≡ tokens (shape_atom (in_named loaded) x j.count)) → openings_atom x (drop e p) ≡ [] → WfAtom x → depth_atom x ≡ 0 → weight_atom x ≡ 1 → heaviest_atom x ≡ 1 → lengths_atom x ≡ one_byte
        → atom x (drop e p) ≡ drop at p → at < e → e ≤ length p → Atomic p at d e c f n g m j j
    leaf_here x e v o w k y z s t l r =
        record {
          x = x;
          formed = w;
          shallow = omega (arith, depth_max b);
          text = t;
          forward = l;
          inside = r;
          wrote = wrote_added (first_leaf + at) (λ loaded. tokens (shape_atom (in_named loaded) x j.count)) v u;
          size = record { load = light (omega (arith, q.weighs)) (omega arith) (omega arith); lengths = q.lasts ∙ ap capped (sym s) };
          passed = rw o (passed_none j (omega arith));
        }

    pub plain_here : false ≡ is_special (get_or p at 0) → Atomic p at d (at + 1) c f n g m j j
    unfolding weight heaviest lengths
    plain_here e =
        leaf_here (byte (plain (get_or p at 0))) (at + 1) (λ loaded. plain_code loaded p at j.count (drop (at + 1) p) (get_or p at 0) (at_drop p at i) (ordinary_of (get_or p at 0) e)) refl (ordinary_of (get_or p at 0) e) refl refl refl refl (sym (at_drop p at i)) (omega arith) (omega arith)

    pub dot_here : get_or p at 0 ≡ 46 → Atomic p at d (at + 1) c f n g m j j
    unfolding weight heaviest lengths
    dot_here e = leaf_here dot (at + 1) (λ loaded. dot_code loaded p at j.count (drop (at + 1) p) (byte_drop p at 46 i e)) refl tt refl refl refl refl (sym (byte_drop p at 46 i e)) (omega arith) (omega arith)

    pub escaped_here : get_or p at 0 ≡ 92 → at + 1 ≢ length p → true ≡ is_special (get_or p (at + 1) 0) → Atomic p at d (at + 2) c f n g m j j
    unfolding weight heaviest lengths
    escaped_here e k s =
        let h : at + 1 < length p = omega arith in
        let t : drop at p ≡ 92 ∷ get_or p (at + 1) 0 ∷ drop (at + 2) p = byte_drop p at 92 i e ∙ ap (λ l. 92 ∷ l) (next_here b i h) in
        leaf_here (byte (escaped (get_or p (at + 1) 0))) (at + 2) (λ loaded. escaped_code loaded p at j.count (drop (at + 2) p) (get_or p (at + 1) 0) t) refl (sym s) refl refl refl refl (sym t) (omega arith) (omega arith)

    pub class_here : {e : ℕ} (x : Atom) → get_or p at 0 ≡ 91 → read_class (drop (at + 1) p) ≡ found x (drop e p) → Onward p (at + 1) e → Atomic p at d e c f n g m j j
    unfolding weight heaviest lengths
    class_here {e} a h r o =
        let (c, x, l, s, w, v, t) = subst (Sound (ClassIs (91 ∷ drop (at + 1) p))) r (class_sound (drop (at + 1) p)) in
        leaf_here (class c x l) e (λ loaded. class_code loaded p at j.count (drop (at + 1) p) c x l (drop e p) (byte_drop p at 91 i h) (r ∙ ap (λ y. found y (drop e p)) s)) refl (w, v) refl refl refl refl (t ∙ sym (byte_drop p at 91 i h)) (omega (arith, o.forward)) o.inside

  -- A group, whose bracket is a field if it is one of the first eight.
  pub group_here : {e k : ℕ} {c : Size} {h : List ℕ} {u w v : Brackets} → get_or p at 0 ≡ 40 → w ≡ one_more u at → Alternated p (at + 1) (d + 1) e c f n h k w v → e ≢ length p → AddedIf (u.count < max_fields) h k (first_field + u.count) g m
      → Atomic p at d (e + 1) c f n g m u v
  unfolding weight heaviest shape lengths
  group_here {e} {k} {c} {h} {u} {w} {v} x is t' o z =
      let l : e < length p = omega (arith, t.inside) in
      let y = byte_drop p e 41 l (t.end l) in
      let whole_text : atom (group t.t) (drop (e + 1) p) ≡ drop at p = rw (← y, t.text) (sym (byte_drop p at 40 i x)) in
      record {
        x = group t.t;
        formed = t.formed;
        shallow = omega (arith, t.shallow);
        text = whole_text;
        forward = omega (arith, t.forward);
        inside = omega arith;
        wrote = marked (dec_lt u.count max_fields);
        size = t.size;
        passed = passed_group (atom (group t.t) (drop (e + 1) p)) (omega arith) whole_text (subst (λ s. Passed p (at + 1) e (openings t.t s) (one_more u at) v) y t.passed);
      }
    where
      t : Alternated p (at + 1) (d + 1) e c f n h k (one_more u at) v
      t = subst (λ g. Alternated p (at + 1) (d + 1) e c f n h k g v) is t'

      marked : Dec (u.count < max_fields) → Wrote p f n g m (λ loaded. tokens (bracketed u.count (shape (in_named loaded) t.t (suc u.count))))
      marked (yes l) =
          record {
            codes = t.wrote.codes ++ ((first_field + u.count) ∷ []);
            are = λ loaded. field_codes loaded p t.wrote.codes (shape (in_named loaded) t.t (suc u.count)) (t.wrote.are loaded) u.count l;
            holds = λ a b. rw (← append_assoc a t.wrote.codes ((first_field + u.count) ∷ [])) ((z.added l).holds (a ++ t.wrote.codes) (t.wrote.holds a b));
          }
      marked (no l) =
          let e = z.kept l in
          rw (e.0, e.1) (record { codes = t.wrote.codes; are = λ loaded. unmarked_codes loaded p t.wrote.codes (shape (in_named loaded) t.t (suc u.count)) (t.wrote.are loaded) u.count (omega arith); holds = t.wrote.holds })
