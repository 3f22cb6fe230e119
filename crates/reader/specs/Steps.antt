-- What the functions of the cycle find at a place: a part of a tree, its tokens and its size, or the pattern's fault.
-- Assumes nothing.
use Rattle.std.specs.Prelude.{Some, None, Result, Ok, Err, ◌≡◌, ◌≢◌, ℕ, suc, ◌+◌, ◌-◌, ◌≤◌, ◌<◌, max, min, Bool, true, false, cond, List, [], ◌∷◌, ◌++◌, map, length, get_or, drop, eqb}
use Rattle.theory.specs.Pattern.{Re}
use Rattle.grammar.specs.Grammar.{Repeat, unmarked, Alternation, Sequence, Atom, Kind, ordinary, backslash, bar, opener, closer, bracket, brace, period, stray, sign, kind, special, repeat_text, alternation, sequence, atom, WfAlternation, WfSequence, WfAtom, WfRepeat}
use Rattle.grammar.specs.Limits.{max_bytes, max_depth, max_weight, depth, depth_sequence, depth_atom, times, repeated, weight, weights, weight_atom, heaviest, heaviest_within, heaviest_atom}
use Rattle.grammar.specs.Brackets.{openings, openings_within, openings_atom, max_fields}
use Rattle.grammar.specs.Sets.{in_named}
use Rattle.grammar.specs.WriteOut.{chain, shape, parts, shape_atom, repeat_of}
use Rattle.grammar.specs.Before.{Before, text, opens, is_once, ready, softens, WfBefore}
use Rattle.grammar.specs.Refusals.{Fault}
use Rattle.grammar.specs.Code.Tokens.{max_parts, Token, tokens}
use Rattle.grammar.specs.Code.Codes.{first_holds, first_leaf, token_of}
use Rattle.tokens.specs.Held.{HoldsCodes, Added}
use Rattle.lengths.specs.Lengths.{Extent, one_byte, under_repeat, lengths, lengths_within, lengths_atom}
use Rattle.lengths.specs.Code.{meaning, capped}
use Rattle.reader.specs.declared.Brackets.{Brackets}
use Rattle.reader.specs.declared.size.Size.{Size}
use Rattle.reader.specs.declared.Found.{Found}
use Rattle.reader.specs.declared.refusal.Refusal.{Refusal}
use Rattle.reader.specs.Numbers.{number_of}

abbrev pub is_special : ℕ → Bool
is_special b = special (kind b)

-- A repeat sign or `{`.
abbrev pub is_repeat : Kind → Bool
is_repeat ordinary = false
is_repeat backslash = false
is_repeat bar = false
is_repeat opener = false
is_repeat closer = false
is_repeat bracket = false
is_repeat brace = true
is_repeat period = false
is_repeat stray = false
is_repeat (sign r) = true

abbrev pub NoRepeat : List ℕ → Type 0
NoRepeat [] = Unit {0}
NoRepeat (b ∷ s) = is_repeat (kind b) ≡ false

-- No `?`.
abbrev pub NoSign : List ℕ → Type 0
NoSign s = first_holds s 63 ≡ false

-- The pattern up to the place is a beginning.
pub record Beginning (p : List ℕ) (at : ℕ) : Type 0 where
  pub short : length p ≤ max_bytes
  pub inside : at ≤ length p
  pub o : Before
  pub formed : WfBefore o
  pub split : text o (drop at p) ≡ p

-- .. with d brackets open, and neither a repeat nor the sign of a lazy one can follow there.
pub record Begun (p : List ℕ) (at d : ℕ) : Type 0 where
  pub begin : Beginning p at
  pub deep : opens begin.o ≡ d
  pub settled : ready begin.o ≡ true → NoRepeat (drop at p)
  pub unsigned : softens begin.o ≡ true → NoSign (drop at p)

-- .. right after an atom.
pub record Ready (p : List ℕ) (at : ℕ) : Type 0 where
  pub begin : Beginning p at
  pub ready_here : ready begin.o ≡ true

-- An atom, or a fault, is at the place.
pub record AtomAt (p : List ℕ) (at : ℕ) : Type 0 where
  pub before : at < length p
  pub no_bar : get_or p at 0 ≢ 124
  pub no_close : get_or p at 0 ≢ 41

-- What stands for any weight above the limit.
abbrev pub above_limit : ℕ
above_limit = max_weight + 1

-- A part weighs w and its heaviest part h; c is w, or `above_limit` if one of them is above the limit.
pub data Weighs (c w h : ℕ) : Type 0 where
  light : c ≡ w → w ≤ max_weight → h ≤ max_weight → Weighs c w h
  heavy : c ≡ above_limit → max_weight < max w h → Weighs c w h

-- A size has the weight c and the lengths y.
pub record Sized (s : Size) (c : ℕ) (y : Extent) : Type 0 where
  pub weighs : s.weight ≡ c
  pub lasts : meaning s.lengths ≡ y

-- The size of a part that weighs w, its heaviest part h, and has the lengths y.
pub record SizeOf (s : Size) (w h : ℕ) (y : Extent) : Type 0 where
  pub load : Weighs s.weight w h
  pub lengths : meaning s.lengths ≡ capped y

-- The weight of n copies of a part that weighs v.
abbrev pub load_of : ℕ → ℕ → ℕ
load_of n v = cond (eqb v above_limit) above_limit (min above_limit (times n v))

-- The place after a repeat that ends at e, and after the sign that makes it lazy.
abbrev pub sign_end : List ℕ → ℕ → ℕ
sign_end p e = cond (first_holds (drop e p) 63) (e + 1) e

-- Before any bracket.
abbrev pub no_brackets : Brackets
no_brackets = record { count = 0; ninth = None }

-- The brackets g and one more, at the place q.
abbrev pub one_more : Brackets → ℕ → Brackets
one_more g q = record { count = suc g.count; ninth = cond (eqb g.count max_fields) (Some q) g.ninth }

-- The brackets g and more, each given by the text from it on to the end of a pattern of n bytes.
unfoldable pub and_more : ℕ → Brackets → List (List ℕ) → Brackets
and_more n g [] = g
and_more n g (s ∷ l) = and_more n (one_more g (n - length s)) l

-- The brackets became h over a part from the place `at` to e whose brackets are l, and are no more than the bytes.
pub record Passed (p : List ℕ) (at e : ℕ) (l : List (List ℕ)) (g h : Brackets) : Type 0 where
  pub are : h ≡ and_more (length p) g l
  pub few : g.count ≤ at → h.count ≤ e

-- The tokens of the parts of a sequence: none if it has none.
unfoldable pub tokens_of : List Re → List Token
tokens_of [] = []
tokens_of (x ∷ l) = tokens (chain (x ∷ l))

-- The array a with n used became b with m used: the codes of those tokens, which are theirs by whatever table of named sets is loaded, are held after what was held.
pub record Wrote (p : List ℕ) (a : List ℕ) (n : ℕ) (b : List ℕ) (m : ℕ) (ts : List ℕ → List Token) : Type 0 where
  pub codes : List ℕ
  pub are : (loaded : List ℕ) → map (token_of loaded p) codes ≡ ts loaded
  pub holds : (l : List ℕ) → HoldsCodes a n l → HoldsCodes b m (l ++ codes)

-- A code was added if the test holds, and else nothing changed.
pub record AddedIf (P : Type 0) (a : List ℕ) (n code : ℕ) (b : List ℕ) (m : ℕ) : Type 0 where
  pub added : P → Added a n (code ∷ []) b m
  pub kept : (P → ⊥) → (b ≡ a) × (m ≡ n)

-- The code of the leaf at the place `at` was added, and its size found.
pub record LeafAdded (at end : ℕ) (a : List ℕ) (n : ℕ) (b : List ℕ) (m : ℕ) (x : Found) : Type 0 where
  pub code : Added a n ((first_leaf + at) ∷ []) b m
  pub past : x.at ≡ end
  pub size : Sized x.size 1 one_byte

-- A part y, whose codes begin at the place `from`, became the part f y.
pub record Rewrote (p : List ℕ) (a : List ℕ) (n from : ℕ) (b : List ℕ) (m : ℕ) (f : Re → Re) : Type 0 where
  pub codes : List ℕ → List ℕ
  pub are : (loaded k : List ℕ) (y : Re) → map (token_of loaded p) k ≡ tokens y → map (token_of loaded p) (codes k) ≡ tokens (f y)
  pub holds : (l k : List ℕ) → HoldsCodes a n (l ++ k) → from ≡ min max_parts (length l) → HoldsCodes b m (l ++ codes k)

-- What is found, F, ends at e and has the size c; or the pattern has the fault.
pub data PartRead (p : List ℕ) (F : ℕ → Size → Type 0) : Result Found Refusal → Type 0 where
  found_part : {x : Found} → F x.at x.size → PartRead p F (Ok x)
  found_fault : {e : Refusal} → Fault p (number_of e.fault) e.place → PartRead p F (Err e)

-- An alternation from the place `at` to e, of the size c.
pub record Alternated (p : List ℕ) (at d e : ℕ) (c : Size) (a : List ℕ) (n : ℕ) (b : List ℕ) (m : ℕ) (g h : Brackets) : Type 0 where
  pub t : Alternation
  pub formed : WfAlternation t
  pub shallow : d + depth t ≤ max_depth
  pub text : alternation t (drop e p) ≡ drop at p
  pub forward : at ≤ e
  pub inside : e ≤ length p
  pub end : e < length p → get_or p e 0 ≡ 41
  pub wrote : Wrote p a n b m (λ loaded. tokens (shape (in_named loaded) t g.count))
  pub size : SizeOf c (weight t) (heaviest t) (lengths t)
  pub passed : Passed p at e (openings t (drop e p)) g h

abbrev pub AlternationRead : List ℕ → ℕ → ℕ → List ℕ → ℕ → List ℕ → ℕ → Brackets → Brackets → Result Found Refusal → Type 0
AlternationRead p at d a n b m g h = PartRead p (λ e c. Alternated p at d e c a n b m g h)

-- A sequence.
pub record Sequenced (p : List ℕ) (at d e : ℕ) (c : Size) (a : List ℕ) (n : ℕ) (b : List ℕ) (m : ℕ) (g h : Brackets) : Type 0 where
  pub q : Sequence
  pub formed : WfSequence q
  pub shallow : d + depth_sequence q ≤ max_depth
  pub text : sequence q (drop e p) ≡ drop at p
  pub forward : at ≤ e
  pub inside : e ≤ length p
  pub end : e < length p → get_or p e 0 ≢ 124 → get_or p e 0 ≡ 41
  pub wrote : Wrote p a n b m (λ loaded. tokens_of (parts (in_named loaded) q g.count))
  pub size : SizeOf c (weights q) (heaviest_within q) (lengths_within q)
  pub passed : Passed p at e (openings_within q (drop e p)) g h

abbrev pub SequenceRead : List ℕ → ℕ → ℕ → List ℕ → ℕ → List ℕ → ℕ → Brackets → Brackets → Result Found Refusal → Type 0
SequenceRead p at d a n b m g h = PartRead p (λ e c. Sequenced p at d e c a n b m g h)

-- An atom.
pub record Atomic (p : List ℕ) (at d e : ℕ) (c : Size) (a : List ℕ) (n : ℕ) (b : List ℕ) (m : ℕ) (g h : Brackets) : Type 0 where
  pub x : Atom
  pub formed : WfAtom x
  pub shallow : d + depth_atom x ≤ max_depth
  pub text : atom x (drop e p) ≡ drop at p
  pub forward : at < e
  pub inside : e ≤ length p
  pub wrote : Wrote p a n b m (λ loaded. tokens (shape_atom (in_named loaded) x g.count))
  pub size : SizeOf c (weight_atom x) (heaviest_atom x) (lengths_atom x)
  pub passed : Passed p at e (openings_atom x (drop e p)) g h

abbrev pub AtomRead : List ℕ → ℕ → ℕ → List ℕ → ℕ → List ℕ → ℕ → Brackets → Brackets → Result Found Refusal → Type 0
AtomRead p at d a n b m g h = PartRead p (λ e c. Atomic p at d e c a n b m g h)

-- An atom that is no group: whatever the brackets are, they stay.
abbrev pub LeafRead : List ℕ → ℕ → ℕ → List ℕ → ℕ → List ℕ → ℕ → Result Found Refusal → Type 0
LeafRead p at d a n b m = PartRead p (λ e c. (g : Brackets) → Atomic p at d e c a n b m g g)

-- A repeat, or none, after an atom of the size v whose codes begin at the place `from`.
pub record Repeated (p : List ℕ) (at : ℕ) (v : Size) (e : ℕ) (c : Size) (a : List ℕ) (n from : ℕ) (b : List ℕ) (m : ℕ) : Type 0 where
  pub x : Repeat
  pub formed : WfRepeat x
  pub text : repeat_text x (drop e p) ≡ drop at p
  pub forward : at ≤ e
  pub inside : e ≤ length p
  pub settled : is_once x ≡ true → NoRepeat (drop e p)
  pub unsigned : unmarked x ≡ true → NoSign (drop e p)
  pub wrote : Rewrote p a n from b m (repeat_of x)
  pub size : (w h : ℕ) (y : Extent) → w ≤ h → SizeOf v w h y → SizeOf c (repeated x w) (max h (repeated x w)) (under_repeat x y)

abbrev pub RepeatRead : List ℕ → ℕ → Size → List ℕ → ℕ → ℕ → List ℕ → ℕ → Result Found Refusal → Type 0
RepeatRead p at v a n from b m = PartRead p (λ e c. Repeated p at v e c a n from b m)
