-- The tables of named sets (request 9): each passes its checks or fails at one place, each pattern has one right answer with it, and with the fixed table everything is what
-- it was.
-- Assumes nothing.
use mathlib.Core.Path.{◌≡◌, refl, sym, ap, ap₂, ◌∙◌}
use mathlib.Core.Logic.{◌⊎◌, inl, inr, ◌↔◌}
use Prim.Native.Nat.{ℕ, zero, suc, ◌+◌, ◌≤◌, ◌<◌}
use mathlib.Core.Bool.{Bool, true, false, ◌&&◌, ◌||◌, true≢false}
use mathlib.Core.List.{List, [], ◌∷◌}
use native.Mathlib.Omega.{arith}
use native.Mathlib.Decide.{ℕ_discrete, dec_lt}
use lib.ListN.{length, get_or}
use lib.Dec.{T}
use Rattle.theory.specs.Pattern.{leaf, alt, number}
use Rattle.theory.proofs.Tests.{T_true, and_split, either}
use Rattle.grammar.specs.Grammar.{Name, alpha, digit, alnum, upper, lower, xdigit, space, punct, Item, single, range, named, Alternation, last, or, Sequence, nothing, part, Atom, byte, dot, class, group}
use Rattle.grammar.specs.Limits.{Reads}
use Rattle.grammar.specs.Before.{Before}
use Rattle.grammar.specs.Sets.{in_posix, names, entry, set_table, in_named, in_item, in_items, negated, in_class}
use Rattle.grammar.specs.Brackets.{brackets_within, brackets_atom}
use Rattle.grammar.specs.Names.{EachItem, EachName, EachWithin, EachAtom, Unnamed}
use Rattle.grammar.specs.WriteOut.{chain, repeat_of, bracketed, shape, parts, shape_atom, write_out}
use Rattle.grammar.specs.Refusals.{Fault, too_long, wrong, too_heavy, Wrong, unopened, bare, unready_sign, unready_count, escape_last, escape_ordinary, no_class, no_count, too_deep, left_open, Answer, accepted, refused, Right}
use Rattle.grammar.specs.Loaded.{entries, is_either, within, apart, passes, Passes, Fails, unfit, at_entry, Accepts, Refuses, by_sets, by_pattern, Answers}
use Rattle.grammar.proofs.Sets.{table_entry, named_posix, bytes_same}
use Rattle.grammar.specs.Code.Reader.{read}
use Rattle.grammar.proofs.Sound.{read_right}
use Rattle.grammar.proofs.Right.{unambiguous, one_fault, either_way, not_both}

either_one : (c a d : Bool) → T (is_either c a d) → c ≡ (a || d)
either_one true true d t = refl
either_one true false true t = refl
either_one true false false t = absurd t
either_one false true d t = absurd t
either_one false false true t = absurd t
either_one false false false t = refl

inside : (a c : Bool) → T (within a c) → a ≡ true → c ≡ true
inside true c t e = T_true c t
inside false c t e = absurd (true≢false (sym e))

parted : (a c : Bool) → T (apart a c) → (a && c) ≡ false
parted true true t = absurd t
parted true false t = refl
parted false c t = refl

all_of : (a b c d e f g : Bool) → T (a && (b && (c && (d && (e && (f && g)))))) → T a × T b × T c × T d × T e × T f × T g
all_of true true true true true true g t = (tt, tt, tt, tt, tt, tt, t)
all_of true true true true true false g t = absurd t
all_of true true true true false f g t = absurd t
all_of true true true false e f g t = absurd t
all_of true true false d e f g t = absurd t
all_of true false c d e f g t = absurd t
all_of false b c d e f g t = absurd t

-- What a table that passes has: each sentence of the request, of every byte.
module _ {loaded : List ℕ} (x : Passes loaded) (b : ℕ) (h : b < entries) where
  abbrev lies : Name → Bool
  lies n = in_named loaded n b

  facts : T (is_either (lies alnum) (lies alpha) (lies digit)) × T (within (lies upper) (lies alpha)) × T (within (lies lower) (lies alpha)) × T (within (lies digit) (lies xdigit))
      × T (apart (lies alpha) (lies digit)) × T (apart (lies punct) (lies alnum)) × T (apart (lies punct) (lies space))
  facts =
      all_of (is_either (lies alnum) (lies alpha) (lies digit)) (within (lies upper) (lies alpha)) (within (lies lower) (lies alpha)) (within (lies digit) (lies xdigit))
      (apart (lies alpha) (lies digit)) (apart (lies punct) (lies alnum)) (apart (lies punct) (lies space)) (rw (x.each b h) tt)

  pub alnum_either : lies alnum ≡ (lies alpha || lies digit)
  alnum_either = either_one (lies alnum) (lies alpha) (lies digit) facts.0

  pub upper_alpha : lies upper ≡ true → lies alpha ≡ true
  upper_alpha = inside (lies upper) (lies alpha) facts.1

  pub lower_alpha : lies lower ≡ true → lies alpha ≡ true
  lower_alpha = inside (lies lower) (lies alpha) facts.2

  pub digit_xdigit : lies digit ≡ true → lies xdigit ≡ true
  digit_xdigit = inside (lies digit) (lies xdigit) facts.3

  pub alpha_digit : (lies alpha && lies digit) ≡ false
  alpha_digit = parted (lies alpha) (lies digit) facts.4

  pub punct_alnum : (lies punct && lies alnum) ≡ false
  punct_alnum = parted (lies punct) (lies alnum) facts.5

  pub punct_space : (lies punct && lies space) ≡ false
  punct_space = parted (lies punct) (lies space) facts.6

-- The lowest failing entry below n, if there is one.
abbrev PassBelow : List ℕ → ℕ → Type 0
PassBelow loaded n = (b : ℕ) → b < n → passes (get_or loaded b 0) ≡ true

pass_more : (loaded : List ℕ) (n : ℕ) → PassBelow loaded n → passes (get_or loaded n 0) ≡ true → PassBelow loaded (suc n)
pass_more loaded n l e b h =
    elim (ℕ_discrete b n) [
      | yes q ↦ rw q e
      | no q ↦ l b (omega arith)
    ]

lowest : (loaded : List ℕ) (n : ℕ) → PassBelow loaded n ⊎ ((q : ℕ) × (q < n) × (passes (get_or loaded q 0) ≡ false) × PassBelow loaded q)
lowest loaded zero = inl λ b h. absurd (omega arith)
lowest loaded (suc n) = either (λ l. here l (passes (get_or loaded n 0)) refl) (λ (q, h, f, l). inr (q, omega arith, f, l)) (lowest loaded n)
  where
    here : PassBelow loaded n → (c : Bool) → passes (get_or loaded n 0) ≡ c → PassBelow loaded (suc n) ⊎ ((q : ℕ) × (q < suc n) × (passes (get_or loaded q 0) ≡ false) × PassBelow loaded q)
    here l true e = inl (pass_more loaded n l e)
    here l false e = inr (n, omega arith, e, l)

-- EVERY TABLE PASSES OR FAILS,
pub passes_or_fails : (loaded : List ℕ) → Passes loaded ⊎ ((q : ℕ) × Fails loaded q)
passes_or_fails loaded =
    elim (ℕ_discrete (length loaded) entries) [
      | yes e ↦ either (λ l. inl (record { long = e; each = l })) (λ (q, h, f, l). inr (q, at_entry e h f l)) (lowest loaded entries)
      | no e ↦ inr (entries, unfit e)
    ]

-- NOT BOTH,
pub passes_not_fails : {loaded : List ℕ} {q : ℕ} → Passes loaded → Fails loaded q → ⊥
passes_not_fails x (unfit e) = e x.long
passes_not_fails x (at_entry {q = q} e h f l) = true≢false (sym (x.each q h) ∙ f)

-- AND AT ONE PLACE.
pub one_place : {loaded : List ℕ} {q k : ℕ} → Fails loaded q → Fails loaded k → q ≡ k
one_place (unfit e) (unfit f) = refl
one_place (unfit e) (at_entry f g h l) = absurd (e f)
one_place (at_entry e g h l) (unfit f) = absurd (f e)
one_place (at_entry {q = q} e g f l) (at_entry {q = k} i j m n) =
    elim (dec_lt q k) [
      | yes a ↦ absurd (true≢false (sym (n q a) ∙ f))
      | no a ↦ elim (dec_lt k q) [
        | yes b ↦ absurd (true≢false (sym (l k b) ∙ m))
        | no b ↦ omega arith
      ]
    ]

-- ONE ANSWER IS RIGHT for each table and each pattern: there is one,
pub accepts_or_refuses : (loaded p : List ℕ) → ((t : Alternation) × Accepts loaded p t) ⊎ ((n : ℕ) × (q : ℕ) × Refuses loaded p n q)
accepts_or_refuses loaded p =
    either (λ x. either (λ (t, r). inl (t, record { sets = x; reads = r })) (λ (n, q, f). inr (n, q, by_pattern x f)) (either_way p)) (λ (q, f). inr (14, q, by_sets f)) (passes_or_fails loaded)

-- accepted with one tree,
pub one_tree : (loaded p : List ℕ) (t u : Alternation) → Accepts loaded p t → Accepts loaded p u → t ≡ u
one_tree loaded p t u h k = unambiguous p t u h.reads k.reads

-- refused with one number and one place,
pub one_refusal : (loaded p : List ℕ) (m n i j : ℕ) → Refuses loaded p m i → Refuses loaded p n j → (m ≡ n) × (i ≡ j)
one_refusal loaded p m n i j (by_sets f) (by_sets g) = (refl, one_place f g)
one_refusal loaded p m n i j (by_sets f) (by_pattern x g) = absurd (passes_not_fails x f)
one_refusal loaded p m n i j (by_pattern x f) (by_sets g) = absurd (passes_not_fails x g)
one_refusal loaded p m n i j (by_pattern x f) (by_pattern y g) = one_fault p m n i j f g

-- and not both.
pub accepts_not_refuses : (loaded p : List ℕ) (t : Alternation) (n q : ℕ) → Accepts loaded p t → Refuses loaded p n q → ⊥
accepts_not_refuses loaded p t n q h (by_sets f) = passes_not_fails h.sets f
accepts_not_refuses loaded p t n q h (by_pattern x f) = not_both p t n q h.reads f

pub one_answer : (loaded p : List ℕ) (a b : Answer) → Answers loaded p a → Answers loaded p b → a ≡ b
one_answer loaded p (accepted t) (accepted u) h k = ap accepted (one_tree loaded p t u h k)
one_answer loaded p (accepted t) (refused n q) h k = absurd (accepts_not_refuses loaded p t n q h k)
one_answer loaded p (refused n q) (accepted t) h k = absurd (accepts_not_refuses loaded p t n q k h)
one_answer loaded p (refused m i) (refused n j) h k = let (e, f) = one_refusal loaded p m n i j h k in ap₂ refused e f

-- It is found from the two decisions.
pub answered : (loaded p : List ℕ) → (a : Answer) × Answers loaded p a
answered loaded p = either (λ (t, h). (accepted t, h)) (λ (n, q, h). (refused n q, h)) (accepts_or_refuses loaded p)

pub answered_is : (loaded p : List ℕ) (a : Answer) → Answers loaded p a → (answered loaded p).0 ≡ a
answered_is loaded p a h = one_answer loaded p (answered loaded p).0 a (answered loaded p).1 h

-- The pattern's own refusals are 1 to 8.
wrong_number : {o : Before} {s : List ℕ} {n : ℕ} → Wrong o s n → n ≤ 8
wrong_number (unopened s e) = omega arith
wrong_number (bare b s e) = omega arith
wrong_number (unready_sign b x s e f g) = omega arith
wrong_number (unready_count s e) = omega arith
wrong_number escape_last = omega arith
wrong_number (escape_ordinary b s e) = omega arith
wrong_number (no_class s e) = omega arith
wrong_number (no_count s e f) = omega arith
wrong_number (too_deep s e) = omega arith
wrong_number (left_open e) = omega arith

pub fault_number : {p : List ℕ} {n q : ℕ} → Fault p n q → n ≤ 8
fault_number (too_long h e f) = omega arith
fault_number (wrong h o s w e k f) = wrong_number k
fault_number (too_heavy h t w i e j k f) = omega arith

pub refusal_number : {loaded p : List ℕ} {n q : ℕ} → Refuses loaded p n q → (n ≤ 8) ⊎ (n ≡ 14)
refusal_number (by_sets f) = inr refl
refusal_number (by_pattern x f) = inl (fault_number f)

-- 14 EXACTLY IF THE TABLE FAILS, at that place, whatever the pattern is.
pub fourteen_exactly : (loaded p : List ℕ) (q : ℕ) → Refuses loaded p 14 q ↔ Fails loaded q
fourteen_exactly loaded p q = (λ h. go h refl, by_sets)
  where
    go : {n : ℕ} → Refuses loaded p n q → n ≡ 14 → Fails loaded q
    go (by_sets f) e = f
    go (by_pattern x f) e = absurd (omega (arith, fault_number f))

-- With a table that passes the pattern alone decides.
module _ {loaded : List ℕ} (x : Passes loaded) (p : List ℕ) where
  pub passing_accepts : {t : Alternation} → Accepts loaded p t ↔ Reads p t
  passing_accepts = (λ h. h.reads, λ r. record { sets = x; reads = r })

  pub passing_refuses : {n q : ℕ} → Refuses loaded p n q ↔ Fault p n q
  passing_refuses = (go, by_pattern x)
    where
      go : {n q : ℕ} → Refuses loaded p n q → Fault p n q
      go (by_sets f) = absurd (passes_not_fails x f)
      go (by_pattern y f) = f

  pub passing_answers : (a : Answer) → Answers loaded p a ↔ Right p a
  passing_answers (accepted t) = passing_accepts
  passing_answers (refused n q) = passing_refuses

-- The fixed table passes: computed, entry by entry.
passes_below : ℕ → Bool
passes_below zero = true
passes_below (suc d) = passes (entry names d) && passes_below d

below_at : (d b : ℕ) → T (passes_below d) → b < d → passes (entry names b) ≡ true
unfolding passes_below
below_at zero b t h = absurd (omega arith)
below_at (suc d) b t h =
    let (here, below) = and_split (passes (entry names d)) (passes_below d) t in
    elim (ℕ_discrete b d) [
      | yes q ↦ rw q (T_true (passes (entry names d)) here)
      | no q ↦ below_at d b below (omega arith)
    ]

all_below : T (passes_below 256)
unfolding passes_below
all_below = tt

fixed_length : length set_table ≡ entries
unfolding set_table
fixed_length = refl

-- WITH THE FIXED TABLE EVERYTHING IS WHAT IT WAS: it passes,
pub fixed_passes : Passes set_table
fixed_passes = record { long = fixed_length; each = λ b h. rw (table_entry b h) (below_at 256 b all_below h) }

-- the answer to a pattern is that of paper 01,
pub fixed_answers : (p : List ℕ) (a : Answer) → Answers set_table p a ↔ Right p a
fixed_answers = passing_answers fixed_passes

pub fixed_read : (p : List ℕ) → (answered set_table p).0 ≡ read p
fixed_read p = answered_is set_table p (read p) ((fixed_answers p (read p)).1 (read_right p))

-- What holds of each named set in a pattern: of every name, and of what follows from it.
module _ (P Q : Name → Type 0) (f : (n : Name) → P n → Q n) where
  item_each : (l : List Item) → EachItem P l → EachItem Q l
  item_each [] h = tt
  item_each (single x ∷ l) h = item_each l h
  item_each (range x y ∷ l) h = item_each l h
  item_each (named n ∷ l) h = (f n h.0, item_each l h.1)

  mutual
    unfolding EachName

    name_each : (t : Alternation) → EachName P t → EachName Q t
    name_each (last q) h = within_each q h
    name_each (or q t) h = (within_each q h.0, name_each t h.1)

    within_each : (q : Sequence) → EachWithin P q → EachWithin Q q
    within_each nothing h = tt
    within_each (part a r q) h = (atom_each a h.0, within_each q h.1)

    atom_each : (a : Atom) → EachAtom P a → EachAtom Q a
    atom_each (byte x) h = tt
    atom_each dot h = tt
    atom_each (class c x l) h = item_each (x ∷ l) h
    atom_each (group t) h = name_each t h

module _ (P : Name → Type 0) (f : (n : Name) → P n) where
  item_every : (l : List Item) → EachItem P l
  item_every [] = tt
  item_every (single x ∷ l) = item_every l
  item_every (range x y ∷ l) = item_every l
  item_every (named n ∷ l) = (f n, item_every l)

  mutual
    unfolding EachName

    name_every : (t : Alternation) → EachName P t
    name_every (last q) = within_every q
    name_every (or q t) = (within_every q, name_every t)

    within_every : (q : Sequence) → EachWithin P q
    within_every nothing = tt
    within_every (part a r q) = (atom_every a, within_every q)

    atom_every : (a : Atom) → EachAtom P a
    atom_every (byte x) = tt
    atom_every dot = tt
    atom_every (class c x l) = item_every (x ∷ l)
    atom_every (group t) = name_every t

-- Two families of named sets write out the same if those that stand in the pattern have the same bytes.
module _ (f g : Name → ℕ → Bool) where
  abbrev Same : Name → Type 0
  Same n = (b : ℕ) → b < 256 → f n b ≡ g n b

  items_same : (l : List Item) → EachItem Same l → (b : ℕ) → b < 256 → in_items f l b ≡ in_items g l b
  items_same [] s b h = refl
  items_same (single x ∷ l) s b h = ap (λ c. in_item f (single x) b || c) (items_same l s b h)
  items_same (range x y ∷ l) s b h = ap (λ c. in_item f (range x y) b || c) (items_same l s b h)
  items_same (named n ∷ l) s b h = ap₂ ◌||◌ (s.0 b h) (items_same l s.1 b h)

  mutual
    unfolding shape EachName

    shape_same : (t : Alternation) (n : ℕ) → EachName Same t → shape f t n ≡ shape g t n
    shape_same (last q) n s = ap chain (parts_same q n s)
    shape_same (or q t) n s = ap₂ (λ l y. alt (chain l) y) (parts_same q n s.0) (shape_same t (n + brackets_within q) s.1)

    parts_same : (q : Sequence) (n : ℕ) → EachWithin Same q → parts f q n ≡ parts g q n
    parts_same nothing n s = refl
    parts_same (part a r q) n s = ap₂ (λ x l. repeat_of r x ∷ l) (atom_same a n s.0) (parts_same q (n + brackets_atom a) s.1)

    atom_same : (a : Atom) (n : ℕ) → EachAtom Same a → shape_atom f a n ≡ shape_atom g a n
    atom_same (byte x) n s = refl
    atom_same dot n s = refl
    atom_same (class c x l) n s = ap (leaf 0) (bytes_same (in_class f c (x ∷ l)) (in_class g c (x ∷ l)) λ b h. ap (negated c) (items_same (x ∷ l) s b h))
    atom_same (group t) n s = ap (bracketed n) (shape_same t (suc n) s)

-- AND WHAT IS WRITTEN OUT has paper 01's sets, "as in the POSIX locale over ASCII".
pub fixed_writes : (t : Alternation) → write_out set_table t ≡ number 0 (shape in_posix t 0)
unfolding write_out
fixed_writes t = ap (number 0) (shape_same (in_named set_table) in_posix t 0 (name_every (Same (in_named set_table) in_posix) named_posix t))

-- A PATTERN IN WHICH NO NAMED SET STANDS IS WRITTEN OUT THE SAME WITH EVERY TABLE: its spans, records and verdicts do not move.
pub unnamed_writes : (loaded : List ℕ) (t : Alternation) → Unnamed t → write_out loaded t ≡ write_out set_table t
unfolding write_out
unnamed_writes loaded t h = ap (number 0) (shape_same (in_named loaded) (in_named set_table) t 0 (name_each (λ n. ⊥) (Same (in_named loaded) (in_named set_table)) (λ n x. absurd x) t h))
