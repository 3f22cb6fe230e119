-- Classes and counts are read if and only if they are there.
-- Assumes nothing.
use mathlib.Core.Path.{◌≡◌, refl, sym, ap, ◌∙◌}
use Prim.Native.Nat.{ℕ, zero, suc, ◌<◌}
use mathlib.Core.Bool.{Bool, true, false, cond}
use mathlib.Core.List.{List, [], ◌∷◌, ◌++◌}
use native.Mathlib.Omega.{arith}
use lib.ListN.{length}
use lib.Dec.{T, eqb, leb, eqb→eq}
use Rattle.grammar.specs.Grammar.{Byte, plain, escaped, Name, alpha, digit, alnum, upper, lower, xdigit, space, punct, Item, single, range, named, Digits, one, two, Repeat, once, many, more, maybe, exactly, at_least, between, lazily, unmarked, Atom, class, Inside, usual, backslash, closing, opening, caret, dash, inside, marked, byte_text, named_text, item_text, items_text, caret_text, class_text, digits_text, repeat_text, WfInner, WfItem, WfItems, WfDigits, WfRepeat, value, is_digit, counts}
use Rattle.grammar.specs.Code.Reader.{Parsed, found, missing, and_then, or_else, only, strip, read_escaped, inner_by, read_inner, read_named, range_by, read_range, item_by, read_item, is_closing, read_items, read_listed, is_caret, read_class, second_digit, read_digits, read_end, read_second, read_comma, read_count}
use Rattle.grammar.specs.Sets.{names}
use Rattle.grammar.proofs.Texts.{InsideOk, inside_ok, len_items}

true_T : (c : Bool) → c ≡ true → T c
true_T c e = rw e tt

pub same : (b c : ℕ) → eqb b c ≡ true → b ≡ c
same b c e = eqb→eq b c (true_T (eqb b c) e)

-- What is found is P.
abbrev pub Sound : {A : Type 0} → (A → List ℕ → Type 0) → Parsed A → Type 0
Sound P (found a r) = P a r
Sound P missing = Unit {0}

module _ {A : Type 0} (P : A → List ℕ → Type 0) where
  sound_only : (c : Bool) (x : Parsed A) → (c ≡ true → Sound P x) → Sound P (only c x)
  sound_only true x h = h refl
  sound_only false x h = tt

  sound_else : (x y : Parsed A) → Sound P x → Sound P y → Sound P (or_else x y)
  sound_else (found a r) y h k = h
  sound_else missing y h k = k

  sound_then : {B : Type 0} (Q : B → List ℕ → Type 0) (m : Parsed A) (f : A → List ℕ → Parsed B) → Sound P m → ((a : A) (r : List ℕ) → P a r → Sound Q (f a r)) → Sound Q (and_then m f)
  sound_then Q (found a r) f h k = k a r h
  sound_then Q missing f h k = tt

  sound_map : (Q : A → List ℕ → Type 0) (m : Parsed A) → Sound P m → ((a : A) (r : List ℕ) → P a r → Q a r) → Sound Q m
  sound_map Q (found a r) h k = k a r h
  sound_map Q missing h k = tt

  strip_sound : (u : List ℕ) (a : A) (s : List ℕ) → ((r : List ℕ) → u ++ r ≡ s → P a r) → Sound P (strip u a s)
  strip_sound [] a s h = h s refl
  strip_sound (c ∷ u) a [] h = tt
  strip_sound (c ∷ u) a (b ∷ s) h = sound_only (eqb b c) (strip u a s) (λ e. strip_sound u a s (λ r q. h r (rw (same b c e, q) refl)))

abbrev InnerAt : List ℕ → Byte → List ℕ → Type 0
InnerAt s x r = WfInner x × (byte_text x r ≡ s)

abbrev ItemAt : List ℕ → Item → List ℕ → Type 0
ItemAt s i r = WfItem i × (item_text i r ≡ s)

abbrev ItemsAt : List ℕ → List Item → List ℕ → Type 0
ItemsAt s l r = WfItems l × (items_text l (93 ∷ r) ≡ s)

escaped_sound : (s : List ℕ) → Sound (InnerAt (92 ∷ s)) (read_escaped s)
escaped_sound [] = tt
escaped_sound (b ∷ s) = sound_only (InnerAt (92 ∷ b ∷ s)) (marked (inside b)) (found (escaped b) s) (λ e. (e, refl))

inner_sound : (s : List ℕ) → Sound (InnerAt s) (read_inner s)
inner_sound [] = tt
inner_sound (b ∷ s) = go (inside b) refl (inside_ok b)
  where
    go : (k : Inside) → inside b ≡ k → InsideOk b k → Sound (InnerAt (b ∷ s)) (inner_by k b s)
    go usual e h = (e, refl)
    go backslash e h = rw h (escaped_sound s)
    go closing e h = tt
    go opening e h = tt
    go caret e h = tt
    go dash e h = tt

range_sound : (x : Byte) (s : List ℕ) → WfInner x → Sound (ItemAt (byte_text x s)) (read_range x s)
range_sound x [] w = (w, refl)
range_sound x (b ∷ s) w = go (inside b) (inside_ok b)
  where
    go : (k : Inside) → InsideOk b k → Sound (ItemAt (byte_text x (b ∷ s))) (range_by k x (b ∷ s) s)
    go usual h = (w, refl)
    go backslash h = (w, refl)
    go closing h = (w, refl)
    go opening h = (w, refl)
    go caret h = (w, refl)
    go dash h =
        sound_then (InnerAt s) (ItemAt (byte_text x (b ∷ s))) (read_inner s) _ (inner_sound s)
        (λ y r p. sound_only (ItemAt (byte_text x (b ∷ s))) (leb (value x) (value y)) (found (range x y) r) (λ e. ((w, p.0, e), rw (h, p.1) refl)))

named_sound : (l : List Name) (s : List ℕ) → Sound (ItemAt (91 ∷ s)) (read_named l s)
named_sound [] s = tt
named_sound (n ∷ l) s =
    sound_else (ItemAt (91 ∷ s)) (strip (named_text n) (named n) s) (read_named l s)
    (strip_sound (ItemAt (91 ∷ s)) (named_text n) (named n) s (λ r q. (tt, ap (λ u. 91 ∷ u) q)))
    (named_sound l s)

pub item_sound : (s : List ℕ) → Sound (ItemAt s) (read_item s)
item_sound [] = tt
item_sound (b ∷ s) = go (inside b) refl (inside_ok b)
  where
    go : (k : Inside) → inside b ≡ k → InsideOk b k → Sound (ItemAt (b ∷ s)) (item_by k b s)
    go usual e h = range_sound (plain b) s e
    go backslash e h =
        sound_then (InnerAt (92 ∷ s)) (ItemAt (b ∷ s)) (read_escaped s) read_range (escaped_sound s)
        (λ x r p. sound_map (ItemAt (byte_text x r)) (ItemAt (b ∷ s)) (read_range x r) (range_sound x r p.0) (λ i r' q. (q.0, q.1 ∙ p.1 ∙ rw h refl)))
    go closing e h = tt
    go opening e h = rw h (named_sound names s)
    go caret e h = tt
    go dash e h = tt

closing_byte : (b : ℕ) (k : Inside) → InsideOk b k → is_closing k ≡ true → b ≡ 93
closing_byte b usual h e = let z : ◌≡◌ {A = ℕ} 0 1 = cc in omega arith
closing_byte b backslash h e = let z : ◌≡◌ {A = ℕ} 0 1 = cc in omega arith
closing_byte b closing h e = h
closing_byte b opening h e = let z : ◌≡◌ {A = ℕ} 0 1 = cc in omega arith
closing_byte b caret h e = let z : ◌≡◌ {A = ℕ} 0 1 = cc in omega arith
closing_byte b dash h e = let z : ◌≡◌ {A = ℕ} 0 1 = cc in omega arith

caret_byte : (b : ℕ) (k : Inside) → InsideOk b k → is_caret k ≡ true → b ≡ 94
caret_byte b usual h e = let z : ◌≡◌ {A = ℕ} 0 1 = cc in omega arith
caret_byte b backslash h e = let z : ◌≡◌ {A = ℕ} 0 1 = cc in omega arith
caret_byte b closing h e = let z : ◌≡◌ {A = ℕ} 0 1 = cc in omega arith
caret_byte b opening h e = let z : ◌≡◌ {A = ℕ} 0 1 = cc in omega arith
caret_byte b caret h e = h
caret_byte b dash h e = let z : ◌≡◌ {A = ℕ} 0 1 = cc in omega arith

items_sound : (f : ℕ) (s : List ℕ) → Sound (ItemsAt s) (read_items f s)
unfolding read_items
items_sound zero s = tt
items_sound (suc f) [] = tt
items_sound (suc f) (b ∷ s) = go (items_sound f) (is_closing (inside b)) refl
  where
    go : ((s : List ℕ) → Sound (ItemsAt s) (read_items f s)) → (c : Bool) → is_closing (inside b) ≡ c → Sound (ItemsAt (b ∷ s)) (cond c (found [] s) (and_then (read_item (b ∷ s)) (λ x r. and_then (read_items f r) (λ l r'. found (x ∷ l) r'))))
    go ih true e = (tt, rw (closing_byte b (inside b) (inside_ok b) e) refl)
    go ih false e =
        sound_then (ItemAt (b ∷ s)) (ItemsAt (b ∷ s)) (read_item (b ∷ s)) _ (item_sound (b ∷ s))
        (λ x r p. sound_then (ItemsAt r) (ItemsAt (b ∷ s)) (read_items f r) _ (ih r) (λ l r' q. ((p.0, q.0), rw q.1 p.1)))

-- A class from its `[` on.
abbrev pub ClassIs : List ℕ → Atom → List ℕ → Type 0
ClassIs s a r = (c : Bool) × (x : Item) × (l : List Item) × (a ≡ class c x l) × WfItem x × WfItems l × (class_text c x l r ≡ s)

listed_sound : (c : Bool) (s : List ℕ) → Sound (ClassIs (91 ∷ caret_text c s)) (read_listed c s)
listed_sound c s =
    sound_then (ItemAt s) (ClassIs (91 ∷ caret_text c s)) (read_item s) _ (item_sound s)
    (λ x r p. sound_then (ItemsAt r) (ClassIs (91 ∷ caret_text c s)) (read_items (length r) r) _ (items_sound (length r) r)
    (λ l r' q. (c, x, l, refl, p.0, q.0, rw (q.1, p.1) refl)))

pub class_sound : (s : List ℕ) → Sound (ClassIs (91 ∷ s)) (read_class s)
class_sound [] = tt
class_sound (b ∷ s) = go (is_caret (inside b)) refl
  where
    go : (c : Bool) → is_caret (inside b) ≡ c → Sound (ClassIs (91 ∷ b ∷ s)) (cond c (read_listed true s) (read_listed false (b ∷ s)))
    go true e = rw (caret_byte b (inside b) (inside_ok b) e) (listed_sound true s)
    go false e = listed_sound false (b ∷ s)

-- The other way round.
in_92 : inside 92 ≡ backslash
unfolding inside
in_92 = refl

in_93 : inside 93 ≡ closing
unfolding inside
in_93 = refl

in_91 : inside 91 ≡ opening
unfolding inside
in_91 = refl

in_94 : inside 94 ≡ caret
unfolding inside
in_94 = refl

in_45 : inside 45 ≡ dash
unfolding inside
in_45 = refl

inner_complete : (x : Byte) (s : List ℕ) → WfInner x → read_inner (byte_text x s) ≡ found x s
inner_complete (plain b) s e = rw e refl
inner_complete (escaped b) s e = rw (in_92, e) refl

item_byte : (x : Byte) (s : List ℕ) → WfInner x → read_item (byte_text x s) ≡ read_range x s
item_byte (plain b) s e = rw e refl
item_byte (escaped b) s e = rw (in_92, e) refl

abbrev is_dash : Inside → Bool
is_dash usual = false
is_dash backslash = false
is_dash closing = false
is_dash opening = false
is_dash caret = false
is_dash dash = true

abbrev begins_item : Inside → Bool
begins_item usual = true
begins_item backslash = true
begins_item closing = false
begins_item opening = true
begins_item caret = false
begins_item dash = false

abbrev NoDash : List ℕ → Type 0
NoDash [] = Unit {0}
NoDash (b ∷ s) = is_dash (inside b) ≡ false

abbrev Begins : List ℕ → Type 0
Begins [] = ⊥
Begins (b ∷ s) = begins_item (inside b) ≡ true

abbrev Began : Inside → Type 0
Began k = (is_dash k ≡ false) × (is_closing k ≡ false) × (is_caret k ≡ false)

began : (k : Inside) → begins_item k ≡ true → Began k
began usual e = (refl, refl, refl)
began backslash e = (refl, refl, refl)
began closing e = (refl, sym e, refl)
began opening e = (refl, refl, refl)
began caret e = (refl, refl, sym e)
began dash e = (sym e, refl, refl)

begins_byte : (x : Byte) (s : List ℕ) → WfInner x → Begins (byte_text x s)
begins_byte (plain b) s e = rw e refl
begins_byte (escaped b) s e = rw in_92 refl

begins_item_lem : (i : Item) (s : List ℕ) → WfItem i → Begins (item_text i s)
begins_item_lem (single x) s w = begins_byte x s w
begins_item_lem (range x y) s w = begins_byte x (45 ∷ byte_text y s) w.0
begins_item_lem (named n) s w = rw in_91 refl

no_dash : (s : List ℕ) → Begins s → NoDash s
no_dash [] h = tt
no_dash (b ∷ s) h = (began (inside b) h).0

no_dash_items : (l : List Item) (s : List ℕ) → WfItems l → NoDash (items_text l (93 ∷ s))
no_dash_items [] s w = rw in_93 refl
no_dash_items (x ∷ l) s w = no_dash (item_text x (items_text l (93 ∷ s))) (begins_item_lem x (items_text l (93 ∷ s)) w.0)

range_single : (x : Byte) (s : List ℕ) → NoDash s → read_range x s ≡ found (single x) s
range_single x [] h = refl
range_single x (b ∷ s) h = go (inside b) h
  where
    go : (k : Inside) → is_dash k ≡ false → range_by k x (b ∷ s) s ≡ found (single x) (b ∷ s)
    go usual e = refl
    go backslash e = refl
    go closing e = refl
    go opening e = refl
    go caret e = refl
    go dash e = let z : ◌≡◌ {A = ℕ} 0 1 = cc in absurd (omega arith)

item_complete : (i : Item) (s : List ℕ) → WfItem i → NoDash s → read_item (item_text i s) ≡ found i s
item_complete (single x) s w h = item_byte x s w ∙ range_single x s h
item_complete (range x y) s w h = item_byte x (45 ∷ byte_text y s) w.0 ∙ rw (in_45, inner_complete y s w.1, w.2) refl
item_complete (named alpha) s w h = rw in_91 refl
item_complete (named digit) s w h = rw in_91 refl
item_complete (named alnum) s w h = rw in_91 refl
item_complete (named upper) s w h = rw in_91 refl
item_complete (named lower) s w h = rw in_91 refl
item_complete (named xdigit) s w h = rw in_91 refl
item_complete (named space) s w h = rw in_91 refl
item_complete (named punct) s w h = rw in_91 refl

items_next : (f : ℕ) (s : List ℕ) → Begins s → read_items (suc f) s ≡ and_then (read_item s) (λ x r. and_then (read_items f r) (λ l r'. found (x ∷ l) r'))
unfolding read_items
items_next f [] h = absurd h
items_next f (b ∷ s) h = rw (began (inside b) h).1 refl

items_complete : (l : List Item) (s : List ℕ) (f : ℕ) → WfItems l → length l < f → read_items f (items_text l (93 ∷ s)) ≡ found l s
unfolding read_items
items_complete [] s zero w h = absurd (omega arith)
items_complete [] s (suc f) w h = rw in_93 refl
items_complete (x ∷ l) s zero w h = absurd (omega arith)
items_complete (x ∷ l) s (suc f) w h =
    items_next f (item_text x (items_text l (93 ∷ s))) (begins_item_lem x (items_text l (93 ∷ s)) w.0)
    ∙ rw (item_complete x (items_text l (93 ∷ s)) w.0 (no_dash_items l s w.1), items_complete l s f w.1 (omega arith)) refl

listed_complete : (c : Bool) (x : Item) (l : List Item) (s : List ℕ) → WfItem x → WfItems l → read_listed c (item_text x (items_text l (93 ∷ s))) ≡ found (class c x l) s
listed_complete c x l s w v =
    rw (item_complete x (items_text l (93 ∷ s)) w (no_dash_items l s v), items_complete l s (length (items_text l (93 ∷ s))) v (omega (arith, len_items l (93 ∷ s)))) refl

plain_class : (s : List ℕ) → Begins s → read_class s ≡ read_listed false s
plain_class [] h = absurd h
plain_class (b ∷ s) h = rw (began (inside b) h).2 refl

pub class_complete : (c : Bool) (x : Item) (l : List Item) (s : List ℕ) → WfItem x → WfItems l → read_class (caret_text c (item_text x (items_text l (93 ∷ s)))) ≡ found (class c x l) s
class_complete true x l s w v = rw in_94 (listed_complete true x l s w v)
class_complete false x l s w v = plain_class (item_text x (items_text l (93 ∷ s))) (begins_item_lem x (items_text l (93 ∷ s)) w) ∙ listed_complete false x l s w v

-- Counts.
abbrev DigitsAt : List ℕ → Digits → List ℕ → Type 0
DigitsAt s m r = WfDigits m × (digits_text m r ≡ s)

abbrev pub CountIs : List ℕ → Repeat → List ℕ → Type 0
CountIs s x r = WfRepeat x × (unmarked x ≡ true) × (repeat_text x r ≡ s)

digits_sound : (s : List ℕ) → Sound (DigitsAt s) (read_digits s)
digits_sound [] = tt
digits_sound (b ∷ s) = sound_only (DigitsAt (b ∷ s)) (is_digit b) (second_digit b s) (λ e. second s e)
  where
    pair : (c : ℕ) (s : List ℕ) (d : Bool) → is_digit b ≡ true → is_digit c ≡ d → Sound (DigitsAt (b ∷ c ∷ s)) (cond d (found (two b c) s) (found (one b) (c ∷ s)))
    pair c s true e h = ((e, h), refl)
    pair c s false e h = (e, refl)

    second : (s : List ℕ) → is_digit b ≡ true → Sound (DigitsAt (b ∷ s)) (second_digit b s)
    second [] e = (e, refl)
    second (c ∷ s) e = pair c s (is_digit c) e refl

end_sound : (P : Repeat → List ℕ → Type 0) (x : Repeat) (s : List ℕ) → ((r : List ℕ) → counts x ≡ true → 125 ∷ r ≡ s → P x r) → Sound P (read_end x s)
end_sound P x [] h = tt
end_sound P x (b ∷ s) h = sound_only P (eqb b 125) (only (counts x) (found x s)) (λ e. sound_only P (counts x) (found x s) (λ d. h s d (rw (same b 125 e) refl)))

pub count_sound : (s : List ℕ) → Sound (CountIs (123 ∷ s)) (read_count s)
count_sound s = sound_then (DigitsAt s) P (read_digits s) _ (digits_sound s) (λ m r p. sound_else P (read_end (exactly m) r) (read_comma m r) (first m r p) (comma m r p))
  where
    P : Repeat → List ℕ → Type 0
    P = CountIs (123 ∷ s)

    first : (m : Digits) (r : List ℕ) → DigitsAt s m r → Sound P (read_end (exactly m) r)
    first m r p = end_sound P (exactly m) r (λ r' d q. ((p.0, d), refl, rw (q, p.1) refl))

    second : (m : Digits) (r : List ℕ) → WfDigits m → digits_text m (44 ∷ r) ≡ s → Sound P (read_second m r)
    second m r w p =
        sound_else P (and_then (read_digits r) (λ n r'. read_end (between m n) r')) (read_end (at_least m) r)
        (sound_then (DigitsAt r) P (read_digits r) _ (digits_sound r) (λ n r' q. end_sound P (between m n) r' (λ t d u. ((w, q.0, d), refl, rw (u, q.1, p) refl))))
        (end_sound P (at_least m) r (λ r' d q. ((w, d), refl, rw (q, p) refl)))

    comma : (m : Digits) (r : List ℕ) → DigitsAt s m r → Sound P (read_comma m r)
    comma m [] p = tt
    comma m (b ∷ r) p = sound_only P (eqb b 44) (read_second m r) (λ e. second m r p.0 (rw (← same b 44 e) p.1))

abbrev NoDigit : List ℕ → Type 0
NoDigit [] = Unit {0}
NoDigit (b ∷ s) = is_digit b ≡ false

digits_complete : (m : Digits) (s : List ℕ) → WfDigits m → NoDigit s → read_digits (digits_text m s) ≡ found m s
digits_complete (one b) [] w h = rw w refl
digits_complete (one b) (c ∷ s) w h = rw (w, h) refl
digits_complete (two b c) s w h = rw (w.0, w.1) refl

pub count_complete : (x : Repeat) (s : List ℕ) → WfRepeat x → (t : List ℕ) → repeat_text x s ≡ 123 ∷ t → unmarked x ≡ true → read_count t ≡ found x s
count_complete once s w t e h = let z : ◌≡◌ {A = ℕ} 0 1 = cc in absurd (omega arith)
count_complete many s w t e h = let z : ◌≡◌ {A = ℕ} 42 123 = cc in absurd (omega arith)
count_complete more s w t e h = let z : ◌≡◌ {A = ℕ} 43 123 = cc in absurd (omega arith)
count_complete maybe s w t e h = let z : ◌≡◌ {A = ℕ} 63 123 = cc in absurd (omega arith)
count_complete (exactly m) s w t e h =
    let u : digits_text m (125 ∷ s) ≡ t = cc in
    rw (← u, digits_complete m (125 ∷ s) w.0 refl, w.1) refl
count_complete (at_least m) s w t e h =
    let u : digits_text m (44 ∷ 125 ∷ s) ≡ t = cc in
    rw (← u, digits_complete m (44 ∷ 125 ∷ s) w.0 refl, w.1) refl
count_complete (between m n) s w t e h =
    let u : digits_text m (44 ∷ digits_text n (125 ∷ s)) ≡ t = cc in
    rw (← u, digits_complete m (44 ∷ digits_text n (125 ∷ s)) w.0 refl, digits_complete n (125 ∷ s) w.1 refl, w.2) refl
count_complete (lazily x) s w t e h = let z : ◌≡◌ {A = ℕ} 0 1 = cc in absurd (omega arith)
