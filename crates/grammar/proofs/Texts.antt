-- The parts that bytes have, and lengths of texts.
-- Assumes nothing.
use mathlib.Core.Path.{◌≡◌, refl}
use Prim.Native.Nat.{ℕ, suc, ◌+◌, ◌≤◌}
use mathlib.Core.Bool.{Bool, true, false, cond, true≢false}
use mathlib.Core.List.{List, [], ◌∷◌}
use native.Mathlib.Omega.{arith}
use lib.ListN.{length}
use lib.Dec.{T, eqb, eqb→eq}
use Rattle.grammar.specs.Grammar.{Byte, plain, escaped, alpha, digit, alnum, upper, lower, xdigit, space, punct, Item, single, range, named, Digits, one, two, Repeat, once, many, more, maybe, exactly, at_least, between, lazily, unmarked, Kind, ordinary, backslash, bar, opener, closer, bracket, brace, period, stray, sign, kind, special, Inside, usual, closing, opening, caret, dash, inside, byte_text, item_text, items_text, digits_text, repeat_text, WfRepeat}
use Rattle.grammar.specs.Before.{is_once}

true_T : (c : Bool) → c ≡ true → T c
true_T c e = rw e tt

pick : {A : Type 0} (P : A → Type 0) (b c : ℕ) (x y : A) → (b ≡ c → P x) → P y → P (cond (eqb b c) x y)
pick P b c x y f g = go (eqb b c) (eqb→eq b c)
  where
    go : (d : Bool) → (T d → b ≡ c) → P (cond d x y)
    go true h = f (h tt)
    go false h = g

-- What a byte's part says of the byte.
abbrev pub KindOk : ℕ → Kind → Type 0
KindOk b ordinary = Unit {0}
KindOk b backslash = b ≡ 92
KindOk b bar = b ≡ 124
KindOk b opener = b ≡ 40
KindOk b closer = b ≡ 41
KindOk b bracket = b ≡ 91
KindOk b brace = b ≡ 123
KindOk b period = b ≡ 46
KindOk b stray = Unit {0}
KindOk b (sign r) = WfRepeat r × (unmarked r ≡ true) × ((s : List ℕ) → repeat_text r s ≡ b ∷ s)

pub kind_ok : (b : ℕ) → KindOk b (kind b)
unfolding kind
kind_ok b =
    pick (KindOk b) b 92 backslash _ (λ e. e)
    (pick (KindOk b) b 124 bar _ (λ e. e)
    (pick (KindOk b) b 40 opener _ (λ e. e)
    (pick (KindOk b) b 41 closer _ (λ e. e)
    (pick (KindOk b) b 91 bracket _ (λ e. e)
    (pick (KindOk b) b 123 brace _ (λ e. e)
    (pick (KindOk b) b 42 (sign many) _ (λ e. (tt, refl, λ s. rw e refl))
    (pick (KindOk b) b 43 (sign more) _ (λ e. (tt, refl, λ s. rw e refl))
    (pick (KindOk b) b 63 (sign maybe) _ (λ e. (tt, refl, λ s. rw e refl))
    (pick (KindOk b) b 46 period _ (λ e. e)
    (pick (KindOk b) b 93 stray _ (λ e. tt)
    (pick (KindOk b) b 125 stray _ (λ e. tt)
    (pick (KindOk b) b 94 stray _ (λ e. tt)
    (pick (KindOk b) b 36 stray ordinary (λ e. tt) tt)))))))))))))

-- A repeat that a `?` may follow is one.
pub not_once : (r : Repeat) → unmarked r ≡ true → is_once r ≡ false
not_once once e = let z : ◌≡◌ {A = ℕ} 0 1 = cc in absurd (omega arith)
not_once many e = refl
not_once more e = refl
not_once maybe e = refl
not_once (exactly m) e = refl
not_once (at_least m) e = refl
not_once (between m n) e = refl
not_once (lazily r) e = refl

-- What is not special is ordinary.
pub ordinary_kind : (k : Kind) → special k ≡ false → k ≡ ordinary
ordinary_kind ordinary e = refl
ordinary_kind backslash e = absurd (true≢false e)
ordinary_kind bar e = absurd (true≢false e)
ordinary_kind opener e = absurd (true≢false e)
ordinary_kind closer e = absurd (true≢false e)
ordinary_kind bracket e = absurd (true≢false e)
ordinary_kind brace e = absurd (true≢false e)
ordinary_kind period e = absurd (true≢false e)
ordinary_kind stray e = absurd (true≢false e)
ordinary_kind (sign r) e = absurd (true≢false e)

abbrev pub InsideOk : ℕ → Inside → Type 0
InsideOk b usual = Unit {0}
InsideOk b backslash = b ≡ 92
InsideOk b closing = b ≡ 93
InsideOk b opening = b ≡ 91
InsideOk b caret = b ≡ 94
InsideOk b dash = b ≡ 45

pub inside_ok : (b : ℕ) → InsideOk b (inside b)
unfolding inside
inside_ok b =
    pick (InsideOk b) b 92 Inside.backslash _ (λ e. e)
    (pick (InsideOk b) b 93 closing _ (λ e. e)
    (pick (InsideOk b) b 91 opening _ (λ e. e)
    (pick (InsideOk b) b 94 caret _ (λ e. e)
    (pick (InsideOk b) b 45 dash usual (λ e. e) tt))))

-- Lengths.
pub len_byte : (x : Byte) (s : List ℕ) → suc (length s) ≤ length (byte_text x s)
len_byte (plain b) s = omega arith
len_byte (escaped b) s = omega arith

pub len_item : (x : Item) (s : List ℕ) → suc (length s) ≤ length (item_text x s)
len_item (single x) s = len_byte x s
len_item (range x y) s = omega (arith, len_byte x (45 ∷ byte_text y s), len_byte y s)
len_item (named alpha) s = omega arith
len_item (named digit) s = omega arith
len_item (named alnum) s = omega arith
len_item (named upper) s = omega arith
len_item (named lower) s = omega arith
len_item (named xdigit) s = omega arith
len_item (named space) s = omega arith
len_item (named punct) s = omega arith

pub len_items : (l : List Item) (s : List ℕ) → length l + length s ≤ length (items_text l s)
len_items [] s = omega arith
len_items (x ∷ l) s = omega (arith, len_item x (items_text l s), len_items l s)

len_digits : (m : Digits) (s : List ℕ) → suc (length s) ≤ length (digits_text m s)
len_digits (one b) s = omega arith
len_digits (two b c) s = omega arith

pub len_repeat : (r : Repeat) (s : List ℕ) → unmarked r ≡ true → suc (length s) ≤ length (repeat_text r s)
len_repeat once s e = let z : ◌≡◌ {A = ℕ} 0 1 = cc in absurd (omega arith)
len_repeat many s e = omega arith
len_repeat more s e = omega arith
len_repeat maybe s e = omega arith
len_repeat (exactly m) s e = omega (arith, len_digits m (125 ∷ s))
len_repeat (at_least m) s e = omega (arith, len_digits m (44 ∷ 125 ∷ s))
len_repeat (between m n) s e = omega (arith, len_digits m (44 ∷ digits_text n (125 ∷ s)), len_digits n (125 ∷ s))
len_repeat (lazily r) s e = let z : ◌≡◌ {A = ℕ} 0 1 = cc in absurd (omega arith)
