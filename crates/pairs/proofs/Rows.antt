-- Rows of bytes: what is put into a row is read back, the other rows and all from byte 1,024 on stay, and a row of bytes is a number of 64 bits.
-- Assumes nothing.
use mathlib.Core.Path.{◌≡◌, refl, sym, ap, ap₂, ◌∙◌}
use mathlib.Core.List.{List, [], ◌∷◌, ◌++◌}
use Prim.Native.Nat.{ℕ, zero, suc, ◌+◌, ◌-◌, ◌*◌, ◌/◌, ◌%◌, ◌^◌, ◌≤◌, ◌<◌}
use native.Mathlib.Nat.{div-one, pow-suc, div-div-eq-div-mul}
use native.Mathlib.Omega.{arith}
use borrow.Rule.Slice.PartMut.{put_mid}
use lib.ListN.{length, get_or, set, take, drop, length-set}
use lib.Seq.{sets, sets-eq, length-sets, get_or-take, get_or-drop, get_or-set_same, get_or-set_other, drop-set-lt, take_all}
use Rattle.std.specs.Int.{w64, byte_at, bytes_low_first, from_le_bytes, to_le_bytes}
use Rattle.std.proofs.lemmas.Slice.{put_mid-paste}
use Rattle.pairs.specs.Rows.{number_at, row_at, bytes_of, put_row, Kept}

-- Eight bytes of the area are the number that std reads from them.
row_byte : (s : List ℕ) (k : ℕ) (u : List ℕ) → u ≡ take 8 (drop (8 * k) s) → (i j : ℕ) → i < 8 → j ≡ 8 * k + i → get_or u i 0 ≡ get_or s j 0
row_byte s k u e i j h p = ap (λ v. get_or v i 0) e ∙ get_or-take 8 (drop (8 * k) s) i 0 h ∙ get_or-drop (8 * k) s i 0 ∙ ap (λ n. get_or s n 0) (sym p)

pub row_is : (s : List ℕ) (k : ℕ) (u : List ℕ) → u ≡ take 8 (drop (8 * k) s) → from_le_bytes w64 u ≡ row_at s k
unfolding number_at
row_is s k u e =
    let i = 8 * k in
    let at = row_byte s k u e in
    let b0 = at 0 i (omega arith) (omega arith) in
    let b1 = at 1 (suc i) (omega arith) (omega arith) in
    let b2 = at 2 (suc (suc i)) (omega arith) (omega arith) in
    let b3 = at 3 (suc (suc (suc i))) (omega arith) (omega arith) in
    let b4 = at 4 (suc (suc (suc (suc i)))) (omega arith) (omega arith) in
    let b5 = at 5 (suc (suc (suc (suc (suc i))))) (omega arith) (omega arith) in
    let b6 = at 6 (suc (suc (suc (suc (suc (suc i)))))) (omega arith) (omega arith) in
    let b7 = at 7 (suc (suc (suc (suc (suc (suc (suc i))))))) (omega arith) (omega arith) in
    omega (arith, b0, b1, b2, b3, b4, b5, b6, b7)

number_less : (s : List ℕ) → ((j : ℕ) → get_or s j 0 < 256) → (n i : ℕ) → number_at n s i < 256 ^ n
unfolding number_at
number_less s small zero i = omega arith
number_less s small (suc n) i = omega (arith, number_less s small n (suc i), small i)

-- The eight bytes that std makes of a number are those of a row.
bytes_are : (k i x : ℕ) → bytes_low_first i k x ≡ bytes_of k (x / 256 ^ i)
unfolding bytes_of
bytes_are zero i x = refl
bytes_are (suc k) i x = ap₂ ◌∷◌ (byte_is i) (bytes_are k (suc i) x ∙ ap (bytes_of k) later)
  where
    byte_is : (i : ℕ) → byte_at i x ≡ x / 256 ^ i % 256
    byte_is zero = let e : x / 256 ^ 0 ≡ x = div-one x in ap (λ n. n % 256) (sym e)
    byte_is (suc i) = refl

    later : x / 256 ^ suc i ≡ x / 256 ^ i / 256
    later = ap (λ n. x / n) (pow-suc 256 i) ∙ sym (div-div-eq-div-mul x (256 ^ i) 256)

pub bytes_as : (x : ℕ) → to_le_bytes w64 x ≡ bytes_of 8 x
bytes_as x = bytes_are 8 0 x ∙ ap (bytes_of 8) (div-one x)

bytes_size : (n x : ℕ) → length (bytes_of n x) ≡ n
unfolding bytes_of
bytes_size zero x = refl
bytes_size (suc n) x = ap suc (bytes_size n (x / 256))

-- Stores change no byte at another place.
sets_other : (u s : List ℕ) (i j : ℕ) → (i ≤ j → j < i + length u → ⊥) → get_or (sets s i u) j 0 ≡ get_or s j 0
sets_other [] s i j out = refl
sets_other (b ∷ u) s i j out = sets_other u (set s i b) (suc i) j (λ h k. out (omega arith) (omega arith)) ∙ get_or-set_other s i j b 0 (λ e. out (omega arith) (omega arith))

drop_sets : (u s : List ℕ) (i n : ℕ) → i + length u ≤ n → drop n (sets s i u) ≡ drop n s
drop_sets [] s i n h = refl
drop_sets (b ∷ u) s i n h = drop_sets u (set s i b) (suc i) n (omega arith) ∙ drop-set-lt n s i b (omega arith)

-- A number that was put in is read back.
number_put : (n : ℕ) (s : List ℕ) (i x : ℕ) → i + n ≤ length s → x < 256 ^ n → number_at n (sets s i (bytes_of n x)) i ≡ x
unfolding number_at bytes_of
number_put zero s i x h k = omega arith
number_put (suc n) s i x h k =
    let t = set s i (x % 256) in
    let here : get_or (sets t (suc i) (bytes_of n (x / 256))) i 0 ≡ x % 256 = sets_other (bytes_of n (x / 256)) t (suc i) i (λ l m. omega arith) ∙ get_or-set_same s i (x % 256) 0 (omega arith) in
    let rest = number_put n t (suc i) (x / 256) (omega (arith, length-set s i (x % 256))) (omega arith) in
    omega arith

-- A number of the bytes that stayed.
number_same : (s t : List ℕ) (n i : ℕ) → ((j : ℕ) → i ≤ j → j < i + n → get_or t j 0 ≡ get_or s j 0) → number_at n t i ≡ number_at n s i
unfolding number_at
number_same s t zero i e = refl
number_same s t (suc n) i e = ap₂ (λ b m. b + 256 * m) (e i (omega arith) (omega arith)) (number_same s t n (suc i) (λ j h k. e j (omega arith) (omega arith)))

-- The row that was put is read back, and the others stay.
pub row_put : (s : List ℕ) (k x : ℕ) → 8 * k + 8 ≤ length s → x < 18446744073709551616 → row_at (put_row s k x) k ≡ x
row_put s k x h l = number_put 8 s (8 * k) x h l

pub row_other : (s : List ℕ) (k x j : ℕ) → (j ≡ k → ⊥) → row_at (put_row s k x) j ≡ row_at s j
row_other s k x j n =
    number_same s (put_row s k x) 8 (8 * j) (λ i h l. sets_other (bytes_of 8 x) s (8 * k) i (λ g m. n (omega (arith, bytes_size 8 x))))

-- A row of bytes is a number of 64 bits.
pub row_less : (s : List ℕ) → ((j : ℕ) → get_or s j 0 < 256) → (k : ℕ) → row_at s k < 18446744073709551616
row_less s small k = number_less s small 8 (8 * k)

-- The bytes of a row are copied into it.
pub put_is : (s : List ℕ) (k x : ℕ) (u : List ℕ) → 8 * k + 8 ≤ length s → u ≡ to_le_bytes w64 x → put_mid (8 * k) (8 * k + 8 - 8 * k) s u ≡ put_row s k x
put_is s k x u h e =
    let v = bytes_of 8 x in
    let size : length v ≡ 8 = bytes_size 8 x in
    put_mid-paste (8 * k) (8 * k + 8 - 8 * k) s u v 8 (e ∙ bytes_as x) (omega arith) (sym size)
    ∙ ap₂ (λ y n. (take (8 * k) s ++ y) ++ drop (8 * k + n) s) (take_all 8 v (omega arith)) (sym size)
    ∙ sym (sets-eq v s (8 * k) (omega arith))

-- What stays: the length, and the bytes after the 128 rows.
pub row_length : (s : List ℕ) (k x : ℕ) → length (put_row s k x) ≡ length s
row_length s k x = length-sets s (8 * k) (bytes_of 8 x)

pub kept_row : (s : List ℕ) (k x : ℕ) → k < 128 → Kept s (put_row s k x)
kept_row s k x h = record { size = row_length s k x; rest = drop_sets (bytes_of 8 x) s (8 * k) 1024 (omega (arith, bytes_size 8 x)) }

pub kept_none : (s : List ℕ) → Kept s s
kept_none s = record { size = refl; rest = refl }

pub kept_more : {s t u : List ℕ} → Kept s t → Kept t u → Kept s u
kept_more a b = record { size = b.size ∙ a.size; rest = b.rest ∙ a.rest }
