-- The entries that a text in hex begins with, a pair of digits at a time.
-- Assumes nothing.
use Rattle.std.specs.Prelude.{None, Some}
use Rattle.std.proofs.Common.{◌≡◌, ℕ, suc, ◌+◌, ◌*◌, ◌-◌, ◌≤◌, ◌<◌, Bool, true, false, ◌&&◌, cond, List, [], ◌∷◌, ◌++◌, length, get_or, take, drop, set, replicate, refl, sym, ap, ◌∙◌, append_assoc, append-nil, arith, length-append}
use Rattle.std.proofs.lemmas.Option.{cond_some, none-some}
use lib.Seq.{drop-cons, take_all, set_at, append_snoc, take-nil}
use Rattle.queries.specs.Hex.{is_hex, hex_value, digit_of, unhex, table_of, entries_of}
use Rattle.queries.specs.declared.Table.{Table}

-- A table holds these entries and zeros, and the rest of the text has the others.
pub record Filled (text rest : List ℕ) (t : Table) : Type 0 where
  pub done : List ℕ
  pub holds : t.entries ≡ done ++ replicate (512 - t.count) 0
  pub number : length done ≡ t.count
  pub few : t.count ≤ 512
  pub others : done ++ take (512 - t.count) (unhex rest) ≡ entries_of text

-- The first two bytes, and what follows them.
pair : (s : List ℕ) → 2 ≤ length s → s ≡ get_or s 0 0 ∷ get_or s 1 0 ∷ take (length s - 2) (drop 2 s)
pair [] h = absurd (omega arith)
pair (a ∷ []) h = absurd (omega arith)
pair (a ∷ b ∷ s) h = ap (λ l. a ∷ b ∷ l) (sym (take_all (length (a ∷ b ∷ s) - 2) s (omega arith)))

no_digit : (b : ℕ) → digit_of b ≡ None → is_hex b ≡ false
no_digit b = go (is_hex b)
  where
    go : (t : Bool) → cond t (Some (hex_value b)) None ≡ None → t ≡ false
    go true e = absurd (none-some _ (sym e))
    go false e = refl

not_second : (t : Bool) (x y : List ℕ) → cond (t && false) x y ≡ y
not_second true x y = refl
not_second false x y = refl

module _ (s : List ℕ) where
  -- The text is too short, or one of its first two bytes is no digit.
  pub short : length s < 2 → unhex s ≡ []
  unfolding unhex
  short h = go s h
    where
      go : (l : List ℕ) → length l < 2 → unhex l ≡ []
      go [] h = refl
      go (a ∷ []) h = refl
      go (a ∷ b ∷ l) h = absurd (omega arith)

  pub no_first : 2 ≤ length s → digit_of (get_or s 0 0) ≡ None → unhex s ≡ []
  unfolding unhex
  no_first h e = ap unhex (pair s h) ∙ rw (no_digit (get_or s 0 0) e) refl

  pub no_second : 2 ≤ length s → digit_of (get_or s 1 0) ≡ None → unhex s ≡ []
  unfolding unhex
  no_second h e = ap unhex (pair s h) ∙ rw (no_digit (get_or s 1 0) e) (not_second (is_hex (get_or s 0 0)) _ _)

  module _ {x y : ℕ} (h : 2 ≤ length s) (p : digit_of (get_or s 0 0) ≡ Some x) (q : digit_of (get_or s 1 0) ≡ Some y) where
    next_entry : unhex s ≡ (16 * x + y) ∷ unhex (take (length s - 2) (drop 2 s))
    unfolding unhex
    next_entry =
        let (c, d) = cond_some (is_hex (get_or s 0 0)) (hex_value (get_or s 0 0)) x p in
        let (e, f) = cond_some (is_hex (get_or s 1 0)) (hex_value (get_or s 1 0)) y q in
        ap unhex (pair s h) ∙ rw (c, e, d, f) refl

    -- One entry more.
    pub fill_one : {text : List ℕ} {t : Table} → Filled text s t → t.count < 512
        → Filled text (take (length s - 2) (drop 2 s)) (record { entries = set t.entries t.count (16 * x + y); count = t.count + 1 })
    fill_one {text} {t} f l =
        let n = t.count in
        let v = 16 * x + y in
        let u = unhex (take (length s - 2) (drop 2 s)) in
        let k : 512 - n ≡ suc (512 - (n + 1)) = omega arith in
        record {
          done = f.done ++ (v ∷ []);
          holds =
              ap (λ l. set l n v) (f.holds ∙ ap (λ i. f.done ++ replicate i 0) k)
              ∙ set_at f.done 0 (replicate (512 - (n + 1)) 0) v n f.number
              ∙ sym (append_snoc f.done v (replicate (512 - (n + 1)) 0));
          number = length-append f.done (v ∷ []) ∙ ap (λ i. i + 1) f.number;
          few = omega arith;
          others =
              append_assoc f.done (v ∷ []) (take (512 - (n + 1)) u)
              ∙ ap (λ i. f.done ++ take i (v ∷ u)) (sym k)
              ∙ ap (λ l. f.done ++ take (512 - n) l) (sym next_entry)
              ∙ f.others;
        }

-- The pair of digits whose second one is at the place i, and what follows.
pair_at : (s : List ℕ) (i : ℕ) → 0 < i → i < length s → drop (i - 1) s ≡ get_or s (i - 1) 0 ∷ get_or s i 0 ∷ drop (i + 2 - 1) s
pair_at s i h j =
    let a = get_or s (i - 1) 0 in
    let k : i - 1 < length s = omega arith in
    let e : suc (i - 1) ≡ i = omega arith in
    let f : suc i ≡ i + 2 - 1 = omega arith in
    drop-cons s (i - 1) 0 k
    ∙ ap (λ x. a ∷ drop x s) e
    ∙ ap (λ l. a ∷ l) (drop-cons s i 0 j)
    ∙ ap (λ x. a ∷ get_or s i 0 ∷ drop x s) f

both : (a b : Bool) (x y : List ℕ) → a ≡ true → b ≡ true → cond (a && b) x y ≡ x
both a b x y p q = rw (p, q) refl

module _ (text : List ℕ) (i : ℕ) (h : 0 < i) where
  -- Both are digits.
  pub next_pair_lem : i < length text → is_hex (get_or text (i - 1) 0) ≡ true → is_hex (get_or text i 0) ≡ true
      → unhex (drop (i - 1) text) ≡ (16 * hex_value (get_or text (i - 1) 0) + hex_value (get_or text i 0)) ∷ unhex (drop (i + 2 - 1) text)
  unfolding unhex
  next_pair_lem j p q = ap unhex (pair_at text i h j) ∙ both (is_hex (get_or text (i - 1) 0)) (is_hex (get_or text i 0)) _ _ p q

-- No entry is left, or there is no room for it.
all : {text rest : List ℕ} {t : Table} → Filled text rest t → take (512 - t.count) (unhex rest) ≡ [] → t ≡ table_of (entries_of text)
all {text} {rest} {t} f e =
    let d : f.done ≡ entries_of text = sym (append-nil f.done) ∙ ap (λ l. f.done ++ l) (sym e) ∙ f.others in
    let k : t.count ≡ length (entries_of text) = sym f.number ∙ ap length d in
    let h : t.entries ≡ entries_of text ++ replicate (512 - length (entries_of text)) 0 = f.holds ∙ ap (λ l. l ++ replicate (512 - t.count) 0) d ∙ ap (λ i. entries_of text ++ replicate (512 - i) 0) k in
    λ i. record { entries = h i; count = k i }

pub no_more : {text rest : List ℕ} {t : Table} → Filled text rest t → unhex rest ≡ [] → t ≡ table_of (entries_of text)
no_more {t = t} f e = all f (ap (λ l. take (512 - t.count) l) e ∙ take-nil (512 - t.count))
