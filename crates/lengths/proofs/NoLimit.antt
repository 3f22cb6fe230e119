-- There is "no limit" exactly if `*`, `+` or `{m,}` stands over a part whose greatest is not 0 and the part is kept.
-- Assumes nothing.
use mathlib.Core.Path.{◌≡◌, refl}
use mathlib.Core.Logic.{◌⊎◌, inl, inr, ◌↔◌, ◌≢◌}
use Prim.Native.Nat.{ℕ, zero, suc, ◌+◌, max}
use native.Mathlib.Omega.{arith}
use Rattle.theory.proofs.Tests.{either}
use Rattle.grammar.specs.Grammar.{digits_value, Repeat, once, many, more, maybe, exactly, at_least, between, lazily, Alternation, last, or, Sequence, nothing, part, Atom, byte, dot, class, group}
use Rattle.lengths.specs.Lengths.{Longest, limit, no_limit, together, copies, endless, Extent, under_repeat, lengths, lengths_within, lengths_atom, Endless, Kept, Unlimited, UnlimitedIn, UnlimitedAtom}

limited : {A : Type 0} {n : ℕ} → limit n ≡ no_limit → A
limited e = let z : ◌≡◌ {A = ℕ} 0 1 = cc in absurd (omega arith)

-- Of two parts: one has none.
module _ (f : ℕ → ℕ → ℕ) where
  together_inv : (g h : Longest) → together f g h ≡ no_limit → (g ≡ no_limit) ⊎ (h ≡ no_limit)
  together_inv no_limit h e = inl refl
  together_inv (limit a) no_limit e = inr refl
  together_inv (limit a) (limit b) e = limited e

  together_of : (g h : Longest) → (g ≡ no_limit) ⊎ (h ≡ no_limit) → together f g h ≡ no_limit
  together_of no_limit h c = refl
  together_of (limit a) no_limit c = refl
  together_of (limit a) (limit b) c = either limited limited c

copies_inv : (n : ℕ) (g : Longest) → copies n g ≡ no_limit → (n ≢ 0) × (g ≡ no_limit)
copies_inv zero g e = limited e
copies_inv (suc n) g e = (λ q. omega arith, either (λ c. c) (λ c. (copies_inv n g c).1) (together_inv ◌+◌ g (copies n g) e))

copies_of : (n : ℕ) (g : Longest) → n ≢ 0 → g ≡ no_limit → copies n g ≡ no_limit
copies_of zero g h e = absurd (h refl)
copies_of (suc n) g h e = together_of ◌+◌ g (copies n g) (inl e)

endless_inv : (g : Longest) → endless g ≡ no_limit → g ≢ limit 0
endless_inv no_limit e q = let z : ◌≡◌ {A = ℕ} 0 1 = cc in omega arith
endless_inv (limit zero) e q = limited e
endless_inv (limit (suc n)) e q = let z : suc n ≡ 0 = cc in omega arith

endless_of : (g : Longest) → (g ≢ limit 0) ⊎ (g ≡ no_limit) → endless g ≡ no_limit
endless_of no_limit c = refl
endless_of (limit zero) c = either (λ h. absurd (h refl)) limited c
endless_of (limit (suc n)) c = refl

-- Under a repeat.
abbrev Over : Repeat → Longest → Type 0
Over r g = (Endless r × (g ≢ limit 0)) ⊎ (Kept r × (g ≡ no_limit))

repeat_inv : (r : Repeat) (x : Extent) → (under_repeat r x).greatest ≡ no_limit → Over r x.greatest
repeat_inv once x e = inr (tt, e)
repeat_inv many x e = inl (tt, endless_inv x.greatest e)
repeat_inv more x e = inl (tt, endless_inv x.greatest e)
repeat_inv maybe x e = inr (tt, (copies_inv 1 x.greatest e).1)
repeat_inv (exactly m) x e = inr (copies_inv (digits_value m) x.greatest e)
repeat_inv (at_least m) x e = inl (tt, endless_inv x.greatest e)
repeat_inv (between m n) x e = inr (copies_inv (digits_value n) x.greatest e)
repeat_inv (lazily r) x e = repeat_inv r x e

-- What stands over the part says nothing more where the repeat is one of the three.
over_endless : {A B : Type 0} {g : Longest} → (A × (g ≢ limit 0)) ⊎ (B × (g ≡ no_limit)) → (g ≢ limit 0) ⊎ (g ≡ no_limit)
over_endless c = either (λ x. inl x.1) (λ x. inr x.1) c

repeat_of_lem : (r : Repeat) (x : Extent) → Over r x.greatest → (under_repeat r x).greatest ≡ no_limit
repeat_of_lem once x c = either (λ a. absurd a.0) (λ a. a.1) c
repeat_of_lem many x c = endless_of x.greatest (over_endless c)
repeat_of_lem more x c = endless_of x.greatest (over_endless c)
repeat_of_lem maybe x c = either (λ a. absurd a.0) (λ a. copies_of 1 x.greatest (λ q. omega arith) a.1) c
repeat_of_lem (exactly m) x c = either (λ a. absurd a.0) (λ a. copies_of (digits_value m) x.greatest a.0 a.1) c
repeat_of_lem (at_least m) x c = endless_of x.greatest (over_endless c)
repeat_of_lem (between m n) x c = either (λ a. absurd a.0) (λ a. copies_of (digits_value n) x.greatest a.0 a.1) c
repeat_of_lem (lazily r) x c = repeat_of_lem r x c

mutual
  unfolding lengths

  unlimited_of : (t : Alternation) → (lengths t).greatest ≡ no_limit → Unlimited t
  unlimited_of (last q) e = in_of q e
  unlimited_of (or q t) e = either (λ c. inl (in_of q c)) (λ c. inr (unlimited_of t c)) (together_inv max (lengths_within q).greatest (lengths t).greatest e)

  in_of : (q : Sequence) → (lengths_within q).greatest ≡ no_limit → UnlimitedIn q
  in_of nothing e = limited e
  in_of (part a r q) e =
      either
      (λ c. either (λ x. inl x) (λ x. inr (inl (x.0, atom_of a x.1))) (repeat_inv r (lengths_atom a) c))
      (λ c. inr (inr (in_of q c)))
      (together_inv ◌+◌ (under_repeat r (lengths_atom a)).greatest (lengths_within q).greatest e)

  atom_of : (a : Atom) → (lengths_atom a).greatest ≡ no_limit → UnlimitedAtom a
  atom_of (byte x) e = limited e
  atom_of dot e = limited e
  atom_of (class c x l) e = limited e
  atom_of (group t) e = unlimited_of t e

mutual
  unfolding lengths

  unlimited_inv : (t : Alternation) → Unlimited t → (lengths t).greatest ≡ no_limit
  unlimited_inv (last q) u = in_inv q u
  unlimited_inv (or q t) u = together_of max (lengths_within q).greatest (lengths t).greatest (either (λ c. inl (in_inv q c)) (λ c. inr (unlimited_inv t c)) u)

  in_inv : (q : Sequence) → UnlimitedIn q → (lengths_within q).greatest ≡ no_limit
  in_inv nothing u = absurd u
  in_inv (part a r q) u =
      together_of ◌+◌ (under_repeat r (lengths_atom a)).greatest (lengths_within q).greatest
      (either
      (λ c. inl (repeat_of_lem r (lengths_atom a) (inl c)))
      (λ c. either (λ x. inl (repeat_of_lem r (lengths_atom a) (inr (x.0, atom_inv a x.1)))) (λ x. inr (in_inv q x)) c)
      u)

  atom_inv : (a : Atom) → UnlimitedAtom a → (lengths_atom a).greatest ≡ no_limit
  atom_inv (byte x) u = absurd u
  atom_inv dot u = absurd u
  atom_inv (class c x l) u = absurd u
  atom_inv (group t) u = unlimited_inv t u

-- "NO LIMIT" exactly if such a repeat is kept.
pub no_limit_exactly : (t : Alternation) → ((lengths t).greatest ≡ no_limit) ↔ Unlimited t
no_limit_exactly t = (unlimited_of t, unlimited_inv t)
