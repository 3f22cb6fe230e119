-- What a right result by the records says of the pattern.
-- Assumes nothing.
use mathlib.Core.Path.{◌≡◌}
use mathlib.Core.Logic.{◌⊎◌, inl, inr, ◌↔◌}
use Prim.Native.Nat.{ℕ, ◌≤◌}
use mathlib.Core.List.{List}
use native.Mathlib.Omega.{arith}
use lib.ListN.{length, take, drop}
use Rattle.theory.specs.Lines.{Below}
use Rattle.theory.proofs.Tests.{either}
use Rattle.grammar.specs.Grammar.{Alternation}
use Rattle.grammar.specs.Loaded.{Accepts}
use Rattle.grammar.specs.WriteOut.{write_out}
use Rattle.grammar.proofs.Loaded.{accepts_not_refuses}
use Rattle.verdict.specs.Record.{form_of}
use Rattle.verdict.specs.Table.{slots}
use Rattle.verdict.specs.Tabled.{Result, alike, unlike, refused, whole, Tabled}
use Rattle.verdict.specs.Code.Found.{Found, not_read, same_cuts, first_witness, no_slot, no_room}
use Rattle.verdict.specs.Demand.{NoneCut, FirstCut, Number, Outnumber, Longer}
use Rattle.verdict.proofs.Tabled.{tabled_found, tabled_exactly}
use Rattle.verdict.proofs.Promise.{Refused, alike_promise, unlike_promise, ten, eleven, eleven_never, withheld, kept}
use Rattle.verdict.proofs.StayBytes.{stay_bytes}

-- It is refused with that number at place 0.
abbrev pub RefusedInTable : List ℕ → List ℕ → List ℕ → List ℕ → ℕ → Type 0
RefusedInTable loaded p t v n = (t' v' : List ℕ) × Tabled loaded p t v (whole (refused n 0) t' v')

module _ {loaded p t v : List ℕ} where
  to : {n : ℕ} → RefusedInTable loaded p t v n → Refused loaded p t v n
  to (t', v', c) = (t', v', tabled_found c)

  back : {n : ℕ} → Refused loaded p t v n → RefusedInTable loaded p t v n
  back {n} (t', v', c) = (t', v', (tabled_exactly loaded p t v (refused n 0) t' v').1 c)

  module _ (a : Alternation) (i : Accepts loaded p a) where
    -- Alike: no sequence of bytes, of any length, is cut differently; the count is the number of distinct standings.
    pub tabled_alike : {n : ℕ} {t' v' : List ℕ} → Tabled loaded p t v (whole (alike n) t' v') → NoneCut (write_out loaded a) × Number (write_out loaded a) n
    tabled_alike c = alike_promise (tabled_found c) a i

    -- Unlike: the witness handed over, the first k bytes of the buffer, is cut differently, and every other line that is cut differently is longer, or as long and
    -- later in byte order; the count is the number of distinct standings of the lines that none of these comes before; the rest of the buffer is kept.
    pub tabled_unlike : {n k : ℕ} {t' v' : List ℕ} → Tabled loaded p t v (whole (unlike n k) t' v')
        → FirstCut (write_out loaded a) (take k v') × Number (write_out loaded a) n × (length (take k v') ≡ k) × (drop k v' ≡ drop k v)
    tabled_unlike c = unlike_promise (tabled_found c) a i

    -- Withheld: exactly if the distinct standings of the lines that no line cut differently comes before outnumber the slots (10), or else the first line cut
    -- differently is longer than the buffer (11).
    pub tabled_ten : RefusedInTable loaded p t v 10 ↔ Outnumber (write_out loaded a) (slots (form_of (write_out loaded a)) (length t))
    tabled_ten = (λ c. (ten a i).0 (to c), λ o. back ((ten a i).1 o))

    pub tabled_eleven : RefusedInTable loaded p t v 11 ↔ ((Outnumber (write_out loaded a) (slots (form_of (write_out loaded a)) (length t)) → ⊥) × Longer (write_out loaded a) (length v))
    tabled_eleven = (λ c. (eleven a i).0 (to c), λ o. back ((eleven a i).1 o))

    -- A buffer with a byte for each slot is never too short.
    pub tabled_room : slots (form_of (write_out loaded a)) (length t) ≤ length v → RefusedInTable loaded p t v 11 → ⊥
    tabled_room room c = eleven_never a i room (to c)

    pub tabled_withheld : (RefusedInTable loaded p t v 10 ⊎ RefusedInTable loaded p t v 11) ↔ (Outnumber (write_out loaded a) (slots (form_of (write_out loaded a)) (length t)) ⊎ Longer (write_out loaded a) (length v))
    tabled_withheld = (
      λ c. (withheld a i).0 (either (λ x. inl (to x)) (λ x. inr (to x)) c),
      λ o. either (λ x. inl (back x)) (λ x. inr (back x)) ((withheld a i).1 o),
    )

  -- An accepted pattern is refused with 10 or 11, at place 0, or not at all.
  pub tabled_numbers : {a : Alternation} → Accepts loaded p a → {n q : ℕ} {t' v' : List ℕ} → Tabled loaded p t v (whole (refused n q) t' v') → ((n ≡ 10) ⊎ (n ≡ 11)) × (q ≡ 0)
  tabled_numbers {a} i {n} {q} c = go (tabled_found c)
    where
      go : {t' v' : List ℕ} → Found loaded p t v (refused n q) t' v' → ((n ≡ 10) ⊎ (n ≡ 11)) × (q ≡ 0)
      go (not_read {n = m} {q = k} f e g h) = absurd (accepts_not_refuses loaded p a m k i f)
      go (same_cuts j k l e f g) = absurd (let z : ◌≡◌ {A = ℕ} 0 1 = cc in omega arith)
      go (first_witness j k l m e f g) = absurd (let z : ◌≡◌ {A = ℕ} 0 1 = cc in omega arith)
      go (no_slot j k l e f g) = let x : n ≡ 10 = cc in let y : q ≡ 0 = cc in (inl x, y)
      go (no_room j k l m e f g) = let x : n ≡ 11 = cc in let y : q ≡ 0 = cc in (inr x, y)

  -- The buffers keep their lengths, and stay bytes.
  pub tabled_lengths : {x : Result} {t' v' : List ℕ} → Tabled loaded p t v (whole x t' v') → (length t' ≡ length t) × (length v' ≡ length v)
  tabled_lengths c = kept (tabled_found c)

  pub tabled_bytes : {x : Result} {t' v' : List ℕ} → Tabled loaded p t v (whole x t' v') → Below 256 t → Below 256 v → Below 256 t' × Below 256 v'
  tabled_bytes c = stay_bytes (tabled_found c)
