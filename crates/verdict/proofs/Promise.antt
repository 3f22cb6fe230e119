-- What the checker's answer says of the pattern.
-- Assumes nothing.
use mathlib.Core.Path.{◌≡◌, refl, sym, ap, ap₂, ◌∙◌, subst}
use mathlib.Core.Logic.{◌⊎◌, inl, inr, ◌↔◌}
use Prim.Native.Nat.{ℕ, suc, ◌≤◌, ◌<◌}
use mathlib.Core.List.{List, [], ◌∷◌, ◌++◌}
use native.Mathlib.Omega.{arith}
use lib.ListN.{length, take, drop}
use lib.Seq.{take-append_seam, drop-append_seam}
use Rattle.theory.specs.Pattern.{Re}
use Rattle.theory.specs.Standing.{standing}
use Rattle.theory.specs.Code.Search.{SearchEnd, alike, unlike, full}
use Rattle.theory.proofs.Run.{check}
use Rattle.theory.proofs.Tests.{either}
use Rattle.grammar.specs.Grammar.{Alternation}
use Rattle.grammar.specs.Loaded.{Accepts}
use Rattle.grammar.specs.WriteOut.{write_out}
use Rattle.grammar.proofs.Loaded.{one_tree, accepts_not_refuses}
use Rattle.grammar.proofs.Size.{write_out_numbered}
use Rattle.verdict.specs.Record.{form_of}
use Rattle.verdict.specs.Table.{records, slots, onto}
use Rattle.verdict.specs.Tabled.{Result, alike as same, unlike as differ, refused as refuse}
use Rattle.verdict.specs.Code.Found.{Found, not_read, same_cuts, first_witness, no_slot, no_room}
use Rattle.verdict.specs.Demand.{NoneCut, FirstCut, Number, Outnumber, Longer}
use Rattle.verdict.proofs.Tables.{records_size, slots_fit, onto_length}
use Rattle.theory.proofs.Lines.{snoc_size}
use Rattle.verdict.proofs.Witnesses.{witness_length}
use Rattle.verdict.proofs.Words.{alike_none, first_cut, first_unique, alike_number, unlike_number, full_outnumbers, enough}

abbrev pub Refused : List ℕ → List ℕ → List ℕ → List ℕ → ℕ → Type 0
Refused loaded p t v n = (t' v' : List ℕ) × Found loaded p t v (refuse n 0) t' v'

fits : (t : List ℕ) (r : Re) (L : List (List ℕ)) → length L ≤ slots (form_of r) (length t) → length (onto t (records (form_of r) (standing r) L)) ≡ length t
fits t r L h = onto_length t (records (form_of r) (standing r) L) (omega (arith, records_size (form_of r) r L L, slots_fit (form_of r) (length t) (length L) h))

module _ {loaded p t v : List ℕ} where
  -- Alike: no sequence of bytes of any length is cut differently, and the count is the number of distinct standings.
  pub alike_promise : {n : ℕ} {t' v' : List ℕ} → Found loaded p t v (same n) t' v' → (a : Alternation) → Accepts loaded p a
      → NoneCut (write_out loaded a) × Number (write_out loaded a) n
  alike_promise (not_read f e g h) a i = absurd (let z : ◌≡◌ {A = ℕ} 0 1 = cc in omega arith)
  alike_promise {n} (same_cuts {a = b} {L = L} h c l e f g) a i =
      let m : n ≡ length L = cc in
      subst (λ x. NoneCut (write_out loaded x) × Number (write_out loaded x) n) (one_tree loaded p b a h i)
      (alike_none (write_out loaded b) (write_out_numbered loaded b) c, rw m (alike_number (write_out loaded b) (write_out_numbered loaded b) c))
  alike_promise (first_witness h c l k e f g) a i = absurd (let z : ◌≡◌ {A = ℕ} 0 1 = cc in omega arith)
  alike_promise (no_slot h c l e f g) a i = absurd (let z : ◌≡◌ {A = ℕ} 0 1 = cc in omega arith)
  alike_promise (no_room h c l k e f g) a i = absurd (let z : ◌≡◌ {A = ℕ} 0 1 = cc in omega arith)

  -- Unlike: the first k bytes of the witness buffer are the first line cut differently, the rest of it is kept, and the count is the number of the distinct standings
  -- of the lines that no line cut differently comes before.
  pub unlike_promise : {n k : ℕ} {t' v' : List ℕ} → Found loaded p t v (differ n k) t' v' → (a : Alternation) → Accepts loaded p a
      → FirstCut (write_out loaded a) (take k v') × Number (write_out loaded a) n × (length (take k v') ≡ k) × (drop k v' ≡ drop k v)
  unlike_promise (not_read f e g h) a i = absurd (let z : ◌≡◌ {A = ℕ} 0 1 = cc in omega arith)
  unlike_promise (same_cuts h c l e f g) a i = absurd (let z : ◌≡◌ {A = ℕ} 0 1 = cc in omega arith)
  unlike_promise {n} {k} {t'} {v'} (first_witness {a = b} {L = L} {w = w} h c l j e f g) a i =
      let m : n ≡ suc (length L) = cc in
      let s : k ≡ length w = cc in
      let x : take k v' ≡ w = ap₂ take s g ∙ take-append_seam w (drop (length w) v) in
      let y : drop k v' ≡ drop k v = ap₂ drop s g ∙ drop-append_seam w (drop (length w) v) ∙ ap (λ o. drop o v) (sym s) in
      subst (λ z. FirstCut (write_out loaded z) (take k v') × Number (write_out loaded z) n × (length (take k v') ≡ k) × (drop k v' ≡ drop k v)) (one_tree loaded p b a h i)
      (subst (λ z. FirstCut (write_out loaded b) z × Number (write_out loaded b) n × (length z ≡ k) × (drop k v' ≡ drop k v)) (sym x)
      (first_cut (write_out loaded b) (write_out_numbered loaded b) c, rw m (unlike_number (write_out loaded b) (write_out_numbered loaded b) c), sym s, y))
  unlike_promise (no_slot h c l e f g) a i = absurd (let z : ◌≡◌ {A = ℕ} 0 1 = cc in omega arith)
  unlike_promise (no_room h c l k e f g) a i = absurd (let z : ◌≡◌ {A = ℕ} 0 1 = cc in omega arith)

  module _ (a : Alternation) (i : Accepts loaded p a) where
    -- 10 exactly if the distinct standings of those lines outnumber the slots.
    pub ten_only : Refused loaded p t v 10 → Outnumber (write_out loaded a) (slots (form_of (write_out loaded a)) (length t))
    ten_only (t', v', not_read {n = n} {q = q} f e g h) = absurd (accepts_not_refuses loaded p a n q i f)
    ten_only (t', v', same_cuts h c l e f g) = absurd (let z : ◌≡◌ {A = ℕ} 0 1 = cc in omega arith)
    ten_only (t', v', first_witness h c l k e f g) = absurd (let z : ◌≡◌ {A = ℕ} 0 1 = cc in omega arith)
    ten_only (t', v', no_slot {a = b} {L = L} h c l e f g) =
        subst (λ x. Outnumber (write_out loaded x) (slots (form_of (write_out loaded x)) (length t))) (one_tree loaded p b a h i) (subst (Outnumber (write_out loaded b)) l (full_outnumbers (write_out loaded b) (write_out_numbered loaded b) c))
    ten_only (t', v', no_room h c l k e f g) = absurd (let z : ◌≡◌ {A = ℕ} 10 11 = cc in omega arith)

    pub ten_if : Outnumber (write_out loaded a) (slots (form_of (write_out loaded a)) (length t)) → Refused loaded p t v 10
    ten_if o = go (check (write_out loaded a) (write_out_numbered loaded a) (slots (form_of (write_out loaded a)) (length t)))
      where
        go : SearchEnd (write_out loaded a) (slots (form_of (write_out loaded a)) (length t)) → Refused loaded p t v 10
        go (alike L h c) = absurd (enough (write_out loaded a) (write_out_numbered loaded a) (alike_number (write_out loaded a) (write_out_numbered loaded a) c) h o)
        go (unlike L w h c) = absurd (enough (write_out loaded a) (write_out_numbered loaded a) (unlike_number (write_out loaded a) (write_out_numbered loaded a) c) h o)
        go (full L h c) = (onto t (records (form_of (write_out loaded a)) (standing (write_out loaded a)) L), v, no_slot i c h refl refl refl)

    pub ten : Refused loaded p t v 10 ↔ Outnumber (write_out loaded a) (slots (form_of (write_out loaded a)) (length t))
    ten = (ten_only, ten_if)

    -- 11 exactly if they do not, and the first line cut differently is longer than the buffer.
    pub eleven_only : Refused loaded p t v 11 → (Outnumber (write_out loaded a) (slots (form_of (write_out loaded a)) (length t)) → ⊥) × Longer (write_out loaded a) (length v)
    eleven_only (t', v', not_read {n = n} {q = q} f e g h) = absurd (accepts_not_refuses loaded p a n q i f)
    eleven_only (t', v', same_cuts h c l e f g) = absurd (let z : ◌≡◌ {A = ℕ} 0 1 = cc in omega arith)
    eleven_only (t', v', first_witness h c l k e f g) = absurd (let z : ◌≡◌ {A = ℕ} 0 1 = cc in omega arith)
    eleven_only (t', v', no_slot h c l e f g) = absurd (let z : ◌≡◌ {A = ℕ} 11 10 = cc in omega arith)
    eleven_only (t', v', no_room {a = b} {w = w} h c l k e f g) =
        subst (λ x. (Outnumber (write_out loaded x) (slots (form_of (write_out loaded x)) (length t)) → ⊥) × Longer (write_out loaded x) (length v)) (one_tree loaded p b a h i)
        (enough (write_out loaded b) (write_out_numbered loaded b) (unlike_number (write_out loaded b) (write_out_numbered loaded b) c) l, (w, first_cut (write_out loaded b) (write_out_numbered loaded b) c, k))

    -- 11 never comes where the buffer has a byte for each slot.
    pub eleven_never : slots (form_of (write_out loaded a)) (length t) ≤ length v → Refused loaded p t v 11 → ⊥
    eleven_never room (t', v', not_read {n = n} {q = q} f e g h) = accepts_not_refuses loaded p a n q i f
    eleven_never room (t', v', same_cuts h c l e f g) = let z : ◌≡◌ {A = ℕ} 0 1 = cc in omega arith
    eleven_never room (t', v', first_witness h c l k e f g) = let z : ◌≡◌ {A = ℕ} 0 1 = cc in omega arith
    eleven_never room (t', v', no_slot h c l e f g) = let z : ◌≡◌ {A = ℕ} 11 10 = cc in omega arith
    eleven_never room (t', v', no_room {a = b} {L = L} h c l k e f g) =
        let few : length L < slots (form_of (write_out loaded a)) (length t) = subst (λ x. length L < slots (form_of (write_out loaded x)) (length t)) (one_tree loaded p b a h i) l in
        omega (arith, witness_length (write_out loaded b) (write_out_numbered loaded b) c)

    -- Where the first line cut differently is too long, the verdict is withheld.
    too_long : Longer (write_out loaded a) (length v) → Refused loaded p t v 10 ⊎ Refused loaded p t v 11
    too_long (w, c, l) = go (check (write_out loaded a) (write_out_numbered loaded a) (slots (form_of (write_out loaded a)) (length t)))
      where
        go : SearchEnd (write_out loaded a) (slots (form_of (write_out loaded a)) (length t)) → Refused loaded p t v 10 ⊎ Refused loaded p t v 11
        go (alike L h b) = absurd (alike_none (write_out loaded a) (write_out_numbered loaded a) b w c.bytes c.cut)
        go (unlike L u h b) =
            let e = first_unique (write_out loaded a) (write_out_numbered loaded a) c (first_cut (write_out loaded a) (write_out_numbered loaded a) b) in
            inr (onto t (records (form_of (write_out loaded a)) (standing (write_out loaded a)) (L ++ (u ∷ []))), v, no_room i b h (omega (arith, ap length e)) refl refl refl)
        go (full L h b) = inl (onto t (records (form_of (write_out loaded a)) (standing (write_out loaded a)) L), v, no_slot i b h refl refl refl)

    pub eleven : Refused loaded p t v 11 ↔ ((Outnumber (write_out loaded a) (slots (form_of (write_out loaded a)) (length t)) → ⊥) × Longer (write_out loaded a) (length v))
    eleven = (eleven_only, λ h. either (λ x. absurd (h.0 (ten_only x))) (λ x. x) (too_long h.1))

    -- A verdict is withheld exactly if the distinct standings outnumber the slots, or the first line cut differently is longer than the buffer.
    pub withheld : (Refused loaded p t v 10 ⊎ Refused loaded p t v 11) ↔ (Outnumber (write_out loaded a) (slots (form_of (write_out loaded a)) (length t)) ⊎ Longer (write_out loaded a) (length v))
    withheld = (
      either (λ x. inl (ten_only x)) (λ x. inr (eleven_only x).1),
      either (λ x. inl (ten_if x)) too_long,
    )

  -- The buffers keep their lengths.
  pub kept : {x : Result} {t' v' : List ℕ} → Found loaded p t v x t' v' → (length t' ≡ length t) × (length v' ≡ length v)
  kept (not_read h e f g) = (ap length f, ap length g)
  kept (same_cuts {a = a} {L = L} h c l e f g) = (ap length f ∙ fits t (write_out loaded a) L l, ap length g)
  kept (first_witness {a = a} {L = L} {w = w} h c l k e f g) = (ap length f ∙ fits t (write_out loaded a) (L ++ (w ∷ [])) (omega (arith, snoc_size L w)), ap length g ∙ onto_length v w k)
  kept (no_slot {a = a} {L = L} h c l e f g) = (ap length f ∙ fits t (write_out loaded a) L (omega arith), ap length g)
  kept (no_room {a = a} {L = L} {w = w} h c l k e f g) = (ap length f ∙ fits t (write_out loaded a) (L ++ (w ∷ [])) (omega (arith, snoc_size L w)), ap length g)
