-- The search's loops: through the lowest bytes of the groups, and through the records.
-- Assumes nothing.
use mathlib.Core.Path.{◌≡◌, refl, sym, ap, ◌∙◌, subst}
use mathlib.Core.Bool.{Bool, false}
use Prim.Native.Nat.{ℕ, zero, suc, ◌+◌, ◌-◌, ◌≤◌, ◌<◌}
use mathlib.Core.List.{List, [], ◌∷◌}
use native.Mathlib.Omega.{arith}
use types.Run.{OneOf}
use denote.Enum.Declared.{tag_of}
use Rattle.std.proofs.Common.{Ok, Err}
use lib.ListN.{length, get_or, take}
use lib.Seq.{take_at}
use Rattle.theory.specs.Pattern.{Re, Numbered}
use Rattle.theory.specs.Standing.{standing}
use Rattle.theory.specs.Records.{at}
use Rattle.theory.proofs.Tests.{T_true, either}
use Rattle.theory.proofs.Search.{trace_place}
use Rattle.theory.proofs.Records.{carries}
use Rattle.verdict.specs.Record.{form_of}
use Rattle.standing.specs.declared.Standing.{Standing}
use Rattle.standing.specs.Stands.{Arrays, Lent}
use Rattle.groups.specs.Numbers.{shares, is_lowest, lowest_bytes, groups_by, groups_of}
use Rattle.groups.specs.Turns.{same}
use Rattle.groups.proofs.Numbers.{lower_one, lowest_byte, edge, edge_below, between, shares_is}
use Rattle.groups.proofs.Laws.{mask_groups}
use Rattle.records.specs.Packing.{Unpacked}
use Rattle.verdict.specs.Code.Held.{held}
use Rattle.table.specs.Slots.{slot_count, loaded}
use Rattle.table.proofs.Laws.{slot_there}
use Rattle.search.specs.declared.Progress.{Progress}
use Rattle.search.specs.declared.Progress.TheVariants.{Clear}
use Rattle.search.specs.contracts.Progress.{the_type}
use Rattle.search.specs.declared.Stop.{Stop}
use Rattle.search.specs.declared.Stop.TheVariants.{Witness, Full}
use Rattle.search.specs.declared.Looking.{Looking}
use Rattle.search.specs.declared.Course.{Course}
use Rattle.search.specs.Looking.{no_looking, Takes}
use Rattle.search.specs.Ends.{AllFound}
use Rattle.search.specs.Turns.{Searching, Working, Slotted, Within, Grouping, progress_of, course_of, CameTo, Turned, Worked, Run}
use Rattle.search.proofs.Looks.{all_inside, slot_record}
use Rattle.search.proofs.Turns.{passed_turn, next_record, all_found}

-- What is told where an answer is neither of the other cases.
pub not_clear : {p : Progress} → OneOf (1 ∷ 2 ∷ []) (tag_of the_type p) → (j : ℕ) → p ≡ Clear j → ⊥
not_clear h j e = either (λ x. go x) (λ x. go x) (subst (λ q. OneOf (1 ∷ 2 ∷ []) (tag_of the_type q)) e h)
  where
    go : {n : ℕ} → 0 ≡ suc n → ⊥
    go x = omega arith

-- A search that has ended is where it is, whatever would hold of one that goes on.
pub stopped : (r : Re) (t₀ t : List ℕ) (y : Looking) (P Q : ℕ → Type 0) (e : Stop) (n : ℕ) → CameTo r t₀ t y P (progress_of (Err e) n) → CameTo r t₀ t y Q (progress_of (Err e) n)
stopped r t₀ t y P Q Witness n x = x
stopped r t₀ t y P Q Full n x = x

stopped_within : (m n k : ℕ) (e : Stop) → Within m n (progress_of (Err e) k)
stopped_within m n k Witness = tt
stopped_within m n k Full = tt

-- The search never goes beyond the bytes.
edge_most : (share : ℕ → ℕ → Bool) (j : ℕ) → j ≤ length (lowest_bytes share) → edge share j ≤ 256
edge_most share zero h = omega arith
edge_most share (suc j) h = (lowest_byte share j h).0

-- Bytes that are not the lowest of their groups are passed over.
module _ {r : Re} (d : Numbered 0 r) {t₀ : List ℕ} {s : Standing} {q n : ℕ} {y : Looking} {t : List ℕ} where
  -- One adds nothing, since a lower byte shares its group;
  pass_byte : (c : ℕ) → c < 256 → is_lowest (shares r) c ≡ false → Working r t₀ s q c n y t → Working r t₀ s q (suc c) n y t
  pass_byte c byte e w = let (b, lower, alike) = lower_one (shares r) c e in passed_turn d w byte b lower ((shares_is r b c).0 alike) e

  -- nor do those from c on and below e.
  pass_bytes : (k c e : ℕ) → c + k ≡ e → e ≤ 256 → ((b : ℕ) → c ≤ b → b < e → is_lowest (shares r) b ≡ false) → Working r t₀ s q c n y t → Working r t₀ s q e n y t
  pass_bytes zero c e i h none w = let here : c ≡ e = omega arith in subst (λ x. Working r t₀ s q x n y t) here w
  pass_bytes (suc k) c e i h none w =
      pass_bytes k (suc c) e (omega arith) h (λ b g. none b (omega arith)) (pass_byte c (omega arith) (none c (omega arith) (omega arith)) w)

  -- After the first j of the lowest bytes the search comes to the next of them,
  to_lowest : (j : ℕ) → j < length (lowest_bytes (shares r)) → Working r t₀ s q (edge (shares r) j) n y t → Working r t₀ s q (get_or (lowest_bytes (shares r)) j 0) n y t
  to_lowest j h w =
      let c : ℕ = get_or (lowest_bytes (shares r)) j 0 in
      let byte : c < 256 = (lowest_byte (shares r) j h).0 in
      let below : edge (shares r) j ≤ c = edge_below (shares r) j h in
      pass_bytes (c - edge (shares r) j) (edge (shares r) j) c (omega arith) (omega arith) (λ b g i. between (shares r) j b (omega arith) g (omega arith) (λ _. i)) w

  -- and after all of them to the end.
  to_end : (j : ℕ) → j ≡ length (lowest_bytes (shares r)) → Working r t₀ s q (edge (shares r) j) n y t → Working r t₀ s q 256 n y t
  to_end j h w =
      let most : edge (shares r) j ≤ 256 = edge_most (shares r) j (omega arith) in
      pass_bytes (256 - edge (shares r) j) (edge (shares r) j) 256 (omega arith) (omega arith) (λ b g i. between (shares r) j b (omega arith) g i (λ k. absurd (omega arith))) w

-- The groups of the masks are the pattern's.
module _ {r : Re} {a : Arrays} (l : Lent r a) {low : List ℕ} (known : Grouping a.masks low) where
  pattern_groups : groups_by (same a.masks) ≡ groups_of r
  pattern_groups = mask_groups r a.masks (λ b p i j. sym (l.masked b p i j)) l.spare

  low_is : low ≡ lowest_bytes (shares r)
  low_is = known ∙ ap (λ g. take g.count g.lowest) pattern_groups ∙ take_at (lowest_bytes (shares r)) _ (length (lowest_bytes (shares r))) refl

  group_count : length low ≡ length (lowest_bytes (shares r))
  group_count = ap length low_is

  group_lowest : (j : ℕ) → get_or low j 0 ≡ get_or (lowest_bytes (shares r)) j 0
  group_lowest j = ap (λ z. get_or z j 0) low_is

-- Record q is carried on by the first j of the lowest bytes, and so by all bytes before the next; the table, t₁ before, has k records, and the looking, y₁ before, is y.
pub record AtGroup (a : Arrays) (low : List ℕ) (q n w m : ℕ) (y₁ : Looking) (t₁ : List ℕ) (s : Standing) (j k : ℕ) (y : Looking) (t : List ℕ) : Type 0 where
  pub groups : j ≤ length low
  pub within : n ≤ m → k ≤ m
  pub works : Grouping a.masks low → {r : Re} {t₀ : List ℕ} → Lent r a → Slotted r t₀ w m → q < n → Searching r t₀ q 0 n y₁ t₁ → Working r t₀ s q (edge (shares r) j) k y t

-- The records before q are carried on; the table, t₁ with record 0, has k records, and the looking is y.
pub record AtRecord (a : Arrays) (known : Type 0) (w m : ℕ) (t₁ : List ℕ) (q k : ℕ) (y : Looking) (t : List ℕ) : Type 0 where
  pub slot : 0 < m
  pub within : k ≤ m
  pub found : known → {r : Re} {t₀ : List ℕ} → Lent r a → Slotted r t₀ w m → Searching r t₀ 0 0 1 no_looking t₁ → Searching r t₀ q 0 k y t

module _ {a : Arrays} where
  module _ {low : List ℕ} {q n w m : ℕ} {y₁ : Looking} {t₁ : List ℕ} where
    pub group_start : {s : Standing} → Unpacked (loaded w t₁ q) s → AtGroup a low q n w m y₁ t₁ s 0 n y₁ t₁
    group_start u = record {
      groups = omega arith;
      within = λ g. g;
      works = λ known {r} l e i x.
          let here : q < length x.lines = omega (arith, x.size) in
          let there : q < slot_count (form_of r).bytes (length t₁) = omega (arith, all_inside r x.holds l.most) in
          let is = ap (λ z. loaded z t₁ q) e.width ∙ slot_there (form_of r).bytes t₁ q _ _ there ∙ ap held (slot_record r x.holds q here) in
          record { state = x; inside = i; stands = u.stands (at x.lines q) _ _ l.numbered l.most is };
    }

    -- The next of the lowest bytes is tried.
    module _ {s : Standing} {j k : ℕ} {y : Looking} {t t' : List ℕ} (h : j < length low) (b : AtGroup a low q n w m y₁ t₁ s j k y t) {x : Course} (turned : Turned a s q (get_or low j 0) k w m y t x t') where
      tried : Grouping a.masks low → {r : Re} {t₀ : List ℕ} → Lent r a → Slotted r t₀ w m → q < n → Searching r t₀ q 0 n y₁ t₁
          → CameTo r t₀ t' x.looking (λ z. Working r t₀ s q (edge (shares r) (suc j)) z x.looking t') x.progress
      tried known {r} l f i z =
          let there : j < length (lowest_bytes (shares r)) = omega (arith, group_count l known) in
          let (byte, lowest) = lowest_byte (shares r) j there in
          (subst (λ c. Turned a s q c k w m y t x t') (group_lowest l known j) turned).leads l f byte (T_true _ lowest) (to_lowest l.numbered j there (b.works known l f i z))

    module _ {s : Standing} {j k : ℕ} {y : Looking} {t t' : List ℕ} (h : j < length low) (b : AtGroup a low q n w m y₁ t₁ s j k y t) where
      pub group_step : {u : Unit {0}} {o : ℕ} {y' : Looking} → Turned a s q (get_or low j 0) k w m y t (course_of (Ok u) o y') t' → AtGroup a low q n w m y₁ t₁ s (j + 1) o y' t'
      group_step {o = o} {y'} turned =
          let more : suc j ≡ j + 1 = omega arith in
          record {
            groups = omega arith;
            within = λ i. turned.within (b.within i);
            works = λ u {r} {t₀} l f i z. subst (λ i. Working r t₀ s q (edge (shares r) i) o y' t') more (tried h b turned u l f i z);
          }

      -- The search ends within the record,
      pub group_stop : (e : Stop) (o : ℕ) {y' : Looking} → Turned a s q (get_or low j 0) k w m y t (course_of (Err e) o y') t' → Worked (Grouping a.masks low) a q n w m y₁ t₁ (course_of (Err e) o y') t'
      group_stop e o {y'} turned = record {
        within = stopped_within m n o e;
        leads = λ u {r} {t₀} l f i z. stopped r t₀ t' y' _ _ e o (tried h b turned u l f i z);
      }

    -- or goes through all its groups.
    pub group_end : {s : Standing} {j k : ℕ} {y : Looking} {t : List ℕ} {u : Unit {0}} → length low ≤ j → AtGroup a low q n w m y₁ t₁ s j k y t → Worked (Grouping a.masks low) a q n w m y₁ t₁ (course_of (Ok u) k y) t
    group_end {j = j} h b = record {
      within = b.within;
      leads = λ known l f i z. next_record l.numbered (to_end l.numbered j (omega (arith, b.groups, group_count l known)) (b.works known l f i z));
    }

  module _ {known : Type 0} {w m : ℕ} {t₁ : List ℕ} where
    pub record_start : {n : ℕ} {y : Looking} → 0 < m → n ≡ 1 → y ≡ no_looking → AtRecord a known w m t₁ 0 n y t₁
    record_start {n} {y} h one none = record {
      slot = h;
      within = omega arith;
      found = λ u {r} {t₀} l e x. subst (λ z. Searching r t₀ 0 0 n z t₁) (sym none) (subst (λ k. Searching r t₀ 0 0 k no_looking t₁) (sym one) x);
    }

    module _ {q k : ℕ} {y : Looking} {t t' : List ℕ} (h : q < k) (b : AtRecord a known w m t₁ q k y t) where
      pub record_step : {u : Unit {0}} {j : ℕ} {y' : Looking} → Worked known a q k w m y t (course_of (Ok u) j y') t' → AtRecord a known w m t₁ (q + 1) j y' t'
      record_step {j = j} {y'} worked =
          let more : suc q ≡ q + 1 = omega arith in
          record {
            slot = b.slot;
            within = worked.within b.within;
            found = λ u {r} {t₀} l f z. subst (λ i. Searching r t₀ i 0 j y' t') more (worked.leads u l f h (b.found u l f z));
          }

      pub record_stop : (e : Stop) (j : ℕ) {y' : Looking} → Worked known a q k w m y t (course_of (Err e) j y') t' → Run known a w m t₁ (course_of (Err e) j y') t'
      record_stop e j {y'} worked = record { leads = λ u {r} {t₀} l f z. stopped r t₀ t' y' _ _ e j (worked.leads u l f h (b.found u l f z)) }

    pub record_end : {q k : ℕ} {y : Looking} {t : List ℕ} {u : Unit {0}} → k ≤ q → AtRecord a known w m t₁ q k y t → Run known a w m t₁ (course_of (Ok u) k y) t
    record_end {q} {k} {y} {t} h b = record { leads = λ u l f z. go l f (b.found u l f z) }
      where
        go : {r : Re} {t₀ : List ℕ} → Lent r a → Slotted r t₀ w m → Searching r t₀ q 0 k y t → AllFound r t₀ k t × Takes r m y
        go {r} {t₀} l f x =
            let last : q ≡ k = either (λ i. absurd (omega (arith, x.size))) (λ i. i.0 ∙ x.size) (trace_place (standing r) (carries r l.numbered) 256 x.search) in
            let (found, taken) = all_found l.numbered (omega (arith, b.slot, f.number)) (subst (λ z. Searching r t₀ z 0 k y t) last x) in
            (found, subst (λ k. Takes r k y) (sym f.number) taken)
