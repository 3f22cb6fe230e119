-- How much looking a check takes: one answer for each pattern and table, and without a witness one look for each record and each group.
-- Assumes nothing.
use mathlib.Core.Path.{◌≡◌, refl, sym, ap, ◌∙◌, subst}
use Prim.Native.Nat.{ℕ, ◌*◌, ◌≤◌, ◌<◌}
use mathlib.Core.Logic.{◌⊎◌, inl, inr}
use mathlib.Core.List.{List, []}
use native.Mathlib.Omega.{arith}
use Rattle.std.proofs.Common.{Ok}
use native.Mathlib.Nat.{mul-le-mul, min-eq_left, zero-mul}
use lib.ListN.{length}
use Rattle.theory.specs.Pattern.{Re}
use Rattle.theory.specs.Standing.{standing}
use Rattle.theory.specs.Records.{Alike}
use Rattle.theory.proofs.Tests.{either}
use Rattle.extends.specs.Extends.{NoneExtends}
use Rattle.grammar.specs.Grammar.{Alternation}
use Rattle.grammar.specs.Loaded.{Accepts}
use Rattle.grammar.specs.WriteOut.{write_out}
use Rattle.grammar.proofs.Loaded.{one_tree, accepts_not_refuses}
use Rattle.grammar.proofs.Size.{write_out_numbered}
use Rattle.verdict.specs.Record.{Form, form_of}
use Rattle.verdict.specs.Table.{slots}
use Rattle.verdict.specs.Tabled.{alike, whole}
use Rattle.verdict.specs.Area.{area_bytes}
use Rattle.verdict.specs.Checked.{Checked}
use Rattle.verdict.specs.Code.Found.{Found, not_read, same_cuts, first_witness, no_slot, no_room}
use Rattle.verdict.proofs.Tables.{slots_most}
use Rattle.verdict.proofs.One.{result}
use Rattle.verdict.proofs.Tabled.{tabled_found}
use Rattle.verdict.proofs.Demand.{short_area, test_fails, alike_means}
use Rattle.groups.specs.Numbers.{shares, groups_of}
use Rattle.groups.proofs.Numbers.{few_groups}
use Rattle.search.specs.declared.Looking.{Looking}
use Rattle.search.specs.Looking.{saturated, Takes}
use Rattle.search.proofs.Totals.{takes_one, looks_alike}
use Rattle.checker.specs.declared.Report.{Report}
use Rattle.checker.specs.declared.Verdict.TheVariants.{Alike as AlikeVerdict}
use Rattle.checker.specs.Verdicts.{result_of}
use Rattle.checker.specs.Looking.{LooksFor, unread, unsearched, searched, Reports}

-- A check goes without a search, or there is one.
unsearched_only : (loaded p s : List ℕ) (a b : Alternation) → Accepts loaded p a → Accepts loaded p b → (length s < area_bytes) ⊎ NoneExtends (write_out loaded a) → area_bytes ≤ length s → (NoneExtends (write_out loaded b) → ⊥) → ⊥
unsearched_only loaded p s a b reads also c room fails = either (λ l. omega arith) (λ none. fails (subst (λ x. NoneExtends (write_out loaded x)) (one_tree loaded p a b reads also) none)) c

module _ {loaded p t s : List ℕ} where
  -- THE LOOKING IS ONE: for every pattern, table and area, exactly this.
  pub looks_one : {y z : Looking} → LooksFor loaded p t s y → LooksFor loaded p t s z → y ≡ z
  looks_one (unread f) (unread g) = refl
  looks_one (unread f) (unsearched reads c) = refl
  looks_one (unread {n = n} {q = q} f) (searched {a = a} reads l h x) = absurd (accepts_not_refuses loaded p a n q reads f)
  looks_one (unsearched reads c) (unread f) = refl
  looks_one (unsearched reads c) (unsearched also d) = refl
  looks_one (unsearched {a = a} reads c) (searched {a = b} also l h x) = absurd (unsearched_only loaded p s a b reads also c l h)
  looks_one (searched {a = a} reads l h x) (unread {n = n} {q = q} f) = absurd (accepts_not_refuses loaded p a n q reads f)
  looks_one (searched {a = a} reads l h x) (unsearched {a = b} also c) = absurd (unsearched_only loaded p s b a also reads c l h)
  looks_one (searched {a = a} {y = y} reads l h x) (searched {a = b} {y = z} also m k u) =
      takes_one (write_out loaded a) (slots (form_of (write_out loaded a)) (length t)) (write_out_numbered loaded a) x (subst (λ c. Takes (write_out loaded c) (slots (form_of (write_out loaded c)) (length t)) z) (one_tree loaded p b a also reads) u)

-- Fewer than 2 to the power of 24.
not_saturated : (f : Form) (r : Re) (n m : ℕ) → n ≤ slots f m → saturated (n * (groups_of r).count) ≡ n * (groups_of r).count
not_saturated f r n m h =
    let few : (groups_of r).count ≤ 256 = few_groups (shares r) in
    let slotted : n ≤ 65535 = omega (arith, slots_most f m) in
    let most : n * (groups_of r).count ≤ 65535 * 256 = mul-le-mul slotted few in
    min-eq_left (omega arith)

-- ALIKE: as many looks as records times groups, and so none where there are no records.
pub check_looks : {loaded p t v s t' v' s' : List ℕ} {x : Report} {n : ℕ} (a : Alternation) → Accepts loaded p a → Reports loaded p t v s x t' v' s' → x.verdict ≡ Ok (AlikeVerdict n)
    → x.looking.looks ≡ n * (groups_of (write_out loaded a)).count
check_looks {loaded} {p} {t} {v} {s} {t'} {v'} {s'} {x} {n} a reads r e = go r.looks
  where
    checks : Checked loaded p t v s (whole (alike n) t' v') s'
    checks = subst (λ y. Checked loaded p t v s (whole (result_of y) t' v') s') e r.checks

    looks : {y : Looking} (L : List (List ℕ)) → n ≡ length L → Alike (standing (write_out loaded a)) L → length L ≤ slots (form_of (write_out loaded a)) (length t) → Takes (write_out loaded a) (slots (form_of (write_out loaded a)) (length t)) y
        → y.looks ≡ n * (groups_of (write_out loaded a)).count
    looks L f all fits took =
        let (k, l, i) = all.complete [] tt in
        looks_alike (write_out loaded a) (slots (form_of (write_out loaded a)) (length t)) (write_out_numbered loaded a) all (omega arith) fits took
        ∙ ap (λ i. saturated (i * (groups_of (write_out loaded a)).count)) (sym f)
        ∙ not_saturated (form_of (write_out loaded a)) (write_out loaded a) n (length t) (omega arith)

    by_records : {y : Looking} → Takes (write_out loaded a) (slots (form_of (write_out loaded a)) (length t)) y → Found loaded p t v (alike n) t' v' → y.looks ≡ n * (groups_of (write_out loaded a)).count
    by_records took (not_read f i b d) = absurd (let z : ◌≡◌ {A = ℕ} 0 1 = cc in omega arith)
    by_records took (same_cuts {a = b} {L = L} also all fits i h d) =
        let f : n ≡ length L = cc in
        let one = one_tree loaded p b a also reads in
        looks L f (subst (λ c. Alike (standing (write_out loaded c)) L) one all) (subst (λ c. length L ≤ slots (form_of (write_out loaded c)) (length t)) one fits) took
    by_records took (first_witness j k l m i b d) = absurd (let z : ◌≡◌ {A = ℕ} 0 1 = cc in omega arith)
    by_records took (no_slot j k l i b d) = absurd (let z : ◌≡◌ {A = ℕ} 0 1 = cc in omega arith)
    by_records took (no_room j k l m i b d) = absurd (let z : ◌≡◌ {A = ℕ} 0 1 = cc in omega arith)

    none : (m : ℕ) → n ≡ 0 → 0 ≡ n * m
    none m z = sym (ap (λ k. k * m) z ∙ zero-mul m)

    go : {y : Looking} → LooksFor loaded p t s y → y.looks ≡ n * (groups_of (write_out loaded a)).count
    go (unread {n = m} {q = q} f) = absurd (accepts_not_refuses loaded p a m q reads f)
    go (unsearched {a = b} also (inl l)) = let f = ap result ((short_area a reads l).0 checks).0 in absurd (let z : ◌≡◌ {A = ℕ} 0 1 = cc in omega arith)
    go (unsearched {a = b} also (inr h)) = none _ ((alike_means a reads checks).2.1 (subst (λ c. NoneExtends (write_out loaded c)) (one_tree loaded p b a also reads) h))
    go (searched {a = b} {y = y} also room fails took) =
        let one = one_tree loaded p b a also reads in
        let fail = subst (λ c. NoneExtends (write_out loaded c) → ⊥) one fails in
        by_records (subst (λ c. Takes (write_out loaded c) (slots (form_of (write_out loaded c)) (length t)) y) one took) (tabled_found ((test_fails a reads room fail).0 checks).0)
