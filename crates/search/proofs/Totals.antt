-- The looking of a whole search: there is one answer, and without a witness each record is carried on by each group.
-- Assumes nothing.
use mathlib.Core.Path.{◌≡◌, ap, ap₂, ◌∙◌}
use Prim.Native.Nat.{ℕ, ◌*◌, ◌≤◌, ◌<◌}
use mathlib.Core.List.{List, [], ◌∷◌, ◌++◌}
use mathlib.Core.Option.{none}
use native.Mathlib.Omega.{arith}
use native.Mathlib.Nat.{suc-mul}
use lib.ListN.{length, length-append, length-map}
use Rattle.theory.specs.Pattern.{Re, Numbered}
use Rattle.theory.specs.Standing.{standing}
use Rattle.theory.specs.Records.{Alike, all_records}
use Rattle.verdict.proofs.Tabled.{needs_one, needs_some}
use Rattle.groups.specs.Numbers.{shares, lowest_bytes, groups_of}
use Rattle.search.specs.declared.Looking.{Looking}
use Rattle.search.specs.Looking.{carried_by, carried, looked_for, saturated, looking_for, Takes, takes}
use Rattle.search.proofs.Tallies.{looked_fitting}

-- EVERY SEARCH TAKES ONE AMOUNT OF LOOKING,
pub takes_one : (r : Re) (m : ℕ) {y z : Looking} → Numbered 0 r → Takes r m y → Takes r m z → y ≡ z
takes_one r m d (takes x) (takes u) = let (e, f) = needs_one r d x u in ap₂ (λ L w. looking_for r (looked_for r m L w)) e f

pub takes_some : (r : Re) (m : ℕ) → Numbered 0 r → (y : Looking) × Takes r m y
takes_some r m d = let (L, w, needs) = needs_some r d in (looking_for r (looked_for r m L w), takes needs)

carried_size : (C : List ℕ) (L : List (List ℕ)) → length (carried C L) ≡ length L * length C
unfolding carried
carried_size C [] = omega arith
carried_size C (u ∷ L) =
    let more : length (carried_by C u) ≡ length C = length-map C (λ c. u ++ (c ∷ [])) in
    omega (arith, length-append (carried_by C u) (carried C L), more, carried_size C L, suc-mul (length L) (length C))

-- AND WITHOUT A WITNESS there is a look for each record and each group.
pub looks_alike : (r : Re) (m : ℕ) {y : Looking} {L : List (List ℕ)} → Numbered 0 r → Alike (standing r) L → 0 < m → length L ≤ m → Takes r m y → y.looks ≡ saturated (length L * (groups_of r).count)
looks_alike r m {y} {L} d a h fits x =
    ap (λ z. z.looks) (takes_one r m d x (takes (all_records a)))
    ∙ ap (λ W. saturated (length W)) (looked_fitting r m L none h fits)
    ∙ ap saturated (carried_size (lowest_bytes (shares r)) L)
