-- Lists of outcomes in an array: one outcome more keeps them good. An outcome keeps the fields that it came with first.
-- Assumes nothing.
use mathlib.Core.Path.{◌≡◌, refl, sym, ap, ◌∙◌, subst}
use Prim.Native.Nat.{ℕ, suc, ◌+◌, ◌≤◌, ◌<◌}
use mathlib.Core.Bool.{Bool, true, false, ◌||◌}
use mathlib.Core.List.{List, [], ◌∷◌, ◌++◌}
use native.Mathlib.Omega.{arith}
use native.Mathlib.Decide.{ℕ_discrete}
use native.Mathlib.Numerals.{add-one}
use lib.ListN.{length, get_or, set, take, replicate, length-set, length-append, length-replicate}
use lib.Seq.{take-suc-set, length-take-le, get_or-set_same, get_or-set_other}
use lib.Dec.{T, eqb, eqb→eq, eqb_refl, eqb-suc-suc, eqb-zero-suc, eqb-suc-zero}
use borrow.Author.Tests.{ne_eqb}
use Rattle.theory.specs.Standing.{member, gather, once, from}
use Rattle.theory.specs.Code.Members.{Once, nil}
use Rattle.theory.proofs.Tests.{T_true, or_cases, or_false, either}
use Rattle.theory.proofs.Members.{Within, gather_append, gather_member, member_from, length_from, once_gather, once_size}
use Rattle.theory.proofs.Closure.{gather_once}
use Rattle.traces.specs.Traces.{Carried}
use Rattle.traces.specs.Code.Pass.{Sets, item, items}
use Rattle.traces.specs.Code.Marks.{Shows, carried_by, sets_of}
use Rattle.words.specs.Sets.{has_bit, with_leaf}
use Rattle.words.proofs.Bits.{no_bit, with_bit}
use Rattle.follow.specs.declared.outcomes.Outcomes.{Outcomes}
use Rattle.follow.specs.Good.{Good}
use Rattle.follow.specs.Outcomes.{listed, Lists, Added}
use Rattle.follow.proofs.Items.{once_append, sets_append}

-- The empty list in arrays of zeros.
abbrev zeros : List ℕ
zeros = replicate 65 0

pub none_good : Good zeros zeros 0 0 false
none_good =
    record {
      long = length-replicate {A = ℕ} 65 0;
      wide = length-replicate {A = ℕ} 65 0;
      room = omega arith;
      each = refl;
      small = λ q t. absurd t;
      set = λ q h. no_bit q;
      end = refl;
    }

pub none_lists : (x : Outcomes) → x.len ≡ 0 → Lists x []
none_lists x e = record { are = rw e; marked = λ q t. absurd (rw e at t) }

pub holds_end : (x : Outcomes) (p : ℕ) → p ≡ 0 → x.end ≡ member p (listed x)
holds_end x p e = rw e x.good.end

pub holds_leaf : (x : Outcomes) (p q : ℕ) → p ≤ 64 → p ≡ suc q → has_bit x.set q ≡ member p (listed x)
holds_leaf x p q h e = rw e (x.good.set q (omega arith))

-- The list x is the list l.
module _ {x : Outcomes} {l : List (Carried Sets)} (is : Lists x l) where
  pub member_is : (q : ℕ) → member q (listed x) ≡ member q (items l)
  member_is q = rw is.are (gather_member q [] (items l))

  once_more : (m : List (Carried Sets)) → once (items (l ++ m)) ≡ gather (listed x) (items m)
  once_more m = once_append l m ∙ ap (λ v. gather v (items m)) (sym is.are)

  sets_had : (q : ℕ) (m : List (Carried Sets)) → T (member q (listed x)) → sets_of q (l ++ m) ≡ sets_of q l
  sets_had q m t = let e : member q (items l) ≡ true = sym (member_is q) ∙ T_true (member q (listed x)) t in sets_append q l m ∙ rw e

  sets_new : (q : ℕ) (m : List (Carried Sets)) → member q (listed x) ≡ false → sets_of q (l ++ m) ≡ sets_of q m
  sets_new q m f = let e : member q (items l) ≡ false = sym (member_is q) ∙ f in sets_append q l m ∙ rw e

-- What has each number once still has after `gather`.
each_gather : (s l : List ℕ) → once s ≡ s → once (gather s l) ≡ gather s l
each_gather s l h = let e : once (s ++ l) ≡ gather s l = gather_append [] s l ∙ ap (λ v. gather v l) h in rw e at (gather_once [] (s ++ l))

-- One number more.
module _ (x : Outcomes) (p : ℕ) (h : p ≤ 64) where
  small_more : (q : ℕ) → T (member q (gather (listed x) (p ∷ []))) → q ≤ 64
  small_more q t =
      either (λ m. x.good.small q m)
      (λ m. let e = eqb→eq q p (rw (or_false (eqb q p)) at m) in omega arith)
      (or_cases (member q (listed x)) (member q (p ∷ [])) (rw (gather_member q (listed x) (p ∷ [])) at t))

  more_size : length (gather (listed x) (p ∷ [])) ≤ 65
  more_size =
      let o : Once (listed x) = subst Once x.good.each (once_gather [] (listed x) nil) in
      let within : Within (gather (listed x) (p ∷ [])) (from 0 65) = λ q t. let s = small_more q t in member_from q 0 65 (omega arith) (omega arith) in
      omega (arith, once_size (once_gather (listed x) (p ∷ []) o) (from 0 65) within, length_from 0 65)

  module _ (n : member p (listed x) ≡ false) where
    appended : gather (listed x) (p ∷ []) ≡ listed x ++ (p ∷ [])
    appended = rw n

    pub fits : x.len < 65
    fits =
        omega (arith, more_size, ap length appended, length-append (listed x) (p ∷ []), length-take-le x.len x.items (omega (arith, x.good.room, x.good.long)))

    module _ (b : ℕ) where
      are : take (x.len + 1) (set x.items x.len p) ≡ gather (listed x) (p ∷ [])
      are = rw (appended, add-one, take-suc-set x.items x.len p (omega (arith, fits, x.good.long)))

      has : (q : ℕ) → member q (gather (listed x) (p ∷ [])) ≡ (member q (listed x) || eqb q p)
      has q = gather_member q (listed x) (p ∷ []) ∙ ap (λ c. member q (listed x) || c) (or_false (eqb q p))

      -- It is a list again, with these bits and this flag.
      abbrev Holds : ℕ → Bool → Type 0
      Holds bits ended = Good (set x.items x.len p) (set x.fields p b) (x.len + 1) bits ended

      holds : (bits : ℕ) (ended : Bool) → ((q : ℕ) → q < 64 → has_bit bits q ≡ (has_bit x.set q || eqb (suc q) p)) → ended ≡ (member 0 (listed x) || eqb 0 p) → Holds bits ended
      holds bits ended hb he =
          record {
            long = length-set x.items x.len p ∙ x.good.long;
            wide = length-set x.fields p b ∙ x.good.wide;
            room = omega (arith, fits);
            each = rw are (each_gather (listed x) (p ∷ []) x.good.each);
            small = rw are small_more;
            set = λ q l. rw (are, hb q l, x.good.set q l) (sym (has (suc q)));
            end = rw (are, he) (sym (has 0));
          }

      pub end_holds : p ≡ 0 → Holds x.set true
      end_holds e =
          let f : member 0 (listed x) ≡ false = rw e at n in
          holds x.set true (λ q l. rw (e, eqb-suc-zero q) (sym (or_false (has_bit x.set q)))) (rw (e, f))

      pub leaf_holds : (q bits : ℕ) → p ≡ suc q → bits ≡ with_leaf x.set q → Holds bits x.end
      leaf_holds q bits e w =
          holds bits x.end (λ k l. rw (e, eqb-suc-suc k q, w) (with_bit x.set q k (omega (arith, h)))) (rw (e, eqb-zero-suc q, or_false (member 0 (listed x))) x.good.end)

      pub append_added : (r : Outcomes) → r.items ≡ set x.items x.len p → r.fields ≡ set x.fields p b → r.len ≡ x.len + 1 → Added x p b r
      append_added r ri rf rl = record { lists = lists }
        where
          lists : (l : List (Carried Sets)) (o : Carried Sets) → Lists x l → item o ≡ p → Shows b (carried_by o) → Lists r (l ++ (o ∷ []))
          lists l o is e s = record { are = rw (rl, ri, are) (ap (λ q. gather (listed x) (q ∷ [])) (sym e) ∙ sym (once_more is (o ∷ []))); marked = λ q t. rw rf (go q (ℕ_discrete q p) (rw (rl, ri, are, has q) at t)) }
            where
              go : (q : ℕ) → Dec (q ≡ p) → T (member q (listed x) || eqb q p) → Shows (get_or (set x.fields p b) q 0) (sets_of q (l ++ (o ∷ [])))
              go q (yes d) t = rw (d, get_or-set_same x.fields p b 0 (omega (arith, x.good.wide)), sets_new is p (o ∷ []) n, e, T_true (eqb p p) (eqb_refl p)) s
              go q (no d) t =
                  let m : T (member q (listed x)) = rw (ne_eqb q p d, or_false (member q (listed x))) at t in
                  rw (get_or-set_other x.fields p q b 0 d, sets_had is q (o ∷ []) m) (is.marked q m)

  pub add_held : {b : ℕ} → member p (listed x) ≡ true → Added x p b x
  add_held e = record {
    lists = λ l o is i s. record { are = rw (i, e) at (sym (once_more is (o ∷ []))); marked = λ q t. rw (sets_had is q (o ∷ []) t) (is.marked q t) };
  }
