-- Laws of `entered`: two lists of outcomes read one after the other, and that what it gives are the pass's threads.
-- Assumes nothing.
use mathlib.Core.Path.{◌≡◌, refl, sym, ap, ◌∙◌}
use mathlib.Core.Option.{Option, none, some}
use Prim.Native.Nat.{suc}
use mathlib.Core.Bool.{Bool, true, false, cond}
use mathlib.Core.List.{List, [], ◌∷◌, ◌++◌, append-nil, append_assoc}
use Rattle.theory.specs.Standing.{member}
use Rattle.theory.proofs.Closure.{up, up_append, member_up, zero_up}
use Rattle.traces.specs.Traces.{Carried, ends_at, wants}
use Rattle.traces.specs.Fields.{first_way}
use Rattle.traces.specs.Code.Pass.{Values, Thread, firsts, fronts}
use Rattle.threads.specs.Reads.{leaves_of, entered}

-- After an end nothing counts.
abbrev pub after_way : Option Thread → List Thread → List (Carried Values) → List Thread
after_way none ts m = entered ts m
after_way (some t) ts m = ts

pub entered_append : (ts : List Thread) (l m : List (Carried Values)) → entered ts (l ++ m) ≡ after_way (first_way l) (entered ts l) m
entered_append ts l m = go l ts
  where
    go : (l : List (Carried Values)) (ts : List Thread) → entered ts (l ++ m) ≡ after_way (first_way l) (entered ts l) m
    go [] ts = refl
    go (ends_at k v ∷ l) ts = refl
    go (wants p v ∷ l) ts = go l (cond (member p (leaves_of ts)) ts (ts ++ ((p, v) ∷ [])))

leaves_append : (ts us : List Thread) → leaves_of (ts ++ us) ≡ leaves_of ts ++ leaves_of us
leaves_append [] us = refl
leaves_append (t ∷ ts) us = ap (λ l. t.0 ∷ l) (leaves_append ts us)

-- What is entered comes after what is there, each leaf as it came first.
entered_firsts : (ts : List Thread) (l : List (Carried Values)) → entered ts l ≡ ts ++ fronts (firsts (up (leaves_of ts)) l)
entered_firsts ts [] = sym (append-nil ts)
entered_firsts ts (ends_at k v ∷ l) = rw (zero_up (leaves_of ts)) (sym (append-nil ts))
entered_firsts ts (wants p v ∷ l) = rw (member_up p (leaves_of ts)) (go (member p (leaves_of ts)) (entered_firsts ts l) (entered_firsts (ts ++ ((p, v) ∷ [])) l))
  where
    more : up (leaves_of (ts ++ ((p, v) ∷ []))) ≡ up (leaves_of ts) ++ (suc p ∷ [])
    more = ap up (leaves_append ts ((p, v) ∷ [])) ∙ up_append (leaves_of ts) (p ∷ [])

    go : (c : Bool) → entered ts l ≡ ts ++ fronts (firsts (up (leaves_of ts)) l)
        → entered (ts ++ ((p, v) ∷ [])) l ≡ (ts ++ ((p, v) ∷ [])) ++ fronts (firsts (up (leaves_of (ts ++ ((p, v) ∷ [])))) l)
        → entered (cond c ts (ts ++ ((p, v) ∷ []))) l ≡ ts ++ fronts (cond c (firsts (up (leaves_of ts)) l) (wants p v ∷ firsts (up (leaves_of ts) ++ (suc p ∷ [])) l))
    go true x y = x
    go false x y = y ∙ rw (more, append_assoc)

-- From nothing, they are the threads of the pass.
pub entered_fronts : (l : List (Carried Values)) → entered [] l ≡ fronts (firsts [] l)
entered_fronts l = entered_firsts [] l
