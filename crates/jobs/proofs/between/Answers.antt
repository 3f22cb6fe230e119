-- `jobs::between` takes the part that the text has.
use Rattle.std.proofs.Common.{◌≡◌, sym, ap, ◌∙◌, List, ℕ, ◌+◌, ◌-◌, ◌<◌, arith, length, get_or, take, drop, length-take, length-drop}
use Prim.Native.Nat.{min}
use lib.Seq.{ext_get_or, get_or-take, get_or-drop}
use Rattle.jobs.specs.Job.{between}
use Rattle.jobs.proofs.between.Goals as goal

-- The same part by places that the text has.
part : (s : List ℕ) (a e k m : ℕ) → m ≡ min e (length s) → k ≡ min a m → take (m - k) (drop k s) ≡ between a e s
part s a e k m p q =
    let left : length (take (m - k) (drop k s)) ≡ m - k = simp (length-take, length-drop) (omega arith) in
    let right : length (between a e s) ≡ m - k = simp (length-take, length-drop) (omega arith) in
    ext_get_or 0 (take (m - k) (drop k s)) (between a e s) (left ∙ sym right) λ i h.
    let here : k ≡ a = omega arith in
    let inside : a + i < e = omega arith in
    get_or-take (m - k) (drop k s) i 0 (omega arith) ∙ get_or-drop k s i 0 ∙ ap (λ n. get_or s (n + i) 0) here ∙ sym (get_or-drop a (take e s) i 0 ∙ get_or-take e s (a + i) 0 inside)

pub returns : goal.returns
returns c = record { part = part c.args.text.now c.args.from c.args.to c.min.result c.min-end.result c.min-end.ensures c.min.ensures }
