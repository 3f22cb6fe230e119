-- The answers to the lines of a chunk, with what is lent to the checker from one to the next.
-- Assumes nothing.
use mathlib.Core.Path.{◌≡◌, refl, ◌∙◌, subst}
use Prim.Native.Nat.{ℕ}
use mathlib.Core.List.{List}
use Rattle.printing.specs.declared.Output.{Output}
use Rattle.lines.specs.declared.Input.{Input}
use Rattle.lines.specs.Answers.{Served}
use Rattle.lines.proofs.Serving.{served_map}
use Rattle.answers.specs.declared.Buffers.{Buffers}
use Rattle.answers.specs.Answer.{Asked, Answer}

-- THE ANSWERS ARE ALL BY THE TABLE THAT IS LOADED, and by the buffers as the answer before left them.
pub answers_served : {S : Type 0} (loaded : S → List ℕ) (lent : S → Buffers) (asked : Asked) {s r : Input} {o o' : Output} {x y : S} {n : ℕ}
    → Served (λ x l w y. (loaded y ≡ loaded x) × Answer (loaded x) asked (lent x) l w (lent y)) n s o x r o' y → Served (Answer (loaded x) asked) n s o (lent x) r o' (lent y)
answers_served loaded lent asked {x = x} v =
    served_map (λ z. loaded z ≡ loaded x) lent (λ z y l w p (e, a). (subst (λ q. Answer q asked (lent z) l w (lent y)) p a, e ∙ p)) refl v
