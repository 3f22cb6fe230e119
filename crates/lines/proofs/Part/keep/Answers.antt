-- What there is room for is kept, after what was kept of a line that has begun.
use Rattle.std.proofs.Common.{refl, ap, ◌∙◌, ◌≡◌, ◌≤◌, ◌++◌, take, arith}
use Rattle.lines.specs.Lines.{kept, begun}
use Rattle.lines.proofs.Laws.{take_least}
use Rattle.lines.proofs.Reading.{kept_more}
use Rattle.lines.proofs.Part.keep.Goals as goal
use Rattle.lines.proofs.Part.keep.Goals.{then-self, else-self}

pub returns : goal.returns
returns c =
    let a = c.args in
    let l = a.self.now in
    let few : c.if-self.n ≤ 1025 = elim c.if-self.branch [ then-self w ↦ omega arith | else-self w ↦ omega arith ] in
    let n : take c.if-self.n l.bytes ≡ begun l =
    elim c.if-self.branch [
      | then-self w ↦ rw (w.n-is, w.if-self.true) refl
      | else-self w ↦ rw (w.n-is ∙ w.min-n.ensures, w.if-self.false) (take_least l.n l.bytes 1025 (omega arith))
    ] in
    record {
      bytes =
          kept_more l.bytes a.s.now c.copy_from_slice.new.self c.if-self.n c.min-k.result (omega arith) few c.min-k.ensures c.copy_from_slice.ensures.after
          ∙ ap (λ x. kept (x ++ a.s.now)) n;
      whole = refl;
    }
