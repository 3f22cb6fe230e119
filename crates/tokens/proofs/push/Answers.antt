-- One more code: it stands at the end, or there is no room for it.
-- Assumes nothing.
use native.Mathlib.Omega.{arith}
use mathlib.Core.List.{[], ◌∷◌}
use Rattle.tokens.proofs.Laws.{pushed, full}
use Rattle.tokens.proofs.push.Goals as goal

pub returns-then-a-lt-MAX_PARTS : goal.returns-then-a-lt-MAX_PARTS
returns-then-a-lt-MAX_PARTS c = record { added = pushed c.args.a.now.items c.args.a.now.len c.args.code (omega arith) }

pub returns-else-a-lt-MAX_PARTS : goal.returns-else-a-lt-MAX_PARTS
returns-else-a-lt-MAX_PARTS c = record { added = full c.args.a.now.items c.args.a.now.len (c.args.code ∷ []) (omega arith) }
