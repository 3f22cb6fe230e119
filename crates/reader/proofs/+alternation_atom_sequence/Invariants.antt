-- The bytes left fall at each call, thrice counted: an alternation calls a sequence, and a sequence an atom, at the same place.
-- Assumes nothing.
use Rattle.std.proofs.Common.{◌+◌, ◌-◌, ◌*◌, length}
use Rattle.reader.proofs.+alternation_atom_sequence.Given as goal

abbrev pub decreases-alternation : goal.decreases-alternation
decreases-alternation l = 3 * (length l.s.now - l.at) + 2

abbrev pub decreases-atom : goal.decreases-atom
decreases-atom l = 3 * (length l.s.now - l.at)

abbrev pub decreases-sequence : goal.decreases-sequence
decreases-sequence l = 3 * (length l.s.now - l.at) + 1
