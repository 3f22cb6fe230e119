-- The invariant: the records before q are carried on. The measure is the slots from q on.
use Rattle.std.proofs.Common.{◌≡◌, ◌≤◌, ◌-◌, length}
use Rattle.standing.specs.Stands.{arrays_of}
use Rattle.search.specs.Turns.{Grouping}
use Rattle.search.proofs.Works.{AtRecord}
use Rattle.search.proofs.Queue.run.Given as goal

abbrev pub invariant-loop-q : goal.invariant-loop-q
invariant-loop-q l =
    let s = l.self in
    let i = l.initial.self in
    let t = l.table in
    let u = l.initial.table in
    (t.bytes.ghost_name ≡ u.bytes.ghost_name)
    × (length t.bytes.now ≡ length u.bytes.now)
    × (t.width ≡ u.width)
    × (s.limit ≡ i.limit)
    × (i.limit ≤ 65535)
    × AtRecord (arrays_of l.tables) (Grouping l.tables.masks.now l.lowest) u.width i.limit u.bytes.now l.q s.count s.looking t.bytes.now

abbrev pub decreases-loop-q : goal.decreases-loop-q
decreases-loop-q l = l.initial.self.limit - l.q
