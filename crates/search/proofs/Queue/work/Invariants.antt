-- The invariant: the record is carried on by the lowest bytes of the first groups.
use Rattle.std.proofs.Common.{◌≡◌, length}
use Rattle.standing.specs.Stands.{arrays_of}
use Rattle.search.proofs.Works.{AtGroup}
use Rattle.search.proofs.Queue.work.Given as goal

abbrev pub invariant-loop-c : goal.invariant-loop-c
invariant-loop-c l =
    let s = l.self in
    let i = l.initial.self in
    let t = l.table in
    let u = l.initial.table in
    (t.bytes.ghost_name ≡ u.bytes.ghost_name)
    × (length t.bytes.now ≡ length u.bytes.now)
    × (t.width ≡ u.width)
    × (s.limit ≡ i.limit)
    × AtGroup (arrays_of l.tables) l.lowest l.q i.count u.width i.limit i.looking u.bytes.now l.s l.c-index s.count s.looking t.bytes.now
