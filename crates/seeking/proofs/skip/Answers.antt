-- What is left: the bytes of one chunk more.
use Rattle.std.proofs.Common.{arith, false}
use Rattle.seeking.proofs.Chunks.{chunk_more}
use Rattle.seeking.proofs.skip.Goals as goal

pub as_chunks-requires : goal.as_chunks-requires
as_chunks-requires g c = (omega arith, omega arith)

pub loop-n-preserved : goal.loop-n-preserved
loop-n-preserved g c = let a = c.as_chunks in chunk_more (λ b. goal.F-post g c.args.test b false) g.row.N _ c.loop-n.n c.args.line.now c.index-chunks-n.result a.result.0.now a.ensures.front c.index-chunks-n.is (omega arith) c.loop-n.invariant (c.some.ensures c.if-some.false)
