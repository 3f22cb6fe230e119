-- `pairs::put_row` meets its contract: the eight bytes are those of the row.
-- Assumes nothing.
use Rattle.std.proofs.Common.{◌∙◌}
use Rattle.pairs.proofs.Rows.{put_is}
use Rattle.pairs.proofs.put_row.Goals as goal

pub returns : goal.returns
returns c = let a = c.args in put_is a.area.now a.k a.x c.copy_from_slice.new.self c.requires (c.copy_from_slice.ensures.after ∙ c.to_le_bytes.ensures)
