-- The four bytes are those of the definition. Assumes nothing.
use Rattle.wire_read.specs.Words.{le32}
use Rattle.wire_store.proofs.store_cut.Goals as goal

pub returns : goal.returns
unfolding le32
returns c = rw c.to_le_bytes.ensures at c.put_bytes.ensures
