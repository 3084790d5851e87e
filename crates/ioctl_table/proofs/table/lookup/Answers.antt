-- The table's row; the length is that of the word, by `sized_in_word`. Assumes nothing.
use Rattle.ioctl_table.proofs.Rows.{sized_in_word}
use Rattle.ioctl_table.proofs.table.lookup.Goals as goal

pub returns-clause-sized : goal.returns-clause-sized
returns-clause-sized c = sized_in_word c.args.w c.row.ensures
