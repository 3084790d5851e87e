-- The word put together by shifts, masks and ors is the sum: `packed`. Assumes nothing.
use Rattle.ioctl_word.proofs.Pack.{packed}
use Rattle.ioctl_word.proofs.build.Goals as goal

pub returns : goal.returns
returns c = packed c.args.direction c.args.size c.args.letter c.args.number
