-- The tests of the type and of the index, then what put_description ensures. Assumes nothing.
use Rattle.device_state.proofs.Typed.{typed_refused, typed_passed}
use borrow.Author.Tests.{lt-leb, le-leb}
use Rattle.format_calls.specs.Formats.{enum_fmt_of}
use Rattle.format_calls.proofs.enum_fmt.Goals as goal

pub returns-then-word_at-ne1 : goal.returns-then-word_at-ne1
unfolding enum_fmt_of
returns-then-word_at-ne1 c d = typed_refused 4 d _ _ c.word_at.ensures c.if-word_at-ne1.true

pub returns-then-format_count-k : goal.returns-then-format_count-k
unfolding enum_fmt_of
returns-then-format_count-k c d = rw (typed_passed 4 d _ _ c.word_at.ensures c.if-word_at-ne1.false, ← c.format_count.ensures, ← c.word_at-k.ensures, le-leb _ _ c.if-format_count-k.true)

pub returns : goal.returns
unfolding enum_fmt_of
returns c d = rw (typed_passed 4 d _ _ c.word_at.ensures c.if-word_at-ne1.false, ← c.format_count.ensures, ← c.word_at-k.ensures, lt-leb _ _ c.if-format_count-k.false, c.put_description.ensures)
