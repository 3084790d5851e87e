-- The test of the type, then what clamp and keep_crop ensure. Assumes nothing.
use Rattle.device_state.proofs.Typed.{typed_refused, typed_passed}
use Rattle.crop_calls.specs.Crops.{s_crop_of}
use Rattle.crop_calls.proofs.s_crop.Goals as goal

pub returns-then-word_at-ne1 : goal.returns-then-word_at-ne1
unfolding s_crop_of
returns-then-word_at-ne1 c x = typed_refused 0 _ _ _ c.word_at.ensures c.if-word_at-ne1.true

pub returns : goal.returns
unfolding s_crop_of
returns c x = rw (typed_passed 0 _ _ _ c.word_at.ensures c.if-word_at-ne1.false, c.keep_crop.ensures, c.clamp-r.ensures, c.crop_bounds.ensures, c.asked.ensures)
