-- The test of the type, then what put_crop_capability ensures. Assumes nothing.
use Rattle.device_state.proofs.Typed.{typed_refused, typed_passed}
use Rattle.crop_calls.specs.Crops.{cropcap_of}
use Rattle.crop_calls.proofs.cropcap.Goals as goal

pub returns-then-word_at-ne1 : goal.returns-then-word_at-ne1
unfolding cropcap_of
returns-then-word_at-ne1 c d = typed_refused 0 d _ _ c.word_at.ensures c.if-word_at-ne1.true

pub returns : goal.returns
unfolding cropcap_of
returns c d = rw (typed_passed 0 d _ _ c.word_at.ensures c.if-word_at-ne1.false, c.put_crop_capability.ensures)
