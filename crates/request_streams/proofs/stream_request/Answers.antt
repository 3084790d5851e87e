-- Each arm as its call promises. Assumes nothing.
use mathlib.Core.Bool.{false}
use mathlib.Core.Path.{◌≡◌, refl}
use Rattle.ioctl_table.specs.declared.table.Call.{Call}
use Rattle.ioctl_table.specs.declared.table.Call.TheVariants.{Reqbufs, Querybuf, Qbuf, Dqbuf, Streamon, Streamoff}
use Rattle.stream_words.specs.Words.{stream_in}
use Rattle.device_state.specs.State.{with_streams}
use Rattle.request_topics.specs.declared.About.TheVariants.{Streams}
use Rattle.request_topics.specs.Request.{topic_of, is_about}
use Rattle.request_topics.proofs.Cases.{arm_length, arm_called, topic_other}
use Rattle.request_streams.proofs.stream_request.Goals as goal

pub returns-in_err-of_length-in-Reqbufs : goal.returns-in_err-of_length-in-Reqbufs
returns-in_err-of_length-in-Reqbufs c s x h k =
    let a = c.args in
    let e = c.in_err-of_length-in-Reqbufs.ensures in
    arm_length Streams Reqbufs s (with_streams x (stream_in a.video.now) (stream_in a.captions.now)) a.argument.now c.in-Reqbufs.is refl refl e.of_length e.refused c.from_residual.result c.from_residual.ensures.1

pub returns-in_err-of_length-in-Querybuf : goal.returns-in_err-of_length-in-Querybuf
returns-in_err-of_length-in-Querybuf c s x h k =
    let a = c.args in
    let e = c.in_err-of_length-in-Querybuf.ensures in
    arm_length Streams Querybuf s (with_streams x (stream_in a.video.now) (stream_in a.captions.now)) a.argument.now c.in-Querybuf.is refl refl e.of_length e.refused c.from_residual-in_err-of_length-in-Querybuf.result c.from_residual-in_err-of_length-in-Querybuf.ensures.1

pub returns-in_err-of_length-in-Qbuf : goal.returns-in_err-of_length-in-Qbuf
returns-in_err-of_length-in-Qbuf c s x h k =
    let a = c.args in
    let e = c.in_err-of_length-in-Qbuf.ensures in
    arm_length Streams Qbuf s (with_streams x (stream_in a.video.now) (stream_in a.captions.now)) a.argument.now c.in-Qbuf.is refl refl e.of_length e.refused c.from_residual-in_err-of_length-in-Qbuf.result c.from_residual-in_err-of_length-in-Qbuf.ensures.1

pub returns-in_err-of_length-in-Dqbuf : goal.returns-in_err-of_length-in-Dqbuf
returns-in_err-of_length-in-Dqbuf c s x h k =
    let a = c.args in
    let e = c.in_err-of_length-in-Dqbuf.ensures in
    arm_length Streams Dqbuf s (with_streams x (stream_in a.video.now) (stream_in a.captions.now)) a.argument.now c.in-Dqbuf.is refl refl e.of_length e.refused c.from_residual-in_err-of_length-in-Dqbuf.result c.from_residual-in_err-of_length-in-Dqbuf.ensures.1

pub returns-in_err-of_length-in-Streamon : goal.returns-in_err-of_length-in-Streamon
returns-in_err-of_length-in-Streamon c s x h k =
    let a = c.args in
    let e = c.in_err-of_length-in-Streamon.ensures in
    arm_length Streams Streamon s (with_streams x (stream_in a.video.now) (stream_in a.captions.now)) a.argument.now c.in-Streamon.is refl refl e.of_length e.refused c.from_residual-in_err-of_length-in-Streamon.result c.from_residual-in_err-of_length-in-Streamon.ensures.1

pub returns-in_err-of_length-in-Streamoff : goal.returns-in_err-of_length-in-Streamoff
returns-in_err-of_length-in-Streamoff c s x h k =
    let a = c.args in
    let e = c.in_err-of_length-in-Streamoff.ensures in
    arm_length Streams Streamoff s (with_streams x (stream_in a.video.now) (stream_in a.captions.now)) a.argument.now c.in-Streamoff.is refl refl e.of_length e.refused c.from_residual-in_err-of_length-in-Streamoff.result c.from_residual-in_err-of_length-in-Streamoff.ensures.1

pub returns-in_ok-of_length-in-Reqbufs : goal.returns-in_ok-of_length-in-Reqbufs
returns-in_ok-of_length-in-Reqbufs c s x h k =
    let a = c.args in
    arm_called Streams Reqbufs s (with_streams x (stream_in a.video.now) (stream_in a.captions.now)) a.argument.now c.in-Reqbufs.is refl refl c.in_ok-of_length-in-Reqbufs.ensures.of_length.0 (c.by_type.ensures x h k)

pub returns-in_ok-of_length-in-Querybuf : goal.returns-in_ok-of_length-in-Querybuf
returns-in_ok-of_length-in-Querybuf c s x h k =
    let a = c.args in
    arm_called Streams Querybuf s (with_streams x (stream_in a.video.now) (stream_in a.captions.now)) a.argument.now c.in-Querybuf.is refl refl c.in_ok-of_length-in-Querybuf.ensures.of_length.0 (c.by_type-in-Querybuf.ensures x h k)

pub returns-in_ok-of_length-in-Qbuf : goal.returns-in_ok-of_length-in-Qbuf
returns-in_ok-of_length-in-Qbuf c s x h k =
    let a = c.args in
    arm_called Streams Qbuf s (with_streams x (stream_in a.video.now) (stream_in a.captions.now)) a.argument.now c.in-Qbuf.is refl refl c.in_ok-of_length-in-Qbuf.ensures.of_length.0 (c.by_type-in-Qbuf.ensures x h k)

pub returns-in_ok-of_length-in-Dqbuf : goal.returns-in_ok-of_length-in-Dqbuf
returns-in_ok-of_length-in-Dqbuf c s x h k =
    let a = c.args in
    arm_called Streams Dqbuf s (with_streams x (stream_in a.video.now) (stream_in a.captions.now)) a.argument.now c.in-Dqbuf.is refl refl c.in_ok-of_length-in-Dqbuf.ensures.of_length.0 (c.by_type-in-Dqbuf.ensures x h k)

pub returns-in_ok-of_length-in-Streamon : goal.returns-in_ok-of_length-in-Streamon
returns-in_ok-of_length-in-Streamon c s x h k =
    let a = c.args in
    arm_called Streams Streamon s (with_streams x (stream_in a.video.now) (stream_in a.captions.now)) a.argument.now c.in-Streamon.is refl refl c.in_ok-of_length-in-Streamon.ensures.of_length.0 (c.by_type-in-Streamon.ensures x h k)

pub returns-in_ok-of_length-in-Streamoff : goal.returns-in_ok-of_length-in-Streamoff
returns-in_ok-of_length-in-Streamoff c s x h k =
    let a = c.args in
    arm_called Streams Streamoff s (with_streams x (stream_in a.video.now) (stream_in a.captions.now)) a.argument.now c.in-Streamoff.is refl refl c.in_ok-of_length-in-Streamoff.ensures.of_length.0 (c.by_type-in-Streamoff.ensures x h k)

-- a call that is none of these is about another topic
another_topic : (k : Call) → (k ≡ Reqbufs → ⊥) → (k ≡ Querybuf → ⊥) → (k ≡ Qbuf → ⊥) → (k ≡ Dqbuf → ⊥) → (k ≡ Streamon → ⊥) → (k ≡ Streamoff → ⊥) → is_about Streams (topic_of k) ≡ false
another_topic Reqbufs n0 n1 n2 n3 n4 n5 = absurd (n0 refl)
another_topic Querybuf n0 n1 n2 n3 n4 n5 = absurd (n1 refl)
another_topic Qbuf n0 n1 n2 n3 n4 n5 = absurd (n2 refl)
another_topic Dqbuf n0 n1 n2 n3 n4 n5 = absurd (n3 refl)
another_topic Streamon n0 n1 n2 n3 n4 n5 = absurd (n4 refl)
another_topic Streamoff n0 n1 n2 n3 n4 n5 = absurd (n5 refl)
another_topic _ n0 n1 n2 n3 n4 n5 = refl

pub returns-in_default : goal.returns-in_default
returns-in_default c s x h k =
    let a = c.args in
    topic_other Streams a.call s (with_streams x (stream_in a.video.now) (stream_in a.captions.now)) a.argument.now (another_topic a.call c.in_default.not-Reqbufs c.in_default.not-Querybuf c.in_default.not-Qbuf c.in_default.not-Dqbuf c.in_default.not-Streamon c.in_default.not-Streamoff)
