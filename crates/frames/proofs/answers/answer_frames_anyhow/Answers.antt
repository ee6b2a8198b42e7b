use Rattle.std.proofs.Common.{rules, [], refl, subst}
use Rattle.std.specs.Io.KnownBytes.{Appends}
use Rattle.frames.specs.Answers.Answered.{no_frame}
use Rattle.frames.specs.Frames.{GivesFrame, rest_of}
use Rattle.frames.proofs.Written.{frame_answered, writes_answers}
use Rattle.frames.proofs.answers.answer_frames_anyhow.Goals as goal

pub loop-frame-preserved : goal.loop-frame-preserved
loop-frame-preserved g c =
    let gives = subst (λ r. GivesFrame (rest_of c.loop-frame.frame-iterator) r (rest_of c.next.new.self)) c.in-Some.is c.next.ensures.steps in
    frame_answered _ _ _ _ _ _ _ _ c.in-Some.frame c.loop-frame.invariant gives (c.in_ok-said.said, search rules, refl) (subst (Appends _ _) c.as_slice-in-loop-frame.ensures.value c.in_ok-write_all.ensures.bytes)

pub returns : goal.returns
returns g c =
    writes_answers _ _ _ _ _ _ _ c.loop-frame.invariant.0 c.new-bytes.ensures.items c.in_ok-read_to_end.ensures.bytes (search rules) (c.loop-frame.invariant.2 [] (no_frame _ c.in-None.ensures.steps.0)) c.loop-frame.invariant.1
