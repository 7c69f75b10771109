use Rattle.wait_free.proofs.Told.{answers_tell_replies}
use Rattle.wait_free.proofs.laws.answers_tell_replies.Goals as goal

pub returns : goal.returns
returns c = answers_tell_replies
