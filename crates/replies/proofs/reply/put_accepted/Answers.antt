use Rattle.std.proofs.Common.{subst}
use Rattle.lines.specs.Texts.{Puts}
use Rattle.replies.specs.Joined.{Waits}
use Rattle.replies.proofs.ReplyLemmas.{accepted_text}
use Rattle.replies.proofs.reply.put_accepted.Goals as goal

pub returns-clause-text : goal.returns-clause-text
returns-clause-text g c = subst (Puts _ _ _ _ c.put_around.result) (accepted_text c.args.stamp c.args.revision) c.put_around.ensures.text

pub returns-clause-waits : goal.returns-clause-waits
returns-clause-waits g c = subst (Waits c.args.outbox.now c.put_around.new.outbox c.put_around.result) (accepted_text c.args.stamp c.args.revision) c.put_around.ensures.waits
