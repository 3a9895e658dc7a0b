use Rattle.std.proofs.Common.{subst}
use Rattle.lines.specs.Texts.{Puts}
use Rattle.replies.specs.Joined.{Waits}
use Rattle.replies.proofs.ReplyLemmas.{no_selection_text}
use Rattle.replies.proofs.reply.put_no_selection.Goals as goal

pub returns-clause-text : goal.returns-clause-text
returns-clause-text g c = subst (Puts _ _ _ _ c.put_around.result) (no_selection_text c.args.stamp c.args.revision) c.put_around.ensures.text

pub returns-clause-waits : goal.returns-clause-waits
returns-clause-waits g c = subst (Waits c.args.outbox.now c.put_around.new.outbox c.put_around.result) (no_selection_text c.args.stamp c.args.revision) c.put_around.ensures.waits
