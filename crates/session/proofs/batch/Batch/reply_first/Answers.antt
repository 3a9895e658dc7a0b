use Rattle.std.proofs.Common.{refl}
use Rattle.session.proofs.BatchLemmas.{tells_none, tells_ok}
use Rattle.session.proofs.batch.Batch.reply_first.Goals as goal

pub returns-then-len-eq1 : goal.returns-then-len-eq1
returns-then-len-eq1 g c = tells_ok _ _ _ _ _ _ _ _ _ _ _ _ refl (tells_none _ _ _ _ _)
