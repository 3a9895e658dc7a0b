use Rattle.std.proofs.Common.{refl}
use Rattle.terms.proofs.Cursor.{ordinals_of-spent}
use Rattle.terms.proofs.ordinals.ordinals_in.Goals as goal

pub returns : goal.returns
returns c = ordinals_of-spent (record { number = 0; bits = 0 }) c.args.words.now refl
