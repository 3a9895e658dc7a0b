use Rattle.std.proofs.Common.{refl}
use Rattle.walk.proofs.choosing.Choosing.push_left.Goals as goal

pub returns : goal.returns
returns c = record {
  entry = record { pkg = c.args.pkg; left = c.args.left; before = c.get-before.result };
  of = refl;
  is = refl;
  found = refl;
  asked = refl;
  needed = c.in_ok-push.ensures.items;
  fresh = refl;
}
