use Rattle.std.proofs.Common.{refl}
use Rattle.std.specs.Prelude.{None, Some}
use Rattle.walk.proofs.Better.{locked_if, unlocked, unlocked_if, unnumbered}
use Rattle.walk.proofs.Preferring.{none_left, package-unnamed}
use Rattle.walk.proofs.preferred.locked_ordinal.Goals as goal

pub returns-in_err-name : goal.returns-in_err-name
returns-in_err-name c =
    let packages = c.args.registry.now.packages in
    record {
      some = rw c.from_residual.ensures tt;
      none = none_left c.from_residual.result (unnumbered packages c.args.request.now c.args.pkg (package-unnamed packages c.args.pkg c.in_err-name.ensures.name));
    }

pub returns-in_err-locked : goal.returns-in_err-locked
returns-in_err-locked c = record {
  some = rw c.from_residual-in_err-locked.ensures tt;
  none = none_left c.from_residual-in_err-locked.result
      (unlocked c.args.registry.now.packages c.args.request.now c.args.pkg c.in_ok-name.name.now c.in_ok-name.ensures.name None c.in_err-locked.ensures.named refl);
}

pub returns : goal.returns
returns c =
    let packages = c.args.registry.now.packages in
    let wanted = c.args.request.now in
    let name = c.in_ok-name.name.now in
    let locked = c.in_ok-locked.locked.now in
    record {
      some = locked_if packages wanted c.args.pkg name c.in_ok-name.ensures.name (Some locked) c.in_ok-locked.ensures.named locked refl c.find.result c.find.ensures.found c.find.ensures.only;
      none = unlocked_if packages wanted c.args.pkg name c.in_ok-name.ensures.name (Some locked) c.in_ok-locked.ensures.named locked refl c.find.result c.find.ensures.none;
    }
