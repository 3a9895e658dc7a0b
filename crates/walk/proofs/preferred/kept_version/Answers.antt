use Rattle.std.proofs.Common.{◌≡◌, ◌∙◌, ap, subst, sym, false}
use Rattle.std.specs.Prelude.{Some, None}
use Rattle.std.specs.Option.{option_copied}
use Rattle.registry.specs.Registry.{publication_at}
use Rattle.walk.specs.Preferring.{Fails, is_kept_at}
use Rattle.walk.proofs.Preferring.{kept-absent, kept-once, kept-only, none_left, kept-unlocked}
use Rattle.walk.proofs.preferred.kept_version.Goals as goal

pub returns-in_err-ordinal : goal.returns-in_err-ordinal
returns-in_err-ordinal c =
    let packages = c.args.registry.now.packages in
    let line : option_copied c.args.locked ≡ Some c.in_ok-locked.field-0.now = ap option_copied c.in_ok-locked.was in
    record {
      some = rw c.from_residual-in_err-ordinal.ensures tt;
      only = rw c.from_residual-in_err-ordinal.ensures tt;
      none = none_left c.from_residual-in_err-ordinal.result (subst (λ o. Fails packages c.args.pkg (is_kept_at (option_copied c.args.need) o)) (sym line)
          (kept-absent packages c.args.pkg (option_copied c.args.need) c.in_ok-locked.field-0.now c.in_err-ordinal.ensures.none));
    }

pub returns-then-is_kept : goal.returns-then-is_kept
returns-then-is_kept c =
    let line : option_copied c.args.locked ≡ Some c.in_ok-locked.field-0.now = ap option_copied c.in_ok-locked.was in
    record {
      some = sym c.is_kept.ensures ∙ c.if-is_kept.true;
      only = rw line (kept-once c.args.registry.now.packages c.args.pkg (option_copied c.args.need) c.in_ok-locked.field-0.now c.in_ok-ordinal.ordinal c.in_ok-ordinal.ensures.only);
      none = tt;
    }

pub returns-else-is_kept-clause-none : goal.returns-else-is_kept-clause-none
returns-else-is_kept-clause-none c =
    let packages = c.args.registry.now.packages in
    let line : option_copied c.args.locked ≡ Some c.in_ok-locked.field-0.now = ap option_copied c.in_ok-locked.was in
    let test = is_kept_at (option_copied c.args.need) in
    let fails : test (option_copied c.args.locked) (publication_at packages c.args.pkg c.in_ok-ordinal.ordinal) ≡ false = sym c.is_kept.ensures ∙ c.if-is_kept.false in
    subst (λ o. Fails packages c.args.pkg (test o)) (sym line)
    (kept-only packages c.args.pkg (option_copied c.args.need) c.in_ok-locked.field-0.now c.in_ok-ordinal.ordinal c.in_ok-ordinal.ensures.only
    (ap (λ o. test o (publication_at packages c.args.pkg c.in_ok-ordinal.ordinal)) (sym line) ∙ fails))

pub returns-in_err-locked : goal.returns-in_err-locked
returns-in_err-locked c =
    let packages = c.args.registry.now.packages in
    let line : option_copied c.args.locked ≡ None = ap option_copied c.in_err-locked.was in
    record {
      some = rw c.from_residual.ensures tt;
      only = rw c.from_residual.ensures tt;
      none = none_left c.from_residual.result (subst (λ o. Fails packages c.args.pkg (is_kept_at (option_copied c.args.need) o)) (sym line) (kept-unlocked packages c.args.pkg (option_copied c.args.need)));
    }
