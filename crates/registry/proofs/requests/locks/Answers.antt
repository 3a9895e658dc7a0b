use Rattle.std.proofs.Common.{◌∙◌, ap, sym}
use Rattle.std.specs.Option.{option_copied}
use Rattle.std.specs.Ordering.{is_eq}
use Rattle.versions.specs.Words.{same_precedence}
use Rattle.registry.specs.Requests.{locks}
use Rattle.registry.proofs.requests.locks.Goals as goal

pub returns-in-Some : goal.returns-in-Some
unfolding same_precedence
returns-in-Some c =
    c.is_eq.ensures ∙ ap is_eq c.order.ensures ∙ ap (λ o. locks (option_copied o) c.args.version.now) (sym c.in-Some.is)
