use Rattle.std.proofs.Common.{◌∙◌, ap, sym, true≢false}
use Rattle.std.specs.Prelude.{Some}
use Rattle.std.proofs.lemmas.Bool.{and_parts}
use Rattle.terms.specs.Terms.{true_of}
use Rattle.registry.specs.Requests.{is_allowed}
use Rattle.search.specs.Picking.{is_choosable}
use Rattle.search.proofs.picking.locked_within.Goals as goal

pub returns-then-is_choosable-clause-some : goal.returns-then-is_choosable-clause-some
returns-then-is_choosable-clause-some c =
    let packages = c.args.task.now.registry.now.packages in
    let wanted = c.args.task.now.request.now in
    let both = and_parts (true_of c.args.said.now (Some c.in_ok-ordinal.ordinal)) (is_allowed packages wanted c.args.pkg c.in_ok-ordinal.ordinal) (sym c.is_choosable.ensures ∙ c.if-is_choosable.true) in
    record { within = record { allowed = both.1; within = both.0 }; locked = c.in_ok-ordinal.ensures.some }

pub returns-else-is_choosable-clause-none : goal.returns-else-is_choosable-clause-none
returns-else-is_choosable-clause-none c j locked =
    ap (λ i. is_choosable c.args.task.now c.args.pkg c.args.said.now i) (c.in_ok-ordinal.ensures.some.only j locked) ∙ sym c.is_choosable.ensures ∙ c.if-is_choosable.false

-- where the lock names none

pub returns-in_err-ordinal-clause-some : goal.returns-in_err-ordinal-clause-some
returns-in_err-ordinal-clause-some c = rw c.from_residual.ensures tt

pub returns-in_err-ordinal-clause-none : goal.returns-in_err-ordinal-clause-none
returns-in_err-ordinal-clause-none c = rw c.from_residual.ensures (λ j locked. absurd (true≢false (sym locked ∙ c.in_err-ordinal.ensures.none j)))
