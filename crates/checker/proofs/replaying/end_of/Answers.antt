use Rattle.std.proofs.Common.{◌≡◌, ◌∙◌, List, sym, length, refl, subst}
use Rattle.std.specs.Prelude.{Some, slice_get}
use Rattle.std.proofs.lemmas.Bool.{eqb-true}
use Rattle.std.proofs.lemmas.List.{nil_from_length}
use Rattle.std.proofs.lemmas.Option.{slice_get_read}
use Rattle.std.proofs.lemmas.Result.{IfOk-from_err}
use Rattle.derivations.specs.declared.known.CausedIncompatibility.{CausedIncompatibility}
use Rattle.checker.proofs.replaying.end_of.Goals as goal

pub returns-in-Some : goal.returns-in-Some
returns-in-Some c =
    let known = c.resolve_on.new.known.items in
    let found = c.in-Some.ensures.lookup in
    let there : slice_get known c.in_ok-end.end ≡ Some c.in-Some.line.now =
    subst (λ (xs : List CausedIncompatibility). slice_get xs c.in_ok-end.end ≡ Some c.in-Some.line.now) c.as_slice.ensures.value (slice_get_read c.as_slice.result.now (length c.as_slice.result.now) c.in_ok-end.end c.in-Some.line.now refl found.3.0 found.1) in
    let empty = sym c.terms.ensures.same ∙ nil_from_length c.terms.result.now (eqb-true (length c.terms.result.now) 0 (sym c.is_empty.ensures ∙ c.if-is_empty.true)) in
    let lines = c.in_ok-end.ensures.lines c.requires in
    record {
      lawful = lines.lawful;
      ordered = lines.ordered;
      ends = c.empty_is_no_fact.ensures c.args.task.now.registry.now.packages c.args.task.now.request.now known c.in_ok-end.end c.in-Some.line.now lines.lawful there empty;
    }

-- where memory is refused

pub returns-in_err-end : goal.returns-in_err-end
returns-in_err-end c = IfOk-from_err c.from_residual.result _ c.from_residual.ensures.0
