use Rattle.std.proofs.Common.{◌≡◌, ◌∙◌, ◌++◌, ℕ, List, ap, drop, length, rules, sym, take}
use Rattle.std.proofs.Math.Seq.{take-append_seam}
use Rattle.registry.specs.Selections.{Choices}
use Rattle.walk.specs.Choosing.{choice_of}
use Rattle.std.proofs.lemmas.Result.{IfOk-from_err}
use Rattle.solver.proofs.telling.tell.Goals as goal

pub named_all-requires-clause-selection : goal.named_all-requires-clause-selection
named_all-requires-clause-selection c p k chosen =
    let before : c.deref_mut.result.now ≡ c.args.chosen.items = search rules in
    let len : c.args.chosen.len ≡ length c.sort_by_name.new.list = search rules in
    let after : c.deref.result.now ≡ c.sort_by_name.new.list =
    c.deref.ensures.value ∙ ap (λ (n : ℕ). take n (c.sort_by_name.new.list ++ drop (length c.sort_by_name.new.list) c.args.chosen.items)) len
    ∙ take-append_seam c.sort_by_name.new.list (drop (length c.sort_by_name.new.list) c.args.chosen.items) in
    c.requires.selection p k
    (ap (λ (xs : List (ℕ × ℕ)). choice_of xs p) (sym before) ∙ sym (ap (λ (s : Choices). s p) c.sort_by_name.ensures.same)
    ∙ ap (λ (xs : List (ℕ × ℕ)). choice_of xs p) (sym after) ∙ chosen)

-- where memory is refused

pub returns-in_err-named_all : goal.returns-in_err-named_all
returns-in_err-named_all c = IfOk-from_err c.from_residual.result _ c.from_residual.ensures.0
