use Rattle.std.proofs.Common.{◌≡◌, ◌∙◌, [], arith, drop, refl, sym, take}
use Rattle.std.proofs.lemmas.List.{append-nil, drop_all, take_all}
use Rattle.std.specs.List.{list_any}
use Rattle.std.specs.Str.{bytes_eq}
use Rattle.std.proofs.lemmas.Result.{IfOk-from_err}
use Rattle.registry.specs.Rooms.{names_in}
use Rattle.registry.proofs.ReadyLemmas.{taken-push, unknown-more}
use Rattle.registry.proofs.PlaceLemmas.{extends-none, extends-then}
use Rattle.registry.proofs.ready.name_needs.Goals as goal

pub loop-need-preserved : goal.loop-need-preserved
loop-need-preserved c = record {
  equal =
      c.in_ok-add_need.ensures.same
      ∙ taken-push c.args.needs.now c.loop-need.named.needs c.loop-need.need-index c.need-item.result c.need-item.result c.loop-need-test.true c.need-item.is refl c.loop-need.invariant.equal;
  named =
      unknown-more (λ name. list_any (bytes_eq name) c.args.names.now.keys) c.args.needs.now c.loop-need.need-index c.need-item.result c.loop-need-test.true c.need-item.is
      c.loop-need.named.added.items c.add_need.new.named.added.items c.in_ok-add_need.ensures.added c.loop-need.invariant.named;
  empty = c.in_ok-add_need.ensures.empty c.loop-need.invariant.empty;
  lists = c.add_need.ensures.lists ∙ c.loop-need.invariant.lists;
  extends = extends-then c.args.names.now.keys c.args.names.now.keys c.args.names.now.keys c.args.lists.now.items c.loop-need.lists.items c.add_need.new.lists.items
      c.loop-need.invariant.extends c.add_need.ensures.extends;
  count = c.add_need.ensures.length ∙ c.loop-need.invariant.count;
}

pub returns-in_err-add_need-clause-lists : goal.returns-in_err-add_need-clause-lists
returns-in_err-add_need-clause-lists c = c.add_need.ensures.lists ∙ c.loop-need.invariant.lists

pub returns-in_err-add_need-clause-length : goal.returns-in_err-add_need-clause-length
returns-in_err-add_need-clause-length c = c.add_need.ensures.length ∙ c.loop-need.invariant.count

pub returns-clause-same : goal.returns-clause-same
returns-clause-same c =
    let all : take c.loop-need.need-index c.args.needs.now ≡ c.args.needs.now = take_all _ _ (omega arith) in
    c.loop-need.invariant.equal ∙ all

pub returns-clause-named : goal.returns-clause-named
returns-clause-named c =
    let none : drop c.loop-need.need-index c.args.needs.now ≡ [] = drop_all c.loop-need.need-index c.args.needs.now (omega arith) in
    sym (append-nil (names_in c.loop-need.named.added.items)) ∙ (rw none at c.loop-need.invariant.named)

pub returns-in_err-add_need-clause-extends : goal.returns-in_err-add_need-clause-extends
returns-in_err-add_need-clause-extends c =
    extends-then c.args.names.now.keys c.args.names.now.keys c.args.names.now.keys c.args.lists.now.items c.loop-need.lists.items c.add_need.new.lists.items
    c.loop-need.invariant.extends c.add_need.ensures.extends

pub returns-in_err-with_capacity-clause-extends : goal.returns-in_err-with_capacity-clause-extends
returns-in_err-with_capacity-clause-extends c = extends-none c.args.names.now.keys c.args.lists.now.items

pub returns-in_err-with_capacity-clause-same : goal.returns-in_err-with_capacity-clause-same
returns-in_err-with_capacity-clause-same c = IfOk-from_err c.from_residual.result _ c.from_residual.ensures.0

pub returns-in_err-with_capacity-clause-named : goal.returns-in_err-with_capacity-clause-named
returns-in_err-with_capacity-clause-named c = IfOk-from_err c.from_residual.result _ c.from_residual.ensures.0

pub returns-in_err-with_capacity-clause-empty : goal.returns-in_err-with_capacity-clause-empty
returns-in_err-with_capacity-clause-empty c = IfOk-from_err c.from_residual.result _ c.from_residual.ensures.0

pub returns-in_err-add_need-clause-same : goal.returns-in_err-add_need-clause-same
returns-in_err-add_need-clause-same c = IfOk-from_err c.from_residual-in_err-add_need.result _ c.from_residual-in_err-add_need.ensures.0

pub returns-in_err-add_need-clause-named : goal.returns-in_err-add_need-clause-named
returns-in_err-add_need-clause-named c = IfOk-from_err c.from_residual-in_err-add_need.result _ c.from_residual-in_err-add_need.ensures.0

pub returns-in_err-add_need-clause-empty : goal.returns-in_err-add_need-clause-empty
returns-in_err-add_need-clause-empty c = IfOk-from_err c.from_residual-in_err-add_need.result _ c.from_residual-in_err-add_need.ensures.0
