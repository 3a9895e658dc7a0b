use Rattle.std.proofs.Common.{◌∙◌, ◌∷◌, ◌++◌, [], List, ℕ, ap, arith, get_or, map, sym}
use Rattle.std.proofs.lemmas.List.{map_push, take_all, take_more}
use Rattle.std.proofs.lemmas.List.Elements.{All-push}
use Rattle.std.proofs.lemmas.Result.{IfOk-from_err}
use Rattle.walk.specs.Names.{IsFronted}
use Rattle.walk.proofs.names.with_fronts.Goals as goal

pub loop-i-preserved : goal.loop-i-preserved
loop-i-preserved c =
    let second : ℕ × (ℕ × ℕ) → ℕ × ℕ = λ f. f.1 in
    let list = c.args.list.now in
    let chosen : ℕ × ℕ = get_or list c.loop-i.i (0, 0) in
    record {
      same = ap (map second) c.in_ok-push.ensures.items ∙ map_push second c.loop-i.fronted.items (c.name_front.result, chosen) ∙ ap (λ (l : List (ℕ × ℕ)). l ++ chosen ∷ []) c.loop-i.invariant.same
          ∙ sym (take_more list c.loop-i.i (0, 0) c.loop-i-test.true);
      fronted = rw c.in_ok-push.ensures.items (All-push (IsFronted c.args.registry.now.packages) c.loop-i.fronted.items (c.name_front.result, chosen) c.loop-i.invariant.fronted (record { front = c.name_front.ensures.front; bytes = c.name_front.ensures.bytes }));
    }

pub returns-clause-same : goal.returns-clause-same
returns-clause-same c = c.loop-i.invariant.same ∙ take_all _ _ (omega arith)

pub returns-clause-fronted : goal.returns-clause-fronted
returns-clause-fronted c = c.loop-i.invariant.fronted

-- where memory is refused

pub returns-in_err-fronted : goal.returns-in_err-fronted
returns-in_err-fronted c = let failed = c.from_residual in record { same = IfOk-from_err failed.result _ failed.ensures.0; fronted = IfOk-from_err failed.result _ failed.ensures.0 }

pub returns-in_err-push : goal.returns-in_err-push
returns-in_err-push c = let failed = c.from_residual-in_err-push in record { same = IfOk-from_err failed.result _ failed.ensures.0; fronted = IfOk-from_err failed.result _ failed.ensures.0 }
