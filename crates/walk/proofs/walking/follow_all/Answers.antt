use Rattle.std.proofs.Common.{◌≤◌, arith, length, inl}
use Rattle.std.proofs.lemmas.Result.{IfOk-from_err}
use Rattle.walk.specs.Choosing.{choice_of}
use Rattle.walk.specs.Walks.{asked_by}
use Rattle.walk.proofs.Lists.{grown-grown, grown_none}
use Rattle.walk.proofs.Steps.{come_more, met_all, met_more}
use Rattle.walk.proofs.walking.follow_all.Goals as goal

pub follow_at-requires-clause-within : goal.follow_at-requires-clause-within
follow_at-requires-clause-within g c = omega (arith, c.needs_count-count.ensures, c.loop-index-test.true)

pub returns-then-not-branch : goal.returns-then-not-branch
returns-then-not-branch g c =
    let packages = c.args.registry.now.packages in
    let old = c.args.found.now.entries in
    let found = c.loop-index.found.entries in
    let new = c.follow_at.new.found.entries in
    let done = c.in_ok-follow_at.ensures in
    record {
      follows = done.follows;
      grown = grown-grown old found new c.loop-index.invariant.grown done.grown;
      come = come_more packages (asked_by packages c.args.request.now c.args.asker) (choice_of old) (choice_of found) (choice_of new) c.loop-index.invariant.come done.come;
      met = tt;
      unmet = rw c.if-not-branch.true at done.unmet;
    }

pub loop-index-preserved : goal.loop-index-preserved
loop-index-preserved g c =
    let packages = c.args.registry.now.packages in
    let needs = asked_by packages c.args.request.now c.args.asker in
    let done = c.in_ok-follow_at.ensures in
    record {
      follows = done.follows;
      grown = grown-grown c.args.found.now.entries c.loop-index.found.entries c.follow_at.new.found.entries c.loop-index.invariant.grown done.grown;
      come = come_more packages needs (choice_of c.args.found.now.entries) (choice_of c.loop-index.found.entries) (choice_of c.follow_at.new.found.entries) c.loop-index.invariant.come done.come;
      met = met_more packages c.loop-index.found.entries c.follow_at.new.found.entries needs c.loop-index.index done.grown c.loop-index.invariant.met (rw c.if-not-branch.false at done.met);
    }

pub returns : goal.returns
returns g c =
    let packages = c.args.registry.now.packages in
    let needs = asked_by packages c.args.request.now c.args.asker in
    let all : length needs ≤ c.loop-index.index = omega (arith, c.needs_count-count.ensures, c.loop-index-test.false) in
    let inv = c.loop-index.invariant in
    record { follows = inv.follows; grown = inv.grown; come = inv.come; met = met_all packages (choice_of c.loop-index.found.entries) needs c.loop-index.index all inv.met; unmet = tt }

pub loop-index-init : goal.loop-index-init
loop-index-init g c = record {
  follows = c.requires;
  grown = grown_none c.args.found.now.entries;
  come = λ p k h. inl h;
  met = λ j below. absurd (omega (arith, below));
}

pub returns-in_err-follow_at : goal.returns-in_err-follow_at
returns-in_err-follow_at g c =
    let err = c.from_residual.ensures.0 in
    record {
      follows = IfOk-from_err c.from_residual.result _ err;
      grown = IfOk-from_err c.from_residual.result _ err;
      come = IfOk-from_err c.from_residual.result _ err;
      met = IfOk-from_err c.from_residual.result _ err;
      unmet = IfOk-from_err c.from_residual.result _ err;
    }
