use Rattle.std.proofs.Common.{subst, sym}
use Rattle.std.proofs.lemmas.Result.{IfOk-from_err}
use Rattle.walk.specs.Best.{AsksOne}
use Rattle.walk.proofs.Bests.{grown_asked, grown_both, grown_narrows, meets_one, names_dependency}
use Rattle.walk.proofs.choosing.Choosing.meet_at.Goals as goal

pub returns-in_ok-narrow_low-in-Some : goal.returns-in_ok-narrow_low-in-Some
returns-in_ok-narrow_low-in-Some c =
    let packages = c.args.registry.now.packages in
    let old = c.args.self.now in
    let asked = c.ask.new.self in
    let new = c.narrow_low.new.self in
    let target = c.in-Some.target in
    let same = c.in_ok-ask-in-Some.ensures.same in
    let asks = c.in_ok-ask-in-Some.ensures.asks in
    let narrows = c.in_ok-narrow_low-in-Some.ensures in
    record {
      meets = meets_one packages c.args.version.0 c.args.version.1 c.args.index target _ old asked new c.in-Some.ensures same.0 same.1 same.2 narrows;
      asks = (target, names_dependency packages c.args.version.0 c.args.version.1 c.args.index target _ c.in-Some.ensures, subst (AsksOne target c.args.is_chosen old.asked.items) (sym narrows.asked) asks);
      grown = grown_both old asked new (grown_asked target c.args.is_chosen old asked asks same.1) (grown_narrows _ target asked new narrows);
    }

pub returns-in_ok-narrow-in-None : goal.returns-in_ok-narrow-in-None
returns-in_ok-narrow-in-None c =
    let packages = c.args.registry.now.packages in
    let old = c.args.self.now in
    let asked = c.ask-in-None.new.self in
    let new = c.narrow.new.self in
    let target = c.in_ok-target-in-None.target in
    let same = c.in_ok-ask-in-None.ensures.same in
    let asks = c.in_ok-ask-in-None.ensures.asks in
    let narrows = c.in_ok-narrow-in-None.ensures in
    record {
      meets = meets_one packages c.args.version.0 c.args.version.1 c.args.index target _ old asked new c.in_ok-target-in-None.ensures same.0 same.1 same.2 narrows;
      asks = (target, names_dependency packages c.args.version.0 c.args.version.1 c.args.index target _ c.in_ok-target-in-None.ensures, subst (AsksOne target c.args.is_chosen old.asked.items) (sym narrows.asked) asks);
      grown = grown_both old asked new (grown_asked target c.args.is_chosen old asked asks same.1) (grown_narrows _ target asked new narrows);
    }

pub returns-in_err-ask_at : goal.returns-in_err-ask_at
returns-in_err-ask_at c = let failed = c.from_residual in record { meets = IfOk-from_err failed.result _ failed.ensures.0; asks = IfOk-from_err failed.result _ failed.ensures.0; grown = IfOk-from_err failed.result _ failed.ensures.0 }

pub returns-in_err-ask-in-Some : goal.returns-in_err-ask-in-Some
returns-in_err-ask-in-Some c = let failed = c.from_residual-in_err-ask-in-Some in record { meets = IfOk-from_err failed.result _ failed.ensures.0; asks = IfOk-from_err failed.result _ failed.ensures.0; grown = IfOk-from_err failed.result _ failed.ensures.0 }

pub returns-in_err-narrow_low-in-Some : goal.returns-in_err-narrow_low-in-Some
returns-in_err-narrow_low-in-Some c = let failed = c.from_residual-in_err-narrow_low-in-Some in record { meets = IfOk-from_err failed.result _ failed.ensures.0; asks = IfOk-from_err failed.result _ failed.ensures.0; grown = IfOk-from_err failed.result _ failed.ensures.0 }

pub returns-in_err-target-in-None : goal.returns-in_err-target-in-None
returns-in_err-target-in-None c = let failed = c.from_residual-in_err-target-in-None in record { meets = IfOk-from_err failed.result _ failed.ensures.0; asks = IfOk-from_err failed.result _ failed.ensures.0; grown = IfOk-from_err failed.result _ failed.ensures.0 }

pub returns-in_err-ask-in-None : goal.returns-in_err-ask-in-None
returns-in_err-ask-in-None c = let failed = c.from_residual-in_err-ask-in-None in record { meets = IfOk-from_err failed.result _ failed.ensures.0; asks = IfOk-from_err failed.result _ failed.ensures.0; grown = IfOk-from_err failed.result _ failed.ensures.0 }

pub returns-in_err-narrow-in-None : goal.returns-in_err-narrow-in-None
returns-in_err-narrow-in-None c = let failed = c.from_residual-in_err-narrow-in-None in record { meets = IfOk-from_err failed.result _ failed.ensures.0; asks = IfOk-from_err failed.result _ failed.ensures.0; grown = IfOk-from_err failed.result _ failed.ensures.0 }
