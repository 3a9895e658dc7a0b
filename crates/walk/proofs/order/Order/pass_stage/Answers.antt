use Rattle.std.proofs.Common.{◌+◌, refl}
use Rattle.std.proofs.lemmas.Result.{IfOk-from_err}
use Rattle.walk.specs.declared.order.Order.{Order}
use Rattle.walk.proofs.Orders.{order_come, order_noted}
use Rattle.walk.proofs.order.Order.pass_stage.Goals as goal

pub returns-in-Some-clause-order : goal.returns-in-Some-clause-order
returns-in-Some-clause-order g c =
    let old = c.args.self.now in
    let mid : Order = record { found = c.pass_lines.new.found; stages = old.stages; stage = old.stage } in
    order_noted c.args.registry.now.packages c.args.request.now.needs old mid c.note.new.self c.requires.order refl refl c.in_ok-next.ensures.grown c.in_ok-next.ensures.listing.walked c.requires.within c.in_ok-note.ensures

pub returns-in-None-clause-order : goal.returns-in-None-clause-order
returns-in-None-clause-order g c =
    let packages = c.args.registry.now.packages in
    let needs = c.args.request.now.needs in
    let old = c.args.self.now in
    let mid : Order = record { found = c.pass_lines.new.found; stages = old.stages; stage = old.stage } in
    let new = c.note.new.self in
    let order = order_noted packages needs old mid new c.requires.order refl refl c.in_ok-next.ensures.grown c.in_ok-next.ensures.listing.walked c.requires.within c.in_ok-note.ensures in
    order_come packages needs new (record { found = new.found; stages = new.stages; stage = new.stage + 1 }) order refl refl
    (rw (c.in_ok-note.ensures.found, c.in_ok-note.ensures.stage) (rw c.in-None.is at c.in_ok-next.ensures.passed))

pub returns-in-Some-clause-listing : goal.returns-in-Some-clause-listing
returns-in-Some-clause-listing g c = rw c.in_ok-note.ensures.found c.in_ok-next.ensures.listing

pub returns-in-None-clause-listing : goal.returns-in-None-clause-listing
returns-in-None-clause-listing g c = rw c.in_ok-note.ensures.found c.in_ok-next.ensures.listing

-- where memory is refused

pub returns-in_err-next : goal.returns-in_err-next
returns-in_err-next g c =
    let failed = c.from_residual in
    record {
      order = IfOk-from_err failed.result _ failed.ensures.0;
      listing = IfOk-from_err failed.result _ failed.ensures.0;
      more = IfOk-from_err failed.result _ failed.ensures.0;
      next = IfOk-from_err failed.result _ failed.ensures.0;
    }

pub returns-in_err-note : goal.returns-in_err-note
returns-in_err-note g c =
    let failed = c.from_residual-in_err-note in
    record {
      order = IfOk-from_err failed.result _ failed.ensures.0;
      listing = IfOk-from_err failed.result _ failed.ensures.0;
      more = IfOk-from_err failed.result _ failed.ensures.0;
      next = IfOk-from_err failed.result _ failed.ensures.0;
    }
