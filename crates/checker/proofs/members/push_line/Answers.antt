use Rattle.std.proofs.Common.{ap, length}
use Rattle.std.proofs.lemmas.Result.{IfOk-from_err}
use Rattle.facts.specs.Pushing.{extends_on}
use Rattle.checker.proofs.Reused.{AreAt-later, line_pushed}
use Rattle.checker.proofs.members.push_line.Goals as goal

pub returns : goal.returns
returns c =
    let pushed =
    line_pushed c.args.task.now c.args.known.now.items c.place_of.new.known.items c.place_of-2.new.known.items c.push.new.self.items c.args.places.now c.args.line.now
    c.in_ok-first.first c.in_ok-second.second c.in_ok-conclusion.conclusion c.requires c.in_ok-first.ensures.extends.keeps c.in_ok-second.ensures.extends.keeps c.in_ok-first.ensures.place c.in_ok-second.ensures.place
    c.in_ok-conclusion.ensures c.in_ok-push.ensures.items c.lines_grow.ensures in
    record {
      extends = extends_on (extends_on c.in_ok-first.ensures.extends c.in_ok-second.ensures.extends) pushed.0;
      place = pushed.1 (length c.as_slice-at.result.now) (ap length c.as_slice-at.ensures.value);
    }

pub place_of-requires-clause-given : goal.place_of-requires-clause-given
place_of-requires-clause-given c =
    let d = c.requires in
    (d.derived.one, record { earlier = d.earlier; said = d.said; offers = d.derived.gives_one })

pub place_of-requires-2-clause-given : goal.place_of-requires-2-clause-given
place_of-requires-2-clause-given c =
    let d = c.requires in
    let said = AreAt-later c.args.known.now.items c.place_of.new.known.items d.earlier c.args.places.now c.in_ok-first.ensures.extends.keeps d.said in
    (d.derived.two, record { earlier = d.earlier; said = said; offers = d.derived.gives_two })

-- where memory is refused

pub returns-in_err-conclusion : goal.returns-in_err-conclusion
returns-in_err-conclusion c = let failed = c.from_residual-in_err-conclusion in record { extends = IfOk-from_err failed.result _ failed.ensures.0; place = IfOk-from_err failed.result _ failed.ensures.0 }

pub returns-in_err-first : goal.returns-in_err-first
returns-in_err-first c = let failed = c.from_residual in record { extends = IfOk-from_err failed.result _ failed.ensures.0; place = IfOk-from_err failed.result _ failed.ensures.0 }

pub returns-in_err-push : goal.returns-in_err-push
returns-in_err-push c = let failed = c.from_residual-in_err-push in record { extends = IfOk-from_err failed.result _ failed.ensures.0; place = IfOk-from_err failed.result _ failed.ensures.0 }

pub returns-in_err-second : goal.returns-in_err-second
returns-in_err-second c = let failed = c.from_residual-in_err-second in record { extends = IfOk-from_err failed.result _ failed.ensures.0; place = IfOk-from_err failed.result _ failed.ensures.0 }
