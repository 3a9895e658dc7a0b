use Rattle.std.proofs.Common.{◌∙◌, ◌++◌, ◌∷◌, [], ap, length}
use Rattle.checker.proofs.Moving.{AreMoved-grown, AreMoved-one}
use Rattle.checker.proofs.pairing.move_line.Goals as goal

pub line_among-requires : goal.line_among-requires
line_among-requires c = rw c.deref.ensures.value c.requires

pub returns-clause-moved : goal.returns-clause-moved
returns-clause-moved c = λ known line_at m.
    let places = c.args.places.now.items in
    let lines = c.line_among.new.lines.items in
    let own = rw c.deref.ensures.value at c.in_ok-own.ensures.stands in
    AreMoved-one known lines places c.args.line c.in_ok-own.own c.push.new.self.items c.push-2.new.self.items
    (AreMoved-grown known c.args.lines.now.items lines places c.in_ok-own.ensures.grows m) line_at c.in_ok-own.ensures.same (own known line_at m)
    c.in_ok-push.ensures.items (c.in_ok-push-2.ensures.items ∙ ap (λ n. places ++ n ∷ []) (ap length c.as_slice-at.ensures.value))
