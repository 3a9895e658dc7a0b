use Rattle.std.proofs.Common.{◌∷◌, []}
use Rattle.terms.specs.declared.term.Term.TheVariants.{NotIn}
use Rattle.walk.specs.Left.{term_of}
use Rattle.walk.proofs.Bests.{narrows_left}
use Rattle.walk.proofs.choosing.Choosing.leave_out.Goals as goal

pub returns : goal.returns
returns c =
    let e = c.requires.0 in
    narrows_left (NotIn (c.args.version.1 ∷ [])) (term_of c.in_ok-left.left) c.args.version.0 c.args.place e c.index.result.now c.args.self.now c.leave.new.self c.requires.1 c.requires.2 c.index.ensures c.in_ok-left.ensures c.in_ok-leave.ensures
