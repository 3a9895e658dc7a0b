use Rattle.terms.specs.declared.term.Term.TheVariants.{In}
use Rattle.walk.specs.Left.{term_of}
use Rattle.walk.proofs.Bests.{narrows_left}
use Rattle.walk.proofs.choosing.Choosing.lessen_low.Goals as goal

pub returns : goal.returns
returns c =
    let e = c.requires.0 in
    narrows_left (In c.args.set.now) (term_of c.in_ok-both.both) c.args.pkg c.args.place e c.index.result.now c.args.self.now c.leave.new.self c.requires.1 c.requires.2 c.index.ensures c.in_ok-both.ensures c.in_ok-leave.ensures
