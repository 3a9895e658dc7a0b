use Rattle.std.proofs.Common.{◌∷◌, [], subst}
use Rattle.terms.specs.declared.term.Term.{Term}
use Rattle.terms.specs.declared.term.Term.TheVariants.{In}
use Rattle.walk.specs.Best.{Pushes}
use Rattle.walk.proofs.Bests.{narrows_pushed, narrows_same}
use Rattle.walk.proofs.choosing.Choosing.keep_only.Goals as goal

pub returns-then-is_only : goal.returns-then-is_only
returns-then-is_only c = narrows_same (In (c.args.version.1 ∷ [])) c.args.version.0 c.args.self.now

pub returns : goal.returns
returns c =
    let only = In (c.args.version.1 ∷ []) in
    let push = subst (λ (s : Term). Pushes s c.args.version.0 c.args.self.now c.push_left.new.self) c.in_ok-left.ensures c.in_ok-push_left.ensures in
    narrows_pushed only only c.args.version.0 c.args.self.now c.push_left.new.self push (λ packages wanted each h. each)
