use Rattle.std.proofs.lemmas.Option.{IfSome_then}
use Rattle.walk.proofs.Bests.{only_left}
use Rattle.walk.proofs.choosing.Choosing.only.Goals as goal

pub returns : goal.returns
returns c =
    let here = c.in_ok-place.ensures in
    IfSome_then c.only.result c.only.ensures (λ k is packages wanted h. only_left packages wanted c.args.self.now c.in_ok-place.place c.args.pkg k here.0 c.index.result.now h here.1 here.2 c.index.ensures is)
