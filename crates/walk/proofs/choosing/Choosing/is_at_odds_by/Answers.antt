use Rattle.std.proofs.Common.{rules, arith}
use Rattle.std.proofs.lemmas.Option.{slice_get_within}
use Rattle.walk.specs.Left.{term_of}
use Rattle.walk.proofs.Bests.{left_read, odds_chosen, odds_left, odds_none}
use Rattle.walk.proofs.choosing.Choosing.is_at_odds_by.Goals as goal

pub returns-in-Some-is_apart_from : goal.returns-in-Some-is_apart_from
returns-in-Some-is_apart_from c = λ odds wanted h.
    odds_none c.args.registry.now.packages wanted c.args.self.now.found.entries c.args.version.0 c.args.version.1 c.args.index c.in-Some.target _ c.in-Some.ensures
    (c.in-Some-is_apart_from.ensures odds c.args.registry.now.packages wanted h)

pub returns-in-Some-get : goal.returns-in-Some-get
returns-in-Some-get c = λ odds wanted h.
    odds_chosen c.args.registry.now.packages wanted c.args.self.now.found.entries c.args.version.0 c.args.version.1 c.args.index c.in-Ok.target c.in-Some-get.chosen _ c.in-Ok.ensures (search rules) (search rules)

pub index-requires : goal.index-requires
index-requires c =
    let here = c.in-Some-place_of.ensures in
    let within = slice_get_within c.args.self.now.needed.items c.in-Some-place_of.place here.0 here.1 in
    omega (arith, within, c.args.self.now.needed.ok.0)

pub returns : goal.returns
returns c = λ apart wanted h.
    let here = c.in-Some-place_of.ensures in
    odds_left c.args.registry.now.packages wanted c.args.self.now.found.entries c.args.version.0 c.args.version.1 c.args.index c.in-Ok.target _ (term_of c.index.result.now.left) c.in-Ok.ensures
    (left_read c.args.registry.now.packages wanted c.args.self.now c.in-Some-place_of.place c.in-Ok.target here.0 c.index.result.now h here.1 here.2 c.index.ensures) (c.is_apart.ensures apart)
