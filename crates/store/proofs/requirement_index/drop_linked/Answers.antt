use Rattle.std.proofs.Common.{◌∙◌, refl, sym}
use Rattle.std.proofs.lemmas.Option.{slice_get_read}
use Rattle.store.proofs.Thinning.{AreThinned-same}
use Rattle.store.proofs.Wanting.{no_want, unmet_want}
use Rattle.store.proofs.requirement_index.drop_linked.Goals as goal

pub returns-then-link-from-clause-thinned : goal.returns-then-link-from-clause-thinned
returns-then-link-from-clause-thinned c = AreThinned-same _ c.args.slots.now

pub returns-in_default-clause-thinned : goal.returns-in_default-clause-thinned
returns-in_default-clause-thinned c = AreThinned-same _ c.args.slots.now

pub returns-in_default-clause-dropped : goal.returns-in_default-clause-dropped
returns-in_default-clause-dropped c = λ own need is met place lines e under.
    let at = slice_get_read c.args.wants.now _ c.args.link.place c.in-Some.want.now refl c.in-Some.ensures.lookup.3.0 c.in-Some.ensures.lookup.1 in
    absurd (unmet_want c.args.wants.now c.args.link.place c.args.pkg c.in-Some.want.now need c.args.version.now at (sym c.admits.ensures ∙ c.if-admits.false) is met)

pub returns-in_default-2-clause-thinned : goal.returns-in_default-2-clause-thinned
returns-in_default-2-clause-thinned c = AreThinned-same _ c.args.slots.now

pub returns-in_default-2-clause-dropped : goal.returns-in_default-2-clause-dropped
returns-in_default-2-clause-dropped c = λ own need is met place lines e under. absurd (no_want c.args.wants.now c.args.link.place c.args.pkg need c.get.result c.get.ensures.lookup.0 c.in_default.is is)
