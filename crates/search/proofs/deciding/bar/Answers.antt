use Rattle.std.proofs.Common.{[], ◌∷◌, refl}
use Rattle.std.proofs.lemmas.Option.{slice_get_within}
use Rattle.terms.specs.declared.term.Term.TheVariants.{In}
use Rattle.search.specs.declared.search.Search.{Search}
use Rattle.search.specs.Searching.{IsUnused}
use Rattle.search.proofs.Decisions.{acts_as, not_neither_alone, unused_says}
use Rattle.search.proofs.Kept.{extends_search}
use Rattle.search.proofs.deciding.bar.Goals as goal

pub propagate_incompatibility-requires-clause-within : goal.propagate_incompatibility-requires-clause-within
propagate_incompatibility-requires-clause-within c = slice_get_within c.push_barred.new.known.items c.in_ok-at.at c.in_ok-at.ensures.place.0 c.in_ok-at.ensures.place.1

pub propagate_incompatibility-requires-clause-search : goal.propagate_incompatibility-requires-clause-search
propagate_incompatibility-requires-clause-search c = extends_search c.in_ok-at.ensures.extends c.requires.search

pub returns-clause-acts : goal.returns-clause-acts
returns-clause-acts c =
    let old = c.args.search.now in
    let mid : Search = record { partial = old.partial; known = c.push_barred.new.known; conflicts = old.conflicts } in
    acts_as c.args.task.now old mid c.propagate_incompatibility.new.search (IsUnused mid c.propagate_incompatibility.new.search c.in_ok-at.at) ⊥ c.in_ok-propagate_incompatibility.field-0 refl
    (λ unused. not_neither_alone old.partial c.args.pkg c.args.versions c.requires.left (unused_says mid c.propagate_incompatibility.new.search ((c.args.pkg, In c.args.versions) ∷ []) c.in_ok-at.at c.in_ok-at.ensures.place unused))
    c.in_ok-propagate_incompatibility.ensures.acts
