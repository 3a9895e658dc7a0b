use Rattle.std.proofs.Common.{◌≡◌, arith, true, false, []}
use Rattle.std.proofs.lemmas.List.Elements.{All-nil}
use Rattle.std.specs.List.{IsDistinct}
use Rattle.std.specs.Prelude.{None}
use Rattle.versions.specs.Precedence.{EqualPrecedenceIsAnEquivalence}
use Rattle.registry.specs.Lawful.{IsPackage, IsRegistry}
use Rattle.registry.specs.Registry.{Packages}
use Rattle.registry.specs.Step.{Change, Publish, Unyank, Yank, after, refusal_of}
use Rattle.registry.proofs.Lawfulness.{lawful-mark, lawful-publish}
use Rattle.registry.proofs.laws.registries_stay_lawful.Goals as goal

pub returns-clause-empty : goal.returns-clause-empty
unfolding IsDistinct
returns-clause-empty c = record { few = omega arith; distinct = tt; packs = All-nil (IsPackage []) }

-- a publication, or the mark of a version
after_lawful : EqualPrecedenceIsAnEquivalence → (packages : Packages) (change : Change) → IsRegistry packages → refusal_of packages change ≡ None → IsRegistry (after packages change)
unfolding refusal_of after
after_lawful equal packages (Publish name version needs) lawful free = lawful-publish equal packages name version needs lawful free
after_lawful equal packages (Yank name version) lawful free = lawful-mark packages name version true lawful
after_lawful equal packages (Unyank name version) lawful free = lawful-mark packages name version false lawful

pub returns-clause-kept : goal.returns-clause-kept
returns-clause-kept c = after_lawful c.equal_precedence_is_an_equivalence.ensures.equivalence
