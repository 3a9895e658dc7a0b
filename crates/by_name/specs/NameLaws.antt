-- Laws of derivations by name.
use Rattle.std.specs.Prelude.{◌≡◌, List}
use Rattle.registry.specs.Registry.{Packages}
use Rattle.registry.specs.Requests.{Wanted}
use Rattle.derivations.specs.Derivations.{AreIncompats, IsDerivation}
use Rattle.derivations.specs.Learning.{AllStand, IsLearnt}
use Rattle.derivations.specs.Lines.{Line}
use Rattle.by_name.specs.Named.{AllHaveNames, IsNumbered}
use Rattle.by_name.specs.NamedLines.{NamedLine}

-- every package of a derivation whose conclusions are incompatibilities has a name
abbrev pub DerivedPackagesHaveNames : Type 0
DerivedPackagesHaveNames = (packages : Packages) (wanted : Wanted) (lines : List Line) → AreIncompats lines → IsDerivation packages wanted lines → AllHaveNames packages lines

-- so has every package of what was learnt where its premises stand
abbrev pub LearntPackagesHaveNames : Type 0
LearntPackagesHaveNames = (packages : Packages) (lines : List Line) → AreIncompats lines → IsLearnt lines → AllStand packages lines → AllHaveNames packages lines

-- names stand for one derivation at most
abbrev pub OneNumbering : Type 0
OneNumbering = (packages : Packages) (named : List NamedLine) (one two : List Line) → IsNumbered packages named one → IsNumbered packages named two → one ≡ two
