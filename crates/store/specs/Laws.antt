-- What is stored stands, whatever is entered.
use Rattle.std.specs.Prelude.{◌≡◌, List, [], ◌∷◌, ◌++◌, All, None}
use Rattle.registry.specs.Registry.{Packages}
use Rattle.registry.specs.Step as registry
use Rattle.registry.specs.Step.{Change}
use Rattle.derivations.specs.Learning.{AllStand, IsLearnt}
use Rattle.store.specs.Stored.{learn_refusal, stored_after}
use Rattle.derivations.specs.Lines.{Line}

-- what stands before an accepted command, and is stored after it, stands after it
abbrev pub CommandsKeep : Type 0
CommandsKeep = (packages : Packages) (change : Change) (members : List (List Line)) → registry.refusal_of packages change ≡ None
    → All (AllStand packages) members → All (AllStand (registry.after packages change)) (stored_after (registry.after packages change) change members)

-- and is still learnt
abbrev pub CommandsKeepLearnt : Type 0
CommandsKeepLearnt = (packages : Packages) (change : Change) (members : List (List Line)) → All IsLearnt members → All IsLearnt (stored_after packages change members)

-- what is learnt stands, as what was stored before
abbrev pub LearningKeeps : Type 0
LearningKeeps = (packages : Packages) (members : List (List Line)) (lines : List Line) → learn_refusal packages members lines ≡ None
    → All (AllStand packages) members → All (AllStand packages) (members ++ lines ∷ [])
