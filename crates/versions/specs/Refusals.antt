-- The refusals by number and name, and what an answer says of a definition where memory may run out.
use Rattle.std.specs.Prelude.{◌≡◌, ℕ, List, codes, Result, Ok, Err}
use Rattle.versions.specs.declared.refusal.Refusal.{Refusal}
use Rattle.versions.specs.declared.refusal.Refusal.TheVariants.{BadName, BadVersion, BadRequirement, RepeatedDependency, SelfDependency, TooManyDependencies, AlreadyPublished, TooManyVersions, TooManyPackages, JournalFull, NoSuchVersion, AlreadyYanked, NotYanked, Stale, Known, StoreFull, Stray, NoMemory, BadLine, TooLong, NotADerivation, BudgetSpent}

-- the number by which replies tell a refusal
abbrev pub number_of : Refusal → ℕ
number_of BadName = 1
number_of BadVersion = 2
number_of BadRequirement = 3
number_of RepeatedDependency = 4
number_of SelfDependency = 5
number_of TooManyDependencies = 6
number_of AlreadyPublished = 7
number_of TooManyVersions = 8
number_of TooManyPackages = 9
number_of JournalFull = 10
number_of NoSuchVersion = 11
number_of AlreadyYanked = 12
number_of NotYanked = 13
number_of Stale = 14
number_of Known = 15
number_of StoreFull = 16
number_of Stray = 17
number_of NoMemory = 18
number_of BadLine = 19
number_of TooLong = 20
number_of NotADerivation = 21
number_of BudgetSpent = 22

-- the name that replies give a refusal
abbrev pub name_of : Refusal → List ℕ
name_of BadName = codes "BadName"
name_of BadVersion = codes "BadVersion"
name_of BadRequirement = codes "BadRequirement"
name_of RepeatedDependency = codes "RepeatedDependency"
name_of SelfDependency = codes "SelfDependency"
name_of TooManyDependencies = codes "TooManyDependencies"
name_of AlreadyPublished = codes "AlreadyPublished"
name_of TooManyVersions = codes "TooManyVersions"
name_of TooManyPackages = codes "TooManyPackages"
name_of JournalFull = codes "JournalFull"
name_of NoSuchVersion = codes "NoSuchVersion"
name_of AlreadyYanked = codes "AlreadyYanked"
name_of NotYanked = codes "NotYanked"
name_of Stale = codes "Stale"
name_of Known = codes "Known"
name_of StoreFull = codes "StoreFull"
name_of Stray = codes "Stray"
name_of NoMemory = codes "NoMemory"
name_of BadLine = codes "BadLine"
name_of TooLong = codes "TooLong"
name_of NotADerivation = codes "NotADerivation"
name_of BudgetSpent = codes "BudgetSpent"

-- a refusal is the one that the definition says, unless memory ran out
abbrev pub Refuses : {Y : Type 0} → Refusal → Result Y Refusal → Type 0
Refuses NoMemory said = Unit {0}
Refuses e said = said ≡ Err e

-- what was answered, seen by view, is what the definition says, unless memory ran out
abbrev pub Gives : {X Y : Type 0} → (X → Y) → Result X Refusal → Result Y Refusal → Type 0
Gives view (Ok x) said = said ≡ Ok (view x)
Gives view (Err e) said = Refuses e said
