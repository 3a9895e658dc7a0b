-- The requirements on packages that the members of a store rest on.
use Rattle.std.specs.Prelude.{◌≡◌, ◌<◌, ◌⊎◌, ℕ, true, List, [], ◌∷◌, Some, length, slice_get}
use Rattle.versions.specs.Words.{Text, meets}
use Rattle.store.specs.Indexes.{Indexed, IsUnder}
use Rattle.store.specs.Slots.{AreFound, HasKey, IsMemberAt, NoneUnder, Slots, is_met, kept}
use Rattle.derivations.specs.Lines.{Cause, Line}
use Rattle.derivations.specs.declared.facts.Cause.TheVariants as cause
use Rattle.store.specs.declared.index.Link.{Link}
use Rattle.store.specs.declared.requirement_index.IndexedRequirement.{IndexedRequirement}

-- the requirements, their places under their packages, and under each place those of the members that rest on it
pub record Wanted : Type 0 where
  pub wants : List IndexedRequirement
  pub targets : Indexed
  pub members : Indexed

abbrev pub IsWhole : Wanted → Type 0
IsWhole wanted = (wanted.targets.whole ≡ true) × (wanted.members.whole ≡ true)

-- this requirement on this package stands in this place
pub record IsWant (wants : List IndexedRequirement) (place target : ℕ) (need : Text) : Type 0 where
  pub want : IndexedRequirement
  pub at : slice_get wants place ≡ Some want
  pub target_is : want.target ≡ target
  pub need_is : want.need ≡ need

-- each stands under its package
abbrev pub AreListed : List IndexedRequirement → Indexed → Type 0
AreListed wants targets = targets.whole ≡ true → (place target : ℕ) (need : Text) → IsWant wants place target need → IsUnder targets.links target place

-- a requirement is listed, and a member's place stands under it
pub record IsHeld (wanted : Wanted) (member target : ℕ) (need : Text) : Type 0 where
  pub place : ℕ
  pub wants : IsWant wanted.wants place target need
  pub listed : IsUnder wanted.targets.links target place
  pub under : IsUnder wanted.members.links place member

-- what was held is held
pub record KeepsHeld (old new : Wanted) : Type 0 where
  pub whole : IsWhole new → IsWhole old
  pub held : (member target : ℕ) (need : Text) → IsHeld old member target need → IsHeld new member target need

-- ---- what members rest on

-- the cause is a premise with this target and this requirement
abbrev pub CauseRests : Cause → ℕ → Text → Type 0
CauseRests (cause.Line n) target need = ⊥
CauseRests (cause.Premise premise) target need = (premise.target ≡ target) × (premise.need ≡ need)
CauseRests (cause.Need i) target need = ⊥
CauseRests (cause.NotAllowed p versions) target need = ⊥
CauseRests cause.Root target need = ⊥

-- the lines have such a premise
abbrev pub Rests : List Line → ℕ → Text → Type 0
Rests [] target need = ⊥
Rests (line ∷ rest) target need = CauseRests line.causes.0 target need ⊎ CauseRests line.causes.1 target need ⊎ Rests rest target need

-- a member in this place is held by each requirement that these lines rest on
abbrev pub HoldsAt : Wanted → ℕ → List Line → Type 0
HoldsAt wanted place lines = (target : ℕ) (need : Text) → Rests lines target need → IsHeld wanted place target need

-- each member is held by each requirement that it rests on
abbrev pub AreHeld : Wanted → Slots → Type 0
AreHeld wanted slots = IsWhole wanted → (place : ℕ) (lines : List Line) (target : ℕ) (need : Text) → IsMemberAt slots place lines → Rests lines target need → IsHeld wanted place target need

-- each member among the first places
abbrev pub AreHeldBelow : ℕ → Wanted → Slots → Type 0
AreHeldBelow first wanted slots = IsWhole wanted → (place : ℕ) (lines : List Line) (target : ℕ) (need : Text) → IsMemberAt slots place lines → place < first → Rests lines target need → IsHeld wanted place target need

-- no member is met that stands under the requirement in this place, if that is one on the package which the version meets
abbrev pub AreDropped : List IndexedRequirement → List Link → ℕ → ℕ → Text → Slots → Type 0
AreDropped wants members want p version slots = (need : Text) → IsWant wants want p need → meets need version ≡ true → NoneUnder (is_met p version) members want slots

-- so many members stand in the places, and are found under their keys and under what they rest on
pub record IsStore (count : ℕ) (slots : Slots) (keys : Indexed) (wanted : Wanted) : Type 0 where
  pub counted : count ≡ length (kept slots)
  pub keyed : AreFound HasKey keys slots
  pub held : AreHeld wanted slots
