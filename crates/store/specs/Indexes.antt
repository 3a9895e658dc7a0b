-- Lists of places by number.
use Rattle.std.specs.Prelude.{◌≡◌, ◌<◌, ◌≤◌, ◌+◌, ◌%◌, ◌⊎◌, ℕ, Bool, true, List, All, Some, length, slice_get}
use Rattle.store.specs.declared.index.Link.{Link}
use Rattle.store.specs.declared.index.TheConstants.{CHAINS}

-- whether it has all places that were added, and its links in the order of adding
pub record Indexed : Type 0 where
  pub whole : Bool
  pub links : List Link

-- the chain that a number's places stand in
unfoldable pub chain_of : ℕ → ℕ
chain_of number = number % CHAINS

-- among the first links the newest of the chain is the one with the number `at`, counted from 1; at 0 there is none
pub record IsNewest (links : List Link) (first chain at : ℕ) : Type 0 where
  pub within : at ≤ first
  pub own : (n : ℕ) (link : Link) → slice_get links n ≡ Some link → n + 1 ≡ at → chain_of link.number ≡ chain
  pub newest : (n : ℕ) (link : Link) → slice_get links n ≡ Some link → chain_of link.number ≡ chain → n < first → n < at

-- the heads tell the newest link of each chain, and each link the newest before it
pub record AreChained (heads : List ℕ) (links : List Link) : Type 0 where
  pub first : (chain head : ℕ) → slice_get heads chain ≡ Some head → IsNewest links (length links) chain head
  pub before : (n : ℕ) (link : Link) → slice_get links n ≡ Some link → IsNewest links n (chain_of link.number) link.before

-- the heads of chains that have no link
pub record AreZero (heads : List ℕ) : Type 0 where
  pub count : length heads ≡ CHAINS
  pub zero_all : All (λ head. head ≡ 0) heads

-- there is a head for each chain
pub record IsChained (heads : List ℕ) (links : List Link) : Type 0 where
  pub count : length heads ≡ CHAINS
  pub chained : AreChained heads links

-- where it is whole
abbrev pub IsIndex : Bool → List ℕ → List Link → Type 0
IsIndex whole heads links = whole ≡ true → IsChained heads links

-- a place stands under a number
pub record IsUnder (links : List Link) (number place : ℕ) : Type 0 where
  pub at : ℕ
  pub link : Link
  pub is : slice_get links at ≡ Some link
  pub number_is : link.number ≡ number
  pub place_is : link.place ≡ place

-- no link has this number, counted from 1
abbrev pub HasNone : List Link → ℕ → Type 0
HasNone links at = (at ≡ 0) ⊎ (length links < at)

-- each link stands where it stood
abbrev pub Extends : List Link → List Link → Type 0
Extends old new = (n : ℕ) (link : Link) → slice_get old n ≡ Some link → slice_get new n ≡ Some link
