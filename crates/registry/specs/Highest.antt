-- The version of highest precedence that passes a test.
use Rattle.std.specs.Prelude.{◌≡◌, ◌<◌, ℕ, Bool, true, false, List, length, slice_get, Some}
use Rattle.std.specs.declared.cmp.Ordering.TheVariants.{Less}
use Rattle.versions.specs.Words.{precedence}
use Rattle.registry.specs.Registry.{Publication}

-- the publication with this ordinal passes the test, and each one of higher precedence fails it
pub record IsHighest (gives : ℕ → Bool → Type 0) (versions : List Publication) (k : ℕ) : Type 0 where
  pub published : k < length versions
  pub passes : gives k true
  pub fails : (j : ℕ) (version other : Publication) → slice_get versions k ≡ Some version → slice_get versions j ≡ Some other
      → precedence version.version other.version ≡ Less → gives j false
