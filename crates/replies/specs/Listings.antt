-- Listings of what is published.
use Rattle.std.specs.Prelude.{List, Bool, length, map, nat_lt}
use Rattle.std.specs.List.{filter}
use Rattle.std.specs.List.Sorted.{IsPermutation, IsSortedByKey}
use Rattle.std.specs.Cmp.Lexicographic.{slice_cmp}
use Rattle.std.specs.Ordering.{nat_cmp}
use Rattle.versions.specs.Words.{Text}
use Rattle.registry.specs.Registry.{Package, Packages, Publication}

-- a package that is listed: its name, and its versions in order, each with whether it is yanked
abbrev pub Row : Type 0
Row = Text × List (Text × Bool)

abbrev pub versions_in : List Publication → List (Text × Bool)
versions_in publications = map (λ (p : Publication). (p.version, p.yanked)) publications

abbrev pub row_of : Package → Row
row_of pack = (pack.name, versions_in pack.versions)

-- the package has a publication
abbrev pub is_listed : Package → Bool
is_listed pack = nat_lt 0 (length pack.versions)

-- the rows of the packages that have a publication, in order of their numbers
abbrev pub rows_of : Packages → List Row
rows_of packages = map row_of (filter is_listed packages)

-- these are the rows of the packages that have a publication, each once, in byte order of the names
pub record IsListing (packages : Packages) (rows : List Row) : Type 0 where
  pub whole : IsPermutation (rows_of packages) rows
  pub ascending : IsSortedByKey (λ (row : Row). row.0) (slice_cmp nat_cmp) rows
