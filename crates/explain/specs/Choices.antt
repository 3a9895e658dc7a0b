-- Packages, versions and sets of versions, as a person reads them.
use Rattle.std.specs.Prelude.{ℕ, ◌&&◌, List, [], ◌∷◌, ◌++◌, Bool, true, false, nat_eq, if◌then◌else◌, codes, decimal, map, Option, None, Some}
use Rattle.std.specs.Str.{bytes_eq}
use Rattle.versions.specs.Words.{Text}
use Rattle.registry.specs.Registry.{Package, Packages, Publication, package_at, publication_at}

-- a comma and a space, where something stands before
abbrev pub separator : Bool → Text
separator later = if later then codes ", " else []

-- texts, each after a comma and a space but the first where nothing stands before
abbrev pub listed_after : Bool → List Text → Text
listed_after later [] = []
listed_after later (text ∷ texts) = separator later ++ (text ++ listed_after true texts)

-- texts, with a comma and a space between
abbrev pub listed : List Text → Text
listed texts = listed_after false texts

abbrev pub name_or_none : Option Package → Text
name_or_none None = []
name_or_none (Some pack) = pack.name

-- the name of a package; package 0 is the request
abbrev pub package_text : Packages → ℕ → Text
package_text packages p = if nat_eq p 0 then codes "the request" else name_or_none (package_at packages p)

abbrev pub version_or_number : ℕ → Option Publication → Text
version_or_number k None = codes "#" ++ decimal k
version_or_number k (Some publication) = publication.version

-- a version as it was published; one that is not published is its number after a mark
abbrev pub version_text : Packages → ℕ → ℕ → Text
version_text packages p k = version_or_number k (publication_at packages p k)

-- the versions of a set in their order, in braces
unfoldable pub set_text : Packages → ℕ → List ℕ → Text
set_text packages p set = codes "{" ++ (listed (map (version_text packages p) set) ++ codes "}")

-- the request, and nothing else of it
abbrev pub is_request : ℕ → List ℕ → Bool
is_request p set = nat_eq p 0 && bytes_eq set (0 ∷ [])

-- a package with versions of it; the one version of the request is left out
unfoldable pub choice_text : Packages → ℕ → List ℕ → Text
choice_text packages p set =
    if is_request p set then codes "the request" else package_text packages p ++ (codes " " ++ set_text packages p set)
