-- Selections in the order of names.
use Rattle.std.specs.Prelude.{◌≡◌, ◌<◌, ◌+◌, ◌*◌, ℕ, suc, zero, [], ◌∷◌, slice_index, Option, None, Some}
use Rattle.std.specs.Cmp.Lexicographic.{slice_cmp}
use Rattle.std.specs.Ordering.{nat_cmp}
use Rattle.std.specs.declared.cmp.Ordering.{Ordering}
use Rattle.versions.specs.Words.{Text}
use Rattle.registry.specs.Registry.{Package, Packages, package_at}

abbrev pub name_or_none : Option Package → Text
name_or_none None = []
name_or_none (Some pack) = pack.name

-- the name of a package, no text where the number has none
abbrev pub name_of : Packages → ℕ → Text
name_of packages p = name_or_none (package_at packages p)

-- how two packages with their ordinals compare, by the bytes of the packages' names
abbrev pub by_name : Packages → ℕ × ℕ → ℕ × ℕ → Ordering
by_name packages a b = slice_cmp nat_cmp (name_of packages a.0) (name_of packages b.0)

-- ---- fronts

-- the first bytes of a text, as one number
abbrev pub front_to : ℕ → Text → ℕ
front_to zero text = 0
front_to (suc k) text = 256 * front_to k text + slice_index text k

-- each byte of a text is below 256
abbrev pub AreBytes : Text → Type 0
AreBytes text = (i : ℕ) → slice_index text i < 256

-- a number is the front of the name of the package that stands behind it
pub record IsFronted (packages : Packages) (e : ℕ × (ℕ × ℕ)) : Type 0 where
  pub front : e.0 ≡ front_to 8 (name_of packages e.1.0)
  pub bytes : AreBytes (name_of packages e.1.0)

-- how two packages compare by numbers before them, and then by their names
abbrev pub by_front : Packages → ℕ × (ℕ × ℕ) → ℕ × (ℕ × ℕ) → Ordering
by_front packages a b = slice_cmp nat_cmp (a.0 ∷ name_of packages a.1.0) (b.0 ∷ name_of packages b.1.0)
