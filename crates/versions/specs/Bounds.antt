-- What a requirement admits, by ranges of numbers.
use Rattle.std.specs.Prelude.{◌≡◌, ℕ, ◌+◌, ◌==◌, ◌&&◌, ◌||◌, nat_lt, not, Bool, true, false, [], Option, None, Some, Ok, length, unwrap_or, if◌then◌else◌}
use Rattle.semver.specs.Identifiers.{parts_of, pre_text}
use Rattle.semver.specs.Parse.{version_parts}
use Rattle.semver.specs.declared.Comparator.{Comparator}
use Rattle.semver.specs.declared.Op.{Op}
use Rattle.semver.specs.declared.Op.TheVariants as op
use Rattle.semver.specs.declared.Version.{Version}
use Rattle.versions.specs.Words.{Text, meets, parts_of_text}
use Rattle.versions.specs.declared.bounds.Numbers.{Numbers}
use Rattle.versions.specs.declared.bounds.Range.{Range}

abbrev pub numbers_of : Version → Numbers
numbers_of v = record { major = v.major; minor = v.minor; patch = v.patch }

-- the numbers of a version's text
abbrev pub numbers_in : Text → Numbers
numbers_in text = let p = parts_of_text text in record { major = p.0; minor = p.1; patch = p.2 }

-- the text is that of a version without a pre-release
abbrev pub IsPlain : Text → Type 0
IsPlain text = (v : Version) × (version_parts text ≡ Ok (parts_of v)) × (pre_text v.pre ≡ [])

-- whether the first numbers come before the second
abbrev pub is_before : Numbers → Numbers → Bool
is_before a b = nat_lt a.major b.major
    || ((a.major == b.major) && (nat_lt a.minor b.minor || ((a.minor == b.minor) && nat_lt a.patch b.patch)))

-- whether the numbers come before an end, if there is one
abbrev pub is_within : Numbers → Option Numbers → Bool
is_within n None = true
is_within n (Some end) = is_before n end

abbrev pub has : Range → Numbers → Bool
has range n = not (is_before n range.lowest) && is_within n range.end

-- ---- what a comparator names

abbrev pub next_major : ℕ → Numbers
next_major major = record { major = major + 1; minor = 0; patch = 0 }

abbrev pub next_minor : ℕ → ℕ → Numbers
next_minor major minor = record { major = major; minor = minor + 1; patch = 0 }

abbrev pub next_patch : ℕ → ℕ → ℕ → Numbers
next_patch major minor patch = record { major = major; minor = minor; patch = patch + 1 }

abbrev pub first_of : Comparator → Numbers
first_of c = record { major = c.major; minor = unwrap_or c.minor 0; patch = unwrap_or c.patch 0 }

abbrev pub beyond_numbers : ℕ → Option ℕ → Option ℕ → Numbers
beyond_numbers major None patch = next_major major
beyond_numbers major (Some minor) None = next_minor major minor
beyond_numbers major (Some minor) (Some patch) = next_patch major minor patch

-- the first numbers beyond those that are named; a release is beyond its pre-releases
abbrev pub beyond : Comparator → Numbers
beyond c = if length (pre_text c.pre) == 0 then beyond_numbers c.major c.minor c.patch else first_of c

abbrev pub tilde_beyond : ℕ → Option ℕ → Numbers
tilde_beyond major None = next_major major
tilde_beyond major (Some minor) = next_minor major minor

abbrev pub tilde_end : Comparator → Numbers
tilde_end c = tilde_beyond c.major c.minor

abbrev pub zero_beyond : Option ℕ → Option ℕ → Numbers
zero_beyond None patch = next_major 0
zero_beyond (Some minor) None = next_minor 0 minor
zero_beyond (Some minor) (Some patch) = if minor == 0 then next_patch 0 0 patch else next_minor 0 minor

abbrev pub caret_end : Comparator → Numbers
caret_end c = if nat_lt 0 c.major then next_major c.major else zero_beyond c.minor c.patch

abbrev pub is_cut_short : Option ℕ → Option ℕ → Bool → Bool
is_cut_short (Some minor) (Some patch) plain = true
is_cut_short (Some minor) None plain = plain
is_cut_short None None plain = plain
is_cut_short None (Some patch) plain = false

-- whether nothing stands behind a number that is left out
abbrev pub is_in_order : Comparator → Bool
is_in_order c = is_cut_short c.minor c.patch (length (pre_text c.pre) == 0)

abbrev pub zero : Numbers
zero = record { major = 0; minor = 0; patch = 0 }

-- the numbers of the versions without a pre-release that match the comparator
abbrev pub range_of : Op → Comparator → Range
range_of op.Exact c = record { lowest = first_of c; end = Some (beyond c) }
range_of op.Wildcard c = record { lowest = first_of c; end = Some (beyond c) }
range_of op.Greater c = record { lowest = beyond c; end = None }
range_of op.GreaterEq c = record { lowest = first_of c; end = None }
range_of op.Less c = record { lowest = zero; end = Some (first_of c) }
range_of op.LessEq c = record { lowest = zero; end = Some (beyond c) }
range_of op.Tilde c = record { lowest = first_of c; end = Some (tilde_end c) }
range_of op.Caret c = record { lowest = first_of c; end = Some (caret_end c) }

-- ---- what a requirement admits

-- what the bounds of a requirement tell
pub record Reach : Type 0 where
  -- the numbers of the versions without a pre-release that meet it
  pub range : Range
  -- whether a comparator has a pre-release, without which none meets the requirement
  pub opens : Bool
  -- whether the range is not known
  pub is_vague : Bool

-- the bounds are those of the requirement
pub record IsBounded (need : Text) (bounds : Reach) : Type 0 where
  -- a version without a pre-release meets it where its numbers are in the range
  pub range : bounds.is_vague ≡ false → (version : Text) (v : Version) → version_parts version ≡ Ok (parts_of v) → pre_text v.pre ≡ []
      → has bounds.range (numbers_of v) ≡ meets need version
  -- and one with a pre-release only where a comparator has one
  pub closed : bounds.opens ≡ false → (version : Text) (v : Version) → version_parts version ≡ Ok (parts_of v) → (length (pre_text v.pre) == 0) ≡ false
      → false ≡ meets need version
