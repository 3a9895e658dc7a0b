-- Texts that are put one behind another.
use Rattle.std.specs.Prelude.{◌≡◌, ℕ, List, ◌++◌, Option}
use Rattle.std.specs.Io.KnownBytes.{Appends}
use Rattle.lines.specs.Texts.{IsBeginning}

-- all of a text was put: what was written, and what waits now, are what waited and the text
abbrev pub IsPut : Option (List ℕ) → Option (List ℕ) → List ℕ → List ℕ → List ℕ → Type 0
IsPut old new before after text = (written : List ℕ) × Appends old new written × (written ++ after ≡ before ++ text)

-- a put failed, and a beginning of what waited and the text was written
abbrev pub IsCut : Option (List ℕ) → Option (List ℕ) → List ℕ → List ℕ → Type 0
IsCut old new before text = (written : List ℕ) × Appends old new written × IsBeginning written (before ++ text)

-- a put, and another after it
pub record PutsAddUp : Type 0 where
  -- both are put like one text
  pub both : (a b c : Option (List ℕ)) (x y z first second : List ℕ) → IsPut a b x y first → IsPut b c y z second → IsPut a c x z (first ++ second)
  -- where the second fails, both do
  pub second_cut : (a b c : Option (List ℕ)) (x y first second : List ℕ) → IsPut a b x y first → IsCut b c y second → IsCut a c x (first ++ second)
  -- where the first fails, so do both, whatever the second is
  pub first_cut : (a b : Option (List ℕ)) (x first second : List ℕ) → IsCut a b x first → IsCut a b x (first ++ second)
