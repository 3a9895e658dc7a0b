-- Lists of needs: names with requirements.
use Rattle.std.specs.Prelude.{◌||◌, Bool, false, List, [], ◌∷◌, map}
use Rattle.std.specs.List.{list_any}
use Rattle.std.specs.Str.{bytes_eq}
use Rattle.versions.specs.Words.{Text}

-- a need has this name
abbrev pub has_name : List (Text × Text) → Text → Bool
has_name needs name = list_any (λ (d : Text × Text). bytes_eq name d.0) needs

-- two needs have one name
abbrev pub repeats_name : List (Text × Text) → Bool
repeats_name [] = false
repeats_name (d ∷ rest) = has_name rest d.0 || repeats_name rest

-- the names of the needs, in order
abbrev pub names_of : List (Text × Text) → List Text
names_of needs = map (λ (d : Text × Text). d.0) needs

-- a text comes twice
abbrev pub repeats : List Text → Bool
repeats [] = false
repeats (text ∷ rest) = list_any (bytes_eq text) rest || repeats rest
