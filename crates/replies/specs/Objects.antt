-- Objects whose members stand in the byte order of their names.
use Rattle.std.specs.Prelude.{List, [], ◌∷◌}
use Rattle.serde_json.specs.Data.{Data, Members, no_members, put}
use Rattle.versions.specs.Words.{Text}

-- members, each at its place in the byte order of their names
abbrev pub members : List (Text × Data) → Members
members [] = no_members
members (m ∷ ms) = put m.0 m.1 (members ms)
