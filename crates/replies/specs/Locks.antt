-- Lock lists: the packages of a build with the versions to stay at, as the text of a file.
use Rattle.std.specs.Prelude.{ℕ, List, [], ◌∷◌, ◌++◌, map}
use Rattle.std.specs.Cmp.Lexicographic.{slice_cmp}
use Rattle.std.specs.Ordering.{nat_cmp}
use Rattle.std.specs.declared.cmp.Ordering.{Ordering}
use Rattle.serde_json.specs.Data.{array}
use Rattle.serde_json.specs.View.{items_of}
use Rattle.serde_json.specs.Written.{compact_text}
use Rattle.versions.specs.Words.{Text}
use Rattle.replies.specs.Replies.{pair_json}

-- how two lines compare, by the bytes of their names
abbrev pub by_name : Text × Text → Text × Text → Ordering
by_name a b = slice_cmp nat_cmp a.0 b.0

-- these lines as one line of compact JSON
unfoldable pub lock_text : List (Text × Text) → Text
lock_text lines = compact_text (array (items_of (map pair_json lines))) ++ 10 ∷ []
