-- Needs, as the last member of a line in its usual form.
use Rattle.std.specs.Prelude.{List, [], ◌∷◌, IsTrue, codes}
use Rattle.std.specs.List.{list_all}
use Rattle.json.specs.Token.{Token, end_object, begin_array, end_array, key, string}
use Rattle.versions.specs.Words.{Text, is_name, is_requirement}
use Rattle.registry.specs.Needs.{names_of}
use Rattle.wire.specs.Requests.{requirements_of}

-- pairs of texts, before what follows them
abbrev pub pair_tokens : List (Text × Text) → List Token → List Token
pair_tokens [] rest = rest
pair_tokens (p ∷ ps) rest = begin_array ∷ string p.0 ∷ string p.1 ∷ end_array ∷ pair_tokens ps rest

-- the member of needs, with which an object ends
abbrev pub needs_tokens : List (Text × Text) → List Token
needs_tokens needs = key (codes "needs") ∷ begin_array ∷ pair_tokens needs (end_array ∷ end_object ∷ [])

-- each is a name with a requirement
abbrev pub AreNeeds : List (Text × Text) → Type 0
AreNeeds needs = IsTrue (list_all is_name (names_of needs)) × IsTrue (list_all is_requirement (requirements_of needs))
