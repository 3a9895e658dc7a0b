-- Lines in their usual form, by their tokens.
use Rattle.std.specs.Prelude.{◌≡◌, List, [], ◌∷◌, false, None, IsTrue, codes}
use Rattle.json.specs.Token.{Token, begin_object, key, string}
use Rattle.versions.specs.Words.{Text, is_name, is_version}
use Rattle.registry.specs.Requests.{Wanted, request_refusal}
use Rattle.registry.specs.Step.{Publish}
use Rattle.wire.specs.Shapes.{Request, command, resolve}
use Rattle.intake.specs.Needs.{AreNeeds, needs_tokens}

-- a line whose first member is its `op`, before the other members
abbrev pub op_tokens : Text → List Token → List Token
op_tokens op rest = begin_object ∷ key (codes "op") ∷ string op ∷ rest

-- the other members of a publication, in their usual order
abbrev pub publication_tokens : Text → Text → List (Text × Text) → List Token
publication_tokens name version needs = key (codes "name") ∷ string name ∷ key (codes "version") ∷ string version ∷ needs_tokens needs

-- a publication of this name, this version and these needs
abbrev pub IsPublication : Text → Text → List (Text × Text) → Type 0
IsPublication name version needs = IsTrue (is_name name) × IsTrue (is_version version) × AreNeeds needs

-- what is wanted where a line has needs alone
abbrev pub IsWanted : Wanted → Type 0
IsWanted wanted = (wanted.lock ≡ []) × AreNeeds wanted.needs × (request_refusal wanted ≡ None)

-- A line of these tokens is the usual one that asks this: a publication, or a resolution by needs alone.
abbrev pub IsUsual : Request → List Token → Type 0
IsUsual (command (Publish name version needs)) ts = (ts ≡ op_tokens (codes "publish") (publication_tokens name version needs)) × IsPublication name version needs
IsUsual (resolve wanted explain budget) ts =
    (ts ≡ op_tokens (codes "resolve") (needs_tokens wanted.needs)) × IsWanted wanted × (explain ≡ false) × (budget ≡ None)
IsUsual request ts = ⊥
