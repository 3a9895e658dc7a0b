-- What a request line asks.
use Rattle.std.specs.Prelude.{ℕ, Bool, List, [], ◌∷◌, ◌++◌, length, nat_le, ◌&&◌, if◌then◌else◌, Option, Some, None, option_and_then, Result, Ok, Err, map}
use Rattle.std.specs.List.{list_all}
use Rattle.std.specs.Str.{is_utf8}
use Rattle.serde_json.specs.Read.{read}
use Rattle.versions.specs.Words.{Text, is_name, is_version, is_requirement}
use Rattle.versions.specs.declared.refusal.Refusal.{Refusal}
use Rattle.versions.specs.declared.refusal.Refusal.TheVariants.{BadName, BadVersion, BadRequirement, BadLine}
use Rattle.lines.specs.Unread.{line_limit}
use Rattle.registry.specs.Needs.{names_of}
use Rattle.registry.specs.Requests.{request_refusal}
use Rattle.registry.specs.Step.{Publish, Yank, Unyank}
use Rattle.wire.specs.NamedShapes.{premise_requirements}
use Rattle.wire.specs.Shapes.{Request, check, command, listing, resolve, shape_of}

-- the requirements of the needs, in order
abbrev pub requirements_of : List (Text × Text) → List Text
requirements_of needs = map (λ (need : Text × Text). need.1) needs

-- the versions that a lock names, in order of its lines
abbrev pub locked_versions : List (Text × Text) → List Text
locked_versions lock = map (λ (line : Text × Text). line.1) lock

-- all names of a request; those of a derivation belong to its shape
abbrev pub names_in : Request → List Text
names_in (command (Publish name version needs)) = name ∷ names_of needs
names_in (command (Yank name version)) = name ∷ []
names_in (command (Unyank name version)) = name ∷ []
names_in (resolve wanted explain budget) = names_of wanted.needs ++ names_of wanted.lock
names_in (check wanted lines) = names_of wanted.needs ++ names_of wanted.lock
names_in listing = []

-- all versions of a request
abbrev pub versions_in : Request → List Text
versions_in (command (Publish name version needs)) = version ∷ []
versions_in (command (Yank name version)) = version ∷ []
versions_in (command (Unyank name version)) = version ∷ []
versions_in (resolve wanted explain budget) = locked_versions wanted.lock
versions_in (check wanted lines) = locked_versions wanted.lock
versions_in listing = []

-- all requirements of a request, those of a derivation's premises among them
abbrev pub requirements_in : Request → List Text
requirements_in (command (Publish name version needs)) = requirements_of needs
requirements_in (command (Yank name version)) = []
requirements_in (command (Unyank name version)) = []
requirements_in (resolve wanted explain budget) = requirements_of wanted.needs
requirements_in (check wanted lines) = requirements_of wanted.needs ++ premise_requirements lines
requirements_in listing = []

-- what was tested, where the test holds, or else the refusal
abbrev pub checked : {X : Type 0} → Bool → X → Refusal → Result X Refusal
checked holds x refusal = if holds then Ok x else Err refusal

abbrev pub unless_refused : Option Refusal → Request → Result Request Refusal
unless_refused None request = Ok request
unless_refused (Some refusal) request = Err refusal

-- What a resolve or a check line names twice, and how much it asks, is judged with it; of a command that is the registry's to judge.
abbrev pub counted : Request → Result Request Refusal
counted (command change) = Ok (command change)
counted (resolve wanted explain budget) = unless_refused (request_refusal wanted) (resolve wanted explain budget)
counted (check wanted lines) = unless_refused (request_refusal wanted) (check wanted lines)
counted listing = Ok listing

-- the request, or its lowest refusal: names come before versions, versions before requirements, and these before repeats and numbers
abbrev pub judged : Request → Result Request Refusal
judged request =
    if list_all is_name (names_in request) then
    (if list_all is_version (versions_in request) then
    (if list_all is_requirement (requirements_in request) then counted request
    else Err BadRequirement) else Err BadVersion) else Err BadName

-- the name and the version of a yank or an unyank
abbrev pub judged_marking : Text → Text → Result (Text × Text) Refusal
judged_marking name version = if is_name name then checked (is_version version) (name, version) BadVersion else Err BadName

abbrev pub judged_shape : Option Request → Result Request Refusal
judged_shape None = Err BadLine
judged_shape (Some request) = judged request

-- what a line asks, or the refusal that it is given; one that is too long is at fault whatever it says
unfoldable pub request_of : List ℕ → Result Request Refusal
request_of line = if nat_le (length line) line_limit && is_utf8 line then judged_shape (option_and_then shape_of (read line)) else Err BadLine
