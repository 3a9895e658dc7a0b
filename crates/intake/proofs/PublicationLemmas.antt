-- The tokens of a usual publish line are those of a value, whose shape is that of a publication.
use Rattle.std.proofs.Common.{◌≡◌, ◌≤◌, ℕ, List, [], ◌∷◌, ◌++◌, length, Some, Ok, codes, refl, sym, ◌∙◌, arith, append-nil}
use Rattle.std.specs.Str.{IsUtf8}
use Rattle.json.specs.Json as json
use Rattle.json.specs.Json.{member, no_members}
use Rattle.json.specs.Lex.{tokens}
use Rattle.json.specs.Token.{Token}
use Rattle.json.specs.Tree as tree
use Rattle.json.specs.Tree.{json_tokens}
use Rattle.serde_json.specs.Data as kept
use Rattle.serde_json.specs.Data.{Data}
use Rattle.serde_json.specs.Read.{max_depth, of_json}
use Rattle.serde_json.proofs.OnLiterals.{serde_json_on_literals}
use Rattle.versions.specs.Words.{Text}
use Rattle.registry.specs.Step.{Publish}
use Rattle.lines.specs.Unread.{line_limit}
use Rattle.wire.specs.Requests.{judged, request_of}
use Rattle.wire.specs.Shapes.{command, shape_of}
use Rattle.intake.specs.UsualLines.{IsPublication, op_tokens, publication_tokens}
use Rattle.intake.proofs.LineLemmas.{shape_asked, value_reads}
use Rattle.intake.proofs.NeedLemmas.{pairs_back, pairs_data, pairs_json, pairs_of_json, pairs_shallow, pairs_told}

-- ---- the value

abbrev line_json : Text → Text → List (Text × Text) → json.Json
line_json name version needs = json.object (member (codes "op") (json.string (codes "publish")) (member (codes "name") (json.string name)
    (member (codes "version") (json.string version) (member (codes "needs") (json.array (pairs_json needs)) no_members))))

line_told : (name version : Text) (needs : List (Text × Text))
    → json_tokens (line_json name version needs) ++ [] ≡ op_tokens (codes "publish") (publication_tokens name version needs)
line_told name version needs = rw (append-nil (json_tokens (line_json name version needs)), pairs_told needs (Token.end_object ∷ [])) refl

line_shallow : (name version : Text) (needs : List (Text × Text)) → tree.depth (line_json name version needs) ≤ max_depth
line_shallow name version needs = omega (arith, pairs_shallow needs)

-- what a reader makes of it, where the members stand in the order of their names
abbrev line_data : Text → Text → List (Text × Text) → Data
line_data name version needs = kept.object (kept.member (codes "name") (kept.string name) (kept.member (codes "needs") (kept.array (pairs_data needs))
    (kept.member (codes "op") (kept.string (codes "publish")) (kept.member (codes "version") (kept.string version) kept.no_members))))

line_value : (name version : Text) (needs : List (Text × Text)) → of_json (line_json name version needs) ≡ Some (line_data name version needs)
unfolding serde_json_on_literals
line_value name version needs = rw (pairs_of_json needs) refl

line_shape : (name version : Text) (needs : List (Text × Text)) → shape_of (line_data name version needs) ≡ Some (command (Publish name version needs))
unfolding serde_json_on_literals
line_shape name version needs = rw (pairs_back needs) refl

-- ---- the line

line_judged : (name version : Text) (needs : List (Text × Text)) → IsPublication name version needs
    → judged (command (Publish name version needs)) ≡ Ok (command (Publish name version needs))
line_judged name version needs is = rw (is.0, is.2.0, is.1, is.2.1) refl

-- a line of these tokens asks for the publication, where its texts are what they are to be
pub publication_asked : (line : List ℕ) (name version : Text) (needs : List (Text × Text)) → length line ≤ line_limit → IsUtf8 line
    → tokens line ≡ op_tokens (codes "publish") (publication_tokens name version needs) → IsPublication name version needs
    → request_of line ≡ Ok (command (Publish name version needs))
publication_asked line name version needs short utf8 told is =
    let reads = value_reads line (line_json name version needs) (line_data name version needs) (told ∙ sym (line_told name version needs))
    (line_shallow name version needs) (line_value name version needs) in
    shape_asked line (line_data name version needs) (command (Publish name version needs)) short utf8 reads (line_shape name version needs) ∙ line_judged name version needs is
