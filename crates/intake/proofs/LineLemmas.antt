-- A line is read as the value whose tokens it has, and asks what this value's shape says.
use Rattle.std.proofs.Common.{◌≡◌, ◌<◌, ◌≤◌, ℕ, List, [], ◌++◌, length, true, false, nat_le, Bool, Option, Some, Err, rules, option_and_then, refl, ap, ◌∙◌, if◌then◌else◌}
use Rattle.std.specs.Str.{IsUtf8, is_utf8}
use Rattle.std.proofs.lemmas.List.{nil_from_length}
use Rattle.std.proofs.lemmas.Str.{is_utf8-from_IsUtf8}
use Rattle.json.specs.Json as json
use Rattle.json.specs.Json.{value}
use Rattle.json.specs.Lex.{lex, punctuate, tokens}
use Rattle.json.specs.Token.{Token}
use Rattle.json.specs.Tree as tree
use Rattle.json.specs.Tree.{json_tokens}
use Rattle.json.proofs.Printed.Trees.{value-json_tokens}
use Rattle.serde_json.specs.Data.{Data}
use Rattle.serde_json.specs.Read.{max_depth, of_json, read}
use Rattle.versions.specs.declared.refusal.Refusal.TheVariants.{BadLine}
use Rattle.lines.specs.Unread.{line_limit}
use Rattle.wire.specs.Requests.{judged, request_of}
use Rattle.wire.specs.Shapes.{Request, shape_of}

-- a line that is too long
pub asked_long : (line : List ℕ) → line_limit < length line → request_of line ≡ Err BadLine
unfolding request_of
asked_long line long = let over : nat_le (length line) line_limit ≡ false = search rules in rw over refl

either : {X : Type 0} (b : Bool) (x : X) → (if b then x else x) ≡ x
either true x = refl
either false x = refl

-- an empty line asks nothing: it has no token
asked_nothing : request_of [] ≡ Err BadLine
unfolding request_of lex punctuate value
asked_nothing = either (is_utf8 []) (Err BadLine)

pub asked_empty : (line : List ℕ) → length line ≡ 0 → request_of line ≡ Err BadLine
asked_empty line none = ap request_of (nil_from_length line none) ∙ asked_nothing

abbrev whole : Option (json.Json × List Token) → Option Data
whole found = option_and_then of_json (option_and_then (λ p. json.if_last p.0 p.1) found)

-- a text that has the tokens of a value
pub value_reads : (text : List ℕ) (value : json.Json) (d : Data) → tokens text ≡ json_tokens value ++ [] → tree.depth value ≤ max_depth → of_json value ≡ Some d → read text ≡ Some d
value_reads text value d is shallow made = ap whole (ap (json.value max_depth) is ∙ value-json_tokens value max_depth [] shallow) ∙ made

-- a line that is read as a value of this shape
pub shape_asked : (line : List ℕ) (d : Data) (request : Request) → length line ≤ line_limit → IsUtf8 line → read line ≡ Some d → shape_of d ≡ Some request
    → request_of line ≡ judged request
unfolding request_of
shape_asked line d request short utf8 reads shaped =
    let fits : nat_le (length line) line_limit ≡ true = search rules in
    rw (fits, is_utf8-from_IsUtf8 line utf8, reads, shaped) refl
