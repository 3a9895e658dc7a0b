-- The tokens of a usual resolve line are those of a value, whose shape is that of a resolution by needs alone.
use Rattle.std.proofs.Common.{◌≡◌, ◌≤◌, ℕ, List, [], ◌∷◌, ◌++◌, length, Bool, false, Option, None, Some, Result, Ok, Err, codes, refl, sym, ap, ◌∙◌, arith, append-nil}
use Rattle.std.specs.Prelude.{IfSome}
use Rattle.std.specs.Result.{result_ok}
use Rattle.std.specs.Str.{IsUtf8}
use Rattle.json.specs.Json as json
use Rattle.json.specs.Json.{member, no_members}
use Rattle.json.specs.Lex.{tokens}
use Rattle.json.specs.Token.{Token}
use Rattle.json.specs.Tree as tree
use Rattle.json.specs.Tree.{json_tokens}
use Rattle.serde_json.specs.Data as kept
use Rattle.serde_json.specs.Data.{Data}
use Rattle.serde_json.specs.Read.{max_depth, of_json}
use Rattle.serde_json.proofs.OnLiterals.{serde_json_on_literals}
use Rattle.versions.specs.Refusals.{Gives}
use Rattle.versions.specs.Words.{Text}
use Rattle.versions.specs.declared.refusal.Refusal.{Refusal}
use Rattle.registry.specs.Needs.{names_of}
use Rattle.registry.specs.Requests.{Wanted, request_in, request_refusal, unless_refused}
use Rattle.lines.specs.Unread.{line_limit}
use Rattle.wire.specs.Requests.{judged, request_of}
use Rattle.wire.specs.Shapes.{resolve, shape_of}
use Rattle.intake.specs.Needs.{AreNeeds, needs_tokens}
use Rattle.intake.specs.UsualLines.{IsWanted, op_tokens}
use Rattle.intake.proofs.LineLemmas.{shape_asked, value_reads}
use Rattle.intake.proofs.NeedLemmas.{pairs_back, pairs_data, pairs_json, pairs_of_json, pairs_shallow, pairs_told}

-- ---- the request

abbrev by_needs : List (Text × Text) → Wanted
by_needs needs = record { needs = needs; lock = [] }

unrefused : (refusal : Option Refusal) (wanted given : Wanted) → unless_refused refusal wanted ≡ Ok given → (refusal ≡ None) × (wanted ≡ given)
unrefused None wanted given is = (refl, cc)
unrefused (Some refusal) wanted given is = cc

-- a request that was made of these needs and of no lock
pub request_told : (ts : List Token) (needs : List (Text × Text)) (made : Result Wanted Refusal) → ts ≡ needs_tokens needs → Gives (λ request. request) made (request_in needs [])
    → IfSome (result_ok made) (λ request. ts ≡ needs_tokens request.needs)
request_told ts needs (Err refusal) told gives = tt
request_told ts needs (Ok given) told gives =
    let is = unrefused (request_refusal (by_needs needs)) (by_needs needs) given gives in
    told ∙ ap (λ (w : Wanted). needs_tokens w.needs) is.1

pub request_wanted : (needs : List (Text × Text)) (made : Result Wanted Refusal) → AreNeeds needs → Gives (λ request. request) made (request_in needs [])
    → IfSome (result_ok made) (λ request. IsWanted request)
request_wanted needs (Err refusal) are gives = tt
request_wanted needs (Ok given) are gives =
    let is = unrefused (request_refusal (by_needs needs)) (by_needs needs) given gives in
    rw (← is.1) (refl, are, is.0)

-- ---- the value

abbrev line_json : List (Text × Text) → json.Json
line_json needs = json.object (member (codes "op") (json.string (codes "resolve")) (member (codes "needs") (json.array (pairs_json needs)) no_members))

line_told : (needs : List (Text × Text)) → json_tokens (line_json needs) ++ [] ≡ op_tokens (codes "resolve") (needs_tokens needs)
line_told needs = rw (append-nil (json_tokens (line_json needs)), pairs_told needs (Token.end_object ∷ [])) refl

line_shallow : (needs : List (Text × Text)) → tree.depth (line_json needs) ≤ max_depth
line_shallow needs = omega (arith, pairs_shallow needs)

-- what a reader makes of it, where the members stand in the order of their names
abbrev line_data : List (Text × Text) → Data
line_data needs = kept.object (kept.member (codes "needs") (kept.array (pairs_data needs)) (kept.member (codes "op") (kept.string (codes "resolve")) kept.no_members))

line_value : (needs : List (Text × Text)) → of_json (line_json needs) ≡ Some (line_data needs)
unfolding serde_json_on_literals
line_value needs = rw (pairs_of_json needs) refl

line_shape : (needs : List (Text × Text)) → shape_of (line_data needs) ≡ Some (resolve (by_needs needs) false None)
unfolding serde_json_on_literals
line_shape needs = rw (pairs_back needs) refl

-- ---- the line

line_judged : (needs : List (Text × Text)) → AreNeeds needs → request_refusal (by_needs needs) ≡ None
    → judged (resolve (by_needs needs) false None) ≡ Ok (resolve (by_needs needs) false None)
line_judged needs are lawful = rw (append-nil (names_of needs), are.0, are.1, lawful) refl

needs_asked : (line : List ℕ) (needs : List (Text × Text)) → length line ≤ line_limit → IsUtf8 line → tokens line ≡ op_tokens (codes "resolve") (needs_tokens needs)
    → AreNeeds needs → request_refusal (by_needs needs) ≡ None → request_of line ≡ Ok (resolve (by_needs needs) false None)
needs_asked line needs short utf8 told are lawful =
    let reads = value_reads line (line_json needs) (line_data needs) (told ∙ sym (line_told needs)) (line_shallow needs) (line_value needs) in
    shape_asked line (line_data needs) (resolve (by_needs needs) false None) short utf8 reads (line_shape needs) ∙ line_judged needs are lawful

-- a line of these tokens asks for a selection by its needs alone, where they are what they are to be
pub resolution_asked : (line : List ℕ) (wanted : Wanted) (explain : Bool) (budget : Option ℕ) → length line ≤ line_limit → IsUtf8 line
    → tokens line ≡ op_tokens (codes "resolve") (needs_tokens wanted.needs) → IsWanted wanted → explain ≡ false → budget ≡ None
    → request_of line ≡ Ok (resolve wanted explain budget)
resolution_asked line wanted explain budget short utf8 told is plain free =
    let alone : wanted ≡ by_needs wanted.needs = ap (λ (lock : List (Text × Text)). record { needs = wanted.needs; lock = lock }) is.0 in
    let lawful : request_refusal (by_needs wanted.needs) ≡ None = ap request_refusal (sym alone) ∙ is.2 in
    rw (plain, free) (needs_asked line wanted.needs short utf8 told is.1 lawful ∙ ap (λ (w : Wanted). Ok (resolve w false None)) (sym alone))
