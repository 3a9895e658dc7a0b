-- What requests may be answered.
use Rattle.std.specs.Prelude.{◌≡◌, ◌≤◌, ℕ, List, length, take, Some, Result, Vec, slice_get, vec_capacity, vec_len}
use Rattle.std.specs.Global.{Global}
use Rattle.std.specs.List.{AllZip}
use Rattle.versions.specs.declared.refusal.Refusal.{Refusal}
use Rattle.registry.specs.Registry.{Packages}
use Rattle.registry.specs.Requests.{Wanted}
use Rattle.solver.specs.Outcomes.{Solves}
use Rattle.oracle.specs.declared.options.Options.{Options}
use Rattle.solver.specs.declared.outcome.Outcome.{Outcome}

-- what a request comes to, with how it is to be answered
abbrev pub IsAnswerTo : Packages → Wanted × Options → Result Outcome Refusal → Type 0
IsAnswerTo packages asked = Solves packages asked.0 asked.1

-- each request is answered at its place
abbrev pub AreAnswers : Packages → List (Wanted × Options) → List (Result Outcome Refusal) → Type 0
AreAnswers packages = AllZip (IsAnswerTo packages)

-- the first requests are answered, and there is room for the answers to all
pub record AreBegun (packages : Packages) (asked : List (Wanted × Options)) (answers : Vec (Result Outcome Refusal) Global) : Type 0 where
  pub done : AreAnswers packages (take (vec_len answers) asked) answers.items
  pub fits : vec_len answers ≤ length asked
  pub room : length asked ≤ vec_capacity answers

-- an answer to the request at this index, if there is one
abbrev pub IsAnswerAt : Packages → List (Wanted × Options) → ℕ → Result Outcome Refusal → Type 0
IsAnswerAt packages asked index answer = (one : Wanted × Options) → slice_get asked index ≡ Some one → IsAnswerTo packages one answer
