-- What follows of lawful replies.
use Rattle.std.specs.Prelude.{◌≡◌, ◌++◌, ℕ, Bool, List, Option, Ok}
use Rattle.versions.specs.declared.refusal.Refusal.{Refusal}
use Rattle.registry.specs.Lawful.{IsRegistry}
use Rattle.registry.specs.Registry.{Packages}
use Rattle.registry.specs.Requests.{Wanted}
use Rattle.solver.specs.Outcomes.{MayStop}
use Rattle.wire.specs.Shapes.{Request, resolve}
use Rattle.replies.specs.Replies.{Body, Reply, refused}
use Rattle.answers.specs.Outcomes.{TellsFound, TellsSelection}
use Rattle.answers.specs.Lawful.{AreLawfulWithin, IsLawfulWithin, LearnsSome, MayAnswer, Ways, asked_within, reply_at}
use Rattle.answers.specs.declared.settings.Settings.{Settings}

-- replies, and others after them
pub record RepliesAddUp {S : Type 0} (w : Ways S) : Type 0 where
  -- those to lines, and then to more, are lawful for all of them
  pub lines : (settings : Settings) (lines more : List (List ℕ)) (replies after : List Reply) (old mid new : S) → AreLawfulWithin settings w lines old replies mid
      → AreLawfulWithin settings w more mid after new → AreLawfulWithin settings w (lines ++ more) old (replies ++ after) new
  -- what answers a request is lawful for a line that asks it
  pub asked : (settings : Settings) (line : List ℕ) (request : Request) (old : S) (reply : Reply) (new : S) → asked_within settings.budget line ≡ Ok request
      → MayAnswer w request old reply new → IsLawfulWithin settings w line old reply new
  -- what the solver found may be told, and some of what it offers learnt then
  pub found : (wanted : Wanted) (explain : Bool) (budget : Option ℕ) (old mid : S) (body : Body) → w.looks old mid → TellsFound (w.packages mid) wanted explain body
      → (new : S) → LearnsSome w mid new → MayAnswer w (resolve wanted explain budget) old (reply_at w mid body) new
  -- a request that is left without an answer may be told why
  pub stopped : (wanted : Wanted) (explain : Bool) (budget : Option ℕ) (old new : S) (e : Refusal) → w.looks old new → MayStop (w.packages new) wanted budget e
      → MayAnswer w (resolve wanted explain budget) old (reply_at w new (refused e)) new

-- of the same packages and the same request one selection is told, whoever tells it
abbrev pub OneSelectionIsTold : Type 0
OneSelectionIsTold = (packages : Packages) (wanted : Wanted) (one other : Body) → IsRegistry packages → TellsSelection packages wanted one → TellsSelection packages wanted other → one ≡ other
