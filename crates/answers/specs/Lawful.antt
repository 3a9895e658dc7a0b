-- Which replies are lawful for a line, whether a session answers it or a seat of a race.
use Rattle.std.specs.Prelude.{◌≡◌, ◌⊎◌, ℕ, List, [], ◌∷◌, Bool, Option, Some, None, Result, Ok, Err, MatchResult}
use Rattle.versions.specs.declared.refusal.Refusal.{Refusal}
use Rattle.versions.specs.declared.refusal.Refusal.TheVariants.{NoMemory}
use Rattle.registry.specs.Registry.{Packages}
use Rattle.registry.specs.Requests.{Wanted}
use Rattle.registry.specs.Step.{Change, Publish, Unyank, Yank}
use Rattle.registry.specs.declared.commands.Command.TheVariants as commands
use Rattle.derivations.specs.Learning.{IsLearnt}
use Rattle.derivations.specs.Lines.{Line}
use Rattle.book.specs.declared.item.Item.{Item}
use Rattle.book.specs.declared.item.Item.TheVariants as item
use Rattle.wire.specs.Shapes.{Request, check, command, listing, resolve}
use Rattle.wire.specs.Requests.{request_of}
use Rattle.replies.specs.Replies.{Body, Reply, accepted, refused}
use Rattle.answers.specs.Outcomes.{TellsFound, TellsListing, TellsSpent, TellsVerdict}
use Rattle.answers.specs.Told.{reply_from}
use Rattle.answers.specs.declared.settings.Settings.{Settings}
use Rattle.answers.specs.declared.told.ReplyStamp.{ReplyStamp}

-- ---- where lines are answered

-- Of a backend, as contracts see it: where it stands, the registry there, and what its calls do.
pub record Ways (S : Type 0) : Type 1 where
  pub standing : S → ReplyStamp
  pub packages : S → Packages
  -- it has looked for what others entered, and entered nothing
  pub looks : S → S → Type 0
  -- the item was entered, and is accepted there
  pub enters : S → Item → S → Type 0
  -- the lowest refusal that applies to an item there
  pub refusal : S → Item → Option Refusal
  -- why a call may go no further there, beside lack of memory
  pub halts : S → Refusal → Type 0

-- a reply where it stands
abbrev pub reply_at : {S : Type 0} → Ways S → S → Body → Reply
reply_at w here body = reply_from (w.standing here) body

-- a call goes no further
abbrev pub IsStopped : {S : Type 0} → Ways S → S → Refusal → Type 0
IsStopped w here refusal = (refusal ≡ NoMemory) ⊎ w.halts here refusal

-- the item of a command
abbrev pub item_of : Change → Item
item_of (Publish name version needs) = item.Command (commands.Publish name version needs)
item_of (Yank name version) = item.Command (commands.Yank name version)
item_of (Unyank name version) = item.Command (commands.Unyank name version)

-- ---- one request

-- A refusal is told, and nothing is looked for.
abbrev pub IsRefused : {S : Type 0} → Ways S → Refusal → S → Reply → S → Type 0
IsRefused w refusal old reply new = (new ≡ old) × (reply ≡ reply_at w new (refused refusal))

-- Nothing is entered, and a refusal is told that is so where it then stands.
abbrev pub LooksAndRefuses : {S : Type 0} → Ways S → (S → Refusal → Type 0) → S → Reply → S → Type 0
LooksAndRefuses w is old reply new = w.looks old new × ((refusal : Refusal) × is new refusal × (reply ≡ reply_at w new (refused refusal)))

-- Nothing is entered, and such a body is told of the registry where it then stands.
abbrev pub LooksAndTells : {S : Type 0} → Ways S → (Packages → Body → Type 0) → S → Reply → S → Type 0
LooksAndTells w is old reply new = w.looks old new × ((body : Body) × is (w.packages new) body × (reply ≡ reply_at w new body))

-- The item is entered, and it is told that it is accepted.
abbrev pub IsEntered : {S : Type 0} → Ways S → Item → S → Reply → S → Type 0
IsEntered w i old reply new = w.enters old i new × (reply ≡ reply_at w new accepted)

-- Each of these is learnt or dropped, one after another. What is learnt follows from premises, and is accepted after all that was there before.
abbrev pub Learns : {S : Type 0} → Ways S → S → List (List Line) → S → Type 0
Learns {S} w old [] new = new ≡ old
Learns {S} w old (lines ∷ rest) new = (mid : S) × (w.looks old mid ⊎ (IsLearnt lines × w.enters old (item.Learnt lines) mid)) × Learns w mid rest new

-- Some may be learnt.
abbrev pub LearnsSome : {S : Type 0} → Ways S → S → S → Type 0
LearnsSome w old new = (offered : List (List Line)) × Learns w old offered new

-- What the solver found is told. Then some of what it offers may be learnt.
abbrev pub FindsAndLearns : {S : Type 0} → Ways S → Wanted → Bool → S → Reply → S → Type 0
FindsAndLearns {S} w wanted explain old reply new = (mid : S) × LooksAndTells w (λ packages body. TellsFound packages wanted explain body) old reply mid
    × LearnsSome w mid new

-- A request may be answered so. All but a command is answered of the registry where the backend then stands.
abbrev pub Answers : {S : Type 0} → Ways S → Request → S → Reply → S → Type 0
Answers w (command change) old reply new =
    IsEntered w (item_of change) old reply new ⊎ LooksAndRefuses w (λ here refusal. w.refusal here (item_of change) ≡ Some refusal) old reply new
Answers w (resolve wanted explain budget) old reply new =
    FindsAndLearns w wanted explain old reply new ⊎ LooksAndTells w (λ packages body. TellsSpent packages wanted budget body) old reply new
Answers w (check wanted lines) old reply new = LooksAndTells w (λ packages body. TellsVerdict packages wanted lines body) old reply new
Answers w listing old reply new = LooksAndTells w TellsListing old reply new

-- A request is answered so, or a call for it goes no further.
abbrev pub MayAnswer : {S : Type 0} → Ways S → Request → S → Reply → S → Type 0
MayAnswer w request old reply new = LooksAndRefuses w (IsStopped w) old reply new ⊎ Answers w request old reply new

-- ---- one line

-- the same request, with this budget where it names none
abbrev pub bounded : ℕ → Request → Request
bounded budget (resolve wanted explain None) = resolve wanted explain (Some budget)
bounded budget (resolve wanted explain (Some own)) = resolve wanted explain (Some own)
bounded budget (command change) = command change
bounded budget (check wanted lines) = check wanted lines
bounded budget listing = listing

abbrev pub bounded_if : ℕ → Result Request Refusal → Result Request Refusal
bounded_if budget (Ok request) = Ok (bounded budget request)
bounded_if budget (Err fault) = Err fault

-- what a line asks where this is the budget of each request that names none, if there is one
abbrev pub asked_within : Option ℕ → List ℕ → Result Request Refusal
asked_within None line = request_of line
asked_within (Some budget) line = bounded_if budget (request_of line)

-- A line may be answered so, within such settings: for lack of memory, or as what it asks is.
abbrev pub IsLawfulWithin : {S : Type 0} → Settings → Ways S → List ℕ → S → Reply → S → Type 0
IsLawfulWithin settings w line old reply new = IsRefused w NoMemory old reply new
    ⊎ MatchResult (asked_within settings.budget line) (λ request. MayAnswer w request old reply new) (λ fault. IsRefused w fault old reply new)

-- no budget but of a request that names one
abbrev pub no_settings : Settings
no_settings = record { budget = None }

-- ---- lines one after another

-- The lines may be answered so, within such settings, one reply a line, each after what those before it left.
abbrev pub AreLawfulWithin : {S : Type 0} → Settings → Ways S → List (List ℕ) → S → List Reply → S → Type 0
AreLawfulWithin {S} settings w [] old [] new = new ≡ old
AreLawfulWithin {S} settings w (line ∷ lines) old (reply ∷ replies) new =
    (mid : S) × IsLawfulWithin settings w line old reply mid × AreLawfulWithin settings w lines mid replies new
AreLawfulWithin {S} settings w [] old (reply ∷ replies) new = ⊥
AreLawfulWithin {S} settings w (line ∷ lines) old [] new = ⊥
