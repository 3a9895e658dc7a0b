-- What a session replies, line by line: each line is a step from where it stands.
use Rattle.std.specs.Prelude.{◌≡◌, ◌⊎◌, ◌+◌, ℕ, List, [], ◌∷◌, ◌++◌, Option, None, Some, Result, Ok, Err, nat_le, if◌then◌else◌}
use Rattle.std.specs.Option.{option_or}
use Rattle.versions.specs.declared.refusal.Refusal.{Refusal}
use Rattle.registry.specs.Registry.{Packages}
use Rattle.registry.specs.Step as registry
use Rattle.registry.specs.Step.{Change}
use Rattle.book.specs.Items.{full_or, packages_of, revision_of}
use Rattle.book.specs.declared.item.Item.{Item}
use Rattle.wire.specs.Requests.{request_of}
use Rattle.wire.specs.Shapes.{Request, check, command, listing, resolve}
use Rattle.replies.specs.Replies.{Body, Reply, accepted, refused}
use Rattle.answers.specs.Outcomes.{MayTell, TellsFound, TellsListing, TellsSpent, TellsVerdict}
use Rattle.session.specs.SessionState.{MayBeServed}
use Rattle.session.specs.declared.session_state.TheConstants.{MOST_COMMANDS}

-- ---- where a session stands

-- the packages, and how many commands were accepted
pub record State : Type 0 where
  pub packages : Packages
  pub revision : ℕ

-- where it stands that accepted these items: what was learnt changes neither
abbrev pub state_of : List Item → State
state_of items = record { packages = packages_of items; revision = revision_of items }

-- the lowest refusal that applies to a command there: the registry's, or that as many are accepted as may be
abbrev pub refusal_at : State → Change → Option Refusal
refusal_at state change = if nat_le MOST_COMMANDS state.revision
    then Some (full_or (registry.refusal_of state.packages change))
    else registry.refusal_of state.packages change

-- where it stands once these commands are accepted, one after another
abbrev pub after_all : State → List Change → State
after_all state [] = state
after_all state (change ∷ rest) = after_all (record { packages = registry.after state.packages change; revision = state.revision + 1 }) rest

-- before the first command
abbrev pub nowhere : State
nowhere = record { packages = []; revision = 0 }

-- to none of these commands a refusal applies where those before it left the session
abbrev pub AreFree : State → List Change → Type 0
AreFree state [] = Unit {0}
AreFree state (change ∷ rest) = (refusal_at state change ≡ None) × AreFree (after_all state (change ∷ [])) rest

-- some commands lead there
abbrev pub IsReachable : State → Type 0
IsReachable state = (commands : List Change) × AreFree nowhere commands × (state ≡ after_all nowhere commands)

-- ---- one line

-- a command is accepted, or told its refusal
abbrev pub told_of : Option Refusal → Body
told_of None = accepted
told_of (Some refusal) = refused refusal

-- This is told of what a line asks, or of its lowest fault. The budget is that of a request that names none, if there is one.
abbrev pub IsTold : Option ℕ → State → Result Request Refusal → Body → Type 0
IsTold budget state (Ok (command change)) body = body ≡ told_of (refusal_at state change)
IsTold budget state (Ok (resolve wanted explain own)) body = TellsFound state.packages wanted explain body ⊎ TellsSpent state.packages wanted (option_or own budget) body
IsTold budget state (Ok (check wanted lines)) body = TellsVerdict state.packages wanted lines body
IsTold budget state (Ok listing) body = TellsListing state.packages body
IsTold budget state (Err fault) body = body ≡ refused fault

-- the command that is accepted by what is told of it
abbrev pub accepted_by : Result Request Refusal → Body → List Change
accepted_by (Ok (command change)) accepted = change ∷ []
accepted_by _ _ = []

-- where a session stands once a line has this reply
abbrev pub after : State → List ℕ → Reply → State
after state line reply = after_all state (accepted_by (request_of line) reply.body)

-- A line may be replied to so: for lack of memory, or as what it asks is. The reply names the revision after it.
pub record IsReply (budget : Option ℕ) (state : State) (line : List ℕ) (reply : Reply) : Type 0 where
  pub told : MayTell (IsTold budget state (request_of line)) reply.body
  pub revision : reply.revision ≡ (after state line reply).revision
  pub stamp : reply.stamp ≡ None

-- ---- lines one after another

-- One reply a line, each where those before it left the session.
abbrev pub AreReplies : Option ℕ → State → List (List ℕ) → List Reply → Type 0
AreReplies budget state [] [] = Unit {0}
AreReplies budget state (line ∷ lines) (reply ∷ replies) = IsReply budget state line reply × AreReplies budget (after state line reply) lines replies
AreReplies budget state [] (reply ∷ replies) = ⊥
AreReplies budget state (line ∷ lines) [] = ⊥

-- the commands that are accepted by these replies, in order
abbrev pub accepted_of : List (List ℕ) → List Reply → List Change
accepted_of (line ∷ lines) (reply ∷ replies) = accepted_by (request_of line) reply.body ++ accepted_of lines replies
accepted_of _ _ = []

-- ---- laws

-- commands lead where a session stands that has items
pub record SessionsAreReachable : Type 0 where
  pub none : state_of [] ≡ nowhere
  pub served : (items : List Item) → MayBeServed items → IsReachable (state_of items)
