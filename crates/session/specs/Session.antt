-- A session: its backend, which is known by the items that it accepted, and what it reads and writes.
use Rattle.std.specs.Prelude.{◌≡◌, ◌⊎◌, ◌≤◌, ℕ, List, [], ◌∷◌, ◌++◌, length, take, Option, None, Result, Ok, Err}
use Rattle.std.specs.Io.KnownBytes.{Appends, Consumes, IsAtEnd}
use Rattle.versions.specs.declared.refusal.Refusal.{Refusal}
use Rattle.registry.specs.Commands.{change_of}
use Rattle.registry.specs.Step.{Change}
use Rattle.book.specs.Items.{book_of, packages_of, refusal_where, revision_of}
use Rattle.book.specs.declared.item.Item.{Item}
use Rattle.book.specs.declared.item.Item.TheVariants as item
use Rattle.journals.specs.Fresh.{IsGoodLearnt}
use Rattle.lines.specs.Lines.{lines_of, whole_lines_of}
use Rattle.lines.specs.Texts.{IsBeginning}
use Rattle.replies.specs.Replies.{Reply, replies_text}
use Rattle.answers.specs.Lawful.{Ways}
use Rattle.answers.specs.declared.fault.RunFault.{RunFault}
use Rattle.answers.specs.declared.fault.RunFault.TheVariants.{Input, Memory, Output}
use Rattle.answers.specs.declared.settings.Settings.{Settings}
use Rattle.session.specs.SessionState.{is_full}
use Rattle.session.specs.Step.{AreReplies, State, accepted_of, state_of}
use Rattle.session.specs.Streams.{Streams}

-- ---- its backend

-- the lowest refusal that applies to an item after these; the journal is full where as many of its kind are accepted as may be
abbrev pub refusal_after : List Item → Item → Option Refusal
refusal_after items i = refusal_where (is_full (revision_of items) (length items) i) (book_of items) i

-- what was learnt can be said again by its line; a command can where a line asked for it
abbrev pub CanBeSaid : Item → Type 0
CanBeSaid (item.Command command) = Unit {0}
CanBeSaid (item.Learnt lines) = IsGoodLearnt lines

-- No other enters anything, so a look changes nothing, and an item that is accepted is the next.
abbrev pub session_ways : Ways (List Item)
session_ways = record {
  standing = λ items. record { revision = revision_of items; stamp = None };
  packages = packages_of;
  looks = λ old new. new ≡ old;
  enters = λ old i new. (refusal_after old i ≡ None) × (new ≡ old ++ i ∷ []) × CanBeSaid i;
  refusal = refusal_after;
  halts = λ items refusal. ⊥;
}

-- ---- its journal

-- the commands among these items, in order
abbrev pub commands_of : List Item → List Change
commands_of [] = []
commands_of (item.Command command ∷ rest) = change_of command ∷ commands_of rest
commands_of (item.Learnt lines ∷ rest) = commands_of rest

-- To each of these items no refusal applied behind those before it, and what is learnt among them follows from premises.
abbrev pub AreAccepted : List Item → List Item → Type 0
AreAccepted before [] = Unit {0}
AreAccepted before (i ∷ rest) = (refusal_after before i ≡ None) × CanBeSaid i × AreAccepted (before ++ i ∷ []) rest

-- Behind the items of a journal stand these commands, in order, and what was learnt among them.
pub record Accepts (begun : List Item) (commands : List Change) (items : List Item) : Type 0 where
  pub added : List Item
  pub all : items ≡ begun ++ added
  pub commands_are : commands_of added ≡ commands
  pub accepted : AreAccepted begun added

-- A session that begins with these items replies so to the lines, and has these items then: the commands that it accepted, and what it learnt.
pub record IsSession (settings : Settings) (begun : List Item) (lines : List (List ℕ)) (replies : List Reply) (items : List Item) : Type 0 where
  pub replied : AreReplies settings.budget (state_of begun) lines replies
  pub journal : Accepts begun (accepted_of lines replies) items

-- ---- what it reads and writes

-- Of what was read these lines were answered, within these settings, and what was written are the texts of the replies.
pub record Serves (settings : Settings) (s : Streams) (lines_in : List ℕ → List (List ℕ)) (begun : State) : Type 0 where
  pub input : List ℕ
  pub replies : List Reply
  pub read : Consumes s.read_before s.read_after input
  pub replied : AreReplies settings.budget begun (lines_in input) replies
  pub written : Appends s.written_before s.written_after (replies_text replies)

-- The same by a session that begins with these items, and it leaves these.
pub record ServesItems (settings : Settings) (s : Streams) (lines_in : List ℕ → List (List ℕ)) (begun items : List Item) : Type 0 where
  pub serves : Serves settings s lines_in (state_of begun)
  pub journal : Accepts begun (accepted_of (lines_in serves.input) serves.replies) items

-- Of what was read the first lines were answered, each of them whole, and what was written is a beginning of the texts of the replies.
pub record Breaks (settings : Settings) (s : Streams) (begun : State) : Type 0 where
  pub input : List ℕ
  pub count : ℕ
  pub replies : List Reply
  pub text : List ℕ
  pub read : Consumes s.read_before s.read_after input
  -- the last line, where it lacks its line feed, is whole at the reader's end
  pub whole : (count ≤ length (whole_lines_of input)) ⊎ IsAtEnd s.read_after
  pub replied : AreReplies settings.budget begun (take count (lines_of input)) replies
  pub written : Appends s.written_before s.written_after text
  pub beginning : IsBeginning text (replies_text replies)

-- Lines were served until this came: the reader's end, a read that failed or a write that failed. Memory is not asked for.
abbrev pub EndsAs : Settings → Streams → List Item → List Item → Result Unit RunFault → Type 0
EndsAs settings s begun items (Ok _) = IsAtEnd s.read_after × ServesItems settings s lines_of begun items
EndsAs settings s begun items (Err Input) = Serves settings s whole_lines_of (state_of begun)
EndsAs settings s begun items (Err Output) = Breaks settings s (state_of begun)
EndsAs settings s begun items (Err Memory) = ⊥
