-- A session that is fed bytes of lines, call by call, and whose replies are taken.
use Rattle.std.specs.Prelude.{◌≡◌, ◌⊎◌, ◌+◌, ◌≤◌, Bool, true, false, ℕ, List, [], ◌∷◌, ◌++◌, Option, Ok, Err, Result, MatchBool, MatchResult, drop, if◌then◌else◌, length, nat_le, take}
use Rattle.std.specs.List.{AllByRecursion}
use Rattle.std.specs.Io.KnownBytes.{Consumes}
use Rattle.versions.specs.declared.refusal.Refusal.{Refusal}
use Rattle.lines.specs.Lines.{HasNoFeed, whole_lines_of, with_feeds}
use Rattle.lines.specs.Texts.{IsBeginning}
use Rattle.lines.specs.Unread.{StandsFor, Unread}
use Rattle.replies.specs.Replies.{Reply, reply_text, replies_text}
use Rattle.book.specs.declared.item.Item.{Item}
use Rattle.wire.specs.Requests.{request_of}
use Rattle.wire.specs.Shapes.{Request, check, command, listing, resolve}
use Rattle.wire.specs.declared.request.Asked.{Asked}
use Rattle.wire.specs.declared.request.Asked.TheVariants as asked_as
use Rattle.journals.specs.Logs.{count_behind, lines_behind}
use Rattle.journals.specs.Saved.{saved_end}
use Rattle.answers.specs.Lawful.{IsLawfulWithin}
use Rattle.answers.specs.declared.settings.Settings.{Settings}
use Rattle.session.specs.Committing.{FrontOf}
use Rattle.session.specs.Durable.{IsBacked, IsLog}
use Rattle.session.specs.Events.{EachMoment, Event, IsDurable, Mark, handed, replied, taken}
use Rattle.session.specs.Session.{IsSession, session_ways}

-- ---- between two calls

pub record FedSession : Type 0 where
  -- what was accepted
  pub items : List Item
  -- what is held of a line that has not ended
  pub unread : Unread
  -- the bytes of replies that were not taken
  pub waiting : List ℕ
  -- on so many of the items rest the replies that were made
  pub needs : ℕ
  -- replies wait until the lines of the items on which they rest are safe
  pub keeps : Bool
  -- how requests are answered, as far as their lines do not say
  pub settings : Settings
  -- up to here the lines are safe
  pub safe : Mark
  -- and up to here they were given, to be made safe
  pub given : Mark
  -- there was no memory for a reply, and no more is taken
  pub is_spent : Bool

-- replies may be taken
abbrev pub may_go : FedSession → Bool
may_go s = if s.keeps then nat_le s.needs s.safe.items else true

-- the bytes of replies that may be taken
abbrev pub ready : FedSession → List ℕ
ready s = if may_go s then s.waiting else []

-- the lines that were given and are not safe
abbrev pub given_text : FedSession → List ℕ
given_text s = lines_behind (take s.safe.items s.items) (drop s.safe.items (take s.given.items s.items))

-- ---- what a call makes of it

-- so many bytes of replies were taken
abbrev pub without : ℕ → FedSession → FedSession
without count s = record s { waiting = drop count s.waiting }

-- the lines of all items that are not safe were given
abbrev pub giving : FedSession → FedSession
giving s = record s { given = record { items = length s.items; lines = s.safe.lines + count_behind (take s.safe.items s.items) (drop s.safe.items s.items) } }

-- what was given is safe
abbrev pub saving : FedSession → FedSession
saving s = record s { safe = s.given }

-- ---- a feed

abbrev pub is_search : Result Request Refusal → Bool
is_search (Ok (resolve wanted explain budget)) = true
is_search (Ok (command change)) = false
is_search (Ok (check wanted lines)) = false
is_search (Ok listing) = false
is_search (Err fault) = false

-- whether a line of which this was read begins a search
abbrev pub is_read_search : Result Asked Refusal → Bool
is_read_search (Ok (asked_as.Command entered)) = false
is_read_search (Ok (asked_as.Resolve wanted explain budget)) = true
is_read_search (Ok (asked_as.Check wanted lines)) = false
is_read_search (Ok asked_as.Listing) = false
is_read_search (Err fault) = false

-- on how many items the reply to a line rests: on those that were there when its search began, or else on all that were there once it was answered
abbrev pub needs_of : List ℕ → List Item → List Item → ℕ
needs_of line old new = if is_search (request_of line) then length old else length new

-- A line was answered, and its reply stands behind the others, whole, or for lack of memory not at all.
abbrev pub RepliesWhole : {E : Type 0} → Settings → List ℕ → List Item → List Item → List ℕ → List ℕ → Result ℕ E → Type 0
RepliesWhole settings line old new before after result = (reply : Reply) × IsLawfulWithin settings session_ways line old reply new
    × MatchResult result (λ needs. (after ≡ before ++ reply_text reply) × (needs ≡ needs_of line old new)) (λ _. after ≡ before)

-- the last of these lines was answered here
pub record Last (settings : Settings) (lines : List (List ℕ)) (old : List Item) (replies : List Reply) (new : List Item) (needs : ℕ) : Type 0 where
  pub before : List (List ℕ)
  pub line : List ℕ
  pub told : List Reply
  pub reply : Reply
  pub mid : List Item
  pub lines_are : lines ≡ before ++ line ∷ []
  pub replies_are : replies ≡ told ++ reply ∷ []
  pub session : IsSession settings old before told mid
  pub at_last : IsSession settings mid (line ∷ []) (reply ∷ []) new
  pub needs_are : needs ≡ needs_of line mid new

-- Each of these lines has its lawful reply, in order, and the replies rest on what that to the last line rests on.
pub record Answers (settings : Settings) (lines : List (List ℕ)) (old : List Item) (replies : List Reply) (new : List Item) (needs_before needs : ℕ) : Type 0 where
  pub session : IsSession settings old lines replies new
  pub rests : ((lines ≡ []) × (needs ≡ needs_before)) ⊎ Last settings lines old replies new needs

-- nothing else changed
pub record IsElseSame (old new : FedSession) : Type 0 where
  pub keeps : new.keeps ≡ old.keeps
  pub settings : new.settings ≡ old.settings
  pub safe : new.safe ≡ old.safe
  pub given : new.given ≡ old.given

-- The bytes were fed behind a text of which no line had ended: each whole line of both has its lawful reply, in order, behind the replies that
-- waited, and what stands behind the last line feed is kept.
pub record Feeds (text bytes : List ℕ) (old new : FedSession) : Type 0 where
  pub rest : List ℕ
  pub replies : List Reply
  pub split : text ++ bytes ≡ with_feeds (whole_lines_of (text ++ bytes)) ++ rest
  pub no_feed : HasNoFeed rest
  pub stands : StandsFor new.unread rest
  pub answers : Answers old.settings (whole_lines_of (text ++ bytes)) old.items replies new.items old.needs new.needs
  pub told : new.waiting ≡ old.waiting ++ replies_text replies
  pub same : IsElseSame old new
  pub went_on : old.is_spent ≡ false
  pub goes_on : new.is_spent ≡ false

-- One more line may have been answered, whose reply is lost.
abbrev pub LosesOne : Settings → List ℕ → List (List ℕ) → List Item → List Item → Type 0
LosesOne settings input lines here new = (new ≡ here) ⊎ ((line : List ℕ) × (reply : Reply) × FrontOf input (lines ++ line ∷ [])
    × IsSession settings here (line ∷ []) (reply ∷ []) new)

-- The bytes were fed behind a text of which no line had ended, and there was no memory for a reply: of the whole lines of both the first ones
-- have their lawful replies, in order and whole, behind the replies that waited, and the session takes no more.
pub record Stops (text bytes : List ℕ) (old new : FedSession) : Type 0 where
  pub lines : List (List ℕ)
  pub replies : List Reply
  -- what the first ones left
  pub here : List Item
  pub front : FrontOf (text ++ bytes) lines
  pub answers : Answers old.settings lines old.items replies here old.needs new.needs
  pub lost : LosesOne old.settings (text ++ bytes) lines here new.items
  pub told : new.waiting ≡ old.waiting ++ replies_text replies
  pub same : IsElseSame old new
  pub went_on : old.is_spent ≡ false
  pub spent : new.is_spent ≡ true

-- ---- within a feed

-- Lines of what was read were answered, their replies stand behind what stood before, and the rest is held.
pub record Feeding (settings : Settings) (read_before read_after : Option (List ℕ)) (old new : List Item) (held : Unread) (before after : List ℕ)
    (needs_before needs : ℕ) : Type 0 where
  pub input : List ℕ
  pub lines : List (List ℕ)
  pub rest : List ℕ
  pub replies : List Reply
  pub read : Consumes read_before read_after input
  pub split : input ≡ with_feeds lines ++ rest
  pub no_feeds : AllByRecursion HasNoFeed lines
  pub stands : StandsFor held rest
  pub answers : Answers settings lines old replies new needs_before needs
  pub told : after ≡ before ++ replies_text replies

-- all whole lines of what was read were answered
abbrev pub IsFed : Settings → Option (List ℕ) → Option (List ℕ) → List Item → List Item → Unread → List ℕ → List ℕ → ℕ → ℕ → Type 0
IsFed settings read_before read_after old new held before after needs_before needs = (f : Feeding settings read_before read_after old new held before after needs_before needs) × HasNoFeed f.rest

-- Lines of what was read were answered, and of one more the reply may be lost.
pub record IsStopped (settings : Settings) (read_before read_after : Option (List ℕ)) (old new : List Item) (before after : List ℕ) (needs_before needs : ℕ) : Type 0 where
  pub input : List ℕ
  pub lines : List (List ℕ)
  pub replies : List Reply
  pub here : List Item
  pub read : Consumes read_before read_after input
  pub front : FrontOf input lines
  pub answers : Answers settings lines old replies here needs_before needs
  pub lost : LosesOne settings input lines here new
  pub told : after ≡ before ++ replies_text replies

-- ---- calls, one after another

pub data Call : Type 0 where
  -- these bytes were fed
  fed : List ℕ → Call
  -- these bytes were fed, and there was no memory for a reply
  stopped : List ℕ → Call
  -- these bytes of replies were taken
  took : List ℕ → Call
  -- the lines of all items that were not safe were given
  gave : Call
  -- this was done at the file, and then what was given was said to be safe
  saved : List Event → Call

-- The file took these lines, which outlast a crash, and no reply went out.
pub record AreSaved (lines : List ℕ) (steps : List Event) : Type 0 where
  pub silent : replied steps ≡ []
  pub took : taken steps ≡ lines
  pub durable : IsDurable steps lines

-- what a call does
abbrev pub Does : Call → FedSession → FedSession → Type 0
Does (fed bytes) old new = (text : List ℕ) → StandsFor old.unread text → Feeds text bytes old new
Does (stopped bytes) old new = (text : List ℕ) → StandsFor old.unread text → Stops text bytes old new
Does (took bytes) old new = (count : ℕ) × (count ≤ length (ready old)) × (bytes ≡ take count (ready old)) × (new ≡ without count old)
Does gave old new = new ≡ giving old
Does (saved steps) old new = AreSaved (given_text old) steps × (new ≡ saving old)

-- and calls
abbrev pub Do : List Call → FedSession → FedSession → Type 0
Do [] old new = new ≡ old
Do (call ∷ calls) old new = (mid : FedSession) × Does call old mid × Do calls mid new

-- all bytes that were fed
abbrev pub fed_of : List Call → List ℕ
fed_of [] = []
fed_of (fed bytes ∷ calls) = bytes ++ fed_of calls
fed_of (stopped bytes ∷ calls) = bytes ++ fed_of calls
fed_of (took bytes ∷ calls) = fed_of calls
fed_of (gave ∷ calls) = fed_of calls
fed_of (saved steps ∷ calls) = fed_of calls

-- what was done at the file, and which replies went out, in order
abbrev pub events_of : List Call → List Event
events_of [] = []
events_of (fed bytes ∷ calls) = events_of calls
events_of (stopped bytes ∷ calls) = events_of calls
events_of (took bytes ∷ calls) = handed bytes ∷ events_of calls
events_of (gave ∷ calls) = events_of calls
events_of (saved steps ∷ calls) = steps ++ events_of calls

-- ---- what follows of them

-- A session of such settings that begins with these items, to which nothing was fed. Where it keeps its journal, the lines of these are safe.
pub record IsBegun (keeps : Bool) (settings : Settings) (items : List Item) (s : FedSession) : Type 0 where
  pub items_are : s.items ≡ items
  pub unread : StandsFor s.unread []
  pub none : s.waiting ≡ []
  pub needs : s.needs ≡ length items
  pub kept : s.keeps ≡ keeps
  pub set : s.settings ≡ settings
  pub safe : s.safe ≡ record { items = length items; lines = length items }
  pub given : s.given ≡ record { items = length items; lines = length items }
  pub goes_on : s.is_spent ≡ false

-- The replies, taken or not, are those of a session to all that was fed: each whole line of it has its lawful reply, in order, and what stands
-- behind the last line feed is held.
pub record AreAllReplies (begun : List Item) (input told : List ℕ) (s : FedSession) : Type 0 where
  pub rest : List ℕ
  pub replies : List Reply
  pub split : input ≡ with_feeds (whole_lines_of input) ++ rest
  pub no_feed : HasNoFeed rest
  pub stands : StandsFor s.unread rest
  pub session : IsSession s.settings begun (whole_lines_of input) replies s.items
  pub all : told ++ s.waiting ≡ replies_text replies

-- The replies, taken or not, are those to the first whole lines of all that was fed, and of one more the reply may be lost.
pub record AreFirstReplies (begun : List Item) (input told : List ℕ) (s : FedSession) : Type 0 where
  pub lines : List (List ℕ)
  pub replies : List Reply
  pub here : List Item
  pub front : FrontOf input lines
  pub session : IsSession s.settings begun lines replies here
  pub lost : LosesOne s.settings input lines here s.items
  pub all : told ++ s.waiting ≡ replies_text replies

abbrev pub HasReplied : List Item → List ℕ → List ℕ → FedSession → Type 0
HasReplied begun input told s = MatchBool s.is_spent (AreFirstReplies begun input told s) (AreAllReplies begun input told s)

-- At each moment what had gone out rested on what was durable, for the first lines of what was fed; and the file has the lines of the items that
-- are safe.
pub record IsKept (begun : List Item) (input : List ℕ) (events : List Event) (s : FedSession) : Type 0 where
  pub backed : (left : Option (List ℕ)) → EachMoment (IsBacked s.settings left begun input) events
  pub log : IsLog begun (take s.safe.items s.items) (taken events) s.safe.lines
  pub durable : IsDurable events (taken events)
  -- where all items are safe, the line that ends a file may be put behind
  pub ends : (steps : List Event) → s.safe.items ≡ length s.items → replied steps ≡ [] → IsBeginning (taken steps) (saved_end s.safe.lines)
      → (left : Option (List ℕ)) → EachMoment (IsBacked s.settings left begun input) (events ++ steps)

-- What calls do adds up: to the replies of one session, and where it keeps its journal, to one that no reply outruns.
abbrev pub CallsAddUp : Type 0
CallsAddUp = (keeps : Bool) (settings : Settings) (begun : List Item) (first last : FedSession) (calls : List Call) → IsBegun keeps settings begun first
    → Do calls first last → (last.settings ≡ settings) × HasReplied begun (fed_of calls) (replied (events_of calls)) last
    × (keeps ≡ true → IsKept begun (fed_of calls) (events_of calls) last)
