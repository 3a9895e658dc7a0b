-- A session so far: what was read of its lines, what was replied, and which lines wait.
use Rattle.std.specs.Prelude.{◌≡◌, ℕ, List, ◌++◌, Option}
use Rattle.std.specs.List.{AllByRecursion}
use Rattle.std.specs.Io.KnownBytes.{Consumes}
use Rattle.derivations.specs.Lines.{Line}
use Rattle.lines.specs.Lines.{HasNoFeed, with_feeds}
use Rattle.lines.specs.Unread.{StandsFor, Unread}
use Rattle.replies.specs.Replies.{Reply, replies_text}
use Rattle.book.specs.declared.item.Item.{Item}
use Rattle.answers.specs.declared.settings.Settings.{Settings}
use Rattle.session.specs.Batches.{AreAsked, MayBeTold, Question}
use Rattle.session.specs.Events.{Seen}
use Rattle.session.specs.Session.{IsSession}

-- What a session began with, and what it has read.
pub record Reading : Type 0 where
  pub settings : Settings
  -- what the reader had left at first, and what it has left
  pub left_before : Option (List ℕ)
  pub left : Option (List ℕ)
  -- what was done before the first line, and the items that stood there
  pub seen : Seen
  pub begun : List Item
  -- what was read, and what of it stands behind the lines that were taken
  pub input : List ℕ
  pub rest : List ℕ
  -- the buffer that stands for the rest
  pub unread : Unread

abbrev pub reading : Settings → Option (List ℕ) → Option (List ℕ) → Seen → List Item → List ℕ → List ℕ → Unread → Reading
reading settings left_before left seen begun input rest unread = record {
  settings = settings;
  left_before = left_before;
  left = left;
  seen = seen;
  begun = begun;
  input = input;
  rest = rest;
  unread = unread;
}

-- Lines were answered, and what was put are the replies. The lines behind them ask these requests, and wait.
pub record Waits (a : Reading) (new : List Item) (put : List ℕ) (batch : List Question) : Type 0 where
  pub lines : List (List ℕ)
  pub others : List (List ℕ)
  pub replies : List Reply
  pub read : Consumes a.left_before a.left a.input
  pub split : a.input ≡ with_feeds (lines ++ others) ++ a.rest
  pub no_feeds : AllByRecursion HasNoFeed (lines ++ others)
  pub stands : StandsFor a.unread a.rest
  pub session : IsSession a.settings a.begun lines replies new
  pub said : put ≡ replies_text replies
  pub asked : AreAsked a.settings others batch

-- The first of the requests that waited were replied to, and nothing is learnt yet of what their answers offer.
pub record Told (a : Reading) (here : List Item) (put : List ℕ) (batch : List Question) (offered : List (List Line)) : Type 0 where
  pub put_before : List ℕ
  pub first : List Question
  pub replies : List Reply
  pub waits : Waits a here put_before (first ++ batch)
  pub told : MayBeTold first here replies offered
  pub all : put ≡ put_before ++ replies_text replies
