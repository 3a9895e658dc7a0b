-- Replies are lines.
use Rattle.std.specs.Prelude.{◌≡◌, List, [], ◌∷◌, ◌++◌, length}
use Rattle.serde_json.specs.Data.{Data}
use Rattle.serde_json.specs.Written.{compact_text}
use Rattle.versions.specs.Words.{Text}
use Rattle.lines.specs.Lines.{HasNoFeed, line_feed, lines_of, whole_lines_of}
use Rattle.replies.specs.Replies.{Reply, replies_text, reply_text}

-- compact JSON has no line feed
abbrev pub JsonHasNoFeed : Type 0
JsonHasNoFeed = (value : Data) → HasNoFeed (compact_text value)

-- The text is one line: its only line feed is its last byte.
pub record IsOneLine (text : Text) : Type 0 where
  pub line : Text
  pub no_feed : HasNoFeed line
  pub ended : text ≡ line ++ line_feed ∷ []

-- each reply is one line
abbrev pub RepliesAreLines : Type 0
RepliesAreLines = (reply : Reply) → IsOneLine (reply_text reply)

-- the texts of replies have as many lines, all of them whole
abbrev pub LinesCountReplies : Type 0
LinesCountReplies = (replies : List Reply)
    → (length (lines_of (replies_text replies)) ≡ length replies) × (length (whole_lines_of (replies_text replies)) ≡ length replies)
