-- What a line buffer holds, and how its lines come off the text that was read.
use Rattle.std.specs.Prelude.{◌≡◌, ℕ, ◌<◌, ◌≤◌, Bool, true, false, Option, List, [], ◌∷◌, ◌++◌, length, MatchBool}
use Rattle.std.specs.Io.KnownBytes.{Consumes, IsAtEnd}
use Rattle.lines.specs.Lines.{HasNoFeed, line_feed}
use Rattle.lines.specs.declared.buffer.TheConstants.{LINE_LIMIT}
use Rattle.lines.specs.declared.buffer.Next.{Next}
use Rattle.lines.specs.declared.buffer.Next.TheVariants.{Line, TooLong, More}

-- the most bytes that a line may have without its line feed
abbrev pub line_limit : ℕ
line_limit = LINE_LIMIT

-- what a line buffer holds
pub record Unread : Type 0 where
  -- the line that the last call found
  pub line : List ℕ
  -- the bytes go on a line of which more than the limit was passed over
  pub is_long : Bool
  -- the bytes that were read and not yet taken
  pub bytes : List ℕ

-- the text is what was read and not yet taken, with what was passed over
abbrev pub StandsFor : Unread → List ℕ → Type 0
StandsFor u text = MatchBool u.is_long
    ((front : List ℕ) × HasNoFeed front × (line_limit < length front) × (text ≡ front ++ u.bytes))
    (text ≡ u.bytes)

-- the text begins with this line and its line feed, and the buffer holds the rest
pub record BeginsWith (text line : List ℕ) (new : Unread) : Type 0 where
  pub no_feed : HasNoFeed line
  pub rest : List ℕ
  pub whole : text ≡ line ++ line_feed ∷ rest
  pub held : StandsFor new rest

-- the line that was found: the buffer shows it, unless it is too long
abbrev pub IsFound : Next → Unread → List ℕ → Type 0
IsFound Line u line = (line ≡ u.line) × (length line ≤ line_limit)
IsFound TooLong u line = line_limit < length line
IsFound More u line = ⊥

-- what `next` finds at the front of the text
abbrev pub Finds : Next → List ℕ → Unread → Type 0
Finds Line text new = (line : List ℕ) × BeginsWith text line new × IsFound Line new line
Finds TooLong text new = (line : List ℕ) × BeginsWith text line new × IsFound TooLong new line
Finds More text new = HasNoFeed text × StandsFor new text × (length new.bytes ≤ line_limit)

-- what `last` finds of a text that has ended with no line feed
abbrev pub FindsLast : Next → List ℕ → Unread → Type 0
FindsLast Line text new = (0 < length text) × IsFound Line new text
FindsLast TooLong text new = (0 < length text) × IsFound TooLong new text
FindsLast More text new = text ≡ []

-- A piece of what the reader had left went behind the bytes that were read: no byte only at the reader's end.
abbrev pub ReadsMore : Option (List ℕ) → Option (List ℕ) → List ℕ → List ℕ → Bool → Type 0
ReadsMore left_before left_after before after is_more = (piece : List ℕ) × Consumes left_before left_after piece × (after ≡ before ++ piece)
    × (is_more ≡ false → (piece ≡ []) × IsAtEnd left_after) × (is_more ≡ true → 0 < length piece)
