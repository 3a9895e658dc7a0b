-- How a text falls into lines.
use Rattle.std.specs.Prelude.{◌≡◌, ◌<◌, ℕ, List, [], ◌∷◌, ◌++◌, length}
use Rattle.std.specs.List.{AllByRecursion}
use Rattle.lines.specs.Lines.{HasNoFeed, lines_of, whole_lines_of, with_feeds}
use Rattle.lines.specs.Unread.{StandsFor, Unread}

-- lines that end in line feeds are the first lines of a text
abbrev pub LinesInFront : Type 0
LinesInFront = (lines : List (List ℕ)) (rest : List ℕ) → AllByRecursion HasNoFeed lines → lines_of (with_feeds lines ++ rest) ≡ lines ++ lines_of rest

-- and the first that end in a line feed
abbrev pub WholeLinesInFront : Type 0
WholeLinesInFront = (lines : List (List ℕ)) (rest : List ℕ) → AllByRecursion HasNoFeed lines → whole_lines_of (with_feeds lines ++ rest) ≡ lines ++ whole_lines_of rest

-- what has a byte and no line feed is one line
abbrev pub LastLine : Type 0
LastLine = (text : List ℕ) → HasNoFeed text → 0 < length text → lines_of text ≡ text ∷ []

-- and none that ends in a line feed
abbrev pub NoWholeLine : Type 0
NoWholeLine = (text : List ℕ) → HasNoFeed text → whole_lines_of text ≡ []

-- where a piece is read behind what a buffer holds, it stands for the text with that piece
abbrev pub ReadingGoesOn : Type 0
ReadingGoesOn = (old new : Unread) (text piece : List ℕ) → StandsFor old text → new.bytes ≡ old.bytes ++ piece → new.is_long ≡ old.is_long → StandsFor new (text ++ piece)
