-- The lines of a text, as a session finds them.
use Rattle.std.proofs.Common.{◌≡◌, ℕ, ◌<◌, List, [], ◌∷◌, length, refl, sym, subst}
use Rattle.book.specs.declared.item.Item.{Item}
use Rattle.lines.specs.Lines.{HasNoFeed, lines_of}
use Rattle.lines.specs.Unread.{Unread, BeginsWith, IsFound, Finds, FindsLast}
use Rattle.lines.specs.declared.buffer.Next.{Next}
use Rattle.lines.specs.declared.buffer.Next.TheVariants.{Line, TooLong, More}
use Rattle.lines.specs.Laws.{LastLine}
use Rattle.replies.specs.Replies.{Reply}
use Rattle.answers.specs.Lawful.{AreLawfulWithin, IsLawfulWithin}
use Rattle.answers.specs.declared.settings.Settings.{Settings}
use Rattle.session.specs.Session.{session_ways}

-- a last line that is there
pub found_last : (r : Next) (text : List ℕ) (u : Unread) → (r ≡ More → ⊥) → FindsLast r text u → (0 < length text) × IsFound r u text
found_last Line text u some found = found
found_last TooLong text u some found = found
found_last More text u some found = absurd (some refl)

-- a line that is there, at the front of a text
pub found_next : (r : Next) (text : List ℕ) (u : Unread) → (r ≡ More → ⊥) → Finds r text u → (line : List ℕ) × BeginsWith text line u × IsFound r u line
found_next Line text u some found = found
found_next TooLong text u some found = found
found_next More text u some found = absurd (some refl)

-- one line that is the whole text
pub session_one : (settings : Settings) → LastLine → (old : List Item) (text : List ℕ) (new : List Item) (reply : Reply) → HasNoFeed text → 0 < length text → IsLawfulWithin settings session_ways text old reply new
    → AreLawfulWithin settings session_ways (lines_of text) old (reply ∷ []) new
session_one settings last old text new reply no_feed some lawful =
    subst (λ ls. AreLawfulWithin settings session_ways ls old (reply ∷ []) new) (sym (last text no_feed some)) (new, lawful, refl)
