-- The lines of a text, one after another.
use Rattle.std.proofs.Common.{◌≡◌, ◌≢◌, ℕ, ◌<◌, List, [], ◌∷◌, ◌++◌, ◌==◌, ◌+◌, ◌-◌, length, take, drop, refl, ap, subst, ◌∙◌, sym, Bool, false, true, arith, rules}
use Rattle.std.specs.Prelude.{MatchBool}
use Rattle.std.proofs.lemmas.List.{append_assoc, take_all, take_rest, take-append-drop}
use Rattle.std.proofs.Math.Seq.{drop-length}
use Rattle.lines.specs.Unread.{Unread, StandsFor, line_limit}
use Rattle.std.specs.List.{AllByRecursion}
use Rattle.std.proofs.lemmas.List.Elements.{recursion_from_All}
use Rattle.lines.specs.Lines.{line_feed, HasNoFeed, lines_of, whole_lines_of, with_feeds}

other : (b : ℕ) → b ≢ line_feed → (b == line_feed) ≡ false
other b h = search rules

lines_of-feed_by : (line rest : List ℕ) → AllByRecursion (λ b. b ≢ line_feed) line → lines_of (line ++ line_feed ∷ rest) ≡ line ∷ lines_of rest
lines_of-feed_by [] rest h = refl
lines_of-feed_by (b ∷ line) rest h = rw (other b h.0, lines_of-feed_by line rest h.1) refl

-- a line and its line feed stand in front
pub lines_of-feed : (line rest : List ℕ) → HasNoFeed line → lines_of (line ++ line_feed ∷ rest) ≡ line ∷ lines_of rest
lines_of-feed line rest h = lines_of-feed_by line rest (recursion_from_All _ line h)

lines_of-last_by : (b : ℕ) (line : List ℕ) → AllByRecursion (λ b. b ≢ line_feed) (b ∷ line) → lines_of (b ∷ line) ≡ (b ∷ line) ∷ []
lines_of-last_by b [] h = rw (other b h.0) refl
lines_of-last_by b (c ∷ line) h = rw (other b h.0, lines_of-last_by c line h.1) refl

-- the last line lacks its line feed
pub lines_of-last : (line : List ℕ) → HasNoFeed line → 0 < length line → lines_of line ≡ line ∷ []
lines_of-last [] h some = absurd (omega arith)
lines_of-last (b ∷ line) h some = lines_of-last_by b line (recursion_from_All _ (b ∷ line) h)

-- what is cut at its first line feed
pub lines_of-cut : (bytes : List ℕ) (feed : ℕ) → HasNoFeed (take feed bytes) → drop feed bytes ≡ line_feed ∷ drop (feed + 1) bytes
    → lines_of bytes ≡ take feed bytes ∷ lines_of (take (length bytes - (feed + 1)) (drop (feed + 1) bytes))
lines_of-cut bytes feed before found =
    let whole : bytes ≡ take feed bytes ++ line_feed ∷ drop (feed + 1) bytes = sym (take-append-drop feed bytes) ∙ ap (λ (l : List ℕ). take feed bytes ++ l) found in
    ap lines_of whole ∙ lines_of-feed (take feed bytes) (drop (feed + 1) bytes) before
    ∙ ap (λ (l : List ℕ). take feed bytes ∷ lines_of l) (sym (take_rest bytes (feed + 1)))

-- what is one line to its end
pub lines_of-whole : (bytes front back : List ℕ) → HasNoFeed bytes → 0 < length bytes → front ≡ take (length bytes) bytes → back ≡ drop (length bytes) bytes
    → lines_of bytes ≡ front ∷ lines_of back
lines_of-whole bytes front back no_feed some first rest =
    rw (first, rest, take_all (length bytes) bytes (omega arith), drop-length bytes) (lines_of-last bytes no_feed some)

whole_lines_of-feed_by : (line rest : List ℕ) → AllByRecursion (λ b. b ≢ line_feed) line → whole_lines_of (line ++ line_feed ∷ rest) ≡ line ∷ whole_lines_of rest
whole_lines_of-feed_by [] rest h = refl
whole_lines_of-feed_by (b ∷ line) rest h = rw (other b h.0, whole_lines_of-feed_by line rest h.1) refl

pub whole_lines_of-feed : (line rest : List ℕ) → HasNoFeed line → whole_lines_of (line ++ line_feed ∷ rest) ≡ line ∷ whole_lines_of rest
whole_lines_of-feed line rest h = whole_lines_of-feed_by line rest (recursion_from_All _ line h)

whole_lines_of-rest_by : (line : List ℕ) → AllByRecursion (λ b. b ≢ line_feed) line → whole_lines_of line ≡ []
whole_lines_of-rest_by [] h = refl
whole_lines_of-rest_by (b ∷ line) h = rw (other b h.0, whole_lines_of-rest_by line h.1) refl

-- what has no line feed has no whole line
pub whole_lines_of-rest : (line : List ℕ) → HasNoFeed line → whole_lines_of line ≡ []
whole_lines_of-rest line h = whole_lines_of-rest_by line (recursion_from_All _ line h)

with_feeds-cons : (line : List ℕ) (lines : List (List ℕ)) (rest : List ℕ) → with_feeds (line ∷ lines) ++ rest ≡ line ++ line_feed ∷ (with_feeds lines ++ rest)
with_feeds-cons line lines rest = append_assoc (line ++ line_feed ∷ []) (with_feeds lines) rest ∙ append_assoc line (line_feed ∷ []) (with_feeds lines ++ rest)

pub lines_of-with_feeds : (lines : List (List ℕ)) (rest : List ℕ) → AllByRecursion HasNoFeed lines → lines_of (with_feeds lines ++ rest) ≡ lines ++ lines_of rest
lines_of-with_feeds [] rest h = refl
lines_of-with_feeds (line ∷ lines) rest h = ap lines_of (with_feeds-cons line lines rest) ∙ lines_of-feed line (with_feeds lines ++ rest) h.0
    ∙ ap (λ ls. line ∷ ls) (lines_of-with_feeds lines rest h.1)

pub whole_lines_of-with_feeds : (lines : List (List ℕ)) (rest : List ℕ) → AllByRecursion HasNoFeed lines → whole_lines_of (with_feeds lines ++ rest) ≡ lines ++ whole_lines_of rest
whole_lines_of-with_feeds [] rest h = refl
whole_lines_of-with_feeds (line ∷ lines) rest h = ap whole_lines_of (with_feeds-cons line lines rest) ∙ whole_lines_of-feed line (with_feeds lines ++ rest) h.0
    ∙ ap (λ ls. line ∷ ls) (whole_lines_of-with_feeds lines rest h.1)

-- more of the text is read
pub StandsFor-more : (old new : Unread) (text piece : List ℕ) → StandsFor old text → new.bytes ≡ old.bytes ++ piece → new.is_long ≡ old.is_long → StandsFor new (text ++ piece)
StandsFor-more old new text piece stands bytes same =
    let P : Bool → Type 0 = λ b. MatchBool b ((front : List ℕ) × HasNoFeed front × (line_limit < length front) × (text ++ piece ≡ front ++ new.bytes)) (text ++ piece ≡ new.bytes) in
    subst P (sym same) (go old.is_long stands)
  where
    go : (b : Bool) → MatchBool b ((front : List ℕ) × HasNoFeed front × (line_limit < length front) × (text ≡ front ++ old.bytes)) (text ≡ old.bytes)
        → MatchBool b ((front : List ℕ) × HasNoFeed front × (line_limit < length front) × (text ++ piece ≡ front ++ new.bytes)) (text ++ piece ≡ new.bytes)
    go false is = ap (λ l. l ++ piece) is ∙ sym bytes
    go true (front, no_feed, over, is) = (front, no_feed, over, ap (λ l. l ++ piece) is ∙ append_assoc front old.bytes piece ∙ ap (λ l. front ++ l) (sym bytes))
