-- The parts of what a line buffer holds.
use Rattle.std.proofs.Common.{◌≡◌, ◌≢◌, ℕ, ◌+◌, ◌-◌, ◌≤◌, ◌<◌, List, [], ◌∷◌, ◌++◌, Bool, true, false, length, take, drop, slice_range, sym, ap, subst, ◌∙◌, arith, refl, length-take, length-drop, length-append, append_assoc, true≢false}
use Rattle.std.proofs.lemmas.List.{take-append-drop, drop-drop, append-nil, drop-take}
use lib.Seq.{take-add, take-take}
use Rattle.std.proofs.lemmas.List.Elements.{All-append}
use borrow.Author.Tests.{ltb-true, ltb-false}
use Rattle.std.proofs.Common.{ltb}
use Rattle.lines.specs.Lines.{line_feed, HasNoFeed}
use Rattle.lines.specs.Unread.{StandsFor, Finds, line_limit}
use Rattle.lines.specs.declared.buffer.Next.TheVariants.{Line, TooLong, More}

-- a part from i to k is the part to j and the part from there
pub slice_range-join : (xs : List ℕ) (i j k : ℕ) → i ≤ j → j ≤ k → slice_range xs i k ≡ slice_range xs i j ++ slice_range xs j k
slice_range-join xs i j k low high =
    let width : k - i ≡ (j - i) + (k - j) = omega arith in
    let from : drop (j - i) (drop i xs) ≡ drop j xs = drop-drop (j - i) i xs ∙ ap (λ n. drop n xs) (omega arith) in
    ap (λ n. take n (drop i xs)) width ∙ take-add (j - i) (k - j) (drop i xs) ∙ ap (λ l. slice_range xs i j ++ take (k - j) l) from

pub no_feed-join : (xs : List ℕ) (i j k : ℕ) → i ≤ j → j ≤ k → HasNoFeed (slice_range xs i j) → HasNoFeed (slice_range xs j k) → HasNoFeed (slice_range xs i k)
no_feed-join xs i j k low high front back =
    subst HasNoFeed (sym (slice_range-join xs i j k low high)) (All-append (λ b. b ≢ line_feed) _ _ front back)

-- where the first line feed of the part from j to k stands `offset` bytes behind j, and none before j
pub part-feed : (xs : List ℕ) (i j k offset : ℕ) → i ≤ j → j ≤ k → offset < k - j
    → drop offset (slice_range xs j k) ≡ line_feed ∷ drop (offset + 1) (slice_range xs j k)
    → slice_range xs i k ≡ slice_range xs i (j + offset) ++ line_feed ∷ slice_range xs (j + offset + 1) k
part-feed xs i j k offset low high within found =
    let front : take offset (slice_range xs j k) ≡ slice_range xs j (j + offset)
    = take-take offset (k - j) (drop j xs) (omega arith) ∙ ap (λ n. take n (drop j xs)) (omega arith) in
    let width : k - j ≡ (offset + 1) + (k - (j + offset + 1)) = omega arith in
    let back : drop (offset + 1) (slice_range xs j k) ≡ slice_range xs (j + offset + 1) k
    = ap (λ n. drop (offset + 1) (take n (drop j xs))) width ∙ drop-take (offset + 1) (k - (j + offset + 1)) (drop j xs)
    ∙ ap (λ l. take (k - (j + offset + 1)) l) (drop-drop (offset + 1) j xs ∙ ap (λ n. drop n xs) (omega arith)) in
    let there : slice_range xs j k ≡ slice_range xs j (j + offset) ++ line_feed ∷ slice_range xs (j + offset + 1) k
    = sym (take-append-drop offset (slice_range xs j k)) ∙ ap (λ l. l ++ drop offset (slice_range xs j k)) front
    ∙ ap (λ l. slice_range xs j (j + offset) ++ l) found ∙ ap (λ l. slice_range xs j (j + offset) ++ line_feed ∷ l) back in
    slice_range-join xs i j k low high ∙ ap (λ l. slice_range xs i j ++ l) there
    ∙ sym (append_assoc (slice_range xs i j) (slice_range xs j (j + offset)) (line_feed ∷ slice_range xs (j + offset + 1) k))
    ∙ ap (λ l. l ++ line_feed ∷ slice_range xs (j + offset + 1) k) (sym (slice_range-join xs i j (j + offset) low (omega arith)))

pub no_feed-front : (xs : List ℕ) (i j k offset : ℕ) → i ≤ j → j ≤ k → offset < k - j → HasNoFeed (slice_range xs i j)
    → HasNoFeed (take offset (slice_range xs j k)) → HasNoFeed (slice_range xs i (j + offset))
no_feed-front xs i j k offset low high within front back =
    let same : take offset (slice_range xs j k) ≡ slice_range xs j (j + offset)
    = take-take offset (k - j) (drop j xs) (omega arith) ∙ ap (λ n. take n (drop j xs)) (omega arith) in
    no_feed-join xs i j (j + offset) low (omega arith) front (subst HasNoFeed same back)

pub finds_line : (before : List ℕ) (is_long : Bool) (line rest bytes text : List ℕ) → bytes ≡ line ++ line_feed ∷ rest → HasNoFeed line
    → is_long ≡ false → length line ≤ line_limit → StandsFor (record { line = before; is_long = is_long; bytes = bytes }) text
    → Finds Line text (record { line = line; is_long = false; bytes = rest })
finds_line before false line rest bytes text cut no_feed short fits is = (line, record { no_feed = no_feed; rest = rest; whole = is ∙ cut; held = refl }, (refl, fits))
finds_line before true line rest bytes text cut no_feed short fits is = absurd (cc)

-- a long line ends here; where it is not long so far, its last part alone is over the limit
pub finds_too_long : (before after : List ℕ) (is_long : Bool) (line rest bytes text : List ℕ) → bytes ≡ line ++ line_feed ∷ rest → HasNoFeed line
    → (is_long ≡ false → line_limit < length line) → StandsFor (record { line = before; is_long = is_long; bytes = bytes }) text
    → Finds TooLong text (record { line = after; is_long = false; bytes = rest })
finds_too_long before after false line rest bytes text cut no_feed long stands =
    (line, record { no_feed = no_feed; rest = rest; whole = stands ∙ cut; held = refl }, long refl)
finds_too_long before after true line rest bytes text cut no_feed long (front, front_no_feed, over, is) = (
  front ++ line,
  record {
    no_feed = All-append (λ b. b ≢ line_feed) front line front_no_feed no_feed;
    rest = rest;
    whole = is ∙ ap (λ l. front ++ l) cut ∙ sym (append_assoc front line (line_feed ∷ rest));
    held = refl;
  },
  omega (arith, length-append front line),
)

-- nothing ends here, and the front is passed over
pub finds_more_long : (before after : List ℕ) (is_long : Bool) (bytes text : List ℕ) → HasNoFeed bytes
    → (is_long ≡ false → line_limit < length bytes) → StandsFor (record { line = before; is_long = is_long; bytes = bytes }) text
    → Finds More text (record { line = after; is_long = true; bytes = [] })
finds_more_long before after false bytes text no_feed long stands =
    let same : HasNoFeed text = subst HasNoFeed (sym stands) no_feed in
    (same, (text, same, (rw stands (long refl)), sym (append-nil text)), omega arith)
finds_more_long before after true bytes text no_feed long (front, front_no_feed, over, is) =
    let same : HasNoFeed text = subst HasNoFeed (sym is) (All-append (λ b. b ≢ line_feed) front bytes front_no_feed no_feed) in
    let more : line_limit < length text = rw is (omega (arith, length-append front bytes)) in
    (same, (text, same, more, sym (append-nil text)), omega arith)

-- nothing ends here, and the line is short so far
pub finds_more : (before after : List ℕ) (is_long : Bool) (bytes text : List ℕ) → HasNoFeed bytes → is_long ≡ false → length bytes ≤ line_limit
    → StandsFor (record { line = before; is_long = is_long; bytes = bytes }) text
    → Finds More text (record { line = after; is_long = is_long; bytes = bytes })
finds_more before after false bytes text no_feed short fits stands = (subst HasNoFeed (sym stands) no_feed, stands, fits)
finds_more before after true bytes text no_feed short fits stands = absurd (cc)

pub length-slice_range : (xs : List ℕ) (i j : ℕ) → i ≤ j → j ≤ length xs → length (slice_range xs i j) ≡ j - i
length-slice_range xs i j low high = simp (length-take, length-drop) (omega arith)

-- what was moved to the front and then read past, seen from the front
pub moved-part : (old mid new : List ℕ) (i j k : ℕ) → i ≤ j → j ≤ k → take (k - i) mid ≡ slice_range old i k → take (k - i) new ≡ take (k - i) mid
    → slice_range new 0 (j - i) ≡ slice_range old i j
moved-part old mid new i j k low high moved kept =
    let short : j - i ≤ k - i = omega arith in
    let same : take (k - i) new ≡ slice_range old i k = kept ∙ moved in
    ap (λ n. take n new) (omega arith) ∙ sym (take-take (j - i) (k - i) new short) ∙ ap (λ l. take (j - i) l) same ∙ take-take (j - i) (k - i) (drop i old) short

-- the same, with the n bytes that were read behind it
pub moved-read : (old mid new : List ℕ) (i k n : ℕ) → i ≤ k → take (k - i) mid ≡ slice_range old i k → take (k - i) new ≡ take (k - i) mid
    → slice_range new 0 (k - i + n) ≡ slice_range old i k ++ slice_range new (k - i) (k - i + n)
moved-read old mid new i k n low moved kept =
    slice_range-join new 0 (k - i) (k - i + n) (omega arith) (omega arith)
    ∙ ap (λ l. l ++ slice_range new (k - i) (k - i + n)) (moved-part old mid new i k k low (omega arith) moved kept)

-- a front stays where bytes come behind all
pub front_stays : (old longer : List ℕ) (size n : ℕ) → n ≤ size → take size longer ≡ old → take n longer ≡ take n old
front_stays old longer size n low front = sym (take-take n size longer low) ∙ ap (λ l. take n l) front

-- ---- what numbers say of a part, so that no proof of a call looks for it among all that it knows

pub from_none : (n : ℕ) → 0 ≤ n
from_none n = omega arith

pub up_to : (n : ℕ) → n ≤ n
up_to n = omega arith

pub further : (i j k : ℕ) → i ≤ j → j ≤ k → i ≤ k
further i j k low high = omega arith

pub within_part : (xs : List ℕ) (j k offset : ℕ) → offset < length (slice_range xs j k) → offset < k - j
within_part xs j k offset within = omega (arith, within, length-take {A = ℕ}, length-drop {A = ℕ})

-- how long a part is that ends behind a place
pub length-cut : (xs : List ℕ) (i j k offset size : ℕ) → i ≤ j → offset < k - j → k ≤ size → length xs ≡ size → length (slice_range xs i (j + offset)) ≡ j + offset - i
length-cut xs i j k offset size low within high whole = length-slice_range xs i (j + offset) (omega arith) (omega arith)

pub length-part : (xs : List ℕ) (i j size : ℕ) → i ≤ j → j ≤ size → length xs ≡ size → length (slice_range xs i j) ≡ j - i
length-part xs i j size low high whole = length-slice_range xs i j low (omega arith)

-- whether a line is over the limit, by a test of its length
pub over_by : (n length : ℕ) → length ≡ n → ltb line_limit n ≡ true → line_limit < length
over_by n length is over = omega (arith, ltb-true, over)

pub fits_by : (n length : ℕ) → length ≡ n → ltb line_limit n ≡ false → length ≤ line_limit
fits_by n length is under = omega (arith, ltb-false, under)

pub over_than : (n length : ℕ) → length ≡ n → line_limit < n → line_limit < length
over_than n length is over = omega arith

pub fits_than : (n length : ℕ) → length ≡ n → n ≤ line_limit → length ≤ line_limit
fits_than n length is under = omega arith

pub not_both : (b : Bool) → b ≡ true → b ≡ false → ⊥
not_both b one two = true≢false (sym one ∙ two)
