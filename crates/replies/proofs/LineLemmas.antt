-- Compact JSON has no line feed, so that each reply is one line.
use Rattle.std.proofs.Common.{◌≡◌, ◌≢◌, ℕ, zero, suc, ◌+◌, ◌/◌, ◌%◌, ◌<◌, ◌≤◌, List, [], ◌∷◌, ◌++◌, length, map, Bool, true, false, ◌&&◌, ◌==◌, nat_le, nat_lt, decimal, pos, negsuc, refl, sym, ap, ◌∙◌, inl, inr, arith, rules, append-nil}
use Rattle.std.specs.Prelude.{if◌then◌else◌}
use Rattle.std.specs.List.{AllByRecursion, list_all}
use Rattle.std.specs.Fmt.{digit_glyph, digits, digits_onto}
use Rattle.std.proofs.lemmas.Bool.{and_parts, cases_eq, cases_lt}
use Rattle.std.proofs.lemmas.List.{append_assoc, length-map}
use Rattle.std.proofs.lemmas.List.Elements.{All-from_recursion}
use Rattle.std.proofs.lemmas.List.Folds.{list_all-append}
use Rattle.json.specs.Print.{escape, escape_byte, quoted}
use Rattle.json.proofs.Printed.Strings.{escape_byte_plain}
use Rattle.serde_json.specs.Data.{Data, Items, Members, array, boolean, float, item, member, negative, no_items, no_members, null, number, object, string, unsigned}
use Rattle.serde_json.specs.Written.{comma_if, compact_text, items_text, members_text}
use Rattle.versions.specs.Words.{Text}
use Rattle.lines.specs.Laws.{LinesInFront, WholeLinesInFront}
use Rattle.lines.specs.Lines.{HasNoFeed, line_feed, lines_of, whole_lines_of, with_feeds}
use Rattle.replies.specs.Replies.{Reply, json_of, replies_text, reply_text}
use Rattle.replies.specs.ReplyLines.{JsonHasNoFeed, LinesCountReplies, RepliesAreLines}

-- a byte from the space on
abbrev is_above : ℕ → Bool
is_above b = nat_le 32 b

above : (b : ℕ) → 32 ≤ b → is_above b ≡ true
above b low = search (rules, low)

above-append : (a b : List ℕ) → list_all is_above a ≡ true → list_all is_above b ≡ true → list_all is_above (a ++ b) ≡ true
above-append a b one two = rw (list_all-append, one, two) refl

above-cons : (b : ℕ) (text : List ℕ) → is_above b ≡ true → list_all is_above text ≡ true → list_all is_above (b ∷ text) ≡ true
above-cons b text one two = rw (one, two) refl

above-no_feed : (text : List ℕ) → list_all is_above text ≡ true → AllByRecursion (λ b. b ≢ line_feed) text
above-no_feed [] all = tt
above-no_feed (b ∷ text) all =
    let here = and_parts (is_above b) (list_all is_above text) all in
    let low : 32 ≤ b = search (rules, here.0) in
    (λ is. omega arith, above-no_feed text here.1)

-- ---- numbers

glyph-above : (d : ℕ) → is_above (digit_glyph false d) ≡ true
glyph-above d = elim (nat_lt d 10) as (λ v. is_above (if v then 48 + d else 87 + d) ≡ true) [
  | true ↦ above (48 + d) (omega arith)
  | false ↦ above (87 + d) (omega arith)
]

digits-above : (k n : ℕ) (text : List ℕ) → list_all is_above text ≡ true → list_all is_above (digits_onto k 10 false n text) ≡ true
digits-above zero n text all = all
digits-above (suc k) n text all =
    let more : List ℕ = digit_glyph false (n % 10) ∷ text in
    let here = above-cons (digit_glyph false (n % 10)) text (glyph-above (n % 10)) all in
    elim (n / 10 == 0) as (λ v. list_all is_above (if v then more else digits_onto k 10 false (n / 10) more) ≡ true) [
      | true ↦ here
      | false ↦ digits-above k (n / 10) more here
    ]

decimal-above : (n : ℕ) → list_all is_above (decimal n) ≡ true
unfolding digits
decimal-above n = digits-above 64 n [] refl

-- ---- texts

-- the escapes of the bytes below n
abbrev escapes_above : ℕ → Bool
escapes_above zero = true
escapes_above (suc n) = list_all is_above (escape_byte n) && escapes_above n

escape_low : (n : ℕ) → escapes_above n ≡ true → (x : ℕ) → x < n → list_all is_above (escape_byte x) ≡ true
escape_low zero e x h = absurd (omega arith)
escape_low (suc n) e x h =
    let parts = and_parts (list_all is_above (escape_byte n)) (escapes_above n) e in
    elim (cases_eq x n) [ inl same ↦ rw same parts.0 | inr other ↦ escape_low n parts.1 x (omega arith) ]

low_above : escapes_above 128 ≡ true
unfolding escape_byte
low_above = refl

escape_above : (x : ℕ) → list_all is_above (escape_byte x) ≡ true
escape_above x = elim (cases_lt x 128) [
  | inl small ↦ escape_low 128 low_above x small
  | inr big ↦
      let high : is_above x ≡ true = above x (omega arith) in
      rw (escape_byte_plain x (λ e. omega arith) (λ e. omega arith) (omega arith), high) refl
]

escaped-above : (s : List ℕ) → list_all is_above (escape s) ≡ true
escaped-above [] = refl
escaped-above (x ∷ s) = rw (list_all-append, escape_above x, escaped-above s) refl

quoted-above : (s : List ℕ) → list_all is_above (quoted s) ≡ true
quoted-above s = above-append (escape s) (34 ∷ []) (escaped-above s) refl

comma-above : (later : Bool) → list_all is_above (comma_if later) ≡ true
comma-above true = refl
comma-above false = refl

-- ---- JSON

mutual
  json-above : (value : Data) → list_all is_above (compact_text value) ≡ true
  json-above null = refl
  json-above (boolean true) = refl
  json-above (boolean false) = refl
  json-above (number (unsigned n)) = decimal-above n
  json-above (number (negative (pos n))) = decimal-above n
  json-above (number (negative (negsuc n))) = decimal-above (suc n)
  json-above (number (float x)) = refl
  json-above (string s) = quoted-above s
  json-above (array ds) = items-above false ds
  json-above (object ms) = members-above false ms

  items-above : (later : Bool) (ds : Items) → list_all is_above (items_text later ds) ≡ true
  items-above later no_items = refl
  items-above later (item d ds) = above-append (comma_if later) (compact_text d ++ items_text true ds) (comma-above later)
      (above-append (compact_text d) (items_text true ds) (json-above d) (items-above true ds))

  members-above : (later : Bool) (ms : Members) → list_all is_above (members_text later ms) ≡ true
  members-above later no_members = refl
  members-above later (member k d ms) = above-append (comma_if later) (quoted k ++ 58 ∷ (compact_text d ++ members_text true ms)) (comma-above later)
      (above-append (quoted k) (58 ∷ (compact_text d ++ members_text true ms)) (quoted-above k)
      (above-append (compact_text d) (members_text true ms) (json-above d) (members-above true ms)))

pub json_has_no_feed : JsonHasNoFeed
json_has_no_feed value = All-from_recursion _ (compact_text value) (above-no_feed (compact_text value) (json-above value))

-- ---- replies

abbrev line_of : Reply → Text
line_of reply = compact_text (json_of reply)

pub replies_are_lines : RepliesAreLines
unfolding reply_text
replies_are_lines reply = record { line = line_of reply; no_feed = json_has_no_feed (json_of reply); ended = refl }

lines_no_feed : (replies : List Reply) → AllByRecursion HasNoFeed (map line_of replies)
lines_no_feed [] = tt
lines_no_feed (reply ∷ replies) = (json_has_no_feed (json_of reply), lines_no_feed replies)

as_lines : (replies : List Reply) → replies_text replies ≡ with_feeds (map line_of replies) ++ []
unfolding reply_text
as_lines [] = refl
as_lines (reply ∷ replies) = ap (λ (l : List ℕ). reply_text reply ++ l) (as_lines replies) ∙ sym (append_assoc (reply_text reply) (with_feeds (map line_of replies)) [])

-- as many as there are, where these are the lines of the text
as_many : (replies : List Reply) (lines : List Text) → lines ≡ map line_of replies ++ [] → length lines ≡ length replies
as_many replies lines are = ap length (are ∙ append-nil (map line_of replies)) ∙ length-map replies line_of

pub lines_count_replies : LinesInFront → WholeLinesInFront → LinesCountReplies
lines_count_replies front whole replies = (
  as_many replies (lines_of (replies_text replies)) (ap lines_of (as_lines replies) ∙ front (map line_of replies) [] (lines_no_feed replies)),
  as_many replies (whole_lines_of (replies_text replies)) (ap whole_lines_of (as_lines replies) ∙ whole (map line_of replies) [] (lines_no_feed replies)),
)
