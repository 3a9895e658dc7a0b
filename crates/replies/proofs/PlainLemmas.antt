-- Texts that JSON writes as they are, between quotes: names, and versions.
use Rattle.std.proofs.Common.{◌≡◌, ◌≢◌, ℕ, ◌+◌, ◌%◌, ◌≤◌, ◌<◌, ◌^◌, List, [], ◌∷◌, length, Bool, true, false, ◌&&◌, not, ◌==◌, nat_le, nat_lt, decimal, Result, Ok, Err, is_ok, refl, subst, arith, rules}
use Rattle.std.specs.List.{join_with_byte, list_all}
use Rattle.std.proofs.lemmas.Bool.Decides.{nat_tests}
use Rattle.std.proofs.lemmas.Fmt.{decimal_by_steps}
use Rattle.std.proofs.lemmas.List.Folds.{list_all-append}
use Rattle.std.proofs.lemmas.List.Splits.{join_with_byte-slice_split}
use Rattle.std.specs.Str.{IsUtf8}
use Rattle.std.proofs.lemmas.Bool.{and_parts}
use Rattle.json.specs.Print.{escape, escape_byte}
use Rattle.json.proofs.Printed.Utf8.{IsUtf8-are_ascii, are_ascii}
use Rattle.semver.proofs.Grammar.{version_parts-sound}
use Rattle.semver.specs.Grammar.{IsValid, is_build, is_build_identifier, is_identifier_byte, is_pre_identifier, is_pre_release}
use Rattle.semver.specs.Identifiers.{marked, parts_text}
use Rattle.semver.specs.Order.{parts}
use Rattle.semver.specs.Parse.{Parts, version_parts}
use Rattle.semver.specs.declared.error.Error.{Error}
use Rattle.versions.specs.Words.{Text, is_name, is_name_byte, is_version}

-- a byte of ASCII from the space on, which is no quote and no backslash
abbrev pub is_plain : ℕ → Bool
is_plain b = nat_le 32 b && nat_le b 126 && not (b == 34) && not (b == 92)

escape_byte-plain : (b : ℕ) → is_plain b ≡ true → escape_byte b ≡ b ∷ []
unfolding escape_byte
escape_byte-plain b plain =
    let quote : (b == 34) ≡ false = grind (arith, nat_tests) in
    let slash : (b == 92) ≡ false = grind (arith, nat_tests) in
    let low : nat_lt b 32 ≡ false = grind (arith, nat_tests) in
    let eight : (b == 8) ≡ false = grind (arith, nat_tests) in
    let twelve : (b == 12) ≡ false = grind (arith, nat_tests) in
    let ten : (b == 10) ≡ false = grind (arith, nat_tests) in
    let thirteen : (b == 13) ≡ false = grind (arith, nat_tests) in
    let nine : (b == 9) ≡ false = grind (arith, nat_tests) in
    rw (quote, slash, low, eight, twelve, ten, thirteen, nine) refl

-- a plain text needs no escapes
pub escape-plain : (text : List ℕ) → list_all is_plain text ≡ true → escape text ≡ text
escape-plain [] plain = refl
escape-plain (b ∷ text) plain =
    let parts = and_parts (is_plain b) (list_all is_plain text) plain in
    rw (escape_byte-plain b parts.0, escape-plain text parts.1) refl

plain_ascii : (text : List ℕ) → list_all is_plain text ≡ true → are_ascii text ≡ true
plain_ascii [] plain = refl
plain_ascii (b ∷ text) plain =
    let parts = and_parts (is_plain b) (list_all is_plain text) plain in
    let small : nat_lt b 128 ≡ true = grind (arith, nat_tests) in
    rw (small, plain_ascii text parts.1) refl

-- a plain text is UTF-8
pub utf8-plain : (text : List ℕ) → list_all is_plain text ≡ true → IsUtf8 text
utf8-plain text plain = IsUtf8-are_ascii text (plain_ascii text plain)

-- what holds of each element where a stronger test does
pub all_weaker : {A : Type 0} (strong weak : A → Bool) → ((x : A) → strong x ≡ true → weak x ≡ true) → (xs : List A) → list_all strong xs ≡ true → list_all weak xs ≡ true
all_weaker strong weak step [] all = refl
all_weaker strong weak step (x ∷ xs) all =
    let parts = and_parts (strong x) (list_all strong xs) all in
    rw (step x parts.0, all_weaker strong weak step xs parts.1) refl

plain_from : (b : ℕ) → 32 ≤ b → b ≤ 126 → b ≢ 34 → b ≢ 92 → is_plain b ≡ true
plain_from b low high quote slash =
    let floor : nat_le 32 b ≡ true = search rules in
    let roof : nat_le b 126 ≡ true = search rules in
    let other : (b == 34) ≡ false = search rules in
    let another : (b == 92) ≡ false = search rules in
    rw (floor, roof, other, another) refl

-- ---- names

name_byte-plain : (b : ℕ) → is_name_byte b ≡ true → is_plain b ≡ true
name_byte-plain b named = grind (arith, nat_tests)

pub name-plain : (text : Text) → is_name text ≡ true → list_all is_plain text ≡ true
name-plain text named =
    let bytes = and_parts _ (list_all is_name_byte text) named in
    all_weaker is_name_byte is_plain name_byte-plain text bytes.1

-- ---- versions

identifier_byte-plain : (b : ℕ) → is_identifier_byte b ≡ true → is_plain b ≡ true
identifier_byte-plain b named = grind (arith, nat_tests)

digit-plain : (d : ℕ) → d < 10 → is_plain (48 + d) ≡ true
digit-plain d small = plain_from (48 + d) (omega arith) (omega arith) (omega arith) (omega arith)

pub decimal-plain : (n : ℕ) → n < 2 ^ 64 → list_all is_plain (decimal n) ≡ true
decimal-plain n fits = decimal_by_steps (λ _ digits. list_all is_plain digits ≡ true) (λ d small. rw (digit-plain d small) refl)
    (λ d digits big before. rw (list_all-append, before, digit-plain (d % 10) (omega arith)) refl) n fits

joined-plain : (parts : List Text) → list_all (list_all is_plain) parts ≡ true → list_all is_plain (join_with_byte 46 parts) ≡ true
joined-plain [] all = refl
joined-plain (x ∷ []) all = (and_parts (list_all is_plain x) true all).0
joined-plain (x ∷ y ∷ parts) all =
    let split = and_parts (list_all is_plain x) (list_all (list_all is_plain) (y ∷ parts)) all in
    rw (list_all-append, split.0, joined-plain (y ∷ parts) split.1) refl

-- dotted parts that are plain make a plain text
pub dotted-plain : (text : Text) → list_all (list_all is_plain) (parts text) ≡ true → list_all is_plain text ≡ true
dotted-plain text all = subst (λ (t : Text). list_all is_plain t ≡ true) (join_with_byte-slice_split 46 text) (joined-plain (parts text) all)

pub build_identifier-plain : (part : Text) → is_build_identifier part ≡ true → list_all is_plain part ≡ true
build_identifier-plain part is = all_weaker is_identifier_byte is_plain identifier_byte-plain part (and_parts _ (list_all is_identifier_byte part) is).1

pre_identifier-plain : (part : Text) → is_pre_identifier part ≡ true → list_all is_plain part ≡ true
pre_identifier-plain part is = build_identifier-plain part (and_parts (is_build_identifier part) _ is).0

pre_release-plain : (text : Text) → is_pre_release text ≡ true → list_all is_plain text ≡ true
pre_release-plain [] is = refl
pre_release-plain (b ∷ text) is = dotted-plain (b ∷ text) (all_weaker is_pre_identifier (list_all is_plain) pre_identifier-plain (parts (b ∷ text)) is)

build-plain : (text : Text) → is_build text ≡ true → list_all is_plain text ≡ true
build-plain [] is = refl
build-plain (b ∷ text) is = dotted-plain (b ∷ text) (all_weaker is_build_identifier (list_all is_plain) build_identifier-plain (parts (b ∷ text)) is)

marked-plain : (mark : ℕ) (text : Text) → is_plain mark ≡ true → list_all is_plain text ≡ true → list_all is_plain (marked mark text) ≡ true
marked-plain mark [] sign plain = refl
marked-plain mark (b ∷ text) sign plain = rw (sign, plain) refl

parts_text-plain : (p : Parts) → IsValid p → list_all is_plain (parts_text p) ≡ true
parts_text-plain p valid =
    let pre = marked-plain 45 p.3 refl (pre_release-plain p.3 valid.3) in
    let build = marked-plain 43 p.4 refl (build-plain p.4 valid.4) in
    simp (list_all-append, decimal-plain p.0 valid.0, decimal-plain p.1 valid.1, decimal-plain p.2 valid.2, pre, build)

read_of : (r : Result Parts Error) → is_ok r ≡ true → (p : Parts) × (r ≡ Ok p)
read_of (Ok p) e = (p, refl)
read_of (Err f) e = absurd (cc)

pub version-plain : (text : Text) → is_version text ≡ true → list_all is_plain text ≡ true
version-plain text valid =
    let read = read_of (version_parts text) (and_parts (nat_le (length text) 256) (is_ok (version_parts text)) valid).1 in
    let sound = version_parts-sound text read.0 read.1 in
    subst (λ (t : Text). list_all is_plain t ≡ true) sound.0 (parts_text-plain read.0 sound.1)
