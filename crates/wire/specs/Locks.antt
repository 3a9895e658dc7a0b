-- Lock lists: the packages of a build with the versions to stay at, as the text of a file.
use Rattle.std.specs.Prelude.{ℕ, List, [], length, nat_le, ◌&&◌, if◌then◌else◌, Option, Some, None, option_and_then, Result, Ok, Err}
use Rattle.std.specs.List.{list_all}
use Rattle.std.specs.Str.{is_utf8}
use Rattle.serde_json.specs.Read.{read}
use Rattle.versions.specs.Words.{Text, is_name, is_version}
use Rattle.versions.specs.declared.refusal.Refusal.{Refusal}
use Rattle.versions.specs.declared.refusal.Refusal.TheVariants.{BadLine, BadName, BadVersion}
use Rattle.registry.specs.Needs.{names_of}
use Rattle.registry.specs.Requests.{request_refusal}
use Rattle.wire.specs.Requests.{locked_versions}
use Rattle.wire.specs.Shapes.{pairs_in}
use Rattle.wire.specs.declared.request.lock.TheConstants.{LOCK_BYTES}

abbrev pub lines_unless : Option Refusal → List (Text × Text) → Result (List (Text × Text)) Refusal
lines_unless None lines = Ok lines
lines_unless (Some refusal) lines = Err refusal

-- the lines, or their lowest refusal: names come before versions, and these before what a request is refused that has this lock and needs nothing
abbrev pub judged_lock : List (Text × Text) → Result (List (Text × Text)) Refusal
judged_lock lines =
    if list_all is_name (names_of lines) then
    (if list_all is_version (locked_versions lines) then lines_unless (request_refusal (record { needs = []; lock = lines })) lines
    else Err BadVersion) else Err BadName

abbrev pub judged_lines : Option (List (Text × Text)) → Result (List (Text × Text)) Refusal
judged_lines None = Err BadLine
judged_lines (Some lines) = judged_lock lines

-- A lock list is an array of pairs of texts, in any order: its lines, or the refusal that it is given.
unfoldable pub lock_of : List ℕ → Result (List (Text × Text)) Refusal
lock_of text = if nat_le (length text) LOCK_BYTES && is_utf8 text then judged_lines (option_and_then pairs_in (read text)) else Err BadLine
