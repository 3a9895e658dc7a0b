-- Which texts are versions, told by the grammar of Semantic Versioning 2.0.0 and by no reader.
use Rattle.std.specs.Prelude.{◌≡◌, ◌↔◌, ◌≤◌, IsTrue, length}
use Rattle.semver.specs.Grammar.{IsValid}
use Rattle.semver.specs.Identifiers.{parts_text}
use Rattle.semver.specs.Parse.{Parts}
use Rattle.versions.specs.Words.{Text, is_version}
use Rattle.versions.specs.declared.published.TheConstants.{VERSION_TEXT_LIMIT}

-- numbers of 64 bits, a pre-release and build metadata, each of the grammar, that a text writes out
pub record WritesOut (text : Text) (parts : Parts) : Type 0 where
  pub valid : IsValid parts
  pub written : parts_text parts ≡ text

-- a text is a version exactly where it has at most VERSION_LIMIT bytes and writes out such parts
abbrev pub VersionsAreThoseOfTheGrammar : Type 0
VersionsAreThoseOfTheGrammar = (text : Text) → IsTrue (is_version text) ↔ ((length text ≤ VERSION_TEXT_LIMIT) × ((parts : Parts) × WritesOut text parts))
