-- The reader of versions accepts exactly the texts of the grammar.
use Rattle.std.proofs.Common.{◌≡◌, ◌≤◌, length, refl, sym, true, true≢false, rules}
use Rattle.std.specs.Prelude.{Result, Ok, Err, is_ok, nat_le}
use Rattle.semver.proofs.Grammar.{version_parts-complete, version_parts-sound}
use Rattle.semver.specs.Parse.{Parts, version_parts}
use Rattle.semver.specs.declared.error.Error.{Error}
use Rattle.versions.specs.VersionTexts.{VersionsAreThoseOfTheGrammar, WritesOut}
use Rattle.versions.specs.Words.{Text}
use Rattle.versions.specs.declared.published.TheConstants.{VERSION_TEXT_LIMIT}

-- what a reader that does not fail read
read-value : {A : Type 0} (r : Result A Error) → is_ok r ≡ true → (x : A) × (r ≡ Ok x)
read-value (Ok x) e = (x, refl)
read-value (Err f) e = absurd (true≢false (sym e))

reads-out : (text : Text) → is_ok (version_parts text) ≡ true → (parts : Parts) × WritesOut text parts
reads-out text e =
    let read = read-value (version_parts text) e in
    let sound = version_parts-sound text read.0 read.1 in
    (read.0, record { valid = sound.1; written = sound.0 })

reads-in : (text : Text) (parts : Parts) → WritesOut text parts → is_ok (version_parts text) ≡ true
reads-in text parts w = rw (← w.written) (rw (version_parts-complete parts w.valid) refl)

pub versions-of_the_grammar : VersionsAreThoseOfTheGrammar
versions-of_the_grammar text = (
  λ is.
      let short : length text ≤ VERSION_TEXT_LIMIT = search rules in
      let read : is_ok (version_parts text) ≡ true = search rules in
      (short, reads-out text read),
  λ told.
      let short : nat_le (length text) VERSION_TEXT_LIMIT ≡ true = search (rules, told.0) in
      rw (short, reads-in text told.1.0 told.1.1) refl,
)
