-- What the words on texts say of what was read, and how a fault of the reader becomes a refusal.
use Rattle.std.proofs.Common.{◌≡◌, ◌∙◌, ◌⊎◌, inl, inr, List, refl, sym, ap, true, false, true≢false, rules, length, ◌≤◌}
use Rattle.std.specs.Prelude.{◌↔◌, Result, Ok, Err, map, is_ok, nat_le}
use Rattle.semver.proofs.EvalViews.{matches_all-read}
use Rattle.semver.specs.Eval.{matches_all}
use Rattle.semver.specs.Identifiers.{comparator_view, parts_of}
use Rattle.semver.specs.Parse.{IsRefused, is_memory, memory_error, req_of, version_parts}
use Rattle.semver.specs.declared.error.Error.{Error}
use Rattle.versions.proofs.NeverMemory.{NeverMemory, req_of-NeverMemory, version_parts-NeverMemory}
use Rattle.versions.specs.declared.need.TheConstants.{REQUIREMENT_LIMIT}
use Rattle.versions.specs.declared.published.TheConstants.{VERSION_TEXT_LIMIT}
use Rattle.versions.specs.declared.refusal.Refusal.{Refusal}
use Rattle.versions.specs.declared.refusal.Refusal.TheVariants.{BadRequirement, BadVersion, NoMemory}
use Rattle.semver.specs.declared.Comparator.{Comparator}
use Rattle.semver.specs.declared.Version.{Version}
use Rattle.versions.specs.Words.{Text, is_requirement, is_version, meets}

-- what `matches` answers, from the texts
pub meets-read : (requirement version : Text) (cs : List Comparator) (v : Version)
    → req_of requirement ≡ Ok (map comparator_view cs) → version_parts version ≡ Ok (parts_of v)
    → matches_all cs v ≡ meets requirement version
unfolding meets
meets-read requirement version cs v e f = rw (e, f) (matches_all-read cs v _ _ refl refl)

-- ---- how a reader's fault becomes a refusal

err-same : {A E : Type 0} (r : Result A E) (x y : E) → r ≡ Err x → r ≡ Err y → x ≡ y
err-same r x y e f = cc

-- an error that is not of an allocation differs from one that is
not_memory : (e : Error) → is_memory e.kind ≡ false → e ≡ memory_error → ⊥
not_memory e h same = true≢false (sym (ap (λ (f : Error). is_memory f.kind) same) ∙ h)

-- a fault that is told apart from lack of memory is `bad` exactly where the reader refuses the text
pub told_apart : {A T : Type 0} (read : Result A Error) (result : Result T Error) (fault : Error) (answer bad : Refusal) → NeverMemory read → (bad ≡ NoMemory → ⊥)
    → result ≡ Err fault → (fault ≡ memory_error) ⊎ (read ≡ Err fault) → IsRefused read result
    → (fault ≡ memory_error → answer ≡ NoMemory) → ((fault ≡ memory_error → ⊥) → answer ≡ bad)
    → (answer ≡ bad) ↔ (is_ok read ≡ false)
told_apart (Ok x) result fault answer bad never apart is (inl same) refused memory other =
    (λ e. absurd (apart (sym e ∙ memory same)), λ e. absurd (true≢false e))
told_apart (Ok x) result fault answer bad never apart is (inr e) refused memory other = absurd (cc e)
told_apart (Err found) result fault answer bad never apart is how refused memory other =
    (λ e. refl, λ e. other (λ same. not_memory found never (err-same result found fault refused is ∙ same)))

-- the same of a version's text, which is short enough
pub refused_version : {T : Type 0} (text : Text) (result : Result T Error) (fault : Error) (answer : Refusal) → length text ≤ VERSION_TEXT_LIMIT
    → result ≡ Err fault → (fault ≡ memory_error) ⊎ (version_parts text ≡ Err fault) → IsRefused (version_parts text) result
    → (fault ≡ memory_error → answer ≡ NoMemory) → ((fault ≡ memory_error → ⊥) → answer ≡ BadVersion)
    → (answer ≡ BadVersion) ↔ (is_version text ≡ false)
refused_version text result fault answer short is how refused memory other =
    let le : nat_le (length text) VERSION_TEXT_LIMIT ≡ true = search rules in
    let apart : BadVersion ≡ NoMemory → ⊥ = λ e. cc e in
    rw le (told_apart (version_parts text) result fault answer BadVersion (version_parts-NeverMemory text) apart is how refused memory other)

-- the same of a requirement's text
pub refused_requirement : {T : Type 0} (text : Text) (result : Result T Error) (fault : Error) (answer : Refusal) → length text ≤ REQUIREMENT_LIMIT
    → result ≡ Err fault → (fault ≡ memory_error) ⊎ (req_of text ≡ Err fault) → IsRefused (req_of text) result
    → (fault ≡ memory_error → answer ≡ NoMemory) → ((fault ≡ memory_error → ⊥) → answer ≡ BadRequirement)
    → (answer ≡ BadRequirement) ↔ (is_requirement text ≡ false)
refused_requirement text result fault answer short is how refused memory other =
    let le : nat_le (length text) REQUIREMENT_LIMIT ≡ true = search rules in
    let apart : BadRequirement ≡ NoMemory → ⊥ = λ e. cc e in
    rw le (told_apart (req_of text) result fault answer BadRequirement (req_of-NeverMemory text) apart is how refused memory other)
