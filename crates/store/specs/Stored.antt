-- The store of what was learnt, and what learning and publications do to it.
use Rattle.std.specs.Prelude.{◌-◌, ℕ, ◌&&◌, ◌||◌, Bool, true, false, not, List, [], ◌∷◌, Option, None, Some, filter, length, nat_eq, nat_le}
use Rattle.std.specs.Cmp.Lexicographic.{pointwise}
use Rattle.std.specs.List.{list_all, list_any}
use Rattle.std.specs.Str.{bytes_eq}
use Rattle.versions.specs.Words.{Text, meets}
use Rattle.versions.specs.declared.refusal.Refusal.{Refusal}
use Rattle.versions.specs.declared.refusal.Refusal.TheVariants as refusal
use Rattle.terms.specs.Sets.{has}
use Rattle.terms.specs.declared.term.Term.{Term}
use Rattle.terms.specs.declared.term.Term.TheVariants.{In, NotIn}
use Rattle.registry.specs.Registry.{Packages, matching, meets_at, needs_of, number_of, package_at, versions_or_none}
use Rattle.registry.specs.Step.{Change, Publish, Unyank, Yank, first_that_holds}
use Rattle.derivations.specs.Facts.{Terms}
use Rattle.derivations.specs.Derivations.{last_conclusion}
use Rattle.derivations.specs.Lines.{Cause, Line, Premise}
use Rattle.derivations.specs.declared.facts.Cause.TheVariants as cause
use Rattle.store.specs.declared.store.TheConstants.{STORE_LIMIT}

-- what is stored, each with its lines, in order of learning, and how many more take no memory
pub record Stored : Type 0 where
  pub members : List (List Line)
  pub room : ℕ

-- ---- whether premises stand, as a test

abbrev pub is_number : Option ℕ → ℕ → Bool
is_number None n = false
is_number (Some m) n = nat_eq m n

-- whether one of these needs is on the target, with this requirement
abbrev pub has_need : Packages → List (Text × Text) → ℕ → Text → Bool
has_need packages needs target need = list_any (λ (d : Text × Text). is_number (number_of packages d.0) target && bytes_eq d.1 need) needs

-- whether the premise stands
unfoldable pub stands : Packages → Premise → Bool
stands packages premise =
    not (nat_eq premise.package premise.target) && (not (nat_eq (length premise.versions) 0)
    && (list_all (λ k. has_need packages (needs_of packages premise.package k) premise.target premise.need) premise.versions
    && list_all (λ k. has premise.within k) (matching packages premise.target premise.need)))

-- whether the premise stands, where the cause is one
abbrev pub cause_stands : Packages → Cause → Bool
cause_stands packages (cause.Line n) = true
cause_stands packages (cause.Premise premise) = stands packages premise
cause_stands packages (cause.Need i) = true
cause_stands packages (cause.NotAllowed p versions) = true
cause_stands packages cause.Root = true

-- whether each premise of the lines stands
abbrev pub all_stand : Packages → List Line → Bool
all_stand packages lines = list_all (λ (line : Line). cause_stands packages line.causes.0 && cause_stands packages line.causes.1) lines

-- ---- what is learnt

abbrev pub same_term : Term → Term → Bool
same_term (In set) (In other) = pointwise nat_eq set other
same_term (In set) (NotIn other) = false
same_term (NotIn set) (In other) = false
same_term (NotIn set) (NotIn other) = pointwise nat_eq set other

abbrev pub same_on : ℕ × Term → ℕ × Term → Bool
same_on s t = nat_eq s.0 t.0 && same_term s.1 t.1

-- whether these are the same terms
abbrev pub same_terms : Terms → Terms → Bool
same_terms = pointwise same_on

abbrev pub terms_or_none : Option Terms → Terms
terms_or_none None = []
terms_or_none (Some terms) = terms

-- what the last line says
abbrev pub conclusion_of : List Line → Terms
conclusion_of lines = terms_or_none (last_conclusion lines)

-- whether a member concludes these terms
unfoldable pub has_conclusion : List (List Line) → Terms → Bool
has_conclusion members terms = list_any (λ member. same_terms (conclusion_of member) terms) members

-- whether a member concludes what the lines do
abbrev pub is_stored : List (List Line) → List Line → Bool
is_stored members lines = has_conclusion members (conclusion_of lines)

-- the lowest refusal of what is to be learnt: each premise stands, its conclusion is not stored, and at most STORE_LIMIT are stored
unfoldable pub learn_refusal : Packages → List (List Line) → List Line → Option Refusal
learn_refusal packages members lines = first_that_holds (
    (not (all_stand packages lines), refusal.Stale)
    ∷ (is_stored members lines, refusal.Known)
    ∷ (nat_le STORE_LIMIT (length members), refusal.StoreFull)
    ∷ [])

-- ---- after a publication

-- whether the version that the package published last meets the requirement
abbrev pub last_meets : Packages → ℕ → Text → Bool
last_meets packages p need = meets_at packages p (length (versions_or_none (package_at packages p)) - 1) need

-- whether a version, if there is one, meets the requirement
abbrev pub meets_some : Option Text → Text → Bool
meets_some None need = false
meets_some (Some version) need = meets need version

-- whether the cause is a premise with this target whose requirement passes the test
abbrev pub cause_is_on : ℕ → (Text → Bool) → Cause → Bool
cause_is_on p test (cause.Line n) = false
cause_is_on p test (cause.Premise premise) = nat_eq premise.target p && test premise.need
cause_is_on p test (cause.Need i) = false
cause_is_on p test (cause.NotAllowed q versions) = false
cause_is_on p test cause.Root = false

-- whether the lines have such a premise
abbrev pub is_on : ℕ → (Text → Bool) → List Line → Bool
is_on p test lines = list_any (λ (line : Line). cause_is_on p test line.causes.0 || cause_is_on p test line.causes.1) lines

-- the members after a publication of this package: without each that has a premise on it whose requirement the new version meets
unfoldable pub published : Packages → ℕ → List (List Line) → List (List Line)
published packages p members = filter (λ lines. not (is_on p (last_meets packages p) lines)) members

-- the same where the package has a number
abbrev pub published_if : Packages → Option ℕ → List (List Line) → List (List Line)
published_if packages None members = members
published_if packages (Some p) members = published packages p members

-- the members after an accepted command, which left these packages
unfoldable pub stored_after : Packages → Change → List (List Line) → List (List Line)
stored_after packages (Publish name version needs) members = published_if packages (number_of packages name) members
stored_after packages (Yank name version) members = members
stored_after packages (Unyank name version) members = members
