-- Which members rest on a package, and what a publication drops.
use Rattle.std.proofs.Common.{◌≡◌, ◌∙◌, ◌-◌, inl, inr, ℕ, ◌&&◌, ◌||◌, Bool, true, true≢false, false, not, List, [], ◌∷◌, ◌++◌, length, get_or, refl, sym, ap, nat_eq}
use Rattle.std.proofs.lemmas.Bool.{cases_Bool, and_left, and_parts, and_right, eqb-true, or_from, or_parts}
use Rattle.std.proofs.lemmas.List.Elements.{All-head, All-tail, filter_agree}
use Rattle.std.proofs.lemmas.List.Folds.{list_any-append}
use Rattle.std.specs.Prelude.{All, None, Option, Some, cond, filter}
use Rattle.versions.specs.Words.{Text, meets}
use Rattle.terms.specs.Sets.{has}
use Rattle.registry.specs.Registry.{Packages, Publication, meets_at, package_at, publication_at, publication_meets, versions_or_none}
use Rattle.derivations.specs.Learning.{target_of, targets_of}
use Rattle.store.specs.Slots.{is_met}
use Rattle.store.specs.Stored.{cause_is_on, is_on, last_meets, published}
use Rattle.store.specs.RequirementIndex.{CauseRests, Rests}
use Rattle.derivations.specs.Lines.{Cause, Line}
use Rattle.derivations.specs.declared.facts.Cause.TheVariants as cause

-- whether a version meets the requirement is read from its text
meets_read : (packages : Packages) (q k : ℕ) (need : Text) (publication : Publication) → publication_at packages q k ≡ Some publication → meets_at packages q k need ≡ meets need publication.version
meets_read packages q k need publication at = ap (λ (o : Option Publication). publication_meets o need) at

-- ---- targets

has-append : (xs ys : List ℕ) (k : ℕ) → has (xs ++ ys) k ≡ (has xs k || has ys k)
has-append xs ys k = list_any-append (λ x. nat_eq x k) xs ys

cause_apart : (p : ℕ) (test : Text → Bool) (c : Cause) → has (target_of c) p ≡ false → cause_is_on p test c ≡ false
cause_apart p test (cause.Line n) e = refl
cause_apart p test (cause.Premise premise) e = let parts = or_parts (nat_eq premise.target p) false e in and_left (nat_eq premise.target p) (test premise.need) parts.0
cause_apart p test (cause.Need i) e = refl
cause_apart p test (cause.NotAllowed q versions) e = refl
cause_apart p test cause.Root e = refl

-- lines that do not rest on the package have no premise on it
pub apart_on : (p : ℕ) (test : Text → Bool) (lines : List Line) → has (targets_of lines) p ≡ false → is_on p test lines ≡ false
apart_on p test [] e = refl
apart_on p test (line ∷ rest) e =
    let all = or_parts (has (target_of line.causes.0 ++ target_of line.causes.1) p) (has (targets_of rest) p) (sym (has-append (target_of line.causes.0 ++ target_of line.causes.1) (targets_of rest) p) ∙ e) in
    let both = or_parts (has (target_of line.causes.0) p) (has (target_of line.causes.1) p) (sym (has-append (target_of line.causes.0) (target_of line.causes.1) p) ∙ all.0) in
    or_from (cause_is_on p test line.causes.0 || cause_is_on p test line.causes.1) (is_on p test rest)
    (or_from (cause_is_on p test line.causes.0) (cause_is_on p test line.causes.1) (cause_apart p test line.causes.0 both.0) (cause_apart p test line.causes.1 both.1))
    (apart_on p test rest all.1)

-- ---- what lines rest on

cause_met : (p : ℕ) (version : Text) (c : Cause) → cause_is_on p (λ need. meets need version) c ≡ true → (need : Text) × CauseRests c p need × (meets need version ≡ true)
cause_met p version (cause.Line n) e = absurd (true≢false (sym e))
cause_met p version (cause.Premise premise) e =
    let parts = and_parts (nat_eq premise.target p) (meets premise.need version) e in
    (premise.need, (eqb-true premise.target p parts.0, refl), parts.1)
cause_met p version (cause.Need i) e = absurd (true≢false (sym e))
cause_met p version (cause.NotAllowed q versions) e = absurd (true≢false (sym e))
cause_met p version cause.Root e = absurd (true≢false (sym e))

-- lines that are met rest on a requirement on the package that the version meets
pub met-rests : (p : ℕ) (version : Text) (lines : List Line) → is_met p version lines ≡ true → (need : Text) × Rests lines p need × (meets need version ≡ true)
met-rests p version [] e = absurd (true≢false (sym e))
met-rests p version (line ∷ rest) e =
    let test : Cause → Bool = cause_is_on p (λ need. meets need version) in
    elim (cases_Bool (test line.causes.0)) [
      | inl one ↦ let m = cause_met p version line.causes.0 one in (m.0, inl m.1, m.2)
      | inr not_one ↦ elim (cases_Bool (test line.causes.1)) [
        | inl two ↦ let m = cause_met p version line.causes.1 two in (m.0, inr (inl m.1), m.2)
        | inr not_two ↦
            let left : is_met p version rest ≡ true = sym (ap (λ b. (b || test line.causes.1) || is_met p version rest) not_one ∙ ap (λ b. b || is_met p version rest) not_two) ∙ e in
            let m = met-rests p version rest left in
            (m.0, inr (inr m.1), m.2)
      ]
    ]

-- ---- tests that agree

cause_agree : (p : ℕ) (test other : Text → Bool) → ((need : Text) → test need ≡ other need) → (c : Cause) → cause_is_on p test c ≡ cause_is_on p other c
cause_agree p test other same (cause.Line n) = refl
cause_agree p test other same (cause.Premise premise) = ap (λ b. nat_eq premise.target p && b) (same premise.need)
cause_agree p test other same (cause.Need i) = refl
cause_agree p test other same (cause.NotAllowed q versions) = refl
cause_agree p test other same cause.Root = refl

on_agree : (p : ℕ) (test other : Text → Bool) → ((need : Text) → test need ≡ other need) → (lines : List Line) → is_on p test lines ≡ is_on p other lines
on_agree p test other same [] = refl
on_agree p test other same (line ∷ rest) =
    ap (λ b. (b || cause_is_on p test line.causes.1) || is_on p test rest) (cause_agree p test other same line.causes.0)
    ∙ ap (λ b. (cause_is_on p other line.causes.0 || b) || is_on p test rest) (cause_agree p test other same line.causes.1)
    ∙ ap (λ b. (cause_is_on p other line.causes.0 || cause_is_on p other line.causes.1) || b) (on_agree p test other same rest)

-- ---- what a publication drops

kept_all : (test : List Line → Bool) (members : List (List Line)) → All (λ (lines : List Line). test lines ≡ false) members → filter (λ lines. not (test lines)) members ≡ members
kept_all test [] none = refl
kept_all test (x ∷ rest) none =
    ap (λ b. cond (not b) (x ∷ filter (λ lines. not (test lines)) rest) (filter (λ lines. not (test lines)) rest)) (All-head (λ (lines : List Line). test lines ≡ false) x rest none)
    ∙ ap (λ l. x ∷ l) (kept_all test rest (All-tail (λ (lines : List Line). test lines ≡ false) x rest none))

-- a test that nothing passes finds nothing
no_test : (p : ℕ) (test : Text → Bool) → ((need : Text) → test need ≡ false) → (lines : List Line) → is_on p test lines ≡ false
no_test p test none lines = on_agree p test (λ need. false) none lines ∙ never lines
  where
    never_cause : (c : Cause) → cause_is_on p (λ need. false) c ≡ false
    never_cause (cause.Line n) = refl
    never_cause (cause.Premise premise) = and_right (nat_eq premise.target p) false refl
    never_cause (cause.Need i) = refl
    never_cause (cause.NotAllowed q versions) = refl
    never_cause cause.Root = refl

    never : (lines : List Line) → is_on p (λ need. false) lines ≡ false
    never [] = refl
    never (line ∷ rest) =
        or_from (cause_is_on p (λ need. false) line.causes.0 || cause_is_on p (λ need. false) line.causes.1) (is_on p (λ need. false) rest)
        (or_from (cause_is_on p (λ need. false) line.causes.0) (cause_is_on p (λ need. false) line.causes.1) (never_cause line.causes.0) (never_cause line.causes.1))
        (never rest)

-- nothing, where nothing is published of it
pub published-none : (packages : Packages) (p : ℕ) (members : List (List Line)) → ((need : Text) → last_meets packages p need ≡ false) → published packages p members ≡ members
unfolding published
published-none packages p members none =
    kept_all (is_on p (last_meets packages p)) members (All-from_each members)
  where
    All-from_each : (members : List (List Line)) → All (λ (lines : List Line). is_on p (last_meets packages p) lines ≡ false) members
    All-from_each members = λ k d lt. no_test p (last_meets packages p) none (get_or members k d)

-- else what the last version's text says
pub published-by : (packages : Packages) (p : ℕ) (version : Text) (members kept : List (List Line)) → ((need : Text) → last_meets packages p need ≡ meets need version)
    → kept ≡ filter (λ lines. not (is_on p (λ need. meets need version) lines)) members → kept ≡ published packages p members
unfolding published
published-by packages p version members kept same e =
    e ∙ filter_agree (λ lines. not (is_on p (λ need. meets need version) lines)) (λ lines. not (is_on p (last_meets packages p) lines))
    (λ lines. ap not (on_agree p (λ need. meets need version) (last_meets packages p) (λ need. sym (same need)) lines)) members

-- ---- the last version

pub last-read : (packages : Packages) (p k : ℕ) (publication : Publication) → k ≡ length (versions_or_none (package_at packages p)) - 1 → publication_at packages p k ≡ Some publication
    → (need : Text) → last_meets packages p need ≡ meets need publication.version
last-read packages p k publication e at need = ap (λ j. meets_at packages p j need) (sym e) ∙ meets_read packages p k need publication at

pub last-none : (packages : Packages) (p k : ℕ) → k ≡ length (versions_or_none (package_at packages p)) - 1 → publication_at packages p k ≡ None → (need : Text) → last_meets packages p need ≡ false
last-none packages p k e none need = ap (λ j. meets_at packages p j need) (sym e) ∙ ap (λ (o : Option Publication). publication_meets o need) none
