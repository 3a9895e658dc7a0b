-- What is stored stands at every place.
use Rattle.std.proofs.Common.{◌≡◌, ◌∙◌, ◌-◌, inl, inr, ℕ, Bool, true, false, true≢false, not, List, [], ◌∷◌, ◌++◌, refl, sym, subst, ◌||◌, nat_eq, length}
use Rattle.std.proofs.lemmas.Bool.{and_from, eq-eqb, not-true, or_parts}
use Rattle.std.proofs.lemmas.List.Elements.{All-filter, All-push, All-weaker, filter_passes}
use Rattle.std.specs.Prelude.{All, None, Option, Some, if◌then◌else◌, Ok, Err, Result, OnOk, OnErr}
use Rattle.versions.specs.Words.{Text}
use Rattle.versions.specs.declared.refusal.Refusal.{Refusal}
use Rattle.registry.specs.Registry.{Packages, meets_at, number_of, package_at, versions_or_none}
use Rattle.registry.specs.Step as registry
use Rattle.registry.specs.Step.{Change, Publish, Unyank, Yank, publish, set_yanked, with_versions}
use Rattle.registry.specs.Laws.{MatchingIsWhatMeets, NumbersLast}
use Rattle.derivations.specs.Facts.{Stands}
use Rattle.derivations.specs.Learning.{AllStand, CauseStands, IsLearnt}
use Rattle.store.specs.Laws.{CommandsKeep, LearningKeeps}
use Rattle.store.specs.Stored.{all_stand, cause_is_on, is_on, last_meets, learn_refusal, published, published_if, stored_after}
use Rattle.derivations.specs.Lines.{Cause, Line, Premise}
use Rattle.derivations.specs.declared.facts.Cause.TheVariants as cause
use Rattle.store.proofs.Grown.{Grows, IsLast, Nothing, grows_published, grows_yanked}
use Rattle.store.proofs.Tested.{all_from}

-- ---- premises and lines, where packages grow

Stands-Grows : (old new : Packages) (Fresh : ℕ → ℕ → Type 0) (premise : Premise) → Grows old new Fresh
    → ((k : ℕ) → Fresh premise.target k → meets_at new premise.target k premise.need ≡ true → ⊥) → Stands old premise → Stands new premise
Stands-Grows old new Fresh premise grows apart s = record {
  depends = record {
    different = s.depends.different;
    some = s.depends.some;
    each = λ k h. let d = s.depends.each k h in (d.0, grows.numbers d.0 premise.target d.1, grows.needs premise.package k (d.0, premise.need) d.2);
  };
  covers = λ k m. elim (grows.meets premise.target k premise.need m) [ inl before ↦ s.covers k before | inr fresh ↦ absurd (apart k fresh m) ];
}

-- no premise of the cause is met by a fresh version
abbrev IsApart : (ℕ → ℕ → Type 0) → Packages → Cause → Type 0
IsApart Fresh new (cause.Line n) = Unit {0}
IsApart Fresh new (cause.Premise premise) = (k : ℕ) → Fresh premise.target k → meets_at new premise.target k premise.need ≡ true → ⊥
IsApart Fresh new (cause.Need i) = Unit {0}
IsApart Fresh new (cause.NotAllowed p versions) = Unit {0}
IsApart Fresh new cause.Root = Unit {0}

CauseStands-Grows : (old new : Packages) (Fresh : ℕ → ℕ → Type 0) (c : Cause) → Grows old new Fresh → IsApart Fresh new c → CauseStands old c → CauseStands new c
CauseStands-Grows old new Fresh (cause.Line n) grows apart s = tt
CauseStands-Grows old new Fresh (cause.Premise premise) grows apart s = Stands-Grows old new Fresh premise grows apart s
CauseStands-Grows old new Fresh (cause.Need i) grows apart s = tt
CauseStands-Grows old new Fresh (cause.NotAllowed p versions) grows apart s = tt
CauseStands-Grows old new Fresh cause.Root grows apart s = tt

-- ---- where no version is fresh

apart_nothing : (new : Packages) (Fresh : ℕ → ℕ → Type 0) → ((q k : ℕ) → Fresh q k → ⊥) → (c : Cause) → IsApart Fresh new c
apart_nothing new Fresh none (cause.Line n) = tt
apart_nothing new Fresh none (cause.Premise premise) = λ k fresh m. none premise.target k fresh
apart_nothing new Fresh none (cause.Need i) = tt
apart_nothing new Fresh none (cause.NotAllowed p versions) = tt
apart_nothing new Fresh none cause.Root = tt

AllStand-Grows : (old new : Packages) (Fresh : ℕ → ℕ → Type 0) → Grows old new Fresh → ((q k : ℕ) → Fresh q k → ⊥) → (lines : List Line) → AllStand old lines → AllStand new lines
AllStand-Grows old new Fresh grows none [] s = tt
AllStand-Grows old new Fresh grows none (line ∷ rest) s = (
  CauseStands-Grows old new Fresh line.causes.0 grows (apart_nothing new Fresh none line.causes.0) s.0,
  CauseStands-Grows old new Fresh line.causes.1 grows (apart_nothing new Fresh none line.causes.1) s.1,
  AllStand-Grows old new Fresh grows none rest s.2,
)

-- ---- where the last version of a package is

same_number : (packages : Packages) (name : Text) (p q : ℕ) → number_of packages name ≡ Some p → number_of packages name ≡ Some q → p ≡ q
same_number packages name p q e f = cc

apart_last : (new : Packages) (name : Text) (p : ℕ) → number_of new name ≡ Some p → (c : Cause) → cause_is_on p (last_meets new p) c ≡ false → IsApart (IsLast new name) new c
apart_last new name p number (cause.Line n) e = tt
apart_last new name p number (cause.Premise premise) e = λ k fresh m.
    let same : p ≡ premise.target = same_number new name p premise.target number fresh.number in
    let meeting : last_meets new p premise.need ≡ true =
    subst (λ q. meets_at new q (length (versions_or_none (package_at new q)) - 1) premise.need ≡ true) (sym same)
    (subst (λ j. meets_at new premise.target j premise.need ≡ true) fresh.place m) in
    true≢false (sym (and_from (nat_eq premise.target p) (last_meets new p premise.need) (eq-eqb premise.target p (sym same)) meeting) ∙ e)
apart_last new name p number (cause.Need i) e = tt
apart_last new name p number (cause.NotAllowed q versions) e = tt
apart_last new name p number cause.Root e = tt

AllStand-kept : (old new : Packages) (name : Text) (p : ℕ) → Grows old new (IsLast new name) → number_of new name ≡ Some p → (lines : List Line) → is_on p (last_meets new p) lines ≡ false
    → AllStand old lines → AllStand new lines
AllStand-kept old new name p grows number [] e s = tt
AllStand-kept old new name p grows number (line ∷ rest) e s =
    let parts = or_parts (cause_is_on p (last_meets new p) line.causes.0 || cause_is_on p (last_meets new p) line.causes.1) (is_on p (last_meets new p) rest) e in
    let both = or_parts (cause_is_on p (last_meets new p) line.causes.0) (cause_is_on p (last_meets new p) line.causes.1) parts.0 in (
      CauseStands-Grows old new (IsLast new name) line.causes.0 grows (apart_last new name p number line.causes.0 both.0) s.0,
      CauseStands-Grows old new (IsLast new name) line.causes.1 grows (apart_last new name p number line.causes.1 both.1) s.1,
      AllStand-kept old new name p grows number rest parts.1 s.2,
    )

kept_published : (old new : Packages) (name : Text) → Grows old new (IsLast new name) → (members : List (List Line)) → All (AllStand old) members
    → (o : Option ℕ) → number_of new name ≡ o → All (AllStand new) (published_if new o members)
unfolding published
kept_published old new name grows members stand None e =
    let none : (q k : ℕ) → IsLast new name q k → ⊥ = λ q k fresh. let number = fresh.number in absurd (cc (number, e)) in
    All-weaker (AllStand old) (AllStand new) (AllStand-Grows old new (IsLast new name) grows none) members stand
kept_published old new name grows members stand (Some p) e =
    let test : List Line → Bool = λ lines. not (is_on p (last_meets new p) lines) in
    let passes = filter_passes test members in
    let stood = All-filter test (AllStand old) members stand in
    λ k d lt. AllStand-kept old new name p grows e _ (not-true _ (passes k d lt)) (stood k d lt)

-- ---- the laws

pub commands-keep : NumbersLast → CommandsKeep
unfolding registry.after stored_after
commands-keep lasting packages (Publish name version needs) members accepted stand =
    kept_published packages (publish packages name version needs) name (grows_published lasting packages name version needs) members stand
    (number_of (publish packages name version needs) name) refl
commands-keep lasting packages (Yank name version) members accepted stand =
    All-weaker (AllStand packages) (AllStand (with_versions name (set_yanked version true) packages))
    (AllStand-Grows packages (with_versions name (set_yanked version true) packages) Nothing (grows_yanked packages name version true) (λ q k f. f)) members stand
commands-keep lasting packages (Unyank name version) members accepted stand =
    All-weaker (AllStand packages) (AllStand (with_versions name (set_yanked version false) packages))
    (AllStand-Grows packages (with_versions name (set_yanked version false) packages) Nothing (grows_yanked packages name version false) (λ q k f. f)) members stand

-- what has no refusal stands
not_stale : (a : Bool) (r : Refusal) (o : Option Refusal) → (if not a then Some r else o) ≡ None → a ≡ true
not_stale true r o e = refl
not_stale false r o e = absurd (cc e)

pub learnt_stand : MatchingIsWhatMeets → (packages : Packages) (members : List (List Line)) (lines : List Line) → learn_refusal packages members lines ≡ None → AllStand packages lines
unfolding learn_refusal
learnt_stand matched packages members lines accepted = all_from matched packages lines (not_stale (all_stand packages lines) _ _ accepted)

pub learning-keeps : MatchingIsWhatMeets → LearningKeeps
learning-keeps matched packages members lines accepted stand = All-push (AllStand packages) members lines stand (learnt_stand matched packages members lines accepted)

-- told of what a store has before and after
pub followed-stand : CommandsKeep → (old new : Packages) (change : Change) (before kept : List (List Line)) → kept ≡ stored_after new change before → registry.refusal_of old change ≡ None → new ≡ registry.after old change
    → All (AllStand old) before → All (AllStand new) kept
followed-stand keeps old new change before kept is accepted e stand =
    subst (λ (l : List (List Line)). All (AllStand new) l) (sym is)
    (subst (λ (p : Packages). All (AllStand p) (stored_after p change before)) (sym e) (keeps old change before accepted stand))

pub learned-stand : LearningKeeps → {A E : Type 0} (r : Result A E) (packages : Packages) (before kept : List (List Line)) (lines : List Line) → OnOk r (learn_refusal packages before lines ≡ None)
    → OnOk r (kept ≡ before ++ lines ∷ []) → OnErr r (kept ≡ before) → All (AllStand packages) before → All (AllStand packages) kept
learned-stand keeps (Ok x) packages before kept lines accepted is same stand =
    subst (λ (l : List (List Line)). All (AllStand packages) l) (sym is) (keeps packages before lines accepted stand)
learned-stand keeps (Err e) packages before kept lines accepted is same stand = subst (λ (l : List (List Line)). All (AllStand packages) l) (sym same) stand

-- ---- what is learnt

pub learnt_after : (packages : Packages) (change : Change) (members : List (List Line)) → All IsLearnt members → All IsLearnt (stored_after packages change members)
unfolding stored_after published
learnt_after packages (Publish name version needs) members learnt = by (number_of packages name)
  where
    by : (o : Option ℕ) → All IsLearnt (published_if packages o members)
    by None = learnt
    by (Some p) = All-filter (λ (lines : List Line). not (is_on p (last_meets packages p) lines)) IsLearnt members learnt
learnt_after packages (Yank name version) members learnt = learnt
learnt_after packages (Unyank name version) members learnt = learnt
